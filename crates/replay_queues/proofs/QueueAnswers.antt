-- What S3-FIFO keeps, by the fields.
use Rattle.std.proofs.Common.{◌≡◌, ℕ, zero, suc, ◌+◌, ◌-◌, ◌<◌, ◌≤◌, ◌^◌, ◌∙◌, sym, refl, ap, subst, Bool, true, false, ◌||◌, eqb, List, [], ◌∷◌, ◌++◌, length, drop, get_or, set, arith}
use Rattle.std.proofs.lemmas.Bool.{eqb-true, or_parts, leb-true}
use Rattle.std.proofs.lemmas.List.{length-set}
use Rattle.std.proofs.lemmas.List.Sums.{sum_by-cons}
use Rattle.policy_model.specs.States.{Member, Entry, member, members_size, has_member, has_entry, Apart}
use Rattle.policy_model.specs.S3Fifo.{Queues, fade, shrink_main, turns_of, shrink, queues_used}
use Rattle.policy_model.specs.Leaving.{without_member, queues_without}
use Rattle.policy_model.specs.Steps.{until_fits}
use Rattle.policy_model.proofs.Parts.{until-turn}
use Rattle.policy_model.proofs.S3FifoSound.{turns_left, shrink-ends}
use Rattle.replay_queues.specs.declared.three_queues.ThreeQueues.{ThreeQueues}
use Rattle.replay_queues.specs.Items.{has_item, items_of}
use Rattle.replay_queues.specs.ThreeParts.{Parted, parts_without, parts_size}
use Rattle.replay_queues.specs.SmallAndMain.{is_kept, counted_entry, queues_by, queues_at, AreQueued, IsFading, IsQueued}
use Rattle.replay_queues.proofs.ItemLemmas.{item_bytes, has_entry-append}
use Rattle.replay_queues.proofs.LineLemmas.{has_item-of, members-but-none, item_bytes-of}
use Rattle.replay_queues.proofs.QueueLemmas.{counted, counted-bytes, counted-items, queue-bytes, not_ghost, faded-small, faded-main, faded-queued, fade-more, dropped-turn, backed-turn, backed-turns}
use Rattle.replay_queues.proofs.QueueLeavings.{gone-queued, gone-queues}

-- the facts, from those of the parts
pub is_fading : (t : ThreeQueues) → AreQueued t.table (items_of t.parts.small) (items_of t.parts.main) t.parts.ghosts → t.small_used ≡ item_bytes (items_of t.parts.small) → t.ghosts_used ≡ members_size t.parts.ghosts → length t.table ≡ t.parts.objects
    → IsFading t
is_fading t are bytes ghosts each = record { are = are; small_is = bytes ∙ sym (counted-bytes t.table (items_of t.parts.small)); ghosts_are = ghosts; each_object = each }

pub small-bytes : (t : ThreeQueues) → IsFading t → t.small_used ≡ item_bytes (items_of t.parts.small)
small-bytes t fading = fading.small_is ∙ counted-bytes t.table (items_of t.parts.small)

-- what a byte and ghosts that change come to
pub queued-as : (cells after : List ℕ) (small main small_is main_is : List (ℕ × ℕ)) (ghosts ghosts_are : List Member) → after ≡ cells → small_is ≡ small → main_is ≡ main → ghosts_are ≡ ghosts → AreQueued cells small main ghosts → AreQueued after small_is main_is ghosts_are
queued-as cells after small main small_is main_is ghosts ghosts_are c s m g queued =
    subst (λ x. AreQueued x small_is main_is ghosts_are) (sym c) (subst (λ x. AreQueued cells x main_is ghosts_are) (sym s) (subst (λ x. AreQueued cells small x ghosts_are) (sym m) (subst (AreQueued cells small main) (sym g) queued)))

-- ---- the first ghost fades
module _ (cells : List ℕ) (small main : List (ℕ × ℕ)) where
  pub fade-queued : (ghosts : List Member) (k : ℕ) → AreQueued cells small main ghosts → 0 < length ghosts → k ≡ (get_or ghosts 0 (member 0 0)).object → has_member (drop 1 ghosts) k ≡ false → AreQueued (set cells k 0) small main (drop 1 ghosts)
  fade-queued [] k queued some first once = absurd (omega arith)
  fade-queued (g ∷ rest) k queued some first once = subst (λ j. AreQueued (set cells j 0) small main rest) (sym first) (faded-queued cells small main g rest queued (ap (has_member rest) (sym first) ∙ once))

  pub fade-small : (ghosts : List Member) (k : ℕ) → AreQueued cells small main ghosts → 0 < length ghosts → k ≡ (get_or ghosts 0 (member 0 0)).object → counted (set cells k 0) small ≡ counted cells small
  fade-small [] k queued some first = absurd (omega arith)
  fade-small (g ∷ rest) k queued some first = ap (λ j. counted (set cells j 0) small) first ∙ faded-small cells small main g rest queued

  pub fade-main : (ghosts : List Member) (k : ℕ) → AreQueued cells small main ghosts → 0 < length ghosts → k ≡ (get_or ghosts 0 (member 0 0)).object → counted (set cells k 0) main ≡ counted cells main
  fade-main [] k queued some first = absurd (omega arith)
  fade-main (g ∷ rest) k queued some first = ap (λ j. counted (set cells j 0) main) first ∙ faded-main cells small main g rest queued

pub fade-turn : (most : ℕ) (ghosts : List Member) → most < members_size ghosts → fade most (drop 1 ghosts) ≡ fade most ghosts
fade-turn most [] many = absurd (omega arith)
fade-turn most (g ∷ rest) many = sym (fade-more most g rest many)

pub some-ghost : (most : ℕ) (ghosts : List Member) → most < members_size ghosts → 0 < length ghosts
some-ghost most [] many = absurd (omega arith)
some-ghost most (g ∷ rest) many = omega arith

-- ---- a turn of the main queue
some-turns : (p : ℕ × ℕ) (rest : List (ℕ × ℕ)) (cells : List ℕ) (n : ℕ) → turns_of (counted cells (p ∷ rest)) ≤ n → (m : ℕ) × (n ≡ suc m)
some-turns p rest cells zero few = absurd (omega (arith, sum_by-cons (λ (e : Entry). e.count + 1) (counted_entry (get_or cells p.0 0) p) (counted cells rest)))
some-turns p rest cells (suc m) few = (m, refl)

module _ (cells : List ℕ) (small : List (ℕ × ℕ)) (p : ℕ × ℕ) (rest : List (ℕ × ℕ)) (ghosts : List Member) (queued : AreQueued cells small (p ∷ rest) ghosts) where
  pub main-last : (main : List Entry) (n : ℕ) (target : List Entry) → main ≡ counted cells (p ∷ rest) → get_or cells p.0 0 ≤ 2 → turns_of main ≤ n → shrink_main n main ≡ target → counted (set cells p.0 0) rest ≡ target
  main-last main n target is low few shrinks =
      let some : (m : ℕ) × (n ≡ suc m) = some-turns p rest cells n (subst (λ es. turns_of es ≤ n) is few) in
      sym (dropped-turn cells small p rest ghosts queued some.0 low) ∙ ap (λ j. shrink_main j (counted cells (p ∷ rest))) (sym some.1) ∙ ap (shrink_main n) (sym is) ∙ shrinks

  module _ (hit : 2 < get_or cells p.0 0) (items : List (ℕ × ℕ)) (items_are : items ≡ p ∷ rest) (after : List (ℕ × ℕ)) (changed : List ℕ) (changed_is : changed ≡ set cells p.0 (get_or cells p.0 0 - 1)) (after_is : after ≡ rest ++ p ∷ []) where
    main_is : counted changed after ≡ counted (set cells p.0 (get_or cells p.0 0 - 1)) (rest ++ p ∷ [])
    main_is = ap (λ x. counted x after) changed_is ∙ ap (counted (set cells p.0 (get_or cells p.0 0 - 1))) after_is

    pub main-less : turns_of (counted changed after) < turns_of (counted cells items)
    main-less = omega (arith, ap turns_of main_is, ap (λ xs. turns_of (counted cells xs)) items_are, backed-turns cells small p rest ghosts queued hit)

    pub main-next : (n : ℕ) (target : List Entry) → turns_of (counted cells items) ≤ n → shrink_main n (counted cells items) ≡ target → (m : ℕ) × (turns_of (counted changed after) ≤ m) × (shrink_main m (counted changed after) ≡ target)
    main-next n target few shrinks =
        let some : (m : ℕ) × (n ≡ suc m) = some-turns p rest cells n (subst (λ xs. turns_of (counted cells xs) ≤ n) items_are few) in (
          some.0,
          omega (arith, some.1, few, main-less),
          ap (shrink_main some.0) main_is ∙ sym (backed-turn cells small p rest ghosts queued some.0 hit) ∙ ap (λ j. shrink_main j (counted cells (p ∷ rest))) (sym some.1)
              ∙ ap (λ xs. shrink_main n (counted cells xs)) (sym items_are) ∙ shrinks,
        )

pub main-end : (n : ℕ) (main target : List Entry) → main ≡ [] → shrink_main n main ≡ target → [] ≡ target
main-end zero main target none shrinks = sym none ∙ shrinks
main-end (suc n) main target none shrinks = ap (shrink_main (suc n)) (sym none) ∙ shrinks

-- one turn of those that make room
pub shrink_step : (capacity size n : ℕ) (q after target : Queues) → after ≡ shrink capacity q → capacity < queues_used q + size → 0 < queues_used q → turns_left capacity q ≤ n → until_fits (shrink capacity) queues_used capacity size n q ≡ target
    → (m : ℕ) × (turns_left capacity after ≤ m) × (until_fits (shrink capacity) queues_used capacity size m after ≡ target)
shrink_step capacity size n q after target is full some few room =
    let later : (m : ℕ) × (turns_left capacity (shrink capacity q) ≤ m) × (until_fits (shrink capacity) queues_used capacity size m (shrink capacity q) ≡ target) =
    until-turn (shrink capacity) queues_used capacity size (turns_left capacity) (shrink-ends capacity) n q target full some few room in
    (later.0, subst (λ (r : Queues). turns_left capacity r ≤ later.0) (sym is) later.1, ap (until_fits (shrink capacity) queues_used capacity size later.0) is ∙ later.2)

-- ---- a queue that had none to give
pub same-small : (old new : Parted) → new ≡ record old { small = drop 1 old.small } → old.small ≡ [] → new ≡ old
same-small old new rest none = rest ∙ ap (λ ms. record old { small = drop 1 ms }) none ∙ ap (λ ms. record old { small = ms }) (sym none)

pub same-main : (old new : Parted) → new ≡ record old { main = drop 1 old.main } → old.main ≡ [] → new ≡ old
same-main old new rest none = rest ∙ ap (λ ms. record old { main = drop 1 ms }) none ∙ ap (λ ms. record old { main = ms }) (sym none)

-- ---- an object that is not held
module _ (t : ThreeQueues) (queued : IsQueued t) (k : ℕ) where
  pub not-in : is_kept (get_or t.table k 0) ≡ false → (has_member t.parts.small k ≡ false) × (has_member t.parts.main k ≡ false)
  not-in absent =
      let parts : (has_item (items_of t.parts.small) k ≡ false) × (has_item (items_of t.parts.main) k ≡ false) = or_parts _ _ (sym (queued.fading.are.known k) ∙ absent) in
      (sym (has_item-of t.parts.small k) ∙ parts.0, sym (has_item-of t.parts.main k) ∙ parts.1)

  -- and of one that is
  pub kept-in : is_kept (get_or t.table k 0) ≡ true → (has_member t.parts.small k || has_member t.parts.main k) ≡ true
  kept-in there = ap (λ b. b || has_member t.parts.main k) (sym (has_item-of t.parts.small k)) ∙ ap (λ b. has_item (items_of t.parts.small) k || b) (sym (has_item-of t.parts.main k)) ∙ sym (queued.fading.are.known k) ∙ there

  pub no-ghost : is_kept (get_or t.table k 0) ≡ true → has_member t.parts.ghosts k ≡ false
  no-ghost there = sym (queued.fading.are.gone k) ∙ not_ghost (get_or t.table k 0) (leb-true 2 (get_or t.table k 0) there)

-- an entry of the first part is not in the second
apart-from-first : (xs ys : List Entry) (k : ℕ) → Apart (xs ++ ys) → has_entry xs k ≡ true → has_entry ys k ≡ false
apart-from-first [] ys k apart there = cc
apart-from-first (x ∷ xs) ys k apart there = at (eqb x.object k) refl (apart-from-first xs ys k apart.1)
  where
    at : (b : Bool) → eqb x.object k ≡ b → (has_entry xs k ≡ true → has_entry ys k ≡ false) → has_entry ys k ≡ false
    at true e more = ap (has_entry ys) (sym (eqb-true x.object k e)) ∙ (or_parts _ _ (sym (has_entry-append xs ys x.object) ∙ apart.0)).1
    at false e more = more (ap (λ b. b || has_entry xs k) (sym e) ∙ there)

-- ---- an object that is let go of
module _ (t : ThreeQueues) (queued : IsQueued t) (k : ℕ) (there : is_kept (get_or t.table k 0) ≡ true) (n : Parted) (rest : n ≡ parts_without k t.parts) (cells : List ℕ) (cells_are : cells ≡ set t.table k 0) where
  small_now : n.small ≡ without_member k t.parts.small
  small_now = ap (λ (x : Parted). x.small) rest

  main_now : n.main ≡ without_member k t.parts.main
  main_now = ap (λ (x : Parted). x.main) rest

  ghosts_now : n.ghosts ≡ t.parts.ghosts
  ghosts_now = ap (λ (x : Parted). x.ghosts) rest ∙ members-but-none k t.parts.ghosts (no-ghost t queued k there)

  pub gone-are : queues_by cells (items_of n.small) (items_of n.main) n.ghosts ≡ queues_without k (queues_at t)
  gone-are =
      ap (λ cs. queues_by cs (items_of n.small) (items_of n.main) n.ghosts) cells_are
      ∙ ap (λ ms. queues_by (set t.table k 0) (items_of ms) (items_of n.main) n.ghosts) small_now
      ∙ ap (λ ms. queues_by (set t.table k 0) (items_of (without_member k t.parts.small)) (items_of ms) n.ghosts) main_now
      ∙ ap (queues_by (set t.table k 0) (items_of (without_member k t.parts.small)) (items_of (without_member k t.parts.main))) ghosts_now
      ∙ gone-queues t.table t.parts.small t.parts.main t.parts.ghosts queued.fading.are k there

  pub gone-is : (small_used : ℕ) → small_used ≡ members_size n.small → IsQueued (record { parts = n; table = cells; small_used = small_used; ghosts_used = t.ghosts_used })
  gone-is small_used counted_is = record {
    fading = is_fading (record { parts = n; table = cells; small_used = small_used; ghosts_used = t.ghosts_used })
        (queued-as (set t.table k 0) cells (items_of (without_member k t.parts.small)) (items_of (without_member k t.parts.main)) (items_of n.small) (items_of n.main) t.parts.ghosts n.ghosts
        cells_are (ap items_of small_now) (ap items_of main_now) ghosts_now (gone-queued t.table t.parts.small t.parts.main t.parts.ghosts queued.fading.are k there))
        (counted_is ∙ sym (item_bytes-of n.small))
        (queued.fading.ghosts_are ∙ ap members_size (sym ghosts_now))
        (ap length cells_are ∙ length-set t.table k 0 ∙ queued.fading.each_object ∙ sym (ap (λ (x : Parted). x.objects) rest));
    few = subst (λ ms. members_size ms ≤ 2 ^ 56) (sym ghosts_now) queued.few;
  }

  pub small-stays : has_member t.parts.small k ≡ false → t.small_used ≡ members_size n.small
  small-stays none = small-bytes t queued.fading ∙ item_bytes-of t.parts.small ∙ ap members_size (sym (small_now ∙ members-but-none k t.parts.small none))

  module _ (size : ℕ) (sizes : parts_size n + size ≡ parts_size t.parts) where
    pub gone-freed : queues_used (queues_by cells (items_of n.small) (items_of n.main) n.ghosts) + size ≡ queues_used (queues_at t)
    gone-freed =
        omega (
          arith,
          sizes,
          ap members_size ghosts_now,
          queue-bytes cells (items_of n.small) (items_of n.main) n.ghosts,
          queue-bytes t.table (items_of t.parts.small) (items_of t.parts.main) t.parts.ghosts,
          item_bytes-of n.small,
          item_bytes-of n.main,
          item_bytes-of t.parts.small,
          item_bytes-of t.parts.main,
        )

    pub small-less : has_member t.parts.small k ≡ true → members_size n.small + size ≡ t.small_used
    small-less small =
        let in_small : has_entry (counted t.table (items_of t.parts.small)) k ≡ true = counted-items t.table (items_of t.parts.small) k ∙ has_item-of t.parts.small k ∙ small in
        let out_of_main : has_member t.parts.main k ≡ false =
        sym (has_item-of t.parts.main k) ∙ sym (counted-items t.table (items_of t.parts.main) k)
        ∙ apart-from-first (counted t.table (items_of t.parts.small)) (counted t.table (items_of t.parts.main)) k queued.fading.are.apart in_small in
        omega (
          arith,
          sizes,
          ap members_size ghosts_now,
          ap members_size (main_now ∙ members-but-none k t.parts.main out_of_main),
          small-bytes t queued.fading,
          item_bytes-of t.parts.small,
        )

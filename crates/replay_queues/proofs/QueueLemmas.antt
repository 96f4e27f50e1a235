-- The queues of S3-FIFO, as objects leave one and come into another.
use Rattle.std.proofs.Common.{◌≡◌, ℕ, suc, ◌+◌, ◌-◌, ◌<◌, ◌≤◌, ◌∙◌, sym, refl, ap, Bool, true, false, not, ◌||◌, cond, eqb, leb, List, [], ◌∷◌, ◌++◌, length, filter, min, get_or, set, sum_by, arith}
use Rattle.std.proofs.lemmas.Bool.{eqb-true, eq-eqb, ne_eqb, or_right, or_left, or_from, or_parts, leb-true, le-leb, lt-leb, cond_both}
use Rattle.std.proofs.lemmas.List.Sums.{sum_by-cons, sum_by_push}
use Rattle.policy_model.specs.States.{Member, Entry, member, members_size, has_member, used, has_entry, Apart}
use Rattle.policy_model.specs.S3Fifo.{Queues, fade, shrink_small, shrink_main, turns_of, queues_used, enter}
use Rattle.policy_model.proofs.Parts.{weight, weight-cons, weight-append, part-apart}
use Rattle.policy_model.proofs.Comparisons.{eqb-sym}
use Rattle.cache_model.proofs.Eligible.{or_false}
use Rattle.replay_queues.specs.Items.{has_item, entries_by}
use Rattle.replay_queues.specs.SmallAndMain.{is_kept, is_ghost, counted_entry, queues_by, AreQueued}
use Rattle.replay_queues.proofs.ItemLemmas.{here, other, within_cells, has_item-push, has_entry-items, has_entry-append, agree, entries-push, apart-middle, item_bytes, used-items}

abbrev pub with_count : ℕ → Entry → Entry
with_count n e = record e { count = n }

abbrev pub counted : List ℕ → List (ℕ × ℕ) → List Entry
counted cells items = entries_by counted_entry cells items

pub counted-items : (cells : List ℕ) (items : List (ℕ × ℕ)) (k : ℕ) → has_entry (counted cells items) k ≡ has_item items k
counted-items cells items k = has_entry-items counted_entry (λ c p. refl) cells items k

pub counted-bytes : (cells : List ℕ) (items : List (ℕ × ℕ)) → used (counted cells items) ≡ item_bytes items
counted-bytes cells items = used-items counted_entry (λ c p. refl) cells items

pub queue-bytes : (cells : List ℕ) (small main : List (ℕ × ℕ)) (ghosts : List Member) → queues_used (queues_by cells small main ghosts) ≡ item_bytes small + item_bytes main
queue-bytes cells small main ghosts = omega (arith, counted-bytes cells small, counted-bytes cells main)

-- ---- no object is there twice
abbrev pub item_weight : (ℕ → ℕ → ℕ) → List (ℕ × ℕ) → ℕ
item_weight f items = sum_by (λ p. f p.0 p.1) items

weight-items : (f : ℕ → ℕ → ℕ) (cells : List ℕ) (items : List (ℕ × ℕ)) → weight f (counted cells items) ≡ item_weight f items
weight-items f cells [] = refl
weight-items f cells (p ∷ rest) =
    omega (
      arith,
      weight-items f cells rest,
      sum_by-cons (λ (e : Entry). f e.object e.size) (counted_entry (get_or cells p.0 0) p) (counted cells rest),
      sum_by-cons (λ (q : ℕ × ℕ). f q.0 q.1) p rest,
    )

apart-from : (cells after : List ℕ) (small main small_after main_after : List (ℕ × ℕ))
    → ((f : ℕ → ℕ → ℕ) → item_weight f small_after + item_weight f main_after ≤ item_weight f small + item_weight f main)
    → Apart (counted cells small ++ counted cells main) → Apart (counted after small_after ++ counted after main_after)
apart-from cells after small main small_after main_after fewer apart =
    part-apart (counted after small_after ++ counted after main_after) (counted cells small ++ counted cells main)
    (λ f. omega (
      arith,
      fewer f,
      weight-append f (counted after small_after) (counted after main_after),
      weight-append f (counted cells small) (counted cells main),
      weight-items f after small_after,
      weight-items f after main_after,
      weight-items f cells small,
      weight-items f cells main,
    ))
    apart

item-push : (f : ℕ → ℕ → ℕ) (items : List (ℕ × ℕ)) (p : ℕ × ℕ) → item_weight f (items ++ p ∷ []) ≡ item_weight f items + f p.0 p.1
item-push f items p = sum_by_push (λ (q : ℕ × ℕ). f q.0 q.1) items p

item-cons : (f : ℕ → ℕ → ℕ) (p : ℕ × ℕ) (items : List (ℕ × ℕ)) → item_weight f (p ∷ items) ≡ f p.0 p.1 + item_weight f items
item-cons f p items = sum_by-cons (λ (q : ℕ × ℕ). f q.0 q.1) p items

-- ---- after a change of the byte of one object
pub queued-set : (cells : List ℕ) (small main : List (ℕ × ℕ)) (ghosts : List Member) → AreQueued cells small main ghosts → (k v : ℕ) → k < length cells → (small_after main_after : List (ℕ × ℕ)) (ghosts_after : List Member)
    → is_kept v ≡ (has_item small_after k || has_item main_after k) → is_ghost v ≡ has_member ghosts_after k
    → ((q : ℕ) → eqb q k ≡ false → (has_item small q || has_item main q) ≡ (has_item small_after q || has_item main_after q)) → ((q : ℕ) → eqb q k ≡ false → has_member ghosts q ≡ has_member ghosts_after q)
    → Apart (counted (set cells k v) small_after ++ counted (set cells k v) main_after) → AreQueued (set cells k v) small_after main_after ghosts_after
queued-set cells small main ghosts queued k v within small_after main_after ghosts_after here_known here_gone others others_gone apart = record {
  apart = apart;
  known = λ q. at is_kept (λ j. has_item small j || has_item main j) (λ j. has_item small_after j || has_item main_after j) queued.known here_known others q (eqb q k) refl;
  gone = λ q. at is_ghost (has_member ghosts) (has_member ghosts_after) queued.gone here_gone others_gone q (eqb q k) refl;
}
  where
    at : (test : ℕ → Bool) (has has_after : ℕ → Bool) → ((q : ℕ) → test (get_or cells q 0) ≡ has q) → test v ≡ has_after k → ((q : ℕ) → eqb q k ≡ false → has q ≡ has_after q)
        → (q : ℕ) (b : Bool) → eqb q k ≡ b → test (get_or (set cells k v) q 0) ≡ has_after q
    at test has has_after known is_here is_other q true e =
        let same : q ≡ k = eqb-true q k e in
        ap (λ j. test (get_or (set cells k v) j 0)) same ∙ ap test (here cells k v within) ∙ is_here ∙ ap has_after (sym same)
    at test has has_after known is_here is_other q false e = ap test (other cells k v q e) ∙ known q ∙ is_other q e

has_member-push : (ghosts : List Member) (m : Member) (q : ℕ) → has_member (ghosts ++ m ∷ []) q ≡ (has_member ghosts q || eqb m.object q)
has_member-push [] m q = or_false (eqb m.object q)
has_member-push (g ∷ rest) m q = ap (λ b. eqb g.object q || b) (has_member-push rest m q) ∙ assoc (eqb g.object q) (has_member rest q) (eqb m.object q)
  where
    assoc : (a b c : Bool) → (a || (b || c)) ≡ (a || b || c)
    assoc true b c = refl
    assoc false b c = refl

-- a filter takes out the members of one object
filtered-here : (ghosts : List Member) (k : ℕ) → has_member (filter (λ m. not (eqb m.object k)) ghosts) k ≡ false
filtered-here [] k = refl
filtered-here (g ∷ rest) k = at (eqb g.object k) refl (filtered-here rest k)
  where
    at : (t : Bool) → eqb g.object k ≡ t → has_member (filter (λ m. not (eqb m.object k)) rest) k ≡ false
        → has_member (cond (not t) (g ∷ filter (λ m. not (eqb m.object k)) rest) (filter (λ m. not (eqb m.object k)) rest)) k ≡ false
    at true is later = later
    at false is later = or_from (eqb g.object k) _ is later

filtered-other : (ghosts : List Member) (k q : ℕ) → eqb q k ≡ false → has_member (filter (λ m. not (eqb m.object k)) ghosts) q ≡ has_member ghosts q
filtered-other [] k q differs = refl
filtered-other (g ∷ rest) k q differs = at (eqb g.object k) refl (filtered-other rest k q differs)
  where
    at : (t : Bool) → eqb g.object k ≡ t → has_member (filter (λ m. not (eqb m.object k)) rest) q ≡ has_member rest q
        → has_member (cond (not t) (g ∷ filter (λ m. not (eqb m.object k)) rest) (filter (λ m. not (eqb m.object k)) rest)) q ≡ (eqb g.object q || has_member rest q)
    at true is later = later ∙ ap (λ b. b || has_member rest q) (sym (ap (λ o. eqb o q) (eqb-true g.object k is) ∙ eqb-sym k q ∙ differs))
    at false is later = ap (λ b. eqb g.object q || b) later

pub filtered-size : (ghosts : List Member) (k : ℕ) → members_size (filter (λ m. not (eqb m.object k)) ghosts) ≤ members_size ghosts
filtered-size [] k = omega arith
filtered-size (g ∷ rest) k =
    cond_both (not (eqb g.object k)) (g ∷ filter (λ m. not (eqb m.object k)) rest) (filter (λ m. not (eqb m.object k)) rest) (λ ms. members_size ms ≤ members_size (g ∷ rest))
    (λ _. omega (arith, filtered-size rest k, sum_by-cons (λ (m : Member). m.size) g rest, sum_by-cons (λ (m : Member). m.size) g (filter (λ m. not (eqb m.object k)) rest)))
    (λ _. omega (arith, filtered-size rest k, sum_by-cons (λ (m : Member). m.size) g rest))

pub fade-size : (most : ℕ) (ghosts : List Member) → members_size (fade most ghosts) ≤ most
fade-size most [] = omega arith
fade-size most (g ∷ rest) = cond_both (leb (members_size (g ∷ rest)) most) (g ∷ rest) (fade most rest) (λ ms. members_size ms ≤ most) (λ few. leb-true (members_size (g ∷ rest)) most few) (λ _. fade-size most rest)

-- an object that is pushed is there, and no other is there because of it
pushed-here : (items : List (ℕ × ℕ)) (p : ℕ × ℕ) → has_item (items ++ p ∷ []) p.0 ≡ true
pushed-here items p = has_item-push items p p.0 ∙ or_right (has_item items p.0) (eqb p.0 p.0) (eq-eqb p.0 p.0 refl)

pushed-other : (items : List (ℕ × ℕ)) (p : ℕ × ℕ) (q : ℕ) → eqb q p.0 ≡ false → has_item (items ++ p ∷ []) q ≡ has_item items q
pushed-other items p q differs = has_item-push items p q ∙ ap (λ b. has_item items q || b) (eqb-sym p.0 q ∙ differs) ∙ or_false (has_item items q)

rest-other : (p : ℕ × ℕ) (rest : List (ℕ × ℕ)) (q : ℕ) → eqb q p.0 ≡ false → has_item (p ∷ rest) q ≡ has_item rest q
rest-other p rest q differs = ap (λ b. b || has_item rest q) (eqb-sym p.0 q ∙ differs)

pub not_ghost : (c : ℕ) → 2 ≤ c → is_ghost c ≡ false
not_ghost c kept = ne_eqb c 1 (λ (same : c ≡ 1). absurd (omega arith))

-- ---- the first of the small queue
module _ (cells : List ℕ) (p : ℕ × ℕ) (rest main : List (ℕ × ℕ)) (ghosts : List Member) (queued : AreQueued cells (p ∷ rest) main ghosts) where
  small_kept : 2 ≤ get_or cells p.0 0
  small_kept = leb-true 2 (get_or cells p.0 0) (queued.known p.0 ∙ or_left (eqb p.0 p.0 || has_item rest p.0) (has_item main p.0) (or_left (eqb p.0 p.0) (has_item rest p.0) (eq-eqb p.0 p.0 refl)))

  pub small-within : p.0 < length cells
  small-within = within_cells cells p.0 (let kept : 2 ≤ get_or cells p.0 0 = small_kept in omega arith)

  pub small-new : has_member ghosts p.0 ≡ false
  small-new = sym (queued.gone p.0) ∙ not_ghost (get_or cells p.0 0) small_kept

  small_none : (has_item rest p.0 ≡ false) × (has_item main p.0 ≡ false)
  small_none =
      let later : (has_entry (counted cells rest) p.0 || has_entry (counted cells main) p.0) ≡ false = sym (has_entry-append (counted cells rest) (counted cells main) p.0) ∙ queued.apart.0 in
      let both : (has_entry (counted cells rest) p.0 ≡ false) × (has_entry (counted cells main) p.0 ≡ false) = or_parts _ _ later in
      (sym (counted-items cells rest p.0) ∙ both.0, sym (counted-items cells main p.0) ∙ both.1)

  small_agrees : (v : ℕ) (items : List (ℕ × ℕ)) → has_item items p.0 ≡ false → counted (set cells p.0 v) items ≡ counted cells items
  small_agrees v items absent = agree counted_entry (λ c q. refl) cells p.0 v items absent

  -- it goes to the main queue
  pub promoted-queued : AreQueued (set cells p.0 2) rest (main ++ p ∷ []) ghosts
  promoted-queued =
      queued-set cells (p ∷ rest) main ghosts queued p.0 2 small-within rest (main ++ p ∷ []) ghosts
      (sym (or_right (has_item rest p.0) (has_item (main ++ p ∷ []) p.0) (pushed-here main p)))
      (sym small-new)
      (λ q differs. ap (λ b. b || has_item main q) (rest-other p rest q differs) ∙ ap (λ b. has_item rest q || b) (sym (pushed-other main p q differs)))
      (λ q differs. refl)
      (apart-from cells (set cells p.0 2) (p ∷ rest) main rest (main ++ p ∷ []) (λ f. omega (arith, item-push f main p, item-cons f p rest)) queued.apart)

  pub promoted-small : (most : ℕ) → leb 2 (get_or cells p.0 0 - 2) ≡ true
      → shrink_small most (counted (set cells p.0 2) rest) (counted (set cells p.0 2) (main ++ p ∷ [])) ghosts ≡ shrink_small most (counted cells (p ∷ rest)) (counted cells main) ghosts
  promoted-small most hit =
      let e : Entry = counted_entry (get_or cells p.0 0) p in
      ap (λ es. shrink_small most es (counted (set cells p.0 2) (main ++ p ∷ [])) ghosts) (small_agrees 2 rest small_none.0)
      ∙ ap (λ es. shrink_small most (counted cells rest) es ghosts)
      (entries-push counted_entry (λ c q. refl) (set cells p.0 2) main p ∙ ap (λ es. es ++ counted_entry (get_or (set cells p.0 2) p.0 0) p ∷ []) (small_agrees 2 main small_none.1)
      ∙ ap (λ c. counted cells main ++ counted_entry c p ∷ []) (here cells p.0 2 small-within))
      ∙ ap (λ b. cond b (shrink_small most (counted cells rest) (counted cells main ++ with_count 0 e ∷ []) ghosts) (record { small = counted cells rest; main = counted cells main; ghosts = fade most (ghosts ++ member p.0 p.1 ∷ []) })) (sym hit)

  -- it becomes a ghost
  pub left-queued : AreQueued (set cells p.0 1) rest main (ghosts ++ member p.0 p.1 ∷ [])
  left-queued =
      queued-set cells (p ∷ rest) main ghosts queued p.0 1 small-within rest main (ghosts ++ member p.0 p.1 ∷ [])
      (sym (or_from (has_item rest p.0) (has_item main p.0) small_none.0 small_none.1))
      (sym (has_member-push ghosts (member p.0 p.1) p.0 ∙ or_right (has_member ghosts p.0) (eqb p.0 p.0) (eq-eqb p.0 p.0 refl)))
      (λ q differs. ap (λ b. b || has_item main q) (rest-other p rest q differs))
      (λ q differs. sym (has_member-push ghosts (member p.0 p.1) q ∙ ap (λ b. has_member ghosts q || b) (eqb-sym p.0 q ∙ differs) ∙ or_false (has_member ghosts q)))
      (apart-from cells (set cells p.0 1) (p ∷ rest) main rest main (λ f. omega (arith, item-cons f p rest)) queued.apart)

  pub left-small : counted (set cells p.0 1) rest ≡ counted cells rest
  left-small = small_agrees 1 rest small_none.0

  pub left-main : counted (set cells p.0 1) main ≡ counted cells main
  left-main = small_agrees 1 main small_none.1

  pub left-shrunk : (most : ℕ) → leb 2 (get_or cells p.0 0 - 2) ≡ false
      → record { small = counted (set cells p.0 1) rest; main = counted (set cells p.0 1) main; ghosts = fade most (ghosts ++ member p.0 p.1 ∷ []) } ≡ shrink_small most (counted cells (p ∷ rest)) (counted cells main) ghosts
  left-shrunk most hit =
      let e : Entry = counted_entry (get_or cells p.0 0) p in
      let of : List Entry → List Entry → Queues = λ s m. record { small = s; main = m; ghosts = fade most (ghosts ++ member p.0 p.1 ∷ []) } in
      ap (λ es. of es (counted (set cells p.0 1) main)) left-small ∙ ap (of (counted cells rest)) left-main
      ∙ ap (λ b. cond b (shrink_small most (counted cells rest) (counted cells main ++ with_count 0 e ∷ []) ghosts) (of (counted cells rest) (counted cells main))) (sym hit)

-- ---- the first of the main queue
module _ (cells : List ℕ) (small : List (ℕ × ℕ)) (p : ℕ × ℕ) (rest : List (ℕ × ℕ)) (ghosts : List Member) (queued : AreQueued cells small (p ∷ rest) ghosts) where
  main_kept : 2 ≤ get_or cells p.0 0
  main_kept = leb-true 2 (get_or cells p.0 0) (queued.known p.0 ∙ or_right (has_item small p.0) (eqb p.0 p.0 || has_item rest p.0) (or_left (eqb p.0 p.0) (has_item rest p.0) (eq-eqb p.0 p.0 refl)))

  pub main-within : p.0 < length cells
  main-within = within_cells cells p.0 (let kept : 2 ≤ get_or cells p.0 0 = main_kept in omega arith)

  main_new : has_member ghosts p.0 ≡ false
  main_new = sym (queued.gone p.0) ∙ not_ghost (get_or cells p.0 0) main_kept

  main_none : (has_item small p.0 ≡ false) × (has_item rest p.0 ≡ false)
  main_none =
      let both : (has_entry (counted cells small) p.0 ≡ false) × (has_entry (counted cells rest) p.0 ≡ false) =
      apart-middle (counted cells small) (counted_entry (get_or cells p.0 0) p) (counted cells rest) queued.apart in
      (sym (counted-items cells small p.0) ∙ both.0, sym (counted-items cells rest p.0) ∙ both.1)

  pub main-small : (v : ℕ) → counted (set cells p.0 v) small ≡ counted cells small
  main-small v = agree counted_entry (λ c q. refl) cells p.0 v small main_none.0

  main_rest : (v : ℕ) → counted (set cells p.0 v) rest ≡ counted cells rest
  main_rest v = agree counted_entry (λ c q. refl) cells p.0 v rest main_none.1

  -- it goes to the back, with this byte
  module _ (v : ℕ) (keeps : 2 ≤ v) where
    pub backed-queued : AreQueued (set cells p.0 v) small (rest ++ p ∷ []) ghosts
    backed-queued =
        queued-set cells small (p ∷ rest) ghosts queued p.0 v main-within small (rest ++ p ∷ []) ghosts
        (le-leb 2 v keeps ∙ sym (or_right (has_item small p.0) (has_item (rest ++ p ∷ []) p.0) (pushed-here rest p)))
        (not_ghost v keeps ∙ sym main_new)
        (λ q differs. ap (λ b. has_item small q || b) (rest-other p rest q differs ∙ sym (pushed-other rest p q differs)))
        (λ q differs. refl)
        (apart-from cells (set cells p.0 v) small (p ∷ rest) small (rest ++ p ∷ []) (λ f. omega (arith, item-push f rest p, item-cons f p rest)) queued.apart)

    pub backed-main : counted (set cells p.0 v) (rest ++ p ∷ []) ≡ counted cells rest ++ counted_entry v p ∷ []
    backed-main =
        entries-push counted_entry (λ c q. refl) (set cells p.0 v) rest p
        ∙ ap (λ es. es ++ counted_entry (get_or (set cells p.0 v) p.0 0) p ∷ []) (main_rest v)
        ∙ ap (λ c. counted cells rest ++ counted_entry c p ∷ []) (here cells p.0 v main-within)

  -- a turn of one with hits
  pub backed-turn : (n : ℕ) → 2 < get_or cells p.0 0 → shrink_main (suc n) (counted cells (p ∷ rest)) ≡ shrink_main n (counted (set cells p.0 (get_or cells p.0 0 - 1)) (rest ++ p ∷ []))
  backed-turn n hit =
      let c : ℕ = get_or cells p.0 0 in
      let e : Entry = counted_entry c p in
      let some : eqb (c - 2) 0 ≡ false = ne_eqb (c - 2) 0 (λ (zero_is : c - 2 ≡ 0). absurd (omega arith)) in
      ap (λ b. cond b (counted cells rest) (shrink_main n (counted cells rest ++ with_count (e.count - 1) e ∷ []))) some
      ∙ ap (λ m. shrink_main n (counted cells rest ++ with_count m e ∷ [])) (less c)
      ∙ ap (shrink_main n) (sym (backed-main (c - 1) (omega arith)))
    where
      less : (c : ℕ) → c - 2 - 1 ≡ c - 1 - 2
      less c = omega arith

  pub backed-turns : 2 < get_or cells p.0 0 → turns_of (counted (set cells p.0 (get_or cells p.0 0 - 1)) (rest ++ p ∷ [])) + 1 ≡ turns_of (counted cells (p ∷ rest))
  backed-turns hit =
      let c : ℕ = get_or cells p.0 0 in
      omega (
        arith,
        ap turns_of (backed-main (c - 1) (omega arith)),
        sum_by_push (λ (e : Entry). e.count + 1) (counted cells rest) (counted_entry (c - 1) p),
        sum_by-cons (λ (e : Entry). e.count + 1) (counted_entry c p) (counted cells rest),
      )

  -- it is given up
  pub dropped-queued : AreQueued (set cells p.0 0) small rest ghosts
  dropped-queued =
      queued-set cells small (p ∷ rest) ghosts queued p.0 0 main-within small rest ghosts
      (sym (or_from (has_item small p.0) (has_item rest p.0) main_none.0 main_none.1))
      (sym main_new)
      (λ q differs. ap (λ b. has_item small q || b) (rest-other p rest q differs))
      (λ q differs. refl)
      (apart-from cells (set cells p.0 0) small (p ∷ rest) small rest (λ f. omega (arith, item-cons f p rest)) queued.apart)

  pub dropped-turn : (n : ℕ) → get_or cells p.0 0 ≤ 2 → shrink_main (suc n) (counted cells (p ∷ rest)) ≡ counted (set cells p.0 0) rest
  dropped-turn n low =
      let c : ℕ = get_or cells p.0 0 in
      let e : Entry = counted_entry c p in
      ap (λ b. cond b (counted cells rest) (shrink_main n (counted cells rest ++ with_count (e.count - 1) e ∷ []))) (eq-eqb (c - 2) 0 (omega arith)) ∙ sym (main_rest 0)

-- ---- the first of the ghosts
module _ (cells : List ℕ) (small main : List (ℕ × ℕ)) (g : Member) (rest : List Member) (queued : AreQueued cells small main (g ∷ rest)) where
  ghost_is : get_or cells g.object 0 ≡ 1
  ghost_is = eqb-true (get_or cells g.object 0) 1 (queued.gone g.object ∙ or_left (eqb g.object g.object) (has_member rest g.object) (eq-eqb g.object g.object refl))

  pub ghost-within : g.object < length cells
  ghost-within = within_cells cells g.object (let is : get_or cells g.object 0 ≡ 1 = ghost_is in omega arith)

  ghost_none : (has_item small g.object || has_item main g.object) ≡ false
  ghost_none = sym (queued.known g.object) ∙ ap is_kept ghost_is

  ghost_parts : (has_item small g.object ≡ false) × (has_item main g.object ≡ false)
  ghost_parts = or_parts _ _ ghost_none

  pub faded-small : counted (set cells g.object 0) small ≡ counted cells small
  faded-small = agree counted_entry (λ c q. refl) cells g.object 0 small ghost_parts.0

  pub faded-main : counted (set cells g.object 0) main ≡ counted cells main
  faded-main = agree counted_entry (λ c q. refl) cells g.object 0 main ghost_parts.1

  pub faded-queued : has_member rest g.object ≡ false → AreQueued (set cells g.object 0) small main rest
  faded-queued once =
      queued-set cells small main (g ∷ rest) queued g.object 0 ghost-within small main rest (sym ghost_none) (sym once) (λ q differs. refl)
      (λ q differs. ap (λ b. b || has_member rest q) (eqb-sym g.object q ∙ differs))
      (apart-from cells (set cells g.object 0) small main small main (λ f. omega arith) queued.apart)

pub fade-more : (most : ℕ) (g : Member) (rest : List Member) → most < members_size (g ∷ rest) → fade most (g ∷ rest) ≡ fade most rest
fade-more most g rest many = ap (λ b. cond b (g ∷ rest) (fade most rest)) (lt-leb (members_size (g ∷ rest)) most many)

pub fade-done : (most : ℕ) (ghosts : List Member) → members_size ghosts ≤ most → fade most ghosts ≡ ghosts
fade-done most [] few = refl
fade-done most (g ∷ rest) few = ap (λ b. cond b (g ∷ rest) (fade most rest)) (le-leb (members_size (g ∷ rest)) most few)

-- ---- a hit of an object that is held
module _ (cells : List ℕ) (small main : List (ℕ × ℕ)) (ghosts : List Member) (queued : AreQueued cells small main ghosts) (k : ℕ) (there : is_kept (get_or cells k 0) ≡ true) where
  pub hit_kept : 2 ≤ get_or cells k 0
  hit_kept = leb-true 2 (get_or cells k 0) there

  pub hit_within : k < length cells
  hit_within = within_cells cells k (let kept : 2 ≤ get_or cells k 0 = hit_kept in omega arith)

  abbrev hits : ℕ
  hits = min (get_or cells k 0) 4 + 1

  pub hit-queued : AreQueued (set cells k hits) small main ghosts
  hit-queued =
      let kept : 2 ≤ get_or cells k 0 = hit_kept in
      queued-set cells small main ghosts queued k hits hit_within small main ghosts (le-leb 2 hits (omega arith) ∙ sym there ∙ queued.known k) (not_ghost hits (omega arith) ∙ sym (not_ghost (get_or cells k 0) kept) ∙ queued.gone k)
      (λ q differs. refl) (λ q differs. refl) (apart-from cells (set cells k hits) small main small main (λ f. omega arith) queued.apart)

-- ---- an object that comes in
module _ (cells : List ℕ) (small main : List (ℕ × ℕ)) (ghosts : List Member) (queued : AreQueued cells small main ghosts) (k size : ℕ) (within : k < length cells) (absent : is_kept (get_or cells k 0) ≡ false) where
  no_item : (has_item small k || has_item main k) ≡ false
  no_item = sym (queued.known k) ∙ absent

  new_parts : (has_item small k ≡ false) × (has_item main k ≡ false)
  new_parts = or_parts _ _ no_item

  in_small : counted (set cells k 2) small ≡ counted cells small
  in_small = agree counted_entry (λ c q. refl) cells k 2 small new_parts.0

  in_main : counted (set cells k 2) main ≡ counted cells main
  in_main = agree counted_entry (λ c q. refl) cells k 2 main new_parts.1

  pushed : (items : List (ℕ × ℕ)) → counted (set cells k 2) items ≡ counted cells items → counted (set cells k 2) (items ++ (k, size) ∷ []) ≡ counted cells items ++ counted_entry 2 (k, size) ∷ []
  pushed items same =
      entries-push counted_entry (λ c q. refl) (set cells k 2) items (k, size)
      ∙ ap (λ es. es ++ counted_entry (get_or (set cells k 2) k 0) (k, size) ∷ []) same
      ∙ ap (λ c. counted cells items ++ counted_entry c (k, size) ∷ []) (here cells k 2 within)

  fresh : has_entry (counted cells small ++ counted cells main) k ≡ false
  fresh = has_entry-append (counted cells small) (counted cells main) k ∙ or_from _ _ (counted-items cells small k ∙ new_parts.0) (counted-items cells main k ∙ new_parts.1)

  entered_apart : (small_after main_after : List (ℕ × ℕ)) → ((f : ℕ → ℕ → ℕ) → item_weight f small_after + item_weight f main_after ≤ item_weight f small + item_weight f main + f k size)
      → Apart (counted (set cells k 2) small_after ++ counted (set cells k 2) main_after)
  entered_apart small_after main_after fewer =
      let e : Entry = counted_entry 2 (k, size) in
      let old : List Entry = counted cells small ++ counted cells main in
      part-apart (counted (set cells k 2) small_after ++ counted (set cells k 2) main_after) (e ∷ old)
      (λ f. omega (
        arith,
        fewer f,
        weight-cons f e old,
        weight-append f (counted (set cells k 2) small_after) (counted (set cells k 2) main_after),
        weight-append f (counted cells small) (counted cells main),
        weight-items f (set cells k 2) small_after,
        weight-items f (set cells k 2) main_after,
        weight-items f cells small,
        weight-items f cells main,
      ))
      (fresh, queued.apart)

  -- as a ghost
  pub ghost-queued : AreQueued (set cells k 2) small (main ++ (k, size) ∷ []) (filter (λ m. not (eqb m.object k)) ghosts)
  ghost-queued =
      queued-set cells small main ghosts queued k 2 within small (main ++ (k, size) ∷ []) (filter (λ m. not (eqb m.object k)) ghosts)
      (sym (or_right (has_item small k) (has_item (main ++ (k, size) ∷ []) k) (pushed-here main (k, size))))
      (sym (filtered-here ghosts k))
      (λ q differs. ap (λ b. has_item small q || b) (sym (pushed-other main (k, size) q differs)))
      (λ q differs. sym (filtered-other ghosts k q differs))
      (entered_apart small (main ++ (k, size) ∷ []) (λ f. omega (arith, item-push f main (k, size))))

  pub ghost-entered : has_member ghosts k ≡ true → queues_by (set cells k 2) small (main ++ (k, size) ∷ []) (filter (λ m. not (eqb m.object k)) ghosts) ≡ enter (counted_entry 2 (k, size)) (queues_by cells small main ghosts)
  ghost-entered there =
      let e : Entry = counted_entry 2 (k, size) in
      let of : List Entry → List Entry → Queues = λ s m. record { small = s; main = m; ghosts = filter (λ m. not (eqb m.object k)) ghosts } in
      ap (λ es. of es (counted (set cells k 2) (main ++ (k, size) ∷ []))) in_small ∙ ap (of (counted cells small)) (pushed main in_main)
      ∙ ap (λ b. cond b (of (counted cells small) (counted cells main ++ e ∷ [])) (record { small = counted cells small ++ e ∷ []; main = counted cells main; ghosts = ghosts })) (sym there)

  -- as another
  pub other-queued : has_member ghosts k ≡ false → AreQueued (set cells k 2) (small ++ (k, size) ∷ []) main ghosts
  other-queued none =
      queued-set cells small main ghosts queued k 2 within (small ++ (k, size) ∷ []) main ghosts
      (sym (or_left (has_item (small ++ (k, size) ∷ []) k) (has_item main k) (pushed-here small (k, size))))
      (sym none)
      (λ q differs. ap (λ b. b || has_item main q) (sym (pushed-other small (k, size) q differs)))
      (λ q differs. refl)
      (entered_apart (small ++ (k, size) ∷ []) main (λ f. omega (arith, item-push f small (k, size))))

  pub other-entered : has_member ghosts k ≡ false → queues_by (set cells k 2) (small ++ (k, size) ∷ []) main ghosts ≡ enter (counted_entry 2 (k, size)) (queues_by cells small main ghosts)
  other-entered none =
      let e : Entry = counted_entry 2 (k, size) in
      let of : List Entry → List Entry → Queues = λ s m. record { small = s; main = m; ghosts = ghosts } in
      ap (λ es. of es (counted (set cells k 2) main)) (pushed small in_small) ∙ ap (of (counted cells small ++ e ∷ [])) in_main
      ∙ ap (λ b. cond b (record { small = counted cells small; main = counted cells main ++ e ∷ []; ghosts = filter (λ m. not (eqb m.object k)) ghosts }) (of (counted cells small ++ e ∷ []) (counted cells main))) (sym none)

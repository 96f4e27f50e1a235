-- What S3-FIFO answers, by its queues.
use Rattle.std.proofs.Common.{◌≡◌, ℕ, ◌+◌, ◌-◌, ◌*◌, ◌^◌, ◌<◌, ◌≤◌, ◌∙◌, sym, refl, ap, subst, true, false, not, ◌||◌, cond, eqb, min, List, [], ◌∷◌, ◌++◌, length, filter, drop, get_or, set, None, arith}
use Rattle.std.specs.declared.option.Option.{Option}
use Rattle.std.proofs.lemmas.Bool.{cond_both}
use Rattle.std.proofs.lemmas.List.{map-append, length-map, length-set}
use Rattle.std.proofs.lemmas.List.Sums.{sum_by_push}
use Rattle.std.proofs.Math.Seq.{take-append_seam, drop-append_seam}
use Rattle.policy_model.specs.declared.names.PolicyName.TheVariants.{S3Fifo}
use Rattle.policy_model.specs.States.{Member, Entry, Stock, State, nothing_beside, has_entry, has_member, members_of, IsFit}
use Rattle.policy_model.specs.Steps.{until_fits, touched, touch, served}
use Rattle.policy_model.specs.S3Fifo.{Queues, shrink, queues_used, enter, queues_of, stock_of_queues}
use Rattle.policy_model.specs.Leaving.{queues_without}
use Rattle.policy_model.proofs.S3FifoSound.{queue_entries, queue-used, shrink-part}
use Rattle.policy_model.proofs.Parts.{part-none, until-part}
use Rattle.policy_model.proofs.RulesSound.{served-hit, served-large, served-small}
use Rattle.policy_model.proofs.Replays.{has_entry-members}
use Rattle.replay_core.specs.declared.policy.Outcome.{Outcome}
use Rattle.replay_core.specs.declared.policy.Outcome.TheVariants.{Hit, Miss}
use Rattle.replay_core.specs.Outcomes.{is_hit}
use Rattle.replay_core.specs.Keeping.{Kept, state_of, Answers, kept_without}
use Rattle.replay_core.proofs.Kept.{answered}
use Rattle.replay_queues.specs.declared.three_queues.ThreeQueues.{ThreeQueues}
use Rattle.replay_queues.specs.Items.{has_item, items_of}
use Rattle.replay_queues.specs.SmallAndMain.{is_kept, counted_entry, queues_by, queues_at, AreQueued, IsQueued, with_space, queues_kept, IsS3Fifo}
use Rattle.replay_queues.proofs.ItemLemmas.{has_entry-append, changed}
use Rattle.replay_queues.proofs.QueueLemmas.{counted, counted-items, queue-bytes, hit_within, hit_kept, hit-queued}
use Rattle.replay_queues.proofs.QueueAnswers.{is_fading, small-bytes}

-- the bytes tell which objects have an entry
pub kept-entry : (cells : List ℕ) (small main : List (ℕ × ℕ)) (ghosts : List Member) → AreQueued cells small main ghosts → (k : ℕ) → is_kept (get_or cells k 0) ≡ has_entry (queue_entries (queues_by cells small main ghosts)) k
kept-entry cells small main ghosts queued k =
    queued.known k
    ∙ sym (has_entry-append (counted cells small) (counted cells main) k ∙ ap (λ b. b || has_entry (counted cells main) k) (counted-items cells small k) ∙ ap (λ b. has_item small k || b) (counted-items cells main k))

pub kept-member : (cells : List ℕ) (small main : List (ℕ × ℕ)) (ghosts : List Member) → AreQueued cells small main ghosts → (k : ℕ) → is_kept (get_or cells k 0) ≡ has_member (members_of (queue_entries (queues_by cells small main ghosts))) k
kept-member cells small main ghosts queued k = kept-entry cells small main ghosts queued k ∙ has_entry-members (queue_entries (queues_by cells small main ghosts)) k

-- ---- the rule, by the queues
module _ (objects capacity requests : ℕ) (q : Queues) (k size : ℕ) where
  abbrev before : Kept
  before = queues_kept objects capacity requests q

  abbrev after : Queues → Kept
  after r = queues_kept objects capacity (min (requests + 1) (2 ^ 64 - 1)) r

  abbrev state : State
  state = state_of S3Fifo before

  abbrev of : List Entry → List Entry → Queues
  of small main = record { small = small; main = main; ghosts = q.ghosts }

  pub queues-back : queues_of state ≡ q
  queues-back = ap (λ es. of es (drop (length q.small) (queue_entries q))) (take-append_seam q.small q.main) ∙ ap (of q.small) (drop-append_seam q.small q.main)

  -- what the rule makes of a hit and of a miss
  abbrev hit : Stock
  hit = record { entries = touch S3Fifo requests None k (queue_entries q); beside = before.beside }

  abbrev space_in : Queues → Queues
  space_in r = until_fits (shrink capacity) queues_used capacity size (2 * length (queue_entries q)) r

  abbrev miss : Stock
  miss = stock_of_queues (enter (counted_entry 2 (k, size)) (space_in (queues_of state)))

  stock-answers : (r : Queues) (outcome : Outcome) (next : Option ℕ) → is_hit outcome ≡ has_entry (queue_entries q) k → stock_of_queues r ≡ served state k size hit miss → Answers S3Fifo before (after r) k size next outcome
  stock-answers r outcome next hits is =
      answered S3Fifo before (after r) k size next outcome hits refl refl refl (ap (λ (x : Stock). x.entries) is) (ap (λ (x : Stock). x.beside) is)

  pub hit-answers : (r : Queues) → has_entry (queue_entries q) k ≡ true → r.small ≡ touch S3Fifo requests None k q.small → r.main ≡ touch S3Fifo requests None k q.main → r.ghosts ≡ q.ghosts
      → (next : Option ℕ) → Answers S3Fifo before (after r) k size next Hit
  hit-answers r there small main ghosts next =
      let by : Entry → Entry = λ f. cond (eqb f.object k) (record f { count = min (f.count + 1) 3 }) f in
      let stock : List Entry → ℕ → List Member → Stock = λ entries first gone. record { entries = entries; beside = record nothing_beside { first = first; ghosts = gone } } in
      let touched_small : List Entry = touch S3Fifo requests None k q.small in
      stock-answers r Hit next (sym there)
      (ap (λ es. stock (es ++ r.main) (length es) r.ghosts) small ∙ ap (λ es. stock (touched_small ++ es) (length touched_small) r.ghosts) main
      ∙ ap (λ es. stock es (length touched_small) r.ghosts) (sym (map-append by q.small q.main))
      ∙ ap (λ n. stock (touch S3Fifo requests None k (queue_entries q)) n r.ghosts) (length-map q.small by)
      ∙ ap (stock (touch S3Fifo requests None k (queue_entries q)) (length q.small)) ghosts
      ∙ sym (served-hit state k size hit miss (counted_entry 2 (k, size)) there))

  module _ (none : has_entry (queue_entries q) k ≡ false) where
    pub large-answers : capacity < size → (next : Option ℕ) → Answers S3Fifo before (after q) k size next Miss
    large-answers large next = stock-answers q Miss next (sym none) (sym (served-large state k size hit miss (counted_entry 2 (k, size)) none large))

    pub miss-answers : size ≤ capacity → (r left : Queues) → left ≡ with_space capacity size q → r ≡ enter (counted_entry 2 (k, size)) left → (next : Option ℕ) → Answers S3Fifo before (after r) k size next Miss
    miss-answers small r left freed put next =
        stock-answers r Miss next (sym none)
        (ap stock_of_queues (put ∙ ap (enter (counted_entry 2 (k, size))) (freed ∙ ap space_in (sym queues-back))) ∙ sym (served-small state k size hit miss (counted_entry 2 (k, size)) none small))

-- ---- what holds of the fields
pub s3fifo-fit : (objects capacity in_use : ℕ) (t : ThreeQueues) → IsS3Fifo objects capacity in_use t → IsFit capacity (queue_entries (queues_at t))
s3fifo-fit objects capacity in_use t is = record {
  room = (let fits : in_use ≤ capacity = is.fits in let counted_is : in_use ≡ queues_used (queues_at t) = is.in_use_is in omega (arith, queue-used (queues_at t)));
  apart = is.queued.fading.are.apart;
}

-- a hit
module _ (objects capacity requests in_use : ℕ) (t : ThreeQueues) (is : IsS3Fifo objects capacity in_use t) (k : ℕ) (there : is_kept (get_or t.table k 0) ≡ true) where
  abbrev hit_cell : ℕ
  hit_cell = min (get_or t.table k 0) 4 + 1

  abbrev hit_queues : ThreeQueues
  hit_queues = record t { table = set t.table k hit_cell }

  hit-touched : (items : List (ℕ × ℕ)) → counted (set t.table k hit_cell) items ≡ touch S3Fifo requests None k (counted t.table items)
  hit-touched items =
      let entry : ℕ × ℕ → ℕ → Entry = λ p n. record { object = p.0; size = p.1; mark = false; count = n; last = 0; next = None; rank = 0 } in
      let kept : 2 ≤ get_or t.table k 0 = hit_kept t.table (items_of t.parts.small) (items_of t.parts.main) t.parts.ghosts is.queued.fading.are k there in
      let count_is : hit_cell - 2 ≡ min (get_or t.table k 0 - 2 + 1) 3 = omega arith in
      changed counted_entry (λ c p. refl) t.table k hit_cell (touched S3Fifo requests None) (hit_within t.table (items_of t.parts.small) (items_of t.parts.main) t.parts.ghosts is.queued.fading.are k there) (λ p. ap (entry p) count_is) items

  pub hit-small : (queues_at hit_queues).small ≡ touch S3Fifo requests None k (queues_at t).small
  hit-small = hit-touched (items_of t.parts.small)

  pub hit-main : (queues_at hit_queues).main ≡ touch S3Fifo requests None k (queues_at t).main
  hit-main = hit-touched (items_of t.parts.main)

  pub hit-s3fifo : IsS3Fifo objects capacity in_use hit_queues
  hit-s3fifo = record {
    range = is.range;
    within = subst (λ n. n ≤ objects) (sym (length-set t.table k hit_cell)) is.within;
    in_use_is = is.in_use_is ∙ queue-bytes t.table (items_of t.parts.small) (items_of t.parts.main) t.parts.ghosts ∙ sym (queue-bytes (set t.table k hit_cell) (items_of t.parts.small) (items_of t.parts.main) t.parts.ghosts);
    fits = is.fits;
    queued = record {
      fading = is_fading hit_queues (hit-queued t.table (items_of t.parts.small) (items_of t.parts.main) t.parts.ghosts is.queued.fading.are k there) (small-bytes t is.queued.fading) is.queued.fading.ghosts_are (length-set t.table k hit_cell ∙ is.queued.fading.each_object);
      few = is.queued.few;
    };
  }

-- an object that is not held isn't after room was made
pub still_absent : (t left : ThreeQueues) (capacity size : ℕ) → IsQueued t → IsQueued left → queues_at left ≡ with_space capacity size (queues_at t) → (k : ℕ) → is_kept (get_or t.table k 0) ≡ false → is_kept (get_or left.table k 0) ≡ false
still_absent t left capacity size queued after freed k absent =
    kept-entry left.table (items_of left.parts.small) (items_of left.parts.main) left.parts.ghosts after.fading.are k ∙ ap (λ q. has_entry (queue_entries q) k) freed
    ∙ part-none k (queue_entries (with_space capacity size (queues_at t))) (queue_entries (queues_at t))
    (until-part (shrink capacity) queues_used capacity size queue_entries (shrink-part capacity) (2 * length (queue_entries (queues_at t))) (queues_at t))
    (sym (kept-entry t.table (items_of t.parts.small) (items_of t.parts.main) t.parts.ghosts queued.fading.are k) ∙ absent)

-- the answer, from the value that is seen of the fields
pub from_view : (old : Kept) (objects capacity requests n : ℕ) (q after : Queues) (k size : ℕ) (outcome : Outcome) → queues_kept objects capacity requests q ≡ old → n ≡ min (requests + 1) (2 ^ 64 - 1)
    → ((next : Option ℕ) → Answers S3Fifo (queues_kept objects capacity requests q) (queues_kept objects capacity (min (requests + 1) (2 ^ 64 - 1)) after) k size next outcome)
    → (next : Option ℕ) → Answers S3Fifo old (queues_kept objects capacity n after) k size next outcome
from_view old objects capacity requests n q after k size outcome view now answers next =
    subst (λ (p : Kept). Answers S3Fifo p (queues_kept objects capacity n after) k size next outcome) view
    (subst (λ (m : ℕ). Answers S3Fifo (queues_kept objects capacity requests q) (queues_kept objects capacity m after) k size next outcome) (sym now) (answers next))

-- an object that came in after room was made
pub entered-s3fifo : (objects capacity in_use more size : ℕ) (t left after : ThreeQueues) → IsS3Fifo objects capacity in_use t → length after.table ≡ length t.table → IsQueued after
    → (k : ℕ) → queues_at after ≡ enter (counted_entry 2 (k, size)) (queues_at left) → more ≡ queues_used (queues_at left) → more + size ≤ capacity → IsS3Fifo objects capacity (more + size) after
entered-s3fifo objects capacity in_use more size t left after is table queued k put counted_is fits = record {
  range = is.range;
  within = subst (λ n. n ≤ objects) (sym table) is.within;
  in_use_is = (let e : Entry = counted_entry 2 (k, size) in let q : Queues = queues_at left in
      omega (
        arith,
        ap queues_used put,
        cond_both (has_member q.ghosts k) (record { small = q.small; main = q.main ++ e ∷ []; ghosts = filter (λ m. not (eqb m.object k)) q.ghosts }) (record { small = q.small ++ e ∷ []; main = q.main; ghosts = q.ghosts })
            (λ (r : Queues). queues_used r ≡ queues_used q + size)
            (λ _. omega (arith, sum_by_push (λ (f : Entry). f.size) q.main e)) (λ _. omega (arith, sum_by_push (λ (f : Entry). f.size) q.small e)),
      ));
  fits = fits;
  queued = queued;
}

-- ---- an object that is let go of
pub left-s3fifo : (objects capacity in_use left : ℕ) (t after : ThreeQueues) → IsS3Fifo objects capacity in_use t → length after.table ≡ length t.table → IsQueued after → queues_used (queues_at after) + left ≡ queues_used (queues_at t)
    → IsS3Fifo objects capacity (in_use - left) after
left-s3fifo objects capacity in_use left t after is table queued freed =
    let counted_is : in_use ≡ queues_used (queues_at t) = is.in_use_is in
    let fits : in_use ≤ capacity = is.fits in
    record { range = is.range; within = subst (λ n. n ≤ objects) (sym table) is.within; in_use_is = omega arith; fits = omega arith; queued = queued }

pub kept-left : (k : ℕ) (old : Kept) (objects capacity requests : ℕ) (q after : Queues) → queues_kept objects capacity requests q ≡ old → after ≡ queues_without k q → queues_kept objects capacity requests after ≡ kept_without S3Fifo old k
kept-left k old objects capacity requests q after view is =
    ap (queues_kept objects capacity requests) (is ∙ ap (queues_without k) (sym (queues-back objects capacity requests q k 0)))
    ∙ ap (λ p. kept_without S3Fifo p k) view

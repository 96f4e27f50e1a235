-- The queues of S3-FIFO, as they shrink.
use Rattle.std.proofs.Common.{◌≡◌, ℕ, zero, suc, ◌+◌, ◌-◌, ◌*◌, ◌<◌, ◌≤◌, ap, Bool, true, false, not, ◌&&◌, ◌||◌, cond, eqb, leb, List, [], ◌∷◌, ◌++◌, length, take, drop, filter, arith, None}
use Rattle.std.proofs.lemmas.Bool.{cond_both, eqb-false}
use Rattle.std.proofs.lemmas.List.{length-append, take-append-drop}
use Rattle.std.proofs.lemmas.List.Sums.{sum_by-cons, sum_by-append, sum_by_push}
use Rattle.policy_model.specs.declared.names.PolicyName.TheVariants.{S3Fifo}
use Rattle.policy_model.specs.States.{Member, Entry, State, member_of, has_member, used}
use Rattle.policy_model.specs.Steps.{until_fits, fresh_entry}
use Rattle.policy_model.specs.S3Fifo.{Queues, part_of, fade, shrink_small, shrink_main, turns_of, is_empty, shrink, queues_used, enter, queues_of, stock_of_queues}
use Rattle.policy_model.proofs.Parts.{weight, weight-cons, weight-append, weight-push, IsPart, until-part, until-room}

-- the entries, those of the small queue first
abbrev pub queue_entries : Queues → List Entry
queue_entries q = q.small ++ q.main

pub queue-used : (q : Queues) → used (queue_entries q) ≡ queues_used q
queue-used q = sum_by-append (λ (e : Entry). e.size) q.small q.main

abbrev with_count : ℕ → Entry → Entry
with_count n e = record e { count = n }

-- ---- the small queue
small-weight : (f : ℕ → ℕ → ℕ) (most : ℕ) (small main : List Entry) (ghosts : List Member)
    → weight f (shrink_small most small main ghosts).small + weight f (shrink_small most small main ghosts).main ≤ weight f small + weight f main
small-weight f most [] main ghosts = omega arith
small-weight f most (e ∷ small) main ghosts =
    cond_both (leb 2 e.count) (shrink_small most small (main ++ with_count 0 e ∷ []) ghosts) (record { small = small; main = main; ghosts = fade most (ghosts ++ member_of e ∷ []) })
    (λ (q : Queues). weight f q.small + weight f q.main ≤ weight f (e ∷ small) + weight f main)
    (λ _. omega (arith, small-weight f most small (main ++ with_count 0 e ∷ []) ghosts, weight-push f main (with_count 0 e), weight-cons f e small))
    (λ _. omega (arith, weight-cons f e small))

-- turns until every entry is gone
abbrev turns_at : List Entry → List Entry → ℕ
turns_at small main = 2 * length small + length main

small-ends : (most : ℕ) (e : Entry) (small main : List Entry) (ghosts : List Member)
    → turns_at (shrink_small most (e ∷ small) main ghosts).small (shrink_small most (e ∷ small) main ghosts).main < turns_at (e ∷ small) main
small-ends most e [] main ghosts =
    cond_both (leb 2 e.count) (record { small = []; main = main ++ with_count 0 e ∷ []; ghosts = ghosts }) (record { small = []; main = main; ghosts = fade most (ghosts ++ member_of e ∷ []) })
    (λ (q : Queues). turns_at q.small q.main < turns_at (e ∷ []) main)
    (λ _. omega (arith, length-append main (with_count 0 e ∷ [])))
    (λ _. omega arith)
small-ends most e (d ∷ small) main ghosts =
    cond_both (leb 2 e.count) (shrink_small most (d ∷ small) (main ++ with_count 0 e ∷ []) ghosts) (record { small = d ∷ small; main = main; ghosts = fade most (ghosts ++ member_of e ∷ []) })
    (λ (q : Queues). turns_at q.small q.main < turns_at (e ∷ d ∷ small) main)
    (λ _. omega (arith, small-ends most d small (main ++ with_count 0 e ∷ []) ghosts, length-append main (with_count 0 e ∷ [])))
    (λ _. omega arith)

-- ---- the main queue
main-weight : (f : ℕ → ℕ → ℕ) (turns : ℕ) (main : List Entry) → weight f (shrink_main turns main) ≤ weight f main
main-weight f zero main = omega arith
main-weight f (suc turns) [] = omega arith
main-weight f (suc turns) (e ∷ main) =
    cond_both (eqb e.count 0) main (shrink_main turns (main ++ with_count (e.count - 1) e ∷ [])) (λ es. weight f es ≤ weight f (e ∷ main))
    (λ _. omega (arith, weight-cons f e main))
    (λ _. omega (arith, main-weight f turns (main ++ with_count (e.count - 1) e ∷ []), weight-push f main (with_count (e.count - 1) e), weight-cons f e main))

turns-push : (main : List Entry) (e : Entry) → turns_of (main ++ e ∷ []) ≡ turns_of main + (e.count + 1)
turns-push main e = sum_by_push (λ (f : Entry). f.count + 1) main e

pub main-ends : (turns : ℕ) (main : List Entry) → turns_of main ≤ turns → 0 < length main → length (shrink_main turns main) < length main
main-ends turns [] few some = absurd (omega arith)
main-ends zero (e ∷ main) few some = absurd (omega (arith, sum_by-cons (λ (f : Entry). f.count + 1) e main))
main-ends (suc turns) (e ∷ main) few some =
    cond_both (eqb e.count 0) main (shrink_main turns (main ++ with_count (e.count - 1) e ∷ [])) (λ es. length es < length (e ∷ main))
    (λ _. omega arith)
    (λ hit.
    let counts : 0 < e.count = above (eqb-false e.count 0 hit) in
    let less : turns_of (main ++ with_count (e.count - 1) e ∷ []) ≤ turns = omega (arith, turns-push main (with_count (e.count - 1) e), sum_by-cons (λ (f : Entry). f.count + 1) e main) in
    omega (arith, main-ends turns (main ++ with_count (e.count - 1) e ∷ []) less (omega (arith, length-append main (with_count (e.count - 1) e ∷ []))), length-append main (with_count (e.count - 1) e ∷ [])))
  where
    above : ((e.count ≡ 0) → ⊥) → 0 < e.count
    above some = omega (arith, some)

-- ---- one turn
module _ (capacity : ℕ) where
  pub shrink-part : (q : Queues) → IsPart (queue_entries (shrink capacity q)) (queue_entries q)
  shrink-part q f =
      let after : Queues → Type 0 = λ r. weight f (queue_entries r) ≤ weight f (queue_entries q) in
      cond_both (not (is_empty q.small) && (leb (part_of capacity) (used q.small) || is_empty q.main))
      (shrink_small (capacity - part_of capacity) q.small q.main q.ghosts) (record { small = q.small; main = shrink_main (turns_of q.main) q.main; ghosts = q.ghosts }) after
      (λ _.
      let r : Queues = shrink_small (capacity - part_of capacity) q.small q.main q.ghosts in
      omega (arith, small-weight f (capacity - part_of capacity) q.small q.main q.ghosts, weight-append f r.small r.main, weight-append f q.small q.main))
      (λ _. omega (arith, main-weight f (turns_of q.main) q.main, weight-append f q.small (shrink_main (turns_of q.main) q.main), weight-append f q.small q.main))

  abbrev pub turns_left : Queues → ℕ
  turns_left q = turns_at q.small q.main

  at-ends : (small main : List Entry) (ghosts : List Member) → 0 < used small + used main → turns_left (shrink capacity (record { small = small; main = main; ghosts = ghosts })) < turns_at small main
  at-ends [] [] ghosts some = absurd (omega arith)
  at-ends [] (d ∷ main) ghosts some = omega (arith, main-ends (turns_of (d ∷ main)) (d ∷ main) (omega arith) (omega arith))
  at-ends (e ∷ small) [] ghosts some = either (leb (part_of capacity) (used (e ∷ small)))
    where
      either : (b : Bool) → turns_left (cond (b || true) (shrink_small (capacity - part_of capacity) (e ∷ small) [] ghosts) (record { small = e ∷ small; main = []; ghosts = ghosts })) < turns_at (e ∷ small) []
      either true = small-ends (capacity - part_of capacity) e small [] ghosts
      either false = small-ends (capacity - part_of capacity) e small [] ghosts
  at-ends (e ∷ small) (d ∷ main) ghosts some =
      cond_both (leb (part_of capacity) (used (e ∷ small)) || false)
      (shrink_small (capacity - part_of capacity) (e ∷ small) (d ∷ main) ghosts) (record { small = e ∷ small; main = shrink_main (turns_of (d ∷ main)) (d ∷ main); ghosts = ghosts })
      (λ (q : Queues). turns_left q < turns_at (e ∷ small) (d ∷ main))
      (λ _. small-ends (capacity - part_of capacity) e small (d ∷ main) ghosts)
      (λ _. omega (arith, main-ends (turns_of (d ∷ main)) (d ∷ main) (omega arith) (omega arith)))

  pub shrink-ends : (q : Queues) → 0 < queues_used q → turns_left (shrink capacity q) < turns_left q
  shrink-ends q some = at-ends q.small q.main q.ghosts some

-- ---- the queues of a state
pub queue-entries : (s : State) → queue_entries (queues_of s) ≡ s.entries
queue-entries s = take-append-drop s.beside.first s.entries

enter-weight : (f : ℕ → ℕ → ℕ) (e : Entry) (q : Queues) → weight f (queue_entries (enter e q)) ≡ weight f (queue_entries q) + f e.object e.size
enter-weight f e q =
    cond_both (has_member q.ghosts e.object) (record { small = q.small; main = q.main ++ e ∷ []; ghosts = filter (λ m. not (eqb m.object e.object)) q.ghosts }) (record { small = q.small ++ e ∷ []; main = q.main; ghosts = q.ghosts })
    (λ (r : Queues). weight f (queue_entries r) ≡ weight f (queue_entries q) + f e.object e.size)
    (λ _. omega (arith, weight-append f q.small (q.main ++ e ∷ []), weight-push f q.main e, weight-append f q.small q.main))
    (λ _. omega (arith, weight-append f (q.small ++ e ∷ []) q.main, weight-push f q.small e, weight-append f q.small q.main))

module _ (s : State) (object size : ℕ) where
  abbrev left : Queues
  left = until_fits (shrink s.capacity) queues_used s.capacity size (2 * length s.entries) (queues_of s)

  abbrev pub s3fifo_missed : List Entry
  s3fifo_missed = (stock_of_queues (enter (fresh_entry S3Fifo s.now object size None) left)).entries

  pub s3fifo-part : IsPart s3fifo_missed (fresh_entry S3Fifo s.now object size None ∷ s.entries)
  s3fifo-part f =
      omega (
        arith,
        enter-weight f (fresh_entry S3Fifo s.now object size None) left,
        until-part (shrink s.capacity) queues_used s.capacity size queue_entries (shrink-part s.capacity) (2 * length s.entries) (queues_of s) f,
        ap (weight f) (queue-entries s),
        weight-cons f (fresh_entry S3Fifo s.now object size None) s.entries,
      )

  pub s3fifo-room : size ≤ s.capacity → used s3fifo_missed ≤ s.capacity
  s3fifo-room small =
      omega (
        arith,
        enter-weight (λ o n. n) (fresh_entry S3Fifo s.now object size None) left,
        queue-used left,
        until-room (shrink s.capacity) queues_used s.capacity size (turns_left s.capacity) (shrink-ends s.capacity) (2 * length s.entries) (queues_of s)
            (omega (arith, length-append (take s.beside.first s.entries) (drop s.beside.first s.entries), ap length (queue-entries s))) small,
      )

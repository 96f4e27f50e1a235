-- What is kept after a request: it is in order, and stands for the walk.
use Rattle.std.proofs.Common.{◌≡◌, ℕ, ◌+◌, ◌-◌, ◌≤◌, refl, subst, max, Bool, true, false, List, [], ◌∷◌, arith, map, filter, nat_le, not, le_antisymm}
use Rattle.std.specs.List.{AllByRecursion}
use Rattle.std.proofs.Math.Nat.{le-max_left, le-max_right, max-le}
use Rattle.ttl_laws.specs.Runs.{Start, Walk, going_on as walk_going_on, with_request, with_step}
use Rattle.ttl_walk.specs.declared.starts.Candidate.{Candidate}
use Rattle.ttl_walk.specs.Queue.{IsQueue, first_worth, going_on, is_fresh, with_candidate}
use Rattle.ttl_walk.specs.Kept.{Kept, latest_clock, IsInOrder, StandsFor}
use Rattle.ttl_laws.proofs.Objects.{all-map, all-pass}
use Rattle.ttl_laws.proofs.Starts.{one-map, greatest-any, greatest-le}
use Rattle.ttl_walk.proofs.Lists.{all-append, one-last, all-le-greatest}
use Rattle.ttl_walk.proofs.Queues.{first-most, queue-going_on, queue-with_candidate}
use Rattle.ttl_walk.proofs.Standing.{Known, Enough, own, top-is, known-step, enough-step, known-going_on, enough-going_on, known-joined, enough-joined}

-- all of those that go on are so if all are
pub all-going_on : (P : Candidate → Type 0) (fills : Bool) (ttl now : ℕ) (xs : List Candidate)
    → AllByRecursion P xs → AllByRecursion P (going_on fills ttl now xs)
all-going_on P true ttl now xs all = tt
all-going_on P false ttl now xs all = all-pass P P (is_fresh ttl now) xs (λ c is e. is) all

-- what is kept after a request
abbrev pub kept_after : Bool → ℕ → ℕ → ℕ → ℕ → Kept → Kept
kept_after fills ttl now gain priced k =
    let level = (k.level - priced) + gain in
    let starts = going_on fills ttl now k.starts in
    record { level = level; top = max k.top (first_worth level starts); starts = with_candidate (own now level k.top) starts }

module _ (fills : Bool) (ttl now gain priced : ℕ) (k : Kept) (is : IsInOrder k)
    (late : latest_clock k ≤ now) (paid : k.top + priced ≤ k.level) where
  abbrev level : ℕ
  level = (k.level - priced) + gain

  abbrev starts : List Candidate
  starts = going_on fills ttl now k.starts

  abbrev after : Kept
  after = kept_after fills ttl now gain priced k

  early : AllByRecursion (λ c. c.clock ≤ now) starts
  early = all-going_on (λ c. c.clock ≤ now) fills ttl now k.starts (all-le-greatest (λ c. c.clock) 0 now k.starts late)

  abbrev passes : Candidate → Bool
  passes d = not (nat_le (level - k.top) d.floor)

  early-joined : AllByRecursion (λ c. c.clock ≤ now) after.starts
  early-joined =
      all-append (λ c. c.clock ≤ now) (filter passes starts) (own now level k.top)
      (all-pass (λ c. c.clock ≤ now) (λ c. c.clock ≤ now) passes starts (λ c low e. low) early) (omega arith)

  queue : IsQueue starts
  queue = queue-going_on fills ttl now k.starts is.starts

  pub after-stands : (w : Walk) → StandsFor k w → StandsFor after (with_request fills now ttl gain (with_step priced w))
  after-stands w stands =
      let within : k.top ≤ level = omega (arith, paid) in
      let low : priced ≤ k.level = omega (arith, paid) in
      let stepped : Walk = with_step priced w in
      let runs : List Start = walk_going_on fills now ttl gain stepped.starts in
      let known : Known level starts runs =
      known-going_on fills ttl now gain (k.level - priced) k.starts stepped.starts
      (known-step k.level priced k.starts w.starts low stands.known) in
      let enough : Enough level starts runs =
      enough-going_on fills ttl now gain (k.level - priced) k.starts stepped.starts
      (enough-step k.level priced k.starts w.starts low stands.enough) in
      subst (λ t. StandsFor after (asked t)) stands.top
      (record {
        top = top-is level k.top now starts runs queue known enough;
        known = known-joined level k.top now starts runs within known;
        enough = enough-joined level k.top now starts runs within early enough;
      })
    where
      asked : ℕ → Walk
      asked t = with_request fills now ttl gain (record { top = t; starts = (with_step priced w).starts })

  -- a run from the first earned no more than the gain, above the greatest worth
  first-le : first_worth level starts ≤ k.top + gain
  first-le = at starts (all-going_on (λ c. k.level ≤ c.floor + k.top) fills ttl now k.starts is.greatest)
    where
      at : (xs : List Candidate) → AllByRecursion (λ c. k.level ≤ c.floor + k.top) xs → first_worth level xs ≤ k.top + gain
      at [] all = omega arith
      at (c ∷ later) all = omega (arith, all.0)

  pub after-top : after.top ≤ k.top + gain
  after-top = max-le (omega arith) first-le

  pub after-clock : latest_clock after ≡ now
  after-clock =
      le_antisymm
      (greatest-le 0 now (map (λ c. c.clock) after.starts) (omega arith)
      (all-map (λ c. c.clock ≤ now) (λ n. n ≤ now) (λ c. c.clock) after.starts (λ c low. low) (early-joined)))
      (greatest-any 0 now (map (λ c. c.clock) after.starts)
      (one-map (λ c. now ≤ c.clock) (λ n. now ≤ n) (λ c. c.clock) after.starts (λ c low. low)
      (one-last (λ c. now ≤ c.clock) (filter passes starts) (own now level k.top) (omega arith))))

  pub after-order : IsInOrder after
  after-order =
      record {
        starts = queue-with_candidate (own now level k.top) starts queue early;
        within = max-le (omega (arith, paid)) (first-within starts);
        greatest =
            all-append (λ c. level ≤ c.floor + after.top) (filter passes starts) (own now level k.top)
            (all-pass (λ c. level - c.floor ≤ first_worth level starts) (λ c. level ≤ c.floor + after.top) passes starts
            (λ c low e. omega (arith, low, le-max_right k.top (first_worth level starts))) (first-most level starts queue))
            (omega (arith, le-max_left k.top (first_worth level starts)));
      }
    where
      first-within : (xs : List Candidate) → first_worth level xs ≤ level
      first-within [] = omega arith
      first-within (c ∷ later) = omega arith

-- as it is made step by step
pub made-after : (fills : Bool) (ttl now gain priced : ℕ) (k : Kept) (kept went joined : List Candidate) (first top : ℕ)
    → kept ≡ k.starts → went ≡ going_on fills ttl now kept → first ≡ first_worth ((k.level - priced) + gain) went
    → top ≡ max k.top first → joined ≡ with_candidate (own now ((k.level - priced) + gain) k.top) went
    → kept_after fills ttl now gain priced k ≡ record { level = (k.level - priced) + gain; top = top; starts = joined }
made-after fills ttl now gain priced k kept went joined first top is goes firsts tops joins = rw (joins, tops, firsts, goes, is) refl

-- What is kept of an object from request to request, and the walk that it stands for. A run is worth what the level is above the floor of its start.
use Rattle.std.specs.Prelude.{◌≡◌, ℕ, ◌+◌, ◌≤◌, max, List, fold, map}
use Rattle.std.specs.List.{AllByRecursion}
use Rattle.ttl_laws.specs.Runs.{HasOne, Start, Walk}
use Rattle.ttl_walk.specs.declared.starts.Candidate.{Candidate}
use Rattle.ttl_walk.specs.Queue.{IsQueue}

-- the level, which rises by each gain and falls by each price, the greatest worth so far, and the starts that can still matter
pub record Kept : Type 0 where
  pub level : ℕ
  pub top : ℕ
  pub starts : List Candidate

-- the clock of the latest start, and 0 if there is none
abbrev pub latest_clock : Kept → ℕ
latest_clock k = fold max 0 (map (λ c. c.clock) k.starts)

-- the starts are a queue, and the greatest worth is within the level and no less than that of a run from any of them
pub record IsInOrder (k : Kept) : Type 0 where
  pub starts : IsQueue k.starts
  pub within : k.top ≤ k.level
  pub greatest : AllByRecursion (λ c. k.level ≤ c.floor + k.top) k.starts

-- at this level the start that is kept is that of the walk: at its clock, and a run from it is worth the same, above 0 or below
abbrev pub IsSameStart : ℕ → Candidate → Start → Type 0
IsSameStart level c s = (c.clock ≡ s.clock) × (c.floor + (s.before + s.earned) ≡ level + s.priced)

-- the start that is kept is no older, and a run from it is worth no less
abbrev pub IsNoWorse : ℕ → Candidate → Start → Type 0
IsNoWorse level c s = (s.clock ≤ c.clock) × (c.floor + (s.before + s.earned) ≤ level + s.priced)

-- the greatest worth is that of the walk; each start that is kept is one of the walk, and for each of the walk one is kept that is no worse
pub record StandsFor (k : Kept) (w : Walk) : Type 0 where
  pub top : k.top ≡ w.top
  pub known : AllByRecursion (λ c. HasOne (IsSameStart k.level c) w.starts) k.starts
  pub enough : AllByRecursion (λ s. HasOne (λ c. IsNoWorse k.level c s) k.starts) w.starts

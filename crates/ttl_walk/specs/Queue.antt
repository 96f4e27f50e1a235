-- The starts of an object from which a run may go on, and that can still matter: those that are worth less than a later one have left.
use Rattle.std.specs.Prelude.{ℕ, ◌+◌, ◌-◌, ◌<◌, ◌≤◌, nat_le, Bool, false, not, if◌then◌else◌, List, [], ◌∷◌, ◌++◌}
use Rattle.std.specs.List.{AllByRecursion, filter}
use Rattle.ttl_walk.specs.declared.starts.Candidate.{Candidate}

-- from front to back they are no older, and their floors rise
abbrev pub IsQueue : List Candidate → Type 0
IsQueue [] = Unit {0}
IsQueue (c ∷ later) = AllByRecursion (λ d. (c.clock ≤ d.clock) × (c.floor < d.floor)) later × IsQueue later

-- whether a start is no more than the ttl before this clock
abbrev pub is_fresh : ℕ → ℕ → Candidate → Bool
is_fresh ttl now c = nat_le now (c.clock + ttl)

-- whether the one at the front is older
abbrev pub begins_old : ℕ → ℕ → List Candidate → Bool
begins_old ttl now [] = false
begins_old ttl now (c ∷ later) = not (is_fresh ttl now c)

-- those from which a run goes on past a request that only fills or not: none, or those that are fresh
abbrev pub going_on : Bool → ℕ → ℕ → List Candidate → List Candidate
going_on fills ttl now starts = if fills then [] else filter (is_fresh ttl now) starts

-- what a run from the one at the front is worth at this level, and 0 if there is none
abbrev pub first_worth : ℕ → List Candidate → ℕ
first_worth level [] = 0
first_worth level (c ∷ later) = level - c.floor

-- whether the floor of the one at the back is no lower
abbrev pub ends_no_lower : ℕ → List Candidate → Bool
ends_no_lower floor [] = false
ends_no_lower floor (c ∷ []) = nat_le floor c.floor
ends_no_lower floor (c ∷ d ∷ later) = ends_no_lower floor (d ∷ later)

-- a start joins those whose floors are lower, and the others leave
abbrev pub with_candidate : Candidate → List Candidate → List Candidate
with_candidate c starts = filter (λ d. not (nat_le c.floor d.floor)) starts ++ c ∷ []

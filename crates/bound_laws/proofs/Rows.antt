-- The definitions at small traces, computed.
use Rattle.std.proofs.Common.{◌≡◌, ℕ, zero, suc, ◌≤◌, Bool, true, List, [], ◌∷◌, refl, arith, sum_by}
use Rattle.cache_model.specs.declared.objects.Object.{Object}
use Rattle.cache_model.specs.declared.objects.Objective.TheVariants.{Object as Hits, Bytes}
use Rattle.cache_model.specs.Claim.{contents_of, gain_of, held_before, terms_from, total_size}
use Rattle.cache_model.specs.Intervals.{bound_of, eligible_intervals}
use Rattle.cache_model.proofs.Keeps.{contents_of_keeps}
use Rattle.cache_model.proofs.Steps.{no_policy_scores_more_lem}
use Rattle.bound_laws.specs.Laws.{IsGreatestScore, missed, prefetched, units_fewer}

abbrev object : ℕ → Object
object id = record { volume = 0; id = id; size = 2 }

-- A B A B at a capacity of one object: B is prefetched, and then A
abbrev trace : List Object
trace = object 1 ∷ object 2 ∷ object 1 ∷ object 2 ∷ []

abbrev ahead : List (List Object)
ahead = [] ∷ (object 2 ∷ []) ∷ (object 1 ∷ []) ∷ (object 2 ∷ []) ∷ [] ∷ []

first_misses : missed Hits 0 trace ahead ≡ 1
first_misses = refl

three_prefetches : prefetched Hits trace ahead ≡ 3
three_prefetches = refl

bytes_prefetched : prefetched Bytes trace ahead ≡ 6
bytes_prefetched = refl

-- allowed contents hit once: four requests are within one hit, one miss and three prefetches
asked_for : sum_by (gain_of Hits) trace ≡ 4
asked_for = refl

-- the price 1 for the second step bounds the hits by 1 at one object, and by none at the capacity 1, which has no unit
bound_at_one : bound_of (eligible_intervals (terms_from Hits 2 0 []) trace) 2 1 1 (0 ∷ 1 ∷ 0 ∷ 0 ∷ []) ≡ 1
bound_at_one = refl

one_unit_fewer : units_fewer 2 1 2 ≡ 1
one_unit_fewer = refl

-- no contents hit more than once at one object, and A, kept at its first request, hits once
first_kept : List Bool
first_kept = true ∷ []

fits : (t : ℕ) → t ≤ 4 → total_size (held_before trace first_kept t) ≤ 2
unfolding first_kept
fits zero within = omega arith
fits (suc zero) within = omega arith
fits (suc (suc zero)) within = omega arith
fits (suc (suc (suc zero))) within = omega arith
fits (suc (suc (suc (suc zero)))) within = omega arith
fits (suc (suc (suc (suc (suc t))))) within = absurd (omega arith)

greatest_at_one : IsGreatestScore (terms_from Hits 2 0 []) trace 1
unfolding first_kept
greatest_at_one = record {
  contents = contents_of trace first_kept;
  allowed = contents_of_keeps trace 2 first_kept fits;
  scored = refl;
  greatest = λ others allowed. omega (arith, no_policy_scores_more_lem (terms_from Hits 2 0 []) 2 1 trace (0 ∷ 1 ∷ 0 ∷ 0 ∷ []) others allowed refl, bound_at_one);
}

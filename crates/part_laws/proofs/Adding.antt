-- Scores add up over a cut.
use Rattle.std.proofs.Common.{◌≡◌, ℕ, ◌+◌, ◌-◌, ap, Bool, not, ◌&&◌, cond, nat_le, List, length, arith, sum_by}
use Rattle.std.specs.List.{range_with_len}
use Rattle.std.proofs.lemmas.Bool.{le-leb, lt-leb}
use Rattle.cache_model.specs.declared.objects.Object.{Object}
use Rattle.cache_model.specs.declared.objects.Objective.{Objective}
use Rattle.cache_model.specs.Claim.{Terms, holds, gain_of, before_request, request_at, only_fills, terms_from}
use Rattle.part_laws.specs.Laws.{earned_at, ScoresAddUp}
use Rattle.part_laws.proofs.Ranges.{sum_by-range_split, sum_by-range_from}

-- what a request earns at contents
abbrev pub earns : Objective → Object × List Object → ℕ
earns objective = λ (x, held). cond (holds held x) (gain_of objective x) 0

-- what a request of x adds to a score: whether it is past the warm-up, whether it only fills, and what is held before it
abbrev pub adds : Objective → Bool → Bool → List Object → Object → ℕ
adds objective past fills held x = cond ((past && not fills) && holds held x) (gain_of objective x) 0

-- what request t adds to the score
abbrev pub scored_at : Terms → List Object → List (List Object) → ℕ → ℕ
scored_at terms trace contents t = adds terms.objective (nat_le terms.warmup t) (only_fills terms.fills t) (before_request contents t) (request_at trace t)

pub scores_add_up : ScoresAddUp
scores_add_up objective trace fills contents = record {
  at_a_cut = λ first cut end low high.
      let earned : ℕ → ℕ = earned_at objective trace fills contents in
      let whole : end - first ≡ (cut - first) + (end - cut) = omega arith in
      let place : first + (cut - first) ≡ cut = omega arith in
      omega (
        arith,
        ap (λ n. sum_by earned (range_with_len first n)) whole,
        sum_by-range_split earned first (cut - first) (end - cut),
        ap (λ a. sum_by earned (range_with_len a (end - cut))) place,
      );
  from_the_warmup = λ capacity warmup.
      sum_by-range_from (scored_at (terms_from objective capacity warmup fills) trace contents) (earned_at objective trace fills contents) warmup (length trace)
      (λ t early. ap (λ past. adds objective past (only_fills fills t) (before_request contents t) (request_at trace t)) (lt-leb warmup t early))
      (λ t late. ap (λ past. adds objective past (only_fills fills t) (before_request contents t) (request_at trace t)) (le-leb warmup t late));
}

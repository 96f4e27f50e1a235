-- The score of contents of keeps, one request later.
use Rattle.std.proofs.Common.{◌≡◌, ◌∙◌, ◌≤◌, ◌+◌, ◌^◌, ℕ, Bool, true, false, cond, ◌&&◌, List, sym, ap, arith, length, sum_by}
use Rattle.std.specs.List.{range_with_len}
use Rattle.cache_model.specs.declared.objects.Object.{Object}
use Rattle.cache_model.specs.declared.objects.Objective.{Objective}
use Rattle.cache_model.specs.declared.objects.Objective.TheVariants.{Object as Hits, Bytes}
use Rattle.cache_model.specs.Claim.{Terms, counts, gain_of, holds, held_before, request_at, score, contents_of}
use Rattle.cache_model.proofs.Scores.{earned_at, earned-more, score-requests}

-- what a request earns
abbrev pub earned_of : Terms → ℕ → Object → Bool → ℕ
earned_of terms t object hit = cond (counts terms t && hit) (gain_of terms.objective object) 0

-- what is earned, one request later
pub gains_more : (terms : Terms) (trace : List Object) (keeps : List Bool) (t before after : ℕ) (hit : Bool) (object : Object)
    → before ≡ sum_by (earned_at terms trace keeps) (range_with_len 0 t)
    → object ≡ request_at trace t
    → hit ≡ holds (held_before trace keeps t) (request_at trace t)
    → after ≡ before + earned_of terms t object hit
    → after ≡ sum_by (earned_at terms trace keeps) (range_with_len 0 (t + 1))
gains_more terms trace keeps t before after hit object gains_is object_is hit_is adds =
    let earned : earned_of terms t object hit ≡ earned_at terms trace keeps t =
    ap (earned_of terms t object) hit_is ∙ ap (λ (x : Object). earned_of terms t x (holds (held_before trace keeps t) (request_at trace t))) object_is in
    omega (arith, earned-more terms trace keeps t)

-- all that is earned is the score
pub gains_all : (terms : Terms) (trace : List Object) (keeps : List Bool) (t gains : ℕ)
    → gains ≡ sum_by (earned_at terms trace keeps) (range_with_len 0 t) → t ≡ length trace → gains ≡ score terms trace (contents_of trace keeps)
gains_all terms trace keeps t gains earned end =
    earned ∙ ap (λ n. sum_by (earned_at terms trace keeps) (range_with_len 0 n)) end ∙ sym (score-requests terms trace keeps)

-- a hit earns no more than the largest size
gain_of-le : (objective : Objective) (x : Object) → (1 ≤ x.size) × (x.size ≤ 2 ^ 48) → gain_of objective x ≤ 2 ^ 48
gain_of-le Hits x sized = omega arith
gain_of-le Bytes x sized = omega arith

-- what is earned or not is at most what a hit earns
pub earned_of-le : (terms : Terms) (t : ℕ) (object : Object) (hit : Bool) → (1 ≤ object.size) × (object.size ≤ 2 ^ 48) → earned_of terms t object hit ≤ 2 ^ 48
earned_of-le terms t object hit sized = at (counts terms t && hit)
  where
    at : (earns : Bool) → cond earns (gain_of terms.objective object) 0 ≤ 2 ^ 48
    at true = gain_of-le terms.objective object sized
    at false = omega arith

-- No request is for a larger object than the greatest.
use Rattle.std.proofs.Common.{ℕ, zero, suc, ◌≤◌, List, [], ◌∷◌, fold, max, arith}
use Rattle.cache_model.specs.declared.objects.Object.{Object}
use Rattle.cache_model.specs.Claim.{request_at}
use Rattle.byte_curve.specs.Sizes.{greatest_size}

-- the greatest so far only rises
greatest-rises : (most : ℕ) (trace : List Object) → most ≤ fold (λ most x. max most x.size) most trace
greatest-rises most [] = omega arith
greatest-rises most (x ∷ xs) = omega (arith, greatest-rises (max most x.size) xs)

-- no request is for a larger object, if the greatest is sought from a size on
greatest-from : (most : ℕ) (trace : List Object) (t : ℕ) → (request_at trace t).size ≤ fold (λ most x. max most x.size) most trace
greatest-from most [] t = omega arith
greatest-from most (x ∷ xs) zero = omega (arith, greatest-rises (max most x.size) xs)
greatest-from most (x ∷ xs) (suc t) = greatest-from (max most x.size) xs t

-- no request is for a larger object than the greatest
pub size-greatest : (trace : List Object) (t : ℕ) → (request_at trace t).size ≤ greatest_size trace
size-greatest trace t = greatest-from 0 trace t

-- Intervals at capacities that no object is larger than: they are the same.
use Rattle.std.proofs.Common.{◌≡◌, ◌∙◌, ℕ, ◌≤◌, ap, sym, refl, arith, Bool, nat_le, List, [], ◌∷◌, ◌++◌, map}
use Rattle.std.specs.List.{flat_map}
use Rattle.std.proofs.lemmas.Bool.{le-leb}
use Rattle.std.proofs.lemmas.List.Elements.{filter_agree}
use Rattle.cache_model.specs.declared.objects.Object.{Object}
use Rattle.cache_model.specs.declared.objects.Objective.{Objective}
use Rattle.cache_model.specs.declared.intervals.Interval.{Interval}
use Rattle.cache_model.specs.Claim.{request_at, terms_from}
use Rattle.cache_model.specs.Intervals.{eligible_from, eligible_intervals, interval_of, is_eligible}
use Rattle.cache_model.specs.Objects.{numbers_of}
use Rattle.byte_curve.specs.Sizes.{greatest_size}
use Rattle.byte_curve.proofs.SizeLemmas.{size-greatest}

-- two functions that agree give the same list
flat_map-agree : (f g : ℕ → List Interval) → ((t : ℕ) → f t ≡ g t) → (ts : List ℕ) → flat_map f ts ≡ flat_map g ts
flat_map-agree f g same [] = refl
flat_map-agree f g same (t ∷ ts) = ap (λ xs. xs ++ flat_map f ts) (same t) ∙ ap (λ xs. g t ++ xs) (flat_map-agree f g same ts)

module _ (o : Objective) (warmup : ℕ) (fills : List Bool) (trace : List Object) (c d : ℕ) (c_large : greatest_size trace ≤ c) (d_large : greatest_size trace ≤ d) where
  -- each object fits in both
  both-fit : (a : ℕ) → nat_le (request_at trace a).size c ≡ nat_le (request_at trace a).size d
  both-fit a =
      le-leb (request_at trace a).size c (omega (arith, size-greatest trace a))
      ∙ sym (le-leb (request_at trace a).size d (omega (arith, size-greatest trace a)))

  same-from : (a : ℕ) → eligible_from (terms_from o c warmup fills) trace a ≡ eligible_from (terms_from o d warmup fills) trace a
  same-from a =
      ap (map (interval_of o trace a))
      (filter_agree (is_eligible (terms_from o c warmup fills) trace a) (is_eligible (terms_from o d warmup fills) trace a) (λ b. rw (both-fit a) refl) (numbers_of trace))

  -- the intervals are the same
  pub same-intervals : eligible_intervals (terms_from o c warmup fills) trace ≡ eligible_intervals (terms_from o d warmup fills) trace
  same-intervals = flat_map-agree (eligible_from (terms_from o c warmup fills) trace) (eligible_from (terms_from o d warmup fills) trace) same-from (numbers_of trace)

-- The least bounds of what is kept.
use Rattle.std.proofs.Common.{◌≡◌, ℕ, ◌<◌, ◌∙◌, sym, ap, subst, List, length, get_or, zip, arith}
use Rattle.std.proofs.lemmas.List.{get_or-map, length-map}
use Rattle.std.proofs.lemmas.Slice.Zip.{get_or-zip, length-zip}
use Rattle.cache_model.specs.declared.objects.Objective.TheVariants.{Object as Hits, Bytes}
use Rattle.area_sums.specs.declared.bound.CapacityBounds.{CapacityBounds}
use Rattle.area_sums.specs.declared.bound.EdgeBound.{EdgeBound}
use Rattle.area_sums.specs.Bounds.{IsLeastBound, at_place}
use Rattle.area_sums.specs.Groups.{AreLeastBounds, Sums, groups_of}
use Rattle.area_sums.specs.Places.{AreLeastBefore, edge_bound_at, pairs}

module _ (hits bytes : List EdgeBound) (same : length hits ≡ length bytes) where
  length-pairs : length (pairs hits bytes) ≡ length hits
  length-pairs = length-map (zip hits bytes) (λ p. record { hits = p.0; bytes = p.1 }) ∙ omega (arith, length-zip hits bytes)

  at_place-pairs : (place : ℕ) → place < length hits → at_place (pairs hits bytes) place ≡ record { hits = edge_bound_at hits place; bytes = edge_bound_at bytes place }
  at_place-pairs place low =
      let none : EdgeBound = record { upper = 0; edge = 0 } in
      let f : EdgeBound × EdgeBound → CapacityBounds = λ p. record { hits = p.0; bytes = p.1 } in
      get_or-map f (zip hits bytes) place (none, none) (record { hits = none; bytes = none }) (omega (arith, length-zip hits bytes))
      ∙ ap f (get_or-zip hits bytes place (none, none) low (omega arith))

-- the bounds of both are those of whatever spans the sums are
pub least-pairs : (sums : Sums) (steps : ℕ) (hits bytes : List EdgeBound)
    → AreLeastBefore (length sums.capacities) steps sums.capacities (groups_of sums.hits) hits
    → AreLeastBefore (length sums.capacities) steps sums.capacities (groups_of sums.bytes) bytes
    → AreLeastBounds sums steps (pairs hits bytes)
least-pairs sums steps hits bytes of_hits of_bytes =
    let same : length hits ≡ length bytes = of_hits.each ∙ sym of_bytes.each in
    let len : length (pairs hits bytes) ≡ length hits = length-pairs hits bytes same in
    let is : (place : ℕ) → place < length (pairs hits bytes) → at_place (pairs hits bytes) place ≡ record { hits = edge_bound_at hits place; bytes = edge_bound_at bytes place } =
    λ place low. at_place-pairs hits bytes same place (omega (arith, len)) in
    record {
      each = len ∙ of_hits.each;
      edges = λ place low. (
        omega (arith, ap (λ (b : CapacityBounds). b.hits.edge) (is place low), of_hits.edges place (omega (arith, len, of_hits.each))),
        omega (arith, ap (λ (b : CapacityBounds). b.bytes.edge) (is place low), of_bytes.edges place (omega (arith, len, of_hits.each))),
      );
      hits = λ place low. λ spans s.
          subst (IsLeastBound Hits (get_or sums.capacities place 0) steps spans) (sym (ap (λ (b : CapacityBounds). b.hits) (is place low)))
          (of_hits.least Hits spans s.sizes s.hits place (omega (arith, len, of_hits.each)));
      bytes = λ place low. λ spans s.
          subst (IsLeastBound Bytes (get_or sums.capacities place 0) steps spans) (sym (ap (λ (b : CapacityBounds). b.bytes) (is place low)))
          (of_bytes.least Bytes spans s.sizes s.bytes place (omega (arith, len, of_hits.each)));
    }

-- The least bound of the spans is the bound of the trace that a sweep tells.
use Rattle.std.proofs.Common.{◌≡◌, ℕ, zero, suc, ◌+◌, ◌-◌, ◌*◌, ◌/◌, ◌<◌, ◌≤◌, inl, inr, ◌∙◌, sym, refl, ap, subst, Bool, true, false, cond, eqb, List, [], ◌∷◌, length, arith, Contains, sum_by, eq-eqb}
use Rattle.std.proofs.Math.Nat.{mul-sub}
use Rattle.std.proofs.lemmas.Bool.{eqb-true}
use Rattle.std.proofs.lemmas.List.Sums.{get_or-le-sum_by, sum_by-cons}
use Rattle.cache_model.specs.declared.objects.Object.{Object}
use Rattle.cache_model.specs.declared.objects.Objective.{Objective}
use Rattle.cache_model.specs.declared.objects.Objective.TheVariants.{Object as Hits, Bytes}
use Rattle.cache_model.specs.declared.intervals.Interval.{Interval}
use Rattle.cache_model.specs.Claim.{Terms, request_at, same_object, score, terms_from}
use Rattle.cache_model.specs.Intervals.{eligible_intervals, interval_of}
use Rattle.cache_model.proofs.Duality.{same_object-true}
use Rattle.area_laws.specs.Late.{IsAllowedLate}
use Rattle.area_laws.specs.Areas.{area_surplus, edge_bound, gains_of}
use Rattle.area_laws.proofs.Policies.{areas_bound_every_policy, gains_bound_every_policy}
use Rattle.area_sums.specs.declared.bound.EdgeBound.{EdgeBound}
use Rattle.area_sums.specs.Spans.{Span, cost_of as span_cost, edge_total, gain_of as span_gain, gain_total, within}
use Rattle.area_sums.specs.Bounds.{IsLeastBound, IsNextTo as IsNextToSpan, IsNoWorse, IsTried as IsTriedSpan, bound_at, floor_of}
use Rattle.sweep_bounds.specs.Spans.{span_from, spans_of}
use Rattle.sweep_bounds.specs.Bounds.{IsNextTo, IsSweepBound, IsTried, bound_over, cost_of}
use Rattle.sweep_bounds.proofs.Bridge.{sum_by-spans}

-- a sum with a term above 0 is above 0
sum-some : {X : Type 0} (f : X → ℕ) (xs : List X) (x : X) → Contains xs x → 0 < f x → 0 < sum_by f xs
sum-some f xs x (k, low, e) some = omega (arith, get_or-le-sum_by f xs k x low, ap f e)

-- and one above 0 has such a term
some-sum : {X : Type 0} (f : X → ℕ) (xs : List X) → 0 < sum_by f xs → (x : X) × (Contains xs x × (0 < f x))
some-sum f [] some = absurd (omega arith)
some-sum {X} f (x ∷ xs) some = at (f x) refl (λ rest. some-sum f xs rest)
  where
    at : (n : ℕ) → f x ≡ n → (0 < sum_by f xs → (y : X) × (Contains xs y × (0 < f y))) → (y : X) × (Contains (x ∷ xs) y × (0 < f y))
    at (suc n) e others = (x, ((0, omega arith, refl), omega arith))
    at zero e others =
        let rest : (y : X) × (Contains xs y × (0 < f y)) = others (omega (arith, some, sum_by-cons f x xs)) in
        let member : Contains xs rest.0 = rest.1.0 in
        (rest.0, ((suc member.0, omega (arith, member.1), member.2), rest.1.1))

-- a test that counts is passed
passed : (b : Bool) → 0 < cond b 1 0 → b ≡ true
passed true some = refl
passed false some = absurd (omega arith)

module _ (objective : Objective) (capacity warmup : ℕ) (fills : List Bool) (delay : ℕ) (trace : List Object) where
  abbrev terms : Terms
  terms = terms_from objective capacity warmup fills

  abbrev spans : List Span
  spans = spans_of warmup delay fills trace

  abbrev steps : ℕ
  steps = length trace - 1

  -- two requests of one object have one size
  same_size : (a b : ℕ) → same_object (request_at trace a) (request_at trace b) ≡ true → (request_at trace a).size ≡ (request_at trace b).size
  same_size a b e = ap (λ (x : Object). x.size) (same_object-true (request_at trace a) (request_at trace b) e)

  -- what all gain
  gains-spans : gains_of (eligible_intervals terms trace) ≡ gain_total objective capacity spans
  gains-spans =
      sum_by-spans (λ (i : Interval). i.gain) (span_gain objective) terms delay trace (λ a b e. at objective a b)
    where
      at : (o : Objective) (a b : ℕ) → (interval_of o trace a b).gain ≡ span_gain o (span_from delay trace b a)
      at Hits a b = refl
      at Bytes a b = refl

  -- the total at an edge
  edge-spans : (edge : ℕ) → edge_bound terms delay edge trace ≡ edge_total objective capacity steps spans edge
  edge-spans edge =
      ap (λ n. capacity * steps + n)
      (sum_by-spans (area_surplus delay edge) (λ s. span_gain objective s * (edge - span_cost objective s)) terms delay trace
      (λ a b e. at objective a b (same_size a b e)))
    where
      at : (o : Objective) (a b : ℕ) → (request_at trace a).size ≡ (request_at trace b).size
          → area_surplus delay edge (interval_of o trace a b)
          ≡ span_gain o (span_from delay trace b a) * (edge - span_cost o (span_from delay trace b a))
      at Hits a b e = omega (arith, ap (λ n. n * (b - a - delay)) e)
      at Bytes a b e =
          omega (arith, ap (λ n. n * (b - a - delay)) e, mul-sub (request_at trace b).size edge (b - a - delay))

  -- how many have a cost that passes a test
  costs-spans : (test : ℕ → Bool) → sum_by (λ i. cond (test (cost_of objective delay i)) 1 0) (eligible_intervals terms trace)
      ≡ sum_by (λ s. cond (test (span_cost objective s)) 1 0) (within capacity spans)
  costs-spans test =
      sum_by-spans (λ i. cond (test (cost_of objective delay i)) 1 0) (λ s. cond (test (span_cost objective s)) 1 0) terms delay trace
      (λ a b e. ap (λ n. cond (test n) 1 0) (at objective a b (same_size a b e)))
    where
      at : (o : Objective) (a b : ℕ) → (request_at trace a).size ≡ (request_at trace b).size
          → cost_of o delay (interval_of o trace a b) ≡ span_cost o (span_from delay trace b a)
      at Hits a b e = ap (λ n. n * (b - a - delay)) e
      at Bytes a b e = refl

  -- the bound of an edge
  bound-spans : (edge : ℕ) → bound_at objective capacity steps spans edge ≡ bound_over terms delay trace edge
  bound-spans edge =
      let gains = sym gains-spans in
      let total = sym (edge-spans edge) in
      λ i. record { upper = cond (eqb edge 1) (gains i) (total i); edge = edge }

  -- a span within the capacity has the cost of an eligible interval
  interval-span : (s : Span) → Contains (within capacity spans) s
      → (i : Interval) × (Contains (eligible_intervals terms trace) i × (cost_of objective delay i ≡ span_cost objective s))
  interval-span s member =
      let cost : ℕ = span_cost objective s in
      let own : eqb cost cost ≡ true = eq-eqb cost cost refl in
      let some : 0 < cond (eqb cost cost) 1 0 = omega (arith, ap {B = ℕ} (λ b. cond b 1 0) own) in
      let found : (i : Interval) × (Contains (eligible_intervals terms trace) i × (0 < cond (eqb (cost_of objective delay i) cost) 1 0)) =
      some-sum (λ i. cond (eqb (cost_of objective delay i) cost) 1 0) (eligible_intervals terms trace)
      (omega (arith, costs-spans (λ n. eqb n cost), sum-some (λ t. cond (eqb (span_cost objective t) cost) 1 0) (within capacity spans) s member some)) in
      (found.0, (found.1.0, eqb-true (cost_of objective delay found.0) cost (passed (eqb (cost_of objective delay found.0) cost) found.1.1)))

  -- and the other way
  span-interval : (i : Interval) → Contains (eligible_intervals terms trace) i
      → (s : Span) × (Contains (within capacity spans) s × (span_cost objective s ≡ cost_of objective delay i))
  span-interval i member =
      let cost : ℕ = cost_of objective delay i in
      let own : eqb cost cost ≡ true = eq-eqb cost cost refl in
      let some : 0 < cond (eqb cost cost) 1 0 = omega (arith, ap {B = ℕ} (λ b. cond b 1 0) own) in
      let found : (s : Span) × (Contains (within capacity spans) s × (0 < cond (eqb (span_cost objective s) cost) 1 0)) =
      some-sum (λ s. cond (eqb (span_cost objective s) cost) 1 0) (within capacity spans)
      (omega (arith, costs-spans (λ n. eqb n cost), sum-some (λ j. cond (eqb (cost_of objective delay j) cost) 1 0) (eligible_intervals terms trace) i member some)) in
      (found.0, (found.1.0, eqb-true (span_cost objective found.0) cost (passed (eqb (span_cost objective found.0) cost) found.1.1)))

  -- the same edges are tried
  tried-spans : (edge : ℕ) → IsTriedSpan objective capacity spans edge → IsTried terms delay trace edge
  tried-spans edge (inl one) = inl one
  tried-spans edge (inr (s, of)) =
      let next : IsNextToSpan objective edge s = of.1 in
      let found : (i : Interval) × (Contains (eligible_intervals terms trace) i × (cost_of objective delay i ≡ span_cost objective s)) =
      interval-span s of.0 in
      inr (found.0, (found.1.0, subst (IsNextTo edge) (sym found.1.1) (record { above_one = next.above_one; next = next.next })))

  tried-intervals : (edge : ℕ) → IsTried terms delay trace edge → IsTriedSpan objective capacity spans edge
  tried-intervals edge (inl one) = inl one
  tried-intervals edge (inr (i, of)) =
      let found : (s : Span) × (Contains (within capacity spans) s × (span_cost objective s ≡ cost_of objective delay i)) =
      span-interval i of.0 in
      let next : IsNextTo edge (span_cost objective found.0) = subst (IsNextTo edge) (sym found.1.1) of.1 in
      inr (found.0, (found.1.0, record { above_one = next.above_one; next = next.next }))

  -- no contents score more than the floor
  score-floor : (edge : ℕ) (contents : List (List Object)) → 0 < edge → IsAllowedLate delay capacity trace contents
      → score terms trace contents ≤ floor_of (bound_over terms delay trace edge)
  score-floor edge contents positive allowed = at (eqb edge 1) refl
    where
      at : (b : Bool) → eqb edge 1 ≡ b
          → score terms trace contents ≤ cond b (gains_of (eligible_intervals terms trace)) (edge_bound terms delay edge trace) / edge
      at true e =
          let one : edge ≡ 1 = eqb-true edge 1 e in
          let most : score terms trace contents ≤ gains_of (eligible_intervals terms trace) = gains_bound_every_policy terms delay trace contents allowed in
          let whole : gains_of (eligible_intervals terms trace) / 1 ≡ gains_of (eligible_intervals terms trace) = omega arith in
          omega (arith, ap (λ n. gains_of (eligible_intervals terms trace) / n) one)
      at false e = (areas_bound_every_policy terms delay edge trace contents allowed).floor positive

  -- what is told of spans holds of the trace
  pub IsSweepBound-spans : (bound : EdgeBound) → 0 < bound.edge → IsLeastBound objective capacity steps spans bound
      → IsSweepBound terms delay trace bound
  IsSweepBound-spans bound positive least =
      let is : bound ≡ bound_over terms delay trace bound.edge = least.is_bound ∙ bound-spans bound.edge in
      record {
        no_more = λ contents allowed.
            subst (λ b. score terms trace contents ≤ floor_of b) (sym is) (score-floor bound.edge contents positive allowed);
        tried = tried-spans bound.edge least.tried;
        is_bound = is;
        least = λ edge tried.
            subst (IsNoWorse bound) (bound-spans edge) (least.least edge (tried-intervals edge tried));
      }

-- What makes a point of the curve.
use Rattle.std.proofs.Common.{◌≡◌, ◌∙◌, ℕ, ◌+◌, ◌/◌, ◌<◌, ◌≤◌, ap, sym, subst, arith, List, [], ◌∷◌, ◌++◌, map, take, length, get_or}
use Rattle.std.proofs.lemmas.List.{append_assoc, map-append, take_more}
use Rattle.std.proofs.lemmas.Nat.{le-div}
use Rattle.cache_model.specs.declared.objects.Object.{Object}
use Rattle.cache_model.specs.declared.objects.Objective.{Objective}
use Rattle.cache_model.specs.declared.objects.Objective.TheVariants.{Object as Hits, Bytes}
use Rattle.cache_model.specs.Claim.{IsAllowed, score, terms_from}
use Rattle.cache_model.proofs.Steps.{no_policy_scores_more_lem}
use Rattle.cache_rules.specs.Stored.{Requests}
use Rattle.policy_model.specs.declared.names.PolicyName.TheVariants.{Lru}
use Rattle.policy_model.specs.Runs.{AreScores, policy_run}
use Rattle.policy_laws.proofs.RunLemmas.{runs_are_allowed}
use Rattle.byte_curve.specs.declared.pass.Hits.{Hits as Counts}
use Rattle.byte_curve.specs.Counts.{no_hits}
use Rattle.byte_curve.specs.Curves.{AreHits}
use Rattle.byte_curve.specs.Sizes.{greatest_size}
use Rattle.byte_curve.proofs.LruBytes.{distances_are_of_lru}
use Rattle.interval_maker.specs.Timelines.{Timeline, timeline_of}
use Rattle.constant_price.specs.Constants.{constant_prices}
use Rattle.constant_price.proofs.Prices.{length-constant_prices}
use Rattle.capacity_curve.specs.declared.points.CurveTerms.{CurveTerms}
use Rattle.capacity_curve.specs.declared.points.Point.{Point}
use Rattle.capacity_curve.specs.Bounds.{IsOnePriceBound}
use Rattle.capacity_curve.specs.Points.{IsPoint, terms_at}
use Rattle.capacity_curve.proofs.Capacities.{same-intervals}

-- LRU's counts and the bound of one price are a point
pub is-point : (asked : CurveTerms) (trace : Requests) (point : Point) → 1 ≤ asked.denominator
    → point.hits ≡ (policy_run Lru trace.objects point.capacity asked.warmup trace.fills).hits
    → point.bytes ≡ (policy_run Lru trace.objects point.capacity asked.warmup trace.fills).bytes
    → IsOnePriceBound (timeline_of (terms_at asked point.capacity trace.fills) trace.objects) point.capacity asked.denominator point.upper
    → IsPoint asked trace point
is-point asked trace point positive hits bytes upper =
    let floor : (contents : List (List Object)) → IsAllowed point.capacity trace.objects contents
    → score (terms_at asked point.capacity trace.fills) trace.objects contents ≤ point.upper / asked.denominator
    = λ contents allowed. le-div (score (terms_at asked point.capacity trace.fills) trace.objects contents) point.upper asked.denominator positive
    (omega (
      arith,
      upper.upper_is,
      no_policy_scores_more_lem (terms_at asked point.capacity trace.fills) upper.unit asked.denominator trace.objects
          (constant_prices upper.price (length trace.objects)) contents allowed (length-constant_prices upper.price (length trace.objects)),
    )) in
    let run : AreScores point.capacity asked.warmup trace.fills trace.objects (policy_run Lru trace.objects point.capacity asked.warmup trace.fills).hits (policy_run Lru trace.objects point.capacity asked.warmup trace.fills).bytes
    = runs_are_allowed Lru point.capacity asked.warmup trace.fills trace.objects in
    let of_objective : (o : Objective) → asked.objective ≡ o → score (terms_from o point.capacity asked.warmup trace.fills) trace.objects run.contents ≤ point.upper / asked.denominator
    = λ o is. subst (λ o. score (terms_from o point.capacity asked.warmup trace.fills) trace.objects run.contents ≤ point.upper / asked.denominator) is (floor run.contents run.allowed) in
    record {
      hits = hits;
      bytes = bytes;
      upper = upper;
      no_policy_passes_the_floor = floor;
      hits_within = λ is. omega (arith, hits, run.hits_are, of_objective Hits is);
      bytes_within = λ is. omega (arith, bytes, run.bytes_are, of_objective Bytes is);
    }

-- so are the hits by distances, and the bound over the intervals at another capacity, if no object is larger than either
pub point-by-distance : (asked : CurveTerms) (trace : Requests) (capacities : List ℕ) (found : List Counts) (k most : ℕ) (counts : Counts) (line : Timeline) (upper : ℕ) → 1 ≤ asked.denominator
    → AreHits trace.objects trace.fills asked.warmup capacities found → k < length capacities → counts ≡ get_or found k no_hits
    → greatest_size trace.objects ≤ get_or capacities k 0 → greatest_size trace.objects ≤ most
    → line ≡ timeline_of (terms_at asked most trace.fills) trace.objects → IsOnePriceBound line (get_or capacities k 0) asked.denominator upper
    → IsPoint asked trace (record { capacity = get_or capacities k 0; hits = counts.hits; bytes = counts.bytes; upper = upper })
point-by-distance asked trace capacities found k most counts line upper positive are within is large most_large made bound =
    let capacity = get_or capacities k 0 in
    let lru = distances_are_of_lru trace.objects trace.fills capacity asked.warmup in
    is-point asked trace (record { capacity = capacity; hits = counts.hits; bytes = counts.bytes; upper = upper }) positive
    (ap (λ (h : Counts). h.hits) is ∙ are.hits k within ∙ sym lru.0)
    (ap (λ (h : Counts). h.bytes) is ∙ are.bytes k within ∙ sym lru.1)
    (subst (λ line. IsOnePriceBound line capacity asked.denominator upper)
    (made ∙ ap (λ items. record { steps = length trace.objects; items = items }) (same-intervals asked.objective asked.warmup trace.fills trace.objects most capacity most_large large)) bound)

-- one more point, at the next capacity
pub at-more : (capacities first : List ℕ) (points : List Point) (k : ℕ) (point : Point) → k < length capacities → point.capacity ≡ get_or capacities k 0
    → map (λ (p : Point). p.capacity) points ≡ first ++ take k capacities
    → map (λ (p : Point). p.capacity) (points ++ point ∷ []) ≡ first ++ take (k + 1) capacities
at-more capacities first points k point within is so_far =
    map-append (λ (p : Point). p.capacity) points (point ∷ [])
    ∙ ap (λ c. map (λ (p : Point). p.capacity) points ++ c ∷ []) is
    ∙ ap (λ cs. cs ++ get_or capacities k 0 ∷ []) so_far
    ∙ append_assoc first (take k capacities) (get_or capacities k 0 ∷ [])
    ∙ ap (λ cs. first ++ cs) (sym (take_more capacities k 0 within))

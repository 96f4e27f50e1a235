-- What policies count is within the bounds.
use Rattle.std.proofs.Common.{◌≡◌, ◌∙◌, ℕ, ◌<◌, ◌≤◌, ap, sym, subst, refl, arith, List, length, get_or, All}
use Rattle.cache_model.specs.declared.objects.Object.{Object}
use Rattle.cache_model.specs.declared.objects.Objective.{Objective}
use Rattle.cache_model.specs.declared.objects.Objective.TheVariants.{Object as Hits, Bytes}
use Rattle.cache_model.specs.Claim.{IsAllowed, score, terms_from}
use Rattle.cache_rules.specs.Stored.{Requests}
use Rattle.area_laws.specs.Late.{IsAllowedLate}
use Rattle.area_laws.proofs.Delays.{delays_allow_more}
use Rattle.area_sums.specs.Bounds.{floor_of}
use Rattle.policy_model.specs.declared.names.PolicyName.{PolicyName}
use Rattle.policy_model.specs.declared.names.PolicyName.TheVariants.{Lru}
use Rattle.policy_sweep.specs.declared.running.PolicyReplay.{PolicyReplay}
use Rattle.policy_sweep.specs.Running.{Setting}
use Rattle.policy_sweep.specs.Replays.{AreReplays, IsOfSetting}
use Rattle.freshness.specs.Seen.{Staleness}
use Rattle.trace_any.specs.declared.format.Format.{Format}
use Rattle.trace_sweep.specs.declared.points.SweepPoint.{SweepPoint}
use Rattle.trace_sweep.specs.Online.{told_of}
use Rattle.trace_sweep.specs.Points.{AreSweepPoints, AreWithin, IsWithin}

module _ (format : Format) (warmup delay : ℕ) (trace : Requests) (noted : Staleness) where
  -- the contents of a replay are allowed with any delay
  one-within : (p : SweepPoint) (setting : Setting) (r : PolicyReplay) → IsOfSetting (told_of format warmup trace noted) setting r → r.capacity ≡ p.capacity
      → ((contents : List (List Object)) → IsAllowedLate delay p.capacity trace.objects contents → score (terms_from Hits p.capacity warmup trace.fills) trace.objects contents ≤ floor_of p.bounds.hits)
      → ((contents : List (List Object)) → IsAllowedLate delay p.capacity trace.objects contents → score (terms_from Bytes p.capacity warmup trace.fills) trace.objects contents ≤ floor_of p.bounds.bytes)
      → IsWithin p r.counts
  one-within p setting r is same hits bytes =
      let scores = is.counts.played.scores in
      let capacity : setting.capacity ≡ p.capacity = sym is.capacity ∙ same in
      let late : IsAllowedLate delay p.capacity trace.objects scores.contents =
      (delays_allow_more p.capacity trace.objects scores.contents).with_any delay (subst (λ c. IsAllowed c trace.objects scores.contents) capacity scores.allowed) in
      record {
        hits = omega (arith, scores.hits_are, ap (λ c. score (terms_from Hits c warmup trace.fills) trace.objects scores.contents) capacity, hits scores.contents late);
        bytes = omega (arith, scores.bytes_are, ap (λ c. score (terms_from Bytes c warmup trace.fills) trace.objects scores.contents) capacity, bytes scores.contents late);
      }

  pub all-within : (capacities : List ℕ) (settings : List Setting) (points : List SweepPoint) (replays : List PolicyReplay)
      → AreSweepPoints warmup delay trace capacities points → AreReplays (told_of format warmup trace noted) settings replays → AreWithin points replays
  all-within capacities settings points replays bounds are = λ k r below i p low same.
      one-within (get_or points i p) (get_or settings k (record { name = Lru; capacity = 0 })) (get_or replays k r) (are.are k (record { name = Lru; capacity = 0 }) r (omega (arith, below, are.each))) same
      ((bounds.hits i p low).no_more) ((bounds.bytes i p low).no_more)

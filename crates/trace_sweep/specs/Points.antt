-- The bounds at each capacity.
use Rattle.std.specs.Prelude.{◌≡◌, ℕ, ◌<◌, ◌≤◌, List, map, All, zip}
use Rattle.cache_model.specs.declared.objects.Objective.TheVariants.{Object as Hits, Bytes}
use Rattle.cache_model.specs.Claim.{terms_from}
use Rattle.cache_rules.specs.Stored.{Requests}
use Rattle.area_sums.specs.declared.bound.CapacityBounds.{CapacityBounds}
use Rattle.area_sums.specs.Bounds.{floor_of}
use Rattle.replay_core.specs.declared.counts.Replay.{Replay}
use Rattle.policy_sweep.specs.declared.running.PolicyReplay.{PolicyReplay}
use Rattle.sweep_bounds.specs.Bounds.{IsSweepBound}
use Rattle.trace_sweep.specs.declared.points.SweepPoint.{SweepPoint}

-- the capacities with their bounds
abbrev pub points_of : List ℕ → List CapacityBounds → List SweepPoint
points_of capacities bounds = map (λ p. record { capacity = p.0; bounds = p.1 }) (zip capacities bounds)

-- both bounds have an edge
abbrev pub HasEdges : SweepPoint → Type 0
HasEdges point = (0 < point.bounds.hits.edge) × (0 < point.bounds.bytes.edge)

-- hits and their bytes are at most the floors of the bounds
pub record IsWithin (point : SweepPoint) (counts : Replay) : Type 0 where
  pub hits : counts.hits ≤ floor_of point.bounds.hits
  pub bytes : counts.bytes ≤ floor_of point.bounds.bytes

-- what each policy counts is within the bounds at its capacity
abbrev pub AreWithin : List SweepPoint → List PolicyReplay → Type 0
AreWithin points replays = All (λ r. All (λ p. r.capacity ≡ p.capacity → IsWithin p r.counts) points) replays

-- bounds at these capacities, in their order: at each those on hits and on their bytes, from a warm-up on, which no contents pass that let objects in no later than the delay
pub record AreSweepPoints (warmup delay : ℕ) (trace : Requests) (capacities : List ℕ) (points : List SweepPoint) : Type 0 where
  pub each : map (λ p. p.capacity) points ≡ capacities
  pub edges : All HasEdges points
  pub hits : All (λ p. IsSweepBound (terms_from Hits p.capacity warmup trace.fills) delay trace.objects p.bounds.hits) points
  pub bytes : All (λ p. IsSweepBound (terms_from Bytes p.capacity warmup trace.fills) delay trace.objects p.bounds.bytes) points

-- A printed report can be read in one way only; each law is the contract of a function.
use Rattle.std.specs.Prelude.{◌≡◌, ℕ, ◌^◌, ◌<◌, ◌==◌, Bool, false, List, [], ◌∷◌, ◌++◌, All, IfSome, None, Some, filter, flat_map, map}
use Rattle.std.specs.declared.option.Option.{Option}
use Rattle.cache_model.specs.declared.certificates.Header.{Header}
use Rattle.cert_checker.specs.declared.verdict.Verdict.{Verdict}
use Rattle.bound_terms.specs.declared.modes.Window.TheVariants.{All as Whole, Steps}
use Rattle.bound_terms.specs.declared.modes.Mode.{Mode}
use Rattle.bound_terms.specs.declared.modes.Mode.TheVariants.{Flow, Constant, Infinite}
use Rattle.bound_report.specs.declared.facts.BoundFacts.{BoundFacts}
use Rattle.bound_report.specs.declared.demo.DemoFacts.{DemoFacts}
use Rattle.bound_report.specs.declared.demo.PolicyReplays.{PolicyReplays}
use Rattle.bound_report.specs.declared.rendering.Counting.{Counting}
use Rattle.bound_report.specs.declared.rendering.StaleCounts.{StaleCounts}
use Rattle.bound_report.specs.declared.sweeps.SweepFacts.{SweepFacts}
use Rattle.policy_sweep.specs.declared.running.PolicyReplay.{PolicyReplay}
use Rattle.trace_sweep.specs.declared.points.SweepPoint.{SweepPoint}
use Rattle.bound_report.specs.Demos.{demo_text}
use Rattle.bound_report.specs.Refinements.{refined_lines}
use Rattle.bound_report.specs.Rendering.{rendered}
use Rattle.bound_report.specs.Reports.{bound_lines}
use Rattle.bound_report.specs.Sweeps.{sweep_lines}
use Rattle.bound_report.specs.Verdicts.{verdict_lines}

-- a number of at most 128 bits, as all numbers of a report are; a longer one may share its text with another
abbrev pub IsPrintable : ℕ → Type 0
IsPrintable n = n < 2 ^ 128

-- the two times for which objects stay fresh, if they have ends, how many requests were late, and how many were stale, if any can be
abbrev pub ArePrintableCounts : StaleCounts → Type 0
ArePrintableCounts counts = IfSome counts.idle IsPrintable × IfSome counts.ttl IsPrintable × IsPrintable counts.late × IfSome counts.stale IsPrintable

-- how many requests count, if that is known, the warm-up, what is said of stale requests, and the other numbers of a report
abbrev pub ArePrintable : Counting → List ℕ → Type 0
ArePrintable counting numbers = IfSome counting.counted IsPrintable × IsPrintable counting.warmup × ArePrintableCounts counting.stale × All IsPrintable numbers

-- the numbers of a header that reports print
abbrev pub header_numbers : Header → List ℕ
header_numbers h = h.requests ∷ h.capacity ∷ h.unit ∷ h.denominator ∷ h.upper ∷ h.flow ∷ h.lower ∷ []

-- the number of a mode, if a report prints one: the steps of a window, or the price
abbrev pub mode_numbers : Mode → ℕ → List ℕ
mode_numbers (Flow Whole) price = []
mode_numbers (Flow (Steps w)) price = w ∷ []
mode_numbers Constant price = price ∷ []
mode_numbers Infinite price = []

-- whether a report says that the form is exact, as only that of a flow can
abbrev pub says_exact : Mode → Bool → Bool
says_exact (Flow window) exact = exact
says_exact Constant exact = false
says_exact Infinite exact = false

-- the number of written bytes, if a report prints one
abbrev pub written_numbers : Option ℕ → List ℕ
written_numbers None = []
written_numbers (Some written) = written ∷ []

-- the numbers that a report of bounds prints
abbrev pub bound_numbers : BoundFacts → List ℕ
bound_numbers f = f.objects ∷ f.dropped ∷ f.intervals ∷ header_numbers f.header ++ mode_numbers f.mode f.price ++ written_numbers f.written

-- the same is printed of two bounds
pub record SameBounds (f g : BoundFacts) : Type 0 where
  pub numbers : bound_numbers f ≡ bound_numbers g
  pub objective : f.header.objective ≡ g.header.objective
  pub mode : f.mode ≡ g.mode
  pub exact : says_exact f.mode f.header.exact ≡ says_exact g.mode g.header.exact
  pub written : f.written ≡ g.written

-- two reports of bounds with one text print the same, and how their requests count
abbrev pub BoundsHaveOneReading : Type 0
BoundsHaveOneReading =
    (f g : BoundFacts) (c d : Counting)
    → ArePrintable c (bound_numbers f) → ArePrintable d (bound_numbers g)
    → rendered c (bound_lines f) ≡ rendered d (bound_lines g)
    → SameBounds f g × (c ≡ d)

-- the numbers that a check prints, with that of the dropped requests
abbrev pub verdict_numbers : Verdict → ℕ → List ℕ
verdict_numbers verdict dropped = verdict.objects ∷ dropped ∷ header_numbers verdict.header

-- the same is printed of two verdicts, with m and n dropped requests
pub record SameVerdicts (x y : Verdict) (m n : ℕ) : Type 0 where
  pub numbers : verdict_numbers x m ≡ verdict_numbers y n
  pub objective : x.header.objective ≡ y.header.objective
  pub exact : x.header.exact ≡ y.header.exact

-- two checks with one text print the same
abbrev pub VerdictsHaveOneReading : Type 0
VerdictsHaveOneReading =
    (x y : Verdict) (m n : ℕ) (c d : Counting)
    → ArePrintable c (verdict_numbers x m) → ArePrintable d (verdict_numbers y n)
    → rendered c (verdict_lines x m) ≡ rendered d (verdict_lines y n)
    → SameVerdicts x y m n × (c ≡ d)

-- and so do two refinements, which print the bound that was read too
abbrev pub RefinementsHaveOneReading : Type 0
RefinementsHaveOneReading =
    (read other : ℕ) (x y : Verdict) (m n : ℕ) (c d : Counting)
    → ArePrintable c (read ∷ verdict_numbers x m) → ArePrintable d (other ∷ verdict_numbers y n)
    → rendered c (refined_lines read x m) ≡ rendered d (refined_lines other y n)
    → (read ≡ other) × SameVerdicts x y m n × (c ≡ d)

-- the numbers that a demo prints of its replays: the hits of each policy and their bytes
abbrev pub replay_numbers : PolicyReplays → List ℕ
replay_numbers r =
    r.lru.hits ∷ r.lru.bytes
    ∷ r.fifo.hits ∷ r.fifo.bytes
    ∷ r.clock.hits ∷ r.clock.bytes
    ∷ r.lfu.hits ∷ r.lfu.bytes
    ∷ r.belady.hits ∷ r.belady.bytes
    ∷ []

-- the numbers that a demo prints beside those of its bounds
abbrev pub demo_numbers : DemoFacts → PolicyReplays → List ℕ
demo_numbers facts r = facts.seed ∷ facts.requests ∷ facts.objects ∷ facts.capacity ∷ replay_numbers r

-- two demos with one text were asked the same, and have the same bounds, and the same hits of each policy with their bytes
abbrev pub DemosHaveOneReading : Type 0
DemosHaveOneReading =
    (a b : DemoFacts) (f g : BoundFacts) (c d : Counting) (r s : PolicyReplays)
    → ArePrintable c (demo_numbers a r ++ bound_numbers f) → ArePrintable d (demo_numbers b s ++ bound_numbers g)
    → demo_text a (rendered c (bound_lines f)) r ≡ demo_text b (rendered d (bound_lines g)) s
    → (a ≡ b) × SameBounds f g × (c ≡ d) × (replay_numbers r ≡ replay_numbers s)

-- the numbers that a sweep prints of a capacity: its bytes, and of both bounds the numerator and the edge
abbrev pub point_numbers : SweepPoint → List ℕ
point_numbers p = p.capacity ∷ p.bounds.hits.upper ∷ p.bounds.hits.edge ∷ p.bounds.bytes.upper ∷ p.bounds.bytes.edge ∷ []

-- those that it prints of a policy: its capacity, its hits with their bytes, and what it writes
abbrev pub replay_numbers_of : PolicyReplay → List ℕ
replay_numbers_of r = r.capacity ∷ r.counts.hits ∷ r.counts.bytes ∷ r.counts.written ∷ []

-- each point, and what the policies count at its capacity
abbrev pub with_replays : List SweepPoint → List PolicyReplay → List (SweepPoint × List PolicyReplay)
with_replays points replays = map (λ p. (p, filter (λ r. r.capacity == p.capacity) replays)) points

-- the numbers of these
abbrev pub numbers_with_replays : SweepPoint × List PolicyReplay → List ℕ
numbers_with_replays x = point_numbers x.0 ++ flat_map replay_numbers_of x.1

-- the numbers that a sweep prints
abbrev pub sweep_numbers : SweepFacts → List SweepPoint → List PolicyReplay → List ℕ
sweep_numbers f points replays =
    f.requests ∷ f.objects ∷ f.dropped ∷ f.capacities ∷ f.policies ∷ f.delay ∷ flat_map numbers_with_replays (with_replays points replays)

-- two sweeps with one text have the same counts of the trace, of capacities and of policies, the same delay, and the same bounds and policies at each capacity
abbrev pub SweepsHaveOneReading : Type 0
SweepsHaveOneReading =
    (f g : SweepFacts) (ps qs : List SweepPoint) (rs ss : List PolicyReplay) (c d : Counting)
    → ArePrintable c (sweep_numbers f ps rs) → ArePrintable d (sweep_numbers g qs ss)
    → rendered c (sweep_lines f ps rs) ≡ rendered d (sweep_lines g qs ss)
    → (f ≡ g) × (with_replays ps rs ≡ with_replays qs ss) × (c ≡ d)

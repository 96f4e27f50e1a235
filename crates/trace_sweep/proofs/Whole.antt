-- What comes of all that a source has left.
use Rattle.std.proofs.Common.{◌≡◌, ◌∙◌, ℕ, ap, sym, subst, refl, Bool, true, false, cond, List, length, None, Some}
use Rattle.std.specs.declared.option.Option.{Option}
use Rattle.std.specs.Bool.{then_some}
use Rattle.bound_io.specs.Devices.{Device, device}
use Rattle.cache_model.specs.Objects.{objects_of}
use Rattle.area_sums.specs.declared.bound.CapacityBounds.{CapacityBounds}
use Rattle.freshness.specs.Stale.{can_end}
use Rattle.trace_any.specs.declared.format.Format.{Format}
use Rattle.trace_any.specs.Counts.{counted_in, stale_in}
use Rattle.trace_any.specs.Loads.{IsRead, pass_limits}
use Rattle.trace_any.specs.Readers.{HasSeenAll, LeavesNone, LoadsAll, Reader, fresh}
use Rattle.trace_any.specs.Readings.{has_marks}
use Rattle.trace_any.proofs.Loads.{nothing_left, read_all}
use Rattle.sweep_bounds.specs.Sweep.{AreBoundsOf, Sweep}
use Rattle.policy_model.specs.declared.names.PolicyName.{PolicyName}
use Rattle.policy_sweep.specs.Replays.{AreReplays}
use Rattle.policy_stream.specs.declared.stream.PolicyStream.{PolicyStream}
use Rattle.policy_stream.specs.Streams.{settings_of}
use Rattle.trace_sweep.specs.Online.{told_of}
use Rattle.trace_sweep.specs.declared.sweeping.Swept.{Swept}
use Rattle.trace_sweep.specs.declared.tally.Tally.{Tally}
use Rattle.trace_sweep.specs.Points.{AreSweepPoints, points_of}
use Rattle.trace_sweep.specs.Swept.{AreKnown, HasSweptAll, IsSwept}
use Rattle.trace_sweep.proofs.Pointed.{points-are}
use Rattle.trace_sweep.proofs.Within.{all-within}

-- a number that is told only if something is so
told_if : (b : Bool) (n m : ℕ) → (b ≡ true → n ≡ m) → then_some b n ≡ cond b (Some m) None
told_if true n m is = ap Some (is refl)
told_if false n m is = refl

-- a sweep that was told all that a stream had to give
module _ (format : Format) (warmup delay : ℕ) (source : Device) (new : Reader) (sweep : Sweep) (first last : PolicyStream) (tally : Tally)
    (swept : HasSweptAll warmup (fresh format pass_limits) new source sweep first last tally) where
  counted_is : then_some (has_marks format.layout) tally.counted ≡ counted_in format warmup swept.trace new.seen.noted
  counted_is = told_if (has_marks format.layout) tally.counted _ swept.tallied.counted

  stale_is : then_some (can_end format.fresh) tally.stale ≡ stale_in format swept.trace new.seen.noted
  stale_is = told_if (can_end format.fresh) tally.stale _ swept.tallied.stale

  -- has gone over all that the source had left
  pub swept_whole : (before after : Option (List ℕ)) (faults_before faults_after : ℕ) → source ≡ device before after faults_before faults_after
      → (capacities : List ℕ) (names : List PolicyName) (bounds : List CapacityBounds) (found : Swept) → sweep.warmup ≡ warmup → sweep.delay ≡ delay → sweep.sums.capacities ≡ capacities → AreBoundsOf sweep bounds
      → found.requests ≡ sweep.requests → found.objects ≡ length (objects_of swept.trace.objects) → found.dropped ≡ new.dropped
      → found.counted ≡ then_some (has_marks format.layout) tally.counted → found.late ≡ new.seen.noted.late → found.stale ≡ then_some (can_end format.fresh) tally.stale
      → found.points.items ≡ points_of capacities bounds → AreReplays (told_of format warmup swept.trace new.seen.noted) (settings_of names capacities) found.replays.items
      → AreKnown (settings_of names capacities) swept.trace.objects
      → IsSwept format capacities names warmup delay source found
  swept_whole before after faults_before faults_after is capacities names bounds found same_warmup same_delay same_capacities are requests objects dropped counted late stale points replays known = record {
    trace = swept.trace;
    notes = record { dropped = new.dropped; noted = new.seen.noted };
    read = subst (λ d. IsRead pass_limits format d swept.trace (record { dropped = new.dropped; noted = new.seen.noted })) (sym is)
        (read_all pass_limits format before after faults_before faults_after swept.trace new.dropped new.seen
        (subst (λ (d : Device). LoadsAll (fresh format pass_limits) d.before swept.trace new.dropped) is swept.whole)
        (subst (λ (d : Device). HasSeenAll (fresh format pass_limits) d.before new) is swept.seen_all)
        (nothing_left _ _ new.lines.held (subst (LeavesNone (fresh format pass_limits) new) is swept.end)));
    requests = requests ∙ swept.seen.requests;
    objects = objects;
    dropped = dropped;
    counted = counted ∙ counted_is;
    late = late;
    stale = stale ∙ stale_is;
    points = points_are;
    replays = replays;
    known = known;
    within = all-within format warmup delay swept.trace new.seen.noted capacities (settings_of names capacities) found.points.items found.replays.items points_are replays;
  }
    where
      points_are : AreSweepPoints warmup delay swept.trace capacities found.points.items
      points_are = subst (AreSweepPoints warmup delay swept.trace capacities) (sym points) (points-are sweep swept.trace bounds warmup delay capacities same_warmup same_delay same_capacities are swept.seen)

use Rattle.std.proofs.Common.{◌≡◌, ◌∙◌, refl, ap, subst}
use Rattle.std.proofs.lemmas.Result.{err_from_is_err_and}
use Rattle.bound_io.specs.Devices.{seen}
use Rattle.trace_any.specs.Loads.{pass_limits}
use Rattle.trace_any.specs.Readers.{Reader, fresh}
use Rattle.std.specs.Bool.{then_some}
use Rattle.policy_stream.specs.Streams.{HasBegun, settings_of}
use Rattle.trace_sweep.specs.Online.{told_of}
use Rattle.trace_sweep.specs.Points.{points_of}
use Rattle.trace_sweep.specs.Swept.{HasSweptAll}
use Rattle.trace_sweep.specs.Faults.{Stops}
use Rattle.trace_sweep.proofs.Stopped.{not_replayed, not_swept}
use Rattle.trace_sweep.proofs.Whole.{swept_whole}
use Rattle.trace_sweep.proofs.sweeping.sweep_with.Goals as goal

pub returns-in_err-add_all-clause-refused : goal.returns-in_err-add_all-clause-refused
returns-in_err-add_all-clause-refused g c =
    let p = err_from_is_err_and c.from_residual.result c.from_residual.ensures.1 in
    rw (p.1, p.2) (not_replayed c.args.format (settings_of c.args.names.now c.args.capacities.now) (seen g.S.Source.left g.S.Source.faults c.args.source.now c.args.source.now) c.in_err-add_all.field-0.0 c.in_err-add_all.ensures.named)

pub returns-in_err-tally-clause-refused : goal.returns-in_err-tally-clause-refused
returns-in_err-tally-clause-refused g c =
    let source = seen g.S.Source.left g.S.Source.faults c.args.source.now c.sweep_all.new.source in
    let new : c.in_ok-stream.stream ≡ fresh c.args.format pass_limits = c.in_ok-stream.ensures ∙ ap (fresh c.args.format) c.of_one_pass.ensures in
    let fault = c.in_err-tally.field-0.0 in
    let settings = settings_of c.args.names.now c.args.capacities.now in
    let begun : HasBegun settings c.add_all.new.self = c.in_ok-add_all.ensures.added c.requires.begun in
    let why = subst (λ (r : Reader). Stops r source settings fault) new (c.in_err-tally.ensures.stops settings begun) in
    let p = err_from_is_err_and c.from_residual-in_err-tally.result c.from_residual-in_err-tally.ensures.1 in
    rw (p.1, p.2) (not_swept c.args.format settings source fault why)

pub returns-clause-swept : goal.returns-clause-swept
returns-clause-swept g c =
    let source = seen g.S.Source.left g.S.Source.faults c.args.source.now c.sweep_all.new.source in
    let new : c.in_ok-stream.stream ≡ fresh c.args.format pass_limits = c.in_ok-stream.ensures ∙ ap (fresh c.args.format) c.of_one_pass.ensures in
    let sweep = c.sweep_all.new.bounds in
    let last = c.sweep_all.new.stream in
    let tally = c.in_ok-tally.tally in
    let swept : HasSweptAll c.args.bounds.now.warmup (fresh c.args.format pass_limits) last source sweep c.add_all.new.self c.sweep_all.new.policies tally =
    subst (λ r. HasSweptAll c.args.bounds.now.warmup r last source sweep c.add_all.new.self c.sweep_all.new.policies tally) new c.in_ok-tally.ensures.swept in
    let kept = c.sweep_all.ensures.kept in
    let settings = settings_of c.args.names.now c.args.capacities.now in
    let begun : HasBegun settings c.add_all.new.self = c.in_ok-add_all.ensures.added c.requires.begun in
    swept_whole c.args.format c.args.bounds.now.warmup c.args.bounds.now.delay source last sweep c.add_all.new.self c.sweep_all.new.policies tally swept _ _ _ _ refl c.args.capacities.now c.args.names.now c.in_ok-least.least.items _
    kept.0 kept.1 (kept.2 ∙ c.requires.same) c.in_ok-least.ensures
    c.requests.ensures (c.objects.ensures swept.trace.objects swept.trace.fills swept.seen) c.dropped.ensures
    (c.then_some.ensures ∙ ap (λ b. then_some b tally.counted) c.has_marks-marked.ensures) c.late.ensures (c.then_some-2.ensures ∙ ap (λ b. then_some b tally.stale) c.can_end-can_end.ensures)
    (c.in_ok-points_of.ensures ∙ ap (points_of c.args.capacities.now) c.deref.ensures.value)
    (c.in_ok-finish.ensures.replays (told_of c.args.format c.args.bounds.now.warmup swept.trace last.seen.noted) settings (swept.told settings begun))
    (swept.known settings begun)

pub returns-in_err-least-clause-refused : goal.returns-in_err-least-clause-refused
returns-in_err-least-clause-refused g c =
    let p = err_from_is_err_and c.from_residual-in_err-least.result c.from_residual-in_err-least.ensures.1 in
    rw (p.1, p.2) tt

pub returns-in_err-points_of-clause-refused : goal.returns-in_err-points_of-clause-refused
returns-in_err-points_of-clause-refused g c =
    let p = err_from_is_err_and c.from_residual-in_err-points_of.result c.from_residual-in_err-points_of.ensures.1 in
    rw (p.1, p.2) tt

pub returns-in_err-finish-clause-refused : goal.returns-in_err-finish-clause-refused
returns-in_err-finish-clause-refused g c =
    let settings = settings_of c.args.names.now c.args.capacities.now in
    let begun : HasBegun settings c.add_all.new.self = c.in_ok-add_all.ensures.added c.requires.begun in
    let p = err_from_is_err_and c.from_residual-in_err-finish.result c.from_residual-in_err-finish.ensures.1 in
    rw (p.1, p.2)
    (not_replayed c.args.format settings (seen g.S.Source.left g.S.Source.faults c.args.source.now c.sweep_all.new.source) c.in_err-finish.field-0.0
    (c.in_err-finish.ensures.named _ settings (c.in_ok-tally.ensures.swept.told settings begun)))

pub finish-requires : goal.finish-requires
finish-requires g c =
    let settings = settings_of c.args.names.now c.args.capacities.now in
    let begun : HasBegun settings c.add_all.new.self = c.in_ok-add_all.ensures.added c.requires.begun in
    record { of_some = (_, settings, c.in_ok-tally.ensures.swept.told settings begun) }

pub returns-in_err-tally-clause-reads : goal.returns-in_err-tally-clause-reads
returns-in_err-tally-clause-reads g c =
    let p = err_from_is_err_and c.from_residual-in_err-tally.result c.from_residual-in_err-tally.ensures.1 in
    let r = c.in_err-tally.ensures.reads in
    rw (p.1, p.2) record { source = r.source; later = r.later; none_failed = tt; else_none_failed = r.else_none_failed }

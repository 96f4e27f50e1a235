use Rattle.std.proofs.Common.{◌/◌, ◌≤◌, arith, cond, subst, refl}
use Rattle.std.proofs.lemmas.Bool.{le-leb, lt-leb}
use Rattle.cert_checker.proofs.stepping.added_by_interval.Goals as goal

pub returns-then-object-header : goal.returns-then-object-header
returns-then-object-header c = rw (lt-leb c.args.object.now.size c.args.header.now.capacity c.if-object-header.true, c.kept_gain-gain.ensures) refl

pub returns : goal.returns
returns c = rw (le-leb c.args.object.now.size c.args.header.now.capacity c.if-object-header.false, c.kept_gain-gain.ensures, c.surplus.ensures.value, c.flow_value.ensures, c.worth-worth.ensures) refl

pub flow_value-requires-clause-weight : goal.flow_value-requires-clause-weight
flow_value-requires-clause-weight c = omega (arith, c.requires.weight c.if-object-header.false)

pub flow_value-requires-clause-flow : goal.flow_value-requires-clause-flow
flow_value-requires-clause-flow c =
    let weight = c.args.object.now.size / c.args.header.now.unit in
    subst (λ fits. c.args.seen.now.flow ≤ cond fits weight 0) (le-leb c.args.object.now.size c.args.header.now.capacity c.if-object-header.false) c.requires.flow

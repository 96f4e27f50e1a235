use Rattle.std.proofs.Common.{arith}
use Rattle.std.specs.Prelude.{Some}
use Rattle.flow_model.specs.Instances.{no_arc, arc_at}
use Rattle.flow_parts.specs.Ranks.{ChangesRank, lesser, rank_at}
use Rattle.flow_uniform.specs.Holdings.{Holding, rank_of}
use Rattle.flow_uniform.proofs.Holding.{hold_more, leaving_low}
use Rattle.flow_uniform.proofs.entering.hold.Goals as goal

pub overflow_add-leaving : goal.overflow_add-leaving
overflow_add-leaving c =
    let instance = c.args.instance.now in
    let fits = c.arcs.ensures.in_range in
    let arc = arc_at instance.arcs c.args.number in
    let is_arc = fits.arcs_fit c.args.number no_arc c.requires.number in
    let held : Holding = record { flows = c.args.flows.now; leaving = c.args.leaving.now; ranks = c.args.heap.now } in
    rw c.arcs.ensures.arcs (omega (arith, is_arc.small_weight, leaving_low instance held _ arc.end fits c.requires.held is_arc.within))

pub returns-clause-held : goal.returns-clause-held
returns-clause-held c =
    let instance = c.args.instance.now in
    let change : ChangesRank c.args.heap.now c.offer.new.self c.args.number (Some (lesser (rank_at c.args.heap.now c.args.number) (rank_of instance c.args.number))) =
    rw (c.arcs.ensures.arcs, c.steps.ensures) at c.offer.ensures in
    rw c.arcs.ensures.arcs
    (hold_more instance c.args.flows.now c.args.leaving.now c.args.heap.now c.offer.new.self c.args.number c.arcs.ensures.in_range c.requires.held c.requires.number c.requires.fresh change)

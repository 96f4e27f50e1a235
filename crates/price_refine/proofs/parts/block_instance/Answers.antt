use Rattle.std.proofs.Common.{◌-◌, sym, subst, length, List}
use Rattle.flow_model.specs.declared.arcs.OuterArc.{OuterArc}
use Rattle.flow_model.specs.Instances.{IsInstance}
use Rattle.price_refine.specs.Parts.{arcs_of, meets}
use Rattle.price_refine.proofs.Cutting.{flat_map-all}
use Rattle.price_refine.proofs.Ranges.{is_instance}
use Rattle.price_refine.proofs.parts.block_instance.Goals as goal

pub new-requires : goal.new-requires
new-requires c =
    let block = c.args.block in
    let prices = c.args.pricing.now.prices.items in
    let items = c.args.intervals.now in
    let made = flat_map-all (arcs_of block prices) (meets block) items c.loop-interval.interval-index c.loop-interval.arcs.items c.loop-interval-test.false c.loop-interval.invariant in
    subst (λ (arcs : List OuterArc). IsInstance (record { steps = block.end - block.first; units = block.units; arcs = arcs })) (sym made)
    (is_instance (length prices) block prices items c.requires.block c.requires.counted)

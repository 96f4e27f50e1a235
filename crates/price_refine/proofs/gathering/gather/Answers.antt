use Rattle.std.proofs.Common.{arith}
use Rattle.std.proofs.lemmas.List.{get_or_default}
use Rattle.interval_maker.specs.Timelines.{no_interval}
use Rattle.price_refine.proofs.Gatherings.{all_gathered, kept_later}
use Rattle.price_refine.proofs.gathering.gather.Goals as goal

pub loop-gathered-init : goal.loop-gathered-init
loop-gathered-init c =
    kept_later c.requires.open.since c.args.block.first c.args.gathered.now.next c.args.items.now c.args.gathered.now.met.items c.drop_ended.new.met.items c.requires.open.earlier c.requires.open.kept c.drop_ended.ensures

pub returns-else-items-gathered-clause-met : goal.returns-else-items-gathered-clause-met
returns-else-items-gathered-clause-met c =
    all_gathered c.args.block c.loop-gathered.gathered.next c.args.items.now c.loop-gathered.gathered.met.items c.requires.order c.loop-gathered.invariant
    (λ d within. rw (get_or_default c.args.items.now c.loop-gathered.gathered.next d no_interval within) c.if-items-gathered.false)

pub returns-after-loop-gathered-clause-met : goal.returns-after-loop-gathered-clause-met
returns-after-loop-gathered-clause-met c =
    all_gathered c.args.block c.loop-gathered.gathered.next c.args.items.now c.loop-gathered.gathered.met.items c.requires.order c.loop-gathered.invariant
    (λ d within. absurd (omega arith))

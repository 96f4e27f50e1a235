use Rattle.std.proofs.Common.{◌∙◌, sym}
use Rattle.ttl_walk.proofs.Queues.{filter-fresh}
use Rattle.ttl_walk.proofs.starts.drop_old.Goals as goal

pub returns-clause-items : goal.returns-clause-items
returns-clause-items c =
    sym
    (filter-fresh c.args.ttl c.args.now c.loop-starts.starts.items c.loop-starts.invariant.queue
    (sym c.begins_old.ensures ∙ c.loop-starts-test.false))
    ∙ c.loop-starts.invariant.same

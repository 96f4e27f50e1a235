use Rattle.std.proofs.Common.{◌∙◌, sym, arith}
use Rattle.policy_model.specs.WTinyLfu.{demote}
use Rattle.replay_tinylfu.specs.Queues.{Queues}
use Rattle.replay_tinylfu.proofs.MoveLemmas.{queues-as, demote-one, demote-fits}
use Rattle.replay_tinylfu.proofs.moves.demote.Goals as goal

pub returns-else-protected_len-gt1 : goal.returns-else-protected_len-gt1
returns-else-protected_len-gt1 c =
    let q : Queues = c.loop-ring.ring in
    let old : Queues = c.args.ring.now in
    queues-as q old.objects old.room old.segments.window (demote c.args.most old.segments.main.probation old.segments.main.protected) c.loop-ring.invariant.objects c.loop-ring.invariant.room c.loop-ring.invariant.window
    (sym (demote-one c.args.most q.segments.main.probation q.segments.main.protected (omega (arith, c.protected_len.ensures, c.if-protected_len-gt1.false))) ∙ c.loop-ring.invariant.main)

pub returns-after-loop-ring : goal.returns-after-loop-ring
returns-after-loop-ring c =
    let q : Queues = c.loop-ring.ring in
    let old : Queues = c.args.ring.now in
    queues-as q old.objects old.room old.segments.window (demote c.args.most old.segments.main.probation old.segments.main.protected) c.loop-ring.invariant.objects c.loop-ring.invariant.room c.loop-ring.invariant.window
    (sym (demote-fits c.args.most q.segments.main.probation q.segments.main.protected (omega (arith, c.protected_bytes.ensures, c.loop-ring-test.false))) ∙ c.loop-ring.invariant.main)

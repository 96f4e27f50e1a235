use Rattle.policy_sweep.proofs.Gone.{added-one}
use Rattle.std.proofs.Common.{refl}
use Rattle.policy_sweep.proofs.replays.PolicyReplays.add.Goals as goal

pub returns : goal.returns
returns c = record {
  added = λ told settings h.
      added-one told c.args.objects settings (record { name = c.args.name; capacity = c.args.capacity }) c.args.self.now (record { running = c.push.new.self; batch = c.args.self.now.batch }) c.in_ok-one.one
      c.in_ok-push.ensures.items refl c.requires.ahead_of (c.in_ok-one.ensures told) h;
}

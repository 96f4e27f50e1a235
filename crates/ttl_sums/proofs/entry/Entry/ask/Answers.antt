use Rattle.std.proofs.Common.{◌≡◌, ◌+◌, ◌-◌, ◌*◌, refl, subst}
use Rattle.ttl_walk.specs.Kept.{StandsFor}
use Rattle.ttl_walk.specs.Requests.{walk_on}
use Rattle.ttl_sums.specs.Entries.{asked_of}
use Rattle.ttl_sums.proofs.entry.Entry.ask.Goals as goal

pub returns-clause-asked : goal.returns-clause-asked
returns-clause-asked c = record {
  walk = λ w stands.
      subst (λ weight. StandsFor c.ask.new.self (walk_on c.args.ttl w (asked_of c.args.request.now (weight * (c.args.prices - c.args.self.now.paid)))))
      c.from.ensures (c.in_ok-ask.ensures.walk w stands);
  level = subst
      (λ weight. c.ask.new.self.level + weight * (c.args.prices - c.args.self.now.paid) ≡ c.args.self.now.walk.level + c.args.request.now.gain)
      c.from.ensures c.in_ok-ask.ensures.level;
  top = c.in_ok-ask.ensures.top;
  clock = c.in_ok-ask.ensures.clock;
  paid = refl;
}

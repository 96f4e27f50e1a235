use Rattle.std.proofs.Common.{◌+◌, subst, arith, false, None}
use Rattle.replay_steps.specs.declared.asked.Asked.{Asked}
use Rattle.policy_sweep.specs.Running.{IsRunning}
use Rattle.policy_sweep.proofs.Steady.{one-asked}
use Rattle.policy_sweep.proofs.running.Running.go_through.Goals as goal

-- past the end
abbrev nothing_asked : Asked
nothing_asked = record { object = 0; size = 0; next = None; is_stale = false; replaced = None; is_past = false; only_fills = false }

pub loop-asked-init : goal.loop-asked-init
loop-asked-init c = λ told name capacity objects t other asked so_far. subst (λ n. IsRunning told name capacity objects n c.args.self.now) (omega arith) so_far

pub request-requires : goal.request-requires
request-requires c =
    let w = c.requires.of_some in
    record {
      of_some = record {
        told = w.told;
        name = w.name;
        capacity = w.capacity;
        objects = w.objects;
        t = w.t + c.loop-asked.asked-index;
        ahead_of = w.ahead_of;
        asked = one-asked w.told w.objects (w.t + c.loop-asked.asked-index) _ (w.asked.each c.loop-asked.asked-index nothing_asked c.loop-asked-test.true) (omega (arith, w.asked.few, c.loop-asked-test.true));
        is = c.loop-asked.invariant w.told w.name w.capacity w.objects w.t w.ahead_of w.asked w.is;
      };
    }

pub loop-asked-preserved : goal.loop-asked-preserved
loop-asked-preserved c = λ told name capacity objects t other asked so_far.
    subst (λ n. IsRunning told name capacity objects n c.request.new.self) (omega arith)
    (c.in_ok-request.ensures.more told name capacity objects (t + c.loop-asked.asked-index) other (asked.each c.loop-asked.asked-index nothing_asked c.loop-asked-test.true)
    (c.loop-asked.invariant told name capacity objects t other asked so_far))

pub returns : goal.returns
returns c = record {
  more = λ told name capacity objects t other asked so_far.
      subst (λ n. IsRunning told name capacity objects n c.loop-asked.self) (omega (arith, c.loop-asked-test.false, c.loop-asked.auto.asked-index-end)) (c.loop-asked.invariant told name capacity objects t other asked so_far);
}

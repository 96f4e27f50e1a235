use Rattle.std.proofs.Common.{◌<◌, ◌∙◌, sym, subst, IfSome}
use Rattle.policy_sweep.specs.Running.{replaying}
use Rattle.policy_sweep.proofs.Steady.{first-asked, is-request, rule-stays, sizes-stay}
use Rattle.policy_sweep.proofs.running.Running.request.Goals as goal

pub step-requires-clause-known : goal.step-requires-clause-known
step-requires-clause-known c =
    let w = c.requires.of_some in
    let is = first-asked w.told w.objects w.t c.args.asked.now w.asked in
    subst (λ n. c.args.asked.now.object < n) (sym w.is.objects_are) is.known

pub step-requires-clause-replaced : goal.step-requires-clause-replaced
step-requires-clause-replaced c =
    let w = c.requires.of_some in
    let is = first-asked w.told w.objects w.t c.args.asked.now w.asked in
    subst (λ n. IfSome c.args.asked.now.replaced (λ k. k < n)) (sym w.is.objects_are) is.known_replaced

pub step-requires-clause-size : goal.step-requires-clause-size
step-requires-clause-size c =
    let w = c.requires.of_some in
    let is = first-asked w.told w.objects w.t c.args.asked.now w.asked in
    is.size

pub step-requires-clause-kept_size : goal.step-requires-clause-kept_size
step-requires-clause-kept_size c =
    let w = c.requires.of_some in
    sizes-stay w.told w.name w.capacity w.objects w.t c.args.self.now c.args.asked.now (first-asked w.told w.objects w.t c.args.asked.now w.asked) w.is

pub returns : goal.returns
returns c = record {
  more = λ told name capacity objects t other is so_far.
      let after = c.in_ok-self.ensures.replayed (replaying told name capacity) t (sym so_far.capacity_is) (is-request told name capacity objects t c.args.asked.now other is) so_far.replayed in
      record {
        rule = rule-stays told name capacity _ c.step.new.policy c.in_ok-self.field-0 after;
        capacity_is = c.step.ensures.same_capacity ∙ so_far.capacity_is;
        objects_are = c.step.ensures.same_objects ∙ so_far.objects_are;
        replayed = after;
        named = so_far.named;
        sized = so_far.sized;
      };
}

use Rattle.std.proofs.Common.{◌∙◌, ◌++◌, ◌∷◌, [], ap, sym, take, take_all, map, List}
use Rattle.std.proofs.lemmas.List.{map_more}
use Rattle.policy_sweep.specs.declared.running.PolicyReplay.{PolicyReplay}
use Rattle.policy_sweep.specs.declared.running.Running.{Running}
use Rattle.policy_sweep.proofs.replays.replays_of.Goals as goal

pub loop-one-preserved : goal.loop-one-preserved
loop-one-preserved c =
    c.in_ok-push.ensures.items
    ∙ (ap (λ (replays : List PolicyReplay). replays ++ c.one-item.result.so_far ∷ []) c.loop-one.invariant
    ∙ (ap (λ (r : Running). map (λ (r : Running). r.so_far) (take c.loop-one.one-index c.args.running.now) ++ r.so_far ∷ []) c.one-item.is
    ∙ sym (map_more (λ (r : Running). r.so_far) c.args.running.now c.loop-one.one-index c.one-item.result c.loop-one-test.true)))

pub returns : goal.returns
returns c = c.loop-one.invariant ∙ ap (map (λ (r : Running). r.so_far)) (take_all c.loop-one.one-index c.args.running.now c.loop-one-test.false)

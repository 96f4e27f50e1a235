use Rattle.std.proofs.Common.{◌++◌, ◌∙◌, sym, ap, subst, List, take, take_all, append_assoc}
use Rattle.std.proofs.lemmas.List.{map_more}
use Rattle.policy_model.specs.declared.names.PolicyName.{PolicyName}
use Rattle.policy_sweep.specs.Running.{Setting}
use Rattle.policy_stream.specs.Streams.{HasBegun, at_capacity}
use Rattle.policy_stream.proofs.stream.PolicyStream.add_each.Goals as goal

pub loop-name-preserved : goal.loop-name-preserved
loop-name-preserved c =
    let so_far : List PolicyName = take c.loop-name.name-index c.args.names.now in
    let setting : PolicyName → Setting = λ name. record { name = name; capacity = c.args.capacity } in
    record {
      replace = c.add.ensures.replace ∙ c.loop-name.invariant.replace;
      added = λ settings begun.
          subst (λ all. HasBegun all c.add.new.self)
          (append_assoc settings (at_capacity so_far c.args.capacity) _ ∙ ap (λ others. settings ++ others) (sym (map_more setting c.args.names.now c.loop-name.name-index _ c.loop-name-test.true)))
          (c.in_ok-add.ensures.added (settings ++ at_capacity so_far c.args.capacity) (c.loop-name.invariant.added settings begun));
    }

pub returns-clause-added : goal.returns-clause-added
returns-clause-added c = λ settings begun.
    subst (λ names. HasBegun (settings ++ at_capacity names c.args.capacity) c.loop-name.self) (take_all c.loop-name.name-index c.args.names.now c.loop-name-test.false) (c.loop-name.invariant.added settings begun)

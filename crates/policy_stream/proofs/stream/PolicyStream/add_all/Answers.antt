use Rattle.std.proofs.Common.{◌++◌, ◌∙◌, ℕ, sym, ap, subst, List, take, append-nil, flat_map}
use Rattle.std.proofs.lemmas.List.{take_more}
use Rattle.std.proofs.lemmas.Result.{err_from_is_err_and}
use Rattle.std.proofs.lemmas.List.Concat.{flat_map-append}
use Rattle.policy_sweep.specs.Running.{Setting}
use Rattle.policy_stream.specs.Streams.{HasBegun, at_capacity, settings_of}
use Rattle.policy_stream.proofs.Settings.{named-among}
use Rattle.policy_stream.proofs.stream.PolicyStream.add_all.Goals as goal

pub loop-capacity-preserved : goal.loop-capacity-preserved
loop-capacity-preserved c =
    let at : ℕ → List Setting = at_capacity c.args.names.now in
    let so_far : List ℕ = take c.loop-capacity.capacity-index c.args.capacities.now in
    record {
      replace = c.add_each.ensures.replace ∙ c.loop-capacity.invariant.replace;
      added = λ begun.
          subst (λ all. HasBegun all c.add_each.new.self)
          (sym (ap (flat_map at) (take_more c.args.capacities.now c.loop-capacity.capacity-index 0 c.loop-capacity-test.true) ∙ flat_map-append at so_far _ ∙ ap (λ last. flat_map at so_far ++ last) (append-nil _)))
          (c.in_ok-add_each.ensures.added (settings_of c.args.names.now so_far) (c.loop-capacity.invariant.added begun));
    }

pub returns-in_err-add_each-clause-named : goal.returns-in_err-add_each-clause-named
returns-in_err-add_each-clause-named c =
    let p = err_from_is_err_and c.from_residual.result c.from_residual.ensures.1 in
    rw (p.1, p.2) (named-among c.args.names.now c.args.capacities.now 0 c.loop-capacity.capacity-index c.in_err-add_each.field-0.0 c.loop-capacity-test.true c.in_err-add_each.ensures.named)

use Rattle.std.proofs.Common.{◌∙◌, ap, sym, refl, Some}
use Rattle.replay_core.specs.Keeping.{Kept, contents_of, state_of}
use Rattle.any_policy.specs.Any.{kept_of}
use Rattle.policy_sweep.specs.Running.{replaying}
use Rattle.policy_sweep.proofs.running.Running.new.Goals as goal

pub returns : goal.returns
returns c = λ told.
    let name = c.in_ok-policy.ensures.name in
    let kept = c.in_ok-policy.ensures.nothing in
    record {
      rule = name;
      capacity_is = ap (λ (k : Kept). k.capacity) kept;
      objects_are = ap (λ (k : Kept). k.objects) kept;
      replayed = c.begin.ensures (replaying told c.args.name c.args.capacity) (sym (ap (λ (k : Kept). k.capacity) kept))
          (sym (ap (λ n. Some (state_of n (kept_of c.in_ok-policy.policy))) name ∙ ap (λ k. Some (state_of c.args.name k)) kept)) (ap contents_of kept);
      named = refl;
      sized = refl;
    }

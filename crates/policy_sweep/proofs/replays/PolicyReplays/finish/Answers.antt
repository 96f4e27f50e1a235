use Rattle.std.proofs.Common.{◌≡◌, ◌∙◌, ◌<◌, ap, sym, subst, arith, length, map, slice_index_or}
use Rattle.std.proofs.lemmas.List.{get_or-map, length-map}
use Rattle.replay_core.specs.Keeping.{nothing_kept}
use Rattle.any_policy.specs.declared.policy.AnyPolicy.TheVariants.{Lru}
use Rattle.policy_sweep.specs.declared.running.PolicyReplay.{PolicyReplay}
use Rattle.policy_sweep.specs.declared.running.Running.{Running}
use Rattle.policy_sweep.specs.Replays.{IsOfSetting}
use Rattle.policy_sweep.proofs.Gone.{replay-of}
use Rattle.policy_sweep.proofs.replays.PolicyReplays.finish.Goals as goal

-- past the end
abbrev none : PolicyReplay → Running
none so_far = record { policy = Lru (nothing_kept 0 0); so_far = so_far }

pub returns-clause-replays : goal.returns-clause-replays
returns-clause-replays c = λ told objects settings h.
    let are = c.in_ok-replays_of.ensures in
    let gone = c.in_ok-flush.ensures.gone told objects settings (length told.trace) h in
    let end : gone.gone ≡ length told.trace = omega (arith, gone.others, ap length c.in_ok-flush.ensures.none) in
    let all = are ∙ ap (map (λ (r : Running). r.so_far)) c.deref.ensures.value in
    record {
      each = ap length all ∙ (length-map c.flush.new.self.running.items (λ (r : Running). r.so_far) ∙ gone.each);
      are = λ i s d below.
          let within : i < length c.flush.new.self.running.items = omega (arith, below, gone.each) in
          subst (IsOfSetting told (slice_index_or settings i s))
          (sym (ap (λ rs. slice_index_or rs i d) all ∙ get_or-map (λ (r : Running). r.so_far) c.flush.new.self.running.items i (none d) d within))
          (replay-of told (slice_index_or settings i s).name (slice_index_or settings i s).capacity objects gone.gone (slice_index_or c.flush.new.self.running.items i (none d)) end (gone.running i s (none d) below));
    }

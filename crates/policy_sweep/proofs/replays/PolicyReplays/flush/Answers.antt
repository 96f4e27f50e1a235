use Rattle.std.proofs.Common.{◌<◌, sym, subst, arith, length, slice_index_or}
use Rattle.std.proofs.lemmas.Result.{err_from_is_err_and}
use Rattle.policy_model.specs.declared.names.PolicyName.TheVariants.{Lru}
use Rattle.policy_sweep.specs.Running.{Advances, IsAnyRunning, Setting}
use Rattle.policy_sweep.specs.Replays.{NamesSetting}
use Rattle.policy_sweep.proofs.Gone.{gone-through, named-setting}
use Rattle.policy_sweep.proofs.replays.PolicyReplays.flush.Goals as goal

-- past the end
abbrev none : Setting
none = record { name = Lru; capacity = 0 }

pub go_through_all-requires : goal.go_through_all-requires
go_through_all-requires c =
    let h = c.requires.of_some.gone in
    record {
      of_some = λ i d below.
          let within : i < length c.requires.of_some.settings = omega (arith, below, h.each) in
          subst (IsAnyRunning (slice_index_or c.args.self.now.running.items i d)) (sym c.deref.ensures.value)
          (record {
            told = c.requires.of_some.told;
            name = (slice_index_or c.requires.of_some.settings i none).name;
            capacity = (slice_index_or c.requires.of_some.settings i none).capacity;
            objects = c.requires.of_some.objects;
            t = h.gone;
            ahead_of = h.ahead_of i none within;
            asked = h.asked;
            is = h.running i none d within;
          });
    }

pub returns-clause-gone : goal.returns-clause-gone
returns-clause-gone c = λ told objects settings t h.
    gone-through told objects settings t c.args.self.now (record { running = c.go_through_all.new.running; batch = c.clear.new.self }) c.go_through_all.ensures.each c.clear.ensures.items
    (λ i d below. subst (λ b. Advances b (slice_index_or c.args.self.now.running.items i d) (slice_index_or c.go_through_all.new.running.items i d)) c.deref.ensures.value (c.in_ok-go_through_all.ensures.more i d below)) h

pub returns-in_err-go_through_all-clause-named : goal.returns-in_err-go_through_all-clause-named
returns-in_err-go_through_all-clause-named c =
    let p = err_from_is_err_and c.from_residual.result c.from_residual.ensures.1 in
    rw (p.1, p.2) (λ told objects settings t h. named-setting told objects settings t c.args.self.now c.in_err-go_through_all.field-0.0 h c.in_err-go_through_all.ensures.named)

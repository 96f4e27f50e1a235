use Rattle.std.proofs.Common.{sym, subst}
use Rattle.bit_list.specs.Bits.{bits_of}
use Rattle.replay_fresh.specs.FreshRuns.{OnlyFill}
use Rattle.bound_run.proofs.Replayed.{stale_flags-fill}
use Rattle.bound_run.proofs.replays.replay_while.Goals as goal

pub replay_by-requires-2 : goal.replay_by-requires-2
replay_by-requires-2 c =
    let trace = c.args.trace.now in
    record { only_fill = subst (λ flags. OnlyFill flags trace.fills trace.objects) (sym c.in_ok-stale.ensures) (stale_flags-fill trace _) }

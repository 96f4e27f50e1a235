use Rattle.std.proofs.Common.{◌≡◌, Bool, false, ◌&&◌, map}
use Rattle.std.specs.Prelude.{slice_index_or}
use Rattle.std.specs.List.{range_with_len}
use Rattle.bit_list.specs.Bits.{bits_of}
use Rattle.cache_model.specs.Claim.{only_fills}
use Rattle.bound_run.proofs.replays.stale_flags.Given as goal

abbrev pub invariant-loop-t : goal.invariant-loop-t
invariant-loop-t l = bits_of l.flags ≡ map (λ t. slice_index_or (bits_of l.stale) t false && only_fills l.trace.fills t) (range_with_len 0 l.t)

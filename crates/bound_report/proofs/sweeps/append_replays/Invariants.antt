use Rattle.std.proofs.Common.{◌≡◌, ◌++◌, flat_map, take}
use Rattle.cache_model.specs.Texts.{text_of}
use Rattle.bound_report.specs.Sweeps.{counts_lines}
use Rattle.bound_report.proofs.sweeps.append_replays.Given as goal

-- the lines of the policies before this one were appended
abbrev pub invariant-loop-replay : goal.invariant-loop-replay
invariant-loop-replay l = l.text.items ≡ l.initial.text.items ++ flat_map (λ replay. text_of (counts_lines l.capacity replay)) (take l.replay-index l.replays)

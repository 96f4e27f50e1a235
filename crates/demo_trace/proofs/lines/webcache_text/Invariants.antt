use Rattle.std.proofs.Common.{◌≡◌, ◌+◌, ◌++◌, drop}
use Rattle.cache_model.specs.Texts.{text_of}
use Rattle.demo_trace.specs.Lines.{lines_from, webcache_text}
use Rattle.demo_trace.proofs.lines.webcache_text.Given as goal

abbrev pub invariant-loop-t : goal.invariant-loop-t
invariant-loop-t l = l.text.items ++ text_of (lines_from (l.t + 1) (drop l.t l.trace.objects)) ≡ webcache_text l.trace.objects

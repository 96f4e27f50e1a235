-- The lines of hits that a simulator claims.
use Rattle.std.specs.Prelude.{ℕ, List, [], ◌∷◌, ◌++◌, codes}
use Rattle.cache_model.specs.Texts.{entry}
use Rattle.bound_report.specs.Rendering.{Lines}
use Rattle.bound_report.specs.Reports.{trace_line, written_lines}
use Rattle.bound_report.specs.Replays.{hits_line}
use Rattle.bound_report.specs.declared.judged.JudgedFacts.{JudgedFacts}

-- that the hits are possible
abbrev pub possible_line : List ℕ
possible_line = codes "possible"

-- the lines of possible hits: the counts of the trace, the capacity, the claimed hits with their bytes, and the bytes that they must write
abbrev pub judged_lines : JudgedFacts → Lines
judged_lines facts = record {
  front = trace_line facts.requests facts.objects facts.dropped ∷ [];
  head = entry (codes "judged capacity") facts.capacity ∷ [];
  back = hits_line facts.claimed.hits facts.claimed.bytes ∷ written_lines facts.written ++ possible_line ∷ [];
}

-- The text of a replay.
use Rattle.std.specs.Prelude.{ℕ, List, [], ◌∷◌, ◌++◌, codes}
use Rattle.cache_model.specs.Texts.{entry}
use Rattle.bound_report.specs.Rendering.{Lines, rendered, uncounted}
use Rattle.bound_report.specs.Reports.{trace_line, written_lines}
use Rattle.policy_model.specs.declared.names.PolicyName.{PolicyName}
use Rattle.policy_model.specs.Names.{policy_word}
use Rattle.bound_report.specs.declared.replays.ReplayFacts.{ReplayFacts}

-- a policy and its capacity
abbrev pub policy_line : PolicyName → ℕ → List ℕ
policy_line policy capacity = entry (codes "policy " ++ policy_word policy ++ codes " capacity") capacity

-- the hits and their bytes
abbrev pub hits_line : ℕ → ℕ → List ℕ
hits_line hits bytes = entry (entry (codes "hits") hits ++ codes " bytes") bytes

-- the three lines of a replay, and that of the bytes that it writes
abbrev pub replay_lines : ReplayFacts → Lines
replay_lines facts = record {
  front = trace_line facts.requests facts.objects facts.dropped ∷ [];
  head = policy_line facts.policy facts.capacity ∷ [];
  back = hits_line facts.replay.hits facts.replay.bytes ∷ written_lines facts.written;
}

-- the text of a replay without warm-up, marks and stale requests
abbrev pub replay_text : ReplayFacts → List ℕ
replay_text facts = rendered uncounted (replay_lines facts)

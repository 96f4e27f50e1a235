-- The text of a demo.
use Rattle.std.specs.Prelude.{ℕ, List, [], ◌∷◌, ◌++◌, codes}
use Rattle.cache_model.specs.Texts.{entry, line, text_of}
use Rattle.policy_model.specs.declared.names.PolicyName.{PolicyName}
use Rattle.policy_model.specs.declared.names.PolicyName.TheVariants.{Lru, Fifo, Clock, Lfu, Belady}
use Rattle.replay_core.specs.declared.counts.Replay.{Replay}
use Rattle.bound_report.specs.declared.demo.DemoFacts.{DemoFacts}
use Rattle.bound_report.specs.declared.demo.PolicyReplays.{PolicyReplays}
use Rattle.policy_model.specs.Names.{policy_word}

-- what is asked of a demo
abbrev pub demo_line : DemoFacts → List ℕ
demo_line facts =
    entry (entry (entry (entry (codes "demo seed") facts.seed ++ codes " requests") facts.requests ++ codes " objects") facts.objects ++ codes " capacity") facts.capacity

-- a policy, its hits and their bytes
abbrev pub replay_line : PolicyName → Replay → List ℕ
replay_line policy replay = entry (entry (codes "replay " ++ policy_word policy ++ codes " hits") replay.hits ++ codes " bytes") replay.bytes

-- a line for each policy
abbrev pub replay_lines : PolicyReplays → List (List ℕ)
replay_lines replays =
    replay_line Lru replays.lru
    ∷ replay_line Fifo replays.fifo
    ∷ replay_line Clock replays.clock
    ∷ replay_line Lfu replays.lfu
    ∷ replay_line Belady replays.belady
    ∷ []

-- the text of a demo: what is asked of it, the report of the bounds, that a check found their certificate valid, and the replays
abbrev pub demo_text : DemoFacts → List ℕ → PolicyReplays → List ℕ
demo_text facts bounds replays = line (demo_line facts) ++ bounds ++ text_of (codes "check valid" ∷ replay_lines replays)

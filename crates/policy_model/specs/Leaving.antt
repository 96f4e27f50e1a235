-- What a rule keeps once it has let go of an object that it did not give up itself, as one that has expired.
use Rattle.std.specs.Prelude.{ℕ, ◌==◌, not, List, filter}
use Rattle.policy_model.specs.declared.names.PolicyName.{PolicyName}
use Rattle.policy_model.specs.declared.names.PolicyName.TheVariants.{Sieve, S3Fifo, WTinyLfu}
use Rattle.policy_model.specs.States.{Member, Stock, State}
use Rattle.policy_model.specs.Steps.{without_entry}
use Rattle.policy_model.specs.Sieve.{Cut, begin_again, cut_of, stock_of_cut}
use Rattle.policy_model.specs.S3Fifo.{Queues, queues_of, stock_of_queues}
use Rattle.policy_model.specs.WTinyLfu.{Segments, frequencies_of, segments_of, stock_of_segments}

-- the members but for the object of this number
abbrev pub without_member : ℕ → List Member → List Member
without_member object members = filter (λ m. not (m.object == object)) members

-- the entry leaves behind the hand or ahead of it; if nothing is then ahead, the hand begins again
abbrev pub cut_without : ℕ → Cut → Cut
cut_without object c = begin_again (without_entry object c.behind) (without_entry object c.ahead)

-- it leaves the small queue or the main one, and no ghost comes or goes
abbrev pub queues_without : ℕ → Queues → Queues
queues_without object q = record { small = without_entry object q.small; main = without_entry object q.main; ghosts = q.ghosts }

-- it leaves the window, those on probation or the protected ones
abbrev pub segments_without : ℕ → Segments → Segments
segments_without object q = record {
  window = without_entry object q.window;
  main = record { probation = without_entry object q.main.probation; protected = without_entry object q.main.protected };
}

-- the entry of the object of this number leaves, and nothing else changes
abbrev pub stock_without : PolicyName → State → ℕ → Stock
stock_without Sieve s object = stock_of_cut (cut_without object (cut_of s))
stock_without S3Fifo s object = stock_of_queues (queues_without object (queues_of s))
stock_without WTinyLfu s object = stock_of_segments (frequencies_of s) (segments_without object (segments_of s))
stock_without name s object = record { entries = without_entry object s.entries; beside = s.beside }

-- the state of a policy that has let go of the object of this number
abbrev pub let_go : State → ℕ → State
let_go s object = let kept = stock_without s.name s object in record s { entries = kept.entries; beside = kept.beside }

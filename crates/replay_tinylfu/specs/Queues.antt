-- The three queues of W-TinyLFU as nodes keep them.
use Rattle.std.specs.Prelude.{◌≡◌, ℕ, ◌+◌, ◌<◌, ◌++◌, List, [], length, map, None}
use Rattle.policy_model.specs.declared.names.PolicyName.TheVariants.{WTinyLfu}
use Rattle.policy_model.specs.States.{Entry}
use Rattle.policy_model.specs.Steps.{fresh_entry}
use Rattle.policy_model.specs.WTinyLfu.{Main, Segments, count_of, segment_entries}
use Rattle.linked_nodes.specs.declared.nodes.Node.{Node}
use Rattle.linked_nodes.specs.Nodes.{node_at}
use Rattle.replay_tinylfu.specs.Marks.{up_to, past}

-- the segments, a number above that of each object that may be in one, and how many there may be
pub record Queues : Type 0 where
  pub objects : ℕ
  pub segments : Segments
  pub room : ℕ

-- there is room for one more
abbrev pub HasSpace : Queues → Type 0
HasSpace q = length (segment_entries q.segments) < q.room

-- the entry of an object
abbrev pub plain_entry : ℕ → ℕ → Entry
plain_entry object size = fresh_entry WTinyLfu 0 object size None

-- the entries of these numbers
abbrev pub entries_at : List Node → List ℕ → List Entry
entries_at nodes numbers = map (λ k. plain_entry k (node_at nodes k).size) numbers

-- the numbers of the ring between its marks: `none` is before the window, the next two numbers end the window and the objects on probation
abbrev pub window_of : ℕ → List ℕ → List ℕ
window_of none numbers = up_to (none + 1) numbers

abbrev pub main_numbers : ℕ → List ℕ → List ℕ
main_numbers none numbers = past (none + 1) numbers

abbrev pub probation_of : ℕ → List ℕ → List ℕ
probation_of none numbers = up_to (none + 2) (main_numbers none numbers)

abbrev pub protected_of : ℕ → List ℕ → List ℕ
protected_of none numbers = past (none + 2) (main_numbers none numbers)

-- queues of three lists of numbers
abbrev pub queues_by : List Node → ℕ → List ℕ → List ℕ → List ℕ → Queues
queues_by nodes objects window probation protected = record {
  objects = objects;
  segments = record { window = entries_at nodes window; main = record { probation = entries_at nodes probation; protected = entries_at nodes protected } };
  room = 0;
}

abbrev pub queues_at : List Node → ℕ → List ℕ → Queues
queues_at nodes objects numbers = queues_by nodes objects (window_of objects numbers) (probation_of objects numbers) (protected_of objects numbers)

-- segments without an entry
abbrev pub no_segments : Segments
no_segments = record { window = []; main = record { probation = []; protected = [] } }

-- queues with other segments
abbrev pub with_segments : Segments → Queues → Queues
with_segments segments q = record q { segments = segments }

-- queues with another main part
abbrev pub with_main : Main → Queues → Queues
with_main m q = record q { segments = record { window = q.segments.window; main = m } }

-- the entries of the main part, those on probation first
abbrev pub main_entries : Queues → List Entry
main_entries q = q.segments.main.probation ++ q.segments.main.protected

-- this many entries are displaced, whose counts come to less than this
pub record DisplacesAll (counts : List ℕ) (leaving : List Entry) (count entries : ℕ) : Type 0 where
  pub many : entries ≡ length leaving
  pub less : count_of counts leaving < count

-- queues of which one is another
abbrev pub with_window : List Entry → Queues → Queues
with_window entries q = record q { segments = record { window = entries; main = q.segments.main } }

abbrev pub with_probation : List Entry → Queues → Queues
with_probation entries q = with_main (record { probation = entries; protected = q.segments.main.protected }) q

abbrev pub with_protected : List Entry → Queues → Queues
with_protected entries q = with_main (record { probation = q.segments.main.probation; protected = entries }) q

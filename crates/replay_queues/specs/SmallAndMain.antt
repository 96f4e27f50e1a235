-- The queues of S3-FIFO, and the hits of their objects.
use Rattle.std.specs.Prelude.{◌≡◌, ℕ, ◌-◌, ◌*◌, ◌++◌, ◌≤◌, ◌^◌, ◌==◌, Bool, ◌||◌, false, nat_le, List, length, slice_index, None}
use Rattle.policy_model.specs.States.{Member, Entry, Apart, used, has_member, members_size}
use Rattle.policy_model.specs.S3Fifo.{Queues, shrink_main, turns_of, shrink, queues_used, stock_of_queues}
use Rattle.policy_model.specs.Steps.{until_fits}
use Rattle.replay_core.specs.Keeping.{Kept}
use Rattle.replay_queues.specs.Items.{has_item, items_of, entries_by}
use Rattle.replay_queues.specs.declared.three_queues.ThreeQueues.{ThreeQueues}

-- the byte is 0 of an object that is not known, 1 of a ghost, and of one that is held 2 more than its hits
abbrev pub is_ghost : ℕ → Bool
is_ghost cell = cell == 1

abbrev pub is_kept : ℕ → Bool
is_kept cell = nat_le 2 cell

-- the entry of a pair
abbrev pub counted_entry : ℕ → ℕ × ℕ → Entry
counted_entry cell p = record { object = p.0; size = p.1; mark = false; count = cell - 2; last = 0; next = None; rank = 0 }

-- the queues of pairs
abbrev pub queues_by : List ℕ → List (ℕ × ℕ) → List (ℕ × ℕ) → List Member → Queues
queues_by cells small main ghosts =
    record { small = entries_by counted_entry cells small; main = entries_by counted_entry cells main; ghosts = ghosts }

abbrev pub queues_at : ThreeQueues → Queues
queues_at t = queues_by t.table (items_of t.parts.small) (items_of t.parts.main) t.parts.ghosts

-- no object is held twice, and the bytes tell which ones are held and which ones are ghosts
pub record AreQueued (cells : List ℕ) (small main : List (ℕ × ℕ)) (ghosts : List Member) : Type 0 where
  pub apart : Apart (entries_by counted_entry cells small ++ entries_by counted_entry cells main)
  pub known : (k : ℕ) → is_kept (slice_index cells k) ≡ (has_item small k || has_item main k)
  pub gone : (k : ℕ) → is_ghost (slice_index cells k) ≡ has_member ghosts k

-- the same of the fields, with the bytes of the small queue and of the ghosts
pub record IsFading (t : ThreeQueues) : Type 0 where
  pub are : AreQueued t.table (items_of t.parts.small) (items_of t.parts.main) t.parts.ghosts
  pub small_is : t.small_used ≡ used (queues_at t).small
  pub ghosts_are : t.ghosts_used ≡ members_size t.parts.ghosts
  pub each_object : length t.table ≡ t.parts.objects

-- and the ghosts have faded
pub record IsQueued (t : ThreeQueues) : Type 0 where
  pub fading : IsFading t
  pub few : members_size t.parts.ghosts ≤ 2 ^ 56

-- queues whose main one gave up an entry
abbrev pub main_shrunk : Queues → Queues
main_shrunk q = record q { main = shrink_main (turns_of q.main) q.main }

-- queues after the turns that make room for this many bytes
abbrev pub with_space : ℕ → ℕ → Queues → Queues
with_space capacity size q = until_fits (shrink capacity) queues_used capacity size (2 * length (q.small ++ q.main)) q

-- what is kept of queues
abbrev pub queues_kept : ℕ → ℕ → ℕ → Queues → Kept
queues_kept objects capacity requests q =
    record { objects = objects; capacity = capacity; now = requests; entries = (stock_of_queues q).entries; beside = (stock_of_queues q).beside }

-- there is room for no more than these objects, and the bytes used are counted and fit
pub record IsS3Fifo (objects capacity in_use : ℕ) (t : ThreeQueues) : Type 0 where
  pub range : capacity ≤ 2 ^ 56
  pub within : length t.table ≤ objects
  pub in_use_is : in_use ≡ queues_used (queues_at t)
  pub fits : in_use ≤ capacity
  pub queued : IsQueued t

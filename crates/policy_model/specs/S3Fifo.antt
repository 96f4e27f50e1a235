-- S3-FIFO: a small queue, a main queue, and a queue of ghosts, which are objects that the small one gave up.
use Rattle.std.specs.Prelude.{ℕ, zero, suc, ◌+◌, ◌-◌, ◌*◌, ◌/◌, ◌==◌, Bool, true, false, not, ◌&&◌, ◌||◌, nat_le, if◌then◌else◌, List, [], ◌∷◌, ◌++◌, length, take, drop, filter, sum_by, None}
use Rattle.policy_model.specs.declared.names.PolicyName.TheVariants.{S3Fifo}
use Rattle.policy_model.specs.States.{Member, Entry, Stock, State, nothing_beside, member_of, members_size, has_member, used}
use Rattle.policy_model.specs.Steps.{until_fits, touch, fresh_entry, served}

-- the three queues, each from its front
pub record Queues : Type 0 where
  pub small : List Entry
  pub main : List Entry
  pub ghosts : List Member

-- the part of the capacity that the small queue is meant to have
abbrev pub part_of : ℕ → ℕ
part_of capacity = capacity / 10

-- ghosts leave from the front until they have at most this many bytes
abbrev pub fade : ℕ → List Member → List Member
fade most [] = []
fade most (m ∷ rest) = if nat_le (members_size (m ∷ rest)) most then m ∷ rest else fade most rest

-- from the front of the small queue on, an entry with two hits or more moves to the back of the main queue, with none; the first other is removed, and is a ghost
abbrev pub shrink_small : ℕ → List Entry → List Entry → List Member → Queues
shrink_small most [] main ghosts = record { small = []; main = main; ghosts = ghosts }
shrink_small most (e ∷ small) main ghosts =
    if nat_le 2 e.count then shrink_small most small (main ++ (record e { count = 0 }) ∷ []) ghosts
    else record { small = small; main = main; ghosts = fade most (ghosts ++ member_of e ∷ []) }

-- from the front of the main queue on, an entry with a hit loses one and moves to the back; the first other is removed; `turns` turns are enough
abbrev pub shrink_main : ℕ → List Entry → List Entry
shrink_main zero main = main
shrink_main (suc turns) [] = []
shrink_main (suc turns) (e ∷ main) = if e.count == 0 then main else shrink_main turns (main ++ (record e { count = e.count - 1 }) ∷ [])

-- each entry's hits and one more, summed
abbrev pub turns_of : List Entry → ℕ
turns_of entries = sum_by (λ e. e.count + 1) entries

abbrev pub is_empty : List Entry → Bool
is_empty [] = true
is_empty (e ∷ rest) = false

-- the small queue shrinks if it has an entry, and its part of the capacity or more, or the main queue is empty; else the main queue does
abbrev pub shrink : ℕ → Queues → Queues
shrink capacity q =
    if not (is_empty q.small) && (nat_le (part_of capacity) (used q.small) || is_empty q.main)
    then shrink_small (capacity - part_of capacity) q.small q.main q.ghosts
    else record { small = q.small; main = shrink_main (turns_of q.main) q.main; ghosts = q.ghosts }

-- the bytes of the entries
abbrev pub queues_used : Queues → ℕ
queues_used q = used q.small + used q.main

-- a ghost comes into the main queue and leaves the ghosts, and another object comes into the small queue
abbrev pub enter : Entry → Queues → Queues
enter e q =
    if has_member q.ghosts e.object
    then record { small = q.small; main = q.main ++ e ∷ []; ghosts = filter (λ m. not (m.object == e.object)) q.ghosts }
    else record { small = q.small ++ e ∷ []; main = q.main; ghosts = q.ghosts }

-- the queues of a state
abbrev pub queues_of : State → Queues
queues_of s = record { small = take s.beside.first s.entries; main = drop s.beside.first s.entries; ghosts = s.beside.ghosts }

-- what is kept of queues
abbrev pub stock_of_queues : Queues → Stock
stock_of_queues q = record { entries = q.small ++ q.main; beside = record nothing_beside { first = length q.small; ghosts = q.ghosts } }

-- a hit counts, up to three; on a miss the queues shrink until the object fits
abbrev pub s3fifo_after : State → ℕ → ℕ → Stock
s3fifo_after s object size =
    served s object size
    (record { entries = touch S3Fifo s.now None object s.entries; beside = s.beside })
    (stock_of_queues (enter (fresh_entry S3Fifo s.now object size None) (until_fits (shrink s.capacity) queues_used s.capacity size (2 * length s.entries) (queues_of s))))

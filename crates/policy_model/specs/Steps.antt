-- What entries go through: the moves that the rules are made of, and the steps of the rules that keep entries alone.
use Rattle.std.specs.Prelude.{ℕ, zero, suc, ◌+◌, ◌-◌, ◌*◌, ◌^◌, ◌==◌, Bool, true, false, not, ◌&&◌, ◌||◌, nat_lt, nat_le, min, if◌then◌else◌, List, [], ◌∷◌, ◌++◌, length, map, filter, fold, drop, Some, None}
use Rattle.std.specs.declared.option.Option.{Option}
use Rattle.policy_model.specs.declared.names.PolicyName.{PolicyName}
use Rattle.policy_model.specs.declared.names.PolicyName.TheVariants.{Lru, Fifo, Clock, Lfu, Belady, Sieve, S3Fifo}
use Rattle.policy_model.specs.States.{Entry, Stock, State, used, has_entry}

-- turn by turn, until this many bytes fit beside those that are held; `turns` turns are enough
abbrev pub until_fits : {K : Type 0} → (K → K) → (K → ℕ) → ℕ → ℕ → ℕ → K → K
until_fits turn held capacity size zero kept = kept
until_fits turn held capacity size (suc turns) kept =
    if nat_le (held kept + size) capacity then kept else until_fits turn held capacity size turns (turn kept)

-- entries go one by one until this many bytes fit; `turns` turns are enough
abbrev pub make_room : ℕ → (List Entry → List Entry) → ℕ → ℕ → List Entry → List Entry
make_room zero remove capacity size entries = entries
make_room (suc turns) remove capacity size entries =
    if nat_le (used entries + size) capacity then entries else make_room turns remove capacity size (remove entries)

-- the entries but for those of the object of this number
abbrev pub without_entry : ℕ → List Entry → List Entry
without_entry object entries = filter (λ e. not (e.object == object)) entries

-- the later of two entries if it is removed before the other, and else the earlier
abbrev pub ahead_of : (Entry → Entry → Bool) → Entry → Entry → Entry
ahead_of ahead best e = if ahead e best then e else best

-- the entry that is removed before the others
abbrev pub foremost : (Entry → Entry → Bool) → Entry → List Entry → Entry
foremost ahead e rest = fold (ahead_of ahead) e rest

-- the entries but for the one that is removed before the others
abbrev pub remove_foremost : (Entry → Entry → Bool) → List Entry → List Entry
remove_foremost ahead [] = []
remove_foremost ahead (e ∷ rest) = without_entry (foremost ahead e rest).object (e ∷ rest)

-- the least pair of count and last use goes first, and of equal pairs the least object number
abbrev pub is_less_used : Entry → Entry → Bool
is_less_used e f = nat_lt e.count f.count || ((e.count == f.count) && (nat_lt e.last f.last || ((e.last == f.last) && nat_lt e.object f.object)))

-- a missing next request is farther than every other, and of equally far ones the greater object number
abbrev pub is_farther_at : ℕ → ℕ → Option ℕ → Option ℕ → Bool
is_farther_at object other None None = nat_lt other object
is_farther_at object other None (Some b) = true
is_farther_at object other (Some a) None = false
is_farther_at object other (Some a) (Some b) = nat_lt b a || ((a == b) && nat_lt other object)

-- the next request of an entry is farther than that of another
abbrev pub is_farther : Entry → Entry → Bool
is_farther e f = is_farther_at e.object f.object e.next f.next

-- a marked front entry loses its mark and goes to the back, and one without a mark is removed
abbrev pub turn_hand : List Entry → List Entry
turn_hand [] = []
turn_hand (e ∷ rest) = if e.mark then rest ++ (record e { mark = false }) ∷ [] else rest

-- what a hit changes in the entry of its object; GDSF and LFUDA, whose ranks are above a floor, say it in a module of their own
abbrev pub touched : PolicyName → ℕ → Option ℕ → Entry → Entry
touched Lru now next e = e
touched Fifo now next e = e
touched Clock now next e = record e { mark = true }
touched Lfu now next e = record e { count = min (e.count + 1) (2 ^ 64 - 1); last = now }
touched Belady now next e = record e { next = next }
touched Sieve now next e = record e { mark = true }
touched S3Fifo now next e = record e { count = min (e.count + 1) 3 }
touched name now next e = e

-- the entries with the one of the object of this number changed
abbrev pub change : (Entry → Entry) → ℕ → List Entry → List Entry
change by object entries = map {A = Entry} (λ f. if f.object == object then by f else f) entries

-- the same, with what a hit changes
abbrev pub touch : PolicyName → ℕ → Option ℕ → ℕ → List Entry → List Entry
touch name now next object entries = change (touched name now next) object entries

-- the entries after a hit on the object of entry e; the rules that keep more than entries say it in modules of their own
abbrev pub on_hit : PolicyName → ℕ → Entry → List Entry → List Entry
on_hit Lru now e entries = without_entry e.object entries ++ e ∷ []
on_hit Fifo now e entries = entries
on_hit Clock now e entries = touch Clock now e.next e.object entries
on_hit Lfu now e entries = touch Lfu now e.next e.object entries
on_hit Belady now e entries = touch Belady now e.next e.object entries
on_hit name now e entries = entries

-- the entries with e put in, if they stand in order of their objects' numbers
abbrev pub put_in : Entry → List Entry → List Entry
put_in e [] = e ∷ []
put_in e (f ∷ rest) = if nat_lt e.object f.object then e ∷ f ∷ rest else f ∷ put_in e rest

-- the entries after a miss of an object within the capacity, for which entry e is put in; likewise
abbrev pub on_miss : PolicyName → ℕ → Entry → List Entry → List Entry
on_miss Lru capacity e entries = make_room (length entries) (drop 1) capacity e.size entries ++ e ∷ []
on_miss Fifo capacity e entries = make_room (length entries) (drop 1) capacity e.size entries ++ e ∷ []
on_miss Clock capacity e entries = make_room (2 * length entries) turn_hand capacity e.size entries ++ e ∷ []
on_miss Lfu capacity e entries = put_in e (make_room (length entries) (remove_foremost is_less_used) capacity e.size entries)
on_miss Belady capacity e entries = make_room (length entries + 1) (remove_foremost is_farther) capacity 0 (put_in e entries)
on_miss name capacity e entries = entries

-- the last use that is kept, by the rule that goes by it
abbrev pub last_kept : PolicyName → ℕ → ℕ
last_kept Lfu now = now
last_kept name now = 0

-- the next request that is kept, by the rule that goes by it
abbrev pub next_kept : PolicyName → Option ℕ → Option ℕ
next_kept Belady next = next
next_kept name next = None

-- the entry of a request
abbrev pub fresh_entry : PolicyName → ℕ → ℕ → ℕ → Option ℕ → Entry
fresh_entry name now object size next = record { object = object; size = size; mark = false; count = 0; last = last_kept name now; next = next_kept name next; rank = 0 }

-- the entries after a request, by a rule that keeps entries alone: an object above the capacity changes nothing
abbrev pub plain_after : State → ℕ → ℕ → Option ℕ → List Entry
plain_after s object size next =
    if has_entry s.entries object then on_hit s.name s.now (fresh_entry s.name s.now object size next) s.entries
    else (if nat_le size s.capacity then on_miss s.name s.capacity (fresh_entry s.name s.now object size next) s.entries else s.entries)

-- `hit` if the object is held, `miss` if it isn't and is within the capacity, and else what was kept
abbrev pub served : State → ℕ → ℕ → Stock → Stock → Stock
served s object size hit miss =
    if has_entry s.entries object then hit
    else (if nat_le size s.capacity then miss else record { entries = s.entries; beside = s.beside })

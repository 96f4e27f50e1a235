-- W-TinyLFU: an object comes into a window, and from there into a main part of two queues if it fits there or was asked for more often than what it displaces.
use Rattle.std.specs.Prelude.{ℕ, zero, suc, ◌+◌, ◌-◌, ◌*◌, ◌/◌, ◌==◌, ◌&&◌, ◌||◌, nat_lt, nat_le, min, max, if◌then◌else◌, List, [], ◌∷◌, ◌++◌, length, map, take, drop, filter, sum_by, slice_index, None}
use Rattle.policy_model.specs.declared.names.PolicyName.TheVariants.{WTinyLfu}
use Rattle.policy_model.specs.States.{Entry, Stock, State, nothing_beside, used, has_entry}
use Rattle.policy_model.specs.Steps.{without_entry, fresh_entry, served}

-- the main part: the entries on probation and the protected ones, each least recently used first
pub record Main : Type 0 where
  pub probation : List Entry
  pub protected : List Entry

-- the window, least recently used first, and the main part
pub record Segments : Type 0 where
  pub window : List Entry
  pub main : Main

-- how often each object was asked for, by its number up to the greatest so far, and how many requests there were; both are halved at times
pub record Frequencies : Type 0 where
  pub counts : List ℕ
  pub asked : ℕ

-- the bytes of the window are a hundredth of the capacity, at least 1
abbrev pub window_part : ℕ → ℕ
window_part capacity = max 1 (capacity / 100)

-- the main part has the others
abbrev pub main_part : ℕ → ℕ
main_part capacity = capacity - window_part capacity

-- of which the protected entries may have eight tenths
abbrev pub protected_part : ℕ → ℕ
protected_part capacity = 8 * main_part capacity / 10

-- ---- counts
-- one more request of an object counts, up to 15
abbrev pub one_more : ℕ → List ℕ → List ℕ
one_more zero [] = 1 ∷ []
one_more zero (count ∷ rest) = min (count + 1) 15 ∷ rest
one_more (suc object) [] = 0 ∷ one_more object []
one_more (suc object) (count ∷ rest) = count ∷ one_more object rest

-- all is halved once there were ten times as many requests as entries are held, or as 16
abbrev pub halved_in_time : ℕ → Frequencies → Frequencies
halved_in_time held f = if nat_le (10 * max 16 held) f.asked then record { counts = map (λ count. count / 2) f.counts; asked = f.asked / 2 } else f

-- after one more request
abbrev pub with_request : ℕ → ℕ → Frequencies → Frequencies
with_request held object f = halved_in_time held (record { counts = one_more object f.counts; asked = f.asked + 1 })

-- ---- a hit
-- the entry of the object of this number, if there is one
abbrev pub entry_of : ℕ → List Entry → List Entry
entry_of object entries = filter (λ e. e.object == object) entries

-- it goes to the back
abbrev pub to_back : ℕ → List Entry → List Entry
to_back object entries = without_entry object entries ++ entry_of object entries

-- while the protected entries are several and have more than this many bytes, their first goes to the back of those on probation
abbrev pub demote : ℕ → List Entry → List Entry → Main
demote most probation [] = record { probation = probation; protected = [] }
demote most probation (e ∷ protected) =
    if nat_le (used (e ∷ protected)) most || (length protected == 0) then record { probation = probation; protected = e ∷ protected }
    else demote most (probation ++ e ∷ []) protected

-- a protected entry goes to the back of its queue, and one on probation becomes protected
abbrev pub hit_main : ℕ → ℕ → Main → Main
hit_main most object m =
    if has_entry m.protected object then record { probation = m.probation; protected = to_back object m.protected }
    else demote most (without_entry object m.probation) (m.protected ++ entry_of object m.probation)

-- an entry of the window goes to its back
abbrev pub hit_in : ℕ → ℕ → Segments → Segments
hit_in most object q =
    if has_entry q.window object then record { window = to_back object q.window; main = q.main }
    else record { window = q.window; main = hit_main most object q.main }

-- ---- a miss
-- the bytes of the main part
abbrev pub main_used : Main → ℕ
main_used m = used m.probation + used m.protected

-- the first entries, as few as have this many bytes
abbrev pub first_with : ℕ → List Entry → List Entry
first_with bytes [] = []
first_with bytes (e ∷ rest) = if bytes == 0 then [] else e ∷ first_with (bytes - e.size) rest

-- what must leave the main part if this many bytes come in: first those on probation
abbrev pub victims : ℕ → ℕ → Main → List Entry
victims most size m = first_with (main_used m + size - most) (m.probation ++ m.protected)

-- the main part without its first entries
abbrev pub without_first : ℕ → Main → Main
without_first count m = record { probation = drop count m.probation; protected = drop (count - length m.probation) m.protected }

-- an entry comes in on probation
abbrev pub on_probation : Entry → Main → Main
on_probation e m = record { probation = m.probation ++ e ∷ []; protected = m.protected }

-- the counts of entries, summed
abbrev pub count_of : List ℕ → List Entry → ℕ
count_of counts entries = sum_by (λ e. slice_index counts e.object) entries

-- a candidate comes in if it fits, or if its count is above that of its victims, which leave
abbrev pub admit : ℕ → List ℕ → Entry → Main → Main
admit most counts e m =
    let leaving = victims most e.size m in
    if nat_le e.size most && (nat_le (main_used m + e.size) most || nat_lt (count_of counts leaving) (slice_index counts e.object))
    then on_probation e (without_first (length leaving) m) else m

-- while the window has more bytes than its part, its first entry leaves it and is a candidate
abbrev pub spill : ℕ → ℕ → List ℕ → List Entry → Main → Segments
spill part most counts [] m = record { window = []; main = m }
spill part most counts (e ∷ window) m =
    if nat_le (used (e ∷ window)) part then record { window = e ∷ window; main = m }
    else spill part most counts window (admit most counts e m)

-- what is larger than the window is a candidate at once, and else comes in at the back of the window
abbrev pub missed_in : ℕ → ℕ → List ℕ → Entry → Segments → Segments
missed_in part most counts e q =
    if nat_lt part e.size then record { window = q.window; main = admit most counts e q.main }
    else spill part most counts (q.window ++ e ∷ []) q.main

-- ---- a request
-- the main part of entries, of which this many are on probation
abbrev pub main_of : ℕ → List Entry → Main
main_of count entries = record { probation = take count entries; protected = drop count entries }

-- the segments of a state
abbrev pub segments_of : State → Segments
segments_of s = record { window = take s.beside.first s.entries; main = main_of s.beside.second (drop s.beside.first s.entries) }

-- the frequencies of a state
abbrev pub frequencies_of : State → Frequencies
frequencies_of s = record { counts = s.beside.counts; asked = s.beside.asked }

-- the entries of segments
abbrev pub segment_entries : Segments → List Entry
segment_entries q = q.window ++ (q.main.probation ++ q.main.protected)

-- what is kept of both
abbrev pub stock_of_segments : Frequencies → Segments → Stock
stock_of_segments f q = record {
  entries = segment_entries q;
  beside = record nothing_beside { first = length q.window; second = length q.main.probation; counts = f.counts; asked = f.asked };
}

-- the request counts; then it hits or misses
abbrev pub tinylfu_after : State → ℕ → ℕ → Stock
tinylfu_after s object size =
    let f = with_request (length s.entries) object (frequencies_of s) in
    served s object size
    (stock_of_segments f (hit_in (protected_part s.capacity) object (segments_of s)))
    (stock_of_segments f (missed_in (window_part s.capacity) (main_part s.capacity) f.counts (fresh_entry WTinyLfu s.now object size None) (segments_of s)))

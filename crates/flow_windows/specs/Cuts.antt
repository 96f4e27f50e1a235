-- The windows of an instance one after another, and the arcs that meet each.
use Rattle.std.specs.Prelude.{◌≡◌, ℕ, ◌+◌, ◌-◌, ◌*◌, ◌/◌, ◌<◌, ◌≤◌, ◌==◌, ◌&&◌, nat_lt, Bool, List, [], ◌∷◌, length, filter, slice_index, slice_set}
use Rattle.std.specs.List.{range_with_len}
use Rattle.flow_model.specs.declared.arcs.OuterArc.{OuterArc}
use Rattle.flow_model.specs.Instances.{Instance, arc_at}
use Rattle.flow_model.specs.Windows.{meets}

-- an instance, the width of its windows, and the number of one of them
pub record Cut : Type 0 where
  pub whole : Instance
  pub width : ℕ
  pub number : ℕ

-- the window of that number
abbrev pub cut_of : Instance → ℕ → ℕ → Cut
cut_of whole width number = record { whole = whole; width = width; number = number }

-- the numbers of the arcs that pass the test, in their order
abbrev pub numbers_where : (OuterArc → Bool) → List OuterArc → List ℕ
numbers_where test arcs = filter (λ i. test (arc_at arcs i)) (range_with_len 0 (length arcs))

-- the numbers of the arcs that meet the window
abbrev pub numbers_of : Cut → List ℕ
numbers_of cut = numbers_where (meets cut.width cut.number) cut.whole.arcs

-- there is a window before window k, and the arc meets it
abbrev pub met_before : ℕ → ℕ → OuterArc → Bool
met_before width k arc = nat_lt 0 k && meets width (k - 1) arc

-- the first window that the arc meets is window k
abbrev pub starts_in : ℕ → ℕ → OuterArc → Bool
starts_in width k arc = arc.start / width == k

-- for each window the first number in its list, and for each number the next one in its list; at the end stands the
-- number that is past all
pub record WindowLists : Type 0 where
  pub first : List ℕ
  pub next : List ℕ

-- the number at the beginning of the list of the window
abbrev pub put_first : WindowLists → ℕ → ℕ → WindowLists
put_first lists number window = record { first = slice_set lists.first window number; next = slice_set lists.next number (slice_index lists.first window) }

-- from this number on the list has these
abbrev pub IsListed : ℕ → List ℕ → ℕ → List ℕ → Type 0
IsListed past next from [] = from ≡ past
IsListed past next from (i ∷ numbers) = (from ≡ i) × IsListed past next (slice_index next i) numbers

-- the list of each window has the numbers of the arcs that start in it
pub record AreStarts (width : ℕ) (arcs : List OuterArc) (lists : WindowLists) : Type 0 where
  pub each_arc : length lists.next ≡ length arcs
  pub each_window : (k : ℕ) → k < length lists.first → IsListed (length arcs) lists.next (slice_index lists.first k) (numbers_where (starts_in width k) arcs)

-- the arcs that meet the window are known, and lists and room are there for the windows that follow
pub record IsCut (cut : Cut) (lists : WindowLists) (met : List ℕ) (room : ℕ) (spare : ℕ) : Type 0 where
  pub some_width : 0 < cut.width
  pub starts : AreStarts cut.width cut.whole.arcs lists
  pub windows : (k : ℕ) → cut.width * k < cut.whole.steps → k + 1 < length lists.first
  pub arcs : met ≡ numbers_of cut
  pub room_for_all : length cut.whole.arcs ≤ room
  pub spare_for_all : length cut.whole.arcs ≤ spare

-- The two queues that the hand of SIEVE or of CLOCK makes of its line, and which objects are marked.
use Rattle.std.specs.Prelude.{◌≡◌, ℕ, ◌+◌, ◌*◌, ◌++◌, ◌≤◌, ◌^◌, Bool, ◌||◌, nat_lt, nat_le, List, length, slice_index, None}
use Rattle.policy_model.specs.States.{Entry, Apart}
use Rattle.policy_model.specs.Sieve.{Cut, look, cut_used, stock_of_cut}
use Rattle.policy_model.specs.Steps.{until_fits}
use Rattle.replay_core.specs.Keeping.{Kept}
use Rattle.replay_queues.specs.Items.{has_item, items_of, entries_by}
use Rattle.replay_queues.specs.Lines.{before_object, from_object, first_of}
use Rattle.replay_queues.specs.declared.hand.Hand.{Hand}

-- the byte is 0 of an object that is not held, 1 of one that is, and 2 of one that is marked too
abbrev pub is_held : ℕ → Bool
is_held cell = nat_lt 0 cell

-- the entry of a pair
abbrev pub marked_entry : ℕ → ℕ × ℕ → Entry
marked_entry cell p = record { object = p.0; size = p.1; mark = nat_le 2 cell; count = 0; last = 0; next = None; rank = 0 }

-- the cut that queues make
abbrev pub cut_by : List ℕ → List (ℕ × ℕ) → List (ℕ × ℕ) → Cut
cut_by cells behind ahead = record { behind = entries_by marked_entry cells behind; ahead = entries_by marked_entry cells ahead }

-- the pairs that the hand has passed, and those from its next one on
abbrev pub behind_items : Hand → List (ℕ × ℕ)
behind_items h = items_of (before_object h.next h.line.members)

abbrev pub ahead_items : Hand → List (ℕ × ℕ)
ahead_items h = items_of (from_object h.next h.line.members)

abbrev pub cut_at : Hand → Cut
cut_at h = cut_by h.table (behind_items h) (ahead_items h)

-- no object is there twice, and the bytes tell which ones are
pub record AreHeld (cells : List ℕ) (behind ahead : List (ℕ × ℕ)) : Type 0 where
  pub apart : Apart (entries_by marked_entry cells behind ++ entries_by marked_entry cells ahead)
  pub known : (k : ℕ) → is_held (slice_index cells k) ≡ (has_item behind k || has_item ahead k)

-- the same of a hand, which is at an object of the line or at none
pub record IsHand (h : Hand) : Type 0 where
  pub are : AreHeld h.table (behind_items h) (ahead_items h)
  pub next_is : h.next ≡ first_of h.line.objects (from_object h.next h.line.members)
  pub each_object : length h.table ≡ h.line.objects

-- a cut after the looks that make room for this many bytes
abbrev pub with_room : ℕ → ℕ → Cut → Cut
with_room capacity size cut = until_fits look cut_used capacity size (2 * length (cut.behind ++ cut.ahead) + 1) cut

-- what is kept of a cut
abbrev pub cut_kept : ℕ → ℕ → ℕ → Cut → Kept
cut_kept objects capacity requests cut =
    record { objects = objects; capacity = capacity; now = requests; entries = (stock_of_cut cut).entries; beside = (stock_of_cut cut).beside }

-- there is room for no more than these objects, and the bytes used are counted and fit
pub record IsCounted (objects capacity in_use : ℕ) (h : Hand) : Type 0 where
  pub range : capacity ≤ 2 ^ 56
  pub within : length h.table ≤ objects
  pub in_use_is : in_use ≡ cut_used (cut_at h)
  pub fits : in_use ≤ capacity
  pub held : IsHand h

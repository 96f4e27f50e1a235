-- The entries of GDSF of 1998: those of the least ranks are set aside until an object fits, and stand again if it doesn't come in.
use Rattle.std.specs.Prelude.{◌≡◌, ℕ, ◌+◌, ◌<◌, ◌≤◌, ◌^◌, List, [], ◌∷◌, length, sum_by}
use Rattle.std.specs.declared.cmp.Reverse.{Reverse}
use Rattle.std.specs.List.{AllByRecursion}
use Rattle.policy_model.specs.declared.names.PolicyName.TheVariants.{Gdsf98}
use Rattle.policy_model.specs.States.{Entry, Stock}
use Rattle.policy_model.specs.Steps.{until_fits, put_in}
use Rattle.policy_model.specs.Aging.{age, age_at, over_floor, stock_used, ranked_entry, admitted_in, freed_for}
use Rattle.replay_core.specs.Keeping.{Kept, state_of}
use Rattle.replay_rank.specs.declared.holdings.Held.{Held}
use Rattle.replay_rank.specs.declared.aging.Ranked.{Ranked}
use Rattle.replay_rank.specs.LfuEntries.{Key}
use Rattle.replay_rank.specs.AgingEntries.{entry_of, entries_of, FreesLeast, IsAging}

-- each item is of a rank above this one
abbrev pub AreAbove : ℕ → List (Reverse Key) → Type 0
AreAbove most items = AllByRecursion (λ (i : Reverse Key). most < i.0.0.0) items

-- each entry is
abbrev pub RanksAbove : ℕ → List Entry → Type 0
RanksAbove most entries = AllByRecursion (λ e. most < e.rank) entries

-- the entry of the least rank was taken out, which is not above this one
pub record TakesLeast (most : ℕ) (before after : List (ℕ × Held Ranked)) (taken : ℕ × Held Ranked) : Type 0 where
  pub low : taken.1.kept.rank ≤ most
  pub some : 1 ≤ taken.1.size
  pub stock : (floor : ℕ) → over_floor taken.1.kept.rank (entries_of after) ≡ age_at floor (entries_of before)
  pub again : put_in (entry_of taken) (entries_of after) ≡ entries_of before
  pub fewer : length after + 1 ≡ length before

-- whatever an object of a size weighs, these entries weigh no more than those
abbrev pub WeighNoMore : List Entry → List Entry → Type 0
WeighNoMore new old = (f : ℕ → ℕ → ℕ) → sum_by (λ (e : Entry). f e.object e.size) new ≤ sum_by (λ (e : Entry). f e.object e.size) old

-- what was set aside is put in again, the last of it first
abbrev pub put_again : List (ℕ × Held Ranked) → List Entry → List Entry
put_again [] entries = entries
put_again (a ∷ rest) entries = put_in (entry_of a) (put_again rest entries)

-- the stock once the least ranks went until this many bytes fit
abbrev pub stock_freed : ℕ → ℕ → ℕ → List (ℕ × Held Ranked) → Stock
stock_freed floor capacity size pairs = until_fits age stock_used capacity size (length pairs) (over_floor floor (entries_of pairs))

-- the entries of the least ranks are set aside until this many bytes fit, or one of a rank above the most would have to go
pub record SetsAside (most floor risen capacity size in_use : ℕ) (before after aside : List (ℕ × Held Ranked)) : Type 0 where
  pub again : put_again aside (entries_of after) ≡ entries_of before
  pub some : AllByRecursion (λ (a : ℕ × Held Ranked). 1 ≤ a.1.size) aside
  pub fits : in_use + size ≤ capacity → FreesLeast floor risen capacity size before after
  pub loses : capacity < in_use + size → most < (stock_freed floor capacity size before).beside.floor

-- what is kept after a request for an object that is not held and within the capacity, but for the number of requests
abbrev pub admitted_kept : Kept → ℕ → ℕ → Kept
admitted_kept old object size =
    let after = admitted_in (ranked_entry Gdsf98 old.beside.floor old.now object size) (record { entries = old.entries; beside = old.beside }) (freed_for (state_of Gdsf98 old) size) in
    record old { entries = after.entries; beside = after.beside }

-- the same as for the other rules that go by a floor, and the floor is no more than the greatest rank
pub record IsAdmitting (capacity in_use floor : ℕ) (pairs : List (ℕ × Held Ranked)) (items : List (Reverse Key)) : Type 0 where
  pub aging : IsAging capacity in_use pairs items
  pub low : floor ≤ 2 ^ 127

-- The entries of GDSF and LFUDA, in order of their objects' numbers, and the items that order them by rank and last use.
use Rattle.std.specs.Prelude.{◌≡◌, ℕ, ◌≤◌, ◌^◌, Bool, false, List, length, map, Some, None}
use Rattle.std.specs.declared.cmp.Reverse.{Reverse}
use Rattle.std.specs.declared.option.Option.{Option}
use Rattle.std.specs.BTreeMap.{is_at}
use Rattle.std.specs.Map.{lookup}
use Rattle.std.specs.Ordering.{nat_cmp}
use Rattle.cache_model.specs.declared.objects.Objective.{Objective}
use Rattle.cache_model.specs.declared.objects.Objective.TheVariants.{Object as Hits, Bytes}
use Rattle.policy_model.specs.declared.names.PolicyName.{PolicyName}
use Rattle.policy_model.specs.declared.names.PolicyName.TheVariants.{Gdsf, Lfuda}
use Rattle.policy_model.specs.States.{Entry, used, IsFit}
use Rattle.policy_model.specs.Steps.{change, until_fits}
use Rattle.policy_model.specs.Aging.{age, over_floor, raised, ranked_entry, stock_used, worth_of}
use Rattle.replay_rank.specs.declared.holdings.Held.{Held}
use Rattle.replay_rank.specs.declared.aging.Ranked.{Ranked}
use Rattle.replay_rank.specs.LfuEntries.{at_most, Key, item_cmp}
use Rattle.replay_rank.specs.HeldPairs.{StandFor}

-- the rule for hits, and the one for bytes
abbrev pub name_of : Objective → PolicyName
name_of Hits = Gdsf
name_of Bytes = Lfuda

-- the entry of a pair of object and what is held of it
abbrev pub entry_of : ℕ × Held Ranked → Entry
entry_of p = record { object = p.0; size = p.1.size; mark = false; count = p.1.kept.count; last = p.1.kept.last; next = None; rank = p.1.kept.rank }

-- what is held is as the rule of either aim raises it, if that is what a request of its size is worth
abbrev pub IsRaised : Held Ranked → Held Ranked → ℕ → ℕ → ℕ → Type 0
IsRaised before after floor worth now =
    (by : Objective) (object : ℕ) → worth ≡ worth_of (name_of by) before.size → entry_of (object, after) ≡ raised (name_of by) floor now (entry_of (object, before))

-- what is held is as the rule of either aim lets an object of this size in
abbrev pub IsEntered : ℕ → Held Ranked → ℕ → ℕ → ℕ → Type 0
IsEntered size after floor worth now =
    (by : Objective) (object : ℕ) → worth ≡ worth_of (name_of by) size → entry_of (object, after) ≡ ranked_entry (name_of by) floor now object size

-- the entries of the pairs
abbrev pub entries_of : List (ℕ × Held Ranked) → List Entry
entries_of pairs = map entry_of pairs

-- whatever makes this of what is held of the object makes the one list of pairs of the other
abbrev pub Renews : List (ℕ × Held Ranked) → List (ℕ × Held Ranked) → ℕ → Held Ranked → Held Ranked → Type 0
Renews before after object former now =
    (by : Entry → Entry) → by (entry_of (object, former)) ≡ entry_of (object, now) → entries_of after ≡ change by object (entries_of before)

-- the least ranks went until this many bytes fit, and the floor rose to the last of them
abbrev pub FreesLeast : ℕ → ℕ → ℕ → ℕ → List (ℕ × Held Ranked) → List (ℕ × Held Ranked) → Type 0
FreesLeast floor risen capacity size before after =
    over_floor risen (entries_of after) ≡ until_fits age stock_used capacity size (length before) (over_floor floor (entries_of before))

-- what a pair is ordered by before its object's number
abbrev pub rank_of : Held Ranked → ℕ × ℕ
rank_of h = (h.kept.rank, h.kept.last)

-- the items stand for what is held: each by its rank or a lesser one
abbrev pub AreOrdered : List (ℕ × Held Ranked) → List (Reverse Key) → Type 0
AreOrdered pairs items = StandFor entry_of rank_of at_most (λ i. i.0) item_cmp pairs items

-- whether a rank goes no later than that of what may be held
abbrev pub is_reached : Option (Held Ranked) → ℕ × ℕ → Bool
is_reached None rank = false
is_reached (Some held) rank = at_most rank (rank_of held)

-- whether an item stands for its object
abbrev pub is_standing : List (ℕ × Held Ranked) → Reverse Key → Bool
is_standing pairs item = is_reached (lookup (is_at (nat_cmp item.0.1)) pairs) item.0.0

-- the bytes used are counted, and the entries fit
pub record IsAging (capacity in_use : ℕ) (pairs : List (ℕ × Held Ranked)) (items : List (Reverse Key)) : Type 0 where
  pub range : capacity ≤ 2 ^ 56
  pub in_use_is : in_use ≡ used (entries_of pairs)
  pub fits : IsFit capacity (entries_of pairs)
  pub ordered : AreOrdered pairs items

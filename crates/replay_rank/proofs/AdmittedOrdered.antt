-- The least ranks, as they are set aside and put in again, and as none is left up to that of an object.
use Rattle.std.proofs.Common.{◌≡◌, ℕ, zero, suc, ◌+◌, ◌^◌, ◌<◌, ◌≤◌, sym, refl, ap, subst, ⊎_elim, true, false, leb, eqb, ◌&&◌, List, [], ◌∷◌, ◌++◌, length, arith, Some, is_lt}
use Rattle.std.specs.declared.cmp.Reverse.{Reverse}
use Rattle.std.specs.BTreeMap.{is_at}
use Rattle.std.specs.BinaryHeap.{IsUpperBound}
use Rattle.std.specs.List.{AllByRecursion}
use Rattle.std.specs.Map.{lookup}
use Rattle.std.specs.Ordering.{nat_cmp, ordering_then}
use Rattle.std.proofs.lemmas.Bool.{cond_both, cases_lt, and_parts, lt-leb, both_ways}
use Rattle.policy_model.specs.States.{Entry, Stock, used, has_entry}
use Rattle.policy_model.specs.Steps.{until_fits, foremost, ahead_of, put_in}
use Rattle.policy_model.specs.Aging.{age, age_at, is_below, over_floor, rank_over, stock_used}
use Rattle.policy_model.proofs.Comparisons.{cmp-less}
use Rattle.policy_model.proofs.Entries.{Apart, All-without}
use Rattle.policy_model.proofs.Parts.{IsPart, weight, weight-cons, weight-put_in, part-used, part-apart, until-over}
use Rattle.replay_rank.specs.declared.holdings.Held.{Held}
use Rattle.replay_rank.specs.declared.aging.Ranked.{Ranked}
use Rattle.replay_rank.specs.LfuEntries.{at_most, Key, key_cmp, item_cmp}
use Rattle.replay_rank.specs.AgingEntries.{entry_of, entries_of, rank_of, AreOrdered}
use Rattle.replay_rank.specs.AdmittedEntries.{AreAbove, RanksAbove, TakesLeast, put_again}
use Rattle.replay_rank.proofs.Pairs.{lookups-own}
use Rattle.replay_rank.proofs.Items.{passing}
use Rattle.replay_rank.proofs.LfuOrdered.{at_most-parts}
use Rattle.replay_rank.proofs.AgingOrdered.{by_rank}

-- ---- items and entries of ranks above one
-- a key that does not come before another has no lesser rank
not-before : (x y : Key) → is_lt (key_cmp y x) ≡ false → x.0.0 ≤ y.0.0
not-before x y after =
    ⊎_elim
    (λ (low : y.0.0 < x.0.0).
    let before : is_lt (key_cmp y x) ≡ true = ap (λ c. is_lt (ordering_then (ordering_then c (nat_cmp y.0.1 x.0.1)) (nat_cmp y.1 x.1))) (cmp-less y.0.0 x.0.0 low) in
    absurd (both_ways (is_lt (key_cmp y x)) after before))
    (λ (high : x.0.0 ≤ y.0.0). high)
    (cases_lt y.0.0 x.0.0)

-- where the first item is above, all are
pub first-above : (most : ℕ) (q : Reverse Key) (items : List (Reverse Key)) → most < q.0.0.0 → IsUpperBound item_cmp q items → AreAbove most items
first-above most q [] high bound = tt
first-above most q (i ∷ rest) high bound = ((let low = not-before q.0 i.0 bound.0 in omega arith), first-above most q rest high bound.1)

module _ (pairs : List (ℕ × Held Ranked)) (items : List (Reverse Key)) (ordered : AreOrdered pairs items) (most : ℕ) (high : AreAbove most items) where
  entry-above : (object : ℕ) (held : Held Ranked) → lookup (is_at (nat_cmp object)) pairs ≡ Some held → most < held.kept.rank
  entry-above object held is =
      let witness = passing (λ (i : Reverse Key). most < i.0.0.0) (λ (i : Reverse Key). at_most i.0.0 (rank_of held) && eqb i.0.1 object) items high (ordered.covered object held is) in
      let parts : (at_most witness.0.0.0 (rank_of held) ≡ true) × (eqb witness.0.0.1 object ≡ true) = and_parts _ _ witness.1.1 in
      let above : most < witness.0.0.0.0 = witness.1.0 in
      ⊎_elim
      (λ (less : witness.0.0.0.0 < held.kept.rank). omega arith)
      (λ (tie : (witness.0.0.0.0 ≡ held.kept.rank) × (witness.0.0.0.1 ≤ held.kept.last)). let same : witness.0.0.0.0 ≡ held.kept.rank = tie.0 in omega arith)
      (at_most-parts witness.0.0.0 (rank_of held) parts.0)

  -- where all items are above, all entries are
  pub entries-above : RanksAbove most (entries_of pairs)
  entries-above = each pairs (lookups-own by_rank.fill pairs ordered.apart)
    where
      each : (ps : List (ℕ × Held Ranked)) → AllByRecursion (λ p. lookup (is_at (nat_cmp p.0)) pairs ≡ Some p.1) ps → RanksAbove most (entries_of ps)
      each [] own = tt
      each (p ∷ ps) own = (entry-above p.0 p.1 own.0, each ps own.1)

-- ---- the floor rises
foremost-above : (most : ℕ) (e : Entry) (rest : List Entry) → most < e.rank → RanksAbove most rest → most < (foremost is_below e rest).rank
foremost-above most e [] here each = here
foremost-above most e (g ∷ rest) here each =
    foremost-above most (ahead_of is_below e g) rest (cond_both (is_below g e) g e (λ h. most < h.rank) (λ _. each.0) (λ _. here)) each.1

module _ (most capacity size : ℕ) where
  age-above : (floor : ℕ) (entries : List Entry) → most < floor → RanksAbove most entries → (most < (age_at floor entries).beside.floor) × RanksAbove most (age_at floor entries).entries
  age-above floor [] high each = (high, tt)
  age-above floor (e ∷ rest) high each = (foremost-above most e rest each.0 each.1, All-without (λ f. most < f.rank) (foremost is_below e rest).object (e ∷ rest) each)

  until-above : (n : ℕ) (kept : Stock) → most < kept.beside.floor → RanksAbove most kept.entries → most < (until_fits age stock_used capacity size n kept).beside.floor
  until-above zero kept high each = high
  until-above (suc n) kept high each =
      cond_both (leb (stock_used kept + size) capacity) kept (until_fits age stock_used capacity size n (age kept)) (λ last. most < last.beside.floor)
      (λ _. high)
      (λ _. let next = age-above kept.beside.floor kept.entries high each in until-above n (age kept) next.0 next.1)

  -- where all ranks are above one and some have to go, the floor is above it in the end
  pub floor-above : (n floor : ℕ) (entries : List Entry) → RanksAbove most entries → capacity < used entries + size → size ≤ capacity → length entries ≤ n
      → most < (until_fits age stock_used capacity size n (over_floor floor entries)).beside.floor
  floor-above n floor [] each full small few = absurd (omega arith)
  floor-above zero floor (e ∷ rest) each full small few = absurd (omega arith)
  floor-above (suc n) floor (e ∷ rest) each full small few =
      subst (λ (last : Stock). most < last.beside.floor) (sym (until-over age stock_used capacity size n (over_floor floor (e ∷ rest)) (lt-leb (used (e ∷ rest) + size) capacity full)))
      (until-above n (age_at floor (e ∷ rest)) (foremost-above most e rest each.0 each.1) (All-without (λ f. most < f.rank) (foremost is_below e rest).object (e ∷ rest) each))

-- ---- what is set aside
pub again-pushed : (aside : List (ℕ × Held Ranked)) (a : ℕ × Held Ranked) (entries : List Entry) → put_again (aside ++ a ∷ []) entries ≡ put_again aside (put_in (entry_of a) entries)
again-pushed [] a entries = refl
again-pushed (b ∷ rest) a entries = ap (put_in (entry_of b)) (again-pushed rest a entries)

pub again-part : (aside : List (ℕ × Held Ranked)) (entries : List Entry) → IsPart entries (put_again aside entries)
again-part [] entries f = omega arith
again-part (a ∷ rest) entries f = omega (arith, again-part rest entries f, weight-put_in f (put_again rest entries) (entry_of a))

pub sizes-pushed : (aside : List (ℕ × Held Ranked)) (a : ℕ × Held Ranked) → AllByRecursion (λ (b : ℕ × Held Ranked). 1 ≤ b.1.size) aside → 1 ≤ a.1.size → AllByRecursion (λ (b : ℕ × Held Ranked). 1 ≤ b.1.size) (aside ++ a ∷ [])
sizes-pushed [] a each some = (some, tt)
sizes-pushed (b ∷ rest) a each some = (each.0, sizes-pushed rest a each.1 some)

pub sizes-popped : (aside : List (ℕ × Held Ranked)) (a : ℕ × Held Ranked) → AllByRecursion (λ (b : ℕ × Held Ranked). 1 ≤ b.1.size) (aside ++ a ∷ []) → AllByRecursion (λ (b : ℕ × Held Ranked). 1 ≤ b.1.size) aside × (1 ≤ a.1.size)
sizes-popped [] a each = (tt, each.0)
sizes-popped (b ∷ rest) a each = let more = sizes-popped rest a each.1 in ((each.0, more.0), more.1)

-- the last that was set aside, and the entries, are a part of all
module _ (aside : List (ℕ × Held Ranked)) (a : ℕ × Held Ranked) (entries : List Entry) where
  pub last-part : IsPart (entry_of a ∷ entries) (put_again (aside ++ a ∷ []) entries)
  last-part f =
      omega (arith, ap (weight f) (again-pushed aside a entries), again-part aside (put_in (entry_of a) entries) f, weight-put_in f entries (entry_of a), weight-cons f (entry_of a) entries)

  pub last-absent : Apart (put_again (aside ++ a ∷ []) entries) → has_entry entries a.0 ≡ false
  last-absent apart = (part-apart (entry_of a ∷ entries) (put_again (aside ++ a ∷ []) entries) last-part apart).0

  pub last-used : a.1.size + used entries ≤ used (put_again (aside ++ a ∷ []) entries)
  last-used = omega (arith, part-used (entry_of a ∷ entries) (put_again (aside ++ a ∷ []) entries) last-part, weight-cons (λ o n. n) (entry_of a) entries)

-- ---- the rank of the first request over a floor
pub floor-low : (floor worth : ℕ) → floor ≤ 2 ^ 127 → floor ≤ rank_over floor 1 worth
floor-low floor worth low = omega arith

pub rank-low : (floor worth : ℕ) → rank_over floor 1 worth ≤ 2 ^ 127
rank-low floor worth = omega arith

-- what is left once some was set aside
pub whole-part : (aside : List (ℕ × Held Ranked)) (entries whole : List Entry) → put_again aside entries ≡ whole → IsPart entries whole
whole-part aside entries whole is = subst (IsPart entries) is (again-part aside entries)

module _ (most : ℕ) (before after : List (ℕ × Held Ranked)) (taken : ℕ × Held Ranked) (takes : TakesLeast most before after taken) where
  pub taken-part : IsPart (entries_of after) (entries_of before)
  taken-part f = omega (arith, ap (weight f) takes.again, weight-put_in f (entries_of after) (entry_of taken))

  pub taken-size : used (entries_of after) + taken.1.size ≡ used (entries_of before)
  taken-size = omega (arith, ap used takes.again, weight-put_in (λ o n. n) (entries_of after) (entry_of taken))

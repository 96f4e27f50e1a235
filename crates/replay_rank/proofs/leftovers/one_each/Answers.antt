use Rattle.std.proofs.Common.{◌≡◌, ◌∙◌, ℕ, sym, refl, ap, Bool, true, eqb, List, [], ◌∷◌, length, arith, Some, None, Option, is_some, rules, heap_items}
use Rattle.std.specs.declared.cmp.Reverse.{Reverse}
use Rattle.std.specs.BTreeMap.{is_at}
use Rattle.std.specs.List.{AllByRecursion, dedup, filter}
use Rattle.std.specs.List.Sorted.{IsNonDecreasingBy}
use Rattle.std.specs.Map.{lookup}
use Rattle.std.specs.Ordering.{nat_cmp}
use Rattle.std.proofs.lemmas.Fn.{dedup_same, filter_same}
use Rattle.std.proofs.lemmas.List.{length-map}
use Rattle.std.proofs.lemmas.List.Sorted.{IsNonDecreasingBy-from_sort_by_key, length_permutation}
use Rattle.policy_model.specs.States.{has_entry}
use Rattle.replay_rank.specs.declared.holdings.Held.{Held}
use Rattle.replay_rank.specs.declared.aging.Ranked.{Ranked}
use Rattle.replay_rank.specs.LfuEntries.{Key}
use Rattle.replay_rank.specs.AgingEntries.{entry_of, entries_of, is_reached, is_standing}
use Rattle.replay_rank.proofs.Pairs.{has_entry-lookup}
use Rattle.replay_rank.proofs.AgingOrdered.{by_rank}
use Rattle.replay_rank.proofs.Leavings.{dedup-passes, items_once}
use Rattle.replay_rank.proofs.OneEach.{climbs-dedup, one_each-few}
use Rattle.replay_rank.proofs.leftovers.one_each.Goals as goal

abbrev one : Reverse Key → Reverse Key → Bool
one i k = eqb i.0.1 k.0.1

-- what is kept, and one of it for each object
kept : (c : goal.After-from) → c.retain.new.self.items ≡ filter (is_standing c.args.holdings.now) c.args.items.items
kept c = filter_same _ (is_standing c.args.holdings.now) _ (λ x b f' k. search rules) _ _ c.retain.ensures.filtered

once : (c : goal.After-from) → c.dedup_by_key.new.self.items ≡ dedup one c.sort_unstable_by_key.new.self.items
once c = dedup_same _ one _ (λ x y b f' x' y' k. search rules) _ _ c.dedup_by_key.ensures.filtered

pub returns-clause-ordered : goal.returns-clause-ordered
returns-clause-ordered c =
    items_once by_rank c.args.holdings.now c.args.items.items c.requires.ordered (is_standing c.args.holdings.now)
    (λ i g found low. ap (λ o. is_reached o i.0.0) found ∙ low) (λ i g pass found. sym (ap (λ o. is_reached o i.0.0) found) ∙ pass)
    c.retain.new.self.items c.sort_unstable_by_key.new.self.items c.dedup_by_key.new.self.items (heap_items c.from.result) (kept c) c.sort_unstable_by_key.ensures.permutation (once c) c.from.ensures.1 c.from.ensures.2

-- an item that stands for its object has one
there : (pairs : List (ℕ × Held Ranked)) (i : Reverse Key) → is_standing pairs i ≡ true → has_entry (entries_of pairs) i.0.1 ≡ true
there pairs i pass = has_entry-lookup by_rank.fill pairs i.0.1 ∙ at (lookup (is_at (nat_cmp i.0.1)) pairs) pass
  where
    at : (o : Option (Held Ranked)) → is_reached o i.0.0 ≡ true → is_some o ≡ true
    at None pass = cc
    at (Some held) pass = refl

pub returns-clause-few : goal.returns-clause-few
returns-clause-few c =
    let pairs : List (ℕ × Held Ranked) = c.args.holdings.now in
    let sorted : List (Reverse Key) = c.sort_unstable_by_key.new.self.items in
    let rises : IsNonDecreasingBy (λ (i : Reverse Key). i.0.1) sorted = IsNonDecreasingBy-from_sort_by_key (λ (i : Reverse Key). i.0.1) sorted c.sort_unstable_by_key.ensures.sorted (λ a r q k. search rules) in
    let each : AllByRecursion (λ (i : Reverse Key). is_standing pairs i ≡ true) (dedup one sorted) =
    dedup-passes by_rank pairs c.args.items.items c.requires.ordered (is_standing pairs)
    (λ i g found low. ap (λ o. is_reached o i.0.0) found ∙ low) (λ i g pass found. sym (ap (λ o. is_reached o i.0.0) found) ∙ pass)
    c.retain.new.self.items sorted (kept c) c.sort_unstable_by_key.ensures.permutation in
    omega (
      arith,
      length_permutation c.dedup_by_key.new.self.items (heap_items c.from.result) c.from.ensures.1,
      ap length (once c),
      one_each-few (λ (i : Reverse Key). i.0.1) 0 (dedup one sorted) (entries_of pairs) (climbs-dedup (λ (i : Reverse Key). i.0.1) sorted rises) c.requires.ordered.apart (each-there pairs (dedup one sorted) each),
      length-map pairs entry_of,
    )
  where
    each-there : (pairs : List (ℕ × Held Ranked)) (is : List (Reverse Key)) → AllByRecursion (λ (i : Reverse Key). is_standing pairs i ≡ true) is → AllByRecursion (λ (i : Reverse Key). has_entry (entries_of pairs) i.0.1 ≡ true) is
    each-there pairs [] each = tt
    each-there pairs (i ∷ is) each = (there pairs i each.0, each-there pairs is each.1)

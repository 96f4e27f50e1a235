-- What GDSF and LFUDA answer, by the pairs that they hold.
use Rattle.std.proofs.Common.{◌≡◌, ℕ, ◌+◌, ◌-◌, ◌^◌, ◌<◌, ◌≤◌, ◌∙◌, sym, refl, ap, subst, true, false, Bool, cond, eqb, min, List, [], ◌∷◌, length, Some, None, is_some, All, Contains, Result, Ok, Err, OnErr}
use Rattle.std.specs.declared.option.Option.{Option}
use Rattle.std.specs.BTreeMap.{is_at}
use Rattle.std.specs.declared.cmp.Reverse.{Reverse}
use Rattle.std.specs.List.{AllByRecursion}
use Rattle.std.specs.Map.{lookup, remove_entry}
use Rattle.std.specs.Ordering.{nat_cmp}
use Rattle.std.proofs.lemmas.Bool.{eqb-true}
use Rattle.std.proofs.lemmas.List.{length-map}
use Rattle.cache_model.specs.declared.objects.Objective.{Objective}
use Rattle.cache_model.specs.declared.objects.Objective.TheVariants.{Object as Hits, Bytes}
use Rattle.policy_model.specs.States.{Beside, Member, Entry, Stock, State, members_of, used, has_entry, has_member}
use Rattle.policy_model.specs.Steps.{until_fits, change, put_in, without_entry}
use Rattle.policy_model.specs.Leaving.{stock_without}
use Rattle.policy_model.specs.Aging.{age, aged_after, floored, over_floor, raised, ranked_entry, ranked_in, stock_used, worth_of}
use Rattle.policy_model.specs.Rules.{stock_after}
use Rattle.policy_model.proofs.Comparisons.{at-eqb}
use Rattle.policy_model.proofs.Entries.{sum_by-put_in}
use Rattle.policy_model.proofs.MemberLemmas.{sizes-entries}
use Rattle.policy_model.proofs.Parts.{IsPart, part-none, part-members, weight-change, until-part}
use Rattle.policy_model.proofs.Replays.{has_entry-members}
use Rattle.policy_model.proofs.AgingSound.{stock_entries, age-part, raised-object, raised-size}
use Rattle.policy_model.proofs.WTinyLfuSound.{KeepsShares}
use Rattle.policy_model.proofs.RulesSound.{served-hit, served-large, served-small}
use Rattle.policy_model.proofs.Sound.{IsFit}
use Rattle.replay_core.specs.declared.policy.Outcome.{Outcome}
use Rattle.replay_core.specs.declared.policy.Outcome.TheVariants.{Hit, Miss}
use Rattle.replay_core.specs.Keeping.{Kept, state_of, contents_of, Answers, GivesUp}
use Rattle.replay_core.proofs.Kept.{answered, answers-fit, gives_up}
use Rattle.replay_rank.specs.declared.holdings.Held.{Held}
use Rattle.replay_rank.specs.declared.aging.Ranked.{Ranked}
use Rattle.replay_rank.specs.LfuEntries.{Key}
use Rattle.replay_rank.specs.HeldPairs.{found_size}
use Rattle.replay_rank.specs.AgingEntries.{entry_of, entries_of, name_of, AreOrdered, IsAging}
use Rattle.replay_rank.proofs.Pairs.{has_entry-lookup}
use Rattle.replay_rank.proofs.Leavings.{gone-few, left-entries, left-used, left-fits, left-ordered}
use Rattle.replay_rank.proofs.AgingOrdered.{by_rank}

abbrev pub keeping : ℕ → ℕ → ℕ → ℕ → List Entry → Kept
keeping objects capacity requests floor entries = record { objects = objects; capacity = capacity; now = requests; entries = entries; beside = floored floor }

pub holds-member : (pairs : List (ℕ × Held Ranked)) (k : ℕ) → is_some (lookup (is_at (nat_cmp k)) pairs) ≡ has_member (members_of (entries_of pairs)) k
holds-member pairs k = sym (has_entry-lookup by_rank.fill pairs k) ∙ has_entry-members (entries_of pairs) k

-- what is held after a request that failed was held before
pub gives-former : {E : Type 0} (r : Result Outcome E) (old new : Kept) → OnErr r (GivesUp old new) → OnErr r ((m : Member) → Contains (contents_of new) m → Contains (contents_of old) m)
gives-former (Ok o) old new gives = tt
gives-former (Err e) old new gives = gives.only_former

-- the rule of both is one
stock-is : (by : Objective) (s : State) (object size : ℕ) (next : Option ℕ) → stock_after (name_of by) s object size next ≡ aged_after (name_of by) s object size
stock-is Hits s object size next = refl
stock-is Bytes s object size next = refl

-- their entries have no shares of the capacity
no_shares : (by : Objective) (capacity : ℕ) (entries : List Entry) (beside : Beside) → KeepsShares (name_of by) capacity entries beside
no_shares Hits capacity entries beside = tt
no_shares Bytes capacity entries beside = tt

module _ (by : Objective) (objects capacity requests floor in_use : ℕ) (pairs : List (ℕ × Held Ranked)) (items : List (Reverse Key)) (b : IsAging capacity in_use pairs items) (k size : ℕ)
    (sizes : All (λ m. m.object ≡ k → m.size ≡ size) (members_of (entries_of pairs))) where
  abbrev before : Kept
  before = keeping objects capacity requests floor (entries_of pairs)

  abbrev state : State
  state = state_of (name_of by) before

  abbrev on_hit : Stock
  on_hit = record { entries = change (raised (name_of by) floor requests) k (entries_of pairs); beside = floored floor }

  abbrev reached : Stock
  reached = until_fits age stock_used capacity size (length (entries_of pairs)) (over_floor floor (entries_of pairs))

  abbrev on_miss : Stock
  on_miss = ranked_in (name_of by) requests k size reached

  abbrev any_entry : Entry
  any_entry = ranked_entry (name_of by) floor requests k size

  -- the size of what is held is that of the request
  pub held-size : (held : Held Ranked) → lookup (is_at (nat_cmp k)) pairs ≡ Some held → held.size ≡ size
  held-size held is = at pairs (sizes-entries k size (entries_of pairs) sizes) is
    where
      at : (ps : List (ℕ × Held Ranked)) → AllByRecursion (λ e. e.object ≡ k → e.size ≡ size) (entries_of ps) → lookup (is_at (nat_cmp k)) ps ≡ Some held → held.size ≡ size
      at [] each is = cc
      at (p ∷ ps) each is = split (eqb p.0 k) refl (at ps each.1)
        where
          split : (t : Bool) → eqb p.0 k ≡ t → (lookup (is_at (nat_cmp k)) ps ≡ Some held → held.size ≡ size) → held.size ≡ size
          split true e more =
              let first : Some p.1 ≡ Some held = sym (ap (λ b. cond b (Some p.1) (lookup (is_at (nat_cmp k)) ps)) (at-eqb k p.0 ∙ e)) ∙ is in
              let same : held ≡ p.1 = cc in
              ap (λ (h : Held Ranked). h.size) same ∙ each.0 (eqb-true p.0 k e)
          split false e more = more (sym (ap (λ b. cond b (Some p.1) (lookup (is_at (nat_cmp k)) ps)) (at-eqb k p.0 ∙ e)) ∙ is)

  -- what is held is renewed by the rule, if it is raised by what a request of this size is worth
  pub renewed-by : (held : Held Ranked) → lookup (is_at (nat_cmp k)) pairs ≡ Some held → (now : Held Ranked) (worth : ℕ) → worth ≡ worth_of (name_of by) size
      → ((aim : Objective) (object : ℕ) → worth ≡ worth_of (name_of aim) held.size → entry_of (object, now) ≡ raised (name_of aim) floor requests (entry_of (object, held)))
      → (left : List (ℕ × Held Ranked)) → ((f : Entry → Entry) → f (entry_of (k, held)) ≡ entry_of (k, now) → entries_of left ≡ change f k (entries_of pairs))
      → entries_of left ≡ change (raised (name_of by) floor requests) k (entries_of pairs)
  renewed-by held is now worth is_worth made left whole = whole (raised (name_of by) floor requests) (sym (made by k (is_worth ∙ ap (worth_of (name_of by)) (sym (held-size held is)))))

  module _ (held : Held Ranked) (is : lookup (is_at (nat_cmp k)) pairs ≡ Some held) (left : List (ℕ × Held Ranked)) (renewed : entries_of left ≡ change (raised (name_of by) floor requests) k (entries_of pairs)) where
    there : has_entry (entries_of pairs) k ≡ true
    there = has_entry-lookup by_rank.fill pairs k ∙ ap is_some is

    stock : (next : Option ℕ) → stock_after (name_of by) state k size next ≡ on_hit
    stock next = stock-is by state k size next ∙ served-hit state k size on_hit on_miss any_entry there

    pub hit-answers : (next : Option ℕ) → Answers (name_of by) before (keeping objects capacity (min (requests + 1) (2 ^ 64 - 1)) floor (entries_of left)) k size next Hit
    hit-answers next =
        answered (name_of by) before (keeping objects capacity (min (requests + 1) (2 ^ 64 - 1)) floor (entries_of left)) k size next Hit (sym there) refl refl refl
        (renewed ∙ sym (ap (λ (x : Stock). x.entries) (stock next))) (sym (ap (λ (x : Stock). x.beside) (stock next)))

    pub hit-fit : IsFit capacity (entries_of left)
    hit-fit = answers-fit (name_of by) before (keeping objects capacity (min (requests + 1) (2 ^ 64 - 1)) floor (entries_of left)) k size None Hit (hit-answers None) (no_shares by capacity (entries_of pairs) (floored floor)) sizes b.fits

    pub hit-aging : (after : List (Reverse Key)) → AreOrdered left after → IsAging capacity in_use left after
    hit-aging after ordered = record {
      range = b.range;
      in_use_is = b.in_use_is ∙ sym (ap used renewed ∙ weight-change (raised (name_of by) floor requests) (raised-object (name_of by) floor requests) (raised-size (name_of by) floor requests) k (λ o n. n) (entries_of pairs));
      fits = hit-fit;
      ordered = ordered;
    }

  module _ (is : lookup (is_at (nat_cmp k)) pairs ≡ None) where
    pub absent : has_entry (entries_of pairs) k ≡ false
    absent = has_entry-lookup by_rank.fill pairs k ∙ ap is_some is

    large-stock : (next : Option ℕ) → capacity < size → stock_after (name_of by) state k size next ≡ over_floor floor (entries_of pairs)
    large-stock next large = stock-is by state k size next ∙ served-large state k size on_hit on_miss any_entry absent large

    pub large-answers : (next : Option ℕ) → capacity < size → Answers (name_of by) before (keeping objects capacity (min (requests + 1) (2 ^ 64 - 1)) floor (entries_of pairs)) k size next Miss
    large-answers next large =
        answered (name_of by) before (keeping objects capacity (min (requests + 1) (2 ^ 64 - 1)) floor (entries_of pairs)) k size next Miss (sym absent) refl refl refl
        (sym (ap (λ (x : Stock). x.entries) (large-stock next large))) (sym (ap (λ (x : Stock). x.beside) (large-stock next large)))

    module _ (left : List (ℕ × Held Ranked)) (level : ℕ) (freed : over_floor level (entries_of left) ≡ until_fits age stock_used capacity size (length pairs) (over_floor floor (entries_of pairs))) where
      turned : over_floor level (entries_of left) ≡ reached
      turned = freed ∙ ap (λ n. until_fits age stock_used capacity size n (over_floor floor (entries_of pairs))) (sym (length-map pairs entry_of))

      freed-part : IsPart (entries_of left) (entries_of pairs)
      freed-part = subst (λ (x : Stock). IsPart x.entries (entries_of pairs)) (sym turned) (until-part age stock_used capacity size stock_entries age-part (length (entries_of pairs)) (over_floor floor (entries_of pairs)))

      pub freed-none : has_entry (entries_of left) k ≡ false
      freed-none = part-none k (entries_of left) (entries_of pairs) freed-part absent

      pub freed-gives : (entries : List Entry) → entries ≡ entries_of left → IsFit capacity entries → GivesUp before (keeping objects capacity requests level entries)
      freed-gives entries same fit =
          gives_up before (keeping objects capacity requests level entries) fit
          (λ m c. part-members (entries_of left) (entries_of pairs) freed-part m (subst (λ es. Contains (members_of es) m) same c)) refl refl

      module _ (small : size ≤ capacity) (after : List (ℕ × Held Ranked)) (put : entries_of after ≡ put_in (ranked_entry (name_of by) level requests k size) (entries_of left)) where
        missed : (next : Option ℕ) → stock_after (name_of by) state k size next ≡ over_floor level (entries_of after)
        missed next =
            stock-is by state k size next ∙ served-small state k size on_hit on_miss any_entry absent small
            ∙ ap (ranked_in (name_of by) requests k size) (sym turned) ∙ ap (over_floor level) (sym put)

        pub miss-answers : (next : Option ℕ) → Answers (name_of by) before (keeping objects capacity (min (requests + 1) (2 ^ 64 - 1)) level (entries_of after)) k size next Miss
        miss-answers next =
            answered (name_of by) before (keeping objects capacity (min (requests + 1) (2 ^ 64 - 1)) level (entries_of after)) k size next Miss (sym absent) refl refl refl
            (sym (ap (λ (x : Stock). x.entries) (missed next))) (sym (ap (λ (x : Stock). x.beside) (missed next)))

        pub miss-fit : IsFit capacity (entries_of after)
        miss-fit = answers-fit (name_of by) before (keeping objects capacity (min (requests + 1) (2 ^ 64 - 1)) level (entries_of after)) k size None Miss (miss-answers None) (no_shares by capacity (entries_of pairs) (floored floor)) sizes b.fits

        pub miss-used : used (entries_of after) ≡ used (entries_of left) + size
        miss-used = ap used put ∙ sum_by-put_in (λ (e : Entry). e.size) (entries_of left) (ranked_entry (name_of by) level requests k size)

-- ---- an object that is let go of
-- the entries of either rule are one list
pub one_list : (by : Objective) (s : State) (k : ℕ) → stock_without (name_of by) s k ≡ record { entries = without_entry k s.entries; beside = s.beside }
one_list Hits s k = refl
one_list Bytes s k = refl

module _ (capacity in_use : ℕ) (pairs : List (ℕ × Held Ranked)) (items : List (Reverse Key)) (b : IsAging capacity in_use pairs items) (k gone : ℕ) (is : gone ≡ found_size (lookup (is_at (nat_cmp k)) pairs)) where
  pub aging-gone : gone ≤ in_use
  aging-gone = gone-few by_rank pairs items b.ordered k gone (λ none. is ∙ ap found_size none) (λ held some. is ∙ ap found_size some) capacity in_use b.in_use_is

  module _ (left : List (ℕ × Held Ranked)) (removed : left ≡ remove_entry (is_at (nat_cmp k)) pairs) where
    pub aging-entries : entries_of left ≡ without_entry k (entries_of pairs)
    aging-entries = left-entries by_rank pairs items b.ordered k gone (λ none. is ∙ ap found_size none) (λ held some. is ∙ ap found_size some) capacity in_use b.in_use_is left removed

    pub aging-ordered : AreOrdered left items
    aging-ordered = left-ordered by_rank pairs items b.ordered k gone (λ none. is ∙ ap found_size none) (λ held some. is ∙ ap found_size some) capacity in_use b.in_use_is left removed

    pub aging-left : (after : List (Reverse Key)) → AreOrdered left after → IsAging capacity (in_use - gone) left after
    aging-left after ordered = record {
      range = b.range;
      in_use_is = left-used by_rank pairs items b.ordered k gone (λ none. is ∙ ap found_size none) (λ held some. is ∙ ap found_size some) capacity in_use b.in_use_is left removed;
      fits = left-fits by_rank pairs items b.ordered k gone (λ none. is ∙ ap found_size none) (λ held some. is ∙ ap found_size some) capacity in_use b.in_use_is left removed b.fits;
      ordered = ordered;
    }

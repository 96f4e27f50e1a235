-- Loads of flagged intervals, from step to step.
use Rattle.std.proofs.Common.{◌≡◌, ℕ, ◌+◌, ◌<◌, ◌≤◌, ◌∙◌, sym, refl, ap, Bool, true, false, ◌&&◌, ◌==◌, cond, List, [], ◌∷◌, length, arith, ⊎_elim, All, sum_by, get_or}
use Rattle.std.specs.List.{list_any}
use Rattle.std.proofs.lemmas.Bool.{cases_Bool, cases_lt, both_ways, and_from, eq-eqb, le-leb}
use Rattle.std.proofs.lemmas.List.Elements.{All-head, All-tail, All-weaker}
use Rattle.std.proofs.lemmas.List.Folds.{list_any_at}
use Rattle.std.proofs.lemmas.List.Sums.{sum_by-cons}
use Rattle.cache_model.specs.declared.objects.Object.{Object}
use Rattle.cache_model.specs.declared.objects.Objective.TheVariants.{Object as Hits}
use Rattle.cache_model.specs.declared.intervals.Interval.{Interval}
use Rattle.cache_model.specs.Claim.{Terms, counts, request_at, terms_from}
use Rattle.cache_model.specs.Objects.{IsFirst, IsLast, IsNext, is_first}
use Rattle.cache_model.specs.Intervals.{interval_of, eligible_from}
use Rattle.cache_model.specs.Keeps.{latest_sum}
use Rattle.cache_model.specs.Laws.{IsEligible}
use Rattle.cache_model.specs.Schedules.{covers}
use Rattle.cache_model.proofs.Duality.{same_object-true}
use Rattle.cache_model.proofs.DifferentObjects.{is_first-yes}
use Rattle.cache_model.proofs.Eligible.{eligible_from_one, eligible_from_too_large, eligible_from_last}
use Rattle.cache_model.proofs.Loads.{load_at-map, load-latest}
use Rattle.cache_model.proofs.Members.{All-eligible_from, All-eligible_intervals, Contains-eligible}
use Rattle.cache_model.proofs.Rounding.{sum_by-none}
use Rattle.cache_model.proofs.Scores.{first_or_next, latest_sum-first, latest_sum-next}
use Rattle.judge_laws.specs.Flags.{is_flagged, intervals_within, flagged_load}
use Rattle.hit_judge.specs.Causes.{CanHitFlagged, IsNextFlagged}

-- two sums whose terms agree at each element
sum_by-agree_all : {X : Type 0} (f g : X → ℕ) (xs : List X) → All (λ x. f x ≡ g x) xs → sum_by f xs ≡ sum_by g xs
sum_by-agree_all f g [] same = refl
sum_by-agree_all f g (x ∷ xs) same =
    omega (
      arith,
      sum_by-cons f x xs,
      sum_by-cons g x xs,
      All-head (λ y. f y ≡ g y) x xs same,
      sum_by-agree_all f g xs (All-tail (λ y. f y ≡ g y) x xs same),
    )

-- every request counts
all_count : (c b : ℕ) → counts (terms_from Hits c 0 []) b ≡ true
all_count c b = and_from _ _ (le-leb 0 b (omega arith)) refl

module _ (c : ℕ) (trace : List Object) (flags : List Bool) where
  -- the size of the flagged interval that starts at request a, and 0 if none does
  abbrev pub flagged_from : ℕ → ℕ
  flagged_from a = sum_by (λ i. cond (is_flagged flags i.end) i.size 0) (eligible_from (terms_from Hits c 0 []) trace a)

  -- that of an object that fits, by whether its next request is flagged
  flagged_from-fits : (a b : ℕ) → IsNext trace a b → (request_at trace a).size ≤ c → flagged_from a ≡ cond (is_flagged flags b) (request_at trace a).size 0
  flagged_from-fits a b next fits =
      let f : Interval → ℕ = λ i. cond (is_flagged flags i.end) i.size 0 in
      ap (sum_by f) (eligible_from_one (terms_from Hits c 0 []) trace a b next fits (all_count c b))
      ∙ omega (arith, sum_by-cons f (interval_of Hits trace a b) [])

  -- where no interval starts the amount is 0
  only_starts : (a : ℕ) → list_any (λ i. i.start == a) (intervals_within c trace) ≡ false → flagged_from a ≡ 0
  only_starts a none =
      let terms : Terms = terms_from Hits c 0 [] in
      sum_by-none (λ i. cond (is_flagged flags i.end) i.size 0) (eligible_from terms trace a)
      (λ k d lt.
      let i : Interval = get_or (eligible_from terms trace a) k d in
      let from : IsEligible terms trace i × (i.start ≡ a) = All-eligible_from terms trace a k d lt in
      let there = Contains-eligible terms trace i from.0 in
      absurd (both_ways _ none
      (list_any_at (λ j. j.start == a) (intervals_within c trace) there.0 i there.1
      (ap (λ (j : Interval). j.start == a) there.2 ∙ eq-eqb i.start a from.1))))

  -- the flagged load is the sum of those that start at the latest requests
  pub flagged_load-latest : (t : ℕ) → t < length trace → flagged_load c trace flags t ≡ latest_sum trace flagged_from (t + 1)
  flagged_load-latest t within =
      sum_by-agree_all (λ i. cond (covers t i && is_flagged flags i.end) i.size 0) (λ i. cond (covers t i) (flagged_from i.start) 0) (intervals_within c trace)
      (All-weaker (IsEligible (terms_from Hits c 0 []) trace)
      (λ i. cond (covers t i && is_flagged flags i.end) i.size 0 ≡ cond (covers t i) (flagged_from i.start) 0)
      (λ i el. at (covers t i) (is_flagged flags i.end) i.size (flagged_from i.start)
      (flagged_from-fits i.start i.end el.next el.fits ∙ ap (λ (j : Interval). cond (is_flagged flags i.end) j.size 0) (sym el.numbers)))
      (intervals_within c trace) (All-eligible_intervals (terms_from Hits c 0 []) trace))
      ∙ sym (load_at-map (λ i. flagged_from i.start) t (intervals_within c trace))
      ∙ load-latest (terms_from Hits c 0 []) trace flagged_from t only_starts within
    where
      at : (covered flagged : Bool) (size amount : ℕ) → amount ≡ cond flagged size 0 → cond (covered && flagged) size 0 ≡ cond covered amount 0
      at true flagged size amount e = sym e
      at false flagged size amount e = refl

  module _ (can_hit : CanHitFlagged c trace flags) where
    -- where no contents can hit there is no flag
    no_flag : (k : ℕ) → k < length trace → ((is_first trace k ≡ false) × ((request_at trace k).size ≤ c) → ⊥) → is_flagged flags k ≡ false
    no_flag k within never =
        ⊎_elim
        (λ (yes : is_flagged flags k ≡ true). absurd (never (can_hit k within yes)))
        (λ (no : is_flagged flags k ≡ false). no)
        (cases_Bool (is_flagged flags k))

    -- what starts at request a is the size of its object if the next request of it is flagged, whether it fits or not
    flagged_from-next : (a b : ℕ) → IsNext trace a b → flagged_from a ≡ cond (is_flagged flags b) (request_at trace b).size 0
    flagged_from-next a b next =
        let same : request_at trace a ≡ request_at trace b = same_object-true (request_at trace a) (request_at trace b) next.same in
        let size : (request_at trace a).size ≡ (request_at trace b).size = ap (λ (x : Object). x.size) same in
        ⊎_elim
        (λ (large : c < (request_at trace a).size).
        let no : is_flagged flags b ≡ false =
        no_flag b next.within (λ hit. omega (arith, hit.1)) in
        ap (sum_by (λ (i : Interval). cond (is_flagged flags i.end) i.size 0)) (eligible_from_too_large (terms_from Hits c 0 []) trace a large)
        ∙ sym (ap (λ f. cond f (request_at trace b).size 0) no))
        (λ (fits : (request_at trace a).size ≤ c). flagged_from-fits a b next fits ∙ ap (λ n. cond (is_flagged flags b) n 0) size)
        (cases_lt c (request_at trace a).size)

    -- what starts at request t, by whether the next request of its object is flagged
    starting : (t : ℕ) (starts : Bool) → IsNextFlagged trace flags t starts
        → flagged_from t ≡ cond starts (request_at trace t).size 0
    starting t starts next_or_last =
        ⊎_elim
        (λ (next : (b : ℕ) × IsNext trace t b × (starts ≡ is_flagged flags b)). again next.0 next.1 next.2)
        (λ (last : IsLast trace t × (starts ≡ false)).
        ap (sum_by (λ (i : Interval). cond (is_flagged flags i.end) i.size 0)) (eligible_from_last (terms_from Hits c 0 []) trace t last.0)
        ∙ sym (ap (λ f. cond f (request_at trace t).size 0) last.1))
        next_or_last
      where
        again : (b : ℕ) → IsNext trace t b → starts ≡ is_flagged flags b → flagged_from t ≡ cond starts (request_at trace t).size 0
        again b next is =
            let same : request_at trace t ≡ request_at trace b = same_object-true (request_at trace t) (request_at trace b) next.same in
            flagged_from-next t b next
            ∙ ap (λ (x : Object). cond (is_flagged flags b) x.size 0) (sym same)
            ∙ ap (λ f. cond f (request_at trace t).size 0) (sym is)

    -- one request later, what starts at it is added, and what ends at it is taken away
    load-request : (t : ℕ) → t < length trace → (starts : Bool)
        → IsNextFlagged trace flags t starts
        → latest_sum trace flagged_from (t + 1) + cond (is_flagged flags t) (request_at trace t).size 0 ≡ latest_sum trace flagged_from t + cond starts (request_at trace t).size 0
    load-request t within starts next_or_last =
        ⊎_elim
        (λ (first : IsFirst trace t).
        let no : is_flagged flags t ≡ false = no_flag t within (λ hit. both_ways (is_first trace t) hit.0 (is_first-yes trace t (omega arith) first)) in
        omega (
          arith,
          latest_sum-first trace t within flagged_from first,
          starting t starts next_or_last,
          ap (λ f. cond f (request_at trace t).size 0) no,
        ))
        (λ (earlier : (a : ℕ) × IsNext trace a t).
        omega (
          arith,
          latest_sum-next trace t within flagged_from earlier.0 earlier.1,
          starting t starts next_or_last,
          flagged_from-next earlier.0 t earlier.1,
        ))
        (first_or_next trace t within)

    -- the same, of what a loop has
    pub load-counted : (t load size : ℕ) (starts ends : Bool) → t < length trace
        → IsNextFlagged trace flags t starts
        → ends ≡ is_flagged flags t → size ≡ (request_at trace t).size → load ≡ latest_sum trace flagged_from t
        → latest_sum trace flagged_from (t + 1) + cond ends size 0 ≡ load + cond starts size 0
    load-counted t load size starts ends within next_or_last ends_is size_is load_is =
        let ending : cond ends size 0 ≡ cond (is_flagged flags t) (request_at trace t).size 0 =
        ap (λ b. cond b size 0) ends_is ∙ ap (λ n. cond (is_flagged flags t) n 0) size_is in
        let beginning : cond starts size 0 ≡ cond starts (request_at trace t).size 0 = ap (λ n. cond starts n 0) size_is in
        omega (arith, load-request t within starts next_or_last)

-- Keeps of the requests at which a flagged interval starts.
use Rattle.std.proofs.Common.{◌≡◌, ℕ, ◌+◌, ◌<◌, ◌≤◌, ◌∙◌, sym, refl, ap, subst, Bool, true, false, ◌&&◌, ◌||◌, ◌==◌, cond, List, [], ◌∷◌, length, arith, ⊎_elim, All, Any, Contains, map, sum_by}
use Rattle.std.specs.List.{list_any}
use Rattle.std.proofs.lemmas.Bool.{cases_Bool, cases_lt, both_ways, and_parts, and_from, or_parts, eqb-true, eq-eqb, le-leb}
use Rattle.std.proofs.lemmas.List.{get_or_past}
use Rattle.std.proofs.lemmas.List.Elements.{All-head, All-tail, All-weaker}
use Rattle.std.proofs.lemmas.List.Folds.{list_any_at, Any-from_list_any}
use Rattle.std.proofs.lemmas.List.FromFn.{length-map-range_with_len, get_or-map-range_with_len}
use Rattle.std.proofs.lemmas.List.Sums.{sum_by-cons}
use Rattle.cache_model.specs.declared.objects.Object.{Object}
use Rattle.cache_model.specs.declared.objects.Objective.TheVariants.{Object as Hits}
use Rattle.cache_model.specs.declared.intervals.Interval.{Interval}
use Rattle.cache_model.specs.Claim.{same_object, total_size, request_at, terms_from, is_kept, held_before}
use Rattle.cache_model.specs.Objects.{numbers_of, IsNext}
use Rattle.cache_model.specs.Intervals.{interval_of}
use Rattle.cache_model.specs.Schedules.{covers}
use Rattle.cache_model.specs.Laws.{IsEligible}
use Rattle.cache_model.proofs.Members.{All-eligible_intervals, Contains-eligible}
use Rattle.cache_model.proofs.Rounding.{held-load}
use Rattle.judge_laws.specs.Flags.{is_flagged, intervals_within, flagged_load}

-- a test that fails of all fails with another beside it
list_any-both : {X : Type 0} (p q : X → Bool) (xs : List X) → list_any p xs ≡ false → list_any (λ x. p x && q x) xs ≡ false
list_any-both p q [] none = refl
list_any-both p q (x ∷ xs) none =
    let parts = or_parts (p x) (list_any p xs) none in
    ap (λ s. (s && q x) || list_any (λ y. p y && q y) xs) parts.0 ∙ list_any-both p q xs parts.1

-- two sums whose terms agree at each element
sum_by-agree_all : {X : Type 0} (f g : X → ℕ) (xs : List X) → All (λ x. f x ≡ g x) xs → sum_by f xs ≡ sum_by g xs
sum_by-agree_all f g [] same = refl
sum_by-agree_all f g (x ∷ xs) same =
    omega (
      arith,
      sum_by-cons f x xs,
      sum_by-cons g x xs,
      All-head (λ y. f y ≡ g y) x xs same,
      sum_by-agree_all f g xs (All-tail (λ y. f y ≡ g y) x xs same),
    )

-- an object has one next request
next_is_one : (trace : List Object) (a b d : ℕ) → IsNext trace a b → IsNext trace a d → d ≡ b
next_is_one trace a b d one other =
    ⊎_elim
    (λ (early : b < d). absurd (both_ways (same_object (request_at trace a) (request_at trace b)) (other.others b one.before early) one.same))
    (λ (upto : d ≤ b).
    ⊎_elim
    (λ (late : d < b). absurd (both_ways (same_object (request_at trace a) (request_at trace d)) (one.others d other.before late) other.same))
    (λ (from : b ≤ d). omega arith)
    (cases_lt d b))
    (cases_lt b d)

module _ (c : ℕ) (trace : List Object) (flags : List Bool) where
  -- whether a flagged interval starts at request a
  abbrev pub starts_flagged : ℕ → Bool
  starts_flagged a = list_any (λ i. (i.start == a) && is_flagged flags i.end) (intervals_within c trace)

  -- these requests are kept
  abbrev pub flag_keeps : List Bool
  flag_keeps = map starts_flagged (numbers_of trace)

  is_kept-flag_keeps : (a : ℕ) → a < length trace → is_kept flag_keeps a ≡ starts_flagged a
  is_kept-flag_keeps a within = get_or-map-range_with_len starts_flagged 0 (length trace) a a false (omega arith) (omega arith)

  -- a flagged interval that starts at the request
  pub flagged_end : (a : ℕ) → starts_flagged a ≡ true → (b : ℕ) × IsNext trace a b × (is_flagged flags b ≡ true)
  flagged_end a starts = found (Any-from_list_any (λ i. (i.start == a) && is_flagged flags i.end) (intervals_within c trace) starts)
    where
      found : Any (λ i. ((i.start == a) && is_flagged flags i.end) ≡ true) (intervals_within c trace) → (b : ℕ) × IsNext trace a b × (is_flagged flags b ≡ true)
      found (k, i, lt, at, both) =
          let el : IsEligible (terms_from Hits c 0 []) trace i = subst (IsEligible (terms_from Hits c 0 []) trace) at (All-eligible_intervals (terms_from Hits c 0 []) trace k i lt) in
          let parts = and_parts (i.start == a) (is_flagged flags i.end) both in
          (i.end, subst (λ j. IsNext trace j i.end) (eqb-true i.start a parts.0) el.next, parts.1)

  -- the interval to a flagged request starts one
  flagged_start : (a b : ℕ) → IsNext trace a b → (request_at trace a).size ≤ c → is_flagged flags b ≡ true → starts_flagged a ≡ true
  flagged_start a b next fits flagged =
      found (Contains-eligible (terms_from Hits c 0 []) trace (interval_of Hits trace a b) record { next = next; fits = fits; counts = and_from _ _ (le-leb 0 b (omega arith)) refl; numbers = refl })
    where
      found : Contains (intervals_within c trace) (interval_of Hits trace a b) → starts_flagged a ≡ true
      found (k, lt, e) =
          list_any_at (λ j. (j.start == a) && is_flagged flags j.end) (intervals_within c trace) k (interval_of Hits trace a b) lt
          (ap (λ (j : Interval). (j.start == a) && is_flagged flags j.end) e ∙ and_from _ _ (eq-eqb a a refl) flagged)

  -- whether a flagged interval starts there is whether the next request is flagged
  starts_flagged-next : (a b : ℕ) → IsNext trace a b → (request_at trace a).size ≤ c → starts_flagged a ≡ is_flagged flags b
  starts_flagged-next a b next fits =
      ⊎_elim
      (λ (yes : is_flagged flags b ≡ true). flagged_start a b next fits yes ∙ sym yes)
      (λ (no : is_flagged flags b ≡ false).
      ⊎_elim
      (λ (starts : starts_flagged a ≡ true).
      let other = flagged_end a starts in
      absurd (both_ways (is_flagged flags b) no (ap (is_flagged flags) (sym (next_is_one trace a b other.0 next other.1)) ∙ other.2)))
      (λ (none : starts_flagged a ≡ false). none ∙ sym no)
      (cases_Bool (starts_flagged a)))
      (cases_Bool (is_flagged flags b))

  -- a request is kept exactly if the next one of its object is flagged
  pub is_kept-next : (a b : ℕ) → IsNext trace a b → (request_at trace a).size ≤ c → is_kept flag_keeps a ≡ is_flagged flags b
  is_kept-next a b next fits = is_kept-flag_keeps a (omega (arith, next.before, next.within)) ∙ starts_flagged-next a b next fits

  -- a request that is kept starts a flagged interval
  pub kept_end : (a : ℕ) → a < length trace → is_kept flag_keeps a ≡ true → (b : ℕ) × IsNext trace a b × (is_flagged flags b ≡ true)
  kept_end a within kept = flagged_end a (sym (is_kept-flag_keeps a within) ∙ kept)

  -- nothing else is kept
  only_starts : (a : ℕ) → list_any (λ i. i.start == a) (intervals_within c trace) ≡ false → is_kept flag_keeps a ≡ false
  only_starts a none =
      ⊎_elim
      (λ (within : a < length trace). is_kept-flag_keeps a within ∙ list_any-both (λ i. i.start == a) (λ i. is_flagged flags i.end) (intervals_within c trace) none)
      (λ (past : length trace ≤ a). get_or_past flag_keeps a false (omega (arith, length-map-range_with_len starts_flagged 0 (length trace))))
      (cases_lt a (length trace))

  -- what is held after request t is the load of the flagged intervals
  pub held-flagged : (t : ℕ) → t < length trace → total_size (held_before trace flag_keeps (t + 1)) ≡ flagged_load c trace flags t
  held-flagged t within =
      held-load (terms_from Hits c 0 []) trace flag_keeps t only_starts within
      ∙ sum_by-agree_all (λ i. cond (covers t i && is_kept flag_keeps i.start) i.size 0) (λ i. cond (covers t i && is_flagged flags i.end) i.size 0) (intervals_within c trace)
      (All-weaker (IsEligible (terms_from Hits c 0 []) trace) (λ i. cond (covers t i && is_kept flag_keeps i.start) i.size 0 ≡ cond (covers t i && is_flagged flags i.end) i.size 0)
      (λ i el. ap (λ s. cond (covers t i && s) i.size 0) (is_kept-next i.start i.end el.next el.fits))
      (intervals_within c trace) (All-eligible_intervals (terms_from Hits c 0 []) trace))

-- Of any contents those that were held since their last request are allowed, and what they miss was prefetched.
use Rattle.std.proofs.Common.{◌≡◌, ◌≢◌, ℕ, zero, suc, ◌+◌, ◌≤◌, ◌⊎◌, inl, inr, ⊎_elim, ◌∙◌, sym, refl, ap, Bool, true, false, cond, not, ◌||◌, ◌&&◌, List, [], ◌∷◌, length, arith, sum_by, zip, drop, filter, All, AllPairs, ◌/◌}
use Rattle.std.specs.List.{AllByRecursion}
use Rattle.std.proofs.lemmas.Bool.{or_cases, or_left, or_right, or_parts, not-true, cases_Bool, and_parts, both_ways}
use Rattle.std.proofs.lemmas.Map.Made.{IsDistinct-from_AllPairs}
use Rattle.std.proofs.lemmas.List.Kept.{AllPairs-filter}
use Rattle.std.proofs.lemmas.List.Elements.{All-head, All-tail}
use Rattle.std.proofs.lemmas.List.Sums.{sum_by-cons}
use Rattle.cache_model.specs.declared.objects.Object.{Object}
use Rattle.cache_model.specs.declared.objects.Objective.{Objective}
use Rattle.cache_model.specs.Claim.{same_object, gain_of, total_size, holds, IsAllowed}
use Rattle.cache_model.proofs.Duality.{same_object-true, same_object-refl, without, holds-without, sum_by-without, sum_by-without-le, sum_by-subset}
use Rattle.cache_model.proofs.Pairs.{same_object-sym}
use Rattle.cache_model.proofs.Headline.{valid_bounds}
use Rattle.cache_model.proofs.Scores.{score-zip}
use Rattle.cache_model.proofs.Steps.{same_object-from}
use Rattle.cache_model.proofs.Sums.{sum_by-filter}
use Rattle.part_laws.proofs.Moves.{IsMove, Moves, allowed_of_moves}
use Rattle.part_laws.proofs.Adding.{earns}
use Rattle.part_laws.proofs.Filters.{holds-filter, held_and_passed, total_size-filter}
use Rattle.bound_laws.specs.Laws.{entered_unasked, prefetched, FetchesAreBounded, ValidBoundsFetches}

-- what is held since its last request
abbrev since : List Object → Object → List Object → List Object
since kept r next = filter (holds (r ∷ kept)) next

-- the others
abbrev others : List Object → Object → List Object → List Object
others kept r next = filter (λ x. not (holds (r ∷ kept) x)) next

abbrev kept_after : List Object → List Object → List (List Object) → List (List Object)
kept_after kept [] nexts = []
kept_after kept (r ∷ trace) [] = []
kept_after kept (r ∷ trace) (next ∷ nexts) = since kept r next ∷ kept_after (since kept r next) trace nexts

moves-since : (c : ℕ) (kept : List Object) (r : Object) (next : List Object) → total_size next ≤ c → AllPairs (λ x y. x ≢ y) next → IsMove c kept r (since kept r next)
moves-since c kept r next fits apart = record {
  enters = λ x h.
      let parts = held_and_passed (holds (r ∷ kept)) next x h in
      ⊎_elim (λ (same : same_object x r ≡ true). inr (sym (same_object-true x r same))) (λ (is : holds kept x ≡ true). inl is) (or_cases (same_object x r) (holds kept x) parts.1);
  room = omega (arith, total_size-filter (holds (r ∷ kept)) next);
  apart = AllPairs-filter (λ x y. x ≢ y) (holds (r ∷ kept)) next apart;
}

moves-kept_after : (c : ℕ) (kept trace : List Object) (nexts : List (List Object)) → length nexts ≡ length trace → All (λ xs. total_size xs ≤ c) nexts → All (AllPairs (λ x y. x ≢ y)) nexts
    → Moves c kept trace (kept_after kept trace nexts)
moves-kept_after c kept [] nexts long fits apart = tt
moves-kept_after c kept (r ∷ trace) [] long fits apart = absurd (omega arith)
moves-kept_after c kept (r ∷ trace) (next ∷ nexts) long fits apart = (
  moves-since c kept r next (All-head (λ xs. total_size xs ≤ c) next nexts fits) (All-head (AllPairs (λ x y. x ≢ y)) next nexts apart),
  moves-kept_after c (since kept r next) trace nexts (omega arith) (All-tail (λ xs. total_size xs ≤ c) next nexts fits) (All-tail (AllPairs (λ x y. x ≢ y)) next nexts apart),
)

-- one request
-- each member is kept or is one of the extra ones
abbrev IsSplit : List Object → List Object → List Object → Type 0
IsSplit held kept extra = (x : Object) → holds held x ≡ true → (holds kept x ≡ true) ⊎ (holds extra x ≡ true)

split-next : (kept : List Object) (r : Object) (next : List Object) → IsSplit next (since kept r next) (others kept r next)
split-next kept r next = λ x h.
    ⊎_elim (λ (is : holds (r ∷ kept) x ≡ true). inl (holds-filter (holds (r ∷ kept)) next x h is))
    (λ (no : holds (r ∷ kept) x ≡ false). inr (holds-filter (λ y. not (holds (r ∷ kept) y)) next x h (ap not no)))
    (cases_Bool (holds (r ∷ kept) x))

sum_by-two : {X : Type 0} (f g h : X → ℕ) (xs : List X) → ((x : X) → f x ≤ g x + h x) → sum_by f xs ≤ sum_by g xs + sum_by h xs
sum_by-two f g h [] below = omega arith
sum_by-two f g h (x ∷ xs) below = omega (arith, sum_by-cons f x xs, sum_by-cons g x xs, sum_by-cons h x xs, below x, sum_by-two f g h xs below)

-- an object that is not kept entered unasked, or was held before and is not asked for
abbrev left_over : List Object → List Object → Object → Object → Bool
left_over held kept r x = not (holds (r ∷ kept) x) && holds held x

by_cases : (same kept held : Bool) (n : ℕ) → cond (not (same || kept)) n 0 ≤ cond (not (same || held)) n 0 + cond (not (same || kept) && held) n 0
by_cases true kept held n = omega arith
by_cases false true held n = omega arith
by_cases false false true n = omega arith
by_cases false false false n = omega arith

sum_by-others : (g : Object → ℕ) (held kept : List Object) (r : Object) (next : List Object)
    → sum_by g (others kept r next) ≤ sum_by g (others held r next) + sum_by g (filter (left_over held kept r) next)
sum_by-others g held kept r next =
    omega (
      arith,
      sum_by-filter g (λ x. not (holds (r ∷ kept) x)) next,
      sum_by-filter g (λ x. not (holds (r ∷ held) x)) next,
      sum_by-filter g (left_over held kept r) next,
      sum_by-two (λ x. cond (not (holds (r ∷ kept) x)) (g x) 0) (λ x. cond (not (holds (r ∷ held) x)) (g x) 0) (λ x. cond (left_over held kept r x) (g x) 0) next
          (λ x. by_cases (same_object x r) (holds kept x) (holds held x) (g x)),
    )

all_held : (P : Object → Type 0) (xs : List Object) → ((x : Object) → holds xs x ≡ true → P x) → AllByRecursion P xs
all_held P [] each = tt
all_held P (x ∷ xs) each = (each x (or_left (same_object x x) (holds xs x) (same_object-refl x)), all_held P xs (λ y h. each y (or_right (same_object y x) (holds xs y) h)))

-- what is left over is of the extra ones, but for the object asked for
sum_by-left_over : (g : Object → ℕ) (held kept extra : List Object) (r : Object) (next : List Object) → IsSplit held kept extra → AllPairs (λ x y. x ≢ y) next
    → sum_by g (filter (left_over held kept r) next) ≤ sum_by g (without r extra)
sum_by-left_over g held kept extra r next split apart =
    sum_by-subset g (filter (left_over held kept r) next) (without r extra)
    (IsDistinct-from_AllPairs (λ a b. (same_object-true a b, same_object-from a b)) (filter (left_over held kept r) next) (AllPairs-filter (λ x y. x ≢ y) (left_over held kept r) next apart))
    (all_held (λ x. holds (without r extra) x ≡ true) (filter (left_over held kept r) next) (λ x h.
    let parts = and_parts (not (holds (r ∷ kept) x)) (holds held x) (held_and_passed (left_over held kept r) next x h).1 in
    let no = or_parts (same_object x r) (holds kept x) (not-true (holds (r ∷ kept) x) parts.0) in
    ⊎_elim (λ (is : holds kept x ≡ true). absurd (both_ways (holds kept x) no.1 is))
    (λ (is : holds extra x ≡ true). holds-without r x extra (same_object-sym r x ∙ no.0) is)
    (split x parts.1)))

-- a hit of the contents is one of what is kept, or of the extra ones
hit-split : (held kept extra : List Object) (r : Object) (n : ℕ) → IsSplit held kept extra → cond (holds held r) n 0 ≤ cond (holds kept r) n 0 + cond (holds extra r) n 0
hit-split held kept extra r n split = at (holds held r) refl
  where
    at : (t : Bool) → holds held r ≡ t → cond t n 0 ≤ cond (holds kept r) n 0 + cond (holds extra r) n 0
    at true h =
        ⊎_elim (λ (is : holds kept r ≡ true). let e : cond (holds kept r) n 0 ≡ n = ap (λ b. cond b n 0) is in omega arith)
        (λ (is : holds extra r ≡ true). let e : cond (holds extra r) n 0 ≡ n = ap (λ b. cond b n 0) is in omega arith)
        (split r h)
    at false h = omega arith

hit-extra : (g : Object → ℕ) (r : Object) (extra : List Object) (n : ℕ) → n ≤ g r → cond (holds extra r) n 0 + sum_by g (without r extra) ≤ sum_by g extra
hit-extra g r extra n below = at (holds extra r) refl
  where
    at : (t : Bool) → holds extra r ≡ t → cond t n 0 + sum_by g (without r extra) ≤ sum_by g extra
    at true h = omega (arith, sum_by-without g r extra h)
    at false h = omega (arith, sum_by-without-le g r extra)

-- what one request adds: n is what a hit earns now
one_request : (o : Objective) (n : ℕ) (held kept extra : List Object) (r : Object) (next : List Object) → n ≤ gain_of o r → IsSplit held kept extra → AllPairs (λ x y. x ≢ y) next
    → cond (holds held r) n 0 + sum_by (gain_of o) (others kept r next) ≤ cond (holds kept r) n 0 + entered_unasked o r held next + sum_by (gain_of o) extra
one_request o n held kept extra r next below split apart =
    omega (
      arith,
      hit-split held kept extra r n split,
      hit-extra (gain_of o) r extra n below,
      sum_by-others (gain_of o) held kept r next,
      sum_by-left_over (gain_of o) held kept extra r next split apart,
    )

-- all requests
hits_within : (o : Objective) (m : ℕ) (trace held kept extra : List Object) (nexts : List (List Object)) → length nexts ≡ length trace → All (AllPairs (λ x y. x ≢ y)) nexts → IsSplit held kept extra
    → sum_by (earns o) (drop m (zip trace (held ∷ nexts)))
    ≤ sum_by (earns o) (drop m (zip trace (kept ∷ kept_after kept trace nexts))) + prefetched o trace (held ∷ nexts) + sum_by (gain_of o) extra
hits_within o zero [] held kept extra nexts long apart split = omega arith
hits_within o (suc m) [] held kept extra nexts long apart split = omega arith
hits_within o m (r ∷ trace) held kept extra [] long apart split = absurd (omega arith)
hits_within o zero (r ∷ trace) held kept extra (next ∷ nexts) long apart split =
    omega (
      arith,
      hits_within o zero trace next (since kept r next) (others kept r next) nexts (omega arith) (All-tail (AllPairs (λ x y. x ≢ y)) next nexts apart) (split-next kept r next),
      one_request o (gain_of o r) held kept extra r next (omega arith) split (All-head (AllPairs (λ x y. x ≢ y)) next nexts apart),
      sum_by-cons (earns o) (r, held) (zip trace (next ∷ nexts)),
      sum_by-cons (earns o) (r, kept) (zip trace (since kept r next ∷ kept_after (since kept r next) trace nexts)),
      sum_by-cons (λ (x, pair). entered_unasked o x pair.0 pair.1) (r, (held, next)) (zip trace (zip (next ∷ nexts) nexts)),
    )
hits_within o (suc m) (r ∷ trace) held kept extra (next ∷ nexts) long apart split =
    omega (
      arith,
      hits_within o m trace next (since kept r next) (others kept r next) nexts (omega arith) (All-tail (AllPairs (λ x y. x ≢ y)) next nexts apart) (split-next kept r next),
      one_request o 0 held kept extra r next (omega arith) split (All-head (AllPairs (λ x y. x ≢ y)) next nexts apart),
      nothing (holds held r),
      nothing (holds kept r),
      sum_by-cons (λ (x, pair). entered_unasked o x pair.0 pair.1) (r, (held, next)) (zip trace (zip (next ∷ nexts) nexts)),
    )
  where
    nothing : (t : Bool) → cond t zero zero ≡ zero
    nothing true = refl
    nothing false = refl

-- each request is a hit or a miss
abbrev misses : Objective → Object × List Object → ℕ
misses o = λ (x, held). cond (holds held x) 0 (gain_of o x)

hits_and_misses : (o : Objective) (m : ℕ) (trace : List Object) (contents : List (List Object)) → length trace ≤ length contents
    → sum_by (gain_of o) (drop m trace) ≡ sum_by (earns o) (drop m (zip trace contents)) + sum_by (misses o) (drop m (zip trace contents))
hits_and_misses o zero [] contents long = refl
hits_and_misses o (suc m) [] contents long = refl
hits_and_misses o m (r ∷ trace) [] long = absurd (omega arith)
hits_and_misses o zero (r ∷ trace) (held ∷ contents) long =
    omega (
      arith,
      hits_and_misses o zero trace contents (omega arith),
      either (holds held r),
      sum_by-cons (gain_of o) r trace,
      sum_by-cons (earns o) (r, held) (zip trace contents),
      sum_by-cons (misses o) (r, held) (zip trace contents),
    )
  where
    either : (t : Bool) → gain_of o r ≡ cond t (gain_of o r) 0 + cond t 0 (gain_of o r)
    either true = omega arith
    either false = omega arith
hits_and_misses o (suc m) (r ∷ trace) (held ∷ contents) long = hits_and_misses o m trace contents (omega arith)

pub fetches_are_bounded : FetchesAreBounded
fetches_are_bounded o c w most trace [] none within = absurd (omega (arith, within.one_more_than_requests))
fetches_are_bounded o c w most trace (held ∷ nexts) none within =
    let long : length nexts ≡ length trace = omega (arith, within.one_more_than_requests) in
    let fits : All (λ xs. total_size xs ≤ c) nexts = All-tail (λ xs. total_size xs ≤ c) held nexts within.within_capacity in
    let apart : All (AllPairs (λ x y. x ≢ y)) nexts = All-tail (AllPairs (λ x y. x ≢ y)) held nexts within.without_repeats in
    let allowed : IsAllowed c trace (held ∷ kept_after held trace nexts) =
    allowed_of_moves c trace held (kept_after held trace nexts) within.empty_at_first (moves-kept_after c held trace nexts long fits apart) in
    omega (
      arith,
      none (held ∷ kept_after held trace nexts) allowed,
      score-zip o c w trace (held ∷ kept_after held trace nexts),
      hits_within o w trace held held [] nexts long apart (λ x h. inl h),
      hits_and_misses o w trace (held ∷ nexts) (omega arith),
    )

pub valid_bounds_fetches : ValidBoundsFetches
valid_bounds_fetches trace h records contents valid within =
    fetches_are_bounded h.objective h.capacity h.warmup (h.upper / h.denominator) trace contents (valid_bounds trace [] h records valid).no_policy_passes_the_floor within

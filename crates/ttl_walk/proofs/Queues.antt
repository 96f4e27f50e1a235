-- The queue of starts: what leaves at its ends is what the tests say.
use Rattle.std.proofs.Common.{◌≡◌, ℕ, zero, suc, ◌+◌, ◌-◌, ◌<◌, ◌≤◌, inl, inr, ◌∙◌, sym, refl, ap, subst, nat_le, Bool, true, false, not, cond, List, [], ◌∷◌, ◌++◌, length, drop, append-nil, Option, None, Some, MatchOption, slice_index_or, arith, filter}
use Rattle.std.specs.List.{AllByRecursion}
use Rattle.std.specs.Option.{option_to_list}
use Rattle.std.proofs.lemmas.Bool.{both_ways, le-leb}
use Rattle.std.proofs.lemmas.Bool.Decides.{leb_tells}
use Rattle.std.proofs.lemmas.List.Elements.{filter-append}
use Rattle.ttl_walk.specs.declared.starts.Candidate.{Candidate}
use Rattle.ttl_walk.specs.Queue.{IsQueue, begins_old, ends_no_lower, first_worth, going_on, is_fresh, with_candidate}
use Rattle.ttl_laws.proofs.Objects.{all-pass}
use Rattle.ttl_walk.proofs.Lists.{all-more, all-append, all-init}

-- what a test says that fails, and one that doesn't
pub lt-of : (a b : ℕ) → not (nat_le a b) ≡ true → b < a
lt-of a b e = elim (leb_tells a b) [ inl (is, low) ↦ absurd (both_ways (not (nat_le a b)) (ap not is) e) | inr (is, low) ↦ low ]

pub le-of : (a b : ℕ) → not (nat_le a b) ≡ false → a ≤ b
le-of a b e = elim (leb_tells a b) [ inl (is, low) ↦ low | inr (is, low) ↦ absurd (both_ways (not (nat_le a b)) e (ap not is)) ]

pub lt-leb : (a b : ℕ) → b < a → not (nat_le a b) ≡ true
lt-leb a b low = elim (leb_tells a b) [ inl (is, not_low) ↦ absurd (omega arith) | inr (is, so) ↦ ap not is ]

pub false-of : (b : Bool) → not b ≡ true → b ≡ false
false-of true e = sym e
false-of false e = refl

pub queue-filter : (p : Candidate → Bool) (xs : List Candidate) → IsQueue xs → IsQueue (filter p xs)
queue-filter p [] queue = tt
queue-filter p (c ∷ later) queue = at (p c) (queue-filter p later queue.1)
  where
    at : (b : Bool) → IsQueue (filter p later) → IsQueue (cond b (c ∷ filter p later) (filter p later))
    at true rest = (all-pass (λ d. (c.clock ≤ d.clock) × (c.floor < d.floor)) (λ d. (c.clock ≤ d.clock) × (c.floor < d.floor)) p later (λ d is e. is) queue.0, rest)
    at false rest = rest

pub queue-append : (xs : List Candidate) (c : Candidate) → IsQueue xs
    → AllByRecursion (λ d. (d.clock ≤ c.clock) × (d.floor < c.floor)) xs → IsQueue (xs ++ c ∷ [])
queue-append [] c queue all = (tt, tt)
queue-append (d ∷ later) c queue all =
    (all-append (λ e. (d.clock ≤ e.clock) × (d.floor < e.floor)) later c queue.0 all.0, queue-append later c queue.1 all.1)

pub queue-init : (xs : List Candidate) (c : Candidate) → IsQueue (xs ++ c ∷ []) → IsQueue xs
queue-init [] c queue = tt
queue-init (d ∷ later) c queue =
    ((all-init (λ e. (d.clock ≤ e.clock) × (d.floor < e.floor)) later c queue.0).0, queue-init later c queue.1)

pub queue-going_on : (fills : Bool) (ttl now : ℕ) (xs : List Candidate) → IsQueue xs → IsQueue (going_on fills ttl now xs)
queue-going_on true ttl now xs queue = tt
queue-going_on false ttl now xs queue = queue-filter (is_fresh ttl now) xs queue

-- with a start that is no older
pub queue-with_candidate : (c : Candidate) (xs : List Candidate) → IsQueue xs → AllByRecursion (λ d. d.clock ≤ c.clock) xs
    → IsQueue (with_candidate c xs)
queue-with_candidate c xs queue all =
    queue-append (filter (λ d. not (nat_le c.floor d.floor)) xs) c (queue-filter (λ d. not (nat_le c.floor d.floor)) xs queue)
    (all-pass (λ d. d.clock ≤ c.clock) (λ d. (d.clock ≤ c.clock) × (d.floor < c.floor)) (λ d. not (nat_le c.floor d.floor)) xs
    (λ d low e. (low, lt-of c.floor d.floor e)) all)

-- all pass a test: none leaves
pub filter-all : (p : Candidate → Bool) (xs : List Candidate) → AllByRecursion (λ c. p c ≡ true) xs → filter p xs ≡ xs
filter-all p [] all = refl
filter-all p (c ∷ later) all = ap (λ b. cond b (c ∷ filter p later) (filter p later)) all.0 ∙ ap (λ r. c ∷ r) (filter-all p later all.1)

-- one that is too old leaves
pub filter-old : (ttl now : ℕ) (xs : List Candidate) → begins_old ttl now xs ≡ true
    → filter (is_fresh ttl now) (drop 1 xs) ≡ filter (is_fresh ttl now) xs
filter-old ttl now [] old = refl
filter-old ttl now (c ∷ later) old =
    let stale : is_fresh ttl now c ≡ false = false-of (is_fresh ttl now c) old in
    sym (ap (λ b. cond b (c ∷ filter (is_fresh ttl now) later) (filter (is_fresh ttl now) later)) stale)

pub queue-drop : (xs : List Candidate) → IsQueue xs → IsQueue (drop 1 xs)
queue-drop [] queue = tt
queue-drop (c ∷ later) queue = queue.1

pub old-some : (ttl now : ℕ) (xs : List Candidate) → begins_old ttl now xs ≡ true → 0 < length xs
old-some ttl now [] old = absurd (both_ways true (sym old) refl)
old-some ttl now (c ∷ later) old = omega arith

-- if the first is fresh, all are
pub filter-fresh : (ttl now : ℕ) (xs : List Candidate) → IsQueue xs → begins_old ttl now xs ≡ false → filter (is_fresh ttl now) xs ≡ xs
filter-fresh ttl now [] queue fresh = refl
filter-fresh ttl now (c ∷ later) queue fresh =
    let low : now ≤ c.clock + ttl = le-of now (c.clock + ttl) fresh in
    filter-all (is_fresh ttl now) (c ∷ later) (
      le-leb now (c.clock + ttl) low,
      all-more (λ d. (c.clock ≤ d.clock) × (c.floor < d.floor)) (λ d. is_fresh ttl now d ≡ true) later
          (λ d is. le-leb now (d.clock + ttl) (omega (arith, is.0, low))) queue.0,
    )

-- the first is worth most
pub first-most : (level : ℕ) (xs : List Candidate) → IsQueue xs → AllByRecursion (λ c. level - c.floor ≤ first_worth level xs) xs
first-most level [] queue = tt
first-most level (c ∷ later) queue = (
  omega arith,
  all-more (λ d. (c.clock ≤ d.clock) × (c.floor < d.floor)) (λ d. level - d.floor ≤ level - c.floor) later
      (λ d is. omega (arith, is.1)) queue.0,
)

-- the last of them decides whether it ends no lower
pub ends-last : (floor : ℕ) (xs : List Candidate) (c : Candidate) → ends_no_lower floor (xs ++ c ∷ []) ≡ nat_le floor c.floor
ends-last floor [] c = refl
ends-last floor (d ∷ []) c = refl
ends-last floor (d ∷ e ∷ later) c = ends-last floor (e ∷ later) c

-- one whose floor is no lower leaves
pub filter-back : (floor : ℕ) (xs ys : List Candidate) (last : Option Candidate) → xs ≡ ys ++ option_to_list last
    → ends_no_lower floor xs ≡ true → filter (λ d. not (nat_le floor d.floor)) ys ≡ filter (λ d. not (nat_le floor d.floor)) xs
filter-back floor xs ys None is high = rw is (rw append-nil refl)
filter-back floor xs ys (Some c) is high =
    let no_lower : nat_le floor c.floor ≡ true = sym (ends-last floor ys c) ∙ sym (ap (ends_no_lower floor) is) ∙ high in
    let passes : Candidate → Bool = λ d. not (nat_le floor d.floor) in
    sym
    (ap (filter passes) is ∙ filter-append passes ys (c ∷ []) ∙ ap (λ b. filter passes ys ++ cond (not b) (c ∷ []) []) no_lower
    ∙ append-nil (filter passes ys))

-- if the floor of the last is lower, all are
pub all-lower : (floor : ℕ) (xs : List Candidate) → IsQueue xs → ends_no_lower floor xs ≡ false → AllByRecursion (λ c. c.floor < floor) xs
all-lower floor [] queue low = tt
all-lower floor (c ∷ []) queue low = (lt-of floor c.floor (ap not low), tt)
all-lower floor (c ∷ d ∷ later) queue low =
    let rest = all-lower floor (d ∷ later) queue.1 low in (omega (arith, queue.0.0.1, rest.0), rest)

pub filter-lower : (floor : ℕ) (xs : List Candidate) → IsQueue xs → ends_no_lower floor xs ≡ false
    → filter (λ d. not (nat_le floor d.floor)) xs ≡ xs
filter-lower floor xs queue low =
    filter-all (λ d. not (nat_le floor d.floor)) xs
    (all-more (λ c. c.floor < floor) (λ c. not (nat_le floor c.floor) ≡ true) xs (λ c is. lt-leb floor c.floor is) (all-lower floor xs queue low))

pub back-some : (floor : ℕ) (xs : List Candidate) → ends_no_lower floor xs ≡ true → 0 < length xs
back-some floor [] high = absurd (both_ways true (sym high) refl)
back-some floor (c ∷ later) high = omega arith

-- the one at the back by its number
pub ends-at : (floor : ℕ) (xs : List Candidate) (n : ℕ) (c : Candidate) → length xs ≡ suc n
    → ends_no_lower floor xs ≡ nat_le floor (slice_index_or xs n c).floor
ends-at floor [] n c many = absurd (omega arith)
ends-at floor (d ∷ []) zero c many = refl
ends-at floor (d ∷ []) (suc n) c many = absurd (omega arith)
ends-at floor (d ∷ e ∷ later) zero c many = absurd (omega arith)
ends-at floor (d ∷ e ∷ later) (suc n) c many = ends-at floor (e ∷ later) n c (omega arith)

-- those before the back are a queue
pub queue-back : (xs ys : List Candidate) (last : Option Candidate) → xs ≡ ys ++ option_to_list last → IsQueue xs → IsQueue ys
queue-back xs ys None is queue = subst IsQueue (is ∙ append-nil ys) queue
queue-back xs ys (Some c) is queue = queue-init ys c (subst IsQueue is queue)

-- what leaves at an end is one or none
pub popped-le : (last : Option Candidate) (new old : ℕ) → MatchOption last ((old ≡ 0) × (new ≡ 0)) (λ c. new + 1 ≡ old) → new ≤ old
popped-le None new old is = omega arith
popped-le (Some c) new old is = omega arith

-- the start joins those that are left at the back
pub joined-is : (start : Candidate) (xs initial now : List Candidate) (joins : Bool) → IsQueue xs → ends_no_lower start.floor xs ≡ false
    → filter (λ d. not (nat_le start.floor d.floor)) xs ≡ filter (λ d. not (nat_le start.floor d.floor)) initial
    → joins ≡ true → now ≡ cond joins (xs ++ start ∷ []) xs → now ≡ with_candidate start initial
joined-is start xs initial now joins queue low same fits is =
    is ∙ ap (λ b. cond b (xs ++ start ∷ []) xs) fits
    ∙ ap (λ kept. kept ++ start ∷ []) (sym (filter-lower start.floor xs queue low) ∙ same)

-- What LRU keeps: of the most recently used objects that are no larger than the capacity as many as fit, from the latest on.
use Rattle.std.proofs.Common.{◌≡◌, ℕ, zero, suc, ◌+◌, ◌-◌, ◌<◌, ◌≤◌, ◌∙◌, sym, refl, ap, ⊎_elim, Bool, true, false, cond, eqb, List, [], ◌∷◌, ◌++◌, length, take, drop, filter, get_or, arith}
use Rattle.std.specs.declared.option.Option.{Option}
use Rattle.std.specs.List.{AllByRecursion}
use Rattle.std.proofs.lemmas.Bool.{cases_Bool, cases_lt, le-leb, lt-leb}
use Rattle.std.proofs.lemmas.List.{take_all, take_more}
use Rattle.std.proofs.lemmas.List.Sums.{sum_by-append, sum_by-cons, sum_by_push}
use Rattle.cache_model.specs.declared.objects.Object.{Object}
use Rattle.cache_model.specs.Claim.{same_object, no_object, total_size}
use Rattle.policy_model.specs.States.{State, Entry, used, has_entry}
use Rattle.policy_model.specs.Steps.{make_room}
use Rattle.policy_model.specs.Rules.{entries_after}
use Rattle.policy_model.proofs.Entries.{make_room-fits, make_room-over}
use Rattle.policy_model.proofs.Sound.{after-hit, after-small, after-large}
use Rattle.stack_curve.proofs.Different.{asks_for}
use Rattle.stack_curve.proofs.Recent.{less, recent, Distinct-recent}
use Rattle.stack_curve.proofs.LruEntries.{entry_of, entries_of, lru_state, IsToldApart, all-recent, entries-cons, entries-last, has-entries, length-entries, without-entries}
use Rattle.byte_curve.specs.Distances.{fits_in}
use Rattle.byte_curve.proofs.Fitting.{fitting, all-fitting, fitting-large, fitting-hit, fitting-miss, fitting-all, fitting-last}

-- the most recently used objects that are no larger than the capacity, the latest first
abbrev pub recent_small : ℕ → List Object → List Object
recent_small capacity h = recent (filter (fits_in capacity) h)

-- those of them that LRU keeps
abbrev pub kept_of : ℕ → List Object → List Object
kept_of capacity h = fitting capacity (recent_small capacity h)

all-filter : (P : Object → Type 0) (p : Object → Bool) (xs : List Object) → AllByRecursion P xs → AllByRecursion P (filter p xs)
all-filter P p [] each = tt
all-filter P p (x ∷ xs) each = at (p x) (all-filter P p xs each.1)
  where
    at : (b : Bool) → AllByRecursion P (filter p xs) → AllByRecursion P (cond b (x ∷ filter p xs) (filter p xs))
    at true rest = (each.0, rest)
    at false rest = rest

pub all-kept : (P : Object → Type 0) (capacity : ℕ) (h : List Object) → AllByRecursion P h → AllByRecursion P (kept_of capacity h)
all-kept P capacity h each = all-fitting P capacity (recent_small capacity h) (all-recent P (filter (fits_in capacity) h) (all-filter P (fits_in capacity) h each))

-- one more request
recent_small-large : (capacity : ℕ) (y : Object) (h : List Object) → capacity < y.size → recent_small capacity (y ∷ h) ≡ recent_small capacity h
recent_small-large capacity y h large = ap (λ b. recent (cond b (y ∷ filter (fits_in capacity) h) (filter (fits_in capacity) h))) (lt-leb y.size capacity large)

kept_of-more : (capacity : ℕ) (y : Object) (h : List Object) → y.size ≤ capacity → kept_of capacity (y ∷ h) ≡ y ∷ fitting (capacity - y.size) (less y (recent_small capacity h))
kept_of-more capacity y h small =
    ap (λ b. fitting capacity (recent (cond b (y ∷ filter (fits_in capacity) h) (filter (fits_in capacity) h)))) (le-leb y.size capacity small)
    ∙ ap (λ b. cond b (y ∷ fitting (capacity - y.size) (less y (recent_small capacity h))) []) (le-leb y.size capacity small)

module _ (num : Object → ℕ) where
  used-entries : (xs : List Object) → used (entries_of num xs) ≡ total_size xs
  used-entries [] = refl
  used-entries (x ∷ xs) =
      ap used (entries-cons num x xs)
      ∙ omega (
        arith,
        sum_by-append (λ (e : Entry). e.size) (entries_of num xs) (entry_of num x ∷ []),
        sum_by-cons (λ (e : Entry). e.size) (entry_of num x) [],
        sum_by-cons (λ (z : Object). z.size) x xs,
        used-entries xs,
      )

  module _ (capacity size : ℕ) (small : size ≤ capacity) where
    -- those used longest ago go until there is room
    room-take : (ys : List Object) (k : ℕ) → k ≤ length ys
        → make_room k (drop 1) capacity size (entries_of num (take k ys)) ≡ entries_of num (fitting (capacity - size) (take k ys))
    room-take ys zero within = refl
    room-take ys (suc k) within =
        let few : List Object = take k ys in
        let more : List Object = take (suc k) ys in
        let last : Object = get_or ys k no_object in
        let one : k + 1 ≡ suc k = omega arith in
        let longer : more ≡ few ++ last ∷ [] = ap (λ n. take n ys) (sym one) ∙ take_more ys k no_object (omega arith) in
        let sum : total_size more ≡ total_size few + last.size = ap total_size longer ∙ sum_by_push (λ (z : Object). z.size) few last in
        let bytes : used (entries_of num more) ≡ total_size more = used-entries more in
        ⊎_elim
        (λ (over : capacity < total_size more + size).
        make_room-over k (drop 1) capacity size (entries_of num more) (lt-leb (used (entries_of num more) + size) capacity (omega arith))
        ∙ ap (λ es. make_room k (drop 1) capacity size (drop 1 es)) (ap (entries_of num) longer ∙ entries-last num few last)
        ∙ room-take ys k (omega arith)
        ∙ ap (entries_of num) (sym (ap (fitting (capacity - size)) longer ∙ fitting-last (capacity - size) few last (omega arith))))
        (λ (fits : total_size more + size ≤ capacity).
        make_room-fits (suc k) (drop 1) capacity size (entries_of num more) (le-leb (used (entries_of num more) + size) capacity (omega arith))
        ∙ ap (entries_of num) (sym (fitting-all (capacity - size) more (omega arith))))
        (cases_lt capacity (total_size more + size))

    room : (ys : List Object) → make_room (length (entries_of num ys)) (drop 1) capacity size (entries_of num ys) ≡ entries_of num (fitting (capacity - size) ys)
    room ys =
        let all : take (length ys) ys ≡ ys = take_all (length ys) ys (omega arith) in
        ap (λ n. make_room n (drop 1) capacity size (entries_of num ys)) (length-entries num ys)
        ∙ ap (λ xs. make_room (length ys) (drop 1) capacity size (entries_of num xs)) (sym all)
        ∙ room-take ys (length ys) (omega arith)
        ∙ ap (λ xs. entries_of num (fitting (capacity - size) xs)) all

  -- one request
  pub after-request : (capacity now : ℕ) (next : Option ℕ) (y : Object) (h : List Object) → IsToldApart num y h
      → entries_after (lru_state num capacity now (entries_of num (kept_of capacity h))) (num y) y.size next ≡ entries_of num (kept_of capacity (y ∷ h))
  after-request capacity now next y h apart =
      ⊎_elim
      (λ (large : capacity < y.size).
      after-large state (num y) y.size next (held ∙ fitting-large y capacity (recent_small capacity h) large) large
      ∙ ap (λ xs. entries_of num (fitting capacity xs)) (sym (recent_small-large capacity y h large)))
      (λ (small : y.size ≤ capacity).
      ⊎_elim
      (λ (hit : asks_for y (kept_of capacity h) ≡ true).
      after-hit state (num y) y.size next (held ∙ hit)
      ∙ ap (λ es. es ++ entry_of num y ∷ [])
      (without-entries num y (kept_of capacity h) told ∙ ap (entries_of num) (fitting-hit y capacity (recent_small capacity h) (Distinct-recent (filter (fits_in capacity) h)) hit))
      ∙ front small)
      (λ (miss : asks_for y (kept_of capacity h) ≡ false).
      after-small state (num y) y.size next (held ∙ miss) small
      ∙ ap (λ es. es ++ entry_of num y ∷ [])
      (room capacity y.size small (kept_of capacity h) ∙ ap (entries_of num) (sym (fitting-miss y capacity (recent_small capacity h) small miss)))
      ∙ front small)
      (cases_Bool (asks_for y (kept_of capacity h))))
      (cases_lt capacity y.size)
    where
      state : State
      state = lru_state num capacity now (entries_of num (kept_of capacity h))

      told : IsToldApart num y (kept_of capacity h)
      told = all-kept (λ x. eqb (num x) (num y) ≡ same_object y x) capacity h apart

      held : has_entry (entries_of num (kept_of capacity h)) (num y) ≡ asks_for y (kept_of capacity h)
      held = has-entries num y (kept_of capacity h) told

      front : y.size ≤ capacity → entries_of num (fitting (capacity - y.size) (less y (recent_small capacity h))) ++ entry_of num y ∷ [] ≡ entries_of num (kept_of capacity (y ∷ h))
      front small = sym (ap (entries_of num) (kept_of-more capacity y h small) ∙ entries-cons num y (fitting (capacity - y.size) (less y (recent_small capacity h))))

-- What LRU keeps where all objects have one size: the most recently used objects, as many as fit.
use Rattle.std.proofs.Common.{◌≡◌, ℕ, zero, suc, ◌+◌, ◌*◌, ◌/◌, ◌<◌, ◌≤◌, ◌∙◌, sym, refl, ap, ⊎_elim, Bool, true, false, not, ◌||◌, cond, eqb, leb, List, [], ◌∷◌, ◌++◌, length, take, drop, map, reverse, get_or, arith, append-nil, None}
use Rattle.std.specs.declared.option.Option.{Option}
use Rattle.std.specs.List.{AllByRecursion}
use Rattle.std.proofs.lemmas.Bool.{cases_Bool, cases_lt, le-leb, lt-leb}
use Rattle.std.proofs.lemmas.List.{length-map, length-reverse, length-take-le, take_all, take_more, map-append, reverse-append}
use Rattle.std.proofs.lemmas.List.Elements.{filter-append}
use Rattle.std.proofs.lemmas.List.Sums.{sum_by-append, sum_by-cons}
use Rattle.std.proofs.Math.Nat.{mul-le-mul_right, div-mul-le_self, lt-div-mul-add}
use Rattle.cache_model.specs.declared.objects.Object.{Object}
use Rattle.cache_model.specs.Claim.{same_object, no_object}
use Rattle.policy_model.specs.declared.names.PolicyName.TheVariants.{Lru}
use Rattle.policy_model.specs.States.{State, Entry, used, has_entry, nothing_beside}
use Rattle.policy_model.specs.Steps.{fresh_entry, make_room, without_entry}
use Rattle.policy_model.specs.Rules.{entries_after}
use Rattle.policy_model.proofs.Entries.{make_room-fits, make_room-over}
use Rattle.policy_model.proofs.Sound.{after-hit, after-small, after-large}
use Rattle.stack_curve.proofs.Different.{asks_for}
use Rattle.stack_curve.proofs.Recent.{less, recent, Distinct-recent, asks-shorter, take-hit, take-miss}

-- each element of a list
all-less : (P : Object → Type 0) (x : Object) (ys : List Object) → AllByRecursion P ys → AllByRecursion P (less x ys)
all-less P x [] each = tt
all-less P x (y ∷ ys) each = at (not (same_object x y)) (all-less P x ys each.1)
  where
    at : (b : Bool) → AllByRecursion P (less x ys) → AllByRecursion P (cond b (y ∷ less x ys) (less x ys))
    at true rest = (each.0, rest)
    at false rest = rest

pub all-recent : (P : Object → Type 0) (h : List Object) → AllByRecursion P h → AllByRecursion P (recent h)
all-recent P [] each = tt
all-recent P (x ∷ h) each = (each.0, all-less P x (recent h) (all-recent P h each.1))

pub all-take : (P : Object → Type 0) (k : ℕ) (xs : List Object) → AllByRecursion P xs → AllByRecursion P (take k xs)
all-take P zero xs each = tt
all-take P (suc k) [] each = tt
all-take P (suc k) (x ∷ xs) each = (each.0, all-take P k xs each.1)

-- entries in the other order
has_entry-last : (k : ℕ) (entries : List Entry) (e : Entry) → has_entry (entries ++ e ∷ []) k ≡ (eqb e.object k || has_entry entries k)
has_entry-last k [] e = refl
has_entry-last k (f ∷ rest) e = ap (λ b. eqb f.object k || b) (has_entry-last k rest e) ∙ swap (eqb f.object k) (eqb e.object k) (has_entry rest k)
  where
    swap : (a b c : Bool) → (a || (b || c)) ≡ (b || (a || c))
    swap true true c = refl
    swap true false c = refl
    swap false true c = refl
    swap false false c = refl

has_entry-reverse : (k : ℕ) (entries : List Entry) → has_entry (reverse entries) k ≡ has_entry entries k
has_entry-reverse k [] = refl
has_entry-reverse k (e ∷ rest) = ap (λ es. has_entry es k) (reverse-append (e ∷ []) rest) ∙ has_entry-last k (reverse rest) e ∙ ap (λ b. eqb e.object k || b) (has_entry-reverse k rest)

without-reverse : (k : ℕ) (entries : List Entry) → without_entry k (reverse entries) ≡ reverse (without_entry k entries)
without-reverse k [] = refl
without-reverse k (e ∷ rest) =
    ap (without_entry k) (reverse-append (e ∷ []) rest)
    ∙ filter-append (λ (f : Entry). not (eqb f.object k)) (reverse rest) (e ∷ [])
    ∙ ap (λ es. es ++ without_entry k (e ∷ [])) (without-reverse k rest)
    ∙ at (not (eqb e.object k))
  where
    at : (b : Bool) → reverse (without_entry k rest) ++ cond b (e ∷ []) [] ≡ reverse (cond b (e ∷ without_entry k rest) (without_entry k rest))
    at true = sym (reverse-append (e ∷ []) (without_entry k rest))
    at false = append-nil (reverse (without_entry k rest))

module _ (num : Object → ℕ) where
  -- the entry of LRU for an object
  abbrev pub entry_of : Object → Entry
  entry_of x = fresh_entry Lru 0 (num x) x.size None

  -- the objects, latest first, as LRU's entries
  abbrev pub entries_of : List Object → List Entry
  entries_of xs = reverse (map entry_of xs)

  -- LRU with these entries
  abbrev pub lru_state : ℕ → ℕ → List Entry → State
  lru_state capacity now entries = record { name = Lru; capacity = capacity; now = now; entries = entries; beside = nothing_beside }

  -- the number of y tells it from these
  abbrev pub IsToldApart : Object → List Object → Type 0
  IsToldApart y xs = AllByRecursion (λ x. eqb (num x) (num y) ≡ same_object y x) xs

  has-map : (y : Object) (xs : List Object) → IsToldApart y xs → has_entry (map entry_of xs) (num y) ≡ asks_for y xs
  has-map y [] apart = refl
  has-map y (x ∷ xs) apart = ap (λ b. b || has_entry (map entry_of xs) (num y)) apart.0 ∙ ap (λ b. same_object y x || b) (has-map y xs apart.1)

  pub has-entries : (y : Object) (xs : List Object) → IsToldApart y xs → has_entry (entries_of xs) (num y) ≡ asks_for y xs
  has-entries y xs apart = has_entry-reverse (num y) (map entry_of xs) ∙ has-map y xs apart

  without-map : (y : Object) (xs : List Object) → IsToldApart y xs → without_entry (num y) (map entry_of xs) ≡ map entry_of (less y xs)
  without-map y [] apart = refl
  without-map y (x ∷ xs) apart =
      ap (λ b. cond (not b) (entry_of x ∷ without_entry (num y) (map entry_of xs)) (without_entry (num y) (map entry_of xs))) apart.0
      ∙ at (not (same_object y x)) (without-map y xs apart.1)
    where
      at : (b : Bool) → without_entry (num y) (map entry_of xs) ≡ map entry_of (less y xs)
          → cond b (entry_of x ∷ without_entry (num y) (map entry_of xs)) (without_entry (num y) (map entry_of xs)) ≡ map entry_of (cond b (x ∷ less y xs) (less y xs))
      at true rest = ap (λ es. entry_of x ∷ es) rest
      at false rest = rest

  -- the entries but that of an object
  pub without-entries : (y : Object) (xs : List Object) → IsToldApart y xs → without_entry (num y) (entries_of xs) ≡ entries_of (less y xs)
  without-entries y xs apart = without-reverse (num y) (map entry_of xs) ∙ ap reverse (without-map y xs apart)

  used-entries : (size : ℕ) (xs : List Object) → AllByRecursion (λ x. x.size ≡ size) xs → used (entries_of xs) ≡ length xs * size
  used-entries size [] sized = omega arith
  used-entries size (x ∷ xs) sized =
      ap used (reverse-append (entry_of x ∷ []) (map entry_of xs))
      ∙ omega (
        arith,
        sum_by-append (λ (e : Entry). e.size) (entries_of xs) (entry_of x ∷ []),
        sum_by-cons (λ (e : Entry). e.size) (entry_of x) [],
        used-entries size xs sized.1,
        sized.0,
      )

  pub length-entries : (xs : List Object) → length (entries_of xs) ≡ length xs
  length-entries xs = length-reverse (map entry_of xs) ∙ length-map xs entry_of

  -- the entry of the latest object is the last
  pub entries-cons : (x : Object) (xs : List Object) → entries_of (x ∷ xs) ≡ entries_of xs ++ entry_of x ∷ []
  entries-cons x xs = reverse-append (entry_of x ∷ []) (map entry_of xs)

  -- the entry of the object that was used longest ago is the first
  pub entries-last : (xs : List Object) (x : Object) → entries_of (xs ++ x ∷ []) ≡ entry_of x ∷ entries_of xs
  entries-last xs x = ap reverse (map-append entry_of xs (x ∷ [])) ∙ reverse-append (map entry_of xs) (entry_of x ∷ [])

  module _ (capacity size : ℕ) (positive : 1 ≤ size) where
    -- as many objects as fit
    fits : (j : ℕ) → j ≤ capacity / size → j * size ≤ capacity
    fits j few = let a : j * size ≤ capacity / size * size = mul-le-mul_right size few in let b : capacity / size * size ≤ capacity = div-mul-le_self capacity size in omega arith

    too_many : (j : ℕ) → capacity / size < j → capacity < j * size
    too_many j many =
        let a : capacity < capacity / size * size + size = lt-div-mul-add positive in
        let b : (capacity / size + 1) * size ≤ j * size = mul-le-mul_right size (omega arith) in
        grind (arith, a, b)

    -- room for one more: of as many as fit the last used longest ago goes
    room : (j : ℕ) (ys : List Object) → suc j ≡ capacity / size → AllByRecursion (λ x. x.size ≡ size) ys
        → make_room (length (entries_of (take (suc j) ys))) (drop 1) capacity size (entries_of (take (suc j) ys)) ≡ entries_of (take j ys)
    room j ys slots sized =
        let few : List Object = take j ys in
        let fit : leb (used (entries_of few) + size) capacity ≡ true =
        le-leb (used (entries_of few) + size) capacity
        (let a : length few ≤ j = length-take-most j ys in
        let b : (length few + 1) * size ≤ capacity = fits (length few + 1) (omega arith) in
        let c : used (entries_of few) ≡ length few * size = used-entries size few (all-take (λ x. x.size ≡ size) j ys sized) in
        grind (arith, a, b, c)) in
        ⊎_elim
        (λ (more : j < length ys).
        let last : Object = get_or ys j no_object in
        let one : j + 1 ≡ suc j = omega arith in
        let longer : take (suc j) ys ≡ few ++ last ∷ [] = ap (λ n. take n ys) (sym one) ∙ take_more ys j no_object more in
        let first : entries_of (take (suc j) ys) ≡ entry_of last ∷ entries_of few = ap entries_of longer ∙ entries-last few last in
        let full : leb (used (entries_of (take (suc j) ys)) + size) capacity ≡ false =
        lt-leb (used (entries_of (take (suc j) ys)) + size) capacity
        (let a : length (take (suc j) ys) ≡ suc j = length-take-le (suc j) ys (omega arith) in
        let b : capacity < (length (take (suc j) ys) + 1) * size = too_many (length (take (suc j) ys) + 1) (omega arith) in
        let c : used (entries_of (take (suc j) ys)) ≡ length (take (suc j) ys) * size = used-entries size (take (suc j) ys) (all-take (λ x. x.size ≡ size) (suc j) ys sized) in
        grind (arith, a, b, c)) in
        let turns : length (entries_of (take (suc j) ys)) ≡ suc j = length-entries (take (suc j) ys) ∙ length-take-le (suc j) ys (omega arith) in
        ap (λ n. make_room n (drop 1) capacity size (entries_of (take (suc j) ys))) turns
        ∙ make_room-over j (drop 1) capacity size (entries_of (take (suc j) ys)) full
        ∙ ap (λ es. make_room j (drop 1) capacity size (drop 1 es)) first
        ∙ make_room-fits j (drop 1) capacity size (entries_of few) fit)
        (λ (all : length ys ≤ j).
        let same : take (suc j) ys ≡ few = take_all (suc j) ys (omega arith) ∙ sym (take_all j ys all) in
        ap (λ xs. make_room (length (entries_of xs)) (drop 1) capacity size (entries_of xs)) same
        ∙ make_room-fits (length (entries_of few)) (drop 1) capacity size (entries_of few) fit)
        (cases_lt j (length ys))
      where
        length-take-most : (n : ℕ) (xs : List Object) → length (take n xs) ≤ n
        length-take-most zero xs = omega arith
        length-take-most (suc n) [] = omega arith
        length-take-most (suc n) (x ∷ xs) = omega (arith, length-take-most n xs)

    -- one request
    pub after-request : (k now : ℕ) (next : Option ℕ) (y : Object) (h : List Object) → k ≡ capacity / size → y.size ≡ size
        → AllByRecursion (λ x. x.size ≡ size) h → IsToldApart y h
        → entries_after (lru_state capacity now (entries_of (take k (recent h)))) (num y) y.size next ≡ entries_of (take k (recent (y ∷ h)))
    after-request k now next y h slots own sized apart =
        ⊎_elim
        (λ (hit : asks_for y (take k (recent h)) ≡ true). after-hit state (num y) y.size next (held ∙ hit) ∙ moved k hit (all-take _ k (recent h) (all-recent _ h apart)))
        (λ (miss : asks_for y (take k (recent h)) ≡ false). missed k slots miss (held ∙ miss))
        (cases_Bool (asks_for y (take k (recent h))))
      where
        state : State
        state = lru_state capacity now (entries_of (take k (recent h)))

        held : has_entry (entries_of (take k (recent h))) (num y) ≡ asks_for y (take k (recent h))
        held = has-entries y (take k (recent h)) (all-take _ k (recent h) (all-recent _ h apart))

        moved : (n : ℕ) → asks_for y (take n (recent h)) ≡ true → IsToldApart y (take n (recent h))
            → without_entry (num y) (entries_of (take n (recent h))) ++ entry_of y ∷ [] ≡ entries_of (take n (recent (y ∷ h)))
        moved zero hit told = cc
        moved (suc j) hit told =
            ap (λ es. es ++ entry_of y ∷ [])
            (without-entries y (take (suc j) (recent h)) told ∙ ap entries_of (take-hit y j (recent h) (Distinct-recent h) hit))
            ∙ sym (entries-cons y (take j (less y (recent h))))

        missed : (n : ℕ) → n ≡ capacity / size → asks_for y (take n (recent h)) ≡ false → has_entry (entries_of (take n (recent h))) (num y) ≡ false
            → entries_after (lru_state capacity now (entries_of (take n (recent h)))) (num y) y.size next ≡ entries_of (take n (recent (y ∷ h)))
        missed zero none miss out = after-large (lru_state capacity now []) (num y) y.size next out (let large : capacity < 1 * size = too_many 1 (omega arith) in omega arith)
        missed (suc j) some miss out =
            after-small (lru_state capacity now (entries_of (take (suc j) (recent h)))) (num y) y.size next out (let small : 1 * size ≤ capacity = fits 1 (omega arith) in omega arith)
            ∙ ap (λ n. make_room (length (entries_of (take (suc j) (recent h)))) (drop 1) capacity n (entries_of (take (suc j) (recent h))) ++ entry_of y ∷ []) own
            ∙ ap (λ es. es ++ entry_of y ∷ []) (room j (recent h) some (all-recent _ h sized))
            ∙ ap (λ xs. entries_of xs ++ entry_of y ∷ []) (sym (take-miss y j (recent h) (asks-shorter y j (recent h) miss)))
            ∙ sym (entries-cons y (take j (less y (recent h))))

-- One more request at the end of a trace: its objects, and the nearest requests of each.
use Rattle.std.proofs.Common.{Some, position, slice_get, unwrap_or, ◌≡◌, ℕ, suc, zero, ◌+◌, ◌<◌, ◌≤◌, ◌∙◌, sym, refl, ap, subst, Bool, true, false, not, ◌&&◌, ◌==◌, cond, List, [], ◌∷◌, ◌++◌, length, arith, ⊎_elim, filter, map, take, append-nil}
use Rattle.std.specs.List.{range_with_len, list_any}
use Rattle.std.proofs.Math.Seq.{get_or-append_seam}
use Rattle.std.proofs.lemmas.Bool.{cases_lt}
use Rattle.std.proofs.lemmas.List.{get_or_append_left, get_or-take, length-append, length-map, length-take-le, map-append, take-append-le}
use Rattle.std.proofs.lemmas.List.Elements.{All-from_get_or, filter-append}
use Rattle.std.proofs.lemmas.List.Folds.{list_any_at, list_any_none}
use Rattle.std.proofs.lemmas.List.FromFn.{length-range_with_len}
use Rattle.std.proofs.lemmas.List.Sums.{length-filter, count_by-le-length}
use Rattle.cache_model.specs.contracts.objects.ObjectPartialEq.TheImpl.{eq-value}
use Rattle.cache_model.specs.declared.objects.Object.{Object}
use Rattle.cache_model.specs.Claim.{same_object, request_at, no_object}
use Rattle.cache_model.specs.Objects.{IsLatest, IsNew}
use Rattle.cache_model.specs.Objects.{numbers_of, IsNext, IsLast, IsFirst, is_first, objects_of}
use Rattle.cache_model.proofs.Duality.{same_object-true, same_object-refl}
use Rattle.cache_model.proofs.Pairs.{same_object-sym}
use Rattle.cache_model.proofs.Eligible.{range-suc}

-- `==` on objects tells them apart as the rules do
pub same_object-derived : eq-value.it ≡ same_object
same_object-derived = λ i x y. at (x.volume == y.volume) (x.id == y.id) (x.size == y.size) i
  where
    at : (a b c : Bool) → (a && (b && c)) ≡ (a && b && c)
    at true b c = refl
    at false b c = refl

-- two filters of a range that agree there, and two maps of what they keep
map-filter-range_agree : {X : Type 0} (f g : ℕ → X) (p q : ℕ → Bool) (a n : ℕ)
    → ((k : ℕ) → a ≤ k → k < a + n → f k ≡ g k) → ((k : ℕ) → a ≤ k → k < a + n → p k ≡ q k)
    → map f (filter p (range_with_len a n)) ≡ map g (filter q (range_with_len a n))
map-filter-range_agree f g p q a zero values tests = refl
map-filter-range_agree f g p q a (suc n) values tests =
    ap (λ t. map f (cond t (a ∷ filter p (range_with_len (a + 1) n)) (filter p (range_with_len (a + 1) n)))) (tests a (omega arith) (omega arith))
    ∙ at (q a)
    (map-filter-range_agree f g p q (a + 1) n (λ k low high. values k (omega arith) (omega arith)) (λ k low high. tests k (omega arith) (omega arith)))
  where
    at : (t : Bool) → map f (filter p (range_with_len (a + 1) n)) ≡ map g (filter q (range_with_len (a + 1) n))
        → map f (cond t (a ∷ filter p (range_with_len (a + 1) n)) (filter p (range_with_len (a + 1) n)))
        ≡ map g (cond t (a ∷ filter q (range_with_len (a + 1) n)) (filter q (range_with_len (a + 1) n)))
    at true rest = ap (λ x. x ∷ map f (filter p (range_with_len (a + 1) n))) (values a (omega arith) (omega arith)) ∙ ap (λ xs. g a ∷ xs) rest
    at false rest = rest

-- the test and the relation
pub is_first-yes : (trace : List Object) (t : ℕ) → t ≤ length trace → IsFirst trace t → is_first trace t ≡ true
is_first-yes trace t within first =
    let p : Object → Bool = same_object (request_at trace t) in
    ap not (list_any_none p (take t trace) (All-from_get_or (λ x. p x ≡ false) (take t trace) no_object (λ k lt.
    let low : k < t = omega (arith, length-take-le t trace within) in
    ap p (get_or-take t trace k no_object low) ∙ first k low)))

pub is_first-no : (trace : List Object) (t k : ℕ) → k < t → t ≤ length trace → same_object (request_at trace t) (request_at trace k) ≡ true → is_first trace t ≡ false
is_first-no trace t k low within same =
    let p : Object → Bool = same_object (request_at trace t) in
    ap not (list_any_at p (take t trace) k no_object (omega (arith, length-take-le t trace within)) (ap p (get_or-take t trace k no_object low) ∙ same))

-- there are no more objects than requests
pub length-objects_of : (trace : List Object) → length (objects_of trace) ≤ length trace
length-objects_of trace =
    omega (
      arith,
      length-map (filter (is_first trace) (numbers_of trace)) (request_at trace),
      length-filter (is_first trace) (numbers_of trace),
      count_by-le-length (is_first trace) (numbers_of trace),
      length-range_with_len 0 (length trace),
    )

-- objects that stand at one place of a list are one
pub same_place : (objects : List Object) (x y : Object) (n : ℕ) → slice_get objects n ≡ Some x → slice_get objects n ≡ Some y → x ≡ y
same_place objects x y n at_x at_y = ap (λ r. unwrap_or r no_object) (sym at_x ∙ at_y)

-- requests of one object have one number
pub same_number : (objects : List Object) (x y : Object) (m n : ℕ) → same_object x y ≡ true
    → position (same_object x) objects ≡ Some m → position (same_object y) objects ≡ Some n → m ≡ n
same_number objects x y m n same at_m at_n =
    ap (λ r. unwrap_or r 0) (sym at_m ∙ ap (λ z. position (same_object z) objects) (same_object-true x y same) ∙ at_n)

module _ (trace : List Object) (x : Object) where
  pub length-pushed : length (trace ++ x ∷ []) ≡ suc (length trace)
  length-pushed = omega (arith, length-append trace (x ∷ []))

  pub request_at-pushed : request_at (trace ++ x ∷ []) (length trace) ≡ x
  request_at-pushed = get_or-append_seam trace x [] no_object

  pub request_at-early : (a : ℕ) → a < length trace → request_at (trace ++ x ∷ []) a ≡ request_at trace a
  request_at-early a within = get_or_append_left trace (x ∷ []) no_object a within

  -- whether two earlier requests are of one object stays
  same_early : (a b : ℕ) → a < length trace → b < length trace
      → same_object (request_at (trace ++ x ∷ []) a) (request_at (trace ++ x ∷ []) b) ≡ same_object (request_at trace a) (request_at trace b)
  same_early a b within_a within_b =
      ap (λ y. same_object y (request_at (trace ++ x ∷ []) b)) (request_at-early a within_a)
      ∙ ap (same_object (request_at trace a)) (request_at-early b within_b)

  same_pushed : (a : ℕ) → a < length trace → same_object (request_at (trace ++ x ∷ []) a) (request_at (trace ++ x ∷ []) (length trace)) ≡ same_object (request_at trace a) x
  same_pushed a within =
      ap (λ y. same_object y (request_at (trace ++ x ∷ []) (length trace))) (request_at-early a within)
      ∙ ap (same_object (request_at trace a)) request_at-pushed

  pub IsFirst-early : (t : ℕ) → t < length trace → IsFirst trace t → IsFirst (trace ++ x ∷ []) t
  IsFirst-early t within first = λ k low. same_early t k within (omega arith) ∙ first k low

  pub IsNext-early : (a b : ℕ) → IsNext trace a b → IsNext (trace ++ x ∷ []) a b
  IsNext-early a b next =
      let low : a < b = next.before in
      let high : b < length trace = next.within in
      record {
        before = low;
        within = omega (arith, length-pushed);
        same = same_early a b (omega arith) high ∙ next.same;
        others = λ k after until. same_early a k (omega arith) (omega arith) ∙ next.others k after until;
      }

  pub IsLast-pushed : IsLast (trace ++ x ∷ []) (length trace)
  IsLast-pushed = λ k low high. absurd (omega (arith, length-pushed))

  -- a request with no later one of its object has none in a request of another object
  pub IsLast-early : (a : ℕ) → a < length trace → same_object (request_at trace a) x ≡ false → IsLast trace a → IsLast (trace ++ x ∷ []) a
  IsLast-early a within differs last = λ k low high.
      ⊎_elim
      (λ (early : k < length trace). same_early a k within early ∙ last k low early)
      (λ (late : length trace ≤ k). let here : length trace ≡ k = omega (arith, length-pushed) in
      subst (λ j. same_object (request_at (trace ++ x ∷ []) a) (request_at (trace ++ x ∷ []) j) ≡ false) here (same_pushed a within ∙ differs))
      (cases_lt k (length trace))

  pub IsFirst-pushed : IsNew trace x → IsFirst (trace ++ x ∷ []) (length trace)
  IsFirst-pushed new = λ k low.
      ap (λ y. same_object y (request_at (trace ++ x ∷ []) k)) request_at-pushed
      ∙ ap (same_object x) (request_at-early k low) ∙ new k low

  -- the request is the next of the latest request of its object
  pub IsNext-pushed : (a : ℕ) → IsLatest trace x a → IsNext (trace ++ x ∷ []) a (length trace)
  IsNext-pushed a latest =
      let here : x ≡ request_at trace a = same_object-true x (request_at trace a) latest.same in
      let low : a < length trace = latest.within in
      record {
        before = low;
        within = omega (arith, length-pushed);
        same = same_pushed a low ∙ ap (λ y. same_object y x) (sym here) ∙ same_object-refl x;
        others = λ k after until. same_early a k low until ∙ ap (λ y. same_object y (request_at trace k)) (sym here) ∙ latest.others k after until;
      }

  -- and it is its object's latest
  pub IsLatest-pushed : IsLatest (trace ++ x ∷ []) x (length trace)
  IsLatest-pushed = record {
    within = omega (arith, length-pushed);
    same = ap (same_object x) request_at-pushed ∙ same_object-refl x;
    others = λ k low high. absurd (omega (arith, length-pushed));
  }

  -- the latest requests of other objects stay
  pub IsLatest-early : (y : Object) (a : ℕ) → same_object y x ≡ false → IsLatest trace y a → IsLatest (trace ++ x ∷ []) y a
  IsLatest-early y a differs latest =
      let low : a < length trace = latest.within in
      record {
        within = omega (arith, length-pushed);
        same = ap (same_object y) (request_at-early a low) ∙ latest.same;
        others = λ k after until.
            ⊎_elim
            (λ (early : k < length trace). ap (same_object y) (request_at-early k early) ∙ latest.others k after early)
            (λ (late : length trace ≤ k). let here : length trace ≡ k = omega (arith, length-pushed) in
            subst (λ j. same_object y (request_at (trace ++ x ∷ []) j) ≡ false) here (ap (same_object y) request_at-pushed ∙ differs))
            (cases_lt k (length trace));
      }

  is_first-early : (t : ℕ) → t < length trace → is_first (trace ++ x ∷ []) t ≡ is_first trace t
  is_first-early t within =
      ap (λ y. not (list_any (same_object y) (take t (trace ++ x ∷ [])))) (request_at-early t within)
      ∙ ap (λ xs. not (list_any (same_object (request_at trace t)) xs)) (take-append-le t trace (x ∷ []) (omega arith))

  -- the objects of the earlier requests, and the new one if it is the first of its object
  objects_of-pushed : objects_of (trace ++ x ∷ []) ≡ objects_of trace ++ cond (is_first (trace ++ x ∷ []) (length trace)) (x ∷ []) []
  objects_of-pushed =
      let longer : List Object = trace ++ x ∷ [] in
      let f : ℕ → Object = request_at longer in
      let p : ℕ → Bool = is_first longer in
      let earlier : List ℕ = range_with_len 0 (length trace) in
      ap (λ n. map f (filter p (range_with_len 0 n))) length-pushed
      ∙ ap (λ ns. map f (filter p ns)) (range-suc 0 (length trace) (length trace) (omega arith))
      ∙ ap (map f) (filter-append p earlier (length trace ∷ []))
      ∙ map-append f (filter p earlier) (filter p (length trace ∷ []))
      ∙ ap (λ xs. xs ++ map f (filter p (length trace ∷ [])))
      (map-filter-range_agree f (request_at trace) p (is_first trace) 0 (length trace) (λ k low high. request_at-early k (omega arith)) (λ k low high. is_first-early k (omega arith)))
      ∙ ap (λ xs. objects_of trace ++ xs) (at (p (length trace)))
    where
      at : (t : Bool) → map (request_at (trace ++ x ∷ [])) (cond t (length trace ∷ []) []) ≡ cond t (x ∷ []) []
      at true = ap (λ y. y ∷ []) request_at-pushed
      at false = refl

  -- a request of a new object adds it
  pub objects_of-pushed_new : IsNew trace x → objects_of (trace ++ x ∷ []) ≡ objects_of trace ++ x ∷ []
  objects_of-pushed_new new =
      objects_of-pushed
      ∙ ap (λ t. objects_of trace ++ cond t (x ∷ []) []) (is_first-yes (trace ++ x ∷ []) (length trace) (omega (arith, length-pushed)) (IsFirst-pushed new))

  -- a request of an object that was asked for adds none
  pub objects_of-pushed_again : (a : ℕ) → IsLatest trace x a → objects_of (trace ++ x ∷ []) ≡ objects_of trace
  objects_of-pushed_again a latest =
      let low : a < length trace = latest.within in
      let same : same_object (request_at (trace ++ x ∷ []) (length trace)) (request_at (trace ++ x ∷ []) a) ≡ true =
      same_object-sym (request_at (trace ++ x ∷ []) (length trace)) (request_at (trace ++ x ∷ []) a) ∙ (IsNext-pushed a latest).same in
      objects_of-pushed
      ∙ ap (λ t. objects_of trace ++ cond t (x ∷ []) []) (is_first-no (trace ++ x ∷ []) (length trace) a low (omega (arith, length-pushed)) same)
      ∙ append-nil (objects_of trace)

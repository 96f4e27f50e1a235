-- The definitions at small traces, computed.
use Rattle.std.proofs.Common.{◌≡◌, ◌≢◌, ℕ, zero, suc, ◌+◌, ◌*◌, ◌/◌, ◌<◌, ◌≤◌, true, false, List, [], ◌∷◌, ◌∙◌, sym, ap, inr, ◌⊎◌, ⊎_elim, slice_get, All, AllPairs, Contains, Some, refl, arith}
use Rattle.std.proofs.lemmas.List.Elements.{All-cons, All-nil}
use Rattle.cache_model.specs.declared.objects.Object.{Object}
use Rattle.cache_model.specs.declared.objects.Objective.TheVariants.{Object as Hits, Bytes}
use Rattle.cache_model.specs.declared.intervals.Interval.{Interval}
use Rattle.cache_model.specs.Claim.{Terms, before_request, score, terms_from, total_size}
use Rattle.cache_model.specs.Intervals.{eligible_intervals, bound_of}
use Rattle.area_laws.specs.Late.{IsAllowedLate, IsAskedLately}
use Rattle.area_laws.specs.Areas.{areas_of, below_edge, edge_bound, gains_of}

abbrev object : ℕ → ℕ → Object
object id size = record { volume = 0; id = id; size = size }

abbrev interval : ℕ → ℕ → ℕ → ℕ → Interval
interval a b s g = record { start = a; end = b; size = s; gain = g }

-- B A B A, each of size 1, at a capacity of one
abbrev a : Object
a = object 1 1

abbrev b : Object
b = object 2 1

abbrev turns : List Object
turns = b ∷ a ∷ b ∷ a ∷ []

abbrev one : Terms
one = terms_from Hits 1 0 []

-- the cache has an area of 3, and each of the two areas of 2 lacks 1 to the edge 3
bound_without_delay : edge_bound one 0 3 turns ≡ 5
bound_without_delay = refl

floor_without_delay : edge_bound one 0 3 turns / 3 ≡ 1
floor_without_delay = refl

-- with a delay of one request the areas are 1
bound_with_delay : edge_bound one 1 3 turns ≡ 7
bound_with_delay = refl

floor_with_delay : edge_bound one 1 3 turns / 3 ≡ 2
floor_with_delay = refl

-- each object enters one request late, and is hit
abbrev late : List (List Object)
late = [] ∷ [] ∷ (b ∷ []) ∷ (a ∷ []) ∷ [] ∷ []

two_hits : score one turns late ≡ 2
two_hits = refl

-- the only member of contents
only : (x y : Object) → Contains (x ∷ []) y → Some x ≡ Some y
only x y (zero, low, e) = ap Some e
only x y (suc k, low, e) = absurd (omega arith)

nothing : (y : Object) → Contains [] y → ⊥
nothing y (k, low, e) = omega arith

alone : (x : Object) → AllPairs (λ y z. y ≢ z) (x ∷ [])
alone x = λ i j d order within. absurd (omega arith)

none : AllPairs (λ (y z : Object). y ≢ z) []
none = λ i j d order within. absurd (omega arith)

-- what holds of no object and of each alone
each : (P : List Object → Type 0) → P [] → P (b ∷ []) → P (a ∷ []) → All P late
each P empty of_b of_a =
    All-cons P [] ([] ∷ (b ∷ []) ∷ (a ∷ []) ∷ [] ∷ []) empty
    (All-cons P [] ((b ∷ []) ∷ (a ∷ []) ∷ [] ∷ []) empty
    (All-cons P (b ∷ []) ((a ∷ []) ∷ [] ∷ []) of_b
    (All-cons P (a ∷ []) ([] ∷ []) of_a (All-cons P [] [] empty (All-nil P)))))

late_is_allowed : IsAllowedLate 1 1 turns late
late_is_allowed = record {
  one_more_than_requests = refl;
  empty_at_first = refl;
  only_lately_asked_enter = enters;
  within_capacity = each (λ held. total_size held ≤ 1) (omega arith) (omega arith) (omega arith);
  without_repeats = each (AllPairs (λ y z. y ≢ z)) none (alone b) (alone a);
}
  where
    enters : (t : ℕ) → t < 4 → (x : Object) → Contains (before_request late (t + 1)) x
        → Contains (before_request late t) x ⊎ IsAskedLately 1 turns t x
    enters zero within x m = absurd (nothing x m)
    enters (suc zero) within x m = inr (record { asked = 0; by_then = omega arith; lately = omega arith; same = only b x m })
    enters (suc (suc zero)) within x m = inr (record { asked = 1; by_then = omega arith; lately = omega arith; same = only a x m })
    enters (suc (suc (suc zero))) within x m = absurd (nothing x m)
    enters (suc (suc (suc (suc t)))) within x m = absurd (omega arith)

-- without a delay it isn't allowed that B enters at the request of A
late_needs_the_delay : IsAllowedLate 0 1 turns late → ⊥
late_needs_the_delay allowed =
    ⊎_elim (λ (held : Contains [] b). nothing b held) (λ (lately : IsAskedLately 0 turns 1 b). at lately)
    (allowed.only_lately_asked_enter 1 (omega arith) b (0, omega arith, refl))
  where
    differ : (x y : Object) → Some x ≡ Some y → x.id ≡ 1 → y.id ≡ 2 → ⊥
    differ x y same first second = let e : x ≡ y = cc in omega (arith, ap (λ (z : Object). z.id) e)

    at : IsAskedLately 0 turns 1 b → ⊥
    at lately =
        let early : lately.asked ≤ 1 = lately.by_then in
        let late : 1 ≤ lately.asked + 0 = lately.lately in
        let here : lately.asked ≡ 1 = omega arith in
        let same : Some a ≡ Some b = ap (slice_get turns) (sym here) ∙ lately.same in
        differ a b same refl refl

-- so contents with a delay pass the bound without one
delay_counts : ((terms : Terms) (delay edge : ℕ) (trace : List Object) (contents : List (List Object))
    → IsAllowedLate delay terms.capacity trace contents
    → edge * score terms trace contents ≤ edge_bound terms 0 edge trace) → ⊥
delay_counts law =
    let passed : 3 * score one turns late ≤ edge_bound one 0 3 turns = law one 1 3 turns late late_is_allowed in omega arith

-- A(2) B(3) A(2) B(3) A(2) at a capacity of both
abbrev pair : List Object
pair = object 1 2 ∷ object 2 3 ∷ object 1 2 ∷ object 2 3 ∷ object 1 2 ∷ []

-- the areas are 4, 6 and 4, and that of the cache is 20
hits_at_five : edge_bound (terms_from Hits 5 0 []) 0 5 pair ≡ 22
hits_at_five = refl

-- the lengths are 2, and the sizes 2, 3 and 2
bytes_at_three : edge_bound (terms_from Bytes 5 0 []) 0 3 pair ≡ 27
bytes_at_three = refl

-- past the warm-up two intervals are left, and one if request 4 only fills
bytes_past_the_warmup : edge_bound (terms_from Bytes 5 3 []) 0 3 pair ≡ 25
bytes_past_the_warmup = refl

bytes_with_a_write : edge_bound (terms_from Bytes 5 3 (false ∷ false ∷ false ∷ false ∷ true ∷ [])) 0 3 pair ≡ 23
bytes_with_a_write = refl

-- an object that doesn't fit leaves none, and a delay beyond all lengths leaves no area
hits_of_the_smaller : edge_bound (terms_from Hits 2 0 []) 0 5 pair ≡ 10
hits_of_the_smaller = refl

hits_with_a_long_delay : edge_bound (terms_from Hits 5 0 []) 3 5 pair ≡ 35
hits_with_a_long_delay = refl

-- the price 1 for each step but the last
as_prices : bound_of (eligible_intervals (terms_from Bytes 5 0 []) pair) 1 5 3 (1 ∷ 1 ∷ 1 ∷ 1 ∷ 0 ∷ []) ≡ 27
as_prices = refl

-- two areas are below the edge 5
below_five : below_edge 0 5 (eligible_intervals (terms_from Hits 5 0 []) pair) ≡ interval 0 2 2 1 ∷ interval 2 4 2 1 ∷ []
below_five = refl

gains_below_five : gains_of (below_edge 0 5 (eligible_intervals (terms_from Hits 5 0 []) pair)) ≡ 2
gains_below_five = refl

areas_below_five : areas_of 0 (below_edge 0 5 (eligible_intervals (terms_from Hits 5 0 []) pair)) ≡ 8
areas_below_five = refl

-- no price
all_hits : gains_of (eligible_intervals (terms_from Hits 5 0 []) pair) ≡ 3
all_hits = refl

-- no request, and one
no_area : edge_bound (terms_from Hits 5 0 []) 0 3 [] ≡ 0
no_area = refl

no_step : edge_bound (terms_from Hits 5 0 []) 0 3 (a ∷ []) ≡ 0
no_step = refl

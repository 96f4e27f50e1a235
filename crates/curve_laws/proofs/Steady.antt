-- The hits of a curve at more slots.
use Rattle.std.proofs.Common.{◌≡◌, ℕ, zero, suc, ◌+◌, ◌-◌, ◌<◌, ◌≤◌, ◌∙◌, sym, refl, ap, ⊎_elim, Bool, true, false, cond, leb, List, ◌∷◌, length, min, arith, Option, Some, None}
use Rattle.std.specs.List.{list_any}
use Rattle.std.proofs.lemmas.Bool.{cases_lt, le-leb, leb-true, lt-leb}
use Rattle.std.proofs.lemmas.List.Sums.{sum_by-le-sum_by}
use Rattle.cache_model.specs.declared.objects.Object.{Object}
use Rattle.cache_model.specs.Claim.{only_fills, same_object, request_at}
use Rattle.cache_model.specs.Objects.{objects_of, numbers_of}
use Rattle.cache_model.proofs.Sums.{sum_by-nothing}
use Rattle.stack_curve.specs.Distances.{counted_distance, curve_hits, different, earlier, is_within, since, stack_distance}
use Rattle.stack_curve.proofs.CountLemmas.{curve-clipped}
use Rattle.stack_curve.proofs.CurveLemmas.{some-object}
use Rattle.curve_laws.specs.Laws.{AddsNone, CurveIsSteady, HitsStayBetweenLines}

-- a distance counts the request itself, so it is within no 0 slots
beyond-none : (d : ℕ) (asked : Bool) → 0 < d → is_within 0 (cond asked (Some d) None) ≡ false
beyond-none d true some = lt-leb d 0 some
beyond-none d false some = refl

-- so no distance is
none-within : (trace : List Object) (fills : List Bool) (t : ℕ) → is_within 0 (counted_distance trace fills t) ≡ false
none-within trace fills t = at (only_fills fills t)
  where
    x : Object
    x = request_at trace t

    at : (b : Bool) → is_within 0 (cond b None (stack_distance trace t)) ≡ false
    at true = refl
    at false = beyond-none (different (x ∷ since x (earlier trace t))) (list_any (same_object x) (earlier trace t)) (some-object (x ∷ since x (earlier trace t)) (omega arith))

-- what is within some slots is within more
within-more : (slots more : ℕ) (distance : Option ℕ) → slots ≤ more → cond (is_within slots distance) 1 0 ≤ cond (is_within more distance) 1 0
within-more slots more None few = omega arith
within-more slots more (Some d) few = at (leb d slots) refl
  where
    at : (b : Bool) → leb d slots ≡ b → cond b 1 0 ≤ cond (leb d more) 1 0
    at true low = let near : d ≤ slots = leb-true d slots low in omega (arith, ap {B = ℕ} (λ b. cond b 1 0) (le-leb d more (omega arith)))
    at false high = omega arith

-- more slots have no fewer hits
never_fall : (trace : List Object) (fills : List Bool) (slots more : ℕ) → slots ≤ more → curve_hits trace fills slots ≤ curve_hits trace fills more
never_fall trace fills slots more few =
    sum_by-le-sum_by (λ t. cond (is_within slots (counted_distance trace fills t)) 1 0) (λ t. cond (is_within more (counted_distance trace fills t)) 1 0) (numbers_of trace)
    (λ t. within-more slots more (counted_distance trace fills t) few)

-- slots past the number of objects add none
stay : (trace : List Object) (fills : List Bool) (slots : ℕ) → length (objects_of trace) ≤ slots → curve_hits trace fills slots ≡ curve_hits trace fills (length (objects_of trace))
stay trace fills slots all =
    let e : min slots (length (objects_of trace)) ≡ length (objects_of trace) = omega arith in
    sym (curve-clipped trace fills slots) ∙ ap (curve_hits trace fills) e

pub curve_is_steady : CurveIsSteady
curve_is_steady trace fills = record {
  none_at_first = sum_by-nothing (λ t. cond (is_within 0 (counted_distance trace fills t)) 1 0) (numbers_of trace) (λ t. ap {B = ℕ} (λ b. cond b 1 0) (none-within trace fills t));
  never_fall = never_fall trace fills;
  stay = stay trace fills;
}

-- one slot more, where no hits are added or there are slots for all objects
same-hits : (trace : List Object) (fills : List Bool) (n : ℕ) → (n + 1 ≤ length (objects_of trace) → AddsNone trace fills (n + 1)) → curve_hits trace fills (n + 1) ≡ curve_hits trace fills n
same-hits trace fills n none =
    let before : n + 1 - 1 ≡ n = omega arith in
    ⊎_elim
    (λ (all : length (objects_of trace) < n + 1). stay trace fills (n + 1) (omega arith) ∙ sym (stay trace fills n (omega arith)))
    (λ (some : n + 1 ≤ length (objects_of trace)). omega (arith, none some, ap (curve_hits trace fills) before, never_fall trace fills n (n + 1) (omega arith)))
    (cases_lt (length (objects_of trace)) (n + 1))

-- this many slots more
same-on : (trace : List Object) (fills : List Bool) (slots n : ℕ)
    → ((m : ℕ) → slots < m → m ≤ slots + n → m ≤ length (objects_of trace) → AddsNone trace fills m)
    → curve_hits trace fills (slots + n) ≡ curve_hits trace fills slots
same-on trace fills slots zero none = let e : slots + 0 ≡ slots = omega arith in ap (curve_hits trace fills) e
same-on trace fills slots (suc n) none =
    let e : slots + suc n ≡ slots + n + 1 = omega arith in
    ap (curve_hits trace fills) e
    ∙ same-hits trace fills (slots + n) (none (slots + n + 1) (omega arith) (omega arith))
    ∙ same-on trace fills slots n (λ m low high. none m low (omega arith))

pub hits_stay_between_lines : HitsStayBetweenLines
hits_stay_between_lines trace fills slots more few none =
    let e : slots + (more - slots) ≡ more = omega arith in
    ap (curve_hits trace fills) (sym e) ∙ same-on trace fills slots (more - slots) (λ n low high. none n low (omega arith))

-- Units and denominators: the unit is one number, and the least denominator is a least common multiple.
use Rattle.std.proofs.Common.{◌≡◌, ◌≢◌, ℕ, zero, suc, ◌*◌, ◌/◌, ◌%◌, ◌<◌, ◌↔◌, sym, refl, subst, ⊎_elim, arith, List, [], ◌∷◌, All}
use Rattle.std.specs.List.{AllZip}
use Rattle.std.specs.Int.{IsGcd}
use Prim.Native.Nat.{◌∣◌}
use Rattle.std.proofs.lemmas.Bool.{cases_eq}
use Rattle.std.proofs.lemmas.List.Elements.{All-nil, All-cons, All-head, All-tail}
use Rattle.std.proofs.lemmas.Nat.Gcd.{dvd-zero, dvd_trans, dvd_antisymm, IsGcd-from_zero, IsGcd-from_mod}
use Rattle.std.proofs.Math.Nat.{zero-mul, div-mul_cancel, dvd-mul_right, dvd-mul_left, mul-dvd-mul_left, mul-dvd-mul_right, dvd_of_mul-dvd-mul_left, dvd_of_mul-dvd-mul_right, pos_of_dvd_of_pos, mul-div_cancel'}
use Rattle.cache_model.specs.declared.intervals.Interval.{Interval}
use Rattle.cache_model.specs.Units.{weight, HasWholeCosts, IsReducedWeight}
use Rattle.cache_model.specs.Laws.{UnitIsOneNumber, LeastWholeIsLeastCommonMultiple}

-- two units of the same intervals are equal
pub unit_is_one_number : UnitIsOneNumber
unit_is_one_number [] u v hu hv = omega (arith, hu.one_if_none refl, hv.one_if_none refl)
unit_is_one_number (i ∷ rest) u v hu hv =
    let some : i ∷ rest ≢ [] = λ e. cc in
    dvd_antisymm (hv.greatest some u hu.divides) (hu.greatest some v hv.divides)

-- any two numbers have a greatest common divisor, found within n steps where the second is below n
gcd_of : (n a b : ℕ) → b < n → (g : ℕ) × IsGcd a b g
gcd_of zero a b low = absurd (omega arith)
gcd_of (suc n) a b low =
    ⊎_elim
    (λ (e : b ≡ 0). (a, IsGcd-from_zero a b e))
    (λ (ne : b ≢ 0).
    let below : a % b < b = omega arith in
    let found = gcd_of n b (a % b) (omega arith) in
    (found.0, IsGcd-from_mod a b found.0 found.1))
    (cases_eq b 0)

-- what divides k times both numbers divides k times their greatest common divisor
dvd-mul_gcd : (k a b g e : ℕ) → IsGcd a b g → e ∣ k * a → e ∣ k * b → e ∣ k * g
dvd-mul_gcd zero a b g e h p q = subst (λ n. e ∣ n) (sym (zero-mul g)) (dvd-zero e)
dvd-mul_gcd (suc k) a b g e h p q =
    let some : 0 < suc k = omega arith in
    let found : (m : ℕ) × IsGcd (suc k * a) (suc k * b) m = gcd_of (suc (suc k * b)) (suc k * a) (suc k * b) (omega arith) in
    let part : ℕ = found.0 / suc k in
    let whole : suc k * part ≡ found.0 = mul-div_cancel' (suc k) (found.1.2 (suc k) (dvd-mul_right (suc k) a) (dvd-mul_right (suc k) b)) in
    let divides_a : part ∣ a = dvd_of_mul-dvd-mul_left part some (subst (λ n. n ∣ suc k * a) (sym whole) found.1.0) in
    let divides_b : part ∣ b = dvd_of_mul-dvd-mul_left part some (subst (λ n. n ∣ suc k * b) (sym whole) found.1.1) in
    let divides : found.0 ∣ suc k * g = subst (λ n. n ∣ suc k * g) whole (mul-dvd-mul_left part (suc k) (h.2 part divides_a divides_b)) in
    dvd_trans e (found.1.2 e p q) divides

-- a weight divides d times the gain exactly if the reduced weight divides d
pub weight-dvd_iff : (w x g d : ℕ) → 0 < w → IsGcd w x g → (w ∣ d * x) ↔ (w / g ∣ d)
weight-dvd_iff w x g d positive h =
    let some : 0 < g = pos_of_dvd_of_pos h.0 positive in
    let whole : w / g * g ≡ w = div-mul_cancel g h.0 in (
      λ divides. dvd_of_mul-dvd-mul_right (w / g) some (subst (λ n. n ∣ d * g) (sym whole) (dvd-mul_gcd d w x g w h (dvd-mul_left w d) divides)),
      λ divides. dvd_trans w (subst (λ n. n ∣ d * g) whole (mul-dvd-mul_right (w / g) divides g)) (mul-dvd-mul_left g d h.1),
    )

-- no cost is rounded over d exactly if each reduced weight divides d
pub whole_costs_iff : (intervals : List Interval) (unit d : ℕ) (reduced : List ℕ) → All (λ i. 0 < weight unit i) intervals → AllZip (IsReducedWeight unit) intervals reduced → HasWholeCosts intervals unit d ↔ All (λ n. n ∣ d) reduced
whole_costs_iff [] unit d [] positive each =
    (λ h. All-nil (λ (n : ℕ). n ∣ d), λ h. All-nil (λ (i : Interval). weight unit i ∣ d * i.gain))
whole_costs_iff [] unit d (n ∷ ns) positive each = absurd each
whole_costs_iff (i ∷ rest) unit d [] positive each = absurd each
whole_costs_iff (i ∷ rest) unit d (n ∷ ns) positive each =
    let Whole : Interval → Type 0 = λ j. weight unit j ∣ d * j.gain in
    let Divides : ℕ → Type 0 = λ m. m ∣ d in
    let Positive : Interval → Type 0 = λ j. 0 < weight unit j in
    let first : (weight unit i ∣ d * i.gain) ↔ (weight unit i / each.0.0 ∣ d) = weight-dvd_iff (weight unit i) i.gain each.0.0 d (All-head Positive i rest positive) each.0.1 in
    let later : HasWholeCosts rest unit d ↔ All (λ m. m ∣ d) ns = whole_costs_iff rest unit d ns (All-tail Positive i rest positive) each.1 in
    let same : n ≡ weight unit i / each.0.0 = each.0.2 in (
      λ h. All-cons Divides n ns (subst Divides (sym same) (first.0 (All-head Whole i rest h))) (later.0 (All-tail Whole i rest h)),
      λ h. All-cons Whole i rest (first.1 (subst Divides same (All-head Divides n ns h))) (later.1 (All-tail Divides n ns h)),
    )

-- the least denominator that rounds no cost is the least common multiple of the reduced weights
pub least_whole_is_least_common_multiple : LeastWholeIsLeastCommonMultiple
least_whole_is_least_common_multiple intervals unit denominator reduced positive each =
    let whole = λ (d : ℕ). whole_costs_iff intervals unit d reduced positive each in (
      λ h. record { positive = h.positive; of_each = (whole denominator).0 h.whole; least = λ m multiple. h.multiples m ((whole m).1 multiple) },
      λ h. record { positive = h.positive; whole = (whole denominator).1 h.of_each; multiples = λ d costs. h.least d ((whole d).0 costs) },
    )

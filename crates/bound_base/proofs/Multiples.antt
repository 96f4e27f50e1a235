-- Common divisors and multiples: that they exist, what they are, and how the multiple of a list grows.
use Rattle.std.proofs.Common.{◌≡◌, ◌≢◌, ℕ, zero, suc, ◌*◌, ◌/◌, ◌%◌, ◌<◌, ◌≤◌, sym, subst, ◌∙◌, ap, ⊎_elim, arith, List, [], ◌∷◌, ◌++◌, All}
use Rattle.std.specs.Int.{IsGcd}
use Prim.Native.Nat.{◌∣◌}
use Rattle.std.proofs.lemmas.Bool.{cases_eq}
use Rattle.std.proofs.lemmas.List.Elements.{All-nil, All-push, All-cons, All-head, All-tail, All-weaker}
use Rattle.std.proofs.lemmas.Nat.Gcd.{dvd-zero, dvd_trans, dvd_antisymm, le_of_dvd, IsGcd-from_zero, IsGcd-from_mod}
use Rattle.std.proofs.Math.Nat.{zero-mul, mul_comm, mul_assoc, div-mul_cancel, mul-div_cancel', one-dvd, dvd-mul_right, dvd-mul_left, mul-dvd-mul_left, mul-dvd-mul_right, dvd_of_mul-dvd-mul_left, pos_of_dvd_of_pos}
use Rattle.bound_base.specs.Multiples.{IsLcm}

-- found within n steps where the second number is below n
gcd_within : (n a b : ℕ) → b < n → (g : ℕ) × IsGcd a b g
gcd_within zero a b low = absurd (omega arith)
gcd_within (suc n) a b low =
    ⊎_elim
    (λ (e : b ≡ 0). (a, IsGcd-from_zero a b e))
    (λ (ne : b ≢ 0).
    let below : a % b < b = omega arith in
    let found = gcd_within n b (a % b) (omega arith) in
    (found.0, IsGcd-from_mod a b found.0 found.1))
    (cases_eq b 0)

-- any two numbers have a greatest common divisor
pub gcd_of : (a b : ℕ) → (g : ℕ) × IsGcd a b g
gcd_of a b = gcd_within (suc b) a b (omega arith)

-- the greatest common divisor of a number above 0 is above 0
pub IsGcd_positive : (a b g : ℕ) → 0 < a → IsGcd a b g → 0 < g
IsGcd_positive a b g positive h = pos_of_dvd_of_pos h.0 positive

-- what divides k times both numbers divides k times their greatest common divisor
pub dvd-mul_gcd : (k a b g e : ℕ) → IsGcd a b g → e ∣ k * a → e ∣ k * b → e ∣ k * g
dvd-mul_gcd zero a b g e h p q = subst (λ n. e ∣ n) (sym (zero-mul g)) (dvd-zero e)
dvd-mul_gcd (suc k) a b g e h p q =
    let some : 0 < suc k = omega arith in
    let found : (m : ℕ) × IsGcd (suc k * a) (suc k * b) m = gcd_of (suc k * a) (suc k * b) in
    let part : ℕ = found.0 / suc k in
    let whole : suc k * part ≡ found.0 = mul-div_cancel' (suc k) (found.1.2 (suc k) (dvd-mul_right (suc k) a) (dvd-mul_right (suc k) b)) in
    let divides_a : part ∣ a = dvd_of_mul-dvd-mul_left part some (subst (λ n. n ∣ suc k * a) (sym whole) found.1.0) in
    let divides_b : part ∣ b = dvd_of_mul-dvd-mul_left part some (subst (λ n. n ∣ suc k * b) (sym whole) found.1.1) in
    let divides : found.0 ∣ suc k * g = subst (λ n. n ∣ suc k * g) whole (mul-dvd-mul_left part (suc k) (h.2 part divides_a divides_b)) in
    dvd_trans e (found.1.2 e p q) divides

-- the least common multiple is the first number times the second over their greatest common divisor
pub IsLcm-from_gcd : (a b g : ℕ) → 0 < a → IsGcd a b g → IsLcm a b (a * (b / g))
IsLcm-from_gcd a b g positive h =
    let some : 0 < g = IsGcd_positive a b g positive h in
    let first : a / g * g ≡ a = div-mul_cancel g h.0 in
    let second : g * (b / g) ≡ b = mul-div_cancel' g h.1 in
    let turned : a / g * b ≡ a * (b / g) = ap (λ n. a / g * n) (sym second) ∙ sym (mul_assoc (a / g) g (b / g)) ∙ ap (λ n. n * (b / g)) first in
    let product : g * (a * (b / g)) ≡ a * b = sym (mul_assoc g a (b / g)) ∙ ap (λ n. n * (b / g)) (mul_comm g a) ∙ mul_assoc a g (b / g) ∙ ap (λ n. a * n) second in
    record {
      of_first = dvd-mul_right a (b / g);
      of_second = subst (λ n. b ∣ n) turned (dvd-mul_left b (a / g));
      least = λ m p q.
          let by_first : a * b ∣ m * a = subst (λ n. a * b ∣ n) (mul_comm a m) (mul-dvd-mul_left b a q) in
          let by_second : a * b ∣ m * b = mul-dvd-mul_right a p b in
          let both : a * b ∣ m * g = dvd-mul_gcd m a b g (a * b) h by_first by_second in
          dvd_of_mul-dvd-mul_left (a * (b / g)) some (subst (λ n. n ∣ g * m) (sym product) (subst (λ n. a * b ∣ n) (mul_comm m g) both));
    }

-- any two numbers, of which the first is above 0, have a least common multiple
pub lcm_of : (a b : ℕ) → 0 < a → (m : ℕ) × IsLcm a b m
lcm_of a b positive =
    let found = gcd_of a b in
    (a * (b / found.0), IsLcm-from_gcd a b found.0 positive found.1)

-- two numbers have one least common multiple
pub same_from_IsLcm : (a b m n : ℕ) → IsLcm a b m → IsLcm a b n → m ≡ n
same_from_IsLcm a b m n h k = dvd_antisymm (h.least n k.of_first k.of_second) (k.least m h.of_first h.of_second)

-- the least common multiple of numbers above 0 is above 0
pub IsLcm_positive : (a b m : ℕ) → 0 < a → 0 < b → IsLcm a b m → 0 < m
IsLcm_positive a b m first second h =
    let some : 0 < a * b = grind arith in
    pos_of_dvd_of_pos (h.least (a * b) (dvd-mul_right a b) (dvd-mul_left b a)) some

-- what holds of each of a joined list holds of each of its beginning
pub All-prefix : {X : Type 0} (P : X → Type 0) (xs ys : List X) → All P (xs ++ ys) → All P xs
All-prefix P [] ys each = All-nil P
All-prefix P (x ∷ xs) ys each = All-cons P x xs (All-head P x (xs ++ ys) each) (All-prefix P xs ys (All-tail P x (xs ++ ys) each))

-- and of its last
pub All-last : {X : Type 0} (P : X → Type 0) (xs : List X) (x : X) → All P (xs ++ x ∷ []) → P x
All-last P [] x each = All-head P x [] each
All-last P (y ∷ xs) x each = All-last P xs x (All-tail P y (xs ++ x ∷ []) each)

-- the number is a multiple of each, and divides every other such multiple
pub record IsLcmOfAll (numbers : List ℕ) (multiple : ℕ) : Type 0 where
  pub positive : 0 < multiple
  pub of_each : All (λ n. n ∣ multiple) numbers
  pub least : (m : ℕ) → All (λ n. n ∣ m) numbers → multiple ∣ m

-- of no numbers it is 1
pub IsLcmOfAll-nil : IsLcmOfAll [] 1
IsLcmOfAll-nil = record {
  positive = omega arith;
  of_each = All-nil (λ (n : ℕ). n ∣ 1);
  least = λ m _. one-dvd m;
}

-- with one more number it is that of the one before and the number
pub IsLcmOfAll-push : (xs : List ℕ) (x m n : ℕ) → 0 < x → IsLcmOfAll xs m → IsLcm m x n → IsLcmOfAll (xs ++ x ∷ []) n
IsLcmOfAll-push xs x m n positive before h = record {
  positive = IsLcm_positive m x n before.positive positive h;
  of_each =
      let Divides : ℕ → Type 0 = λ k. k ∣ n in
      All-push Divides xs x (All-weaker (λ k. k ∣ m) Divides (λ k divides. dvd_trans k divides h.of_first) xs before.of_each) h.of_second;
  least = λ k each.
      let Divides : ℕ → Type 0 = λ i. i ∣ k in
      h.least k (before.least k (All-prefix Divides xs (x ∷ []) each)) (All-last Divides xs x each);
}

-- the same with one more number in prefix
IsLcmOfAll-cons : (xs : List ℕ) (x m n : ℕ) → 0 < x → IsLcmOfAll xs m → IsLcm x m n → IsLcmOfAll (x ∷ xs) n
IsLcmOfAll-cons xs x m n positive later h = record {
  positive = IsLcm_positive x m n positive later.positive h;
  of_each =
      let Divides : ℕ → Type 0 = λ k. k ∣ n in
      All-cons Divides x xs h.of_first (All-weaker (λ k. k ∣ m) Divides (λ k divides. dvd_trans k divides h.of_second) xs later.of_each);
  least = λ k each.
      let Divides : ℕ → Type 0 = λ i. i ∣ k in
      h.least k (All-head Divides x xs each) (later.least k (All-tail Divides x xs each));
}

-- any numbers above 0 have one
pub lcm_of_all : (xs : List ℕ) → All (λ n. 0 < n) xs → (m : ℕ) × IsLcmOfAll xs m
lcm_of_all [] positive = (1, IsLcmOfAll-nil)
lcm_of_all (x ∷ xs) positive =
    let Positive : ℕ → Type 0 = λ n. 0 < n in
    let later : (m : ℕ) × IsLcmOfAll xs m = lcm_of_all xs (All-tail Positive x xs positive) in
    let first : 0 < x = All-head Positive x xs positive in
    let found : (m : ℕ) × IsLcm x later.0 m = lcm_of x later.0 first in
    (found.0, IsLcmOfAll-cons xs x later.0 found.0 first later.1 found.1)

-- and one only
pub same_from_IsLcmOfAll : (xs : List ℕ) (m n : ℕ) → IsLcmOfAll xs m → IsLcmOfAll xs n → m ≡ n
same_from_IsLcmOfAll xs m n h k = dvd_antisymm (h.least n k.of_each) (k.least m h.of_each)

-- more numbers have no smaller one
pub IsLcmOfAll-append_le : (xs ys : List ℕ) (m n : ℕ) → IsLcmOfAll xs m → IsLcmOfAll (xs ++ ys) n → m ≤ n
IsLcmOfAll-append_le xs ys m n h k = le_of_dvd k.positive (h.least n (All-prefix (λ i. i ∣ n) xs ys k.of_each))

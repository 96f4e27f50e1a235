-- Short numbers grow with their places, and the class of a number is the place of the greatest that is not above it.
use Rattle.std.proofs.Common.{◌≡◌, ℕ, zero, suc, ◌+◌, ◌-◌, ◌*◌, ◌/◌, ◌%◌, ◌^◌, ◌<◌, ◌≤◌, ◌⊎◌, inl, inr, ltb, cond, Bool, sym, ap, ◌∙◌, subst, arith}
use Rattle.std.proofs.lemmas.Bool.{cases_lt, lt-ltb, le-ltb}
use Rattle.std.proofs.Math.Nat.{pow-suc, mul-le-mul_left}
use Rattle.area_sums.specs.Short.{IsShort, IsShortBelow, IsShortAbove, short_at, class_within, class_of}

-- the first are all numbers
pub low : (class : ℕ) → class < 2048 → short_at class ≡ class
unfolding short_at
low class h = ap (λ (b : Bool). cond b class ((2048 + class % 2048) * 2 ^ (class / 2048 - 1))) (lt-ltb class 2048 h)

-- the others have 12 significant digits
pub high : (class : ℕ) → 2048 ≤ class → short_at class ≡ (2048 + class % 2048) * 2 ^ (class / 2048 - 1)
unfolding short_at
high class h = ap (λ (b : Bool). cond b class ((2048 + class % 2048) * 2 ^ (class / 2048 - 1))) (le-ltb class 2048 h)

-- at quotient and remainder
pub at_parts : (k r : ℕ) → r < 2048 → short_at (2048 * (k + 1) + r) ≡ (2048 + r) * 2 ^ k
at_parts k r h =
    let rest : (2048 * (k + 1) + r) % 2048 ≡ r = omega arith in
    let quotient : (2048 * (k + 1) + r) / 2048 - 1 ≡ k = omega arith in
    high (2048 * (k + 1) + r) (omega arith) ∙ ap (λ (m : ℕ). (2048 + m) * 2 ^ ((2048 * (k + 1) + r) / 2048 - 1)) rest ∙ ap (λ (m : ℕ). (2048 + r) * 2 ^ m) quotient

-- a power of 2 is not 0
pub pow_pos : (k : ℕ) → 0 < 2 ^ k
pow_pos zero = omega arith
pow_pos (suc k) = omega (arith, pow-suc 2 k, pow_pos k)

-- each short number is below the next
pub next : (class : ℕ) → short_at class < short_at (class + 1)
next class = at (cases_lt class 2047)
  where
    at : (class < 2047) ⊎ (2047 ≤ class) → short_at class < short_at (class + 1)
    at (inl small) = omega (arith, low class (omega arith), low (class + 1) (omega arith))
    at (inr large) = by (cases_lt class 2048)
      where
        by : (class < 2048) ⊎ (2048 ≤ class) → short_at class < short_at (class + 1)
        by (inl last) =
            let e : class ≡ 2047 = omega arith in
            subst (λ c. short_at c < short_at (c + 1)) (sym e) (omega (arith, low 2047 (omega arith), at_parts 0 0 (omega arith)))
        by (inr more) =
            let k : ℕ = class / 2048 - 1 in
            let r : ℕ = class % 2048 in
            let e : class ≡ 2048 * (k + 1) + r = omega arith in
            subst (λ c. short_at c < short_at (c + 1)) (sym e) (step k r (omega arith))
          where
            step : (k r : ℕ) → r < 2048 → short_at (2048 * (k + 1) + r) < short_at (2048 * (k + 1) + r + 1)
            step k r h = from (cases_lt r 2047)
              where
                from : (r < 2047) ⊎ (2047 ≤ r) → short_at (2048 * (k + 1) + r) < short_at (2048 * (k + 1) + r + 1)
                from (inl inner) =
                    let same : 2048 * (k + 1) + r + 1 ≡ 2048 * (k + 1) + (r + 1) = omega arith in
                    omega (arith, at_parts k r h, at_parts k (r + 1) (omega arith), ap short_at same, pow_pos k)
                from (inr outer) =
                    let same : 2048 * (k + 1) + r + 1 ≡ 2048 * (suc k + 1) + 0 = omega arith in
                    let full : r ≡ 2047 = omega arith in
                    omega (arith, subst (λ m. short_at (2048 * (k + 1) + r) ≡ (2048 + m) * 2 ^ k) full (at_parts k r h), at_parts (suc k) 0 (omega arith), ap short_at same, pow-suc 2 k, pow_pos k)

-- so they grow
pub grows : (a b : ℕ) → a < b → short_at a < short_at b
grows a zero h = absurd (omega arith)
grows a (suc b) h = by (grows a b) (cases_lt a b)
  where
    one : short_at b < short_at (suc b)
    one = let e : suc b ≡ b + 1 = omega arith in omega (arith, next b, ap short_at e)

    by : (a < b → short_at a < short_at b) → (a < b) ⊎ (b ≤ a) → short_at a < short_at (suc b)
    by rest (inl less) = omega (arith, rest less, one)
    by rest (inr same) = let e : a ≡ b = omega arith in omega (arith, ap short_at e, one)

-- or stay
pub grows_le : (a b : ℕ) → a ≤ b → short_at a ≤ short_at b
grows_le a b h = by (cases_lt a b)
  where
    by : (a < b) ⊎ (b ≤ a) → short_at a ≤ short_at b
    by (inl less) = omega (arith, grows a b less)
    by (inr same) = let e : a ≡ b = omega arith in omega (arith, ap short_at e)

-- and their places grow with them
pub places_grow : (a b : ℕ) → short_at a < short_at b → a < b
places_grow a b h = by (cases_lt a b)
  where
    by : (a < b) ⊎ (b ≤ a) → a < b
    by (inl less) = less
    by (inr more) = absurd (omega (arith, grows_le b a more))

-- a class holds n: its short number is not above n, and the next one is
pub record HoldsNumber (class n : ℕ) : Type 0 where
  pub not_above : short_at class ≤ n
  pub next_above : n < short_at (class + 1)

-- only one class does
pub same_class : (a b n : ℕ) → HoldsNumber a n → HoldsNumber b n → a ≡ b
same_class a b n x y =
    omega (arith, places_grow a (b + 1) (omega arith), places_grow b (a + 1) (omega arith))

-- a short number doubles over 2048 places
doubles : (class : ℕ) → 2048 ≤ class → short_at (2048 + class) ≡ 2 * short_at class
doubles class h =
    let k : ℕ = class / 2048 - 1 in
    let r : ℕ = class % 2048 in
    let e : class ≡ 2048 * (k + 1) + r = omega arith in
    subst (λ c. short_at (2048 + c) ≡ 2 * short_at c) (sym e) (step k r (omega arith))
  where
    step : (k r : ℕ) → r < 2048 → short_at (2048 + (2048 * (k + 1) + r)) ≡ 2 * short_at (2048 * (k + 1) + r)
    step k r h =
        let same : 2048 + (2048 * (k + 1) + r) ≡ 2048 * (suc k + 1) + r = omega arith in
        ap short_at same ∙ at_parts (suc k) r h ∙ ap (λ (m : ℕ). (2048 + r) * m) (pow-suc 2 k) ∙ omega (arith, at_parts k r h)

-- below 4096 each number is its own class
pub small : (n : ℕ) → n < 4096 → HoldsNumber n n
small n h = record { not_above = below (cases_lt n 2048); next_above = above (cases_lt (n + 1) 2048) }
  where
    same : (m : ℕ) → 2048 ≤ m → m < 4096 → short_at m ≡ m
    same m a b = let r : ℕ = m - 2048 in let e : m ≡ 2048 * (0 + 1) + r = omega arith in
        ap short_at e ∙ at_parts 0 r (omega arith) ∙ omega arith

    below : (n < 2048) ⊎ (2048 ≤ n) → short_at n ≤ n
    below (inl a) = omega (arith, low n a)
    below (inr b) = omega (arith, same n b h)

    above : (n + 1 < 2048) ⊎ (2048 ≤ n + 1) → n < short_at (n + 1)
    above (inl a) = omega (arith, low (n + 1) a)
    above (inr b) = by (cases_lt n 4095)
      where
        by : (n < 4095) ⊎ (4095 ≤ n) → n < short_at (n + 1)
        by (inl c) = omega (arith, same (n + 1) b (omega arith))
        by (inr c) = let e : n + 1 ≡ 2048 * (1 + 1) + 0 = omega arith in omega (arith, ap short_at e, at_parts 1 0 (omega arith))

-- a class of twice the number that a class holds half of, from 4096 on
twice_holds : (half n : ℕ) → 4096 ≤ n → HoldsNumber half (n / 2) → HoldsNumber (2048 + half) n
twice_holds half n many h = record {
  not_above = omega (arith, doubles half big, h.not_above);
  next_above = let e : 2048 + half + 1 ≡ 2048 + (half + 1) = omega arith in
      omega (arith, ap short_at e, doubles (half + 1) (omega (arith, big)), h.next_above);
}
  where
    big : 2048 ≤ half
    big = let e : short_at 2048 ≡ 2048 = at_parts 0 0 (omega arith) in
        omega (arith, places_grow 2048 (half + 1) (omega (arith, h.next_above)))

-- so does the class that is found in enough steps
within_holds : (steps n : ℕ) → n ≤ steps → HoldsNumber (class_within steps n) n
unfolding class_within
within_holds zero n h = small n (omega arith)
within_holds (suc steps) n h = by (λ many. within_holds steps (n / 2) (omega arith)) (cases_lt n 4096)
  where
    by : (4096 ≤ n → HoldsNumber (class_within steps (n / 2)) (n / 2)) → (n < 4096) ⊎ (4096 ≤ n)
        → HoldsNumber (cond (ltb n 4096) n (2048 + class_within steps (n / 2))) n
    by half (inl few) = subst (λ (b : Bool). HoldsNumber (cond b n (2048 + class_within steps (n / 2))) n) (sym (lt-ltb n 4096 few)) (small n few)
    by half (inr many) =
        subst (λ (b : Bool). HoldsNumber (cond b n (2048 + class_within steps (n / 2))) n) (sym (le-ltb n 4096 many))
        (twice_holds (class_within steps (n / 2)) n many (half many))

-- the class of a number holds it
pub class_holds : (n : ℕ) → HoldsNumber (class_of n) n
unfolding class_of
class_holds n = within_holds n n (omega arith)

-- and is the one that does
pub class_is : (class n : ℕ) → HoldsNumber class n → class ≡ class_of n
class_is class n h = same_class class (class_of n) n h (class_holds n)

-- the class of a number is below that of a short one exactly if the number is
pub class_below : (n class : ℕ) → n < short_at class → class_of n < class
class_below n class h = places_grow (class_of n) class (omega (arith, (class_holds n).not_above))

-- and not below it if the number is not
pub class_not_below : (n class : ℕ) → short_at class ≤ n → class ≤ class_of n
class_not_below n class h = omega (arith, places_grow class (class_of n + 1) (omega (arith, (class_holds n).next_above)))

-- the place of a number that is written by 12 significant digits, of which the first is 1
digits_at : (k digits : ℕ) → 2048 ≤ digits → digits ≤ 4096 → short_at (2048 * k + digits) ≡ digits * 2 ^ k
digits_at k digits least most = by (cases_lt digits 4096)
  where
    by : (digits < 4096) ⊎ (4096 ≤ digits) → short_at (2048 * k + digits) ≡ digits * 2 ^ k
    by (inl inner) =
        let r : ℕ = digits - 2048 in
        let e : digits ≡ 2048 + r = omega arith in
        subst (λ m. short_at (2048 * k + m) ≡ m * 2 ^ k) (sym e)
        (let same : 2048 * k + (2048 + r) ≡ 2048 * (k + 1) + r = omega arith in ap short_at same ∙ at_parts k r (omega arith))
    by (inr outer) =
        let e : digits ≡ 4096 = omega arith in
        subst (λ m. short_at (2048 * k + m) ≡ m * 2 ^ k) (sym e)
        (let same : 2048 * k + 4096 ≡ 2048 * (suc k + 1) + 0 = omega arith in
        ap short_at same ∙ at_parts (suc k) 0 (omega arith) ∙ omega (arith, pow-suc 2 k))

-- of two products with one factor the lesser has the lesser other factor
pub factor_below : (p a b : ℕ) → a * p < b * p → a < b
factor_below p a b h = by (cases_lt a b)
  where
    by : (a < b) ⊎ (b ≤ a) → a < b
    by (inl less) = less
    by (inr more) = absurd (omega (arith, mul-le-mul_left p more))

-- what `class_of` computes from 12 significant digits
pub digits_hold : (n k : ℕ) → 2048 * 2 ^ k ≤ n → n < 4096 * 2 ^ k → 2048 * k + n / 2 ^ k ≡ class_of n
digits_hold n k above below = class_is (2048 * k + n / 2 ^ k) n (holds (n / 2 ^ k) parts_low parts_high)
  where
    parts_low : n / 2 ^ k * 2 ^ k ≤ n
    parts_low = omega (arith, pow_pos k)

    parts_high : n < (n / 2 ^ k + 1) * 2 ^ k
    parts_high = omega (arith, pow_pos k)

    holds : (m : ℕ) → m * 2 ^ k ≤ n → n < (m + 1) * 2 ^ k → HoldsNumber (2048 * k + m) n
    holds m a b =
        let least : 2048 ≤ m = omega (arith, factor_below (2 ^ k) 2048 (m + 1) (omega arith)) in
        let most : m < 4096 = factor_below (2 ^ k) m 4096 (omega arith) in
        record {
          not_above = omega (arith, digits_at k m least (omega arith));
          next_above = let e : 2048 * k + m + 1 ≡ 2048 * k + (m + 1) = omega arith in
              omega (arith, ap short_at e, digits_at k (m + 1) (omega arith) (omega arith));
        }

-- each place has a short number
pub at_is_short : (class : ℕ) → IsShort (short_at class)
at_is_short class = by (cases_lt class 2048)
  where
    by : (class < 2048) ⊎ (2048 ≤ class) → IsShort (short_at class)
    by (inl few) = record { digits = class; zeros = 0; few = omega arith; written = low class few ∙ omega arith }
    by (inr many) = record { digits = 2048 + class % 2048; zeros = class / 2048 - 1; few = omega arith; written = high class many }

-- and each short number a place
short_place : (k digits n : ℕ) → digits < 4096 → n ≡ digits * 2 ^ k → (class : ℕ) × (n ≡ short_at class)
short_place zero digits n few e = by (cases_lt digits 2048)
  where
    by : (digits < 2048) ⊎ (2048 ≤ digits) → (class : ℕ) × (n ≡ short_at class)
    by (inl less) = (digits, e ∙ omega (arith, low digits less))
    by (inr more) = (2048 * 0 + digits, e ∙ sym (digits_at 0 digits more (omega arith)))
short_place (suc k) digits n few e = by (λ less. short_place k (2 * digits) n (omega arith) (e ∙ ap (λ (m : ℕ). digits * m) (pow-suc 2 k) ∙ omega arith)) (cases_lt digits 2048)
  where
    by : (digits < 2048 → (class : ℕ) × (n ≡ short_at class)) → (digits < 2048) ⊎ (2048 ≤ digits) → (class : ℕ) × (n ≡ short_at class)
    by rest (inl less) = rest less
    by rest (inr more) = (2048 * suc k + digits, e ∙ sym (digits_at (suc k) digits more (omega arith)))

-- a short number not above n stands at the class of n or before it
below_class : (n other : ℕ) → IsShort other → other ≤ n → other ≤ short_at (class_of n)
below_class n other short h =
    let p = short_place short.zeros short.digits other (omega (arith, short.few)) short.written in
    omega (arith, p.1, grows_le p.0 (class_of n) (class_not_below n p.0 (omega (arith, p.1))))

-- and one above n after it
above_class : (n other : ℕ) → IsShort other → n < other → short_at (class_of n + 1) ≤ other
above_class n other short h =
    let p = short_place short.zeros short.digits other (omega (arith, short.few)) short.written in
    omega (arith, p.1, grows_le (class_of n + 1) p.0 (omega (arith, class_below n p.0 (omega (arith, p.1)))))

-- the greatest short number not above n, and the least above it
pub short_below : (n : ℕ) → IsShortBelow (short_at (class_of n)) n
short_below n = record { short = at_is_short (class_of n); not_above = (class_holds n).not_above; greatest = below_class n }

pub short_above : (n : ℕ) → IsShortAbove (short_at (class_of n + 1)) n
short_above n = record { short = at_is_short (class_of n + 1); above = (class_holds n).next_above; least = above_class n }

-- and there are no others
pub short_below_is : (e n : ℕ) → IsShortBelow e n → e ≡ short_at (class_of n)
short_below_is e n h =
    let a : e ≤ short_at (class_of n) = below_class n e h.short h.not_above in
    let b : short_at (class_of n) ≤ e = h.greatest (short_at (class_of n)) (at_is_short (class_of n)) (class_holds n).not_above in
    omega arith

pub short_above_is : (e n : ℕ) → IsShortAbove e n → e ≡ short_at (class_of n + 1)
short_above_is e n h =
    let a : short_at (class_of n + 1) ≤ e = above_class n e h.short h.above in
    let b : e ≤ short_at (class_of n + 1) = h.least (short_at (class_of n + 1)) (at_is_short (class_of n + 1)) (class_holds n).next_above in
    omega arith

-- the short numbers at the places of 2^80 and 2^32
pub top_is : short_at 143360 ≡ 2 ^ 80
top_is = at_parts 69 0 (omega arith)

pub length_top_is : short_at 45056 ≡ 2 ^ 32
length_top_is = at_parts 21 0 (omega arith)

-- the class of a number below 2^80
pub class_few : (n : ℕ) → n < 2 ^ 80 → class_of n < 143360
class_few n h = class_below n 143360 (omega (arith, top_is))

-- and of one below 2^32
pub length_class_few : (n : ℕ) → n < 2 ^ 32 → class_of n < 45056
length_class_few n h = class_below n 45056 (omega (arith, at_parts 21 0 (omega arith)))

-- only the first is 0
pub short_pos : (class : ℕ) → 0 < class → 0 < short_at class
short_pos class h = omega (arith, low 0 (omega arith), grows 0 class h)

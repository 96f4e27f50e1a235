-- The last of the first numbers that pass a test, and the last request of an object before others.
use Rattle.std.proofs.Common.{◌≡◌, ℕ, zero, suc, ◌+◌, ◌-◌, ◌<◌, ◌≤◌, ◌∙◌, refl, ap, Bool, true, false, not, ◌&&◌, ◌||◌, cond, List, [], ◌∷◌, length, take, slice_range, arith, Option, None, Some}
use Rattle.std.specs.List.{list_any, range_with_len}
use Rattle.std.specs.Option.{is_some, option_map_or}
use Rattle.std.proofs.lemmas.List.{take_more}
use Rattle.std.proofs.lemmas.List.Folds.{list_any-append}
use Rattle.cache_model.specs.declared.objects.Object.{Object}
use Rattle.cache_model.specs.Claim.{no_object, request_at}
use Rattle.cache_model.proofs.Eligible.{list_any-range_more, range-suc}

or_true : (b : Bool) → (b || true) ≡ true
or_true true = refl
or_true false = refl

or_false : (b : Bool) → (b || false) ≡ b
or_false true = refl
or_false false = refl

-- the last number below this that passes
abbrev pub last : (ℕ → Bool) → ℕ → Option ℕ
last p zero = None
last p (suc n) = cond (p n) (Some n) (last p n)

-- whether one of the numbers below this passes
abbrev any_below : (ℕ → Bool) → ℕ → Bool
any_below p zero = false
any_below p (suc n) = any_below p n || p n

any_below-range : (p : ℕ → Bool) (n : ℕ) → list_any p (range_with_len 0 n) ≡ any_below p n
any_below-range p zero = refl
any_below-range p (suc n) =
    ap (list_any p) (range-suc 0 n n (omega arith)) ∙ (list_any-append p (range_with_len 0 n) (n ∷ []) ∙ (ap (λ b. b || (p n || false)) (any_below-range p n) ∙ ap (λ b. any_below p n || b) (or_false (p n))))

-- tests that agree below it
any_below-agree : (p q : ℕ → Bool) (n : ℕ) → ((k : ℕ) → k < n → p k ≡ q k) → any_below p n ≡ any_below q n
any_below-agree p q zero agree = refl
any_below-agree p q (suc n) agree = ap (λ b. b || p n) (any_below-agree p q n (λ k low. agree k (omega (arith, low)))) ∙ ap (λ b. any_below q n || b) (agree n (omega arith))

any_below-none : (n : ℕ) → any_below (λ _. false) n ≡ false
any_below-none zero = refl
any_below-none (suc n) = ap (λ b. b || false) (any_below-none n)

-- one passes if there is a last one
any_below-last : (p : ℕ → Bool) (n : ℕ) → any_below p n ≡ is_some (last p n)
any_below-last p zero = refl
any_below-last p (suc n) = by (p n) (any_below-last p n)
  where
    by : (b : Bool) → any_below p n ≡ is_some (last p n) → (any_below p n || b) ≡ is_some (cond b (Some n) (last p n))
    by true rest = or_true (any_below p n)
    by false rest = or_false (any_below p n) ∙ rest

-- a relation of objects that is one of equals
pub record IsOfEquals (rel : Object → Object → Bool) : Type 0 where
  pub symmetric : (x y : Object) → rel x y ≡ rel y x
  pub same : (x y z : Object) → rel x y ≡ true → rel x z ≡ rel y z

module _ (rel : Object → Object → Bool) (equals : IsOfEquals rel) (trace : List Object) (x : Object) where
  -- whether request a is of x
  abbrev pub is_of : ℕ → Bool
  is_of a = rel (request_at trace a) x

  -- whether no request after a and before n is like it
  abbrev is_last_like : ℕ → ℕ → Bool
  is_last_like n a = not (list_any (rel (request_at trace a)) (slice_range trace (a + 1) n))

  -- a test of the last request of x, where no later one is like it
  abbrev tested : (ℕ → Bool) → ℕ → ℕ → Bool
  tested P n a = is_of a && is_last_like n a && P a

  -- what stands after a and before the number after n
  between_more : (a n : ℕ) → n < length trace → a < n
      → list_any (rel (request_at trace a)) (slice_range trace (a + 1) (suc n)) ≡ (list_any (rel (request_at trace a)) (slice_range trace (a + 1) n) || rel (request_at trace a) (request_at trace n))
  between_more a n within low =
      let next : suc n ≡ n + 1 = omega arith in
      ap (λ k. list_any (rel (request_at trace a)) (slice_range trace (a + 1) k)) next ∙ list_any-range_more (rel (request_at trace a)) trace no_object (a + 1) n (omega (arith, low)) within

  later : (P : ℕ → Bool) (n a : ℕ) → n < length trace → a < n → is_of n ≡ false → tested P (suc n) a ≡ tested P n a
  later P n a within low other =
      let more : list_any (rel (request_at trace a)) (slice_range trace (a + 1) (suc n)) ≡ (list_any (rel (request_at trace a)) (slice_range trace (a + 1) n) || rel (request_at trace a) (request_at trace n)) =
      between_more a n within low in
      ap (λ b. is_of a && not b && P a) more ∙ by (is_of a) refl
    where
      by : (own : Bool) → is_of a ≡ own
          → (own && not (list_any (rel (request_at trace a)) (slice_range trace (a + 1) n) || rel (request_at trace a) (request_at trace n)) && P a)
          ≡ (own && is_last_like n a && P a)
      by false own = refl
      by true own =
          let apart : rel (request_at trace a) (request_at trace n) ≡ false = equals.same (request_at trace a) x (request_at trace n) own ∙ (equals.symmetric x (request_at trace n) ∙ other) in
          ap (λ b. not (list_any (rel (request_at trace a)) (slice_range trace (a + 1) n) || b) && P a) apart ∙ ap (λ b. not b && P a) (or_false (list_any (rel (request_at trace a)) (slice_range trace (a + 1) n)))

  overtaken : (P : ℕ → Bool) (n a : ℕ) → n < length trace → a < n → is_of n ≡ true → tested P (suc n) a ≡ false
  overtaken P n a within low like =
      let more : list_any (rel (request_at trace a)) (slice_range trace (a + 1) (suc n)) ≡ (list_any (rel (request_at trace a)) (slice_range trace (a + 1) n) || rel (request_at trace a) (request_at trace n)) =
      between_more a n within low in
      ap (λ b. is_of a && not b && P a) more ∙ by (is_of a) refl
    where
      by : (own : Bool) → is_of a ≡ own
          → (own && not (list_any (rel (request_at trace a)) (slice_range trace (a + 1) n) || rel (request_at trace a) (request_at trace n)) && P a) ≡ false
      by false own = refl
      by true own =
          let same : rel (request_at trace a) (request_at trace n) ≡ true = equals.same (request_at trace a) x (request_at trace n) own ∙ (equals.symmetric x (request_at trace n) ∙ like) in
          ap (λ b. not (list_any (rel (request_at trace a)) (slice_range trace (a + 1) n) || b) && P a) same ∙ ap (λ b. not b && P a) (or_true (list_any (rel (request_at trace a)) (slice_range trace (a + 1) n)))

  -- nothing stands after the last
  last_like : (n : ℕ) → is_last_like (suc n) n ≡ true
  last_like n = let none : suc n - (n + 1) ≡ 0 = omega arith in rw none refl

  below : (P : ℕ → Bool) (m : ℕ) → m ≤ length trace → any_below (tested P m) m ≡ option_map_or P (last is_of m) false
  below P zero low = refl
  below P (suc m) low = by (is_of m) refl (below P m (omega (arith, low)))
    where
      by : (like : Bool) → is_of m ≡ like → any_below (tested P m) m ≡ option_map_or P (last is_of m) false
          → any_below (tested P (suc m)) (suc m) ≡ option_map_or P (cond like (Some m) (last is_of m)) false
      by true like rest =
          ap (λ b. b || tested P (suc m) m) (any_below-agree (tested P (suc m)) (λ _. false) m (λ a less. overtaken P m a (omega (arith, low)) less like) ∙ any_below-none m)
          ∙ (ap (λ b. b && is_last_like (suc m) m && P m) like ∙ ap (λ b. b && P m) (last_like m))
      by false other rest =
          ap (λ b. b || tested P (suc m) m) (any_below-agree (tested P (suc m)) (tested P m) m (λ a less. later P m a (omega (arith, low)) less other) ∙ rest)
          ∙ (ap (λ b. option_map_or P (last is_of m) false || (b && is_last_like (suc m) m && P m)) other ∙ or_false (option_map_or P (last is_of m) false))

  -- some request of x passes, of those that no like one follows, if the last one does
  pub any_last : (P : ℕ → Bool) (n : ℕ) → n ≤ length trace → list_any (tested P n) (range_with_len 0 n) ≡ option_map_or P (last is_of n) false
  any_last P n within = any_below-range (tested P n) n ∙ below P n within

  -- one of the first requests is like x if there is a last one
  pub any_first : (n : ℕ) → n ≤ length trace → list_any (rel x) (take n trace) ≡ is_some (last is_of n)
  any_first n within = one n within ∙ any_below-last is_of n
    where
      one : (m : ℕ) → m ≤ length trace → list_any (rel x) (take m trace) ≡ any_below is_of m
      one zero low = refl
      one (suc m) low =
          let next : suc m ≡ m + 1 = omega arith in
          ap (λ k. list_any (rel x) (take k trace)) next
          ∙ (ap (list_any (rel x)) (take_more trace m no_object (omega (arith, low)))
          ∙ (list_any-append (rel x) (take m trace) (request_at trace m ∷ [])
          ∙ (ap (λ b. b || (rel x (request_at trace m) || false)) (one m (omega (arith, low)))
          ∙ ap (λ b. any_below is_of m || b) (or_false (rel x (request_at trace m)) ∙ equals.symmetric x (request_at trace m)))))

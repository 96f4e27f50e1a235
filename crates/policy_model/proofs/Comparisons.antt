-- Comparisons of numbers, and what a query finds.
use Rattle.std.proofs.Common.{◌≡◌, ℕ, ◌<◌, ◌∙◌, sym, ap, ⊎_elim, Bool, true, false, cond, eqb, arith, refl}
use Rattle.std.specs.declared.cmp.Ordering.TheVariants.{Less, Equal, Greater}
use Rattle.std.specs.BTreeMap.{is_at}
use Rattle.std.specs.Ordering.{nat_cmp, is_eq}
use Rattle.std.proofs.lemmas.Bool.{cases_order, eqb-true, eqb-false, eq-eqb, ne_eqb, lt-ltb, le-ltb}

pub cmp-less : (a b : ℕ) → a < b → nat_cmp a b ≡ Less
cmp-less a b low = ap (λ t. cond t Less (cond (eqb a b) Equal Greater)) (lt-ltb a b low)

pub cmp-equal : (a b : ℕ) → a ≡ b → nat_cmp a b ≡ Equal
cmp-equal a b same = ap (λ t. cond t Less (cond (eqb a b) Equal Greater)) (le-ltb a b (omega arith)) ∙ ap (λ t. cond t Equal Greater) (eq-eqb a b same)

pub cmp-greater : (a b : ℕ) → b < a → nat_cmp a b ≡ Greater
cmp-greater a b high = ap (λ t. cond t Less (cond (eqb a b) Equal Greater)) (le-ltb a b (omega arith)) ∙ ap (λ t. cond t Equal Greater) (ne_eqb a b (λ same. omega arith))

pub eqb-sym : (a b : ℕ) → eqb a b ≡ eqb b a
eqb-sym a b = at (eqb a b) refl
  where
    at : (t : Bool) → eqb a b ≡ t → t ≡ eqb b a
    at true e = sym (eq-eqb b a (sym (eqb-true a b e)))
    at false e = sym (ne_eqb b a (λ same. eqb-false a b e (sym same)))

-- a query finds just the equal key
pub at-eqb : (k x : ℕ) → is_at (nat_cmp k) x ≡ eqb x k
at-eqb k x =
    ⊎_elim
    (λ (same : k ≡ x). ap is_eq (cmp-equal k x same) ∙ sym (eq-eqb x k (sym same)))
    (λ apart. ⊎_elim
    (λ (low : k < x). ap is_eq (cmp-less k x low) ∙ sym (ne_eqb x k (λ same. omega arith)))
    (λ (high : x < k). ap is_eq (cmp-greater k x high) ∙ sym (ne_eqb x k (λ same. omega arith)))
    apart)
    (cases_order k x)

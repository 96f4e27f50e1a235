-- Ids, compared.
use Rattle.std.proofs.Common.{◌≡◌, ◌∙◌, ℕ, sym, refl, ap, Bool, true, false, ◌&&◌, ◌==◌}
use Rattle.std.proofs.lemmas.Bool.{and_from, and_parts, eq-eqb, eqb-true}
use Rattle.cache_model.specs.declared.objects.Object.{Object}
use Rattle.freshness.specs.contracts.id.IdPartialEq.TheImpl.{eq-value}
use Rattle.freshness.specs.Stale.{same_id}
use Rattle.freshness.specs.Seen as seen

-- `==` on ids tells them apart as the rules do
pub same_id-derived : eq-value.it ≡ seen.same_id
same_id-derived = λ i p q. (p.volume == q.volume) && (p.id == q.id)

-- two pairs of numbers are equal
abbrev pub pair_eq : ℕ → ℕ → ℕ → ℕ → Bool
pair_eq v i w j = (v == w) && (i == j)

eqb-sym : (a b : ℕ) → (a == b) ≡ (b == a)
eqb-sym a b = at (a == b) (b == a) refl refl
  where
    at : (s t : Bool) → (a == b) ≡ s → (b == a) ≡ t → s ≡ t
    at true true e f = refl
    at false false e f = refl
    at true false e f = sym (eq-eqb b a (sym (eqb-true a b e))) ∙ f
    at false true e f = sym e ∙ eq-eqb a b (sym (eqb-true b a f))

pub pair-sym : (v i w j : ℕ) → pair_eq v i w j ≡ pair_eq w j v i
pair-sym v i w j = ap (λ b. b && (i == j)) (eqb-sym v w) ∙ ap (λ b. (w == v) && b) (eqb-sym i j)

pub pair-same : (v i w j u k : ℕ) → pair_eq v i w j ≡ true → pair_eq v i u k ≡ pair_eq w j u k
pair-same v i w j u k is =
    let parts = and_parts (v == w) (i == j) is in
    ap (λ n. (n == u) && (i == k)) (eqb-true v w parts.0) ∙ ap (λ n. (w == u) && (n == k)) (eqb-true i j parts.1)

pub same_id-sym : (x y : Object) → same_id x y ≡ same_id y x
same_id-sym x y = pair-sym x.volume x.id y.volume y.id

pub same_id-refl : (x : Object) → same_id x x ≡ true
same_id-refl x = and_from _ _ (eq-eqb x.volume x.volume refl) (eq-eqb x.id x.id refl)

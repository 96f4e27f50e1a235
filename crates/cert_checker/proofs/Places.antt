-- The entry of an object, found by a look-up and written at its place.
use Rattle.std.proofs.Common.{◌≡◌, ◌<◌, ◌∙◌, ℕ, sym, refl, ap, Bool, true, false, cond, List, [], ◌∷◌, length, position, None, Some, Option, true≢false}
use Rattle.std.specs.Map.{keys_of, lookup}
use Rattle.indexmap.specs.IndexMap.{insert_entry, set_value_at}
use Rattle.indexmap.proofs.MapLemmas.{Found-position, insert_entry-first}
use Rattle.cache_model.specs.declared.objects.Object.{Object}
use Rattle.cache_model.specs.Claim.{same_object}
use Rattle.cache_model.proofs.Duality.{same_object-true}
use Rattle.cache_model.proofs.Pairs.{same_object-sym}
use Rattle.cert_checker.specs.declared.summary.Seen.{Seen}

module _ (x : Object) (v : Seen) where
  -- the place of an object is that of an entry
  pub place-lt : (es : List (Object × Seen)) (i : ℕ) → Some i ≡ position (same_object x) (keys_of es) → i < length es
  place-lt es i at = (Found-position (same_object x) es i (sym at)).within

  -- a write there is what an insertion does
  pub set_value_at-place : (es : List (Object × Seen)) (i : ℕ) → Some i ≡ position (same_object x) (keys_of es) → set_value_at es i v ≡ insert_entry same_object es x v
  set_value_at-place es i at = sym (insert_entry-first same_object x v es i (Found-position (same_object x) es i (sym at)).first)

  -- a look-up of y in one entry of x, or of an object that is x
  alone : (y : Object) → cond (same_object y x) (Some v) None ≡ cond (same_object x y) (Some v) None
  alone y = ap (λ b. cond b (Some v) None) (same_object-sym y x)

  -- what a look-up finds after an insertion
  pub lookup-insert_entry : (es : List (Object × Seen)) (y : Object)
      → lookup (same_object y) (insert_entry same_object es x v) ≡ cond (same_object x y) (Some v) (lookup (same_object y) es)
  lookup-insert_entry [] y = alone y
  lookup-insert_entry (e ∷ es) y = after (same_object x e.0) refl (lookup-insert_entry es y)
    where
      more : List (Object × Seen)
      more = insert_entry same_object es x v

      old : Option Seen
      old = lookup (same_object y) es

      -- the entry is that of another object than x
      other : (b : Bool) → same_object y e.0 ≡ b → same_object x e.0 ≡ false → lookup (same_object y) more ≡ cond (same_object x y) (Some v) old
          → cond b (Some e.1) (lookup (same_object y) more) ≡ cond (same_object x y) (Some v) (cond b (Some e.1) old)
      other false apart differs rest = rest
      other true same differs rest =
          sym (ap (λ b. cond b (Some v) (Some e.1)) (ap (same_object x) (same_object-true y e.0 same) ∙ differs))

      -- the entry is that of x
      own : (b c : Bool) → b ≡ c → cond b (Some v) old ≡ cond c (Some v) (cond b (Some e.1) old)
      own true true same = refl
      own false false same = refl
      own true false same = absurd (true≢false same)
      own false true same = absurd (true≢false (sym same))

      after : (b : Bool) → same_object x e.0 ≡ b → lookup (same_object y) more ≡ cond (same_object x y) (Some v) old
          → lookup (same_object y) (cond b ((e.0, v) ∷ es) (e ∷ more)) ≡ cond (same_object x y) (Some v) (cond (same_object y e.0) (Some e.1) old)
      after false differs rest = other (same_object y e.0) refl differs rest
      after true same rest = own (same_object y e.0) (same_object x y) (ap (same_object y) (sym (same_object-true x e.0 same)) ∙ same_object-sym y x)

-- Whether a byte that passes a test stands in a text.
use Rattle.std.proofs.Common.{◌≡◌, ℕ, List, Bool, true, false, Option, Some, None, get_or, refl, sym, arith}
use Rattle.std.specs.List.{list_any}
use Rattle.std.specs.Option.{is_some}
use Rattle.std.proofs.lemmas.List.Elements.{All-from_get_or}
use Rattle.std.proofs.lemmas.List.Folds.{list_any_at, list_any_none}
use Rattle.memchr.specs.Find.{IsFirstByte}

-- a test that is not true is false
false_unless_true : (b : Bool) → (b ≡ true → ⊥) → b ≡ false
false_unless_true true h = absurd (h refl)
false_unless_true false h = refl

-- there is one if a search finds it
pub is_some-first : (p : ℕ → Bool) (text : List ℕ) (found : Option ℕ) → IsFirstByte p text found → is_some found ≡ list_any p text
is_some-first p text None none =
    sym (list_any_none p text (All-from_get_or (λ byte. p byte ≡ false) text 0 (λ k below. false_unless_true (p (get_or text k 0)) (none k (omega arith) below))))
is_some-first p text (Some k) first = sym (list_any_at p text k 0 first.0.high first.1)

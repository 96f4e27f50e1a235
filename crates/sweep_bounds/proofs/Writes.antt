-- A write to an entry of a map that is there.
use Rattle.std.proofs.Common.{◌≡◌, refl, ap, Bool, true, false, cond, List, [], ◌∷◌, Some}
use Rattle.std.specs.Map.{lookup, set_value}
use Rattle.indexmap.specs.IndexMap.{insert_entry}

-- it leaves what an insertion leaves
pub set_value-insert : {K V : Type 0} (same : K → K → Bool) (key : K) (old new : V) (entries : List (K × V)) → lookup (same key) entries ≡ Some old
    → set_value (same key) entries new ≡ insert_entry same entries key new
set_value-insert same key old new [] found = cc
set_value-insert same key old new (e ∷ es) found = by (same key e.0) found (set_value-insert same key old new es)
  where
    by : (b : Bool) → cond b (Some e.1) (lookup (same key) es) ≡ Some old
        → (lookup (same key) es ≡ Some old → set_value (same key) es new ≡ insert_entry same es key new)
        → cond b ((e.0, new) ∷ es) (e ∷ set_value (same key) es new) ≡ cond b ((e.0, new) ∷ es) (e ∷ insert_entry same es key new)
    by true found rest = refl
    by false found rest = ap (λ es. e ∷ es) (rest found)

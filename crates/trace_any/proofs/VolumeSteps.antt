-- The volumes that a list of keys shows, and the numbers of volumes as the list grows.
use Rattle.std.proofs.Common.{◌≡◌, ℕ, suc, ◌+◌, ◌∙◌, refl, sym, ap, Bool, true, false, ◌||◌, cond, not, List, [], ◌∷◌, ◌++◌, length, map, arith, Some, position, true≢false}
use Rattle.std.specs.List.{list_any, position_or_len}
use Rattle.std.proofs.lemmas.List.{map_push}
use Rattle.std.proofs.lemmas.Grind.{common_steps}
use Rattle.indexmap.specs.IndexSet.{insert_key}
use Rattle.trace_any.specs.Volumes.{Volume, same_volume, volume_number, with_volume}

module _ {X : Type 0} (p : X → Bool) where
  -- where an element passes, its place stays whatever comes after
  pub position_or_len-append_known : (xs ys : List X) → list_any p xs ≡ true → position_or_len p (xs ++ ys) ≡ position_or_len p xs
  position_or_len-append_known [] ys known = absurd (true≢false (sym known))
  position_or_len-append_known (x ∷ xs) ys known = at (p x) known (position_or_len-append_known xs ys)
    where
      at : (t : Bool) → (t || list_any p xs) ≡ true → (list_any p xs ≡ true → position_or_len p (xs ++ ys) ≡ position_or_len p xs)
          → cond (not t) (1 + position_or_len p (xs ++ ys)) 0 ≡ cond (not t) (1 + position_or_len p xs) 0
      at true known rest = refl
      at false known rest = ap (λ n. 1 + n) (rest known)

  -- where none passes, the place is past the list
  pub position_or_len-new : (xs : List X) → list_any p xs ≡ false → position_or_len p xs ≡ length xs
  position_or_len-new [] new = refl
  position_or_len-new (x ∷ xs) new = at (p x) new (position_or_len-new xs)
    where
      at : (t : Bool) → (t || list_any p xs) ≡ false → (list_any p xs ≡ false → position_or_len p xs ≡ length xs) → cond (not t) (1 + position_or_len p xs) 0 ≡ suc (length xs)
      at true new rest = absurd (true≢false new)
      at false new rest = let later = rest new in omega arith

  -- a place that was found is the first
  pub position_or_len-position : (xs : List X) (index : ℕ) → Some index ≡ position p xs → index ≡ position_or_len p xs
  position_or_len-position xs index found = grind (arith, common_steps)

-- a known volume keeps its number as more come
pub volume_number-append_known : (volumes more : List Volume) (v : Volume) → list_any (same_volume v) volumes ≡ true → volume_number (volumes ++ more) v ≡ volume_number volumes v
volume_number-append_known volumes more v known = ap (λ n. 1 + n) (position_or_len-append_known (same_volume v) volumes more known)

-- a new volume has the next number
pub volume_number-new : (volumes : List Volume) (v : Volume) → list_any (same_volume v) volumes ≡ false → volume_number volumes v ≡ length volumes + 1
volume_number-new volumes v new =
    let place : position_or_len (same_volume v) volumes ≡ length volumes = position_or_len-new (same_volume v) volumes new in
    omega arith

module _ {X : Type 0} (shown : X → Volume) where
  position_or_len-map : (p : Volume → Bool) (keys : List X) → position_or_len p (map shown keys) ≡ position_or_len (λ k. p (shown k)) keys
  position_or_len-map p [] = refl
  position_or_len-map p (k ∷ keys) = ap (λ n. cond (not (p (shown k))) (1 + n) 0) (position_or_len-map p keys)

  list_any-map : (p : Volume → Bool) (keys : List X) → list_any p (map shown keys) ≡ list_any (λ k. p (shown k)) keys
  list_any-map p [] = refl
  list_any-map p (k ∷ keys) = ap (λ t. p (shown k) || t) (list_any-map p keys)

  -- a place among the keys, as a number among the volumes
  pub volume_number-map : (v : Volume) (keys : List X) (index : ℕ) → index ≡ position_or_len (λ k. same_volume v (shown k)) keys → index + 1 ≡ volume_number (map shown keys) v
  volume_number-map v keys index place =
      let mapped : position_or_len (same_volume v) (map shown keys) ≡ position_or_len (λ k. same_volume v (shown k)) keys = position_or_len-map (same_volume v) keys in
      omega arith

  -- where the keys have the volume, the volumes stay
  pub with_volume-known : (v : Volume) (keys : List X) → list_any (λ k. same_volume v (shown k)) keys ≡ true → with_volume (map shown keys) v ≡ map shown keys
  with_volume-known v keys known = ap (λ t. cond t (map shown keys) (map shown keys ++ v ∷ [])) (list_any-map (same_volume v) keys ∙ known)

  -- a volume that no key stands for is new
  pub list_any-missing : (v : Volume) (keys : List X) (volumes : List Volume) → map shown keys ≡ volumes → false ≡ list_any (λ k. same_volume v (shown k)) keys
      → list_any (same_volume v) volumes ≡ false
  list_any-missing v keys volumes view missing = ap (list_any (same_volume v)) (sym view) ∙ list_any-map (same_volume v) keys ∙ sym missing

  -- an inserted key, as a volume more
  pub map-insert_key : (keys : List X) (key : X) → map shown (insert_key (λ k l. same_volume (shown k) (shown l)) keys key) ≡ with_volume (map shown keys) (shown key)
  map-insert_key keys key =
      let v = shown key in
      let known = list_any (λ k. same_volume v (shown k)) keys in
      inserted known ∙ ap (λ t. cond t (map shown keys) (map shown keys ++ v ∷ [])) (sym (list_any-map (same_volume v) keys))
    where
      inserted : (t : Bool) → map shown (cond t keys (keys ++ key ∷ [])) ≡ cond t (map shown keys) (map shown keys ++ shown key ∷ [])
      inserted true = refl
      inserted false = map_push shown keys key

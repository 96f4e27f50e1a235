-- What is left of bytes after some were copied from a place.
use Rattle.std.proofs.Common.{◌≡◌, ◌∙◌, ◌+◌, ◌-◌, ◌≤◌, ◌<◌, ℕ, ap, sym, List, [], ◌++◌, length, take, drop, min, arith, length-drop}
use Rattle.std.proofs.lemmas.List.{drop-drop, nil_from_length, take-append-drop}
use Rattle.std.proofs.Math.Seq.{take-length}

-- the prefix that was copied and the rest are what stood from the place on, and there is no rest where none was copied into some room
pub copied : (bytes prefix taken : List ℕ) (at n room after most : ℕ) → at ≤ length bytes → (0 < after → 1 ≤ most) → prefix ≡ take (length bytes - at) (drop at bytes) → n ≡ min (min (length prefix) room) most → taken ≡ take n prefix → after ≡ room
    → (drop at bytes ≡ taken ++ drop (at + n) bytes) × (n ≡ 0 → 0 < after → drop (at + n) bytes ≡ [])
copied bytes prefix taken at n room after most within some is count took same =
    let whole : prefix ≡ drop at bytes = is ∙ (ap (λ k. take k (drop at bytes)) (sym (length-drop at bytes)) ∙ take-length (drop at bytes)) in
    let next : drop n (drop at bytes) ≡ drop (at + n) bytes = drop-drop n at bytes in (
      sym (take-append-drop n (drop at bytes)) ∙ (ap (λ rest. take n (drop at bytes) ++ rest) next ∙ ap (λ t. t ++ drop (at + n) bytes) (sym (took ∙ ap (λ f. take n f) whole))),
      λ none wide. nil_from_length (drop (at + n) bytes) (omega (arith, none, wide, same, some wide, within, count, ap length whole, length-drop at bytes, length-drop (at + n) bytes)),
    )

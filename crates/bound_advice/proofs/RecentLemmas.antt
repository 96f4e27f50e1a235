-- The last bytes that are kept.
use Rattle.std.proofs.Common.{◌≡◌, ◌∙◌, ℕ, ◌-◌, ◌<◌, ◌≤◌, ap, sym, arith, Bool, true, false, ◌⊎◌, ⊎_elim, inl, inr, List, [], ◌++◌, length, take, drop, length-append, length-drop, append_assoc}
use Rattle.std.proofs.lemmas.Bool.{cases_lt}
use Rattle.std.proofs.lemmas.List.{append-nil, take-append-drop}
use Rattle.bound_advice.specs.Lines.{KeepsLast}

-- of a piece with more bytes than are kept its last ones are
pub keeps_piece : (old new piece : List ℕ) (were are : Bool) → 131072 < length piece → new ≡ drop (length piece - 131072) piece → are ≡ false → KeepsLast old new piece were are
keeps_piece old new piece were are more is not_all =
    let n = length piece - 131072 in
    let parts : old ++ piece ≡ (old ++ take n piece) ++ drop n piece = ap (λ p. old ++ p) (sym (take-append-drop n piece)) ∙ sym (append_assoc old (take n piece) (drop n piece)) in
    record {
      last = (old ++ take n piece, parts ∙ ap (λ l. (old ++ take n piece) ++ l) (sym is));
      enough = inr (rw is (omega (arith, length-drop n piece)));
      all = λ are_all. let clash : false ≡ true = sym not_all ∙ are_all in cc;
    }

-- there are enough bytes: all that came, or those that are always kept
enough : (old : List ℕ) → 131072 < length old ⊎ length old ≤ 131072 → (drop (length old - 131072) old ≡ old ++ []) ⊎ (131072 ≤ length (drop (length old - 131072) old))
enough old (inl more) = inr (omega (arith, length-drop (length old - 131072) old))
enough old (inr few) = let none : length old - 131072 ≡ 0 = omega arith in inl (rw none (sym (append-nil old)))

-- all but the last bytes are forgotten
pub keeps_some : (old new : List ℕ) (were are : Bool) → new ≡ drop (length old - 131072) old → (are ≡ true → (were ≡ true) × (new ≡ old)) → KeepsLast old new [] were are
keeps_some old new were are is all =
    let n = length old - 131072 in
    record {
      last = (take n old, append-nil old ∙ sym (take-append-drop n old) ∙ ap (λ o. take n old ++ o) (sym is));
      enough = rw is (enough old (cases_lt 131072 (length old)));
      all = λ yes. ((all yes).0, (all yes).1 ∙ sym (append-nil old));
    }

-- or none is
pub keeps_each : (bytes : List ℕ) (all : Bool) → KeepsLast bytes bytes [] all all
keeps_each bytes all = record { last = ([], append-nil bytes); enough = inl (sym (append-nil bytes)); all = λ yes. (yes, sym (append-nil bytes)) }

-- and a piece stands behind those that are left
pub keeps_behind : (old kept new piece : List ℕ) (were held are : Bool) → KeepsLast old kept [] were held → new ≡ kept ++ piece → are ≡ held → KeepsLast old new piece were are
keeps_behind old kept new piece were held are keeps is same =
    let ends : old ≡ keeps.last.0 ++ kept = sym (append-nil old) ∙ keeps.last.1 in
    record {
      last = (keeps.last.0, ap (λ o. o ++ piece) ends ∙ append_assoc keeps.last.0 kept piece ∙ ap (λ n. keeps.last.0 ++ n) (sym is));
      enough = ⊎_elim
          (λ (all : kept ≡ old ++ []). inl (is ∙ ap (λ k. k ++ piece) (all ∙ append-nil old)))
          (λ (many : 131072 ≤ length kept). inr (omega (arith, many, ap length is, length-append kept piece)))
          keeps.enough;
      all = λ yes. ((keeps.all (sym same ∙ yes)).0, is ∙ ap (λ k. k ++ piece) ((keeps.all (sym same ∙ yes)).1 ∙ append-nil old));
    }

-- The bits of words of which one changes.
use Rattle.std.proofs.Common.{◌≡◌, ℕ, ◌*◌, ◌+◌, ◌/◌, ◌%◌, ◌<◌, ◌∙◌, ap, sym, refl, inl, inr, arith, Bool, true, false, if◌then◌else◌, ◌==◌, List, [], ◌∷◌, ◌++◌, length, map, slice_set, slice_index_or, eq-eqb, ne_eqb}
use Rattle.std.specs.Int.{bit_at}
use Rattle.std.specs.List.{range_with_len}
use Rattle.std.proofs.lemmas.Bool.{cases_eq}
use Rattle.std.proofs.lemmas.List.{get_or-set_same, get_or-set_other}
use Rattle.std.proofs.lemmas.List.FromFn.{fill_by_all, get_or-map-range_with_len, length-map-range_with_len, map-range_with_len_more}
use Rattle.bit_list.specs.Bits.{bit_in}

-- bits that agree at each place are the same
pub same_bits : (f g : ℕ → Bool) (n : ℕ) → ((i : ℕ) → i < n → f i ≡ g i) → map f (range_with_len 0 n) ≡ map g (range_with_len 0 n)
same_bits f g n same =
    fill_by_all g (map f (range_with_len 0 n)) n false (length-map-range_with_len f 0 n)
    (λ k below. get_or-map-range_with_len f 0 n k k false below (omega arith) ∙ same k below)

-- a bit as a number, and back
bit_back : (bit : Bool) → ((if bit then 1 else 0) == 1) ≡ bit
bit_back true = refl
bit_back false = refl

-- the word at the end of the bits gets one more of them
pub bit_more : (words : List ℕ) (len w : ℕ) (bit : Bool) → len < 64 * length words
    → ((i : ℕ) → i < 64 → bit_at w i ≡ (if i == len % 64 then (if bit then 1 else 0) else bit_at (slice_index_or words (len / 64) 0) i))
    → map (bit_in (slice_set words (len / 64) w)) (range_with_len 0 (len + 1)) ≡ map (bit_in words) (range_with_len 0 len) ++ bit ∷ []
bit_more words len w bit room is =
    let set = slice_set words (len / 64) w in
    let here : slice_index_or set (len / 64) 0 ≡ w = get_or-set_same words (len / 64) w 0 (omega (arith, room)) in
    let newest : bit_in set len ≡ bit =
    ap (λ v. bit_at v (len % 64) == 1) here
    ∙ (ap (λ b. b == 1) (is (len % 64) (omega arith) ∙ ap (λ e. if e then (if bit then 1 else 0) else bit_at (slice_index_or words (len / 64) 0) (len % 64)) (eq-eqb (len % 64) (len % 64) refl)) ∙ bit_back bit) in
    let older : (i : ℕ) → i < len → bit_in set i ≡ bit_in words i = λ i below.
    (elim (cases_eq (i / 64) (len / 64)) [
      | inl same ↦
          let word : slice_index_or set (i / 64) 0 ≡ w = ap (λ k. slice_index_or set k 0) same ∙ here in
          let other : (i % 64 == len % 64) ≡ false = ne_eqb (i % 64) (len % 64) (λ e. omega (arith, e, same, below)) in
          ap (λ v. bit_at v (i % 64) == 1) word
          ∙ (ap (λ b. b == 1) (is (i % 64) (omega arith) ∙ ap (λ e. if e then (if bit then 1 else 0) else bit_at (slice_index_or words (len / 64) 0) (i % 64)) other)
          ∙ ap (λ k. bit_at (slice_index_or words k 0) (i % 64) == 1) (sym same))
      | inr apart ↦ ap (λ v. bit_at v (i % 64) == 1) (get_or-set_other words (len / 64) (i / 64) w 0 apart)
    ]) in
    map-range_with_len_more (bit_in set) 0 len len (omega arith)
    ∙ (ap (λ l. l ++ bit_in set len ∷ []) (same_bits (bit_in set) (bit_in words) len older) ∙ ap (λ b. map (bit_in words) (range_with_len 0 len) ++ b ∷ []) newest)

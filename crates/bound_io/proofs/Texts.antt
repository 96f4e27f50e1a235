-- Where the text of a line ends, and what a buffer shows.
use Rattle.std.proofs.Common.{◌≡◌, ℕ, ◌+◌, ◌-◌, ◌≤◌, ◌<◌, List, ◌++◌, Option, None, Some, length, take, drop, min, refl, arith, length-drop, length-take, length-append, ◌∙◌, sym, Vec, Global, [], ap, append-nil}
use Rattle.std.proofs.lemmas.List.{take-append-le, take-append-drop, drop-drop, drop-take, drop_all, with_items_is, length-take-le, take_min}
use Rattle.std.proofs.Math.Seq.{take-append-add, drop-append_seam}
use Rattle.std.proofs.lemmas.List.Folds.{length-prefix_len, prefix_len-append}
use Rattle.std.proofs.lemmas.List.Sums.{prefix_len-le-length, position_or_len_is}
use Rattle.std.proofs.lemmas.Bool.{eq-eqb, false_from_ne_true, ne_eqb}
use Rattle.std.specs.Option.{unwrap_or}
use Rattle.std.specs.Vec.{with_items}
use Rattle.std.specs.Prelude.{vec_len}
use Rattle.memchr.specs.Find.{IsFirstByte, is_byte}
use Rattle.bound_io.specs.Lines.{is_lf, text_len, first_text}

-- the place where the first LF was found, or the number of the bytes where none was
pub text_len_is : (bytes : List ℕ) (found : Option ℕ) → IsFirstByte (is_byte 10) bytes found → unwrap_or found (length bytes) ≡ text_len bytes
text_len_is bytes None nowhere = sym (position_or_len_is is_lf bytes (length bytes) 0 (omega arith) (λ j below. false_from_ne_true _ (nowhere j (omega arith) below)) (λ above. absurd (omega (arith, above))))
text_len_is bytes (Some k) (none, passes) = sym (position_or_len_is is_lf bytes k 0 (omega (arith, none.high)) (λ j below. false_from_ne_true _ (none.before j (omega arith) below)) (λ _. passes))

-- the first text has as many bytes as are counted
pub length-first_text : (bytes : List ℕ) → length (first_text bytes) ≡ text_len bytes
length-first_text bytes = length-prefix_len _ bytes

-- a text has no more bytes than there are
pub text_len-le : (bytes : List ℕ) → text_len bytes ≤ length bytes
text_len-le bytes = prefix_len-le-length _ bytes

-- a line that ends among the first bytes
pub text_len_ends : (xs ys : List ℕ) → text_len xs < length xs → text_len (xs ++ ys) ≡ text_len xs
text_len_ends xs ys ends = rw (prefix_len-append, ne_eqb (text_len xs) (length xs) (omega arith)) refl

-- a line that goes on after them
pub text_len_goes_on : (xs ys : List ℕ) → text_len xs ≡ length xs → text_len (xs ++ ys) ≡ length xs + text_len ys
text_len_goes_on xs ys none = rw (prefix_len-append, eq-eqb (text_len xs) (length xs) none) refl

-- some bytes from the prefix, and then some that were put behind them
prefix_more : (old buf post : List ℕ) (end count : ℕ) → end ≤ length old → count ≤ length buf → take (end + count) (take end old ++ (buf ++ post)) ≡ take end old ++ take count buf
prefix_more old buf post end count within some =
    rw (length-take-le end old within, take-append-le count buf post some) at (take-append-add (take end old) (buf ++ post) count)

-- a prefix of what a buffer shows
pub shows_prefix : (bytes : List ℕ) (start end text : ℕ) → text ≤ length (take (end - start) (drop start bytes)) → take (start + text - start) (drop start bytes) ≡ take text (take (end - start) (drop start bytes))
shows_prefix bytes start end text within =
    let count : start + text - start ≡ text = omega arith in
    let prefix = take-append-le text (take (end - start) (drop start bytes)) (drop (end - start) (drop start bytes)) within in
    rw count (rw (take-append-drop) at prefix)

-- what is kept of some bytes once those of a piece were put behind them, as many as there is room for
pub kept_more : (old buf post piece : List ℕ) (len count room : ℕ) → len ≤ length old → count ≤ length buf → take count buf ≡ take count piece → count ≡ min room (length piece)
    → take (len + count) (take len old ++ (buf ++ post)) ≡ take (len + room) (take len old ++ piece)
kept_more old buf post piece len count room within some copied is =
    let more : take (len + room) (take len old ++ piece) ≡ take len old ++ take room piece = rw (length-take-le len old within) at (take-append-add (take len old) piece room) in
    let same : take count piece ≡ take room piece = rw is (take_min room piece) in
    prefix_more old buf post len count within some ∙ (ap (λ l. take len old ++ l) (copied ∙ same) ∙ sym more)

-- what a buffer shows from a later place on
pub shows_rest : (bytes : List ℕ) (start end line : ℕ) → line ≤ length (take (end - start) (drop start bytes)) → take (end - (start + line)) (drop (start + line) bytes) ≡ drop line (take (end - start) (drop start bytes))
shows_rest bytes start end line within =
    let left : end - start ≡ line + (end - (start + line)) = omega (arith, length-take (end - start) (drop start bytes)) in
    rw (left, drop-take, drop-drop) refl

-- the text of a line that has no LF so far, once more bytes came: what was seen, and the text of the rest
pub text_len_later : (held more : List ℕ) (seen : ℕ) → text_len held ≡ length held → seen ≡ length held → text_len (held ++ more) ≡ seen + text_len (drop seen (held ++ more))
text_len_later held more seen none all = rw (all, drop-append_seam) (text_len_goes_on held more none)

-- a vector whose bytes from a place on were read over, and what it shows then
pub read_over : (v : Vec ℕ Global) (old buf : List ℕ) (end count : ℕ) → vec_len v ≡ length old → end ≤ length old → length buf ≡ length old - end → count ≤ length buf
    → take (end + count - 0) (drop 0 ((with_items v (take end old ++ (buf ++ drop (length old - end) (drop end old)))).items)) ≡ take end old ++ take count buf
read_over v old buf end count size within room some =
    let post = drop (length old - end) (drop end old) in
    let none : post ≡ [] = drop_all (length old - end) (drop end old) (omega (arith, length-drop end old)) in
    let whole : length (take end old ++ (buf ++ post)) ≡ vec_len v = rw (none, length-append (take end old) (buf ++ []), append-nil) (omega (arith, length-take-le end old within)) in
    let items = with_items_is v (take end old ++ (buf ++ post)) whole in
    let plain : end + count - 0 ≡ end + count = omega arith in
    ap (λ l. take (end + count - 0) (drop 0 l)) items ∙ (ap (λ n. take n (take end old ++ (buf ++ post))) plain ∙ prefix_more old buf post end count within some)

-- The first line of the bytes that a reader stands in, seen from the bytes that it holds.
use Rattle.std.proofs.Common.{◌≡◌, ℕ, ◌+◌, ◌≤◌, ◌<◌, ◌⊎◌, inl, inr, List, [], ◌++◌, Option, None, Some, length, min, arith, sym, length-take, length-append, append-nil, IfSome}
use Rattle.std.proofs.lemmas.Bool.{cases_lt}
use Rattle.std.proofs.lemmas.List.{nil_from_length}
use Rattle.std.specs.Io.KnownBytes.{IsAtEnd, Keeps}
use Rattle.bound_io.specs.Lines.{HasExtent, first_line, stands_in, text_len}
use Rattle.bound_io.proofs.Texts.{text_len-le, text_len_ends, text_len_goes_on}

-- an LF stands among the held bytes
ends_in : (held rest : List ℕ) (n : ℕ) → n ≡ text_len held → n < length held → HasExtent n (min (length held) (n + 1)) (held ++ rest)
ends_in held rest n text within =
    let same : text_len (held ++ rest) ≡ n = rw (← text) at (text_len_ends held rest (rw text at within)) in
    (sym same, rw (same, length-take (n + 1) (held ++ rest), length-append held rest) (omega arith))

-- the held bytes are all that there is
is_all : (held : List ℕ) (n : ℕ) → n ≡ text_len held → HasExtent n (min (length held) (n + 1)) held
is_all held n text = (text, rw (← text, length-take (n + 1) held) (omega arith))

-- the extent is that of the first line: it ends among the held bytes, or is too long for them, or no byte comes after them
pub extent_known : (before left : Option (List ℕ)) (held : List ℕ) (n : ℕ) → Keeps before (stands_in held left) → n ≡ text_len held
    → n < length held ⊎ ((length held ≡ 65536) ⊎ IsAtEnd left) → n ≤ 65535 → IfSome before (HasExtent n (min (length held) (n + 1)))
extent_known None left held n kept text whole short = tt
extent_known (Some bytes) None held n kept text whole short = absurd kept
extent_known (Some bytes) (Some rest) held n kept text (inl within) short = rw kept at (ends_in held rest n text within)
extent_known (Some bytes) (Some rest) held n kept text (inr (inl full)) short = rw kept at (ends_in held rest n text (omega (arith, full, short)))
extent_known (Some bytes) (Some rest) held n kept text (inr (inr end)) short =
    let all : held ≡ bytes = rw (end, append-nil) at kept in
    rw (← all) (is_all held n text)

-- the first text of held bytes is no shorter with what comes after them
pub too_long_known : (before left : Option (List ℕ)) (held : List ℕ) (n : ℕ) → Keeps before (stands_in held left) → n ≡ text_len held → 65535 < n → IfSome before (λ bytes. 65535 < text_len bytes)
too_long_known None left held n kept text long = tt
too_long_known (Some bytes) None held n kept text long = absurd kept
too_long_known (Some bytes) (Some rest) held n kept text long = rw (← kept) (at_least (cases_lt (text_len held) (length held)))
  where
    at_least : text_len held < length held ⊎ length held ≤ text_len held → 65535 < text_len (held ++ rest)
    at_least (inl ends) = omega (arith, text_len_ends held rest ends, text, long)
    at_least (inr none) = omega (arith, text_len_goes_on held rest (omega (arith, none, text_len-le held)), none, text_len-le held, text, long)

-- an extent that passes the limit is that of the first line
pub past_limit_known : (known : Option (List ℕ)) (limit consumed text line : ℕ) → IfSome known (HasExtent text line) → text ≤ 65535 → limit < consumed + line → IfSome known (λ bytes. (text_len bytes ≤ 65535) × (limit < consumed + length (first_line bytes)))
past_limit_known None limit consumed text line extent short past = tt
past_limit_known (Some bytes) limit consumed text line extent short past = (omega (arith, extent.0, short), omega (arith, extent.1, past))

-- a line of no bytes is the end
pub end_known : (known : Option (List ℕ)) (text line : ℕ) → IfSome known (HasExtent text line) → line ≡ 0 → IsAtEnd known × IfSome known (λ bytes. bytes ≡ [])
end_known None text line extent none = (tt, tt)
end_known (Some bytes) text line extent none =
    let empty = nil_from_length bytes (omega (arith, extent.1, length-take (text_len bytes + 1) bytes, none)) in
    (empty, empty)

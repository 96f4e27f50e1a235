-- Lines of bytes, and what a reader of lines stands in.
use Rattle.std.specs.Prelude.{◌≡◌, ℕ, ◌+◌, List, ◌++◌, length, take, drop, Bool, ◌==◌}
use Rattle.std.specs.declared.option.Option.{Option}
use Rattle.std.specs.List.{position_or_len}
use Rattle.std.specs.Option.{option_map}

-- the byte that ends a line
abbrev pub is_lf : ℕ → Bool
is_lf byte = byte == 10

-- how many bytes stand before the first LF, or in all where there is none
abbrev pub text_len : List ℕ → ℕ
text_len bytes = position_or_len is_lf bytes

-- the text of the first line
abbrev pub first_text : List ℕ → List ℕ
first_text bytes = take (text_len bytes) bytes

-- the first line with its LF, if it has one
abbrev pub first_line : List ℕ → List ℕ
first_line bytes = take (text_len bytes + 1) bytes

-- how many bytes the text of the first line has, and how many the line with its LF, if it has one
abbrev pub HasExtent : ℕ → ℕ → List ℕ → Type 0
HasExtent text line bytes = (text ≡ text_len bytes) × (line ≡ length (first_line bytes))

-- what stands after the first line
abbrev pub after_line : List ℕ → List ℕ
after_line bytes = drop (text_len bytes + 1) bytes

-- the bytes that are held, and then those that the source has left, if they are known
abbrev pub stands_in : List ℕ → Option (List ℕ) → Option (List ℕ)
stands_in held left = option_map (λ rest. held ++ rest) left

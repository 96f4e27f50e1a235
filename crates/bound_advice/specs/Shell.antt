-- What a shell is given.
use Rattle.std.specs.Prelude.{ℕ, ◌==◌, Bool, not, ◌&&◌, ◌||◌, List, ◌++◌, length, if◌then◌else◌, codes, chars, encode_utf8, flat_map}
use Rattle.std.specs.Char.{is_ascii_alphanumeric}
use Rattle.std.specs.List.{list_all, list_any}
use Rattle.std.specs.Str.{byte}

-- whether a shell takes a byte as it stands: a letter, a digit or one of _./+-
abbrev pub is_plain : ℕ → Bool
is_plain b = is_ascii_alphanumeric b || list_any (λ sign. sign == b) (codes "_./+-")

-- whether a shell takes a word as it stands: it has bytes, and takes each of them
abbrev pub is_plain_word : List ℕ → Bool
is_plain_word word = not (length word == 0) && list_all is_plain word

-- a letter between single quotes: a single quote ends them, stands behind a backslash and begins them again
abbrev pub quoted_letter : ℕ → List ℕ
quoted_letter c = if c == byte "'" then codes "'\\''" else encode_utf8 c

-- a word between single quotes
abbrev pub quoted_word : List ℕ → List ℕ
quoted_word word = codes "'" ++ flat_map quoted_letter (chars word) ++ codes "'"

-- a word as a shell has to be given it: as it stands, or between single quotes
abbrev pub shell_word : List ℕ → List ℕ
shell_word word = if is_plain_word word then word else quoted_word word

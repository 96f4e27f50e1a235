-- What is written as flags is read as those flags.
use Rattle.std.specs.Prelude.{◌≡◌, ℕ, Bool, true, false, List, [], ◌∷◌, ◌++◌, map, Some}
use Rattle.hit_flags.specs.Flags.{flags_in}

-- the byte of a flag: `1` for a hit, and `0` for none
abbrev pub flag_byte : Bool → ℕ
flag_byte true = 49
flag_byte false = 48

-- the text of flags: a line for each
abbrev pub flags_text : List Bool → List ℕ
flags_text [] = []
flags_text (flag ∷ flags) = flag_byte flag ∷ 10 ∷ flags_text flags

-- the flags of the text of some flags are these flags, whether or not the last line ends in LF
pub record FlagsAreRead : Type 0 where
  pub ended : (flags : List Bool) → flags_in (flags_text flags) ≡ map (λ flag. Some flag) flags
  pub unended : (flags : List Bool) (last : Bool) → flags_in (flags_text flags ++ flag_byte last ∷ []) ≡ map (λ flag. Some flag) (flags ++ last ∷ [])

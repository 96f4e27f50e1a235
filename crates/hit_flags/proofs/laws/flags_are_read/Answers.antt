use Rattle.std.proofs.Common.{◌≡◌, ◌∙◌, ℕ, ap, refl, arith, Bool, true, false, List, [], ◌∷◌, ◌++◌, map, Some}
use Rattle.hit_flags.specs.Flags.{flags_in}
use Rattle.hit_flags.specs.Laws.{flag_byte, flags_text}
use Rattle.hit_flags.proofs.FlagLines.{flags_in-first}
use Rattle.hit_flags.proofs.laws.flags_are_read.Goals as goal

-- the first line of a flag
first : (flag : Bool) (rest : List ℕ) → flags_in (flag_byte flag ∷ 10 ∷ rest) ≡ Some flag ∷ flags_in rest
first true rest = flags_in-first (49 ∷ 10 ∷ rest) (omega arith)
first false rest = flags_in-first (48 ∷ 10 ∷ rest) (omega arith)

-- a last line without LF
last_line : (flag : Bool) → flags_in (flag_byte flag ∷ []) ≡ Some flag ∷ []
last_line true = refl
last_line false = refl

ended : (flags : List Bool) → flags_in (flags_text flags) ≡ map (λ flag. Some flag) flags
ended [] = refl
ended (flag ∷ flags) = first flag (flags_text flags) ∙ ap (λ rest. Some flag ∷ rest) (ended flags)

unended : (flags : List Bool) (last : Bool) → flags_in (flags_text flags ++ flag_byte last ∷ []) ≡ map (λ flag. Some flag) (flags ++ last ∷ [])
unended [] last = last_line last
unended (flag ∷ flags) last = first flag (flags_text flags ++ flag_byte last ∷ []) ∙ ap (λ rest. Some flag ∷ rest) (unended flags last)

pub returns : goal.returns
returns c = record { ended = ended; unended = unended }

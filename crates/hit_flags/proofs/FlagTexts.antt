-- The text of flags, one flag later.
use Rattle.std.proofs.Common.{◌≡◌, Bool, List, [], ◌∷◌, ◌++◌, refl, ap}
use Rattle.hit_flags.specs.Laws.{flag_byte, flags_text}

pub flags_text-more : (flags : List Bool) (flag : Bool) → flags_text (flags ++ flag ∷ []) ≡ flags_text flags ++ flag_byte flag ∷ 10 ∷ []
flags_text-more [] flag = refl
flags_text-more (first ∷ flags) flag = ap (λ text. flag_byte first ∷ 10 ∷ text) (flags_text-more flags flag)

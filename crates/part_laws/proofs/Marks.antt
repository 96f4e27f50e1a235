-- The marks of parts, end to end.
use Rattle.std.proofs.Common.{◌≡◌, ◌∙◌, ℕ, ◌+◌, ◌<◌, sym, ap, Bool, false, List, ◌++◌, length, arith}
use Rattle.std.proofs.lemmas.List.{get_or_append_left, get_or-append-add}
use Rattle.std.proofs.lemmas.List.FromFn.{length-map-range_with_len, get_or-map-range_with_len}
use Rattle.cache_model.specs.declared.objects.Object.{Object}
use Rattle.cache_model.specs.Claim.{only_fills}
use Rattle.part_laws.specs.Laws.{marks_of}

pub length-marks_of : (part : List Object) (fills : List Bool) → length (marks_of part fills) ≡ length part
length-marks_of part fills = length-map-range_with_len (only_fills fills) 0 (length part)

-- within the part
pub marks-within : (part : List Object) (fills marks : List Bool) (t : ℕ) → t < length part → only_fills (marks_of part fills ++ marks) t ≡ only_fills fills t
marks-within part fills marks t low =
    get_or_append_left (marks_of part fills) marks false t (omega (arith, length-marks_of part fills))
    ∙ get_or-map-range_with_len (only_fills fills) 0 (length part) t t false low (omega arith)

-- behind as many marks as the number says
pub marks-behind : (before marks : List Bool) (n j : ℕ) → length before ≡ n → only_fills (before ++ marks) (n + j) ≡ only_fills marks j
marks-behind before marks n j long = ap (λ k. only_fills (before ++ marks) (k + j)) (sym long) ∙ get_or-append-add before marks j false

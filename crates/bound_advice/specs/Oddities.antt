-- What looks odd in a run that ended well.
use Rattle.std.specs.Prelude.{ℕ, nat_eq, List, [], ◌∷◌, Bool, false, ◌&&◌, ◌||◌, codes, None, Some}
use Rattle.std.specs.declared.option.Option.{Option}
use Rattle.std.specs.List.{starts_with}
use Rattle.trace_any.specs.declared.format.Format.{Format}
use Rattle.trace_any.specs.Readings as of_form
use Rattle.bound_advice.specs.GivenWords.{form_given}
use Rattle.bound_advice.specs.declared.words.Words.{Words}

-- whether a file is packed by gzip, zstd, xz or bzip2, as its first bytes tell
abbrev pub is_packed : List ℕ → Bool
is_packed start =
    starts_with nat_eq start (31 ∷ 139 ∷ [])
    || starts_with nat_eq start (40 ∷ 181 ∷ 47 ∷ 253 ∷ [])
    || starts_with nat_eq start (253 ∷ codes "7zXZ")
    || starts_with nat_eq start (codes "BZh")

-- whether a form has records in place of lines
abbrev pub has_records : Option Format → Bool
has_records (Some form) = of_form.has_records form
has_records None = false

-- whether the records of a trace may be the bytes of a packed file
abbrev pub may_be_packed : Words → List ℕ → Bool
may_be_packed words start = is_packed start && has_records (form_given words)

-- Records worked out by hand.
use Rattle.std.proofs.Common.{◌≡◌, ℕ, List, [], ◌∷◌, ◌++◌, refl}
use Rattle.trace_lines.specs.declared.line.Span.TheVariants.{Nothing, One}
use Rattle.trace_oracle.specs.Records.{record_span}

-- four bytes of a time, and then of an id, a size and a next access
abbrev time : List ℕ
time = 1 ∷ 2 ∷ 3 ∷ 4 ∷ []

abbrev none : List ℕ
none = 0 ∷ 0 ∷ 0 ∷ 0 ∷ []

abbrev all : List ℕ
all = 255 ∷ 255 ∷ 255 ∷ 255 ∷ []

small : record_span (time ++ (7 ∷ 0 ∷ 0 ∷ 0 ∷ []) ++ none ++ (4 ∷ 0 ∷ 0 ∷ 0 ∷ []) ++ time ++ none) ≡ One 7 4
small = refl

-- the first byte counts least
places : record_span (time ++ (1 ∷ 2 ∷ 3 ∷ 4 ∷ []) ++ (5 ∷ 6 ∷ 7 ∷ 8 ∷ []) ++ (1 ∷ 2 ∷ 3 ∷ 4 ∷ []) ++ all ++ all) ≡ One 0x0807_0605_0403_0201 0x0403_0201
places = refl

largest : record_span (all ++ all ++ all ++ all ++ all ++ all) ≡ One 0xffff_ffff_ffff_ffff 0xffff_ffff
largest = refl

-- a size of 0 asks for nothing, whatever else stands there
no_size : record_span (all ++ all ++ all ++ none ++ all ++ all) ≡ Nothing
no_size = refl

-- The names of the files in which certificates are made.
use Rattle.std.specs.Prelude.{ℕ, Bool, List, [], ◌∷◌, codes, nat_eq}
use Rattle.std.specs.List.{ends_with, list_any}

-- what such a name ends with
abbrev pub endings : List (List ℕ)
endings =
    codes ".part" ∷ codes ".part1" ∷ codes ".part2" ∷ codes ".part3" ∷ codes ".part4" ∷ codes ".part5"
    ∷ codes ".part6" ∷ codes ".part7" ∷ codes ".part8" ∷ codes ".part9" ∷ []

-- whether a path ends as such a name does
abbrev pub is_aside_name : List ℕ → Bool
is_aside_name path = list_any (ends_with nat_eq path) endings

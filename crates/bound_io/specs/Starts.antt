-- The first bytes that were read from a file.
use Rattle.std.specs.Prelude.{◌≡◌, ℕ, List, ◌++◌, take, Result, Ok, Err}

-- the first 64 bytes that were read are kept: those before a read, and then those that it gave, which stand at the beginning of a buffer; a read that failed gave none
abbrev pub KeepsStart : {E : Type 0} → List ℕ → List ℕ → List ℕ → Result ℕ E → Type 0
KeepsStart old new buf (Ok count) = new ≡ take 64 (old ++ take count buf)
KeepsStart old new buf (Err fault) = new ≡ old

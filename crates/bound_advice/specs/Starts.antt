-- The first bytes that a sink took.
use Rattle.std.specs.Prelude.{◌≡◌, ◌≢◌, ◌⊎◌, ℕ, List, [], ◌++◌, All, codes, take, Result, Ok, Err}

-- the first 1,024 bytes that a sink took: those before a write, and then those that it took of the piece; a write that failed took none
abbrev pub KeepsStart : {E : Type 0} → List ℕ → List ℕ → List ℕ → Result ℕ E → Type 0
KeepsStart old new piece (Ok count) = new ≡ take 1024 (old ++ take count piece)
KeepsStart old new piece (Err fault) = new ≡ old

-- the whole lines of a text: no line ends behind them, and they are none or end one
pub record AreWholeLines (text lines : List ℕ) : Type 0 where
  pub cut : List ℕ
  pub parts : text ≡ lines ++ cut
  pub no_end : All (λ byte. byte ≢ 10) cut
  pub whole : (lines ≡ []) ⊎ ((before : List ℕ) × (lines ≡ before ++ codes "\n"))

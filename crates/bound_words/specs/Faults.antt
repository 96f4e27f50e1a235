-- Faults of words, and what comes of values that may be one.
use Rattle.std.specs.Prelude.{ℕ, Result, Ok, Err, None, Some}
use Rattle.std.specs.declared.option.Option.{Option}
use Rattle.bound_words.specs.declared.words.WordFault.{WordFault}
use Rattle.bound_terms.specs.declared.words.WordKind.{WordKind}
use Rattle.bound_terms.specs.declared.words.WordKind.TheVariants.{Missing}

-- go on with the value, or stop at the fault
infixl 10 ◌>>=◌
abbrev pub ◌>>=◌ : {A B : Type 0} → Result A WordFault → (A → Result B WordFault) → Result B WordFault
(Ok x) >>= f = f x
(Err e) >>= f = Err e

-- a fault at a place
abbrev pub fault : ℕ → WordKind → WordFault
fault place kind = record { place = place; kind = kind }

-- no fault lets the words pass
abbrev pub passed : Option WordFault → Result (Unit {0}) WordFault
passed None = Ok tt
passed (Some e) = Err e

-- what must be given is missing at the place after the last word
abbrev pub required : {A : Type 0} → ℕ → Option A → Result A WordFault
required end None = Err (fault end Missing)
required end (Some x) = Ok x

use Rattle.std.proofs.Common.{◌≡◌, ◌==◌, ℕ, ◌+◌, ◌-◌, ◌^◌, ◌<◌, Ok, Err, None, Some, true, false, refl, sym, arith, inl, inr}
use Rattle.std.specs.declared.option.Option.{Option}
use Rattle.std.specs.Option.{SomeIff, is_some}
use Rattle.std.proofs.lemmas.Bool.{cases_lt, lt-ltb, le-ltb}
use Rattle.std.proofs.lemmas.Bool.Decides.{nat_tests}
use Rattle.trace_lines.specs.declared.line.Span.TheVariants.{Blocks}
use Rattle.trace_lines.specs.declared.line.LineKind.TheVariants.{BadRange}
use Rattle.trace_arc.specs.Lines.{blocks_of}
use Rattle.trace_arc.proofs.line.blocks.Goals as goal

-- a sum that is not given is past its limit
not_given : (sum : Option ℕ) (P : Type 0) (n : ℕ) → SomeIff sum P n → is_some sum ≡ false → P → ⊥
not_given None P n tells none = tells
not_given (Some m) P n tells none = cc

-- a sum that is given is within its limit
given : (sum : Option ℕ) (P : Type 0) (n : ℕ) → SomeIff sum P n → is_some sum ≡ true → P
given None P n tells some = cc
given (Some m) P n tells some = tells.0

-- blocks of which the last is below 2^64 are a range
within_limit : (first count : ℕ) → (count ≡ 0 → ⊥) → first + (count - 1) < 2 ^ 64 → blocks_of first count ≡ Ok (Blocks first count 512)
within_limit first count some low =
    let no : (count == 0) ≡ false = grind (arith, nat_tests) in
    rw (no, le-ltb (2 ^ 64) (first + count) (omega (arith, some, low))) refl

-- blocks of which the last is 2^64 or more are refused
past_limit : (first count : ℕ) → (count ≡ 0 → ⊥) → (first + (count - 1) < 2 ^ 64 → ⊥) → blocks_of first count ≡ Err BadRange
past_limit first count some past =
    let no : (count == 0) ≡ false = grind (arith, nat_tests) in
    elim (cases_lt (2 ^ 64) (first + count)) [
      | inl large ↦ rw (no, lt-ltb (2 ^ 64) (first + count) large) refl
      | inr small ↦ absurd (past (omega (arith, some)))
    ]

pub returns-then-count-eq0-clause-span : goal.returns-then-count-eq0-clause-span
returns-then-count-eq0-clause-span c = rw c.if-count-eq0.true refl

pub returns-then-is_none-clause-span : goal.returns-then-is_none-clause-span
returns-then-is_none-clause-span c =
    sym (past_limit c.args.first c.args.count c.if-count-eq0.false (not_given c.checked_add.result _ _ c.checked_add.ensures c.if-is_none.ensures))

pub returns-clause-span : goal.returns-clause-span
returns-clause-span c = sym (within_limit c.args.first c.args.count c.if-count-eq0.false (given c.checked_add.result _ _ c.checked_add.ensures c.if-is_none.ensures))

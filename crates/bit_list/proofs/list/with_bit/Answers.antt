use Rattle.std.proofs.Common.{◌≡◌, sym, refl, inl, inr, true, false, ◌==◌, arith, eq-eqb, ne_eqb}
use Rattle.std.specs.Int.{w64}
use Rattle.std.proofs.lemmas.Bool.{cases_eq}
use Rattle.std.proofs.lemmas.Nat.Bits.{bit_at_clear_other, bit_at_clear_same, bit_at_set_other, bit_at_set_same}
use Rattle.bit_list.proofs.list.with_bit.Goals as goal

pub returns-then-bit : goal.returns-then-bit
returns-then-bit c = λ i below.
    let word = c.args.word in
    let place = c.args.place in
    (elim (cases_eq i place) [
      | inl same ↦ rw (same, bit_at_set_same w64 word place c.requires, eq-eqb place place refl, c.if-bit.true) refl
      | inr other ↦ rw (bit_at_set_other w64 word place c.requires i other, ne_eqb i place other) refl
    ])

pub returns-else-bit : goal.returns-else-bit
returns-else-bit c = λ i below.
    let word = c.args.word in
    let place = c.args.place in
    (elim (cases_eq i place) [
      | inl same ↦ rw (same, bit_at_clear_same w64 word place c.requires, eq-eqb place place refl, c.if-bit.false) refl
      | inr other ↦ rw (bit_at_clear_other w64 word place c.requires i below other, ne_eqb i place other) refl
    ])

use Rattle.std.proofs.Common.{◌≡◌, ◌∙◌, true, sym, ap, arith, Ok}
use Rattle.std.specs.Char.{is_ascii_digit}
use Rattle.std.specs.List.{list_all}
use Rattle.std.proofs.lemmas.List.{take_all}
use Rattle.bound_base.specs.Digits.{value_after}
use Rattle.bound_base.proofs.Decimal.{read_digits}
use Rattle.bound_base.proofs.digits.short_value.Goals as goal

pub returns-then-len-bytes : goal.returns-then-len-bytes
returns-then-len-bytes c limit high =
    let bytes = c.args.bytes.now in
    let first = c.leading_digits-value in
    let whole = take_all first.result.1 bytes (omega arith) in
    let digits : list_all is_ascii_digit bytes ≡ true = rw whole at first.ensures.digits in
    let value : first.result.0 ≡ value_after 0 bytes = rw whole at first.ensures.value in
    read_digits limit bytes (omega arith) digits (omega (arith, value)) ∙ ap Ok (sym value)

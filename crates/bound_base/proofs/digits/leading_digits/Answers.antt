use Rattle.std.proofs.Common.{◌≡◌, ◌+◌, ◌∙◌, true, sym, ap, arith, take, get_or}
use Rattle.std.proofs.lemmas.Bool.{and_from}
use Rattle.std.specs.Char.{is_ascii_digit}
use Rattle.std.specs.List.{list_all}
use Rattle.std.proofs.lemmas.List.{take_more}
use Rattle.std.proofs.lemmas.List.Folds.{list_all_more}
use Rattle.bound_base.specs.Digits.{value_after}
use Rattle.bound_base.proofs.Decimal.{value_after-append}
use Rattle.bound_base.proofs.digits.leading_digits.Goals as goal

pub loop-byte-preserved : goal.loop-byte-preserved
loop-byte-preserved c =
    let text = c.args.text.now in
    let i = c.loop-byte.byte-index in
    let digit : is_ascii_digit (get_or text i 0) ≡ true = sym c.is_ascii_digit.ensures.value ∙ c.if-not-is_ascii_digit.false in
    record {
      len = ap (λ n. n + 1) c.loop-byte.invariant.len;
      digits = list_all_more is_ascii_digit text i 0 c.loop-byte-test.true ∙ and_from (list_all is_ascii_digit (take i text)) (is_ascii_digit (get_or text i 0)) c.loop-byte.invariant.digits digit;
      value = omega (arith, ap (value_after 0) (take_more text i 0 c.loop-byte-test.true), value_after-append 0 (take i text) (get_or text i 0), c.loop-byte.invariant.value, c.from.ensures);
    }

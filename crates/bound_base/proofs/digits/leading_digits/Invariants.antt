use Rattle.std.proofs.Common.{◌≡◌, true, take}
use Rattle.std.specs.Char.{is_ascii_digit}
use Rattle.std.specs.List.{list_all}
use Rattle.bound_base.specs.Digits.{value_after}
use Rattle.bound_base.proofs.digits.leading_digits.Given as goal

-- the bytes so far are digits, of which this is the number
abbrev pub invariant-loop-byte : goal.invariant-loop-byte
invariant-loop-byte l = record {
  len : l.len ≡ l.byte-index;
  digits : list_all is_ascii_digit (take l.byte-index l.text) ≡ true;
  value : l.value ≡ value_after 0 (take l.byte-index l.text);
}

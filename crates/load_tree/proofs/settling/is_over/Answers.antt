use Rattle.std.proofs.Common.{◌≡◌, ◌+◌, ◌-◌, ap, get_or, arith}
use Rattle.std.proofs.lemmas.Bool.{ltb-true, ltb-false}
use Rattle.load_tree.proofs.Levelled.{greatest-le, greatest_reached}
use Rattle.load_tree.proofs.settling.is_over.Goals as goal

pub overflow_add-result : goal.overflow_add-result
overflow_add-result c =
    let found = greatest_reached c.args.values.now c.args.from (c.args.to - c.args.from) (omega arith) in
    omega (arith, c.most_of.ensures, found.2, c.requires.small (c.args.from + found.0) (omega arith) (omega (arith, found.1)))

pub returns-then-from-to-clause-over : goal.returns-then-from-to-clause-over
returns-then-from-to-clause-over c = λ yes.
    let found = greatest_reached c.args.values.now c.args.from (c.args.to - c.args.from) (omega arith) in
    (c.args.from + found.0, omega arith, omega (arith, found.1), omega (arith, c.most_of.ensures, found.2, ltb-true c.args.room (c.most_of.result + c.args.added) yes))

pub returns-then-from-to-clause-within : goal.returns-then-from-to-clause-within
returns-then-from-to-clause-within c = λ no p first last.
    let at : c.args.from + (p - c.args.from) ≡ p = omega arith in
    omega (
      arith,
      c.most_of.ensures,
      ap (λ q. get_or c.args.values.now q 0) at,
      greatest-le c.args.values.now c.args.from (c.args.to - c.args.from) (p - c.args.from) (omega arith),
      ltb-false c.args.room (c.most_of.result + c.args.added) no,
    )

use Rattle.std.proofs.Common.{◌≡◌, ◌+◌, ◌-◌, ap, get_or, arith}
use Rattle.std.proofs.lemmas.List.{get_or-set_other}
use Rattle.load_tree.proofs.raising.raise_ends.Goals as goal

pub add_each-requires-clause-room : goal.add_each-requires-clause-room
add_each-requires-clause-room c = λ p first last.
    let at : c.args.start + (p - c.args.start) ≡ p = omega arith in
    omega (
      arith,
      ap (λ q. get_or c.args.values.now q 0) at,
      get_or-set_other c.args.values.now (c.args.start + c.args.rise.low) p (get_or c.args.values.now (c.args.start + c.args.rise.low) 0 + c.args.rise.low_by) 0 (omega arith),
      c.requires.room (p - c.args.start) (omega arith) (omega arith),
    )

pub add_each-requires-then-rise-clause-room : goal.add_each-requires-then-rise-clause-room
add_each-requires-then-rise-clause-room c = λ p first last.
    let at : c.args.start + (p - c.args.start) ≡ p = omega arith in
    omega (
      arith,
      ap (λ q. get_or c.args.values.now q 0) at,
      c.add_each.ensures.after p (omega arith),
      get_or-set_other c.args.values.now (c.args.start + c.args.rise.low) p (get_or c.args.values.now (c.args.start + c.args.rise.low) 0 + c.args.rise.low_by) 0 (omega arith),
      c.requires.room (p - c.args.start) (omega arith) (omega arith),
    )

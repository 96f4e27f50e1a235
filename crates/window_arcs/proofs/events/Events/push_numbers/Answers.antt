use Rattle.std.proofs.Common.{◌≡◌, ◌<◌, sym, subst, length, arith}
use Rattle.window_arcs.proofs.EventLemmas.{IsRead, read_first, read_more, read_none, read_up}
use Rattle.window_arcs.proofs.events.Events.push_numbers.Goals as goal
use Rattle.window_arcs.proofs.events.Events.push_numbers.Goals.{then-key-len, else-key-len}

pub along-init : goal.along-init
along-init c =
    let keys = c.self.inside.keys.items in
    let first = c.self.inside.first.items in
    let next = c.self.inside.next.items in
    let old = c.args.numbers.now.items in
    elim c.if-key-len.branch [
      | then-key-len w ↦
          subst (λ n. IsRead keys next c.args.key n old old) (sym w.number-is)
          (read_first keys first next c.args.key old c.self.invariant w.index-number.result.now (omega (arith, w.if-key-len.true, c.len.ensures, c.self.inside.first.ok)) w.index-number.ensures)
      | else-key-len w ↦
          let all : length keys ≡ c.if-key-len.number = omega (arith, w.number-is, c.len-past.ensures, c.self.inside.keys.ok) in
          subst (λ n. IsRead keys next c.args.key n old old) all
          (read_none keys first next c.args.key old c.self.invariant (omega (arith, w.if-key-len.false, c.len.ensures, c.self.inside.first.ok)))
    ]

pub along-smaller : goal.along-smaller
along-smaller c =
    let keys = c.self.inside.keys.items in
    let inside : c.along.number < length keys = omega (arith, c.along-test.true, c.len-past.ensures, c.self.inside.keys.ok) in
    omega (
      arith,
      inside,
      read_up keys c.self.inside.first.items c.self.inside.next.items c.args.key c.args.numbers.now.items c.self.invariant c.along.number c.along.numbers.items c.along.invariant inside c.index-number-in-along.result.now c.index-number-in-along.ensures,
    )

pub along-preserved : goal.along-preserved
along-preserved c =
    let keys = c.self.inside.keys.items in
    let next = c.self.inside.next.items in
    let old = c.args.numbers.now.items in
    subst (λ xs. IsRead keys next c.args.key c.index-number-in-along.result.now old xs) (sym c.in_ok-push.ensures.items)
    (read_more keys c.self.inside.first.items next c.args.key old c.self.invariant c.along.number c.along.numbers.items c.along.invariant (omega (arith, c.along-test.true, c.len-past.ensures, c.self.inside.keys.ok))
    c.index-number-in-along.result.now c.index-number-in-along.ensures)

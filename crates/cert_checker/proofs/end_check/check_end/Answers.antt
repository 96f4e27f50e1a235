use Rattle.std.proofs.Common.{refl}
use Rattle.std.proofs.lemmas.Bool.{eq-eqb, ne_eqb}
use Rattle.cert_checker.proofs.end_check.check_end.Goals as goal
use Rattle.cert_checker.proofs.end_check.check_end.Goals.{else-header-via-then-header+else-counted, else-header-via-else-header}

pub returns-then-header-counted : goal.returns-then-header-counted
returns-then-header-counted c =
    let h = c.args.header.now in
    let n = c.args.counted.now in
    rw (c.in_default.is, ne_eqb h.upper n.upper c.if-header-counted.true) refl

pub returns-then-header-counted-2 : goal.returns-then-header-counted-2
returns-then-header-counted-2 c =
    let h = c.args.header.now in
    let n = c.args.counted.now in
    rw (c.in_default.is, eq-eqb h.upper n.upper c.if-header-counted.false, ne_eqb h.flow n.flow c.if-header-counted-2.true) refl

pub returns-then-header-counted-3 : goal.returns-then-header-counted-3
returns-then-header-counted-3 c =
    let h = c.args.header.now in
    let n = c.args.counted.now in
    rw (c.in_default.is, eq-eqb h.upper n.upper c.if-header-counted.false, eq-eqb h.flow n.flow c.if-header-counted-2.false, ne_eqb h.lower n.lower c.if-header-counted-3.true) refl

pub returns-then-counted : goal.returns-then-counted
returns-then-counted c =
    let h = c.args.header.now in
    let n = c.args.counted.now in
    rw (c.in_default.is, eq-eqb h.upper n.upper c.if-header-counted.false, eq-eqb h.flow n.flow c.if-header-counted-2.false, eq-eqb h.lower n.lower c.if-header-counted-3.false, c.if-header.true, ne_eqb n.upper n.flow c.if-counted.true) refl

pub returns : goal.returns
returns c =
    let h = c.args.header.now in
    let n = c.args.counted.now in
    rw (c.in_default.is, eq-eqb h.upper n.upper c.if-header-counted.false, eq-eqb h.flow n.flow c.if-header-counted-2.false, eq-eqb h.lower n.lower c.if-header-counted-3.false)
    (elim c.else-header.branch [
      | else-header-via-then-header+else-counted w ↦ rw (w.if-header.true, eq-eqb n.upper n.flow w.if-counted.false) refl
      | else-header-via-else-header w ↦ rw w.if-header.false refl
    ])

use Rattle.std.proofs.Common.{◌∙◌, ap, set, refl, length, drop, arith}
use Rattle.std.proofs.lemmas.List.{take_at}
use mir.Val.{bool_byte}
use Rattle.stack_curve.proofs.MarkLemmas.{marks-set}
use Rattle.stack_curve.proofs.marks.Marks.set.Goals as goal

pub returns : goal.returns
returns c =
    marks-set bool_byte c.self.inside.places c.args.place c.from.result c.args.on c.self.inside.sums.items c.set_leaf.new.sums _
    (take_at c.set_leaf.new.sums (drop (length c.set_leaf.new.sums) c.self.inside.sums.items) c.self.inside.sums.len (omega (arith, c.set_leaf.auto.sums, c.deref_mut.ensures.len)))
    (rw (c.deref_mut.ensures.value) at c.set_leaf.ensures.leaves)
    refl refl c.from.ensures
    ∙ ap (λ marks. set marks c.args.place c.args.on) c.self.view_is

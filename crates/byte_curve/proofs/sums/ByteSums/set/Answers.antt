use Rattle.std.proofs.Common.{◌∙◌, ap, set, length, drop, arith}
use Rattle.std.proofs.lemmas.List.{take_at}
use Rattle.byte_curve.proofs.LeafLemmas.{leaves-set}
use Rattle.byte_curve.proofs.sums.ByteSums.set.Goals as goal

pub returns : goal.returns
returns c =
    leaves-set c.self.inside.places c.args.place c.from.result c.self.inside.sums.items c.set_leaf.new.sums _
    (take_at c.set_leaf.new.sums (drop (length c.set_leaf.new.sums) c.self.inside.sums.items) c.self.inside.sums.len (omega (arith, c.set_leaf.auto.sums, c.deref_mut.ensures.len)))
    (rw (c.deref_mut.ensures.value) at c.set_leaf.ensures.leaves)
    ∙ ap (λ bytes. set bytes c.args.place c.from.result) c.self.view_is
    ∙ ap (λ bytes. set c.args.self.now c.args.place bytes) c.from.ensures

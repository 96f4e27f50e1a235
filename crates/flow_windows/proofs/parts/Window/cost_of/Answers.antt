use Rattle.std.proofs.Common.{◌∙◌, ◌-◌, ap, sym, cond}
use Rattle.std.specs.Prelude.{sum_by}
use Rattle.std.specs.List.{range_with_len}
use Rattle.std.proofs.lemmas.Bool.{ne_eqb}
use Rattle.flow_model.specs.Windows.{last_window, part_share}
use Rattle.flow_windows.proofs.parts.Window.cost_of.Goals as goal

pub returns-else-self-arc : goal.returns-else-self-arc
returns-else-self-arc c =
    let width = c.args.self.width in
    let k = c.args.self.number in
    let arc = c.args.arc.now in
    (rw c.steps_of.ensures at c.share_of.ensures)
    ∙ sym (ap (λ b. cond b (arc.cost - sum_by (λ j. part_share width j arc) (range_with_len 0 k)) (part_share width k arc)) (ne_eqb k (last_window width arc) c.if-self-arc.false))

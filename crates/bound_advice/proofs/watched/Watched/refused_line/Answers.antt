use Rattle.std.proofs.Common.{◌∙◌, ap, find}
use Rattle.bound_advice.specs.Lines.{is_refused, whole_lines}
use Rattle.bound_advice.proofs.watched.Watched.refused_line.Goals as goal

pub returns : goal.returns
returns g c =
    let lines = whole_lines c.args.self.now.recent.are_all c.args.self.now.recent.bytes.items in
    c.refused_line.ensures ∙ ap (λ form. find (is_refused form) lines) c.form.ensures

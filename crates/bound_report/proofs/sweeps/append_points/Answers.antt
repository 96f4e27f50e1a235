use Rattle.std.proofs.Common.{◌≡◌, ◌∙◌, sym, ap, arith, ◌++◌, flat_map, take}
use Rattle.std.proofs.lemmas.List.{take_all}
use Rattle.cache_model.specs.Texts.{text_of}
use Rattle.bound_report.specs.Sweeps.{capacity_lines}
use Rattle.bound_report.proofs.AppendedLines.{text_of_all}
use Rattle.bound_report.proofs.sweeps.append_points.Goals as goal

pub returns : goal.returns
returns c =
    let points = c.args.points.now in
    let all : take c.loop-point.point-index points ≡ points = take_all c.loop-point.point-index points c.loop-point-test.false in
    c.loop-point.invariant
    ∙ ap (λ text. c.args.text.now.items ++ text) (ap (flat_map (λ point. text_of (capacity_lines c.args.replays.now point))) all ∙ sym (text_of_all (capacity_lines c.args.replays.now) points))

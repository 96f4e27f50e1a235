use Rattle.std.proofs.Common.{◌==◌}
use Rattle.trace_lines.proofs.Cuts.{split-found, split-missing}
use Rattle.trace_lines.proofs.commas.cut_at_comma.Goals as goal

pub returns-in_err-comma : goal.returns-in_err-comma
returns-in_err-comma c = rw c.from_residual.ensures (split-missing (λ byte. byte == 44) c.args.text.now c.in_err-comma.ensures)

pub returns : goal.returns
returns c =
    rw (c.split_at.ensures.front, c.split_at-2.ensures.back)
    (split-found (λ byte. byte == 44) c.args.text.now c.in_ok-comma.comma c.in_ok-comma.ensures.0 c.in_ok-comma.ensures.1)

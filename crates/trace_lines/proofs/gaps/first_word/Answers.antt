use Rattle.std.proofs.Common.{◌≡◌, ◌<◌, ◌++◌, ◌∙◌, take, ap, sym, arith}
use Rattle.std.proofs.lemmas.List.{take-append-drop}
use Rattle.std.specs.List.{position_or_len}
use Rattle.trace_lines.specs.Lines.{is_gap}
use Rattle.trace_lines.proofs.Cuts.{position-or, parts-none, parts-at, part_len-pos}
use Rattle.trace_lines.proofs.gaps.first_word.Goals as goal

pub returns-in_err-start-clause-words : goal.returns-in_err-start-clause-words
returns-in_err-start-clause-words c =
    rw c.from_residual.ensures (parts-none is_gap c.args.line.now (sym c.in_err-start.ensures))

pub returns-clause-words : goal.returns-clause-words
returns-clause-words c =
    let text = c.split_at.result.1.now in
    let end : c.unwrap_or-end.result ≡ position_or_len is_gap text = rw (c.unwrap_or-end.ensures, c.first_gap.ensures) (position-or is_gap text) in
    rw (c.split_at-2.ensures.front, c.split_at-2.ensures.back, end, c.split_at.ensures.back)
    (parts-at is_gap c.args.line.now c.in_ok-start.start (sym c.in_ok-start.ensures))

pub returns-clause-after : goal.returns-clause-after
returns-clause-after c =
    let text = c.split_at.result.1.now in
    let parts : text ≡ c.split_at-2.result.0.now ++ c.split_at-2.result.1.now = rw (c.split_at-2.ensures.front, c.split_at-2.ensures.back) (sym (take-append-drop (c.unwrap_or-end.result) text)) in
    (take c.in_ok-start.start c.args.line.now, sym (take-append-drop c.in_ok-start.start c.args.line.now) ∙ ap (λ end. take c.in_ok-start.start c.args.line.now ++ end) (sym c.split_at.ensures.back ∙ parts))

pub returns-clause-shorter : goal.returns-clause-shorter
returns-clause-shorter c =
    let text = c.split_at.result.1.now in
    let end : c.unwrap_or-end.result ≡ position_or_len is_gap text = rw (c.unwrap_or-end.ensures, c.first_gap.ensures) (position-or is_gap text) in
    let some : 0 < position_or_len is_gap text = rw c.split_at.ensures.back (part_len-pos is_gap c.args.line.now c.in_ok-start.start (sym c.in_ok-start.ensures)) in
    omega (arith, end, some, c.split_at.ensures.back_len, c.split_at-2.ensures.back_len)

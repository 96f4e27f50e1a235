use Rattle.std.proofs.Common.{◌≡◌, ◌∙◌, sym, ap, ◌++◌, flat_map, take}
use Rattle.std.proofs.lemmas.List.{take_all}
use Rattle.cache_model.specs.Texts.{text_of}
use Rattle.bound_report.specs.Sweeps.{counts_lines}
use Rattle.bound_report.proofs.AppendedLines.{text_of_all}
use Rattle.bound_report.proofs.sweeps.append_replays.Goals as goal

pub returns : goal.returns
returns c =
    let replays = c.args.replays.now in
    let all : take c.loop-replay.replay-index replays ≡ replays = take_all c.loop-replay.replay-index replays c.loop-replay-test.false in
    c.loop-replay.invariant
    ∙ ap (λ text. c.args.text.now.items ++ text) (ap (flat_map (λ replay. text_of (counts_lines c.args.capacity replay))) all ∙ sym (text_of_all (counts_lines c.args.capacity) replays))

use Rattle.std.proofs.Common.{◌≡◌, ◌∙◌, ◌++◌, ℕ, sym, ap, List, append_assoc, flat_map}
use Rattle.std.proofs.lemmas.List.Concat.{flat_map-append}
use Rattle.std.proofs.lemmas.Result.{on_ok_weaker}
use Rattle.cache_model.specs.Texts.{line, text_of}
use Rattle.bound_report.specs.Sweeps.{bound_lines, counts_lines}
use Rattle.bound_report.proofs.sweeps.append_capacity.Goals as goal

pub returns : goal.returns
returns c =
    let bounds : List (List ℕ) = bound_lines c.args.point.now in
    let counts : List (List ℕ) = flat_map (counts_lines c.args.point.now.capacity) c.args.replays.now in
    on_ok_weaker c.append_replays.result (λ is.
    is ∙ ap (λ text. text ++ text_of counts) c.in_ok-append_point.ensures ∙ append_assoc c.args.text.now.items (text_of bounds) (text_of counts)
    ∙ ap (λ text. c.args.text.now.items ++ text) (sym (flat_map-append line bounds counts))) c.append_replays.ensures

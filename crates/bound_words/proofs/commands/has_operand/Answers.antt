use Rattle.std.proofs.Common.{◌∙◌, ap, sym}
use Rattle.std.specs.List.{list_any}
use Rattle.std.specs.Str.{bytes_eq}
use Rattle.bound_words.proofs.NamesLemmas.{list_any-map}
use Rattle.bound_words.proofs.commands.has_operand.Goals as goal

pub returns : goal.returns
returns c =
    c.is_among.ensures
    ∙ sym (list_any-map (bytes_eq c.args.name.now) (λ known. known.now) c.operands.result.now)
    ∙ ap (list_any (bytes_eq c.args.name.now)) c.operands.ensures

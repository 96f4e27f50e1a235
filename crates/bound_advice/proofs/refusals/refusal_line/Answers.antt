use Rattle.std.proofs.Common.{◌∙◌, sym, subst}
use Rattle.bound_advice.specs.Advices.{IsAsciiLine}
use Rattle.bound_advice.proofs.RefusalLemmas.{IsAsciiLine-refusal_line}
use Rattle.bound_advice.proofs.refusals.refusal_line.Goals as goal

pub without_end-requires : goal.without_end-requires
without_end-requires c =
    subst IsAsciiLine (sym (c.as_bytes.ensures.text ∙ c.refusal_text-text.ensures)) (IsAsciiLine-refusal_line c.args.refusal.now)

use Rattle.std.proofs.Common.{◌==◌, ◌∙◌}
use Rattle.trace_msr.proofs.Quotes.{is_some-first}
use Rattle.trace_msr.proofs.line.has_quote.Goals as goal

pub returns : goal.returns
returns c = c.is_some.ensures ∙ is_some-first (λ byte. byte == 34) c.args.line.now c.memchr.result c.memchr.ensures

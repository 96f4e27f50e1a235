use Rattle.std.proofs.Common.{◌∙◌, subst}
use Rattle.std.specs.Io.KnownBytes.{Appends}
use Rattle.std.specs.Prelude.{OnErr, OnOk}
use Rattle.bound_io.specs.Writing.{AppendsProperPrefix}
use Rattle.budget_format.proofs.writing.write_header.Goals as goal

pub returns-clause-all : goal.returns-clause-all
returns-clause-all g c =
    subst (λ text. OnOk c.write_all.result (Appends (g.K.Sink.written c.args.sink.now) (g.K.Sink.written c.write_all.new.sink) text)) (c.as_bytes.ensures.text ∙ c.header_text.ensures) c.write_all.ensures.all

pub returns-clause-prefix : goal.returns-clause-prefix
returns-clause-prefix g c =
    subst (λ text. OnErr c.write_all.result (AppendsProperPrefix (g.K.Sink.written c.args.sink.now) (g.K.Sink.written c.write_all.new.sink) text)) (c.as_bytes.ensures.text ∙ c.header_text.ensures) c.write_all.ensures.prefix

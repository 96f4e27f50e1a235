use Rattle.std.proofs.Common.{rules, ◌≡◌, refl, arith, ap, ◌∙◌}
use Rattle.std.proofs.lemmas.Grind.{common_steps}
use Rattle.std.proofs.lemmas.List.{nil_from_length}
use Rattle.bound_io.specs.Positions.{with_held}
use Rattle.bound_io.proofs.FirstLine.{end_known}
use Rattle.bound_io.proofs.line_reader.LineReader.next_whole_line.Goals as goal

pub returns-then-extent-eq0 : goal.returns-then-extent-eq0
returns-then-extent-eq0 g c =
    let f = c.in_ok-extent.ensures in
    let none : c.in_ok-extent.extent.line ≡ 0 = omega (arith, c.if-extent-eq0.true) in
    let end = end_known _ _ _ f.extent none in
    let held = nil_from_length c.find_line.new.self.held (f.within.none none) in (
      (refl, λ _. tt, (record { still = f.still.0 ∙ ap (λ l. with_held c.args.self.now l) held; fault = f.still.1; nothing = end.0; rest = f.kept }, omega (arith, f.within.none none))),
      record { line = end.1; short = tt; refused = λ _. tt; again = rw (f.still.1) tt; reads = record { source = f.reads.source; later = f.reads.later; none_failed = f.reads.none_failed; else_none_failed = tt }; untouched = f.untouched; after = tt },
    )

pub returns : goal.returns
returns g c = grind (arith, common_steps)

pub returns-in_err-extent : goal.returns-in_err-extent
returns-in_err-extent g c = search rules

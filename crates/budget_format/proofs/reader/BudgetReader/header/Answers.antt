use Rattle.std.proofs.Common.{◌∙◌, sym, refl, ap, subst, arith, Ok}
use Rattle.bound_io.specs.Devices.{device}
use Rattle.budget_format.specs.Readers.{HeaderRead}
use Rattle.budget_format.specs.declared.reader.Stage.TheVariants.{InRecords}
use Rattle.budget_format.specs.contracts.reader.BudgetReader.{the_view}
use Rattle.cert_format.proofs.Taken.{same_past, same_taken}
use Rattle.budget_format.proofs.HeaderParts.{few_lines}
use Rattle.budget_format.proofs.Going.{header_goes}
use Rattle.budget_format.proofs.reader.BudgetReader.header.Goals as goal

pub returns-in-Some-clause-taken : goal.returns-in-Some-clause-taken
returns-in-Some-clause-taken g c = same_taken c.args.self.now.lines (g.Q.Source.left c.args.source.now)

pub returns-in-Some-clause-past : goal.returns-in-Some-clause-past
returns-in-Some-clause-past g c = same_past c.args.self.now.lines (g.Q.Source.left c.args.source.now)

pub returns-in-Ok-clause-read : goal.returns-in-Ok-clause-read
returns-in-Ok-clause-read g c = λ none.
    let old = the_view c.self.inside in
    let is = c.self.view_is in
    let at = ap (λ r. r.stage) is ∙ c.requires none in
    let new = the_view (record { lines = c.read_header-found.new.lines; stage = InRecords; left = c.in-Ok.header.requests; price = 0; fault = c.self.inside.fault }) in
    subst (λ r. HeaderRead r new (device (g.Q.Source.left c.args.source.now) (g.Q.Source.left c.read_header-found.new.source) (g.Q.Source.faults c.args.source.now) (g.Q.Source.faults c.read_header-found.new.source)) (Ok c.in-Ok.header)) is
    (header_goes old new _ c.in-Ok.header at (c.self.invariant.4 c.in_default.is at) refl refl refl (rw c.in-Ok.is at c.read_header-found.ensures.read))

pub invariant_of-self : goal.invariant_of-self
invariant_of-self g c =
    let h = c.in-Ok.header in
    let read = rw c.in-Ok.is at c.read_header-found.ensures.read in
    let range = rw c.in-Ok.is at c.read_header-found.ensures.range in
    let at = ap (λ r. r.stage) c.self.view_is ∙ c.requires (ap (λ r. r.fault) (sym c.self.view_is) ∙ c.in_default.is) in
    let first = c.self.invariant.4 c.in_default.is at in (
      read.limit ∙ c.self.invariant.0,
      read.held,
      λ none. read.given.1,
      λ none at. omega (arith, read.given.0, first, range.requests, few_lines h),
      λ none wrong. cc,
      omega arith,
    )

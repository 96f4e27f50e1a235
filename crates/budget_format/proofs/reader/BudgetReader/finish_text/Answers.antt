use Rattle.std.proofs.Common.{◌∙◌, refl, ap, subst, Some, Ok}
use Rattle.bound_io.specs.Devices.{device}
use Rattle.budget_format.specs.Readers.{EndRead, IsRefused}
use Rattle.budget_format.specs.declared.reader.Stage.TheVariants.{AtEnd}
use Rattle.budget_format.specs.contracts.reader.BudgetReader.{the_view}
use Rattle.cert_format.proofs.Taken.{same_past, same_taken}
use Rattle.budget_format.proofs.Going.{end_goes, end_stops}
use Rattle.budget_format.proofs.reader.BudgetReader.finish_text.Goals as goal

pub returns-in-Some-clause-taken : goal.returns-in-Some-clause-taken
returns-in-Some-clause-taken g c = same_taken c.args.self.now.lines (g.Q.Source.left c.args.source.now)

pub returns-in-Some-clause-past : goal.returns-in-Some-clause-past
returns-in-Some-clause-past g c = same_past c.args.self.now.lines (g.Q.Source.left c.args.source.now)

pub returns-in-Ok-clause-read : goal.returns-in-Ok-clause-read
returns-in-Ok-clause-read g c = λ none.
    let old = the_view c.self.inside in
    let is = c.self.view_is in
    let at = ap (λ r. r.stage) is ∙ (c.requires none).0 in
    let new = the_view (record { lines = c.read_end-finished.new.lines; stage = AtEnd; left = c.self.inside.left; price = c.self.inside.price; fault = c.self.inside.fault }) in
    rw c.in-Ok.is
    (subst (λ r. EndRead r new (device (g.Q.Source.left c.args.source.now) (g.Q.Source.left c.read_end-finished.new.source) (g.Q.Source.faults c.args.source.now) (g.Q.Source.faults c.read_end-finished.new.source)) (Ok c.in-Ok.field-0)) is
    (end_goes old new _ c.in-Ok.field-0 at (ap (λ r. r.left) is ∙ (c.requires none).1) refl (ap (λ r. r.left) is ∙ (c.requires none).1) (rw c.in-Ok.is at c.read_end-finished.ensures)))

pub returns-in-Err-clause-read : goal.returns-in-Err-clause-read
returns-in-Err-clause-read g c = λ none.
    let old = the_view c.self.inside in
    let is = c.self.view_is in
    let at = ap (λ r. r.stage) is ∙ (c.requires none).0 in
    let new = the_view (record { lines = c.read_end-finished.new.lines; stage = c.self.inside.stage; left = c.self.inside.left; price = c.self.inside.price; fault = Some c.in-Err.fault }) in
    subst (λ r. IsRefused r (device (g.Q.Source.left c.args.source.now) (g.Q.Source.left c.read_end-finished.new.source) (g.Q.Source.faults c.args.source.now) (g.Q.Source.faults c.read_end-finished.new.source)) c.in-Err.fault) is
    (end_stops old new _ c.in-Err.fault at (ap (λ r. r.left) is ∙ (c.requires none).1) (rw c.in-Err.is at c.read_end-finished.ensures))

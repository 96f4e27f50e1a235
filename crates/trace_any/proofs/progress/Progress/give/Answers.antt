use Rattle.std.proofs.Common.{◌≡◌, ◌+◌, ◌<◌, ◌∙◌, sym, refl, arith, ap}
use Rattle.trace_any.specs.contracts.progress.Progress.{the_view}
use Rattle.trace_any.specs.FirstLines.{coming_in}
use Rattle.trace_any.specs.Readings.{pieces_of}
use Rattle.trace_any.specs.Readers.{last_mark, onto}
use Rattle.trace_any.proofs.Coming.{first_ahead, gives_block, no_room, with_given}
use Rattle.trace_any.proofs.progress.Progress.give.Goals as goal

pub returns-then-self-clause-ungiven : goal.returns-then-self-clause-ungiven
returns-then-self-clause-ungiven c =
    let is = c.self.view_is in
    (refl, λ bytes. no_room c.args.self.now bytes (omega (arith, c.if-self.true, ap (λ r. r.given) is, ap (λ r. r.limits.requests) is)) (c.requires.some))

pub returns-clause-given_in : goal.returns-clause-given_in
returns-clause-given_in c =
    let is = c.self.view_is in
    let self = the_view c.self.inside in
    let next = c.saturating_add-self-inside.result in
    let room : self.given < self.limits.requests = omega (arith, c.if-self.false, c.self.invariant) in
    let some : 0 < self.ahead.count = omega (arith, c.requires.some, ap (λ r. r.ahead.count) is) in
    let range = c.self.invariant.12 some in
    let follows : 1 < self.ahead.count → next ≡ self.ahead.first + 1 = λ more. omega (arith, more, c.saturating_add-self-inside.ensures, range.2) in
    let noted = c.in_ok-self-inside.ensures in
    λ lines. ap (λ r. coming_in r lines) (sym is) ∙ gives_block self next c.note.new.self c.in_ok-self-inside.field-0 lines room some follows noted.stale noted.seen

pub returns-clause-given : goal.returns-clause-given
returns-clause-given c =
    let is = c.self.view_is in
    let self = the_view c.self.inside in
    let x = first_ahead self in
    let new = with_given self c.saturating_add-self-inside.result c.note.new.self c.in_ok-self-inside.field-0 in
    let form : self.format ≡ c.args.self.now.format = ap (λ r. r.format) is in
    (ap (λ r. r.given + 1) is, λ bytes. returns-clause-given_in c (pieces_of c.args.self.now.format bytes) ∙ ap (λ f. onto x (last_mark new) (coming_in new (pieces_of f bytes))) (sym form))

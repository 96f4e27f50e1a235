use Rattle.std.proofs.Common.{◌∙◌, ◌<◌, ap, arith, length, Some}
use Rattle.std.proofs.lemmas.Option.{slice_get-get_or}
use Rattle.bound_run.specs.Records.{records_in}
use Rattle.bound_run.proofs.RecordsOf.{none, length-records, record-at}
use Rattle.bound_run.proofs.bounds.BoundsRecords.record_at.Goals as goal

pub price_at-requires : goal.price_at-requires
price_at-requires c =
    let b = c.args.self.now in
    omega (arith, length-records b.relaxed.solution.prices b.keeps b.intervals.items b.relaxed.solution.flows, c.requires.sound.prices, c.requires.sound.keeps, c.requires.within)

pub bounds-as_slice-t : goal.bounds-as_slice-t
bounds-as_slice-t c =
    let b = c.args.self.now in
    omega (arith, length-records b.relaxed.solution.prices b.keeps b.intervals.items b.relaxed.solution.flows, c.requires.within, ap length c.as_slice.ensures)

pub flow_from-requires-clause-within : goal.flow_from-requires-clause-within
flow_from-requires-clause-within c =
    let b = c.args.self.now in
    omega (arith, length-records b.relaxed.solution.prices b.keeps b.intervals.items b.relaxed.solution.flows, c.requires.sound.keeps, c.requires.within)

pub returns : goal.returns
returns c =
    let b = c.args.self.now in
    let low : c.args.t < length b.keeps = omega (arith, length-records b.relaxed.solution.prices b.keeps b.intervals.items b.relaxed.solution.flows, c.requires.within) in
    rw (c.price_at.ensures, c.as_slice.ensures, c.flow_from.ensures)
    (slice_get-get_or (records_in b) c.args.t none c.requires.within
    ∙ ap (λ x. Some x) (record-at b.relaxed.solution.prices b.keeps b.intervals.items b.relaxed.solution.flows c.args.t none low))

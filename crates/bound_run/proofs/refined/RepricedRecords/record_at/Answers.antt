use Rattle.std.proofs.Common.{◌∙◌, ◌<◌, ap, arith, sym, length, Some}
use Rattle.std.proofs.lemmas.Option.{slice_get-get_or}
use Rattle.bound_run.specs.Refined.{with_prices}
use Rattle.bound_run.proofs.RecordsOf.{none}
use Rattle.bound_run.proofs.Refining.{length-with_prices, record_at-with_prices}
use Rattle.bound_run.proofs.refined.RepricedRecords.record_at.Goals as goal

pub bounds-self-t : goal.bounds-self-t
bounds-self-t c =
    let r = c.args.self.now in
    omega (arith, length-with_prices r.records.now r.prices.now c.requires.sound, c.requires.sound, c.requires.within)

pub bounds-self-t-2 : goal.bounds-self-t-2
bounds-self-t-2 c =
    let r = c.args.self.now in
    omega (arith, length-with_prices r.records.now r.prices.now c.requires.sound, c.requires.sound, c.requires.within)

pub returns : goal.returns
returns c =
    let r = c.args.self.now in
    let low : c.args.t < length r.records.now = omega (arith, length-with_prices r.records.now r.prices.now c.requires.sound, c.requires.sound, c.requires.within) in
    slice_get-get_or (with_prices r.records.now r.prices.now) c.args.t none c.requires.within
    ∙ ap (λ x. Some x) (record_at-with_prices r.records.now r.prices.now c.args.t none _ c.requires.sound low ∙ sym c.with_price.ensures)

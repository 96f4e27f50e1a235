use Rattle.std.proofs.Common.{◌∙◌, ◌<◌, ap, arith, length, Some}
use Rattle.std.proofs.lemmas.Option.{slice_get-get_or}
use Rattle.ttl_bounds.specs.Records.{records_in}
use Rattle.ttl_bounds.proofs.RecordsOf.{none, length-records, record-at}
use Rattle.ttl_bounds.proofs.bounds.TtlBoundsRecords.record_at.Goals as goal

pub step_price-requires : goal.step_price-requires
step_price-requires c =
    let b = c.args.self.now in
    omega (arith, length-records b.price b.keeps, c.requires.within, ap length c.as_slice-keeps.ensures)

pub bounds-keeps-t : goal.bounds-keeps-t
bounds-keeps-t c =
    let b = c.args.self.now in
    omega (arith, length-records b.price b.keeps, c.requires.within, ap length c.as_slice-keeps.ensures)

pub returns : goal.returns
returns c =
    let b = c.args.self.now in
    let low : c.args.t < length b.keeps = omega (arith, length-records b.price b.keeps, c.requires.within) in
    rw (c.step_price.ensures, c.as_slice-keeps.ensures)
    (slice_get-get_or (records_in b) c.args.t none c.requires.within ∙ ap (λ x. Some x) (record-at b.price b.keeps c.args.t none low))

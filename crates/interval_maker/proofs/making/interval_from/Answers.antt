use Rattle.std.proofs.Common.{◌∙◌, sym}
use Rattle.cache_model.specs.Claim.{marked}
use Rattle.interval_maker.proofs.Starting.{object_named, too_large, uncounted, no_next, with_next, next_is_interval}
use Rattle.interval_maker.proofs.making.interval_from.Goals as goal

pub returns-then-terms-object : goal.returns-then-terms-object
returns-then-terms-object c =
    too_large (marked c.args.terms c.args.trace.now.fills) c.args.trace.now.objects c.args.t c.object-object.result
    (object_named c.args.trace.now.objects c.request.result c.args.t c.object-object.result c.request.ensures.object c.object-object.ensures.object)
    c.if-terms-object.true

pub returns-in_default : goal.returns-in_default
returns-in_default c = no_next (marked c.args.terms c.args.trace.now.fills) c.args.trace.now.objects c.args.t c.in_default.ensures.nearest

pub returns-then-not-counts : goal.returns-then-not-counts
returns-then-not-counts c = uncounted (marked c.args.terms c.args.trace.now.fills) c.args.trace.now.objects c.args.t c.in-Some.end c.in-Some.ensures.nearest (sym c.counts.ensures ∙ c.if-not-counts.true)

pub returns : goal.returns
returns c = (
  with_next (marked c.args.terms c.args.trace.now.fills) c.args.trace.now.objects c.args.t c.in-Some.end c.object-object.result c.gain.result
      (object_named c.args.trace.now.objects c.request.result c.args.t c.object-object.result c.request.ensures.object c.object-object.ensures.object)
      c.if-terms-object.false c.in-Some.ensures.nearest (sym c.counts.ensures ∙ c.if-not-counts.false) c.gain.ensures,
  next_is_interval c.args.terms.objective c.args.trace.now.objects c.args.t c.in-Some.end c.object-object.result c.gain.result c.object-object.ensures.size c.in-Some.ensures.nearest c.gain.ensures,
)

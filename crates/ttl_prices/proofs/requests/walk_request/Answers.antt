use Rattle.std.proofs.Common.{◌≡◌, ℕ, ◌*◌, ◌/◌, ◌∙◌, ap, arith, cond}
use Rattle.std.proofs.lemmas.Result.{on_ok_weaker}
use Rattle.cache_model.specs.declared.objects.Object.{Object}
use Rattle.cache_model.specs.Claim.{counts, gain_of, marked, request_at}
use Rattle.ttl_prices.specs.Bounds.{priced}
use Rattle.ttl_prices.proofs.requests.walk_request.Goals as goal

pub returns-then-object-terms-clause-walked : goal.returns-then-object-terms-clause-walked
returns-then-object-terms-clause-walked c =
    on_ok_weaker c.skip.result
    (λ walked times prices ttl numbered clocked h.
    walked (priced c.args.terms c.args.scale.unit c.args.scale.denominator c.args.trace.now times prices ttl) c.args.place.t
    (record {
      within = c.requires.within;
      numbered = numbered;
      above = omega (arith, c.if-object-terms.true, ap (λ (x : Object). x.size) c.requested-object.ensures.object);
    }) h)
    c.skip.ensures.walked

pub returns-clause-walked : goal.returns-clause-walked
returns-clause-walked c =
    let same : c.requested-object.result ≡ request_at c.args.trace.now.objects c.args.place.t = c.requested-object.ensures.object in
    let gain : Object → ℕ = λ x.
    cond (counts (marked c.args.terms c.args.trace.now.fills) c.args.place.t) (c.args.scale.denominator * gain_of c.args.terms.objective x) 0 in
    on_ok_weaker c.request.result
    (λ walked times prices ttl numbered clocked h.
    walked (priced c.args.terms c.args.scale.unit c.args.scale.denominator c.args.trace.now times prices ttl) c.args.place.t
    (record {
      within = c.requires.within;
      numbered = numbered;
      fits = omega (arith, c.if-object-terms.false, ap (λ (x : Object). x.size) same);
      clock = clocked;
      fills = c.only_fills.ensures;
      weight = ap (λ (x : Object). x.size / c.args.scale.unit) same;
      gain = c.gain_at.ensures.gain ∙ ap gain same;
    }) h)
    c.request.ensures.walked

use Rattle.std.proofs.Common.{◌≡◌, ◌∙◌, ◌<◌, ◌^◌, ◌&&◌, nat_le, ℕ, Bool, List, length, sym, refl, ap, arith}
use Rattle.std.proofs.lemmas.List.{get_or_read}
use Rattle.std.proofs.lemmas.Option.{get_or_from_slice_get}
use Rattle.cache_model.specs.declared.objects.Object.{Object}
use Rattle.cache_model.specs.Claim.{Terms, contents_of, marked, no_object, request_at}
use Rattle.cache_model.specs.Objects.{objects_of}
use Rattle.cache_rules.proofs.Earning.{earned_of-le}
use Rattle.freshness.specs.Stale.{clock}
use Rattle.ttl_laws.specs.Fresh.{is_fresh_hit, written_at}
use Rattle.ttl_laws.proofs.Idle.{clock-more}
use Rattle.ttl_scores.specs.Written.{writes_own}
use Rattle.ttl_scores.proofs.Known.{HasClocks, earned_at, written_past, sum-more, earned-found, written-found, size-le, fresh-found, writes-found, clock-kept, clocks-written, clocks-unwritten}
use Rattle.ttl_scores.proofs.totals.fresh_totals.Goals as goal
use Rattle.ttl_scores.proofs.totals.fresh_totals.Goals.{then-anew, else-anew}

pub loop-t-preserved : goal.loop-t-preserved
loop-t-preserved c =
    let trace : List Object = c.args.trace.now.objects in
    let fills : List Bool = c.args.trace.now.fills in
    let times : List ℕ = c.args.times.now in
    let ttl : ℕ = c.args.ttl in
    let keeps : List Bool = c.args.keeps.now in
    let terms : Terms = marked c.args.terms fills in
    let t : ℕ = c.loop-t.t in
    let number : ℕ = c.request-number.result in
    let clocks : List ℕ = c.loop-t.clocks.items in
    let has : HasClocks fills trace times ttl keeps t clocks = c.loop-t.invariant.clocks in
    let within : t < length trace = omega (arith, c.loop-t-test.true, c.len-t-end.ensures.requests) in
    let now : c.max-clock.result ≡ clock times t
    = clock-more times t c.loop-t.clock c.max-clock.result (omega (arith, within, c.requires.one_time_each)) c.loop-t.invariant.clock c.max-clock.ensures in
    let low : number < length clocks = omega (arith, c.request-number.ensures.known, has.known) in
    let last : c.index.result.now ≡ written_at fills trace times ttl (contents_of trace keeps) t (request_at trace t)
    = get_or_read clocks number c.index.result.now low c.index.ensures 0
    ∙ clock-kept fills trace times ttl keeps t within number c.request-number.ensures.number clocks has in
    let object : c.object-object.result ≡ request_at trace t
    = sym (get_or_from_slice_get (objects_of trace) number c.object-object.result no_object c.object-object.ensures.object)
    ∙ get_or_from_slice_get (objects_of trace) number (request_at trace t) no_object c.request-number.ensures.object in
    let fresh : c.is_fresh-fresh.result ≡ is_fresh_hit fills trace times ttl (contents_of trace keeps) t
    = fresh-found fills trace times ttl keeps t within c.max-clock.result c.index.result.now c.is_fresh-fresh.result now last c.is_fresh-fresh.ensures in
    let writes : c.writes_anew-anew.result ≡ writes_own fills trace times ttl (contents_of trace keeps) t
    = writes-found fills trace times ttl keeps t within c.writes_anew-anew.result c.is_fresh-fresh.result c.writes_anew-anew.ensures fresh in
    record {
      clock = now;
      clocks = elim c.if-anew.branch [
        | then-anew w ↦
            clocks-written fills trace times ttl keeps t within number c.request-number.ensures.number clocks has c.max-clock.result c.if-anew.clocks.items
            now (sym writes ∙ w.if-anew.true) (ap (λ v. v.items) w.clocks-is)
        | else-anew w ↦
            clocks-unwritten fills trace times ttl keeps t within number c.request-number.ensures.number clocks has c.if-anew.clocks.items
            (sym writes ∙ w.if-anew.false) (ap (λ v. v.items) w.clocks-is)
      ];
      score = sum-more (earned_at terms trace times ttl keeps) t c.loop-t.score c.earned.result _ c.loop-t.invariant.score
          (earned-found terms trace times ttl keeps t c.earned.result c.object-object.result c.is_fresh-fresh.result object fresh c.earned.ensures) refl;
      few_score = omega (arith, c.loop-t.invariant.few_score, c.earned.ensures, earned_of-le terms t c.object-object.result c.is_fresh-fresh.result c.object-object.ensures.size);
      written = sum-more (written_past c.args.terms.warmup fills trace times ttl keeps) t c.loop-t.written c.written_past.result _ c.loop-t.invariant.written
          (written-found c.args.terms.warmup fills trace times ttl keeps t c.written_past.result c.object-object.result c.writes_anew-anew.result object writes c.written_past.ensures) refl;
      few_written = omega (
        arith,
        c.loop-t.invariant.few_written,
        c.written_past.ensures,
        size-le (nat_le c.args.terms.warmup t && c.writes_anew-anew.result) c.object-object.result.size (2 ^ 48) c.object-object.ensures.size.1,
      );
    }

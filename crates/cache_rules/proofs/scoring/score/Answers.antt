use Rattle.std.proofs.Common.{◌≡◌, ◌∙◌, ◌≤◌, ◌<◌, ◌+◌, ℕ, Bool, false, cond, List, sym, ap, refl, arith, length, ⊎_elim, subst}
use Rattle.std.proofs.lemmas.Bool.{cases_lt, both_ways}
use Rattle.cache_model.specs.declared.objects.Object.{Object}
use Rattle.cache_model.specs.Keeps.{load_after}
use Rattle.cache_model.specs.Claim.{Terms, holds, total_size, is_kept, held_before, request_at, terms_from}
use Rattle.cache_model.proofs.Scores.{load_after-request, size-le-total_size, allowed-from_loads}
use Rattle.cache_rules.proofs.Earning.{gains_more, gains_all, earned_of-le}
use Rattle.cache_rules.proofs.scoring.score.Goals as goal

-- the load that is counted is that of the contents after the request
counted_load : (trace : List Object) (keeps : List Bool) (t : ℕ) → t < length trace → (before after : ℕ) (hit : Bool) (object : Object)
    → before ≡ total_size (held_before trace keeps t)
    → object ≡ request_at trace t
    → hit ≡ holds (held_before trace keeps t) (request_at trace t)
    → after + cond hit object.size 0 ≡ before + cond (is_kept keeps t) object.size 0
    → after ≡ load_after trace keeps t
counted_load trace keeps t within before after hit object load_is object_is hit_is moves =
    let leaves : cond hit object.size 0 ≡ cond (holds (held_before trace keeps t) (request_at trace t)) (request_at trace t).size 0 =
    ap (λ b. cond b object.size 0) hit_is ∙ ap (λ (x : Object). cond (holds (held_before trace keeps t) (request_at trace t)) x.size 0) object_is in
    let enters : cond (is_kept keeps t) object.size 0 ≡ cond (is_kept keeps t) (request_at trace t).size 0 =
    ap (λ (x : Object). cond (is_kept keeps t) x.size 0) object_is in
    omega (arith, load_after-request trace t within keeps)

-- each load is within the capacity, one request later
fits_more : (trace : List Object) (capacity : ℕ) (keeps : List Bool) (t : ℕ)
    → ((k : ℕ) → k < t → load_after trace keeps k ≤ capacity) → load_after trace keeps t ≤ capacity
    → (k : ℕ) → k < t + 1 → load_after trace keeps k ≤ capacity
fits_more trace capacity keeps t earlier here k low =
    ⊎_elim
    (λ (before : k < t). earlier k before)
    (λ (late : t ≤ k). let e : t ≡ k = omega arith in subst (λ j. load_after trace keeps j ≤ capacity) e here)
    (cases_lt k t)

pub moved-load-requires-clause-held : goal.moved-load-requires-clause-held
moved-load-requires-clause-held c = λ hit.
    let object : c.requested-object.result ≡ request_at c.args.trace.now.objects c.loop-t.t = c.requested-object.ensures.object in
    omega (
      arith,
      ap (λ (x : Object). x.size) object,
      c.loop-t.invariant.load,
      size-le-total_size (held_before c.args.trace.now.objects c.args.keeps.now c.loop-t.t) (request_at c.args.trace.now.objects c.loop-t.t) (sym c.is_hit-hit.ensures ∙ hit),
    )

pub returns-then-load-capacity-clause-fits : goal.returns-then-load-capacity-clause-fits
returns-then-load-capacity-clause-fits c =
    let after : c.moved-load.result ≡ load_after c.args.trace.now.objects c.args.keeps.now c.loop-t.t =
    counted_load c.args.trace.now.objects c.args.keeps.now c.loop-t.t (omega arith) c.loop-t.load c.moved-load.result c.is_hit-hit.result c.requested-object.result
    c.loop-t.invariant.load c.requested-object.ensures.object c.is_hit-hit.ensures c.moved-load.ensures in
    (λ e. absurd (both_ways false refl e), λ fits. absurd (omega (arith, fits c.loop-t.t (omega arith))))

pub returns-then-load-capacity-clause-overfull : goal.returns-then-load-capacity-clause-overfull
returns-then-load-capacity-clause-overfull c = record {
  within = omega arith;
  load_is = counted_load c.args.trace.now.objects c.args.keeps.now c.loop-t.t (omega arith) c.loop-t.load c.moved-load.result c.is_hit-hit.result c.requested-object.result
      c.loop-t.invariant.load c.requested-object.ensures.object c.is_hit-hit.ensures c.moved-load.ensures;
  over = omega arith;
  earlier = c.loop-t.invariant.fits;
}

pub loop-t-preserved : goal.loop-t-preserved
loop-t-preserved c =
    let terms : Terms = terms_from c.args.objective c.args.capacity c.args.warmup c.args.trace.now.fills in
    let object_is : c.requested-object.result ≡ request_at c.args.trace.now.objects c.loop-t.t = c.requested-object.ensures.object in
    let after : c.moved-load.result ≡ load_after c.args.trace.now.objects c.args.keeps.now c.loop-t.t =
    counted_load c.args.trace.now.objects c.args.keeps.now c.loop-t.t (omega arith) c.loop-t.load c.moved-load.result c.is_hit-hit.result c.requested-object.result
    c.loop-t.invariant.load object_is c.is_hit-hit.ensures c.moved-load.ensures in
    record {
      gains = gains_more terms c.args.trace.now.objects c.args.keeps.now c.loop-t.t c.loop-t.gains _ c.is_hit-hit.result c.requested-object.result
          c.loop-t.invariant.gains object_is c.is_hit-hit.ensures (omega (arith, c.earned.ensures));
      few = omega (arith, c.earned.ensures, earned_of-le terms c.loop-t.t c.requested-object.result c.is_hit-hit.result c.requested-object.ensures.size);
      load = after;
      room = omega arith;
      fits = fits_more c.args.trace.now.objects c.args.capacity c.args.keeps.now c.loop-t.t c.loop-t.invariant.fits (omega arith);
    }

pub returns-clause-score : goal.returns-clause-score
returns-clause-score c =
    gains_all (terms_from c.args.objective c.args.capacity c.args.warmup c.args.trace.now.fills) c.args.trace.now.objects c.args.keeps.now c.loop-t.t c.loop-t.gains c.loop-t.invariant.gains (omega arith)

pub returns-clause-allowed : goal.returns-clause-allowed
returns-clause-allowed c =
    allowed-from_loads c.args.trace.now.objects c.args.capacity c.args.keeps.now (λ t within. c.loop-t.invariant.fits t (omega arith))

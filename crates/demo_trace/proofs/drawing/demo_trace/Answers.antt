use Rattle.std.proofs.Common.{◌≡◌, ◌∙◌, [], ◌∷◌, length, ap, arith, length-append, refl, false, None}
use Rattle.cache_rules.specs.Stored.{mark_if}
use Rattle.std.proofs.lemmas.List.Elements.{All-push}
use Rattle.demo_trace.specs.Lines.{IsWritable}
use Rattle.demo_trace.proofs.Growing.{next_drawn}
use Rattle.demo_trace.proofs.drawing.demo_trace.Goals as goal

pub loop-preserved : goal.loop-preserved
loop-preserved c =
    let i = c.loop.invariant in
    let pushed = c.in_ok-push.ensures.ok in
    let none : mark_if c.loop.trace.marks false ≡ None = rw i.marks refl in
    record {
      fills = rw (pushed, none) i.fills;
      marks = rw pushed i.marks;
      drawn = rw (pushed, c.draw.ensures.object, c.draw.ensures.generator) (next_drawn c.loop.trace.requests.objects c.args.objects c.args.requests c.loop.counter c.loop.generator c.loop-test.true ∙ i.drawn);
      count = omega (arith, ap (λ m. length m.requests.objects) pushed, length-append c.loop.trace.requests.objects (c.draw.result ∷ []), i.count);
      writable = rw pushed (All-push IsWritable c.loop.trace.requests.objects c.draw.result i.writable c.draw.ensures.writable);
    }

use Rattle.std.proofs.Common.{◌≡◌, ◌+◌, ◌∙◌, ◌++◌, Some, ap, arith, sym}
use Rattle.cache_model.specs.Claim.{request_at}
use Rattle.cache_model.specs.Texts.{line}
use Rattle.trace_any.specs.Readings.{full_limits, reading, webcache_form}
use Rattle.demo_trace.specs.Lines.{webcache_line, webcache_text}
use Rattle.demo_trace.proofs.Growing.{all_written, next_line}
use Rattle.demo_trace.proofs.ReadBack.{written_read}
use Rattle.demo_trace.proofs.lines.webcache_text.Goals as goal

pub loop-t-preserved : goal.loop-t-preserved
loop-t-preserved c =
    let trace = c.args.trace.now.objects in
    let t = c.loop-t.t in
    let is : Some c.object-object.result ≡ Some (request_at trace t) = sym c.object-object.ensures.object ∙ c.request.ensures.object in
    let object : c.object-object.result ≡ request_at trace t = cc in
    let bytes = c.as_bytes.ensures.text ∙ c.line_of.ensures ∙ ap (λ x. line (webcache_line (t + 1) x)) object in
    let written : c.extend_from_slice.new.self.items ≡ c.loop-t.text.items ++ line (webcache_line (t + 1) (request_at trace t)) = c.in_ok-extend_from_slice.ensures.items ∙ ap (λ b. c.loop-t.text.items ++ b) bytes in
    rw written (next_line c.loop-t.text.items trace t (omega (arith, c.loop-t-test.true, c.len-t-end.ensures.requests)) ∙ c.loop-t.invariant)

pub returns-clause-read : goal.returns-clause-read
returns-clause-read c = λ each.
    let trace = c.args.trace.now.objects in
    let whole = all_written c.loop-t.text.items (webcache_text trace) trace c.loop-t.t (omega (arith, c.loop-t-test.false, c.len-t-end.ensures.requests)) c.loop-t.invariant in
    ap (reading webcache_form full_limits) whole ∙ written_read trace (omega (arith, c.len-t-end.ensures)) each

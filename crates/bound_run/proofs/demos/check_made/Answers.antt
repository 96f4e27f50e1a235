use Rattle.std.proofs.Common.{◌∙◌, Some, ap, subst, sym}
use Rattle.bound_io.specs.CalmSource.{bytes_left}
use Rattle.trace_any.specs.Readings.{full_limits, reading, webcache_form}
use Rattle.bound_run.specs.Readings.{IsCertified}
use Rattle.bound_run.proofs.Demonstrated.{only_memory}
use Rattle.bound_run.proofs.demos.check_made.Goals as goal

pub returns : goal.returns
returns c =
    let lines = bytes_left c.new-trace.result in
    let text = bytes_left c.new-cert.result in
    let good = ap (λ bytes. (reading webcache_form full_limits bytes).refused) c.new-trace.ensures ∙ c.requires.trace in
    let of_lines = subst (λ bytes. IsCertified webcache_form bytes c.args.cert.items) (sym c.new-trace.ensures) c.requires.certified in
    only_memory lines text (Some (bytes_left c.verdict_of.new.trace)) (Some (bytes_left c.verdict_of.new.cert)) good (subst (λ bytes. IsCertified webcache_form lines bytes) (sym c.new-cert.ensures) of_lines) c.in-Err.refusal (rw c.lasting.ensures at c.in-Err.ensures.refused)

use Rattle.std.proofs.Common.{◌∙◌, sym, List, Bool}
use Rattle.policy_sweep.specs.Running.{Setting, Told}
use Rattle.policy_stream.specs.Streams.{HasBeenTold, IsOneMore}
use Rattle.policy_stream.proofs.Telling.{idle-none, idle-told}
use Rattle.sweep_bounds.specs.Sweep.{HasSeen}
use Rattle.trace_sweep.specs.Faults.{StopsPolicies, fault_of}
use Rattle.trace_sweep.proofs.Stopped.{of_fault, stops-policies}
use Rattle.trace_sweep.proofs.telling.tell.Goals as goal

pub returns-then-is_idle-clause-told : goal.returns-then-is_idle-clause-told
returns-then-is_idle-clause-told c = λ told next settings fills seen more h. idle-told told next c.args.request.now settings c.args.policies.now (sym c.is_idle.ensures ∙ c.if-is_idle.true) more h

pub returns-then-is_idle-clause-known : goal.returns-then-is_idle-clause-known
returns-then-is_idle-clause-known c = λ told next settings fills seen h some. absurd (some (idle-none told settings c.args.policies.now (sym c.is_idle.ensures ∙ c.if-is_idle.true) h))

pub returns-in_ok-request-clause-told : goal.returns-in_ok-request-clause-told
returns-in_ok-request-clause-told c = λ told next settings fills seen more h. c.in_ok-request.ensures.told told next settings more (sym (c.number_of.ensures.number next.trace fills seen) ∙ c.in-Some.is) h

pub returns-in_err-request-clause-fault : goal.returns-in_err-request-clause-fault
returns-in_err-request-clause-fault c =
    of_fault c.from_residual.result (fault_of c.in_err-request.field-0.0)
    (λ fault. (told next : Told) (settings : List Setting) (fills : List Bool) → HasSeen next.trace fills c.args.bounds.now → IsOneMore told next c.args.request.now
    → HasBeenTold told settings c.args.policies.now → StopsPolicies settings next.trace fault) c.from_residual.ensures.1
    (λ told next settings fills seen more h.
    stops-policies settings next.trace c.in_err-request.field-0.0 (c.in_err-request.ensures.named told next settings more (sym (c.number_of.ensures.number next.trace fills seen) ∙ c.in-Some.is) h))

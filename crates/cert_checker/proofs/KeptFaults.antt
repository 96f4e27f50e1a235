-- The faults that the readers keep after a check.
use Rattle.std.proofs.Common.{◌≡◌, ℕ, sym, refl, subst, Option, Some, None, Err}
use Rattle.trace_any.specs.declared.fault.TraceFault.{TraceFault}
use Rattle.trace_any.specs.declared.fault.TraceFault.TheVariants as refusal
use Rattle.cert_format.specs.declared.fault.CertFault.{CertFault}
use Rattle.cert_format.specs.declared.fault.CertFault.TheVariants as text
use Rattle.cert_checker.specs.declared.invalid.InvalidKind.{InvalidKind}
use Rattle.cert_checker.specs.declared.walking.CheckFault.{CheckFault}
use Rattle.cert_checker.specs.declared.walking.CheckFault.TheVariants as fault
use Rattle.cert_checker.specs.Checks.{IsFailing, IsKept, KeepsAnswer, of_text, of_trace}

-- what a check answers
abbrev Answered : Option TraceFault → Option CertFault → CheckFault → Type 0
Answered reader cert why = KeepsAnswer {A = Unit {0}} reader cert (Err why)

-- a fault of the trace
pub kept_trace : (f : TraceFault) (reader : Option TraceFault) (cert : Option CertFault) → reader ≡ Some f → cert ≡ None → Answered reader cert (of_trace f)
kept_trace f reader cert kept none = subst (λ r. Answered r cert (of_trace f)) (sym kept) (subst (λ c. Answered (Some f) c (of_trace f)) (sym none) (is f, refl, tt))
  where
    is : (g : TraceFault) → IsKept (Some g) None (of_trace g)
    is (refusal.BadLine line kind) = refl
    is refusal.ReadFault = refl
    is refusal.InputTooLong = refl
    is refusal.TooManyRequests = refl
    is refusal.NoMemory = tt

-- a fault of the certificate
pub kept_text : (f : CertFault) (reader : Option TraceFault) (cert : Option CertFault) → reader ≡ None → cert ≡ Some f → Answered reader cert (of_text f)
kept_text f reader cert none kept = subst (λ r. Answered r cert (of_text f)) (sym none) (subst (λ c. Answered None c (of_text f)) (sym kept) (is f, tt, refl))
  where
    is : (g : CertFault) → IsKept None (Some g) (of_text g)
    is (text.BadText n kind) = tt
    is (text.Truncated n) = tt
    is (text.Trailing n) = tt
    is text.ReadFault = refl

-- another answer
pub kept_none : (why : CheckFault) (reader : Option TraceFault) (cert : Option CertFault) → reader ≡ None → cert ≡ None → IsKept None None why → Answered reader cert why
kept_none why reader cert first other is = subst (λ r. Answered r cert why) (sym first) (subst (λ c. Answered None c why) (sym other) (is, tt, tt))

-- a rule that fails, or no memory
pub kept_rule : (line : ℕ) (failed : Option InvalidKind) (why : CheckFault) → IsFailing line failed why → IsKept None None why
kept_rule line failed (fault.Invalid n kind) fails = tt
kept_rule line failed (fault.Trace f) fails = absurd fails
kept_rule line failed fault.CertReadFault fails = absurd fails
kept_rule line failed fault.NoMemory fails = tt

-- A check that fails for another reason than a read has no failed read behind it.
use Rattle.std.proofs.Common.{◌≡◌, ◌⊎◌, ℕ, ◌∙◌, ap, inl, inr, Result, Ok, Err, IfErr}
use Rattle.trace_any.specs.declared.fault.TraceFault.{TraceFault}
use Rattle.trace_any.specs.declared.fault.TraceFault.TheVariants as refusal
use Rattle.cert_format.specs.declared.fault.CertFault.{CertFault}
use Rattle.cert_format.specs.declared.fault.CertFault.TheVariants as text
use Rattle.cert_checker.specs.declared.walking.CheckFault.{CheckFault}
use Rattle.cert_checker.specs.declared.walking.CheckFault.TheVariants as fault
use Rattle.cert_checker.specs.declared.verdict.Verdict.{Verdict}
use Rattle.cert_checker.specs.Checks.{Inputs, IsCalm, IsCalmBut, of_text, of_trace}

-- a fault of the trace
pub calm_trace : (f : TraceFault) (before now : ℕ) → (f ≡ refusal.ReadFault) ⊎ (now ≡ before) → (of_trace f ≡ fault.Trace refusal.ReadFault) ⊎ (now ≡ before)
calm_trace f before now (inl failed) = inl (ap of_trace failed)
calm_trace f before now (inr same) = inr same

-- a fault of the certificate
pub calm_text : (f : CertFault) (before now : ℕ) → (f ≡ text.ReadFault) ⊎ (now ≡ before) → (of_text f ≡ fault.CertReadFault) ⊎ (now ≡ before)
calm_text f before now (inl failed) = inl (ap of_text failed)
calm_text f before now (inr same) = inr same

since : {A : Type 0} (first second third : ℕ) → second ≡ first → A ⊎ (third ≡ second) → A ⊎ (third ≡ first)
since first second third before (inl failed) = inl failed
since first second third before (inr same) = inr (same ∙ before)

-- no failed read, and then a check that fails
pub calm_then : (start now end : Inputs) (why : CheckFault) → IsCalm start now → IsCalmBut now end why → IsCalmBut start end why
calm_then start now end why calm but =
    (since start.trace_faults now.trace_faults end.trace_faults calm.trace but.0, since start.certificate_faults now.certificate_faults end.certificate_faults calm.certificate but.1)

-- the last check, which reads the certificate alone
pub calm_last : (start end : Inputs) (before : ℕ) (result : Result Verdict CheckFault) → end.trace_faults ≡ start.trace_faults → before ≡ start.certificate_faults
    → IfErr result (λ why. (why ≡ fault.CertReadFault) ⊎ (end.certificate_faults ≡ before)) → IfErr result (IsCalmBut start end)
calm_last start end before (Ok verdict) trace cert but = tt
calm_last start end before (Err why) trace cert but = (inr trace, since start.certificate_faults before end.certificate_faults cert but)

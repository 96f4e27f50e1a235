-- How little was read beyond a line that fails.
use Rattle.std.proofs.Common.{◌≡◌, ℕ, ◌+◌, ◌≤◌, ap, arith, List, [], length, Option, None, Some, Result, Ok, Err, IfErr, IfSome}
use Rattle.cache_rules.specs.Stored.{Making}
use Rattle.cache_model.specs.declared.certificates.Record.{Record}
use Rattle.bound_io.specs.Positions.{Position}
use Rattle.cert_format.specs.Lines.{IsTaken}
use Rattle.cert_format.specs.Readers.{Reader, fresh}
use Rattle.cert_format.specs.Readings.{bytes_through}
use Rattle.cert_checker.specs.declared.verdict.Verdict.{Verdict}
use Rattle.cert_checker.specs.declared.walking.CheckFault.{CheckFault}
use Rattle.cert_checker.specs.declared.walking.CheckFault.TheVariants as fault
use Rattle.cert_checker.specs.Checks.{Inputs, IsNear, IsSparing}
use Rattle.cert_checker.specs.Keeping.{IsCheckEnd}

-- what a reader that had read nothing has taken is what the source has lost
lost_taken : (was is : Option (List ℕ)) (old new : Position) (line : ℕ) → old.consumed ≡ 0 → old.held ≡ [] → IsTaken old new was is → IfSome was (λ text. new.consumed + length new.held ≤ bytes_through line text + 65536)
    → IfSome was (λ text. IfSome is (λ left. length text ≤ length left + bytes_through line text + 65536))
lost_taken None is old new line consumed held taken near = tt
lost_taken (Some text) None old new line consumed held taken near = tt
lost_taken (Some text) (Some left) old new line consumed held taken near = omega (arith, consumed, ap length held, taken, near)

-- so little was read beyond a line that fails
near_stop : (start end : Inputs) (why : CheckFault) → start.cert ≡ fresh → IsTaken start.cert.lines end.cert.lines start.certificate end.certificate → IsSparing start end why → IsNear start end why
near_stop start end (fault.Invalid line kind) first taken near = record {
  certificate = lost_taken start.certificate end.certificate start.cert.lines end.cert.lines line (ap (λ (r : Reader). r.lines.consumed) first) (ap (λ (r : Reader). r.lines.held) first) taken near.0;
  requests = near.1;
}
near_stop start end (fault.Trace why) first taken near = near
near_stop start end fault.CertReadFault first taken near = tt
near_stop start end fault.NoMemory first taken near = tt

-- so little was read beyond the line of a check that fails
pub near_closed : (has : Making → List Record → Type 0) (start end : Inputs) (result : Result Verdict CheckFault) → start.cert ≡ fresh → IsTaken start.cert.lines end.cert.lines start.certificate end.certificate → IsCheckEnd has start end result
    → IfErr result (IsNear start end)
near_closed has start end (Ok verdict) first taken closed = tt
near_closed has start end (Err why) first taken closed = near_stop start end why first taken closed.near

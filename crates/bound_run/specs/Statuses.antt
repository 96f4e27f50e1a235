-- The ends of a run.
use Rattle.std.specs.Prelude.{ℕ}
use Rattle.bound_report.specs.declared.refusal.Refusal.{Refusal}
use Rattle.bound_report.specs.declared.refusal.Refusal.TheVariants as refusal
use Rattle.trace_any.specs.declared.fault.TraceFault.{TraceFault as FaultOfTrace}
use Rattle.trace_any.specs.declared.fault.TraceFault.TheVariants as trace
use Rattle.bound_report.specs.declared.refusal.LimitName.TheVariants.{Requests, TraceBytes, PassRequests, PassBytes, PassObjects, Denominator}
use Rattle.trace_sweep.specs.declared.fault.SweepFault.{SweepFault}
use Rattle.trace_sweep.specs.declared.fault.SweepFault.TheVariants as sweep
use Rattle.cert_checker.specs.declared.walking.CheckFault.{CheckFault}
use Rattle.cert_checker.specs.declared.walking.CheckFault.TheVariants as check
use Rattle.stack_curve.specs.declared.pass.CurveFault.{CurveFault}
use Rattle.stack_curve.specs.declared.pass.CurveFault.TheVariants as curve
use Rattle.hit_flags.specs.declared.fault.FlagFault.{FlagFault}
use Rattle.hit_flags.specs.declared.fault.FlagFault.TheVariants as flag
use Rattle.bound_run.specs.declared.bounds.BoundsFault.{BoundsFault}
use Rattle.bound_run.specs.declared.bounds.BoundsFault.TheVariants as bounds
use Rattle.ttl_bounds.specs.declared.faults.TtlBoundsFault.{TtlBoundsFault}
use Rattle.ttl_bounds.specs.declared.faults.TtlBoundsFault.TheVariants as ttl_bounds
use Rattle.bound_run.specs.declared.status.Status.{Status}
use Rattle.bound_run.specs.declared.status.Status.TheVariants.{Done, Invalid, Words, BadLine, Limit, TraceFault, CertFault, ReportFault, MadeFault, NoMemory, PolicyMemory, Unequal, NotFlag, FlagCount, Impossible}

-- the exit status of the program
abbrev pub code_of : Status → ℕ
code_of Done = 0
code_of (Invalid line kind) = 1
code_of (Words fault) = 2
code_of (BadLine line kind) = 3
code_of (Limit name) = 4
code_of TraceFault = 5
code_of CertFault = 6
code_of ReportFault = 7
code_of MadeFault = 8
code_of NoMemory = 9
code_of (PolicyMemory policy capacity) = 9
code_of (Unequal first other) = 10
code_of (NotFlag line) = 1
code_of (FlagCount flags requests) = 1
code_of (Impossible cause capacity) = 13

-- how a run ended: all was done, it was refused, or its report could not be written
pub data Ending : Type 0 where
  done : Ending
  refused : Refusal → Ending
  unreported : Ending

-- the ending of a status
abbrev pub ending_of : Status → Ending
ending_of Done = done
ending_of (Invalid line kind) = refused (refusal.Invalid line kind)
ending_of (Words fault) = refused (refusal.Words fault.place fault.kind)
ending_of (BadLine line kind) = refused (refusal.BadLine line kind)
ending_of (Limit name) = refused (refusal.Limit name)
ending_of TraceFault = refused refusal.TraceFault
ending_of CertFault = refused refusal.CertFault
ending_of ReportFault = unreported
ending_of MadeFault = refused refusal.MadeFault
ending_of NoMemory = refused refusal.NoMemory
ending_of (PolicyMemory policy capacity) = refused (refusal.PolicyMemory policy capacity)
ending_of (Unequal first other) = refused (refusal.Unequal first other)
ending_of (NotFlag line) = refused (refusal.NotFlag line)
ending_of (FlagCount flags requests) = refused (refusal.FlagCount flags requests)
ending_of (Impossible cause capacity) = refused (refusal.Impossible cause capacity)

-- the status that a refusal ends in
abbrev pub status_of : Refusal → Status
status_of (refusal.Invalid line kind) = Invalid line kind
status_of (refusal.Words place kind) = Words (record { place = place; kind = kind })
status_of (refusal.BadLine line kind) = BadLine line kind
status_of (refusal.Limit name) = Limit name
status_of refusal.TraceFault = TraceFault
status_of refusal.CertFault = CertFault
status_of refusal.MadeFault = MadeFault
status_of refusal.NoMemory = NoMemory
status_of (refusal.PolicyMemory policy capacity) = PolicyMemory policy capacity
status_of (refusal.Unequal first other) = Unequal first other
status_of (refusal.NotFlag line) = NotFlag line
status_of (refusal.FlagCount flags requests) = FlagCount flags requests
status_of (refusal.Impossible cause capacity) = Impossible cause capacity

-- the refusal that a fault of the trace leads to
abbrev pub refusal_of : FaultOfTrace → Refusal
refusal_of (trace.BadLine line kind) = refusal.BadLine line kind
refusal_of trace.ReadFault = refusal.TraceFault
refusal_of trace.InputTooLong = refusal.Limit TraceBytes
refusal_of trace.TooManyRequests = refusal.Limit Requests
refusal_of trace.NoMemory = refusal.NoMemory

-- the refusal that a fault of a trace that is read in one pass leads to
abbrev pub refusal_of_pass : FaultOfTrace → Refusal
refusal_of_pass (trace.BadLine line kind) = refusal.BadLine line kind
refusal_of_pass trace.ReadFault = refusal.TraceFault
refusal_of_pass trace.InputTooLong = refusal.Limit PassBytes
refusal_of_pass trace.TooManyRequests = refusal.Limit PassRequests
refusal_of_pass trace.NoMemory = refusal.NoMemory

-- the refusal that a fault of a sweep leads to
abbrev pub refusal_of_sweep : SweepFault → Refusal
refusal_of_sweep (sweep.Trace fault) = refusal_of_pass fault
refusal_of_sweep sweep.TooManyObjects = refusal.Limit PassObjects
refusal_of_sweep (sweep.PolicyMemory policy capacity) = refusal.PolicyMemory policy capacity

-- the refusal that a fault of a check leads to
abbrev pub refusal_of_check : CheckFault → Refusal
refusal_of_check (check.Invalid line kind) = refusal.Invalid line kind
refusal_of_check (check.Trace fault) = refusal_of fault
refusal_of_check check.CertReadFault = refusal.CertFault
refusal_of_check check.NoMemory = refusal.NoMemory

-- the refusal that a fault of bounds leads to
abbrev pub refusal_of_bounds : BoundsFault → Refusal
refusal_of_bounds bounds.Denominator = refusal.Limit Denominator
refusal_of_bounds bounds.NoMemory = refusal.NoMemory

-- the refusal that a fault of bounds with a time to live leads to
abbrev pub refusal_of_ttl_bounds : TtlBoundsFault → Refusal
refusal_of_ttl_bounds ttl_bounds.Denominator = refusal.Limit Denominator
refusal_of_ttl_bounds ttl_bounds.NoMemory = refusal.NoMemory

-- the refusal that a fault of a curve leads to
abbrev pub refusal_of_curve : CurveFault → Refusal
refusal_of_curve (curve.Unequal first other) = refusal.Unequal first other
refusal_of_curve curve.NoMemory = refusal.NoMemory

-- the refusal that a fault of claimed hits leads to
abbrev pub refusal_of_flags : FlagFault → Refusal
refusal_of_flags (flag.Trace fault) = refusal_of fault
refusal_of_flags (flag.NotFlag line) = refusal.NotFlag line
refusal_of_flags (flag.Count flags requests) = refusal.FlagCount flags requests
refusal_of_flags flag.ReadFault = refusal.CertFault
refusal_of_flags flag.NoMemory = refusal.NoMemory

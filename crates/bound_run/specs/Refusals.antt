-- Why a run is refused: for each command the causes of its refusals.
use Rattle.std.specs.Prelude.{◌≡◌, Some, IfSome, max}
use Rattle.bound_io.specs.Devices.{Device, HasFailed}
use Rattle.trace_any.specs.declared.fault.TraceFault.{TraceFault as FaultOfTrace}
use Rattle.trace_any.specs.declared.fault.TraceFault.TheVariants as trace
use Rattle.trace_any.specs.declared.format.Format.{Format}
use Rattle.trace_any.specs.FirstLines.{HasLostThrough}
use Rattle.trace_any.specs.Readings.{full_limits}
use Rattle.cert_format.specs.Readings as certificates
use Rattle.cert_checker.specs.Checks.{IsNearLine, IsOfText}
use Rattle.cert_checker.specs.Walks.{text_event}
use Rattle.cert_checker.specs.Walks as walk
use Rattle.bound_report.specs.declared.refusal.LimitName.TheVariants.{Requests, TraceBytes, Denominator}
use Rattle.bound_report.specs.declared.refusal.Refusal.{Refusal}
use Rattle.bound_report.specs.declared.refusal.Refusal.TheVariants as refusal
use Rattle.bound_words.specs.declared.plans.BoundSettings.{BoundSettings}
use Rattle.bound_words.specs.declared.plans.DrawSettings.{DrawSettings}
use Rattle.bound_words.specs.declared.plans.JudgeSettings.{JudgeSettings}
use Rattle.bound_run.specs.BoundsMade.{RefusesDenominator}
use Rattle.bound_run.specs.Demos.{trace_drawn}
use Rattle.trace_any.specs.Loads.{IsRefused}
use Rattle.hit_flags.specs.Claims.{IsStop}
use Rattle.hit_flags.specs.Nearness.{IsNearFault, IsNearTurn}
use Rattle.hit_flags.specs.declared.fault.FlagFault.TheVariants as flag
use Rattle.bound_run.specs.Judgements.{IsImpossible}
use Rattle.bound_run.specs.Readings.{IsFirstEvent, IsPastDenominator, IsUnequal}
use Rattle.bound_run.specs.Upgrades.{IsNearLineOf}

-- why a trace is not read to its end, if it is refused for the faults that it has: a bad line, a passed limit, a failed read, or no memory
abbrev pub RefusesReading : (FaultOfTrace → Type 0) → Device → Refusal → Type 0
RefusesReading Has source (refusal.BadLine line kind) = Has (trace.BadLine line kind)
RefusesReading Has source (refusal.Limit Requests) = Has trace.TooManyRequests
RefusesReading Has source (refusal.Limit TraceBytes) = Has trace.InputTooLong
RefusesReading Has source refusal.TraceFault = HasFailed source
RefusesReading Has source refusal.NoMemory = Unit {0}
RefusesReading Has source other = ⊥

-- why the trace of a command that reads nothing else is refused, and that little of it was read beyond what refuses it
abbrev pub RefusesLoading : Format → Device → Refusal → Type 0
RefusesLoading format source r = RefusesReading (λ fault. IsRefused format source fault × HasLostThrough format full_limits source fault) source r

-- why no bounds are made: the denominator that is asked for passes its limit, or the trace is refused
abbrev pub RefusesBounds : Format → BoundSettings → Device → Refusal → Type 0
RefusesBounds format asked source (refusal.Limit Denominator) = IsPastDenominator format asked source
RefusesBounds format asked source r = RefusesLoading format source r

-- why there is no curve: two objects differ in size, or the trace is refused
abbrev pub RefusesCurve : Format → Device → Refusal → Type 0
RefusesCurve format source (refusal.Unequal first other) = IsUnequal format source first other
RefusesCurve format source r = RefusesLoading format source r

-- why a certificate is not accepted: the first event of the walk over both inputs, which its own input tells alone if that decides it, and little was read beyond a line that fails or what refuses the trace; or a failed read of the certificate
abbrev pub RefusesCheck : Format → Device → Device → Refusal → Type 0
RefusesCheck format source cert (refusal.Invalid line kind) =
    IsFirstEvent format source cert (walk.Invalid line kind) × IsOfText cert.before line kind × IsNearLine format full_limits line source cert
RefusesCheck format source cert refusal.CertFault = HasFailed cert
RefusesCheck format source cert r = RefusesReading (λ fault. IsFirstEvent format source cert (walk.Refused fault) × IsRefused format source fault × HasLostThrough format full_limits source fault) source r

-- why claimed hits are refused: what stops the reading of the trace and the flags by turns, as both tell together and each alone, beyond which little was read; a failed read of either; or the first cause why the flags are not possible
abbrev pub RefusesJudge : Format → JudgeSettings → Device → Device → Refusal → Type 0
RefusesJudge format asked source hits (refusal.NotFlag line) = IsStop format source hits (flag.NotFlag line) × IsNearTurn format line source hits
RefusesJudge format asked source hits (refusal.FlagCount flags requests) = IsStop format source hits (flag.Count flags requests) × IsNearTurn format (max flags requests) source hits
RefusesJudge format asked source hits (refusal.Impossible cause capacity) = IsImpossible format asked source hits cause capacity
RefusesJudge format asked source hits refusal.CertFault = HasFailed hits
RefusesJudge format asked source hits r = RefusesReading (λ fault. IsStop format source hits (flag.Trace fault) × IsNearFault format source hits fault) source r

-- why there is no demo: the denominator that is asked for passes its limit, or memory ran out
abbrev pub RefusesDemo : DrawSettings → BoundSettings → Refusal → Type 0
RefusesDemo drawing asked (refusal.Limit Denominator) = RefusesDenominator asked (trace_drawn drawing)
RefusesDemo drawing asked refusal.NoMemory = Unit {0}
RefusesDemo drawing asked other = ⊥

-- why a certificate is not upgraded: its first fault, of which little was read beyond its line, a failed read, or no memory
abbrev pub RefusesUpgrade : Device → Refusal → Type 0
RefusesUpgrade source (refusal.Invalid line kind) =
    IfSome source.before (λ bytes. text_event (certificates.reading bytes).fault ≡ Some (walk.Invalid line kind)) × IsNearLineOf line source
RefusesUpgrade source refusal.CertFault = HasFailed source
RefusesUpgrade source refusal.NoMemory = Unit {0}
RefusesUpgrade source other = ⊥

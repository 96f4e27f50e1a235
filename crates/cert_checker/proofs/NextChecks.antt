-- How a check ends.
use Rattle.std.proofs.Common.{List, Result, Ok, Err, IfErr}
use Rattle.cache_rules.specs.Stored.{Making, Requests}
use Rattle.cache_model.specs.declared.certificates.Record.{Record}
use Rattle.cert_checker.specs.declared.verdict.Verdict.{Verdict}
use Rattle.cert_checker.specs.declared.walking.CheckFault.{CheckFault}
use Rattle.cert_checker.specs.Checks.{Inputs, IsEvent}
use Rattle.cert_checker.specs.Keeping.{IsCheckEnd, IsEnd, of_form}

-- why there is no yes
pub event_closed : (has : Making → List Record → Type 0) (start end : Inputs) (result : Result Verdict CheckFault) → IsCheckEnd has start end result → IfErr result (IsEvent start end)
event_closed has start end (Ok verdict) closed = tt
event_closed has start end (Err why) closed = closed.event

-- an end over the requests and the records that a keeper has
pub check_end : (has : Making → List Record → Type 0) (start end : Inputs) (trace : Requests) (records : List Record) → has (of_form start.reader.format trace) records → (result : Result Verdict CheckFault) → IsEnd start end trace records result
    → IsCheckEnd has start end result
check_end has start end trace records kept (Ok verdict) is = (trace, records, kept, is)
check_end has start end trace records kept (Err why) is = is

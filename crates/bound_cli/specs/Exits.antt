-- With which status the process exits.
use Rattle.std.specs.Prelude.{Bool, true, false}
use Rattle.bound_run.specs.declared.status.Status.{Status}
use Rattle.bound_run.specs.declared.status.Status.TheVariants.{Done, MadeFault, ReportFault}

-- whether a run came to its end, so that the certificate it made is whole
abbrev pub is_whole : Status → Bool
is_whole Done = true
is_whole ReportFault = true
is_whole status = false

-- the status once the certificate was placed, or not: that a whole one has no place is a fault of its sink
abbrev pub settled : Bool → Status → Status
settled true status = status
settled false Done = MadeFault
settled false ReportFault = MadeFault
settled false status = status

-- the status of printing a page: that it can't be printed is a fault of the report
abbrev pub page_status : Bool → Status
page_status true = Done
page_status false = ReportFault

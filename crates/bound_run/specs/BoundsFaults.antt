-- Why a trace has no bounds as asked for.
use Rattle.cache_rules.specs.Stored.{Requests}
use Rattle.bound_words.specs.declared.plans.BoundSettings.{BoundSettings}
use Rattle.bound_run.specs.declared.bounds.BoundsFault.{BoundsFault}
use Rattle.bound_run.specs.declared.bounds.BoundsFault.TheVariants.{Denominator, NoMemory}
use Rattle.bound_run.specs.BoundsMade.{RefusesDenominator}

-- the denominator is refused; out of memory says nothing
abbrev pub FailsBounds : BoundSettings → Requests → BoundsFault → Type 0
FailsBounds asked trace Denominator = RefusesDenominator asked trace
FailsBounds asked trace NoMemory = Unit {0}

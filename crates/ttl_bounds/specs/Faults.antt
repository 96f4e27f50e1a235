-- Why a trace has no bounds with a ttl as asked for.
use Rattle.std.specs.Prelude.{◌≡◌, ℕ}
use Rattle.cache_model.specs.Claim.{marked}
use Rattle.cache_model.specs.Intervals.{eligible_intervals}
use Rattle.cache_model.specs.Units.{IsUnit}
use Rattle.cache_rules.specs.Stored.{Requests}
use Rattle.relaxation.specs.declared.denominators.DenominatorChoice.TheVariants.{Exact}
use Rattle.relaxation.specs.Denominators.{PassesMost}
use Rattle.ttl_bounds.specs.declared.asked.TtlAsked.{TtlAsked}
use Rattle.ttl_bounds.specs.declared.faults.TtlBoundsFault.{TtlBoundsFault}
use Rattle.ttl_bounds.specs.declared.faults.TtlBoundsFault.TheVariants.{Denominator, NoMemory}

-- a denominator that rounds no cost is asked for, and the least one passes 2^48
pub record RefusesDenominator (asked : TtlAsked) (trace : Requests) : Type 0 where
  pub exact : asked.denominator ≡ Exact
  pub unit : ℕ
  pub unit_is : IsUnit (eligible_intervals (marked asked.terms trace.fills) trace.objects) unit
  pub past : PassesMost (eligible_intervals (marked asked.terms trace.fills) trace.objects) unit

-- the denominator is refused; out of memory says nothing
abbrev pub FailsTtlBounds : TtlAsked → Requests → TtlBoundsFault → Type 0
FailsTtlBounds asked trace Denominator = RefusesDenominator asked trace
FailsTtlBounds asked trace NoMemory = Unit {0}

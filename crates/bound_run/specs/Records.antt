-- The records of a certificate that is made.
use Rattle.std.specs.Prelude.{◌≡◌, List, length}
use Rattle.cache_model.specs.declared.certificates.Record.{Record}
use Rattle.bound_run.specs.declared.bounds.Bounds.{Bounds}
use Rattle.bound_run.specs.BoundsMade.{records_of}

-- a record for each request, of its parts
abbrev pub records_in : Bounds → List Record
records_in b = records_of b.relaxed.solution.prices b.keeps b.intervals.items b.relaxed.solution.flows

-- a price and a keep for each step, and a flow for each interval
pub record HasEach (b : Bounds) : Type 0 where
  pub prices : length b.relaxed.solution.prices ≡ b.intervals.steps
  pub keeps : length b.keeps ≡ b.intervals.steps
  pub flows : length b.relaxed.solution.flows ≡ length b.intervals.items

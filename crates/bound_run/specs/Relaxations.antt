-- Prices and flows of the intervals, and what they are worth.
use Rattle.std.specs.Prelude.{◌≡◌, ℕ, ◌-◌, ◌*◌, ◌^◌, ◌<◌, ◌≤◌, length, slice_index_or, sum}
use Rattle.cache_model.specs.Intervals.{bound_of}
use Rattle.cache_model.specs.Schedules.{IsFractionalSchedule, flow_value}
use Rattle.interval_maker.specs.Timelines.{Timeline}
use Rattle.relaxation.specs.Prices.{most_paid}
use Rattle.schedule_round.specs.Laws.{full_flags}
use Rattle.bound_run.specs.declared.relaxed.Relaxed.{Relaxed}

-- a price for each step, of which the last is 0, with their bound; flows that are a schedule, with their value and those that are full
pub record IsRelaxed (line : Timeline) (unit units denominator : ℕ) (r : Relaxed) : Type 0 where
  pub each : length r.solution.prices ≡ line.steps
  pub last : slice_index_or r.solution.prices (line.steps - 1) 0 ≡ 0
  pub paid : units * sum r.solution.prices ≤ most_paid
  pub bound : r.upper ≡ bound_of line.items unit units denominator r.solution.prices
  pub small : r.upper < 2 ^ 127
  pub schedule : IsFractionalSchedule line.items unit units r.solution.flows
  pub value : r.flow ≡ flow_value line.items unit denominator r.solution.flows
  pub small_value : r.flow ≤ 2 ^ 121
  pub full : r.full.items ≡ full_flags unit line.items r.solution.flows

-- What is kept of all objects, and within which ranges.
use Rattle.std.specs.Prelude.{◌≡◌, ℕ, ◌+◌, ◌*◌, ◌^◌, ◌<◌, ◌≤◌, List, length, sum_by}
use Rattle.ttl_walk.specs.Kept.{latest_clock}
use Rattle.ttl_sums.specs.declared.entry.Entry.{Entry}
use Rattle.ttl_sums.specs.Entries.{entry_at}

-- the time to live, the units of the cache, the clock at the last request, the prices of all steps and the gains of all requests so far, the greatest worths of all objects, and of each object what is kept
pub record Worths : Type 0 where
  pub ttl : ℕ
  pub units : ℕ
  pub clock : ℕ
  pub prices : ℕ
  pub gains : ℕ
  pub total : ℕ
  pub objects : List Entry

-- what is priced is at most this, and what is gained is less
abbrev pub most : ℕ
most = 2 ^ 126

-- the level of an object began at the most: it fell by no more than the prices that it paid, and rose by no more than all gains
pub record IsEntryWithin (w : Worths) (e : Entry) : Type 0 where
  pub clock : latest_clock e.walk ≤ w.clock
  pub paid : e.paid ≤ w.prices
  pub priced : most + e.walk.top ≤ e.walk.level + w.units * e.paid
  pub gained : e.walk.level ≤ most + w.gains

-- the total is that of the objects
pub record IsWithin (w : Worths) : Type 0 where
  pub some : 1 ≤ w.units
  pub priced : w.units * w.prices ≤ most
  pub gained : w.gains < most
  pub total : w.total ≡ sum_by (λ e. e.walk.top) w.objects
  pub within : w.total ≤ w.gains
  pub each : (k : ℕ) → k < length w.objects → IsEntryWithin w (entry_at w.objects k)

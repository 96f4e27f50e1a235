-- What W-TinyLFU keeps.
use Rattle.std.specs.Prelude.{ℕ, ◌≤◌, ◌^◌}
use Rattle.policy_model.specs.States.{used, IsFit}
use Rattle.policy_model.specs.WTinyLfu.{Segments, Frequencies, window_part, main_part, main_used, segment_entries, stock_of_segments}
use Rattle.replay_core.specs.Keeping.{Kept}
use Rattle.replay_tinylfu.specs.Counts.{Counted}
use Rattle.replay_tinylfu.specs.Queues.{Queues}

-- what is kept of frequencies and segments
abbrev pub kept_of : ℕ → ℕ → ℕ → Frequencies → Segments → Kept
kept_of objects capacity requests f q =
    record { objects = objects; capacity = capacity; now = requests; entries = (stock_of_segments f q).entries; beside = (stock_of_segments f q).beside }

-- there is room for no more than these objects, and the entries fit, and so does each part
pub record IsTinyLfu (objects capacity : ℕ) (c : Counted) (r : Queues) : Type 0 where
  pub range : capacity ≤ 2 ^ 56
  pub few : objects ≤ 2 ^ 31
  pub counted : r.objects ≤ c.objects
  pub within : c.objects ≤ objects
  pub room : c.frequencies.asked ≤ 2 ^ 36
  pub fits : IsFit capacity (segment_entries r.segments)
  pub window : used r.segments.window ≤ window_part capacity
  pub main : main_used r.segments.main ≤ main_part capacity

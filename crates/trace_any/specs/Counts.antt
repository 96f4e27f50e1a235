-- How many requests of a trace count by their own marks, and how many are stale.
use Rattle.std.specs.Prelude.{ℕ, Bool, false, List, slice_index_or, if◌then◌else◌, count_by, None, Some}
use Rattle.std.specs.declared.option.Option.{Option}
use Rattle.cache_model.specs.Claim.{counts_past}
use Rattle.cache_model.specs.Objects.{numbers_of}
use Rattle.cache_rules.specs.Stored.{Requests}
use Rattle.trace_any.specs.declared.format.Format.{Format}
use Rattle.freshness.specs.Seen.{Staleness}
use Rattle.freshness.specs.Stale.{can_end}
use Rattle.trace_any.specs.Readings.{has_marks}

-- whether each request only fills the cache by its own mark: if requests can be stale, this is noted of each
abbrev pub own_marks : Format → Requests → Staleness → List Bool
own_marks format trace noted = if can_end format.fresh then noted.own else trace.fills

-- how many requests from the warm-up on count by their own marks, if the form of the trace has marks
abbrev pub counted_in : Format → ℕ → Requests → Staleness → Option ℕ
counted_in format warmup trace noted =
    if has_marks format.layout then Some (count_by (counts_past warmup (own_marks format trace noted)) (numbers_of trace.objects)) else None

-- whether request t is stale
abbrev pub is_stale : Staleness → ℕ → Bool
is_stale noted t = slice_index_or noted.stale t false

-- how many requests are stale, if any can be
abbrev pub stale_in : Format → Requests → Staleness → Option ℕ
stale_in format trace noted = if can_end format.fresh then Some (count_by (is_stale noted) (numbers_of trace.objects)) else None

-- A report: its lines, and among them how many requests count, what is said of stale ones, and the warm-up.
use Rattle.std.specs.Prelude.{ℕ, ◌==◌, if◌then◌else◌, List, [], ◌∷◌, ◌++◌, codes, None, Some}
use Rattle.std.specs.declared.option.Option.{Option}
use Rattle.cache_model.specs.Texts.{entry, text_of}
use Rattle.bound_report.specs.declared.rendering.Counting.{Counting}
use Rattle.bound_report.specs.declared.rendering.StaleCounts.{StaleCounts}

-- the lines of a report up to that of the trace, that of the capacity or what a curve has in its place, and those behind it
pub record Lines : Type 0 where
  pub front : List (List ℕ)
  pub head : List (List ℕ)
  pub back : List (List ℕ)

-- a line of how many requests count, if that is known
abbrev pub counted_lines : Option ℕ → List (List ℕ)
counted_lines None = []
counted_lines (Some counted) = entry (codes "counted") counted ∷ []

-- a line of the time for which objects stay fresh after they were asked for, if it has an end
abbrev pub idle_lines : Option ℕ → List (List ℕ)
idle_lines None = []
idle_lines (Some idle) = entry (codes "idle") idle ∷ []

-- a line of the time for which they stay fresh after they were written, if it has an end
abbrev pub ttl_lines : Option ℕ → List (List ℕ)
ttl_lines None = []
ttl_lines (Some ttl) = entry (codes "ttl") ttl ∷ []

-- a line of how many requests were late, if some were
abbrev pub late_lines : ℕ → List (List ℕ)
late_lines late = if late == 0 then [] else entry (codes "late") late ∷ []

-- a line of how many requests were stale, if any can be
abbrev pub stale_lines : Option ℕ → List (List ℕ)
stale_lines None = []
stale_lines (Some stale) = entry (codes "stale") stale ∷ []

-- the lines of stale requests
abbrev pub stale_count_lines : StaleCounts → List (List ℕ)
stale_count_lines counts = idle_lines counts.idle ++ ttl_lines counts.ttl ++ late_lines counts.late ++ stale_lines counts.stale

-- a line of the warm-up, if there is one
abbrev pub warmup_lines : ℕ → List (List ℕ)
warmup_lines warmup = if warmup == 0 then [] else entry (codes "warmup") warmup ∷ []

-- the text of a report: how many requests count stands behind the line of the trace, what is said of stale requests behind that of the capacity, and
-- the warm-up at the end
abbrev pub rendered : Counting → Lines → List ℕ
rendered counting lines =
    text_of (lines.front ++ counted_lines counting.counted ++ lines.head ++ stale_count_lines counting.stale ++ lines.back ++ warmup_lines counting.warmup)

-- no request can be stale, and none was late
abbrev pub none_stale : StaleCounts
none_stale = record { idle = None; ttl = None; late = 0; stale = None }

-- no warm-up, no marks, and no stale requests
abbrev pub uncounted : Counting
uncounted = record { warmup = 0; counted = None; stale = none_stale }

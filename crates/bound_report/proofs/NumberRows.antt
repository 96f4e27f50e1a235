-- The numbers of reports, read back from their texts.
use Rattle.std.proofs.Common.{◌≡◌, ℕ, refl, Some, None, false}
use Rattle.std.specs.Fmt.{digits}
use Rattle.cache_model.specs.declared.objects.Objective.TheVariants.{Bytes}
use Rattle.cache_model.specs.declared.certificates.Header.{Header}
use Rattle.bound_terms.specs.declared.modes.Mode.TheVariants.{Flow, Constant}
use Rattle.bound_terms.specs.declared.modes.Window.TheVariants.{Steps}
use Rattle.bound_report.specs.Numbers.{numbers_of}
use Rattle.bound_report.specs.Rendering.{none_stale, rendered}
use Rattle.bound_report.specs.Reports.{bound_lines, report_text}
use Rattle.bound_report.specs.Verdicts.{verdict_text}
use Rattle.bound_report.specs.Replays.{replay_lines}
use Rattle.policy_model.specs.declared.names.PolicyName.TheVariants.{Lru}

-- seven requests at capacity 12, in units of 3 bytes
abbrev header : Header
header = record { objective = Bytes; capacity = 12; requests = 7; unit = 3; denominator = 48; exact = false; upper = 96; flow = 90; lower = 1; warmup = 2; version = 1 }

-- bounds in windows, with a warm-up and marks
windowed : numbers_of (rendered (record { warmup = 2; counted = Some 5; stale = none_stale }) (bound_lines (record { header = header; objects = 4; dropped = 1; mode = Flow (Steps 6); price = 0; intervals = 3; written = Some 9 })))
    ≡ record { requests = Some 7; objects = Some 4; dropped = Some 1; capacity = Some 12; idle = None; ttl = None; stale = None; window = Some 6; denominator = Some 48; intervals = Some 3; warmup = Some 2 }
unfolding digits
windowed = refl

-- a price is no window
priced : numbers_of (report_text (record { header = header; objects = 4; dropped = 1; mode = Constant; price = 9; intervals = 3; written = None }))
    ≡ record { requests = Some 7; objects = Some 4; dropped = Some 1; capacity = Some 12; idle = None; ttl = None; stale = None; window = None; denominator = Some 48; intervals = Some 3; warmup = None }
unfolding digits
priced = refl

-- a yes has no intervals
checked : numbers_of (verdict_text (record { header = header; objects = 4 }) 1)
    ≡ record { requests = Some 7; objects = Some 4; dropped = Some 1; capacity = Some 12; idle = None; ttl = None; stale = None; window = None; denominator = Some 48; intervals = None; warmup = None }
unfolding digits
checked = refl

-- a replay names its capacity behind its policy, and its stale requests behind both
replayed : numbers_of (rendered (record { warmup = 7; counted = None; stale = record { idle = Some 60; ttl = Some 90; late = 1; stale = Some 2 } }) (replay_lines (record { requests = 7; objects = 4; dropped = 0; policy = Lru; capacity = 12; replay = record { hits = 3; bytes = 9; written = 6 }; written = Some 6 })))
    ≡ record { requests = Some 7; objects = Some 4; dropped = Some 0; capacity = None; idle = Some 60; ttl = Some 90; stale = Some 2; window = None; denominator = None; intervals = None; warmup = Some 7 }
unfolding digits
replayed = refl

-- Reports worked out by hand.
use Rattle.std.proofs.Common.{◌≡◌, ℕ, Bool, true, false, [], ◌∷◌, codes, refl, None, Some}
use Rattle.std.specs.Fmt.{digits}
use Rattle.cache_model.specs.declared.objects.Objective.TheVariants.{Object as Hits}
use Rattle.cache_model.specs.declared.certificates.Header.{Header}
use Rattle.cache_model.specs.Texts.{text_of}
use Rattle.bound_terms.specs.declared.modes.Mode.TheVariants.{Flow, Infinite}
use Rattle.bound_terms.specs.declared.modes.Window.TheVariants.{All as Whole}
use Rattle.bound_report.specs.Reports.{bound_lines, report_text}
use Rattle.replay_core.specs.declared.counts.Replay.{Replay}
use Rattle.bound_report.specs.Demos.{demo_text}
use Rattle.bound_report.specs.Judged.{judged_lines}
use Rattle.bound_report.specs.Rendering.{none_stale, rendered}
use Rattle.bound_report.specs.Refinements.{refined_lines}
use Rattle.bound_report.specs.Curves.{curve_lines, curve_text}
use Rattle.stack_curve.specs.Curves.{hits_with}

-- two requests of size 4 at capacity 10
abbrev pair_header : Bool → ℕ → Header
pair_header exact flow = record { objective = Hits; capacity = 10; requests = 2; unit = 4; denominator = 1; exact = exact; upper = 1; flow = flow; lower = 1; warmup = 0; version = 1 }

pair_report : report_text (record { header = pair_header true 1; objects = 1; dropped = 0; mode = Flow Whole; price = 0; intervals = 1; written = None }) ≡ text_of (
    codes "trace requests 2 objects 1 dropped 0"
    ∷ codes "capacity 10 objective object"
    ∷ codes "mode flow window all form exact"
    ∷ codes "unit 4 units 2 denominator 1"
    ∷ codes "intervals 1"
    ∷ codes "upper 1/1 floor 1"
    ∷ codes "flow 1/1"
    ∷ codes "lower 1"
    ∷ [])
unfolding digits
pair_report = refl

infinite_report : report_text (record { header = pair_header false 0; objects = 1; dropped = 0; mode = Infinite; price = 0; intervals = 1; written = None }) ≡ text_of (
    codes "trace requests 2 objects 1 dropped 0"
    ∷ codes "capacity 10 objective object"
    ∷ codes "mode infinite form plain"
    ∷ codes "unit 4 units 2 denominator 1"
    ∷ codes "intervals 1"
    ∷ codes "upper 1/1 floor 1"
    ∷ codes "flow 0/1"
    ∷ codes "lower 1"
    ∷ [])
unfolding digits
infinite_report = refl

-- what the schedule writes stands behind its score
written_report : report_text (record { header = pair_header true 1; objects = 1; dropped = 0; mode = Flow Whole; price = 0; intervals = 1; written = Some 4 }) ≡ text_of (
    codes "trace requests 2 objects 1 dropped 0"
    ∷ codes "capacity 10 objective object"
    ∷ codes "mode flow window all form exact"
    ∷ codes "unit 4 units 2 denominator 1"
    ∷ codes "intervals 1"
    ∷ codes "upper 1/1 floor 1"
    ∷ codes "flow 1/1"
    ∷ codes "lower 1"
    ∷ codes "writes 4"
    ∷ [])
unfolding digits
written_report = refl

-- what claimed hits must write stands before the last line
judged_with_writes : rendered (record { warmup = 1; counted = None; stale = none_stale }) (judged_lines (record { requests = 3; objects = 1; dropped = 0; capacity = 4; claimed = record { hits = 1; bytes = 4; written = 4 }; written = Some 4 })) ≡ text_of (
    codes "trace requests 3 objects 1 dropped 0"
    ∷ codes "judged capacity 4"
    ∷ codes "hits 1 bytes 4"
    ∷ codes "writes 4"
    ∷ codes "possible"
    ∷ codes "warmup 1"
    ∷ [])
unfolding digits
judged_with_writes = refl

-- two requests of one object of size 1
abbrev one_hit : Replay
one_hit = record { hits = 1; bytes = 1; written = 1 }

demo_of_two : demo_text (record { seed = 1; requests = 2; objects = 1; capacity = 65536 }) (codes "lower 1\n") (record { lru = one_hit; fifo = one_hit; clock = one_hit; lfu = one_hit; belady = one_hit }) ≡ text_of (
    codes "demo seed 1 requests 2 objects 1 capacity 65536"
    ∷ codes "lower 1"
    ∷ codes "check valid"
    ∷ codes "replay lru hits 1 bytes 1"
    ∷ codes "replay fifo hits 1 bytes 1"
    ∷ codes "replay clock hits 1 bytes 1"
    ∷ codes "replay lfu hits 1 bytes 1"
    ∷ codes "replay belady hits 1 bytes 1"
    ∷ [])
unfolding digits
demo_of_two = refl

-- the curve of the requests A B A C B A, all of size 1
curve_of_six : curve_text (record { requests = 6; objects = 3; dropped = 0 }) 1 (hits_with (record { size = 1; hits = 0 ∷ 0 ∷ 1 ∷ 3 ∷ [] })) ≡ text_of (
    codes "trace requests 6 objects 3 dropped 0"
    ∷ codes "size 1"
    ∷ codes "slots 2 hits 1"
    ∷ codes "slots 3 hits 3"
    ∷ [])
unfolding digits
curve_of_six = refl

-- how many requests count stands behind the line of the trace
curve_of_reads : rendered (record { warmup = 0; counted = Some 4; stale = none_stale }) (curve_lines (record { requests = 6; objects = 3; dropped = 0 }) 1 (hits_with (record { size = 1; hits = 0 ∷ 0 ∷ 1 ∷ 3 ∷ [] }))) ≡ text_of (
    codes "trace requests 6 objects 3 dropped 0"
    ∷ codes "counted 4"
    ∷ codes "size 1"
    ∷ codes "slots 2 hits 1"
    ∷ codes "slots 3 hits 3"
    ∷ [])
unfolding digits
curve_of_reads = refl

-- so it does in a refinement, where that is the second line, and the warm-up is the last one
refined_reads : rendered (record { warmup = 1; counted = Some 0; stale = none_stale }) (refined_lines 2 (record { header = pair_header false 0; objects = 1 }) 0) ≡ text_of (
    codes "refined from 2/1 to 1/1"
    ∷ codes "trace requests 2 objects 1 dropped 0"
    ∷ codes "counted 0"
    ∷ codes "capacity 10 objective object"
    ∷ codes "form plain"
    ∷ codes "unit 4 units 2 denominator 1"
    ∷ codes "upper 1/1 floor 1"
    ∷ codes "flow 0/1"
    ∷ codes "lower 1"
    ∷ codes "valid"
    ∷ codes "warmup 1"
    ∷ [])
unfolding digits
refined_reads = refl

-- objects expire after 60: what is said of stale requests stands behind the line of the capacity
bounds_of_stale : rendered (record { warmup = 0; counted = Some 1; stale = record { idle = Some 60; ttl = Some 90; late = 3; stale = Some 1 } }) (bound_lines (record { header = pair_header true 1; objects = 1; dropped = 0; mode = Flow Whole; price = 0; intervals = 1; written = None })) ≡ text_of (
    codes "trace requests 2 objects 1 dropped 0"
    ∷ codes "counted 1"
    ∷ codes "capacity 10 objective object"
    ∷ codes "idle 60"
    ∷ codes "ttl 90"
    ∷ codes "late 3"
    ∷ codes "stale 1"
    ∷ codes "mode flow window all form exact"
    ∷ codes "unit 4 units 2 denominator 1"
    ∷ codes "intervals 1"
    ∷ codes "upper 1/1 floor 1"
    ∷ codes "flow 1/1"
    ∷ codes "lower 1"
    ∷ [])
unfolding digits
bounds_of_stale = refl

-- objects are replaced and none expires: that no request was stale is said, and that none was late is not
curve_of_stale : rendered (record { warmup = 0; counted = Some 6; stale = record { idle = None; ttl = None; late = 0; stale = Some 0 } }) (curve_lines (record { requests = 6; objects = 3; dropped = 0 }) 1 (hits_with (record { size = 1; hits = 0 ∷ 0 ∷ 1 ∷ 3 ∷ [] }))) ≡ text_of (
    codes "trace requests 6 objects 3 dropped 0"
    ∷ codes "counted 6"
    ∷ codes "size 1"
    ∷ codes "stale 0"
    ∷ codes "slots 2 hits 1"
    ∷ codes "slots 3 hits 3"
    ∷ [])
unfolding digits
curve_of_stale = refl

-- The rules and the walk at small certificates, computed.
use Rattle.std.proofs.Common.{◌≡◌, ℕ, ◌+◌, Bool, true, false, List, [], ◌∷◌, ◌++◌, map, refl}
use Rattle.std.specs.Prelude.{Some, None}
use Rattle.std.specs.declared.option.Option.{Option}
use Rattle.std.specs.Fmt.{digits}
use Rattle.cache_model.specs.declared.objects.Object.{Object}
use Rattle.cache_model.specs.declared.objects.Objective.TheVariants.{Object as Hits}
use Rattle.cache_model.specs.declared.certificates.Header.{Header}
use Rattle.cache_model.specs.declared.certificates.Record.{Record}
use Rattle.cache_model.specs.Texts.{cert_text, header_len}
use Rattle.trace_any.specs.declared.fault.TraceFault.{TraceFault}
use Rattle.trace_any.specs.declared.fault.TraceFault.TheVariants.{InputTooLong}
use Rattle.trace_any.specs.Readings as traces
use Rattle.cert_checker.specs.declared.invalid.InvalidKind.{InvalidKind}
use Rattle.cert_checker.specs.declared.invalid.InvalidKind.TheVariants.{Truncated, Trailing, SumLimit, LastPrice, UnitNotDivisor, NotDivisible, Overfull, FlowAboveWeight, FlowOverfull, Unused, UpperDiffers, FlowDiffers, LowerDiffers, ExactGap, RequestCount}
use Rattle.cert_format.specs.Readings as certificates
use Rattle.cert_checker.specs.Rules.{record_fault, end_fault}
use Rattle.cert_checker.specs.Walks.{Event, Invalid, Refused, walk, walk_under}

abbrev object : ℕ → ℕ → Object
object id size = record { volume = 0; id = id; size = size }

abbrev entry : ℕ → Bool → ℕ → Record
entry price keep flow = record { price = price; keep = keep; flow = flow }

-- ---- A B C A B C at capacity 2, over a certificate whose upper bound, third record and first price vary
abbrev cycle : List Object
cycle = object 1 1 ∷ object 2 1 ∷ object 3 1 ∷ object 1 1 ∷ object 2 1 ∷ object 3 1 ∷ []

abbrev cycle_header : ℕ → Header
cycle_header upper = record { objective = Hits; capacity = 2; requests = 6; unit = 1; denominator = 1; exact = true; upper = upper; flow = 2; lower = 2; warmup = 0; version = 1 }

abbrev cycle_records : ℕ → Record → List Record
cycle_records price third = entry price true 1 ∷ entry 0 true 1 ∷ third ∷ entry 0 false 0 ∷ entry 0 false 0 ∷ entry 0 false 0 ∷ []

abbrev of_cycle : Header → List Record → List (Option InvalidKind)
of_cycle h records = map (record_fault h [] cycle records) (0 ∷ 1 ∷ 2 ∷ 3 ∷ 4 ∷ 5 ∷ [])

cycle_passes : of_cycle (cycle_header 2) (cycle_records 0 (entry 1 false 0)) ≡ None ∷ None ∷ None ∷ None ∷ None ∷ None ∷ []
cycle_passes = refl

cycle_end_passes : end_fault (cycle_header 2) [] cycle (cycle_records 0 (entry 1 false 0)) ≡ None
cycle_end_passes = refl

greater_upper : end_fault (cycle_header 3) [] cycle (cycle_records 0 (entry 1 false 0)) ≡ Some (UpperDiffers 3 2)
greater_upper = refl

third_keep : record_fault (cycle_header 2) [] cycle (cycle_records 0 (entry 1 true 0)) 2 ≡ Some (Overfull 3 2)
third_keep = refl

third_flow : record_fault (cycle_header 2) [] cycle (cycle_records 0 (entry 1 false 1)) 2 ≡ Some (FlowOverfull 3 2)
third_flow = refl

-- two units, each paying 2^126
large_price : record_fault (cycle_header 2) [] cycle (cycle_records 85070591730234615865843651857942052864 (entry 1 false 0)) 0 ≡ Some SumLimit
large_price = refl

-- ---- one object of 4 bytes, asked for twice at capacity 10
abbrev pair : List Object
pair = object 7 4 ∷ object 7 4 ∷ []

abbrev pair_header : ℕ → ℕ → ℕ → ℕ → Header
pair_header unit upper flow lower = record { objective = Hits; capacity = 10; requests = 2; unit = unit; denominator = 1; exact = true; upper = upper; flow = flow; lower = lower; warmup = 0; version = 1 }

abbrev pair_records : ℕ → ℕ → ℕ → List Record
pair_records flow price last = entry 0 true flow ∷ entry price false last ∷ []

pair_passes : map (record_fault (pair_header 4 1 1 1) [] pair (pair_records 1 0 0)) (0 ∷ 1 ∷ []) ≡ None ∷ None ∷ []
pair_passes = refl

pair_end_passes : end_fault (pair_header 4 1 1 1) [] pair (pair_records 1 0 0) ≡ None
pair_end_passes = refl

last_price : record_fault (pair_header 4 1 1 1) [] pair (pair_records 1 5 0) 1 ≡ Some (LastPrice 5)
last_price = refl

other_unit : record_fault (pair_header 3 1 1 1) [] pair (pair_records 1 0 0) 1 ≡ Some (UnitNotDivisor 3 4)
other_unit = refl

-- the unit is not asked of an object before it is requested again
other_unit_at_first : record_fault (pair_header 3 1 1 1) [] pair (pair_records 1 0 0) 0 ≡ None
other_unit_at_first = refl

half_unit : record_fault (pair_header 2 1 1 1) [] pair (pair_records 1 0 0) 1 ≡ Some (NotDivisible 2)
half_unit = refl

greater_flow : record_fault (pair_header 4 1 1 1) [] pair (pair_records 2 0 0) 0 ≡ Some (FlowAboveWeight 2 1)
greater_flow = refl

last_flow : end_fault (pair_header 4 1 1 1) [] pair (pair_records 1 0 1) ≡ Some (Unused 1)
last_flow = refl

other_flow : end_fault (pair_header 4 1 2 1) [] pair (pair_records 1 0 0) ≡ Some (FlowDiffers 2 1)
other_flow = refl

other_lower : end_fault (pair_header 4 1 1 0) [] pair (pair_records 1 0 0) ≡ Some (LowerDiffers 0 1)
other_lower = refl

no_flow : end_fault (pair_header 4 1 0 1) [] pair (pair_records 0 0 0) ≡ Some (ExactGap 1 0)
no_flow = refl

-- an object above the capacity may have no flow
too_large : record_fault (pair_header 4 1 1 1) [] (object 7 11 ∷ []) (entry 0 false 1 ∷ []) 0 ≡ Some (FlowAboveWeight 1 0)
too_large = refl

-- flows where no interval starts load the units all the same
apart : record_fault (record { objective = Hits; capacity = 1; requests = 2; unit = 1; denominator = 1; exact = false; upper = 0; flow = 0; lower = 0; warmup = 0; version = 1 }) []
    (object 1 1 ∷ object 2 1 ∷ []) (entry 0 false 1 ∷ entry 0 false 1 ∷ []) 1 ≡ Some (FlowOverfull 2 1)
apart = refl

-- ---- the cycle where only the last request counts
abbrev late_header : ℕ → ℕ → Header
late_header warmup value = record { objective = Hits; capacity = 2; requests = 6; unit = 1; denominator = 1; exact = true; upper = value; flow = value; lower = value; warmup = warmup; version = 2 }

abbrev late_records : ℕ → List Record
late_records first = entry 0 true first ∷ entry 0 false 0 ∷ entry 0 true 1 ∷ entry 0 false 0 ∷ entry 0 false 0 ∷ entry 0 false 0 ∷ []

late_passes : of_cycle (late_header 5 1) (late_records 0) ≡ None ∷ None ∷ None ∷ None ∷ None ∷ None ∷ []
late_passes = refl

-- the hit at the fourth request earns nothing
late_end_passes : end_fault (late_header 5 1) [] cycle (late_records 0) ≡ None
late_end_passes = refl

-- where two requests count
later_end : end_fault (late_header 4 1) [] cycle (late_records 0) ≡ Some (UpperDiffers 1 2)
later_end = refl

-- a flow whose interval ends within the warm-up
warm_flow : of_cycle (late_header 5 1) (late_records 1) ≡ None ∷ None ∷ None ∷ Some (Unused 0) ∷ None ∷ None ∷ []
warm_flow = refl

-- where no request counts
none_counts : of_cycle (late_header 6 0) (late_records 0) ≡ None ∷ None ∷ None ∷ None ∷ None ∷ Some (Unused 2) ∷ []
none_counts = refl

-- the unit is asked of the first request that counts
warm_unit : map (record_fault (record (pair_header 3 1 1 1) { warmup = 2 }) [] pair (pair_records 0 0 0)) (0 ∷ 1 ∷ []) ≡ None ∷ None ∷ []
warm_unit = refl

counted_unit : record_fault (record (pair_header 3 1 1 1) { warmup = 1 }) [] pair (pair_records 0 0 0) 1 ≡ Some (UnitNotDivisor 3 4)
counted_unit = refl

-- ---- the pair whose second request only fills, and the cycle where only the last request does not
abbrev second_fills : List Bool
second_fills = false ∷ true ∷ []

-- a flow whose interval ends at a request that only fills
filling_flow : map (record_fault (pair_header 4 1 1 1) second_fills pair (pair_records 1 0 0)) (0 ∷ 1 ∷ []) ≡ None ∷ Some (Unused 0) ∷ []
filling_flow = refl

-- the unit is not asked of a request that only fills
filling_unit : map (record_fault (pair_header 3 1 1 1) second_fills pair (pair_records 0 0 0)) (0 ∷ 1 ∷ []) ≡ None ∷ None ∷ []
filling_unit = refl

-- a request that only fills earns nothing
filling_end : end_fault (pair_header 4 0 0 1) second_fills pair (pair_records 0 0 0) ≡ Some (LowerDiffers 1 0)
filling_end = refl

abbrev last_counts : List Bool
last_counts = true ∷ true ∷ true ∷ true ∷ true ∷ false ∷ []

-- ---- walks
abbrev marked : List Object → List Bool → Option TraceFault → traces.Reading
marked requests fills refused = record { requests = requests; fills = fills; seen = traces.nothing_read.seen; volumes = []; dropped = 0; lines = 0; bytes = 0; refused = refused }

abbrev known : List Object → Option TraceFault → traces.Reading
known requests refused = marked requests [] refused

abbrev walked : List Object → Header → List Record → Option Event
walked trace h records = walk_under (Some h) (known trace None) (certificates.whole h records)

cycle_walk : walked cycle (cycle_header 2) (cycle_records 0 (entry 1 false 0)) ≡ None
cycle_walk = refl

upper_walk : walked cycle (cycle_header 3) (cycle_records 0 (entry 1 false 0)) ≡ Some (Invalid (header_len (cycle_header 3) + 7) (UpperDiffers 3 2))
unfolding header_len
upper_walk = refl

keep_walk : walked cycle (cycle_header 2) (cycle_records 0 (entry 1 true 0)) ≡ Some (Invalid (header_len (cycle_header 2) + 3) (Overfull 3 2))
unfolding header_len
keep_walk = refl

price_walk : walked cycle (cycle_header 2) (cycle_records 85070591730234615865843651857942052864 (entry 1 false 0)) ≡ Some (Invalid (header_len (cycle_header 2) + 1) SumLimit)
unfolding header_len
price_walk = refl

unused_walk : walked pair (pair_header 4 1 1 1) (pair_records 1 0 1) ≡ Some (Invalid (header_len (pair_header 4 1 1 1) + 3) (Unused 1))
unfolding header_len
unused_walk = refl

more_requests : walked (object 7 4 ∷ pair) (pair_header 4 1 1 1) (pair_records 1 0 0) ≡ Some (Invalid (header_len (pair_header 4 1 1 1) + 2) (RequestCount 2 3))
unfolding header_len
more_requests = refl

fewer_requests : walked (object 7 4 ∷ []) (pair_header 4 1 1 1) (pair_records 1 0 0) ≡ Some (Invalid (header_len (pair_header 4 1 1 1) + 1) (RequestCount 2 1))
unfolding header_len
fewer_requests = refl

unit_walk : walked pair (pair_header 3 1 1 1) (pair_records 1 0 0) ≡ Some (Invalid (header_len (pair_header 3 1 1 1) + 2) (UnitNotDivisor 3 4))
unfolding header_len
unit_walk = refl

-- the trace is refused after its first request: the record of that is still read, and the next is not
refused_walk : walk_under (Some (pair_header 4 1 1 1)) (known (object 7 4 ∷ []) (Some InputTooLong)) (certificates.whole (pair_header 4 1 1 1) (pair_records 1 0 0)) ≡ Some (Refused InputTooLong)
refused_walk = refl

-- ---- walks over a trace with marks
abbrev walked_marked : Header → List Record → Option Event
walked_marked h records = walk_under (Some h) (marked cycle last_counts None) (certificates.whole h records)

marked_walk : walked_marked (late_header 0 1) (late_records 0) ≡ None
marked_walk = refl

-- the same certificate, if the marks are forgotten
forgotten_marks : walked cycle (late_header 0 1) (late_records 0) ≡ Some (Invalid (header_len (late_header 0 1) + 7) (UpperDiffers 1 3))
unfolding header_len
forgotten_marks = refl

marked_flow_walk : walked_marked (late_header 0 1) (late_records 1) ≡ Some (Invalid (header_len (late_header 0 1) + 4) (Unused 0))
unfolding header_len
marked_flow_walk = refl

-- ---- walks over the bytes of a certificate
pair_bytes : walk (known pair None) (cert_text (pair_header 4 1 1 1) (pair_records 1 0 0)) ≡ None
unfolding digits header_len certificates.after_lines certificates.header_in certificates.read_records
pair_bytes = refl

pair_bytes_more : walk (known pair None) (cert_text (pair_header 4 1 1 1) (pair_records 1 0 0) ++ 10 ∷ []) ≡ Some (Invalid (header_len (pair_header 4 1 1 1) + 4) Trailing)
unfolding digits header_len certificates.after_lines certificates.header_in certificates.read_records
pair_bytes_more = refl

no_bytes : walk (known pair None) [] ≡ Some (Invalid 1 Truncated)
no_bytes = refl

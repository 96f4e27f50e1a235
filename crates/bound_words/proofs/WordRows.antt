-- The words of the command line, at small rows, computed.
use Rattle.std.proofs.Common.{◌≡◌, ℕ, true, false, List, [], ◌∷◌, codes, None, Some, Ok, Err, refl}
use Rattle.cache_model.specs.declared.objects.Objective.TheVariants.{Object as Hits, Bytes}
use Rattle.bound_terms.specs.declared.modes.Mode.TheVariants.{Constant, Flow, Infinite}
use Rattle.bound_terms.specs.declared.modes.Window.TheVariants.{All as Whole}
use Rattle.relaxation.specs.declared.denominators.DenominatorChoice.TheVariants.{Auto, Exact, Given}
use Rattle.trace_any.specs.Readings.{lasting}
use Rattle.trace_any.specs.declared.format.Layout.TheVariants.{Webcache, Arc, Msr, Oracle, MarkedWebcache, MsrReads}
use Rattle.bound_words.specs.declared.plans.Plan.TheVariants.{Bounds, Check, Replay, Curve, CapacityCurve, Judge, Demo, Upgrade}
use Rattle.policy_model.specs.declared.names.PolicyName.TheVariants.{Lru}
use Rattle.bound_terms.specs.declared.words.WordKind.TheVariants.{Missing, Unknown, Twice, BadValue}
use Rattle.bound_words.specs.Faults.{fault}
use Rattle.bound_words.specs.Words.{plan}

-- the command, its two paths and these operands
abbrev bounds_with : List (List ℕ) → List (List ℕ)
bounds_with operands = codes "bounds" ∷ codes "t" ∷ codes "c" ∷ operands

-- three operands, and the objective where it isn't given
all_required : plan (bounds_with (codes "format=webcache" ∷ codes "capacity=10" ∷ codes "mode=infinite" ∷ [])) ≡ Ok (Bounds (lasting Webcache) 10 Hits Infinite (Given 1) 0 1 false)
unfolding plan
all_required = refl

-- another order, another objective, and another form of the trace
another_order : plan (bounds_with (codes "objective=bytes" ∷ codes "mode=infinite" ∷ codes "capacity=010" ∷ codes "format=arc" ∷ [])) ≡ Ok (Bounds (lasting Arc) 10 Bytes Infinite (Given 1) 0 1 false)
unfolding plan
another_order = refl

-- the usual denominator of mode constant, and one that is chosen
usual_denominator : plan (bounds_with (codes "format=arc" ∷ codes "capacity=1" ∷ codes "mode=constant" ∷ [])) ≡ Ok (Bounds (lasting Arc) 1 Hits Constant (Given 281474976710656) 0 1 false)
unfolding plan
usual_denominator = refl

chosen_denominator : plan (bounds_with (codes "denominator=exact" ∷ codes "format=arc" ∷ codes "capacity=1" ∷ codes "mode=constant" ∷ [])) ≡ Ok (Bounds (lasting Arc) 1 Hits Constant Exact 0 1 false)
unfolding plan
chosen_denominator = refl

-- a window, which there is not yet
no_window : plan (bounds_with (codes "format=webcache" ∷ codes "capacity=2" ∷ codes "window=3" ∷ codes "mode=constant" ∷ [])) ≡ Err (fault 6 Unknown)
unfolding plan
no_window = refl

-- a name that stood before, though its value is none of the operand's
twice_first : plan (bounds_with (codes "capacity=2" ∷ codes "capacity=x" ∷ [])) ≡ Err (fault 5 Twice)
unfolding plan
twice_first = refl

-- the first `=` ends the name
two_equals : plan (bounds_with (codes "format==webcache" ∷ codes "=x" ∷ [])) ≡ Err (fault 4 BadValue)
unfolding plan
two_equals = refl

-- a block before its form of the trace
block_first : plan (bounds_with (codes "block=8192" ∷ codes "format=msr" ∷ codes "capacity=1" ∷ codes "mode=infinite" ∷ [])) ≡ Ok (Bounds (lasting (Msr 8192)) 1 Hits Infinite (Given 1) 0 1 false)
unfolding plan
block_first = refl

-- the block where it isn't given
usual_block : plan (bounds_with (codes "format=msr" ∷ codes "capacity=1" ∷ codes "mode=infinite" ∷ [])) ≡ Ok (Bounds (lasting (Msr 4096)) 1 Hits Infinite (Given 1) 0 1 false)
unfolding plan
usual_block = refl

-- a block beside a form that takes none, though an operand is missing
block_unknown : plan (bounds_with (codes "mode=infinite" ∷ codes "block=512" ∷ codes "format=webcache" ∷ [])) ≡ Err (fault 5 Unknown)
unfolding plan
block_unknown = refl

-- a later word that is refused by itself comes before such a block
block_later : plan (bounds_with (codes "block=512" ∷ codes "format=webcache" ∷ codes "x=1" ∷ [])) ≡ Err (fault 6 Unknown)
unfolding plan
block_later = refl

-- a block with no form of the trace passes
block_alone : plan (bounds_with (codes "block=512" ∷ codes "capacity=2" ∷ [])) ≡ Err (fault 6 Missing)
unfolding plan
block_alone = refl

-- the command and its paths come before the operands
no_path : plan (codes "bounds" ∷ codes "t" ∷ []) ≡ Err (fault 3 Missing)
unfolding plan
no_path = refl

-- a check takes the form of the trace and no more
a_check : plan (codes "check" ∷ codes "t" ∷ codes "-" ∷ codes "format=msr" ∷ codes "block=512" ∷ []) ≡ Ok (Check (lasting (Msr 512)))
unfolding plan
a_check = refl

no_capacity : plan (codes "check" ∷ codes "t" ∷ codes "c" ∷ codes "format=arc" ∷ codes "capacity=2" ∷ []) ≡ Err (fault 5 Unknown)
unfolding plan
no_capacity = refl

-- standard input is one of the two, and that comes last
both_dashes : plan (codes "check" ∷ codes "-" ∷ codes "-" ∷ codes "format=arc" ∷ []) ≡ Err (fault 3 BadValue)
unfolding plan
both_dashes = refl

form_first : plan (codes "check" ∷ codes "-" ∷ codes "-" ∷ []) ≡ Err (fault 4 Missing)
unfolding plan
form_first = refl

-- a demo needs no operand
usual_demo : plan (codes "demo" ∷ []) ≡ Ok (Demo 1 2000 200 65536 Hits (Flow Whole) Auto)
unfolding plan
usual_demo = refl

chosen_demo : plan (codes "demo" ∷ codes "seed=0" ∷ codes "objects=1" ∷ codes "mode=infinite" ∷ codes "capacity=1" ∷ codes "requests=33554432" ∷ codes "objective=bytes" ∷ [])
    ≡ Ok (Demo 0 33554432 1 1 Bytes Infinite (Given 1))
unfolding plan
chosen_demo = refl

-- it reads no trace, and has no warm-up
no_form : plan (codes "demo" ∷ codes "format=webcache" ∷ []) ≡ Err (fault 2 Unknown)
unfolding plan
no_form = refl

-- a window beside another mode
demo_window : plan (codes "demo" ∷ codes "seed=1" ∷ codes "window=3" ∷ codes "mode=constant" ∷ []) ≡ Err (fault 3 Unknown)
unfolding plan
demo_window = refl

-- the largest seed is below 2^64, and no request is no demo
large_seed : plan (codes "demo" ∷ codes "seed=18446744073709551616" ∷ []) ≡ Err (fault 2 BadValue)
unfolding plan
large_seed = refl

no_request : plan (codes "demo" ∷ codes "requests=0" ∷ []) ≡ Err (fault 2 BadValue)
unfolding plan
no_request = refl

-- claimed hits are judged at a capacity, and stand on one of the two inputs alone
a_judgement : plan (codes "judge" ∷ codes "t" ∷ codes "-" ∷ codes "format=arc" ∷ codes "capacity=7" ∷ codes "warmup=3" ∷ []) ≡ Ok (Judge (lasting Arc) 7 3 false)
unfolding plan
a_judgement = refl

judged_without_capacity : plan (codes "judge" ∷ codes "t" ∷ codes "h" ∷ codes "format=arc" ∷ []) ≡ Err (fault 5 Missing)
unfolding plan
judged_without_capacity = refl

both_inputs : plan (codes "judge" ∷ codes "-" ∷ codes "-" ∷ codes "format=arc" ∷ codes "capacity=7" ∷ []) ≡ Err (fault 3 BadValue)
unfolding plan
both_inputs = refl

-- a curve takes the form of the trace and no more
a_curve : plan (codes "curve" ∷ codes "t" ∷ codes "format=msr" ∷ []) ≡ Ok (Curve (lasting (Msr 4096)))
unfolding plan
a_curve = refl

curve_without_form : plan (codes "curve" ∷ codes "-" ∷ []) ≡ Err (fault 3 Missing)
unfolding plan
curve_without_form = refl

-- with capacities it takes an objective, a denominator and a warm-up too
a_curve_over : plan (codes "curve" ∷ codes "t" ∷ codes "format=arc" ∷ codes "capacities=1,20,0300" ∷ []) ≡ Ok (CapacityCurve (lasting Arc) (codes "1,20,0300") Hits 281474976710656 0)
unfolding plan
a_curve_over = refl

curve_over_last : plan (codes "curve" ∷ codes "t" ∷ codes "warmup=7" ∷ codes "denominator=5" ∷ codes "objective=bytes" ∷ codes "format=arc" ∷ codes "capacities=9" ∷ []) ≡ Ok (CapacityCurve (lasting Arc) (codes "9") Bytes 5 7)
unfolding plan
curve_over_last = refl

curve_with_warmup : plan (codes "curve" ∷ codes "t" ∷ codes "format=arc" ∷ codes "warmup=7" ∷ []) ≡ Err (fault 4 Unknown)
unfolding plan
curve_with_warmup = refl

curve_of_objective : plan (codes "curve" ∷ codes "t" ∷ codes "objective=none" ∷ codes "format=x" ∷ []) ≡ Err (fault 3 Unknown)
unfolding plan
curve_of_objective = refl

-- capacities ascend, without blanks or empty words
same_capacity : plan (codes "curve" ∷ codes "t" ∷ codes "capacities=5,5" ∷ []) ≡ Err (fault 3 BadValue)
unfolding plan
same_capacity = refl

empty_list : plan (codes "curve" ∷ codes "t" ∷ codes "capacities=" ∷ []) ≡ Err (fault 3 BadValue)
unfolding plan
empty_list = refl

last_comma : plan (codes "curve" ∷ codes "t" ∷ codes "capacities=1,2," ∷ []) ≡ Err (fault 3 BadValue)
unfolding plan
last_comma = refl

zero_capacity : plan (codes "curve" ∷ codes "t" ∷ codes "capacities=0,2" ∷ []) ≡ Err (fault 3 BadValue)
unfolding plan
zero_capacity = refl

chosen_over : plan (codes "curve" ∷ codes "t" ∷ codes "capacities=2" ∷ codes "denominator=exact" ∷ []) ≡ Err (fault 4 BadValue)
unfolding plan
chosen_over = refl

twice_over : plan (codes "curve" ∷ codes "t" ∷ codes "capacities=2" ∷ codes "capacities=1" ∷ []) ≡ Err (fault 4 Twice)
unfolding plan
twice_over = refl

over_without_form : plan (codes "curve" ∷ codes "t" ∷ codes "capacities=2" ∷ []) ≡ Err (fault 4 Missing)
unfolding plan
over_without_form = refl

curve_at_no_capacity : plan (codes "curve" ∷ codes "t" ∷ codes "format=arc" ∷ codes "capacity=2" ∷ []) ≡ Err (fault 4 Unknown)
unfolding plan
curve_at_no_capacity = refl

-- written bytes are counted if that is asked for, of bounds, a replay and a judgement alone
writes_counted : plan (bounds_with (codes "writes=count" ∷ codes "format=arc" ∷ codes "capacity=1" ∷ codes "mode=infinite" ∷ [])) ≡ Ok (Bounds (lasting Arc) 1 Hits Infinite (Given 1) 0 1 true)
unfolding plan
writes_counted = refl

writes_of_claims : plan (codes "judge" ∷ codes "t" ∷ codes "-" ∷ codes "format=arc" ∷ codes "capacity=7" ∷ codes "writes=none" ∷ []) ≡ Ok (Judge (lasting Arc) 7 0 false)
unfolding plan
writes_of_claims = refl

writes_in_a_check : plan (codes "check" ∷ codes "t" ∷ codes "c" ∷ codes "format=arc" ∷ codes "writes=count" ∷ []) ≡ Err (fault 5 Unknown)
unfolding plan
writes_in_a_check = refl

writes_of_no_kind : plan (bounds_with (codes "writes=yes" ∷ [])) ≡ Err (fault 4 BadValue)
unfolding plan
writes_of_no_kind = refl

-- a replay prints flags in place of the report if that is asked for, and then counts no written bytes
flags_printed : plan (codes "replay" ∷ codes "t" ∷ codes "print=flags" ∷ codes "format=arc" ∷ codes "capacity=1" ∷ codes "policy=lru" ∷ codes "writes=none" ∷ []) ≡ Ok (Replay (lasting Arc) 1 Lru 0 false true)
unfolding plan
flags_printed = refl

flags_and_writes : plan (codes "replay" ∷ codes "t" ∷ codes "print=flags" ∷ codes "format=arc" ∷ codes "writes=count" ∷ []) ≡ Err (fault 5 Unknown)
unfolding plan
flags_and_writes = refl

flags_of_bounds : plan (bounds_with (codes "print=flags" ∷ [])) ≡ Err (fault 4 Unknown)
unfolding plan
flags_of_bounds = refl

-- a warm-up and a version of a certificate
with_warmup : plan (bounds_with (codes "version=2" ∷ codes "format=arc" ∷ codes "warmup=7" ∷ codes "capacity=1" ∷ codes "mode=infinite" ∷ [])) ≡ Ok (Bounds (lasting Arc) 1 Hits Infinite (Given 1) 7 2 false)
unfolding plan
with_warmup = refl

third_version : plan (bounds_with (codes "version=3" ∷ [])) ≡ Err (fault 4 BadValue)
unfolding plan
third_version = refl

long_warmup : plan (bounds_with (codes "warmup=33554433" ∷ [])) ≡ Err (fault 4 BadValue)
unfolding plan
long_warmup = refl

-- an upgrade has two paths and no operand
an_upgrade : plan (codes "upgrade" ∷ codes "c" ∷ codes "-" ∷ []) ≡ Ok Upgrade
unfolding plan
an_upgrade = refl

upgrade_without_made : plan (codes "upgrade" ∷ codes "c" ∷ []) ≡ Err (fault 3 Missing)
unfolding plan
upgrade_without_made = refl

upgrade_of_a_form : plan (codes "upgrade" ∷ codes "c" ∷ codes "d" ∷ codes "format=arc" ∷ []) ≡ Err (fault 4 Unknown)
unfolding plan
upgrade_of_a_form = refl

-- records have no block
oracle_records : plan (codes "check" ∷ codes "t" ∷ codes "c" ∷ codes "format=oracle" ∷ []) ≡ Ok (Check (lasting Oracle))
unfolding plan
oracle_records = refl

oracle_block : plan (codes "check" ∷ codes "t" ∷ codes "c" ∷ codes "format=oracle" ∷ codes "block=24" ∷ []) ≡ Err (fault 5 Unknown)
unfolding plan
oracle_block = refl

-- only reads count, by marks or by the types of the lines
marked_check : plan (codes "check" ∷ codes "t" ∷ codes "c" ∷ codes "count=reads" ∷ codes "format=webcache" ∷ []) ≡ Ok (Check (lasting MarkedWebcache))
unfolding plan
marked_check = refl

reads_curve : plan (codes "curve" ∷ codes "t" ∷ codes "format=msr" ∷ codes "count=reads" ∷ codes "block=512" ∷ []) ≡ Ok (Curve (lasting (MsrReads 512)))
unfolding plan
reads_curve = refl

-- all requests count, by default and with every form
all_count : plan (codes "check" ∷ codes "t" ∷ codes "c" ∷ codes "format=msr" ∷ codes "count=all" ∷ []) ≡ Ok (Check (lasting (Msr 4096)))
unfolding plan
all_count = refl

all_records_count : plan (codes "curve" ∷ codes "t" ∷ codes "count=all" ∷ codes "format=oracle" ∷ []) ≡ Ok (Curve (lasting Oracle))
unfolding plan
all_records_count = refl

-- writes alone can't count, and a demo has none
writes_count : plan (bounds_with (codes "count=writes" ∷ codes "count=reads" ∷ [])) ≡ Err (fault 4 BadValue)
unfolding plan
writes_count = refl

demo_count : plan (codes "demo" ∷ codes "count=all" ∷ []) ≡ Err (fault 2 Unknown)
unfolding plan
demo_count = refl

-- that only reads count is refused beside a form that has no writes, though an operand is missing
reads_unknown : plan (bounds_with (codes "mode=infinite" ∷ codes "count=reads" ∷ codes "format=arc" ∷ [])) ≡ Err (fault 5 Unknown)
unfolding plan
reads_unknown = refl

records_unknown : plan (codes "curve" ∷ codes "t" ∷ codes "format=oracle" ∷ codes "count=reads" ∷ []) ≡ Err (fault 4 Unknown)
unfolding plan
records_unknown = refl

-- a block and that only reads count, both refused: the one at the lesser place
block_before_count : plan (codes "check" ∷ codes "t" ∷ codes "c" ∷ codes "block=512" ∷ codes "count=reads" ∷ codes "format=arc" ∷ []) ≡ Err (fault 4 Unknown)
unfolding plan
block_before_count = refl

count_before_block : plan (codes "check" ∷ codes "t" ∷ codes "c" ∷ codes "format=arc" ∷ codes "count=reads" ∷ codes "block=512" ∷ []) ≡ Err (fault 5 Unknown)
unfolding plan
count_before_block = refl

block_beside_all : plan (codes "check" ∷ codes "t" ∷ codes "c" ∷ codes "format=arc" ∷ codes "count=all" ∷ codes "block=512" ∷ []) ≡ Err (fault 6 Unknown)
unfolding plan
block_beside_all = refl

-- where no form is given, the form is missing
reads_alone : plan (codes "curve" ∷ codes "t" ∷ codes "count=reads" ∷ []) ≡ Err (fault 4 Missing)
unfolding plan
reads_alone = refl

-- objects expire and are replaced
lives : plan (codes "check" ∷ codes "t" ∷ codes "c" ∷ codes "idle=600" ∷ codes "format=webcache" ∷ codes "replace=yes" ∷ []) ≡ Ok (Check (record { layout = Webcache; fresh = record { idle = Some 600; ttl = None; replace = true } }))
unfolding plan
lives = refl

no_time : plan (codes "check" ∷ codes "t" ∷ codes "c" ∷ codes "idle=0" ∷ codes "format=oracle" ∷ codes "replace=no" ∷ []) ≡ Ok (Check (record { layout = Oracle; fresh = record { idle = Some 0; ttl = None; replace = false } }))
unfolding plan
no_time = refl

-- they are unknown beside forms that don't have them, whatever their values
idle_of_blocks : plan (codes "check" ∷ codes "t" ∷ codes "c" ∷ codes "replace=no" ∷ codes "idle=1" ∷ codes "format=arc" ∷ []) ≡ Err (fault 4 Unknown)
unfolding plan
idle_of_blocks = refl

idle_first : plan (codes "check" ∷ codes "t" ∷ codes "c" ∷ codes "idle=1" ∷ codes "replace=no" ∷ codes "format=arc" ∷ []) ≡ Err (fault 4 Unknown)
unfolding plan
idle_first = refl

replaced_blocks : plan (codes "check" ∷ codes "t" ∷ codes "c" ∷ codes "idle=1" ∷ codes "replace=no" ∷ codes "format=msr" ∷ []) ≡ Err (fault 5 Unknown)
unfolding plan
replaced_blocks = refl

block_before_replaced : plan (codes "check" ∷ codes "t" ∷ codes "c" ∷ codes "block=512" ∷ codes "idle=1" ∷ codes "format=arc" ∷ []) ≡ Err (fault 4 Unknown)
unfolding plan
block_before_replaced = refl

large_time : plan (codes "check" ∷ codes "t" ∷ codes "c" ∷ codes "idle=18446744073709551616" ∷ []) ≡ Err (fault 4 BadValue)
unfolding plan
large_time = refl

replaced_in_a_curve : plan (codes "curve" ∷ codes "t" ∷ codes "idle=5" ∷ codes "replace=no" ∷ []) ≡ Err (fault 4 Unknown)
unfolding plan
replaced_in_a_curve = refl

curve_of_fresh : plan (codes "curve" ∷ codes "t" ∷ codes "idle=5" ∷ codes "format=msr" ∷ []) ≡ Ok (Curve (record { layout = Msr 4096; fresh = record { idle = Some 5; ttl = None; replace = false } }))
unfolding plan
curve_of_fresh = refl

-- The definitions at small traces, computed.
use Rattle.std.proofs.Common.{cond, ◌&&◌, ◌≡◌, ℕ, zero, suc, ◌/◌, ◌*◌, ◌+◌, ◌==◌, ◌≤◌, arith, lit≤, lit<, ◌<◌, ◌%◌, Bool, true, false, List, [], ◌∷◌, All, map, codes, refl}
use Rattle.std.specs.Fmt.{digits}
use Rattle.std.specs.List.{list_any, AllZip}
use Rattle.std.proofs.lemmas.Bool.{true≢false, cond_both}
use Rattle.std.proofs.lemmas.List.Elements.{All-cons, All-nil, All-head, All-tail}
use Rattle.std.proofs.lemmas.Nat.Gcd.{dvd_refl, dvd_of_mod-eq-zero, mod-eq-zero_of_dvd}
use Prim.Native.Nat.{◌∣◌}
use Rattle.cache_model.specs.declared.objects.Object.{Object}
use Rattle.cache_model.specs.declared.objects.Objective.{Objective}
use Rattle.cache_model.specs.declared.objects.Objective.TheVariants.{Object as Hits, Bytes}
use Rattle.cache_model.specs.declared.intervals.Interval.{Interval}
use Rattle.cache_model.specs.declared.certificates.Header.{Header}
use Rattle.cache_model.specs.declared.certificates.Record.{Record}
use Rattle.cache_model.specs.Claim.{Terms, score, terms_from, total_size, held_before, contents_of, is_kept}
use Rattle.cache_model.specs.Objects.{objects_of}
use Rattle.cache_model.specs.Intervals.{eligible_intervals, bound_of}
use Rattle.cache_model.specs.Schedules.{load_at, flow_value, covers}
use Rattle.cache_model.specs.Units.{cost, weight, IsUnit, IsLeastWhole, IsLeastCommonMultiple, IsReducedWeight}
use Rattle.cache_model.specs.Rounding.{rank, by_rank, by_start, fits_beside, FitTogether, IsRounded}
use Rattle.cache_model.specs.Certificates.{upper_of, flow_of, flow_at, IsRecordInRange, IsCertificate, IsValid}
use Rattle.cache_model.proofs.Keeps.{contents_of_keeps}
use Rattle.cache_model.proofs.Units.{least_whole_is_least_common_multiple}
use Rattle.cache_model.specs.Texts.{cert_text, header_len, text_of}

abbrev object : ℕ → ℕ → Object
object id size = record { volume = 0; id = id; size = size }

abbrev interval : ℕ → ℕ → ℕ → ℕ → Interval
interval a b s g = record { start = a; end = b; size = s; gain = g }

-- the record of a price, a keep and a flow
abbrev entry : ℕ → Bool → ℕ → Record
entry p k f = record { price = p; keep = k; flow = f }

-- what is asked for without a warm-up
abbrev asked : Objective → ℕ → Terms
asked o c = terms_from o c 0 []

abbrev bound : Objective → ℕ → ℕ → ℕ → List Object → List ℕ → ℕ
bound o c u d trace prices = bound_of (eligible_intervals (asked o c) trace) u (c / u) d prices

abbrev value : Objective → ℕ → ℕ → ℕ → List Object → List ℕ → ℕ
value o c u d trace flows = flow_value (eligible_intervals (asked o c) trace) u d flows

abbrev kept_score : Objective → List Object → List Bool → ℕ
kept_score o trace keeps = score (asked o 0) trace (contents_of trace keeps)

abbrev sizes_held : List Object → List Bool → List ℕ
sizes_held trace keeps = map total_size (contents_of trace keeps)

-- ---- A B C A B C at capacity 2
abbrev cycle : List Object
cycle = object 1 1 ∷ object 2 1 ∷ object 3 1 ∷ object 1 1 ∷ object 2 1 ∷ object 3 1 ∷ []

cycle_intervals : eligible_intervals (asked Hits 2) cycle ≡ interval 0 3 1 1 ∷ interval 1 4 1 1 ∷ interval 2 5 1 1 ∷ []
cycle_intervals = refl

cycle_bound : bound Hits 2 1 1 cycle (0 ∷ 0 ∷ 1 ∷ 0 ∷ 0 ∷ 0 ∷ []) ≡ 2
cycle_bound = refl

cycle_value : value Hits 2 1 1 cycle (1 ∷ 1 ∷ 0 ∷ []) ≡ 2
cycle_value = refl

cycle_load : map (load_at (eligible_intervals (asked Hits 2) cycle) (1 ∷ 1 ∷ 0 ∷ [])) (0 ∷ 1 ∷ 2 ∷ 3 ∷ 4 ∷ 5 ∷ []) ≡ 1 ∷ 2 ∷ 2 ∷ 1 ∷ 0 ∷ 0 ∷ []
cycle_load = refl

cycle_keeps : List Bool
cycle_keeps = true ∷ true ∷ false ∷ false ∷ false ∷ false ∷ []

cycle_score : kept_score Hits cycle cycle_keeps ≡ 2
unfolding cycle_keeps
cycle_score = refl

cycle_held : sizes_held cycle cycle_keeps ≡ 0 ∷ 1 ∷ 2 ∷ 2 ∷ 1 ∷ 0 ∷ 0 ∷ []
unfolding cycle_keeps
cycle_held = refl

-- ---- the same with a warm-up: five requests leave the interval that ends at request 5, six leave none
cycle_warm_intervals : eligible_intervals (terms_from Hits 2 5 []) cycle ≡ interval 2 5 1 1 ∷ []
cycle_warm_intervals = refl

cycle_warm_bound : bound_of (eligible_intervals (terms_from Hits 2 5 []) cycle) 1 2 1 (0 ∷ 0 ∷ 0 ∷ 0 ∷ 0 ∷ 0 ∷ []) ≡ 1
cycle_warm_bound = refl

cycle_late_intervals : eligible_intervals (terms_from Hits 2 6 []) cycle ≡ []
cycle_late_intervals = refl

-- the keeps of requests 0 and 2 hit requests 3 and 5, and request 5 alone is past five requests
cycle_warm_score : score (terms_from Hits 2 5 []) cycle (contents_of cycle (true ∷ false ∷ true ∷ false ∷ false ∷ false ∷ [])) ≡ 1
cycle_warm_score = refl

cycle_whole_score : score (terms_from Hits 2 3 []) cycle (contents_of cycle (true ∷ false ∷ true ∷ false ∷ false ∷ false ∷ [])) ≡ 2
cycle_whole_score = refl

cycle_late_score : score (terms_from Hits 2 6 []) cycle (contents_of cycle (true ∷ false ∷ true ∷ false ∷ false ∷ false ∷ [])) ≡ 0
cycle_late_score = refl

-- ---- the same, and request 3 only fills: nothing that ends there is eligible, and its hit earns nothing
abbrev fourth_fills : List Bool
fourth_fills = false ∷ false ∷ false ∷ true ∷ []

cycle_marked_intervals : eligible_intervals (terms_from Hits 2 0 fourth_fills) cycle ≡ interval 1 4 1 1 ∷ interval 2 5 1 1 ∷ []
cycle_marked_intervals = refl

cycle_marked_score : score (terms_from Hits 2 0 fourth_fills) cycle (contents_of cycle (true ∷ false ∷ true ∷ false ∷ false ∷ false ∷ [])) ≡ 1
cycle_marked_score = refl

-- with a warm-up of five requests too
cycle_both_intervals : eligible_intervals (terms_from Hits 2 5 fourth_fills) cycle ≡ interval 2 5 1 1 ∷ []
cycle_both_intervals = refl

-- ---- A is set and then asked for: the hit counts
abbrev set_and_get : List Object
set_and_get = object 1 3 ∷ object 1 3 ∷ []

set_intervals : eligible_intervals (terms_from Bytes 3 0 (true ∷ false ∷ [])) set_and_get ≡ interval 0 1 3 3 ∷ []
set_intervals = refl

set_score : score (terms_from Bytes 3 0 (true ∷ false ∷ [])) set_and_get (contents_of set_and_get (true ∷ false ∷ [])) ≡ 3
set_score = refl

-- ---- A is read, written and read: the block is held over the write, and one read alone is a hit that counts
abbrev write_between : List Object
write_between = object 1 3 ∷ object 1 3 ∷ object 1 3 ∷ []

between_intervals : eligible_intervals (terms_from Hits 3 0 (false ∷ true ∷ false ∷ [])) write_between ≡ interval 1 2 3 1 ∷ []
between_intervals = refl

between_score : score (terms_from Hits 3 0 (false ∷ true ∷ false ∷ [])) write_between (contents_of write_between (true ∷ true ∷ false ∷ [])) ≡ 1
between_score = refl

-- ---- all are writes
writes_intervals : eligible_intervals (terms_from Hits 3 0 (true ∷ true ∷ true ∷ [])) write_between ≡ []
writes_intervals = refl

writes_score : score (terms_from Hits 3 0 (true ∷ true ∷ true ∷ [])) write_between (contents_of write_between (true ∷ true ∷ false ∷ [])) ≡ 0
writes_score = refl

-- ---- the same at capacity 1 and the constant price 1 over 3
cycle_constant : bound Hits 1 1 3 cycle (1 ∷ 1 ∷ 1 ∷ 1 ∷ 1 ∷ 0 ∷ []) ≡ 5
cycle_constant = refl

cycle_one : kept_score Hits cycle (true ∷ false ∷ false ∷ false ∷ false ∷ false ∷ []) ≡ 1
cycle_one = refl

-- ---- A(2) B(2) A(2) B(2) at capacity 3
abbrev twos : List Object
twos = object 1 2 ∷ object 2 2 ∷ object 1 2 ∷ object 2 2 ∷ []

twos_bound : bound Hits 3 2 1 twos (0 ∷ 1 ∷ 0 ∷ 0 ∷ []) ≡ 1
twos_bound = refl

twos_score : kept_score Hits twos (true ∷ false ∷ false ∷ false ∷ []) ≡ 1
twos_score = refl

-- ---- A(2) B(3) A(2) B(3) at capacity 4, over 6
abbrev unequal : List Object
unequal = object 1 2 ∷ object 2 3 ∷ object 1 2 ∷ object 2 3 ∷ []

unequal_bound : bound Hits 4 1 6 unequal (0 ∷ 2 ∷ 0 ∷ 0 ∷ []) ≡ 10
unequal_bound = refl

unequal_value : value Hits 4 1 6 unequal (2 ∷ 2 ∷ []) ≡ 10
unequal_value = refl

unequal_costs : map (cost 1 6) (eligible_intervals (asked Hits 4) unequal) ≡ 3 ∷ 2 ∷ []
unequal_costs = refl

unequal_ranks : map rank (eligible_intervals (asked Hits 4) unequal) ≡ 4 ∷ 6 ∷ []
unequal_ranks = refl

-- ---- the same at capacity 5, in bytes
unequal_bytes : bound Bytes 5 1 1 unequal (0 ∷ 0 ∷ 0 ∷ 0 ∷ []) ≡ 5
unequal_bytes = refl

unequal_bytes_score : kept_score Bytes unequal (true ∷ true ∷ false ∷ false ∷ []) ≡ 5
unequal_bytes_score = refl

-- ---- sizes 120, 64, 120, 14, 120 at capacity 128, in bytes
abbrev large : List Object
large = object 1 120 ∷ object 2 64 ∷ object 1 120 ∷ object 3 14 ∷ object 1 120 ∷ []

large_bound : bound Bytes 128 120 1 large (0 ∷ 0 ∷ 0 ∷ 0 ∷ 0 ∷ []) ≡ 240
large_bound = refl

large_score : kept_score Bytes large (true ∷ false ∷ true ∷ false ∷ false ∷ []) ≡ 240
large_score = refl

-- ---- the same as the third, over 4
unequal_plain : bound Hits 4 1 4 unequal (0 ∷ 2 ∷ 0 ∷ 0 ∷ []) ≡ 8
unequal_plain = refl

-- ---- the constant price over 2 ^ 48
abbrev large_price : ℕ
large_price = 93824992236885

cycle_large : bound Hits 1 1 281474976710656 cycle (large_price ∷ large_price ∷ large_price ∷ large_price ∷ large_price ∷ 0 ∷ []) ≡ 469124961184428
cycle_large = refl

-- ---- sizes 65536, 59049 and 78125, twice each, at capacity 100000 over 2 ^ 48
abbrev powers : List Object
powers = object 1 65536 ∷ object 1 65536 ∷ object 2 59049 ∷ object 2 59049 ∷ object 3 78125 ∷ object 3 78125 ∷ []

powers_bound : bound Hits 100000 1 281474976710656 powers (0 ∷ 0 ∷ 0 ∷ 0 ∷ 0 ∷ 0 ∷ []) ≡ 844424930131968
powers_bound = refl

powers_value : value Hits 100000 1 281474976710656 powers (65536 ∷ 59049 ∷ 78125 ∷ []) ≡ 844424930034135
powers_value = refl

-- ---- no request at all
nothing_bound : bound Hits 10 1 1 [] [] ≡ 0
nothing_bound = refl

-- ---- sizes that differ, and a size above the capacity
two_sizes : eligible_intervals (asked Hits 10) (object 1 2 ∷ object 1 3 ∷ []) ≡ []
two_sizes = refl

too_large : eligible_intervals (asked Hits 5) (object 1 10 ∷ object 1 10 ∷ []) ≡ []
too_large = refl

-- ---- two requests of size 4 at capacity 10
abbrev pair : List Object
pair = object 7 4 ∷ object 7 4 ∷ []

abbrev pair_header : Bool → ℕ → Header
pair_header exact flow = record { objective = Hits; capacity = 10; requests = 2; unit = 4; denominator = 1; exact = exact; upper = 1; flow = flow; lower = 1; warmup = 0; version = 1 }

abbrev pair_records : ℕ → List Record
pair_records flow = entry 0 true flow ∷ entry 0 false 0 ∷ []

pair_upper : upper_of pair [] (pair_header true 1) (pair_records 1) ≡ 1
pair_upper = refl

pair_flow : flow_of pair [] (pair_header true 1) (pair_records 1) ≡ 1
pair_flow = refl

pair_text : cert_text (pair_header true 1) (pair_records 1) ≡ text_of (
    codes "cache-bound-certificate 1"
    ∷ codes "objective object"
    ∷ codes "capacity 10"
    ∷ codes "requests 2"
    ∷ codes "unit 4"
    ∷ codes "denominator 1"
    ∷ codes "form exact"
    ∷ codes "upper 1"
    ∷ codes "flow 1"
    ∷ codes "lower 1"
    ∷ codes "records"
    ∷ codes "0 1 1"
    ∷ codes "0 0 0"
    ∷ codes "end"
    ∷ [])
unfolding digits
pair_text = refl

-- the records begin on the line after these
pair_lines : header_len (pair_header true 1) ≡ 11
unfolding header_len
pair_lines = refl

pair_plain_text : cert_text (pair_header false 0) (pair_records 0) ≡ text_of (
    codes "cache-bound-certificate 1"
    ∷ codes "objective object"
    ∷ codes "capacity 10"
    ∷ codes "requests 2"
    ∷ codes "unit 4"
    ∷ codes "denominator 1"
    ∷ codes "form plain"
    ∷ codes "upper 1"
    ∷ codes "flow 0"
    ∷ codes "lower 1"
    ∷ codes "records"
    ∷ codes "0 1 0"
    ∷ codes "0 0 0"
    ∷ codes "end"
    ∷ [])
unfolding digits
pair_plain_text = refl

-- ---- rounding without flags, at capacity 2: the first two are taken
only_the_first : (t : ℕ) → list_any (λ i. i.start == t) (eligible_intervals (asked Hits 2) cycle) ≡ false → is_kept cycle_keeps t ≡ false
unfolding cycle_keeps
only_the_first zero h = absurd (true≢false h)
only_the_first (suc zero) h = absurd (true≢false h)
only_the_first (suc (suc zero)) h = refl
only_the_first (suc (suc (suc zero))) h = refl
only_the_first (suc (suc (suc (suc zero)))) h = refl
only_the_first (suc (suc (suc (suc (suc zero))))) h = refl
only_the_first (suc (suc (suc (suc (suc (suc t)))))) h = refl

no_flag : (size : ℕ) (covered : Bool) → cond (covered && false) size 0 ≡ 0
no_flag size true = refl
no_flag size false = refl

no_flag_fits : FitTogether (eligible_intervals (asked Hits 2) cycle) 2 (false ∷ false ∷ false ∷ [])
no_flag_fits = record {
  one_flag_each = refl;
  within_capacity = λ t. omega (arith, no_flag 1 (covers t (interval 0 3 1 1)), no_flag 1 (covers t (interval 1 4 1 1)), no_flag 1 (covers t (interval 2 5 1 1)));
}

cycle_rounded : IsRounded by_rank (eligible_intervals (asked Hits 2) cycle) 2 6 (false ∷ false ∷ false ∷ []) cycle_keeps
unfolding cycle_keeps
cycle_rounded = record { one_keep_each = refl; flagged_fit = no_flag_fits; taken = (refl, (refl, (refl, tt))); only_starts = only_the_first }

-- ---- a whole certificate
pair_loads : (t : ℕ) → t ≤ 2 → total_size (held_before pair (true ∷ false ∷ []) t) ≤ 10
pair_loads zero h = lit≤ tt
pair_loads (suc zero) h = lit≤ tt
pair_loads (suc (suc zero)) h = lit≤ tt
pair_loads (suc (suc (suc t))) h = absurd (omega arith)

pair_unused : (t : ℕ) → list_any (λ i. i.start == t) (eligible_intervals (asked Hits 10) pair) ≡ false → flow_at (pair_records 1) t ≡ 0
pair_unused zero h = absurd (true≢false h)
pair_unused (suc zero) h = refl
pair_unused (suc (suc t)) h = refl

pair_within : (t : ℕ) → load_at (eligible_intervals (asked Hits 10) pair) (1 ∷ []) t ≤ 2
pair_within t = cond_both (covers t (interval 0 1 4 1)) 1 0 (λ n. 0 + n ≤ 2) (λ _. omega arith) (λ _. omega arith)

small_record : (p f : ℕ) (keep : Bool) → p ≤ 1 → f ≤ 1 → IsRecordInRange (entry p keep f)
small_record p f keep hp hf = record { price = omega arith; flow = omega arith }

pair_certificate : IsCertificate (pair_header true 1) (pair_records 1)
pair_certificate = record {
  header = record { capacity = (lit≤ tt, lit≤ tt); requests = lit≤ tt; unit = (lit≤ tt, lit≤ tt); denominator = (lit≤ tt, lit≤ tt); upper = lit< tt; flow = lit< tt; lower = lit< tt; warmup = lit≤ tt; version = (lit≤ tt, lit≤ tt) };
  count = refl;
  each = All-cons IsRecordInRange (entry 0 true 1) (entry 0 false 0 ∷ []) (small_record 0 1 true (lit≤ tt) (lit≤ tt))
      (All-cons IsRecordInRange (entry 0 false 0) [] (small_record 0 0 false (lit≤ tt) (lit≤ tt)) (All-nil IsRecordInRange));
}

pair_valid : IsValid pair [] (pair_header true 1) (pair_records 1)
pair_valid = record {
  certificate = pair_certificate;
  requests = refl;
  sum_limit = lit≤ tt;
  last_price = refl;
  unit = All-cons (λ (i : Interval). 4 ∣ i.size) (interval 0 1 4 1) [] (dvd_refl 4) (All-nil (λ (i : Interval). 4 ∣ i.size));
  keeps = contents_of_keeps pair 10 (true ∷ false ∷ []) pair_loads;
  lower = refl;
  unused_flows = pair_unused;
  flows = record { within_weights = (lit≤ tt, tt); within_units = pair_within };
  flow = refl;
  upper = refl;
  whole_costs = λ _. All-cons (λ (i : Interval). weight 4 i ∣ 1 * i.gain) (interval 0 1 4 1) [] (dvd_refl 1) (All-nil (λ (i : Interval). weight 4 i ∣ 1 * i.gain));
  exact_values = λ _. refl;
}

-- ---- the denominator 6 of sizes 2 and 3 divides every other one that rounds no cost
six : (d : ℕ) → d % 2 ≡ 0 → d % 3 ≡ 0 → d % 6 ≡ 0
six d two three = omega arith

abbrev HasWholeCost : ℕ → Interval → Type 0
HasWholeCost d i = weight 1 i ∣ d * i.gain

unequal_whole : IsLeastWhole (eligible_intervals (asked Hits 4) unequal) 1 6
unequal_whole = record {
  positive = lit< tt;
  whole = All-cons (HasWholeCost 6) (interval 0 2 2 1) (interval 1 3 3 1 ∷ []) (dvd_of_mod-eq-zero 2 {n = 6} refl)
      (All-cons (HasWholeCost 6) (interval 1 3 3 1) [] (dvd_of_mod-eq-zero 3 {n = 6} refl) (All-nil (HasWholeCost 6)));
  multiples = λ d each.
      let two : (d * 1) % 2 ≡ 0 = mod-eq-zero_of_dvd 2 (All-head (HasWholeCost d) (interval 0 2 2 1) (interval 1 3 3 1 ∷ []) each) in
      let three : (d * 1) % 3 ≡ 0 = mod-eq-zero_of_dvd 3 (All-head (HasWholeCost d) (interval 1 3 3 1) [] (All-tail (HasWholeCost d) (interval 0 2 2 1) (interval 1 3 3 1 ∷ []) each)) in
      dvd_of_mod-eq-zero 6 {n = d} (six d (omega arith) (omega arith));
}

-- ---- the unit of sizes 2 and 2
abbrev Divides : ℕ → Interval → Type 0
Divides u i = u ∣ i.size

twos_unit : IsUnit (eligible_intervals (asked Hits 3) twos) 2
twos_unit = record {
  one_if_none = λ e. absurd (cc);
  divides = All-cons (Divides 2) (interval 0 2 2 1) (interval 1 3 2 1 ∷ []) (dvd_refl 2) (All-cons (Divides 2) (interval 1 3 2 1) [] (dvd_refl 2) (All-nil (Divides 2)));
  greatest = λ _ v each. All-head (Divides v) (interval 0 2 2 1) (interval 1 3 2 1 ∷ []) each;
}

-- ---- the certificate of no request at all
abbrev none_header : Header
none_header = record { objective = Hits; capacity = 10; requests = 0; unit = 1; denominator = 1; exact = true; upper = 0; flow = 0; lower = 0; warmup = 0; version = 1 }

none_text : cert_text none_header [] ≡ text_of (
    codes "cache-bound-certificate 1"
    ∷ codes "objective object"
    ∷ codes "capacity 10"
    ∷ codes "requests 0"
    ∷ codes "unit 1"
    ∷ codes "denominator 1"
    ∷ codes "form exact"
    ∷ codes "upper 0"
    ∷ codes "flow 0"
    ∷ codes "lower 0"
    ∷ codes "records"
    ∷ codes "end"
    ∷ [])
unfolding digits
none_text = refl

none_certificate : IsCertificate none_header []
none_certificate = record { header = record { capacity = (lit≤ tt, lit≤ tt); requests = lit≤ tt; unit = (lit≤ tt, lit≤ tt); denominator = (lit≤ tt, lit≤ tt); upper = lit< tt; flow = lit< tt; lower = lit< tt; warmup = lit≤ tt; version = (lit≤ tt, lit≤ tt) }; count = refl; each = All-nil IsRecordInRange }

none_loads : (t : ℕ) → t ≤ 0 → total_size (held_before [] [] t) ≤ 10
none_loads zero h = lit≤ tt
none_loads (suc t) h = absurd (omega arith)

none_valid : IsValid [] [] none_header []
none_valid = record {
  certificate = none_certificate;
  requests = refl;
  sum_limit = lit≤ tt;
  last_price = refl;
  unit = All-nil (Divides 1);
  keeps = contents_of_keeps [] 10 [] none_loads;
  lower = refl;
  unused_flows = λ t h. refl;
  flows = record { within_weights = tt; within_units = λ t. lit≤ tt };
  flow = refl;
  upper = refl;
  whole_costs = λ _. All-nil (λ (i : Interval). weight 1 i ∣ 1 * i.gain);
  exact_values = λ _. refl;
}

-- ---- A(3) B(1) B(1) A(3) at capacity 3: by rank B is taken, by start A
abbrev nest : List Object
nest = object 1 3 ∷ object 2 1 ∷ object 2 1 ∷ object 1 3 ∷ []

nest_ranks : map rank (eligible_intervals (asked Hits 3) nest) ≡ 9 ∷ 1 ∷ []
nest_ranks = refl

nest_by_rank : map (fits_beside by_rank (eligible_intervals (asked Hits 3) nest) 3 (false ∷ false ∷ []) (false ∷ true ∷ false ∷ false ∷ [])) (eligible_intervals (asked Hits 3) nest) ≡ false ∷ true ∷ []
nest_by_rank = refl

nest_by_start : map (fits_beside by_start (eligible_intervals (asked Hits 3) nest) 3 (false ∷ false ∷ []) (true ∷ false ∷ false ∷ false ∷ [])) (eligible_intervals (asked Hits 3) nest) ≡ true ∷ false ∷ []
nest_by_start = refl

-- ---- A(2) B(3) A(2) B(3) at capacity 3, in bytes: equal ranks, and a flag on the later one shuts the earlier out
tied_ranks : map rank (eligible_intervals (asked Bytes 3) unequal) ≡ 2 ∷ 2 ∷ []
tied_ranks = refl

tied_first : map (fits_beside by_rank (eligible_intervals (asked Bytes 3) unequal) 3 (false ∷ false ∷ []) (true ∷ false ∷ false ∷ false ∷ [])) (eligible_intervals (asked Bytes 3) unequal) ≡ true ∷ false ∷ []
tied_first = refl

tied_flag : map (fits_beside by_rank (eligible_intervals (asked Bytes 3) unequal) 3 (false ∷ true ∷ []) (false ∷ true ∷ false ∷ false ∷ [])) (eligible_intervals (asked Bytes 3) unequal) ≡ false ∷ false ∷ []
tied_flag = refl

-- ---- A(2) B(2) A(2) C(3) A(2) B(2) at capacity 5
abbrev mix : List Object
mix = object 1 2 ∷ object 2 2 ∷ object 1 2 ∷ object 3 3 ∷ object 1 2 ∷ object 2 2 ∷ []

mix_intervals : eligible_intervals (asked Hits 5) mix ≡ interval 0 2 2 1 ∷ interval 1 5 2 1 ∷ interval 2 4 2 1 ∷ []
mix_intervals = refl

mix_objects : objects_of mix ≡ object 1 2 ∷ object 2 2 ∷ object 3 3 ∷ []
mix_objects = refl

mix_score : kept_score Hits mix (true ∷ true ∷ true ∷ false ∷ false ∷ false ∷ []) ≡ 3
mix_score = refl

mix_held : sizes_held mix (true ∷ true ∷ true ∷ false ∷ false ∷ false ∷ []) ≡ 0 ∷ 2 ∷ 4 ∷ 4 ∷ 4 ∷ 2 ∷ 0 ∷ []
mix_held = refl

-- over another denominator, the unit 2, the units 2 and the denominator 3 told apart: 2 * 1 + (3 - 0) + (3 - 1) + (3 - 1)
mix_prices : bound Hits 5 2 3 mix (0 ∷ 0 ∷ 0 ∷ 1 ∷ 0 ∷ 0 ∷ []) ≡ 9
mix_prices = refl

-- sizes 6 at capacity 31: unit 3, units 10, denominator 7, weight 2: 10 * 2 + (7 - 2 * 2)
abbrev sixes : List Object
sixes = object 1 6 ∷ object 1 6 ∷ []

sixes_bound : bound Hits 31 3 7 sixes (2 ∷ 0 ∷ []) ≡ 23
sixes_bound = refl

-- ---- one id with two sizes is two objects, and so are two volumes
one_id : objects_of (object 1 2 ∷ object 1 3 ∷ object 1 2 ∷ record { volume = 1; id = 1; size = 2 } ∷ []) ≡ object 1 2 ∷ object 1 3 ∷ record { volume = 1; id = 1; size = 2 } ∷ []
one_id = refl

-- ---- the reduced weights 2 and 3 of the same, whose least common multiple 6 is that denominator
unequal_reduced : AllZip (IsReducedWeight 1) (eligible_intervals (asked Hits 4) unequal) (2 ∷ 3 ∷ [])
unequal_reduced = (
  (1, (dvd_of_mod-eq-zero 1 {n = 2} refl, dvd_refl 1, λ d p q. q), refl),
  ((1, (dvd_of_mod-eq-zero 1 {n = 3} refl, dvd_refl 1, λ d p q. q), refl), tt),
)

unequal_positive : All (λ i. 0 < weight 1 i) (eligible_intervals (asked Hits 4) unequal)
unequal_positive =
    let Positive : Interval → Type 0 = λ i. 0 < weight 1 i in
    All-cons Positive (interval 0 2 2 1) (interval 1 3 3 1 ∷ []) (lit< tt) (All-cons Positive (interval 1 3 3 1) [] (lit< tt) (All-nil Positive))

unequal_multiple : IsLeastCommonMultiple (2 ∷ 3 ∷ []) 6
unequal_multiple = (least_whole_is_least_common_multiple (eligible_intervals (asked Hits 4) unequal) 1 6 (2 ∷ 3 ∷ []) unequal_positive unequal_reduced).0 unequal_whole

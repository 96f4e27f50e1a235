-- The load of a step, as flows begin and end there.
use Rattle.std.proofs.Common.{◌≡◌, ◌≢◌, ◌∙◌, ℕ, suc, ◌+◌, ◌-◌, ◌<◌, ◌≤◌, sym, ap, refl, subst, arith, ⊎_elim, Bool, true, false, ◌&&◌, ◌==◌, cond, nat_lt, nat_le, List, [], ◌∷◌, length, get_or, All, AllPairs, sum_by, zip}
use Rattle.std.specs.Prelude.{Some, None, position}
use Rattle.std.specs.declared.option.Option.{Option}
use Rattle.std.specs.List.{position_from, position_or_len, AllZip}
use Rattle.std.specs.Option.{option_map}
use Rattle.std.proofs.lemmas.Bool.{cases_lt, cases_eq, ne_eqb, eq-eqb, lt-ltb, le-ltb, and_right}
use Rattle.std.proofs.lemmas.Bool.Decides.{nat_tests}
use Rattle.std.proofs.lemmas.Iterator.Adapters.{position_from-zero}
use Rattle.std.proofs.lemmas.List.Quantifiers.{position-Some}
use Rattle.std.proofs.lemmas.List.Elements.{All-head, All-tail, All-weaker}
use Rattle.std.proofs.lemmas.List.Sums.{sum_by-cons, position_or_len_is}
use Rattle.cache_model.specs.declared.intervals.Interval.{Interval}
use Rattle.cache_model.specs.Schedules.{covers, load_at}
use Rattle.cache_model.specs.Schedules.{IsFractionalSchedule}
use Rattle.cache_model.specs.Units.{weight}
use Rattle.interval_maker.specs.Timelines.{Timeline, IsInterval, IsTimeline, starting_at, ending_at, no_interval}
use Rattle.relaxation.specs.declared.flows.FlowFault.TheVariants.{AboveWeight, Overfull}
use Rattle.relaxation.specs.Faults.{amount_of, fault_at, fault_from, load_fault, weight_at}

-- the flows of the intervals whose key is t, summed
abbrev pub flow_with : (Interval → ℕ) → List Interval → List ℕ → ℕ → ℕ
flow_with key intervals flows t = sum_by (λ (i, f). cond (key i == t) f 0) (zip intervals flows)

-- a place counted from one further on is one further on
from_next : (p : Interval → Bool) (n : ℕ) (xs : List Interval) → position_from p (n + 1) xs ≡ option_map (λ k. k + 1) (position_from p n xs)
from_next p n [] = refl
from_next p n (x ∷ xs) = at (p x) (from_next p (n + 1) xs)
  where
    at : (b : Bool) → position_from p (n + 1 + 1) xs ≡ option_map (λ k. k + 1) (position_from p (n + 1) xs) → cond b (Some (n + 1)) (position_from p (n + 1 + 1) xs) ≡ option_map (λ k. k + 1) (cond b (Some n) (position_from p (n + 1) xs))
    at true later = refl
    at false later = later

amount_of_next : (f : ℕ) (flows : List ℕ) (o : Option ℕ) → amount_of (f ∷ flows) (option_map (λ k. k + 1) o) ≡ amount_of flows o
amount_of_next f flows None = refl
amount_of_next f flows (Some k) = let next : k + 1 ≡ suc k = omega arith in ap (λ n. get_or (f ∷ flows) n 0) next

-- where no key is t, nothing flows
none_with : (key : Interval → ℕ) (intervals : List Interval) (flows : List ℕ) (t : ℕ) → All (λ i. key i ≢ t) intervals → flow_with key intervals flows t ≡ 0
none_with key [] flows t apart = refl
none_with key (i ∷ intervals) [] t apart = refl
none_with key (i ∷ intervals) (f ∷ flows) t apart =
    let first : key i ≢ t = All-head (λ j. key j ≢ t) i intervals apart in
    omega (
      arith,
      sum_by-cons (λ (p : Interval × ℕ). cond (key p.0 == t) p.1 0) (i, f) (zip intervals flows),
      ap (λ b. cond b f 0) (ne_eqb (key i) t first),
      none_with key intervals flows t (All-tail (λ j. key j ≢ t) i intervals apart),
    )

-- the flows of the intervals whose key is t are that of the first of them, if keys differ
flow_with-from : (key : Interval → ℕ) (intervals : List Interval) (flows : List ℕ) (t : ℕ) → length flows ≡ length intervals → AllPairs (λ i j. key i ≢ key j) intervals
    → flow_with key intervals flows t ≡ amount_of flows (position_from (λ i. key i == t) 0 intervals)
flow_with-from key [] flows t same apart = refl
flow_with-from key (i ∷ intervals) [] t same apart = absurd (omega arith)
flow_with-from key (i ∷ intervals) (f ∷ flows) t same apart =
    ⊎_elim
    (λ (here : key i ≡ t).
    let others : All (λ j. key j ≢ t) intervals = λ k d lt. λ e. apart 0 (suc k) d (omega arith) (omega arith) (here ∙ sym e) in
    let test : (key i == t) ≡ true = eq-eqb (key i) t here in
    let value : amount_of (f ∷ flows) (cond (key i == t) (Some 0) (position_from (λ j. key j == t) 1 intervals)) ≡ f = ap (λ b. amount_of (f ∷ flows) (cond b (Some 0) (position_from (λ j. key j == t) 1 intervals))) test in
    omega (arith, whole, ap (λ b. cond b f 0) test, none_with key intervals flows t others, value))
    (λ (elsewhere : key i ≢ t).
    let test : (key i == t) ≡ false = ne_eqb (key i) t elsewhere in
    let later : flow_with key intervals flows t ≡ amount_of flows (position_from (λ j. key j == t) 0 intervals) =
    flow_with-from key intervals flows t (omega arith) (λ m n d low high. apart (suc m) (suc n) d (omega arith) (omega arith)) in
    let value : amount_of (f ∷ flows) (cond (key i == t) (Some 0) (position_from (λ j. key j == t) 1 intervals)) ≡ amount_of flows (position_from (λ j. key j == t) 0 intervals) =
    ap (λ b. amount_of (f ∷ flows) (cond b (Some 0) (position_from (λ j. key j == t) 1 intervals))) test
    ∙ ap (amount_of (f ∷ flows)) (from_next (λ j. key j == t) 0 intervals)
    ∙ amount_of_next f flows (position_from (λ j. key j == t) 0 intervals) in
    omega (arith, whole, ap (λ b. cond b f 0) test, later, value))
    (cases_eq (key i) t)
  where
    whole : flow_with key (i ∷ intervals) (f ∷ flows) t ≡ cond (key i == t) f 0 + flow_with key intervals flows t
    whole = sum_by-cons (λ (p : Interval × ℕ). cond (key p.0 == t) p.1 0) (i, f) (zip intervals flows)

pub flow_with-position : (key : Interval → ℕ) (intervals : List Interval) (flows : List ℕ) (t : ℕ) → length flows ≡ length intervals → AllPairs (λ i j. key i ≢ key j) intervals
    → flow_with key intervals flows t ≡ amount_of flows (position (λ i. key i == t) intervals)
flow_with-position key intervals flows t same apart =
    flow_with-from key intervals flows t same apart ∙ ap (amount_of flows) (sym (position_from-zero (λ i. key i == t) intervals))

-- the flows of the intervals that start before request t and end no earlier
abbrev pub carried : List Interval → List ℕ → ℕ → ℕ
carried intervals flows t = sum_by (λ (i, f). cond (nat_lt i.start t && nat_le t i.end) f 0) (zip intervals flows)

-- one interval: it is carried to t or starts there exactly if it covers t or ends there
one_step : (start end t f : ℕ) → start < end
    → cond (nat_lt start t && nat_le t end) f 0 + cond (start == t) f 0 ≡ cond (nat_le start t && nat_lt t end) f 0 + cond (end == t) f 0
one_step start end t f order = grind (arith, nat_tests)

-- what is carried past step t covers it
one_next : (start end t : ℕ) → (nat_lt start (t + 1) && nat_le (t + 1) end) ≡ (nat_le start t && nat_lt t end)
one_next start end t = grind (arith, nat_tests)

pub carried_step : (intervals : List Interval) (flows : List ℕ) (t : ℕ) → All (λ i. i.start < i.end) intervals
    → carried intervals flows t + flow_with (λ i. i.start) intervals flows t ≡ load_at intervals flows t + flow_with (λ i. i.end) intervals flows t
carried_step [] flows t order = refl
carried_step (i ∷ intervals) [] t order = refl
carried_step (i ∷ intervals) (f ∷ flows) t order =
    omega (
      arith,
      sum_by-cons (λ (p : Interval × ℕ). cond (nat_lt p.0.start t && nat_le t p.0.end) p.1 0) (i, f) (zip intervals flows),
      sum_by-cons (λ (p : Interval × ℕ). cond (p.0.start == t) p.1 0) (i, f) (zip intervals flows),
      sum_by-cons (λ (p : Interval × ℕ). cond (covers t p.0) p.1 0) (i, f) (zip intervals flows),
      sum_by-cons (λ (p : Interval × ℕ). cond (p.0.end == t) p.1 0) (i, f) (zip intervals flows),
      one_step i.start i.end t f (All-head (λ j. j.start < j.end) i intervals order),
      carried_step intervals flows t (All-tail (λ j. j.start < j.end) i intervals order),
    )

pub carried_next : (intervals : List Interval) (flows : List ℕ) (t : ℕ) → carried intervals flows (t + 1) ≡ load_at intervals flows t
carried_next [] flows t = refl
carried_next (i ∷ intervals) [] t = refl
carried_next (i ∷ intervals) (f ∷ flows) t =
    omega (
      arith,
      sum_by-cons (λ (p : Interval × ℕ). cond (nat_lt p.0.start (t + 1) && nat_le (t + 1) p.0.end) p.1 0) (i, f) (zip intervals flows),
      sum_by-cons (λ (p : Interval × ℕ). cond (covers t p.0) p.1 0) (i, f) (zip intervals flows),
      ap (λ b. cond b f 0) (one_next i.start i.end t),
      carried_next intervals flows t,
    )

pub carried_none : (intervals : List Interval) (flows : List ℕ) → carried intervals flows 0 ≡ 0
carried_none [] flows = refl
carried_none (i ∷ intervals) [] = refl
carried_none (i ∷ intervals) (f ∷ flows) =
    omega (
      arith,
      sum_by-cons (λ (p : Interval × ℕ). cond (nat_lt p.0.start 0 && nat_le 0 p.0.end) p.1 0) (i, f) (zip intervals flows),
      ap (λ b. cond (b && nat_le 0 i.end) f 0) (le-ltb i.start 0 (omega arith)),
      carried_none intervals flows,
    )

-- ---- one step of a timeline

-- starts differ, and so do ends
pub starts_differ : (line : Timeline) → IsTimeline line → AllPairs (λ i j. i.start ≢ j.start) line.items
starts_differ line is_line = λ m n d low high. λ same. let rising : (get_or line.items m d).start < (get_or line.items n d).start = is_line.order m n d low high in omega arith

in_order : (line : Timeline) → IsTimeline line → All (λ i. i.start < i.end) line.items
in_order line is_line = All-weaker (IsInterval line.steps) (λ i. i.start < i.end) (λ i fits. fits.order) line.items is_line.intervals

-- with what begins at a step, what is carried to it is what covers it and what ends there
pub at_step : (line : Timeline) (flows : List ℕ) (t load : ℕ) → IsTimeline line → length flows ≡ length line.items → load ≡ carried line.items flows t
    → load + amount_of flows (starting_at line.items t) ≡ load_at line.items flows t + amount_of flows (ending_at line.items t)
at_step line flows t load is_line each so_far =
    omega (
      arith,
      carried_step line.items flows t (in_order line is_line),
      flow_with-position (λ i. i.start) line.items flows t each (starts_differ line is_line),
      flow_with-position (λ i. i.end) line.items flows t each is_line.ends,
    )

-- a place that is found is in the list
pub place_within : (p : Interval → Bool) (xs : List Interval) (o : Option ℕ) (length_is : ℕ) → o ≡ position p xs → length xs ≡ length_is → (n : ℕ) → o ≡ Some n → n < length_is
place_within p xs o length_is is same n found = omega (arith, (position-Some p xs n no_interval (sym is ∙ found)).0)

-- ---- flows without a fault

-- where the load is no fault it is within the units
load_low : (intervals : List Interval) (units : ℕ) (flows : List ℕ) (t : ℕ) → load_fault intervals units flows t ≡ None → load_at intervals flows t ≤ units
load_low intervals units flows t none =
    ⊎_elim
    (λ (over : units < load_at intervals flows t).
    let fails : load_fault intervals units flows t ≡ Some (Overfull t (load_at intervals flows t)) =
    ap (λ b. cond b (Some (Overfull t (load_at intervals flows t))) None) (lt-ltb units (load_at intervals flows t) over) in cc)
    (λ (low : load_at intervals flows t ≤ units). low)
    (cases_lt units (load_at intervals flows t))

-- where nothing fails at a step, no flow that begins there passes its weight, and the load is within the units
pub step_low : (intervals : List Interval) (unit units : ℕ) (flows : List ℕ) (t : ℕ) (o : Option ℕ) → fault_from intervals unit units flows t o ≡ None
    → ((n : ℕ) → o ≡ Some n → get_or flows n 0 ≤ weight_at intervals unit n) × (load_at intervals flows t ≤ units)
step_low intervals unit units flows t None none = (λ n e. cc, load_low intervals units flows t none)
step_low intervals unit units flows t (Some m) none =
    ⊎_elim
    (λ (over : weight_at intervals unit m < get_or flows m 0).
    let fails : fault_from intervals unit units flows t (Some m) ≡ Some (AboveWeight m) =
    ap (λ b. cond b (Some (AboveWeight m)) (load_fault intervals units flows t)) (lt-ltb (weight_at intervals unit m) (get_or flows m 0) over) in cc)
    (λ (low : get_or flows m 0 ≤ weight_at intervals unit m).
    let passes : load_fault intervals units flows t ≡ None =
    sym (ap (λ b. cond b (Some (AboveWeight m)) (load_fault intervals units flows t)) (le-ltb (weight_at intervals unit m) (get_or flows m 0) low)) ∙ none in (
      λ n e. let same : m ≡ n = cc in subst (λ k. get_or flows k 0 ≤ weight_at intervals unit k) same low,
      load_low intervals units flows t passes,
    ))
    (cases_lt (weight_at intervals unit m) (get_or flows m 0))

-- the interval that starts where interval n does is interval n
pub starting_at_start : (line : Timeline) (n : ℕ) → IsTimeline line → n < length line.items → starting_at line.items (get_or line.items n no_interval).start ≡ Some n
starting_at_start line n is_line within =
    let t : ℕ = (get_or line.items n no_interval).start in
    let place : position_or_len (λ i. i.start == t) line.items ≡ n =
    position_or_len_is (λ i. i.start == t) line.items n no_interval (omega arith)
    (λ k low. let rising : (get_or line.items k no_interval).start < t = is_line.order k n no_interval low within in ne_eqb (get_or line.items k no_interval).start t (λ same. omega arith))
    (λ _. eq-eqb t t refl) in
    ap (λ k. cond (nat_lt k (length line.items)) (Some k) None) place ∙ ap (λ b. cond b (Some n) None) (lt-ltb n (length line.items) within)

-- flows that are within the weights at each place are so one by one
within_from : (unit : ℕ) (intervals : List Interval) (flows : List ℕ) → length flows ≡ length intervals → ((n : ℕ) → n < length intervals → get_or flows n 0 ≤ weight_at intervals unit n)
    → AllZip (λ i f. f ≤ weight unit i) intervals flows
within_from unit [] [] same low = tt
within_from unit [] (f ∷ flows) same low = absurd (omega arith)
within_from unit (i ∷ intervals) [] same low = absurd (omega arith)
within_from unit (i ∷ intervals) (f ∷ flows) same low = (low 0 (omega arith), within_from unit intervals flows (omega arith) (λ n h. low (suc n) (omega arith)))

-- past the last step nothing flows
nothing_past : (intervals : List Interval) (flows : List ℕ) (t : ℕ) → All (λ i. i.end < t) intervals → load_at intervals flows t ≡ 0
nothing_past [] flows t past = refl
nothing_past (i ∷ intervals) [] t past = refl
nothing_past (i ∷ intervals) (f ∷ flows) t past =
    let here : i.end < t = All-head (λ j. j.end < t) i intervals past in
    omega (
      arith,
      sum_by-cons (λ (p : Interval × ℕ). cond (covers t p.0) p.1 0) (i, f) (zip intervals flows),
      ap (λ b. cond b f 0) (and_right (nat_le i.start t) (nat_lt t i.end) (le-ltb t i.end (omega arith))),
      nothing_past intervals flows t (All-tail (λ j. j.end < t) i intervals past),
    )

-- nothing fails at any step
abbrev HasNoFault : Timeline → ℕ → ℕ → List ℕ → Type 0
HasNoFault line unit units flows = (t : ℕ) → t < line.steps → fault_at line.items unit units flows t ≡ None

-- if nothing fails at any step, the flows are a schedule
pub schedule_of_no_fault : (line : Timeline) (unit units : ℕ) (flows : List ℕ) → IsTimeline line → length flows ≡ length line.items → HasNoFault line unit units flows
    → IsFractionalSchedule line.items unit units flows
schedule_of_no_fault line unit units flows is_line each none = record {
  within_weights =
      within_from unit line.items flows each
      (λ n low.
      let fits : IsInterval line.steps (get_or line.items n no_interval) = is_line.intervals n no_interval low in
      let t : ℕ = (get_or line.items n no_interval).start in
      (step_low line.items unit units flows t (starting_at line.items t) (none t (omega (arith, fits.order, fits.within)))).0 n (starting_at_start line n is_line low));
  within_units = λ t.
      ⊎_elim
      (λ (before : t < line.steps). (step_low line.items unit units flows t (starting_at line.items t) (none t before)).1)
      (λ (past : line.steps ≤ t).
      let nothing : load_at line.items flows t ≡ 0 =
      nothing_past line.items flows t (All-weaker (IsInterval line.steps) (λ i. i.end < t) (λ i fits. omega (arith, fits.within)) line.items is_line.intervals) in
      omega arith)
      (cases_lt t line.steps);
}

-- the load of a step, counted from what is carried to it
pub counted : (line : Timeline) (flows : List ℕ) (t load started ended : ℕ) (starting ending : Option ℕ) → IsTimeline line → length flows ≡ length line.items
    → load ≡ carried line.items flows t → starting ≡ starting_at line.items t → ending ≡ ending_at line.items t → started ≡ amount_of flows starting → ended ≡ amount_of flows ending
    → (ended ≤ load + started) × (load + started - ended ≡ load_at line.items flows t)
counted line flows t load started ended starting ending is_line each so_far starts ends first last =
    let from : started ≡ amount_of flows (starting_at line.items t) = first ∙ ap (amount_of flows) starts in
    let to : ended ≡ amount_of flows (ending_at line.items t) = last ∙ ap (amount_of flows) ends in
    let balance : load + amount_of flows (starting_at line.items t) ≡ load_at line.items flows t + amount_of flows (ending_at line.items t) = at_step line flows t load is_line each so_far in
    (omega arith, omega arith)

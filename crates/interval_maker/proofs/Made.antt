-- Intervals are made request by request.
use Rattle.std.proofs.Common.{◌≡◌, ℕ, ◌+◌, ◌<◌, ◌≤◌, ◌^◌, ◌∙◌, sym, ap, refl, subst, false, List, [], ◌∷◌, ◌++◌, length, length-append, append-nil, set, replicate, flat_map, arith, ◌==◌, All}
use Rattle.std.specs.List.{range_with_len}
use Rattle.std.proofs.lemmas.Bool.{ne_eqb}
use Rattle.std.proofs.lemmas.List.{length-set, get_or-replicate, length-replicate}
use Rattle.std.proofs.lemmas.List.Elements.{All-append, All-cons, All-nil, All-head, All-weaker}
use Rattle.cache_model.specs.declared.objects.Object.{Object}
use Rattle.cache_model.specs.declared.intervals.Interval.{Interval}
use Rattle.cache_model.specs.Claim.{Terms, request_at}
use Rattle.cache_model.specs.Objects.{IsNext}
use Rattle.cache_model.specs.Intervals.{eligible_from, eligible_intervals}
use Rattle.cache_model.specs.Laws.{IsEligible}
use Rattle.cache_model.proofs.Eligible.{eligible_more}
use Rattle.cache_model.proofs.Members.{All-eligible_from, All-flat_map_range}
use Rattle.interval_maker.specs.Timelines.{Timeline, IsInterval, IsTimeline, timeline_of}
use Rattle.interval_maker.specs.Stored.{AreNumbers, IsStored, named, no_number}
use Rattle.interval_maker.proofs.Places.{numbers_more}
use Rattle.interval_maker.proofs.Timelines.{eligible_timeline, same_next}

-- the intervals that start at the first t requests, with the numbers of those that start and end at each request
pub record IsMade (terms : Terms) (trace : List Object) (t : ℕ) (items : List Interval) (starting ending : List ℕ) : Type 0 where
  pub so_far : items ≡ flat_map (eligible_from terms trace) (range_with_len 0 t)
  pub few : length items ≤ t
  pub intervals : All (IsInterval (length trace)) items
  pub each_start : length starting ≡ length trace
  pub each_end : length ending ≡ length trace
  pub starts : AreNumbers (λ i. i.start) items starting
  pub ends : AreNumbers (λ i. i.end) items ending

-- no interval has a number yet
no_numbers : (key : Interval → ℕ) (steps : ℕ) → AreNumbers key [] (replicate steps no_number)
no_numbers key steps = λ t lt. ap named (get_or-replicate steps t no_number 0 (omega (arith, length-replicate steps no_number)))

-- of no interval yet
pub made_none : (terms : Terms) (trace : List Object) → IsMade terms trace 0 [] (replicate (length trace) no_number) (replicate (length trace) no_number)
made_none terms trace = record {
  so_far = refl;
  few = omega arith;
  intervals = All-nil (IsInterval (length trace));
  each_start = length-replicate (length trace) no_number;
  each_end = length-replicate (length trace) no_number;
  starts = no_numbers (λ i. i.start) (length trace);
  ends = no_numbers (λ i. i.end) (length trace);
}

-- the intervals so far start before t
started : (terms : Terms) (trace : List Object) (t : ℕ) → All (λ j. IsEligible terms trace j × (j.start < t)) (flat_map (eligible_from terms trace) (range_with_len 0 t))
started terms trace t =
    All-flat_map_range (λ j. IsEligible terms trace j × (j.start < t)) (eligible_from terms trace) 0 t
    (λ a low high. All-weaker (λ j. IsEligible terms trace j × (j.start ≡ a)) (λ j. IsEligible terms trace j × (j.start < t))
    (λ j from. let here : j.start ≡ a = from.1 in (from.0, omega arith))
    (eligible_from terms trace a) (All-eligible_from terms trace a))

-- with the interval that starts at request t
made_more : (terms : Terms) (trace : List Object) (t : ℕ) (i : Interval) (items : List Interval) (starting ending : List ℕ)
    → IsMade terms trace t items starting ending → t < length trace → length trace ≤ 2 ^ 25 → eligible_from terms trace t ≡ i ∷ [] → IsInterval (length trace) i
    → IsMade terms trace (t + 1) (items ++ i ∷ []) (set starting i.start (length items)) (set ending i.end (length items))
made_more terms trace t i items starting ending made within small row fits =
    let here : IsEligible terms trace i × (i.start ≡ t) =
    All-head (λ j. IsEligible terms trace j × (j.start ≡ t)) i [] (subst (All (λ j. IsEligible terms trace j × (j.start ≡ t))) row (All-eligible_from terms trace t)) in
    let at_t : i.start ≡ t = here.1 in
    let before : All (λ j. IsEligible terms trace j × (j.start < t)) items = subst (All (λ j. IsEligible terms trace j × (j.start < t))) (sym made.so_far) (started terms trace t) in
    let few : length items < no_number = omega (arith, made.few) in
    let other_starts : All (λ j. (j.start == i.start) ≡ false) items =
    All-weaker (λ j. IsEligible terms trace j × (j.start < t)) (λ j. (j.start == i.start) ≡ false)
    (λ j from. let low : j.start < t = from.1 in ne_eqb j.start i.start (λ same. omega arith)) items before in
    let other_ends : All (λ j. (j.end == i.end) ≡ false) items =
    All-weaker (λ j. IsEligible terms trace j × (j.start < t)) (λ j. (j.end == i.end) ≡ false)
    (λ j from. let low : j.start < t = from.1 in ne_eqb j.end i.end (λ same.
    let one : j.start ≡ i.start = same_next trace j.start i.start i.end (subst (IsNext trace j.start) same from.0.next) here.0.next in omega arith)) items before in
    record {
      so_far = eligible_more terms trace t items (items ++ i ∷ []) (i ∷ []) made.so_far row refl;
      few = omega (arith, made.few, length-append items (i ∷ []));
      intervals = All-append (IsInterval (length trace)) items (i ∷ []) made.intervals (All-cons (IsInterval (length trace)) i [] fits (All-nil (IsInterval (length trace))));
      each_start = length-set starting i.start (length items) ∙ made.each_start;
      each_end = length-set ending i.end (length items) ∙ made.each_end;
      starts = numbers_more (λ j. j.start) items i starting made.starts (omega (arith, made.each_start)) few other_starts;
      ends = numbers_more (λ j. j.end) items i ending made.ends (omega (arith, made.each_end, fits.within)) few other_ends;
    }

-- where none starts at request t
made_same : (terms : Terms) (trace : List Object) (t : ℕ) (items : List Interval) (starting ending : List ℕ)
    → IsMade terms trace t items starting ending → eligible_from terms trace t ≡ [] → IsMade terms trace (t + 1) items starting ending
made_same terms trace t items starting ending made row = record {
  so_far = eligible_more terms trace t items items [] made.so_far row (sym (append-nil items));
  few = omega (arith, made.few);
  intervals = made.intervals;
  each_start = made.each_start;
  each_end = made.each_end;
  starts = made.starts;
  ends = made.ends;
}

-- the same, of lists that are equal to those
pub made_step : (terms : Terms) (trace : List Object) (t : ℕ) (i : Interval) (items : List Interval) (starting ending : List ℕ) (n m : ℕ) (items' : List Interval) (starting' ending' : List ℕ)
    → IsMade terms trace t items starting ending → t < length trace → length trace ≤ 2 ^ 25 → eligible_from terms trace t ≡ i ∷ [] → IsInterval (length trace) i → n ≡ length items → m ≡ length items
    → items' ≡ items ++ i ∷ [] → starting' ≡ set starting i.start n → ending' ≡ set ending i.end m
    → IsMade terms trace (t + 1) items' starting' ending'
made_step terms trace t i items starting ending n m items' starting' ending' made within small row fits first second e f g =
    let at_end : IsMade terms trace (t + 1) (items ++ i ∷ []) (set starting i.start (length items)) (set ending i.end (length items)) = made_more terms trace t i items starting ending made within small row fits in
    let f' : starting' ≡ set starting i.start (length items) = f ∙ ap (set starting i.start) first in
    let g' : ending' ≡ set ending i.end (length items) = g ∙ ap (set ending i.end) second in
    rw (e, f', g') at_end

pub made_rest : (terms : Terms) (trace : List Object) (t : ℕ) (items : List Interval) (starting ending : List ℕ) (items' : List Interval) (starting' ending' : List ℕ)
    → IsMade terms trace t items starting ending → eligible_from terms trace t ≡ [] → items' ≡ items → starting' ≡ starting → ending' ≡ ending
    → IsMade terms trace (t + 1) items' starting' ending'
made_rest terms trace t items starting ending items' starting' ending' made row e f g = rw (e, f, g) (made_same terms trace t items starting ending made row)

-- what is made once all requests are done is the timeline of the trace
pub made_is : (terms : Terms) (trace : List Object) (t : ℕ) (items : List Interval) (starting ending : List ℕ)
    → t ≡ length trace → IsMade terms trace t items starting ending → record { steps = length starting; items = items } ≡ timeline_of terms trace
made_is terms trace t items starting ending done made =
    let with_parts : ℕ → List Interval → Timeline = λ n xs. record { steps = n; items = xs } in
    ap (λ n. with_parts n items) made.each_start ∙ ap (with_parts (length trace)) (made.so_far ∙ ap (λ n. flat_map (eligible_from terms trace) (range_with_len 0 n)) done)

-- it is stored
pub made_stored : (terms : Terms) (trace : List Object) (t : ℕ) (items : List Interval) (starting ending : List ℕ)
    → t ≡ length trace → length trace ≤ 2 ^ 25 → IsMade terms trace t items starting ending → IsStored (record { steps = length starting; items = items }) starting ending
made_stored terms trace t items starting ending done small made =
    let same : items ≡ eligible_intervals terms trace = made.so_far ∙ ap (λ n. flat_map (eligible_from terms trace) (range_with_len 0 n)) done in
    let whole : IsTimeline (timeline_of terms trace) = eligible_timeline terms trace small (subst (All (IsInterval (length trace))) same made.intervals) in
    record {
      timeline = subst IsTimeline (sym (made_is terms trace t items starting ending done made)) whole;
      each_start = refl;
      each_end = made.each_end ∙ sym made.each_start;
      starts = made.starts;
      ends = made.ends;
    }

-- none is larger than the capacity
pub made_fit : (terms : Terms) (trace : List Object) (t : ℕ) (items : List Interval) (starting ending : List ℕ)
    → IsMade terms trace t items starting ending → All (λ i. i.size ≤ terms.capacity) items
made_fit terms trace t items starting ending made =
    subst (All (λ i. i.size ≤ terms.capacity)) (sym made.so_far)
    (All-weaker (λ j. IsEligible terms trace j × (j.start < t)) (λ i. i.size ≤ terms.capacity)
    (λ i from. let size : i.size ≡ (request_at trace i.start).size = ap (λ (j : Interval). j.size) from.0.numbers in omega (arith, from.0.fits))
    (flat_map (eligible_from terms trace) (range_with_len 0 t)) (started terms trace t))

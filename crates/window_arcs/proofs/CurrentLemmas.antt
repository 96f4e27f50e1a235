-- The order of arcs, those of some ranks that pass through a window, and what is below others.
use Rattle.std.proofs.Common.{◌≡◌, ◌≢◌, ◌∙◌, ℕ, zero, suc, ◌+◌, ◌-◌, ◌/◌, ◌<◌, ◌≤◌, ap, sym, refl, subst, min, Bool, true, false, cond, eqb, not, ◌&&◌, arith, List, [], ◌∷◌, ◌++◌, length, map, filter, take, drop, get_or, slice_range, sum, append-nil, All, ⊎_elim}
use Rattle.std.specs.List.{range_with_len}
use Rattle.std.proofs.lemmas.Bool.{cases_Bool}
use Rattle.std.proofs.lemmas.List.{append_assoc, drop-drop, drop-take, get_or-drop, get_or-map, get_or-take, length-drop, length-map, length-take, take-append-drop, take-map, take-take, take_all, drop_more}
use Rattle.std.proofs.lemmas.List.Elements.{filter-append, filter_more}
use Rattle.std.proofs.lemmas.List.Sums.{sum-map}
use Rattle.cache_model.proofs.Keeps.{All-filter_range}
use Rattle.cache_model.proofs.Sums.{sum_by-filter}
use Rattle.flow_model.specs.declared.arcs.OuterArc.{OuterArc}
use Rattle.flow_model.specs.Instances.{IsArc, IsInstance, Instance, arc_at, no_arc}
use Rattle.flow_model.specs.Windows.{last_window}
use Rattle.flow_windows.specs.Cuts.{Cut, starts_in}
use Rattle.window_arcs.specs.Events.{numbers_with}
use Rattle.window_arcs.specs.Passing.{IsOrder, ends_at, passes_at, passing_numbers, starts_at, weight_of}
use Rattle.window_arcs.specs.Current.{passing_weight}
use Rattle.window_arcs.proofs.OrderLemmas.{numbers_few, numbers_within}

module _ (width : ℕ) (arcs : List OuterArc) (order ranks : List ℕ) (is : IsOrder width arcs order ranks) where
  -- there are no more ranks than arcs
  pub order_length : length order ≤ length arcs
  order_length = numbers_few width arcs order is.all

  -- and each is that of an arc
  pub order_low : (r : ℕ) → r < length order → get_or order r 0 < length arcs
  order_low r within = numbers_within width arcs order is.all r 0 within

-- and the arc of a rank is in its ranges
pub arc_of_rank : (whole : Instance) (width r i : ℕ) (order ranks : List ℕ) (arcs : List OuterArc) → IsInstance whole → IsOrder width whole.arcs order ranks → r < length order → i ≡ get_or order r 0 → arcs ≡ whole.arcs
    → (i < length arcs) × IsArc whole.steps (arc_at arcs i)
arc_of_rank whole width r i order ranks arcs in_range is within read same =
    let low : i < length whole.arcs = omega (arith, read, order_low width whole.arcs order ranks is r within) in (
      omega (arith, low, ap length same),
      subst (λ (some : List OuterArc). IsArc whole.steps (arc_at some i)) (sym same) (in_range.arcs_fit i no_arc low),
    )

-- one after another
pub slice_range-append : {X : Type 0} (xs : List X) (a b c : ℕ) → a ≤ b → b ≤ c → slice_range xs a b ++ slice_range xs b c ≡ slice_range xs a c
slice_range-append xs a b c first second =
    let from : List _ = drop a xs in
    let back : a + (b - a) ≡ b = omega arith in
    let all : (b - a) + (c - b) ≡ c - a = omega arith in
    ap (λ n. take (b - a) from ++ take (c - b) (drop n xs)) (sym back)
    ∙ ap (λ ys. take (b - a) from ++ take (c - b) ys) (sym (drop-drop (b - a) a xs))
    ∙ take_parts (b - a) (c - b) from
    ∙ ap (λ n. take n from) all
  where
    take_parts : {Y : Type 0} (m n : ℕ) (ys : List Y) → take m ys ++ take n (drop m ys) ≡ take (m + n) ys
    take_parts m n ys =
        ap (λ zs. zs ++ take n (drop m ys)) (sym (take-take m (m + n) ys (omega arith)))
        ∙ ap (λ zs. take m (take (m + n) ys) ++ zs) (sym (drop-take m n ys))
        ∙ take-append-drop m (take (m + n) ys)

-- a range of one
pub slice_range-one : (xs : List ℕ) (a : ℕ) → a < length xs → slice_range xs a (a + 1) ≡ get_or xs a 0 ∷ []
slice_range-one xs a within =
    let width : (a + 1) - a ≡ 1 = omega arith in
    ap (λ n. take n (drop a xs)) width ∙ ap (take 1) (drop_more xs a 0 within)

-- what stands in a range
pub slice_range-at : (xs : List ℕ) (a b j : ℕ) → j < b - a → get_or (slice_range xs a b) j 0 ≡ get_or xs (a + j) 0
slice_range-at xs a b j within = get_or-take (b - a) (drop a xs) j 0 within ∙ get_or-drop a xs j 0

pub length-slice_range-le : (xs : List ℕ) (a b : ℕ) → b ≤ length xs → length (slice_range xs a b) ≡ b - a
length-slice_range-le xs a b within = omega (arith, length-take (b - a) (drop a xs), length-drop a xs)

-- none of a list passes
pub filter_none : (p : ℕ → Bool) (xs : List ℕ) → ((j : ℕ) → j < length xs → p (get_or xs j 0) ≡ false) → filter p xs ≡ []
filter_none p [] none = refl
filter_none p (x ∷ xs) none = ap (λ (b : Bool). cond b (x ∷ filter p xs) (filter p xs)) (none 0 (omega arith)) ∙ filter_none p xs (λ j within. none (suc j) (omega arith))

-- passing arcs by their ranks
module _ (cut : Cut) (order : List ℕ) where
  pub passing-append : (a b c : ℕ) → a ≤ b → b ≤ c → passing_numbers cut order a c ≡ passing_numbers cut order a b ++ passing_numbers cut order b c
  passing-append a b c first second =
      ap (filter (passes_at cut)) (sym (slice_range-append order a b c first second)) ∙ filter-append (passes_at cut) (slice_range order a b) (slice_range order b c)

  pub passing_one : (r : ℕ) → r < length order → passes_at cut (get_or order r 0) ≡ true → passing_numbers cut order r (r + 1) ≡ get_or order r 0 ∷ []
  passing_one r within passes =
      ap (filter (passes_at cut)) (slice_range-one order r within) ∙ ap (λ (b : Bool). cond b (get_or order r 0 ∷ []) []) passes

  pub passing_none : (a b : ℕ) → b ≤ length order → ((r : ℕ) → a ≤ r → r < b → passes_at cut (get_or order r 0) ≡ false) → passing_numbers cut order a b ≡ []
  passing_none a b within none =
      filter_none (passes_at cut) (slice_range order a b) (λ j low.
      let short : j < b - a = omega (arith, low, length-slice_range-le order a b within) in
      ap (passes_at cut) (slice_range-at order a b j short) ∙ none (a + j) (omega arith) (omega arith))

  -- their weights are those of the ranks
  pub passing_weights : (passing : List ℕ) (r : ℕ) → passing ≡ map (passing_weight cut) order → sum (take r passing) ≡ weight_of cut (passing_numbers cut order 0 r)
  passing_weights passing r are =
      let zero : r - 0 ≡ r = omega arith in
      ap (λ ps. sum (take r ps)) are
      ∙ ap sum (take-map (passing_weight cut) r order)
      ∙ sum-map (passing_weight cut) (take r order)
      ∙ sym (sum_by-filter (λ i. (arc_at cut.whole.arcs i).weight) (passes_at cut) (take r order))
      ∙ ap (λ n. weight_of cut (filter (passes_at cut) (take n order))) (sym zero)

-- the arc of that rank passes, or the rank is past all
abbrev pub IsNext : Cut → List ℕ → ℕ → Type 0
IsNext cut order r = r < length order → passes_at cut (get_or order r 0) ≡ true

-- what the next rank with a weight says of passing arcs
module _ (cut : Cut) (order passing : List ℕ) (in_range : IsInstance cut.whole) (low : (r : ℕ) → r < length order → get_or order r 0 < length cut.whole.arcs) (are : passing ≡ map (passing_weight cut) order) where
  weight_at : (r : ℕ) → r < length order → get_or passing r 0 ≡ passing_weight cut (get_or order r 0)
  weight_at r within = ap (λ ps. get_or ps r 0) are ∙ get_or-map (passing_weight cut) order r 0 0 within

  long : length passing ≡ length order
  long = ap length are ∙ length-map order (passing_weight cut)

  pub weightless : (r : ℕ) → r < length order → get_or passing r 0 ≡ 0 → passes_at cut (get_or order r 0) ≡ false
  weightless r within none =
      let i : ℕ = get_or order r 0 in
      ⊎_elim
      (λ (passes : passes_at cut i ≡ true).
      absurd (omega (arith, none, weight_at r within, ap (λ (b : Bool). cond b (arc_at cut.whole.arcs i).weight 0) passes, (in_range.arcs_fit i no_arc (low r within)).some_weight)))
      (λ (fails : passes_at cut i ≡ false). fails)
      (cases_Bool (passes_at cut i))

  pub weighty : (r : ℕ) → r < length order → get_or passing r 0 ≢ 0 → passes_at cut (get_or order r 0) ≡ true
  weighty r within some =
      let i : ℕ = get_or order r 0 in
      ⊎_elim
      (λ (passes : passes_at cut i ≡ true). passes)
      (λ (fails : passes_at cut i ≡ false). absurd (some (weight_at r within ∙ ap (λ (b : Bool). cond b (arc_at cut.whole.arcs i).weight 0) fails)))
      (cases_Bool (passes_at cut i))

  -- none passes before the next that has a weight
  pub none_between : (a b : ℕ) → a ≤ b → b ≤ length passing → All (λ number. number ≡ 0) (slice_range passing a b) → (c : ℕ) → c ≤ b → passing_numbers cut order a c ≡ []
  none_between a b sorted within zeros c early =
      passing_none cut order a c (omega (arith, long)) (λ r from until.
      let short : r - a < b - a = omega arith in
      let back : a + (r - a) ≡ r = omega arith in
      let none : get_or (slice_range passing a b) (r - a) 0 ≡ 0 = zeros (r - a) 0 (omega (arith, length-slice_range-le passing a b within)) in
      weightless r (omega (arith, long)) (sym (ap (λ k. get_or passing k 0) back) ∙ sym (slice_range-at passing a b (r - a) short) ∙ none))

  pub next_passes : (r : ℕ) → (r < length passing → get_or passing r 0 ≢ 0) → IsNext cut order r
  next_passes r found = λ within. weighty r within (found (omega (arith, long)))

  -- at first none is appended
  pub pushed_none : (first end r : ℕ) (old : List ℕ) → first ≤ end → first ≤ r → r ≤ length passing → All (λ number. number ≡ 0) (slice_range passing first r) → old ≡ old ++ passing_numbers cut order first (min r end)
  pushed_none first end r old sorted from within zeros = sym (append-nil old) ∙ ap (λ ns. old ++ ns) (sym (none_between first r from within zeros (min r end) (omega arith)))

  -- one more
  pub pushed_more : (first end r next : ℕ) (old now : List ℕ) → first ≤ r → r < end → end ≤ length order → IsNext cut order r → now ≡ old ++ passing_numbers cut order first (min r end)
      → r + 1 ≤ next → next ≤ length passing → All (λ number. number ≡ 0) (slice_range passing (r + 1) next)
      → now ++ get_or order r 0 ∷ [] ≡ old ++ passing_numbers cut order first (min next end)
  pushed_more first end r next old now from below within found so_far later last zeros =
      let here : min r end ≡ r = omega arith in
      let n : ℕ = min next end in
      let one : passing_numbers cut order r (r + 1) ≡ get_or order r 0 ∷ [] = passing_one cut order r (omega arith) (found (omega arith)) in
      let rest : passing_numbers cut order (r + 1) n ≡ [] = none_between (r + 1) next later last zeros n (omega arith) in
      ap (λ ns. ns ++ get_or order r 0 ∷ []) (so_far ∙ ap (λ m. old ++ passing_numbers cut order first m) here)
      ∙ append_assoc old (passing_numbers cut order first r) (get_or order r 0 ∷ [])
      ∙ ap (λ ns. old ++ (passing_numbers cut order first r ++ ns)) (sym one)
      ∙ ap (λ ns. old ++ ns) (sym (passing-append cut order first r (r + 1) from (omega arith)))
      ∙ ap (λ ns. old ++ ns) (sym (append-nil (passing_numbers cut order first (r + 1))))
      ∙ ap (λ ns. old ++ (passing_numbers cut order first (r + 1) ++ ns)) (sym rest)
      ∙ ap (λ ns. old ++ ns) (sym (passing-append cut order first (r + 1) n (omega arith) (omega arith)))

-- numbers that have a key, and pass a test
filter-filter : (p q : ℕ → Bool) (xs : List ℕ) → filter p (filter q xs) ≡ filter (λ i. q i && p i) xs
filter-filter p q [] = refl
filter-filter p q (x ∷ xs) = at (q x) (filter-filter p q xs)
  where
    at : (b : Bool) → filter p (filter q xs) ≡ filter (λ i. q i && p i) xs → filter p (cond b (x ∷ filter q xs) (filter q xs)) ≡ cond (b && p x) (x ∷ filter (λ i. q i && p i) xs) (filter (λ i. q i && p i) xs)
    at true rest = ap (λ ys. cond (p x) (x ∷ ys) ys) rest
    at false rest = rest

filter_same_range : (p q : ℕ → Bool) (a n past : ℕ) → a + n ≡ past → ((i : ℕ) → i < past → p i ≡ q i) → filter p (range_with_len a n) ≡ filter q (range_with_len a n)
filter_same_range p q a zero past all same = refl
filter_same_range p q a (suc n) past all same =
    ap (λ (b : Bool). cond b (a ∷ filter p (range_with_len (a + 1) n)) (filter p (range_with_len (a + 1) n))) (same a (omega arith))
    ∙ ap (λ ys. cond (q a) (a ∷ ys) ys) (filter_same_range p q (a + 1) n past (omega arith) same)

-- of the numbers whose arcs have a key
pub with_key : (key : OuterArc → ℕ) (arcs : List OuterArc) (keys : List ℕ) (k : ℕ) (p : ℕ → Bool) → keys ≡ map key arcs
    → filter p (numbers_with keys k) ≡ filter (λ i. eqb (key (arc_at arcs i)) k && p i) (range_with_len 0 (length arcs))
with_key key arcs keys k p are =
    let many : length keys ≡ length arcs = ap length are ∙ length-map arcs key in
    filter-filter p (λ i. eqb (get_or keys i 0) k) (range_with_len 0 (length keys))
    ∙ ap (λ n. filter (λ i. eqb (get_or keys i 0) k && p i) (range_with_len 0 n)) many
    ∙ filter_same_range (λ i. eqb (get_or keys i 0) k && p i) (λ i. eqb (key (arc_at arcs i)) k && p i) 0 (length arcs) (length arcs) (omega arith)
    (λ i within. ap (λ n. eqb n k && p i) (ap (λ ks. get_or ks i 0) are ∙ get_or-map key arcs i no_arc 0 within))

-- and they are those of arcs
pub number_low : (keys : List ℕ) (k n j : ℕ) → length keys ≡ n → j < length (numbers_with keys k) → get_or (numbers_with keys k) j 0 < n
number_low keys k n j many within =
    All-filter_range (λ i. i < n) (λ i. eqb (get_or keys i 0) k) 0 (length keys) (λ i low high passes. omega (arith, many)) j 0 within

-- a loop that keeps those that pass
pub passes_more : (p : ℕ → Bool) (xs old now new : List ℕ) (i : ℕ) → i < length xs → now ≡ old ++ filter p (take i xs) → p (get_or xs i 0) ≡ true → new ≡ now ++ get_or xs i 0 ∷ [] → new ≡ old ++ filter p (take (i + 1) xs)
passes_more p xs old now new i within so_far passes is =
    is
    ∙ ap (λ ys. ys ++ get_or xs i 0 ∷ []) so_far
    ∙ append_assoc old (filter p (take i xs)) (get_or xs i 0 ∷ [])
    ∙ ap (λ ys. old ++ ys) (sym (filter_more p xs i 0 within ∙ ap (λ (b : Bool). filter p (take i xs) ++ cond b (get_or xs i 0 ∷ []) []) passes))

pub passes_same : (p : ℕ → Bool) (xs old now new : List ℕ) (i : ℕ) → i < length xs → now ≡ old ++ filter p (take i xs) → p (get_or xs i 0) ≡ false → new ≡ now → new ≡ old ++ filter p (take (i + 1) xs)
passes_same p xs old now new i within so_far fails is =
    is
    ∙ so_far
    ∙ ap (λ ys. old ++ ys) (sym (filter_more p xs i 0 within ∙ ap (λ (b : Bool). filter p (take i xs) ++ cond b (get_or xs i 0 ∷ []) []) fails ∙ append-nil (filter p (take i xs))))

-- the arcs that start in the window and don't pass
pub starting_are : (c : Cut) (keys numbers all : List ℕ) (i : ℕ) → keys ≡ map (λ (arc : OuterArc). arc.start / c.width) c.whole.arcs → all ≡ numbers_with keys c.number
    → numbers ≡ filter (λ j. not (passes_at c j)) (take i all) → length all ≤ i → numbers ≡ filter (starts_at c) (range_with_len 0 (length c.whole.arcs))
starting_are c keys numbers all i are is so_far past =
    so_far
    ∙ ap (filter (λ j. not (passes_at c j))) (take_all i all past ∙ is)
    ∙ with_key (λ (arc : OuterArc). arc.start / c.width) c.whole.arcs keys c.number (λ j. not (passes_at c j)) are

-- and those that end in it and start in another
pub ending_are : (c : Cut) (keys old numbers all : List ℕ) (i : ℕ) → keys ≡ map (last_window c.width) c.whole.arcs → all ≡ numbers_with keys c.number
    → numbers ≡ old ++ filter (λ j. not (starts_in c.width c.number (arc_at c.whole.arcs j))) (take i all) → length all ≤ i → numbers ≡ old ++ filter (ends_at c) (range_with_len 0 (length c.whole.arcs))
ending_are c keys old numbers all i are is so_far past =
    let p : ℕ → Bool = λ j. not (starts_in c.width c.number (arc_at c.whole.arcs j)) in
    so_far
    ∙ ap (λ xs. old ++ filter p xs) (take_all i all past ∙ is)
    ∙ ap (λ xs. old ++ xs) (with_key (last_window c.width) c.whole.arcs keys c.number p are)

-- From a window to the next: which arcs may begin or cease to pass, and what stands at the ranks afterwards.
use Rattle.std.proofs.Common.{◌≡◌, ◌≢◌, ◌∙◌, ◌&&◌, ℕ, ◌+◌, ◌-◌, ◌*◌, ◌/◌, ◌<◌, ◌≤◌, ap, sym, subst, Bool, true, false, cond, eqb, leb, ltb, arith, List, [], ◌++◌, length, map, get_or, All, Contains, ext_get_or, map-id, mul-le-mul_right, replicate, ⊎_elim, ◌^◌, div-add-mod', mod-lt}
use Rattle.std.specs.List.{list_any}
use Rattle.std.proofs.lemmas.Bool.{and_left, both_ways, cases_Bool, cases_eq, cases_lt, eq-eqb, le-leb, lt-leb, lt-ltb, le-ltb, or_parts}
use Rattle.std.proofs.lemmas.List.{get_or-map, get_or-replicate, get_or_past, length-map, length-replicate}
use Rattle.std.proofs.lemmas.List.Elements.{All-append, All-map}
use Rattle.std.proofs.lemmas.List.Folds.{list_any-append, list_any_at}
use Rattle.std.proofs.lemmas.Nat.{div_below, div-mul-add}
use Rattle.cache_model.proofs.Keeps.{All-filter_range, Contains-filter_range}
use Rattle.flow_model.specs.declared.arcs.OuterArc.{OuterArc}
use Rattle.flow_model.specs.Instances.{IsArc, IsInstance, arc_at, no_arc}
use Rattle.flow_model.specs.Windows.{last_window}
use Rattle.flow_windows.specs.Cuts.{Cut, cut_of}
use Rattle.window_arcs.specs.Current.{AreLive, ArePut, IsCurrent, passing_mark, passing_weight}
use Rattle.window_arcs.specs.Events.{numbers_with}
use Rattle.window_arcs.specs.Passing.{IsOrder, passes, passes_at}
use Rattle.window_arcs.proofs.EventLemmas.{has_key}
use Rattle.window_arcs.proofs.OrderLemmas.{numbers_within}

-- a number between two multiples
quotient : (a width k : ℕ) → width * k ≤ a → a < width * (k + 1) → a / width ≡ k
quotient a width k low high =
    let split : a ≡ k * width + (a - width * k) = omega arith in
    ap (λ n. n / width) split ∙ div-mul-add k width (a - width * k) (omega arith)

-- an arc that starts in neither of two windows starts before both or after both
starts_alike : (width k start : ℕ) → 0 < width → start / width ≢ k → start / width ≢ k + 1 → leb start (width * (k + 1)) ≡ leb start (width * k)
starts_alike width k start some apart apart_next =
    ⊎_elim
    (λ (after : width * k < start).
    ⊎_elim (λ (past : width * (k + 1) < start). lt-leb start (width * (k + 1)) past ∙ sym (lt-leb start (width * k) after))
    (λ (within : start ≤ width * (k + 1)).
    ⊎_elim (λ (at : start ≡ width * (k + 1)). absurd (apart_next (quotient start width (k + 1) (omega arith) (omega arith))))
    (λ (before : start ≢ width * (k + 1)). absurd (apart (quotient start width k (omega arith) (omega arith))))
    (cases_eq start (width * (k + 1))))
    (cases_lt (width * (k + 1)) start))
    (λ (before : start ≤ width * k). le-leb start (width * (k + 1)) (omega arith) ∙ sym (le-leb start (width * k) before))
    (cases_lt (width * k) start)

-- an arc whose last window is another than the next ends before it or goes on after it
ends_alike : (width k end : ℕ) → (end - 1) / width ≢ k + 1 → ltb (width * (k + 1 + 1)) end ≡ ltb (width * (k + 1)) end
ends_alike width k end apart =
    ⊎_elim (λ (on : width * (k + 1 + 1) < end). lt-ltb (width * (k + 1 + 1)) end on ∙ sym (lt-ltb (width * (k + 1)) end (omega arith)))
    (λ (low : end ≤ width * (k + 1 + 1)).
    ⊎_elim (λ (within : width * (k + 1) < end). absurd (apart (quotient (end - 1) width (k + 1) (omega arith) (omega arith))))
    (λ (before : end ≤ width * (k + 1)). le-ltb (width * (k + 1 + 1)) end low ∙ sym (le-ltb (width * (k + 1)) end before))
    (cases_lt (width * (k + 1)) end))
    (cases_lt (width * (k + 1 + 1)) end)

-- so it passes through the next window exactly if it passes through this one
passes_alike : (width k : ℕ) (arc : OuterArc) → 0 < width → arc.start / width ≢ k → arc.start / width ≢ k + 1 → last_window width arc ≢ k + 1 → passes width (k + 1) arc ≡ passes width k arc
passes_alike width k arc some apart apart_next going_on =
    ap (λ b. b && ltb (width * (k + 1 + 1)) arc.end) (starts_alike width k arc.start some apart apart_next)
    ∙ ap (λ b. leb arc.start (width * k) && b) (ends_alike width k arc.end going_on)

-- an arc that doesn't start in the first window doesn't pass through it
passes-first : (width : ℕ) (arc : OuterArc) → 0 < width → arc.start / width ≢ 0 → passes width 0 arc ≡ false
passes-first width arc some apart =
    ⊎_elim (λ (after : width * 0 < arc.start). and_left (leb arc.start (width * 0)) (ltb (width * (0 + 1)) arc.end) (lt-leb arc.start (width * 0) after))
    (λ (at : arc.start ≤ width * 0). absurd (apart (quotient arc.start width 0 (omega arith) (omega arith))))
    (cases_lt (width * 0) arc.start)

-- the list has the number
abbrev pub has : List ℕ → ℕ → Bool
has numbers i = list_any (λ j. eqb j i) numbers

-- the numbers that have a key are below the number of keys
numbers_low : (keys : List ℕ) (key : ℕ) → All (λ i. i < length keys) (numbers_with keys key)
numbers_low keys key = All-filter_range (λ i. i < length keys) (has_key keys key) 0 (length keys) (λ i low high has_it. omega arith)

-- and others have another key
other_key : (keys : List ℕ) (key i : ℕ) → i < length keys → has (numbers_with keys key) i ≡ false → get_or keys i 0 ≢ key
other_key keys key i low apart same =
    let numbers : List ℕ = numbers_with keys key in
    let found : Contains numbers i = subst (λ xs. Contains xs i) (map-id numbers) (Contains-filter_range (λ j. j) (has_key keys key) i 0 (length keys) (omega arith) (omega (arith, low)) (eq-eqb (get_or keys i 0) key same)) in
    both_ways (has numbers i) apart (list_any_at (λ j. eqb j i) numbers found.0 i found.1 (eq-eqb (get_or numbers found.0 i) i found.2))

-- the arcs of the list, and all others pass through the next window exactly if they pass through window k
pub record AreChanging (width k : ℕ) (arcs : List OuterArc) (changed : List ℕ) : Type 0 where
  pub within : All (λ i. i < length arcs) changed
  pub alike : (i : ℕ) → i < length arcs → has changed i ≡ false → passes width (k + 1) (arc_at arcs i) ≡ passes width k (arc_at arcs i)

-- those that start in window k or the next, or end in that, as they are pushed one list after another
pub changing : (width k : ℕ) (arcs : List OuterArc) (starts ends none first second third changed : List ℕ) → 0 < width → starts ≡ map (λ arc. arc.start / width) arcs → ends ≡ map (last_window width) arcs
    → none ≡ [] → first ≡ none ++ numbers_with starts k → second ≡ first ++ numbers_with starts (k + 1) → third ≡ second ++ numbers_with ends (k + 1) → changed ≡ third → AreChanging width k arcs changed
changing width k arcs starts ends none first second third changed some starting_at ending_at empty push_first push_second push_third same =
    let is : changed ≡ numbers_with starts k ++ numbers_with starts (k + 1) ++ numbers_with ends (k + 1) =
    same ∙ push_third ∙ ap (λ xs. xs ++ numbers_with ends (k + 1)) (push_second ∙ ap (λ xs. xs ++ numbers_with starts (k + 1)) (push_first ∙ ap (λ xs. xs ++ numbers_with starts k) empty)) in
    let each_start : length starts ≡ length arcs = ap length starting_at ∙ length-map arcs (λ (arc : OuterArc). arc.start / width) in
    let each_end : length ends ≡ length arcs = ap length ending_at ∙ length-map arcs (last_window width) in
    let here : List ℕ = numbers_with starts k in
    let next : List ℕ = numbers_with starts (k + 1) in
    let ending : List ℕ = numbers_with ends (k + 1) in
    let low : ℕ → Type 0 = λ i. i < length arcs in
    let low_starts : (key : ℕ) → All low (numbers_with starts key) = λ key. subst (λ n. All (λ i. i < n) (numbers_with starts key)) each_start (numbers_low starts key) in
    let low_ends : All low ending = subst (λ n. All (λ i. i < n) ending) each_end (numbers_low ends (k + 1)) in
    record {
      within = subst (All low) (sym is) (All-append low (here ++ next) ending (All-append low here next (low_starts k) (low_starts (k + 1))) low_ends);
      alike = λ i inside apart.
          let test : ℕ → Bool = λ j. eqb j i in
          let outer = or_parts (has (here ++ next) i) (has ending i) (sym (list_any-append test (here ++ next) ending) ∙ ap (λ xs. has xs i) (sym is) ∙ apart) in
          let inner = or_parts (has here i) (has next i) (sym (list_any-append test here next) ∙ outer.0) in
          let start : get_or starts i 0 ≡ (arc_at arcs i).start / width = ap (λ xs. get_or xs i 0) starting_at ∙ get_or-map (λ (arc : OuterArc). arc.start / width) arcs i no_arc 0 inside in
          let end : get_or ends i 0 ≡ last_window width (arc_at arcs i) = ap (λ xs. get_or xs i 0) ending_at ∙ get_or-map (last_window width) arcs i no_arc 0 inside in
          passes_alike width k (arc_at arcs i) some
          (λ e. other_key starts k i (omega (arith, inside, each_start)) inner.0 (start ∙ e))
          (λ e. other_key starts (k + 1) i (omega (arith, inside, each_start)) inner.1 (start ∙ e))
          (λ e. other_key ends (k + 1) i (omega (arith, inside, each_end)) outer.1 (end ∙ e));
    }

-- of those that start in the first window, and all others don't pass through it
pub record AreFirst (width : ℕ) (arcs : List OuterArc) (changed : List ℕ) : Type 0 where
  pub within : All (λ i. i < length arcs) changed
  pub outside : (i : ℕ) → i < length arcs → has changed i ≡ false → passes width 0 (arc_at arcs i) ≡ false

pub first_ones : (width : ℕ) (arcs : List OuterArc) (starts none pushed changed : List ℕ) → 0 < width → starts ≡ map (λ arc. arc.start / width) arcs → none ≡ [] → pushed ≡ none ++ numbers_with starts 0 → changed ≡ pushed → AreFirst width arcs changed
first_ones width arcs starts none pushed changed some starting_at empty push same =
    let is : changed ≡ numbers_with starts 0 = same ∙ push ∙ ap (λ xs. xs ++ numbers_with starts 0) empty in
    let each_start : length starts ≡ length arcs = ap length starting_at ∙ length-map arcs (λ (arc : OuterArc). arc.start / width) in
    record {
      within = subst (All (λ i. i < length arcs)) (sym is) (subst (λ n. All (λ i. i < n) (numbers_with starts 0)) each_start (numbers_low starts 0));
      outside = λ i inside apart.
          let start : get_or starts i 0 ≡ (arc_at arcs i).start / width = ap (λ xs. get_or xs i 0) starting_at ∙ get_or-map (λ (arc : OuterArc). arc.start / width) arcs i no_arc 0 inside in
          passes-first width (arc_at arcs i) some (λ e. other_key starts 0 i (omega (arith, inside, each_start)) (ap (λ xs. has xs i) (sym is) ∙ apart) (start ∙ e));
    }

-- at each rank stands what its arc has, if that was so of each that isn't put
pub numbers_put : (gets before : ℕ → ℕ) (order changed old new : List ℕ) → old ≡ map before order → ArePut gets order changed old new
    → ((r : ℕ) → r < length order → has changed (get_or order r 0) ≡ false → before (get_or order r 0) ≡ gets (get_or order r 0)) → new ≡ map gets order
numbers_put gets before order changed old new was are kept =
    let each_rank : length new ≡ length order = are.each_rank ∙ ap length was ∙ length-map order before in
    ext_get_or 0 new (map gets order) (each_rank ∙ sym (length-map order gets))
    (λ r low.
    let within : r < length order = omega (arith, low, each_rank) in
    let x : ℕ = get_or order r 0 in
    are.put r within
    ∙ ⊎_elim (λ (put : has changed x ≡ true). ap (λ b. cond b (gets x) (get_or old r 0)) put)
    (λ (left : has changed x ≡ false).
    ap (λ b. cond b (gets x) (get_or old r 0)) left ∙ ap (λ xs. get_or xs r 0) was ∙ get_or-map before order r 0 0 within ∙ kept r within left)
    (cases_Bool (has changed x))
    ∙ sym (get_or-map gets order r 0 0 within))

-- an arc with a mark passes, and one that passes has one
mark_yes : (cut : Cut) (i : ℕ) → passing_mark cut i ≢ 0 → passes_at cut i ≡ true
mark_yes cut i some =
    ⊎_elim (λ (pass : passes_at cut i ≡ true). pass) (λ (outside : passes_at cut i ≡ false). absurd (some (ap (λ b. cond b 1 0) outside))) (cases_Bool (passes_at cut i))

mark_some : (cut : Cut) (i : ℕ) → passes_at cut i ≡ true → passing_mark cut i ≢ 0
mark_some cut i pass none = let one : passing_mark cut i ≡ 1 = ap (λ b. cond b 1 0) pass in omega (arith, none, one)

-- at first all that pass are live
lives_first : (cut : Cut) (order live flows : List ℕ) → live ≡ map (passing_mark cut) order → AreLive cut order live flows
lives_first cut order live flows are =
    let each : length live ≡ length order = ap length are ∙ length-map order (passing_mark cut) in
    let mark : (r : ℕ) → r < length order → get_or live r 0 ≡ passing_mark cut (get_or order r 0) = λ r low. ap (λ xs. get_or xs r 0) are ∙ get_or-map (passing_mark cut) order r 0 0 low in
    record {
      each_rank = each;
      passing = λ r alive.
          ⊎_elim (λ (low : r < length order). mark_yes cut (get_or order r 0) (λ none. alive (mark r low ∙ none)))
          (λ (past : length order ≤ r). absurd (alive (get_or_past live r 0 (omega (arith, each, past)))))
          (cases_lt r (length order));
      empty = λ r low pass none. absurd (mark_some cut (get_or order r 0) pass (sym (mark r low) ∙ none));
    }

-- those that are put are live if they pass, and others as they were
pub lives_put : (before cut : Cut) (order changed old new flows : List ℕ) → AreLive before order old flows → ArePut (passing_mark cut) order changed old new
    → ((r : ℕ) → r < length order → has changed (get_or order r 0) ≡ false → passes_at cut (get_or order r 0) ≡ passes_at before (get_or order r 0)) → AreLive cut order new flows
lives_put before cut order changed old new flows were are kept =
    let each : length new ≡ length order = are.each_rank ∙ were.each_rank in
    let put : (r : ℕ) → r < length order → has changed (get_or order r 0) ≡ true → get_or new r 0 ≡ passing_mark cut (get_or order r 0) =
    λ r low found. are.put r low ∙ ap (λ b. cond b (passing_mark cut (get_or order r 0)) (get_or old r 0)) found in
    let left : (r : ℕ) → r < length order → has changed (get_or order r 0) ≡ false → get_or new r 0 ≡ get_or old r 0 =
    λ r low apart. are.put r low ∙ ap (λ b. cond b (passing_mark cut (get_or order r 0)) (get_or old r 0)) apart in
    record {
      each_rank = each;
      passing = λ r alive.
          ⊎_elim
          (λ (low : r < length order).
          ⊎_elim (λ (found : has changed (get_or order r 0) ≡ true). mark_yes cut (get_or order r 0) (λ none. alive (put r low found ∙ none)))
          (λ (apart : has changed (get_or order r 0) ≡ false). kept r low apart ∙ were.passing r (λ none. alive (left r low apart ∙ none)))
          (cases_Bool (has changed (get_or order r 0))))
          (λ (past : length order ≤ r). absurd (alive (get_or_past new r 0 (omega (arith, each, past)))))
          (cases_lt r (length order));
      empty = λ r low pass none.
          ⊎_elim (λ (found : has changed (get_or order r 0) ≡ true). absurd (mark_some cut (get_or order r 0) pass (sym (put r low found) ∙ none)))
          (λ (apart : has changed (get_or order r 0) ≡ false). were.empty r low (sym (kept r low apart) ∙ pass) (sym (left r low apart) ∙ none))
          (cases_Bool (has changed (get_or order r 0)));
    }

-- the next window
abbrev pub next_cut : Cut → Cut
next_cut cut = cut_of cut.whole cut.width (cut.number + 1)

-- its number is small
pub next_small : (width number steps : ℕ) → 0 < width → width * number < steps → steps ≤ 2 ^ 25 → number + 1 ≤ 2 ^ 25
next_small width number steps some has_step few = let least : 1 * number ≤ width * number = mul-le-mul_right number (omega arith) in omega (arith, least)

-- and current, once the weights of the arcs that may begin or cease to pass are put
pub current_next : (cut : Cut) (order ranks starts ends passing live flows changed new_passing new_live : List ℕ) → IsCurrent cut order ranks starts ends passing live flows → IsInstance cut.whole
    → AreChanging cut.width cut.number cut.whole.arcs changed → ArePut (passing_weight (next_cut cut)) order changed passing new_passing → ArePut (passing_mark (next_cut cut)) order changed live new_live
    → IsCurrent (next_cut cut) order ranks starts ends new_passing new_live flows
current_next cut order ranks starts ends passing live flows changed new_passing new_live current fits changing put put_live =
    let arcs : List OuterArc = cut.whole.arcs in
    let kept : (r : ℕ) → r < length order → has changed (get_or order r 0) ≡ false → passes_at (next_cut cut) (get_or order r 0) ≡ passes_at cut (get_or order r 0) =
    λ r low apart. changing.alike (get_or order r 0) (numbers_within cut.width arcs order current.ordered.all r 0 low) apart in
    record {
      in_range = current.in_range;
      some_width = current.some_width;
      narrow = current.narrow;
      ordered = current.ordered;
      first_windows = current.first_windows;
      last_windows = current.last_windows;
      weights = numbers_put (passing_weight (next_cut cut)) (passing_weight cut) order changed passing new_passing current.weights put
          (λ r low apart. ap (λ b. cond b (arc_at arcs (get_or order r 0)).weight 0) (sym (kept r low apart)));
      lives = lives_put cut (next_cut cut) order changed live new_live flows current.lives put_live kept;
      each_arc = current.each_arc;
      within_weights = current.within_weights;
    }

-- a step is in a window before the one after the last
window_low : (width steps t : ℕ) → 0 < width → t ≤ steps → t / width < steps / width + 2
window_low width steps t some within =
    let low : t / width < steps / width + 1 = div_below t width (steps / width + 1) some (omega (arith, within, div-add-mod' steps width, mod-lt steps some)) in
    omega (arith, low)

pub first_windows_low : (width steps n : ℕ) (arcs of : List OuterArc) (keys : List ℕ) → 0 < width → All (IsArc steps) arcs → of ≡ arcs → keys ≡ map (λ arc. arc.start / width) of → n ≡ steps → All (λ key. key < n / width + 2) keys
first_windows_low width steps n arcs of keys some fit same are all =
    let low : ℕ → Type 0 = λ key. key < steps / width + 2 in
    let start : OuterArc → ℕ = λ arc. arc.start / width in
    subst (λ m. All (λ key. key < m / width + 2) keys) (sym all)
    (subst (All low) (sym (are ∙ ap (map start) same))
    (All-map low start arcs (λ i d inside. let arc : IsArc steps (get_or arcs i d) = fit i d inside in window_low width steps (get_or arcs i d).start some (omega (arith, arc.order, arc.within)))))

pub last_windows_low : (width steps n : ℕ) (arcs of : List OuterArc) (keys : List ℕ) → 0 < width → All (IsArc steps) arcs → of ≡ arcs → keys ≡ map (last_window width) of → n ≡ steps → All (λ key. key < n / width + 2) keys
last_windows_low width steps n arcs of keys some fit same are all =
    let low : ℕ → Type 0 = λ key. key < steps / width + 2 in
    subst (λ m. All (λ key. key < m / width + 2) keys) (sym all)
    (subst (All low) (sym (are ∙ ap (map (last_window width)) same))
    (All-map low (last_window width) arcs (λ i d inside. let arc : IsArc steps (get_or arcs i d) = fit i d inside in window_low width steps ((get_or arcs i d).end - 1) some (omega (arith, arc.within)))))

-- as many zeros as numbers
zeros : (order : List ℕ) (n : ℕ) → n ≡ length order → replicate {A = ℕ} n 0 ≡ map (λ (i : ℕ). 0) order
zeros order n each =
    ext_get_or 0 (replicate {A = ℕ} n 0) (map (λ (i : ℕ). 0) order) (length-replicate {A = ℕ} n 0 ∙ each ∙ sym (length-map order (λ (i : ℕ). 0)))
    (λ r low.
    let within : r < n = omega (arith, low, length-replicate {A = ℕ} n 0) in
    get_or-replicate {A = ℕ} n r 0 0 within ∙ sym (get_or-map (λ (i : ℕ). 0) order r 0 0 (omega (arith, within, each))))

-- the first window is current, once the weights of the arcs that start in it are put
pub current_first : (cut : Cut) (order ranks starts ends none none_live passing live flows changed : List ℕ) (places : ℕ) → cut.number ≡ 0 → 0 < cut.width → cut.width < cut.whole.steps → IsInstance cut.whole → IsOrder cut.width cut.whole.arcs order ranks
    → starts ≡ map (λ arc. arc.start / cut.width) cut.whole.arcs → ends ≡ map (last_window cut.width) cut.whole.arcs → flows ≡ map (λ arc. arc.weight) cut.whole.arcs → places ≡ length order → none ≡ replicate places 0 → none_live ≡ replicate places 0
    → AreFirst cut.width cut.whole.arcs changed → ArePut (passing_weight cut) order changed none passing → ArePut (passing_mark cut) order changed none_live live → IsCurrent cut order ranks starts ends passing live flows
current_first cut order ranks starts ends none none_live passing live flows changed places first some narrow fits ordered starting ending full all empty empty_live firsts put put_live =
    let arcs : List OuterArc = cut.whole.arcs in
    let zero : replicate {A = ℕ} places 0 ≡ map (λ (i : ℕ). 0) order = zeros order places all in
    let outside : (r : ℕ) → r < length order → has changed (get_or order r 0) ≡ false → passes_at cut (get_or order r 0) ≡ false =
    λ r low apart. ap (λ k. passes cut.width k (arc_at arcs (get_or order r 0))) first ∙ firsts.outside (get_or order r 0) (numbers_within cut.width arcs order ordered.all r 0 low) apart in
    let weight : (i : ℕ) → i < length arcs → get_or flows i 0 ≡ (arc_at arcs i).weight = λ i low. ap (λ xs. get_or xs i 0) full ∙ get_or-map (λ (arc : OuterArc). arc.weight) arcs i no_arc 0 low in
    record {
      in_range = fits;
      some_width = some;
      narrow = narrow;
      ordered = ordered;
      first_windows = starting;
      last_windows = ending;
      weights = numbers_put (passing_weight cut) (λ i. 0) order changed none passing (empty ∙ zero) put (λ r low apart. ap (λ b. cond b (arc_at arcs (get_or order r 0)).weight 0) (sym (outside r low apart)));
      lives = lives_first cut order live flows (numbers_put (passing_mark cut) (λ i. 0) order changed none_live live (empty_live ∙ zero) put_live (λ r low apart. ap (λ b. cond b 1 0) (sym (outside r low apart))));
      each_arc = ap length full ∙ length-map arcs (λ (arc : OuterArc). arc.weight);
      within_weights = λ i low. omega (arith, weight i low);
    }

-- The flows so far, as they fall in a window.
use Rattle.std.proofs.Common.{◌≡◌, ◌≢◌, ◌∙◌, ℕ, ◌+◌, ◌-◌, ◌<◌, ◌≤◌, ap, sym, refl, subst, min, true, arith, List, length, length-set, get_or, set, slice_range, All, ⊎_elim}
use Rattle.std.proofs.lemmas.Bool.{cases_eq, cases_lt}
use Rattle.std.proofs.lemmas.List.{get_or-set_other, get_or-set_same}
use Rattle.flow_windows.specs.Cuts.{Cut}
use Rattle.window_arcs.specs.Current.{AreDistinct, AreEmptied, AreEmptiedLive, AreLive, AreLowered, IsCurrent}
use Rattle.window_arcs.specs.Passing.{passes_at, passing_numbers}
use Rattle.window_arcs.proofs.CurrentLemmas.{length-slice_range-le, slice_range-at}
use Rattle.window_arcs.proofs.Members.{outside, passes_in, place_in, place_of_member, place_of_passing, times, times_twice}

-- the flows of so many kept arcs are lowered
pub record IsLowering (kept parts old : List ℕ) (n : ℕ) (flows : List ℕ) : Type 0 where
  pub within : n ≤ length kept
  pub each_arc : length flows ≡ length old
  pub fallen : (j : ℕ) → j < n → get_or flows (get_or kept j 0) 0 ≡ min (get_or old (get_or kept j 0) 0) (get_or parts j 0)
  pub others : (i : ℕ) → ((j : ℕ) → j < n → get_or kept j 0 ≢ i) → get_or flows i 0 ≡ get_or old i 0

pub lowering_none : (kept parts old : List ℕ) (n : ℕ) → n ≡ 0 → IsLowering kept parts old n old
lowering_none kept parts old n none = record { within = omega arith; each_arc = refl; fallen = λ j low. absurd (omega arith); others = λ i apart. refl }

pub lowering_more : (kept parts old flows next : List ℕ) (n x : ℕ) → AreDistinct kept → n < length kept → x ≡ get_or kept n 0 → x < length old → IsLowering kept parts old n flows
    → next ≡ set flows x (min (get_or flows x 0) (get_or parts n 0)) → IsLowering kept parts old (n + 1) next
lowering_more kept parts old flows next n x distinct within here low so_far is =
    let value : ℕ = min (get_or flows x 0) (get_or parts n 0) in
    let other : (i : ℕ) → i ≢ x → get_or next i 0 ≡ get_or flows i 0 = λ i apart. ap (λ (xs : List ℕ). get_or xs i 0) is ∙ get_or-set_other flows x i value 0 apart in
    let before : (j : ℕ) → j < n → get_or kept j 0 ≢ x = λ j early same. distinct j n early within (same ∙ here) in
    let at : get_or next x 0 ≡ min (get_or old x 0) (get_or parts n 0) =
    ap (λ (xs : List ℕ). get_or xs x 0) is
    ∙ get_or-set_same flows x value 0 (omega (arith, low, so_far.each_arc))
    ∙ ap (λ f. min f (get_or parts n 0)) (so_far.others x before) in
    record {
      within = omega arith;
      each_arc = ap length is ∙ length-set flows x value ∙ so_far.each_arc;
      fallen = λ j under.
          ⊎_elim
          (λ (same : j ≡ n). subst (λ m. get_or next (get_or kept m 0) 0 ≡ min (get_or old (get_or kept m 0) 0) (get_or parts m 0)) (sym same) (subst (λ m. get_or next m 0 ≡ min (get_or old m 0) (get_or parts n 0)) here at))
          (λ (differs : j ≢ n). other (get_or kept j 0) (before j (omega arith)) ∙ so_far.fallen j (omega arith))
          (cases_eq j n);
      others = λ i apart.
          other i (λ same. apart n (omega arith) (sym here ∙ sym same)) ∙ so_far.others i (λ j early. apart j (omega arith));
    }

pub lowering_all : (kept parts old flows : List ℕ) (n : ℕ) → length kept ≤ n → IsLowering kept parts old n flows → AreLowered kept parts old flows
lowering_all kept parts old flows n past so_far =
    record {
      each_arc = so_far.each_arc;
      fallen = λ j within. so_far.fallen j (omega arith);
      others = λ i apart. so_far.others i (λ j low. apart j (omega (arith, so_far.within)));
    }

-- no flow has risen
pub lowered_le : (kept parts old flows : List ℕ) → AreLowered kept parts old flows → (i : ℕ) → get_or flows i 0 ≤ get_or old i 0
lowered_le kept parts old flows lower i =
    ⊎_elim
    (λ (there : 0 < times i kept). let at = place_of_member i kept there in subst (λ m. get_or flows m 0 ≤ get_or old m 0) at.2 (omega (arith, lower.fallen at.0 at.1)))
    (λ (none : times i kept ≤ 0). omega (arith, lower.others i (outside i kept (omega arith))))
    (cases_lt 0 (times i kept))

-- those from some rank to the one before another have none, and no flow but theirs has changed
pub record IsEmptying (cut : Cut) (order : List ℕ) (end : ℕ) (old : List ℕ) (rank : ℕ) (live flows : List ℕ) : Type 0 where
  pub lives : AreLive cut order live flows
  pub each_arc : length flows ≡ length old
  pub falls : (i : ℕ) → get_or flows i 0 ≤ get_or old i 0
  pub emptied : (r : ℕ) → end ≤ r → r < rank → r < length order → passes_at cut (get_or order r 0) ≡ true → get_or flows (get_or order r 0) 0 ≡ 0
  pub others : (i : ℕ) → ((r : ℕ) → end ≤ r → r < length order → passes_at cut (get_or order r 0) ≡ true → get_or order r 0 ≢ i) → get_or flows i 0 ≡ get_or old i 0

module _ (cut : Cut) (order : List ℕ) (end : ℕ) (old : List ℕ) where
  -- those that aren't live have none
  skipped : (live flows : List ℕ) (a b : ℕ) → AreLive cut order live flows → b ≤ length live → All (λ number. number ≡ 0) (slice_range live a b) → (r : ℕ) → a ≤ r → r < b → r < length order → passes_at cut (get_or order r 0) ≡ true
      → get_or flows (get_or order r 0) 0 ≡ 0
  skipped live flows a b lives within zeros r from until low passes =
      let short : r - a < b - a = omega arith in
      let back : a + (r - a) ≡ r = omega arith in
      let none : get_or live r 0 ≡ 0 =
      sym (ap (λ k. get_or live k 0) back) ∙ sym (slice_range-at live a b (r - a) short) ∙ zeros (r - a) 0 (omega (arith, length-slice_range-le live a b within)) in
      lives.empty r low passes none

  pub emptying_none : (live : List ℕ) (rank : ℕ) → AreLive cut order live old → rank ≤ length live → All (λ number. number ≡ 0) (slice_range live end rank) → IsEmptying cut order end old rank live old
  emptying_none live rank lives within zeros =
      record {
        lives = lives;
        each_arc = refl;
        falls = λ i. omega arith;
        emptied = λ r from until low passes. skipped live old end rank lives within zeros r from until low passes;
        others = λ i apart. refl;
      }

  pub emptying_more : (live flows next_live next : List ℕ) (rank later x : ℕ) → IsEmptying cut order end old rank live flows → end ≤ rank → rank < length order → get_or live rank 0 ≢ 0 → x ≡ get_or order rank 0 → x < length flows
      → next ≡ set flows x 0 → next_live ≡ set live rank 0 → later ≤ length next_live → All (λ number. number ≡ 0) (slice_range next_live (rank + 1) later) → IsEmptying cut order end old later next_live next
  emptying_more live flows next_live next rank later x so_far from within some here low is live_is last zeros =
      let passes : passes_at cut (get_or order rank 0) ≡ true = so_far.lives.passing rank some in
      let at : get_or next x 0 ≡ 0 = ap (λ (xs : List ℕ). get_or xs x 0) is ∙ get_or-set_same flows x 0 0 low in
      let other : (i : ℕ) → i ≢ x → get_or next i 0 ≡ get_or flows i 0 = λ i apart. ap (λ (xs : List ℕ). get_or xs i 0) is ∙ get_or-set_other flows x i 0 0 apart in
      let none_stays : (i : ℕ) → get_or flows i 0 ≡ 0 → get_or next i 0 ≡ 0 = λ i none. ⊎_elim (λ (same : i ≡ x). ap (λ k. get_or next k 0) same ∙ at) (λ (apart : i ≢ x). other i apart ∙ none) (cases_eq i x) in
      let live_there : (r : ℕ) → r ≢ rank → get_or next_live r 0 ≡ get_or live r 0 = λ r apart. ap (λ (xs : List ℕ). get_or xs r 0) live_is ∙ get_or-set_other live rank r 0 0 apart in
      let long : length live ≡ length order = so_far.lives.each_rank in
      let live_here : get_or next_live rank 0 ≡ 0 = ap (λ (xs : List ℕ). get_or xs rank 0) live_is ∙ get_or-set_same live rank 0 0 (omega (arith, within, long)) in
      let lives : AreLive cut order next_live next =
      record {
        each_rank = ap length live_is ∙ length-set live rank 0 ∙ long;
        passing = λ r is_live.
            ⊎_elim
            (λ (same : r ≡ rank). subst (λ k. passes_at cut (get_or order k 0) ≡ true) (sym same) passes)
            (λ (apart : r ≢ rank). so_far.lives.passing r (λ none. is_live (live_there r apart ∙ none)))
            (cases_eq r rank);
        empty = λ r under passing none.
            ⊎_elim
            (λ (same : r ≡ rank). ap (λ k. get_or next (get_or order k 0) 0) same ∙ ap (λ k. get_or next k 0) (sym here) ∙ at)
            (λ (apart : r ≢ rank). none_stays (get_or order r 0) (so_far.lives.empty r under passing (sym (live_there r apart) ∙ none)))
            (cases_eq r rank);
      } in
      record {
        lives = lives;
        each_arc = ap length is ∙ length-set flows x 0 ∙ so_far.each_arc;
        falls = λ i. ⊎_elim (λ (same : i ≡ x). omega (arith, ap (λ k. get_or next k 0) same, at)) (λ (apart : i ≢ x). omega (arith, other i apart, so_far.falls i)) (cases_eq i x);
        emptied = λ r above until under passing.
            ⊎_elim
            (λ (before : r < rank). none_stays (get_or order r 0) (so_far.emptied r above before under passing))
            (λ (after : rank ≤ r).
            ⊎_elim
            (λ (same : r ≡ rank). ap (λ k. get_or next (get_or order k 0) 0) same ∙ ap (λ k. get_or next k 0) (sym here) ∙ at)
            (λ (apart : r ≢ rank). skipped next_live next (rank + 1) later lives last zeros r (omega arith) until under passing)
            (cases_eq r rank))
            (cases_lt r rank);
        others = λ i apart. other i (λ same. apart rank from within passes (sym here ∙ sym same)) ∙ so_far.others i apart;
      }

  -- once all are done
  emptied_all : (live flows : List ℕ) (rank : ℕ) → IsEmptying cut order end old rank live flows → length order ≤ rank → AreEmptied (passing_numbers cut order end (length order)) old flows
  emptied_all live flows rank so_far past =
      record {
        each_arc = so_far.each_arc;
        emptied = λ j within.
            let at = place_in (passes_at cut) (slice_range order end (length order)) j within in
            let short : at.0 < length order - end = omega (arith, at.1, length-slice_range-le order end (length order) (omega arith)) in
            let is : get_or order (end + at.0) 0 ≡ get_or (passing_numbers cut order end (length order)) j 0 = sym (slice_range-at order end (length order) at.0 short) ∙ at.2 in
            subst (λ k. get_or flows k 0 ≡ 0) is (so_far.emptied (end + at.0) (omega arith) (omega (arith, short)) (omega (arith, short)) (ap (passes_at cut) is ∙ passes_in (passes_at cut) (slice_range order end (length order)) j within));
        others = λ i apart. so_far.others i (λ r above under passing here.
            let short : r - end < length (slice_range order end (length order)) = omega (arith, length-slice_range-le order end (length order) (omega arith)) in
            let back : end + (r - end) ≡ r = omega arith in
            let at : get_or (slice_range order end (length order)) (r - end) 0 ≡ i = slice_range-at order end (length order) (r - end) (omega arith) ∙ ap (λ k. get_or order k 0) back ∙ here in
            let stands = place_of_passing (passes_at cut) (slice_range order end (length order)) (r - end) short (ap (passes_at cut) (at ∙ sym here) ∙ passing) in
            apart stands.0 stands.1 (stands.2 ∙ at));
      }

  pub emptying_all : (live flows : List ℕ) (rank : ℕ) → IsEmptying cut order end old rank live flows → length order ≤ rank → AreEmptiedLive cut order end old live flows
  emptying_all live flows rank so_far past = record { lives = so_far.lives; emptied = emptied_all live flows rank so_far past }

-- no flow has risen
pub emptied_le : (numbers old flows : List ℕ) → AreEmptied numbers old flows → (i : ℕ) → get_or flows i 0 ≤ get_or old i 0
emptied_le numbers old flows emptied i =
    ⊎_elim
    (λ (there : 0 < times i numbers). let at = place_of_member i numbers there in subst (λ m. get_or flows m 0 ≤ get_or old m 0) at.2 (omega (arith, emptied.emptied at.0 at.1)))
    (λ (none : times i numbers ≤ 0). omega (arith, emptied.others i (outside i numbers (omega arith))))
    (cases_lt 0 (times i numbers))

-- numbers that stand there once are distinct
pub once_distinct : (numbers : List ℕ) → ((i : ℕ) → times i numbers ≤ 1) → AreDistinct numbers
once_distinct numbers once j k order within same = omega (arith, once (get_or numbers k 0), times_twice (get_or numbers k 0) numbers j k order within same refl)

-- with other live arcs, all else holds still
pub current_empties : (cut : Cut) (order ranks starts ends passing live old new_live flows : List ℕ) → IsCurrent cut order ranks starts ends passing live old → length flows ≡ length old → ((i : ℕ) → get_or flows i 0 ≤ get_or old i 0) → AreLive cut order new_live flows
    → IsCurrent cut order ranks starts ends passing new_live flows
current_empties cut order ranks starts ends passing live old new_live flows is same falls lives =
    record {
      in_range = is.in_range;
      some_width = is.some_width;
      narrow = is.narrow;
      ordered = is.ordered;
      first_windows = is.first_windows;
      last_windows = is.last_windows;
      weights = is.weights;
      lives = lives;
      each_arc = same ∙ is.each_arc;
      within_weights = λ i within. omega (arith, falls i, is.within_weights i within);
    }

-- and when flows fall
pub current_falls : (cut : Cut) (order ranks starts ends passing live old flows : List ℕ) → IsCurrent cut order ranks starts ends passing live old → length flows ≡ length old → ((i : ℕ) → get_or flows i 0 ≤ get_or old i 0)
    → IsCurrent cut order ranks starts ends passing live flows
current_falls cut order ranks starts ends passing live old flows is same falls =
    current_empties cut order ranks starts ends passing live old live flows is same falls (record {
      each_rank = is.lives.each_rank;
      passing = is.lives.passing;
      empty = λ r within passes none. omega (arith, falls (get_or order r 0), is.lives.empty r within passes none);
    })

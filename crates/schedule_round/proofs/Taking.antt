-- One interval more: what its keep adds to the loads, and the flagged intervals one after another.
use Rattle.std.proofs.Common.{◌≡◌, ◌≢◌, ℕ, suc, zero, ◌+◌, ◌<◌, ◌≤◌, ◌^◌, ◌∙◌, sym, refl, ap, subst, Bool, true, false, ◌&&◌, ◌==◌, cond, nat_lt, nat_le, List, [], ◌∷◌, length, get_or, replicate, set, arith, ⊎_elim, All, sum_by, zip}
use Rattle.std.specs.Prelude.{AllPairs}
use Rattle.std.specs.List.{list_any, AllZip}
use Rattle.std.proofs.lemmas.Bool.{cases_Bool, cases_lt, cases_eq, and_left, and_right, and_from, and_parts, both_ways, eq-eqb, lt-ltb, le-ltb, le-leb, lt-leb, leb-true, ltb-true}
use Rattle.std.proofs.lemmas.List.{get_or-set_same, get_or-set_other, length-set, length-replicate, get_or-replicate, get_or_past}
use Rattle.std.proofs.lemmas.List.Elements.{All-head, All-tail}
use Rattle.std.proofs.lemmas.List.Folds.{list_any_at}
use Rattle.std.proofs.lemmas.List.Sums.{sum_by-cons}
use Rattle.cache_model.specs.declared.intervals.Interval.{Interval}
use Rattle.cache_model.specs.Schedules.{covers}
use Rattle.cache_model.specs.Claim.{is_kept}
use Rattle.cache_model.specs.Rounding.{FitTogether, taken_load}
use Rattle.interval_maker.specs.Timelines.{Timeline, IsInterval, IsTimeline, no_interval}
use Rattle.load_tree.specs.Ranges.{AddsOver, HasSmallRoom}
use Rattle.schedule_round.specs.Ranks.{interval_at}
use Rattle.schedule_round.specs.Taken.{IsTaken}
use Rattle.schedule_round.proofs.Lists.{AllZip-from_get_or}

-- keeps that agree at the starts of intervals leave them the same load
taken_load-agree : (keeps new : List Bool) (t : ℕ) (items : List Interval) → All (λ i. is_kept new i.start ≡ is_kept keeps i.start) items → taken_load items new t ≡ taken_load items keeps t
taken_load-agree keeps new t [] same = refl
taken_load-agree keeps new t (i ∷ items) same =
    omega (
      arith,
      sum_by-cons (λ (j : Interval). cond (covers t j && is_kept new j.start) j.size 0) i items,
      sum_by-cons (λ (j : Interval). cond (covers t j && is_kept keeps j.start) j.size 0) i items,
      ap (λ b. cond (covers t i && b) i.size 0) (All-head (λ j. is_kept new j.start ≡ is_kept keeps j.start) i items same),
      taken_load-agree keeps new t items (All-tail (λ j. is_kept new j.start ≡ is_kept keeps j.start) i items same),
    )

-- one keep more adds the size of its interval to the steps that it covers
taken_load-more : (keeps new : List Bool) (t : ℕ) (items : List Interval) (n : ℕ) → AllPairs (λ i j. i.start < j.start) items → n < length items
    → ((r : ℕ) → r ≢ (interval_at items n).start → is_kept new r ≡ is_kept keeps r) → is_kept keeps (interval_at items n).start ≡ false → is_kept new (interval_at items n).start ≡ true
    → taken_load items new t ≡ taken_load items keeps t + cond (covers t (interval_at items n)) (interval_at items n).size 0
taken_load-more keeps new t [] n order low others old fresh = absurd (omega arith)
taken_load-more keeps new t (i ∷ items) zero order low others old fresh =
    omega (
      arith,
      sum_by-cons (λ (j : Interval). cond (covers t j && is_kept new j.start) j.size 0) i items,
      sum_by-cons (λ (j : Interval). cond (covers t j && is_kept keeps j.start) j.size 0) i items,
      here (covers t i) (is_kept new i.start) (is_kept keeps i.start) fresh old,
      taken_load-agree keeps new t items (λ k d lt. others (get_or items k d).start (let later : i.start < (get_or items k d).start = order 0 (suc k) d (omega arith) (omega arith) in λ same. omega arith)),
    )
  where
    on : (over : Bool) → cond (over && true) i.size 0 ≡ cond (over && false) i.size 0 + cond over i.size 0
    on true = omega arith
    on false = omega arith

    here : (over now was : Bool) → now ≡ true → was ≡ false → cond (over && now) i.size 0 ≡ cond (over && was) i.size 0 + cond over i.size 0
    here over now was set_now unset =
        ap {B = ℕ} (λ b. cond (over && b) i.size 0) set_now ∙ on over ∙ ap {B = ℕ} (λ b. cond (over && b) i.size 0 + cond over i.size 0) (sym unset)
taken_load-more keeps new t (i ∷ items) (suc n) order low others old fresh =
    omega (
      arith,
      sum_by-cons (λ (j : Interval). cond (covers t j && is_kept new j.start) j.size 0) i items,
      sum_by-cons (λ (j : Interval). cond (covers t j && is_kept keeps j.start) j.size 0) i items,
      ap (λ b. cond (covers t i && b) i.size 0) (others i.start (let later : i.start < (interval_at items n).start = order 0 (suc n) no_interval (omega arith) low in λ same. omega arith)),
      taken_load-more keeps new t items n (λ j k d before short. order (suc j) (suc k) d (omega arith) (omega arith)) (omega arith) others old fresh,
    )

-- no request is kept
no_keeps : (n s : ℕ) → is_kept (replicate n false) s ≡ false
no_keeps n s =
    ⊎_elim
    (λ (low : s < n). get_or-replicate n s false false low)
    (λ (past : n ≤ s). get_or_past (replicate n false) s false (omega (arith, length-replicate n false)))
    (cases_lt s n)

-- nothing is kept yet
pub taken_none : (line : Timeline) (capacity : ℕ) → IsTaken line capacity (replicate line.steps false) (replicate line.steps 0)
taken_none line capacity = record {
  one_keep_each = length-replicate line.steps false;
  one_load_each = length-replicate line.steps 0;
  only_starts = λ s _. no_keeps line.steps s;
  loads_are = λ s low. get_or-replicate line.steps s 0 0 low ∙ sym (no_load line.items s);
  within_capacity = λ s. omega (arith, no_load line.items s);
}
  where
    no_load : (intervals : List Interval) (s : ℕ) → taken_load intervals (replicate line.steps false) s ≡ 0
    no_load [] s = refl
    no_load (i ∷ intervals) s =
        omega (
          arith,
          sum_by-cons (λ (j : Interval). cond (covers s j && is_kept (replicate line.steps false) j.start) j.size 0) i intervals,
          ap {B = ℕ} (λ b. cond b i.size 0) (and_right (covers s i) (is_kept (replicate line.steps false) i.start) (no_keeps line.steps i.start)),
          no_load intervals s,
        )

module _ (line : Timeline) (is_line : IsTimeline line) (n : ℕ) (in_line : n < length line.items) where
  abbrev here : Interval
  here = interval_at line.items n

  shaped : IsInterval line.steps here
  shaped = is_line.intervals n no_interval in_line

  -- no other interval starts there
  pub only_one : (j : ℕ) → j < length line.items → (interval_at line.items j).start ≡ here.start → j ≡ n
  only_one j low same =
      ⊎_elim
      (λ (e : j ≡ n). e)
      (λ (ne : j ≢ n).
      ⊎_elim
      (λ (before : j < n). let up = is_line.order j n no_interval before in_line in absurd (omega arith))
      (λ (after : n ≤ j). let up = is_line.order n j no_interval (omega arith) low in absurd (omega arith))
      (cases_lt j n))
      (cases_eq j n)

  module _ (keeps new : List Bool) (is : new ≡ set keeps here.start true) (each : length keeps ≡ line.steps) where
    pub kept : is_kept new here.start ≡ true
    kept = ap (λ ks. is_kept ks here.start) is ∙ get_or-set_same keeps here.start true false (omega (arith, shaped.order, shaped.within))

    pub others : (r : ℕ) → r ≢ here.start → is_kept new r ≡ is_kept keeps r
    others r other = ap (λ ks. is_kept ks r) is ∙ get_or-set_other keeps here.start r true false other

    pub load_more : is_kept keeps here.start ≡ false → (t : ℕ) → taken_load line.items new t ≡ taken_load line.items keeps t + cond (covers t here) here.size 0
    load_more fresh t = taken_load-more keeps new t line.items n is_line.order in_line others fresh kept

    -- where it fits, it is taken with what was
    pub taken_more : (capacity : ℕ) (loads raised : List ℕ) → IsTaken line capacity keeps loads → is_kept keeps here.start ≡ false
        → ((t : ℕ) → here.start ≤ t → t < here.end → taken_load line.items keeps t + here.size ≤ capacity)
        → AddsOver loads raised here.start here.end here.size
        → IsTaken line capacity new raised
    taken_more capacity loads raised so_far fresh room adds = record {
      one_keep_each = ap length is ∙ length-set keeps here.start true ∙ each;
      one_load_each = adds.steps ∙ so_far.one_load_each;
      only_starts = λ t none.
          others t (λ same.
          let started : list_any (λ i. i.start == t) line.items ≡ true = list_any_at (λ i. i.start == t) line.items n no_interval in_line (eq-eqb here.start t (sym same)) in
          both_ways (list_any (λ i. i.start == t) line.items) none started)
          ∙ so_far.only_starts t none;
      loads_are = λ t low. at t low;
      within_capacity = λ t.
          ⊎_elim
          (λ (over : covers t here ≡ true).
          let parts = and_parts (nat_le here.start t) (nat_lt t here.end) over in
          omega (arith, load_more fresh t, ap {B = ℕ} (λ b. cond b here.size 0) over, room t (leb-true here.start t parts.0) (ltb-true t here.end parts.1)))
          (λ (off : covers t here ≡ false). omega (arith, load_more fresh t, ap {B = ℕ} (λ b. cond b here.size 0) off, so_far.within_capacity t))
          (cases_Bool (covers t here));
    }
      where
        at : (t : ℕ) → t < line.steps → get_or raised t 0 ≡ taken_load line.items new t
        at t low =
            ⊎_elim
            (λ (before : t < here.start).
            omega (arith, adds.before t before, so_far.loads_are t low, load_more fresh t, ap {B = ℕ} (λ b. cond b here.size 0) (and_left (nat_le here.start t) (nat_lt t here.end) (lt-leb here.start t before))))
            (λ (from : here.start ≤ t).
            ⊎_elim
            (λ (inside : t < here.end).
            omega (arith, adds.covered t from inside, so_far.loads_are t low, load_more fresh t, ap {B = ℕ} (λ b. cond b here.size 0) (and_from (nat_le here.start t) (nat_lt t here.end) (le-leb here.start t from) (lt-ltb t here.end inside))))
            (λ (past : here.end ≤ t).
            omega (arith, adds.after t past, so_far.loads_are t low, load_more fresh t, ap {B = ℕ} (λ b. cond b here.size 0) (and_right (nat_le here.start t) (nat_lt t here.end) (le-ltb t here.end past))))
            (cases_lt t here.end))
            (cases_lt t here.start)

-- ---- the flagged intervals, one after another

-- of the first k intervals the flagged ones are taken
pub record IsFlaggedTo (line : Timeline) (capacity : ℕ) (full : List Bool) (k : ℕ) (keeps : List Bool) (loads : List ℕ) : Type 0 where
  pub taken : IsTaken line capacity keeps loads
  pub flagged : (j : ℕ) → j < length line.items → is_kept keeps (interval_at line.items j).start ≡ (nat_lt j k && get_or full j false)

-- one number further, all but the last are as they were
before_next : (j k : ℕ) → j ≢ k → nat_lt j k ≡ nat_lt j (k + 1)
before_next j k other =
    ⊎_elim
    (λ (before : j < k). lt-ltb j k before ∙ sym (lt-ltb j (k + 1) (omega arith)))
    (λ (after : k ≤ j). le-ltb j k after ∙ sym (le-ltb j (k + 1) (omega arith)))
    (cases_lt j k)

-- where only flagged intervals are taken, they weigh no more than all flagged ones
taken_load-le_flagged : (keeps : List Bool) (t : ℕ) (items : List Interval) (full : List Bool) → AllZip (λ i flagged. is_kept keeps i.start ≡ true → flagged ≡ true) items full
    → taken_load items keeps t ≤ sum_by (λ (i, flagged). cond (covers t i && flagged) i.size 0) (zip items full)
taken_load-le_flagged keeps t [] full all = omega arith
taken_load-le_flagged keeps t (i ∷ items) [] all = absurd all
taken_load-le_flagged keeps t (i ∷ items) (f ∷ full) all =
    omega (
      arith,
      sum_by-cons (λ (j : Interval). cond (covers t j && is_kept keeps j.start) j.size 0) i items,
      sum_by-cons (λ (p : Interval × Bool). cond (covers t p.0 && p.1) p.0.size 0) (i, f) (zip items full),
      at (covers t i) (is_kept keeps i.start) f all.0,
      taken_load-le_flagged keeps t items full all.1,
    )
  where
    at : (over kept flag : Bool) → (kept ≡ true → flag ≡ true) → cond (over && kept) i.size 0 ≤ cond (over && flag) i.size 0
    at false kept flag h = omega arith
    at true false flag h = omega arith
    at true true flag h = omega (arith, ap {B = ℕ} (λ b. cond b i.size 0) (h refl))

module _ (line : Timeline) (capacity : ℕ) (full : List Bool) (is_line : IsTimeline line) (fit : FitTogether line.items capacity full) where
  -- no flag is looked at yet
  flagged_none : IsFlaggedTo line capacity full 0 (replicate line.steps false) (replicate line.steps 0)
  flagged_none = record {
    taken = taken_none line capacity;
    flagged = λ j low. no_keeps line.steps (interval_at line.items j).start ∙ sym (and_left (nat_lt j 0) (get_or full j false) (le-ltb j 0 (omega arith)));
  }

  -- the same, of lists that are equal to these
  pub flagged_start : (keeps : List Bool) (loads : List ℕ) (steps : ℕ) → steps ≡ line.steps → keeps ≡ replicate steps false → loads ≡ replicate steps 0 → IsFlaggedTo line capacity full 0 keeps loads
  flagged_start keeps loads steps same keeps_are loads_are =
      subst (λ ks. IsFlaggedTo line capacity full 0 ks loads) (sym (keeps_are ∙ ap (λ n. replicate n false) same))
      (subst (λ ls. IsFlaggedTo line capacity full 0 (replicate line.steps false) ls) (sym (loads_are ∙ ap {B = List ℕ} (λ n. replicate n 0) same)) flagged_none)

  module _ (k : ℕ) (keeps : List Bool) (loads : List ℕ) (so_far : IsFlaggedTo line capacity full k keeps loads) (low : k < length line.items) where
    abbrev next : Interval
    next = interval_at line.items k

    -- not flagged: nothing changes
    pub flagged_same : get_or full k false ≡ false → IsFlaggedTo line capacity full (k + 1) keeps loads
    flagged_same off = record {
      taken = so_far.taken;
      flagged = λ j within.
          so_far.flagged j within
          ∙ ⊎_elim
          (λ (last : j ≡ k). let none : get_or full j false ≡ false = ap (λ m. get_or full m false) last ∙ off in and_right (nat_lt j k) (get_or full j false) none ∙ sym (and_right (nat_lt j (k + 1)) (get_or full j false) none))
          (λ (other : j ≢ k). ap (λ b. b && get_or full j false) (before_next j k other))
          (cases_eq j k);
    }

    -- the next one is not taken yet
    fresh : is_kept keeps next.start ≡ false
    fresh = so_far.flagged k low ∙ and_left (nat_lt k k) (get_or full k false) (le-ltb k k (omega arith))

    module _ (on : get_or full k false ≡ true) where
      -- with it, one flagged interval more is taken
      one_more : (new : List Bool) → new ≡ set keeps next.start true → (j : ℕ) → j < length line.items → is_kept new (interval_at line.items j).start ≡ (nat_lt j (k + 1) && get_or full j false)
      one_more new is j within =
          ⊎_elim
          (λ (last : j ≡ k).
          ap (λ m. is_kept new (interval_at line.items m).start) last
          ∙ kept line is_line k low keeps new is so_far.taken.one_keep_each
          ∙ sym (and_from (nat_lt j (k + 1)) (get_or full j false) (lt-ltb j (k + 1) (omega arith)) (ap (λ m. get_or full m false) last ∙ on)))
          (λ (other : j ≢ k).
          others line is_line k low keeps new is so_far.taken.one_keep_each (interval_at line.items j).start (λ same. other (only_one line is_line k low j within same))
          ∙ so_far.flagged j within
          ∙ ap (λ b. b && get_or full j false) (before_next j k other))
          (cases_eq j k)

      -- it fits, since the flagged ones fit together
      flagged_room : (t : ℕ) → next.start ≤ t → t < next.end → taken_load line.items keeps t + next.size ≤ capacity
      flagged_room t from to =
          let new : List Bool = set keeps next.start true in
          let covered : covers t next ≡ true = and_from (nat_le next.start t) (nat_lt t next.end) (le-leb next.start t from) (lt-ltb t next.end to) in
          omega (
            arith,
            load_more line is_line k low keeps new refl so_far.taken.one_keep_each fresh t,
            ap {B = ℕ} (λ b. cond b next.size 0) covered,
            taken_load-le_flagged new t line.items full
                (AllZip-from_get_or (λ (i : Interval) (flagged : Bool). is_kept new i.start ≡ true → flagged ≡ true) no_interval false line.items full (sym fit.one_flag_each)
                (λ j within is. (and_parts (nat_lt j (k + 1)) (get_or full j false) (sym (one_more new refl j within) ∙ is)).1)),
            fit.within_capacity t,
          )

      -- and so the loads stay small
      pub flagged_small : capacity < 2 ^ 64 → HasSmallRoom loads next.start next.end next.size
      flagged_small few t from to =
          let shaped : IsInterval line.steps next = is_line.intervals k no_interval low in
          omega (arith, flagged_room t from to, so_far.taken.loads_are t (omega (arith, shaped.within)))

      pub flagged_more : (new : List Bool) (raised : List ℕ) → new ≡ set keeps next.start true → AddsOver loads raised next.start next.end next.size → IsFlaggedTo line capacity full (k + 1) new raised
      flagged_more new raised is adds = record {
        taken = taken_more line is_line k low keeps new is so_far.taken.one_keep_each capacity loads raised so_far.taken fresh flagged_room adds;
        flagged = one_more new is;
      }

  -- after the last, an interval is taken where it is flagged
  pub flagged_all : (k : ℕ) (keeps : List Bool) (loads : List ℕ) → IsFlaggedTo line capacity full k keeps loads → length line.items ≤ k → AllZip (λ i flagged. is_kept keeps i.start ≡ flagged) line.items full
  flagged_all k keeps loads whole all =
      AllZip-from_get_or (λ (i : Interval) (flagged : Bool). is_kept keeps i.start ≡ flagged) no_interval false line.items full (sym fit.one_flag_each)
      (λ j within. whole.flagged j within ∙ ap (λ b. b && get_or full j false) (lt-ltb j k (omega arith)))

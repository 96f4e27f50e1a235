-- Rounding: the intervals without a flag, one after another in their order.
use Rattle.std.proofs.Common.{◌≡◌, ◌≢◌, ℕ, ◌+◌, ◌-◌, ◌<◌, ◌≤◌, ◌∙◌, sym, refl, ap, Bool, true, false, ◌&&◌, ◌||◌, ◌==◌, cond, nat_lt, nat_le, List, [], ◌∷◌, length, get_or, set, arith, ⊎_elim, All, zip}
use Rattle.std.specs.Prelude.{count_by}
use Rattle.std.specs.List.{AllZip}
use Rattle.std.proofs.lemmas.Bool.{cases_Bool, cases_lt, cases_eq, and_left, and_right, and_parts, or_left, or_from, or_cases, both_ways, eq-eqb, ne_eqb, eqb-true, le-ltb, le-leb, ltb-true, leb-true, false_from_ne_true}
use Rattle.std.proofs.lemmas.List.Elements.{All-head, All-tail, All-from_get_or}
use Rattle.std.proofs.lemmas.List.Sums.{sum_by-cons, get_or-le-sum_by}
use Rattle.std.proofs.lemmas.List.{get_or_default, get_or_past}
use Rattle.cache_model.specs.declared.intervals.Interval.{Interval}
use Rattle.cache_model.specs.Schedules.{covers}
use Rattle.cache_model.specs.Claim.{is_kept}
use Rattle.cache_model.specs.Rounding.{FitTogether, IsRounded, by_rank, by_start, rank, load_beside, fits_beside, taken_load}
use Rattle.interval_maker.specs.Timelines.{Timeline, IsInterval, IsTimeline, no_interval}
use Rattle.load_tree.specs.Ranges.{AddsOver}
use Rattle.schedule_round.specs.declared.order.Ranked.{Ranked}
use Rattle.schedule_round.specs.Ranks.{number_of, interval_at, IsRankOrder}
use Rattle.schedule_round.specs.Taken.{IsTaken}
use Rattle.schedule_round.proofs.Lists.{AllZip-from_get_or, get_or-AllZip, list_all-agree, list_all-at, list_all-from}
use Rattle.schedule_round.proofs.Ranking.{counted}
use Rattle.schedule_round.proofs.Taking.{only_one, kept, others, taken_more}

-- what stands past the last of the order
abbrev no_ranked : Ranked
no_ranked = record { key = 0 }

-- ---- the order has no ties

-- what is ahead is not behind
by_rank-asymmetric : (i j : Interval) → by_rank i j ≡ true → by_rank j i ≡ false
by_rank-asymmetric i j ahead =
    ⊎_elim
    (λ (less : nat_lt (rank i) (rank j) ≡ true).
    let low : rank i < rank j = ltb-true (rank i) (rank j) less in
    or_from (nat_lt (rank j) (rank i)) ((rank j == rank i) && by_start j i) (le-ltb (rank j) (rank i) (omega arith)) (and_left (rank j == rank i) (by_start j i) (ne_eqb (rank j) (rank i) (λ same. omega arith))))
    (λ (tie : ((rank i == rank j) && by_start i j) ≡ true).
    let parts = and_parts (rank i == rank j) (by_start i j) tie in
    let same : rank i ≡ rank j = eqb-true (rank i) (rank j) parts.0 in
    let low : i.start < j.start = ltb-true i.start j.start parts.1 in
    or_from (nat_lt (rank j) (rank i)) ((rank j == rank i) && by_start j i) (le-ltb (rank j) (rank i) (omega arith)) (and_right (rank j == rank i) (by_start j i) (le-ltb j.start i.start (omega arith))))
    (or_cases (nat_lt (rank i) (rank j)) ((rank i == rank j) && by_start i j) ahead)

-- nothing is ahead of itself
by_rank-itself : (i : Interval) → by_rank i i ≡ false
by_rank-itself i = or_from (nat_lt (rank i) (rank i)) ((rank i == rank i) && by_start i i) (le-ltb (rank i) (rank i) (omega arith)) (and_right (rank i == rank i) (by_start i i) (le-ltb i.start i.start (omega arith)))

-- ---- loads beside an interval

-- where each that is taken is flagged or ahead, the load beside it is that of all that is taken
load_beside-taken : (keeps : List Bool) (i : Interval) (t : ℕ) (items : List Interval) (full : List Bool) → AllZip (λ j flagged. (flagged || (by_rank j i && is_kept keeps j.start)) ≡ is_kept keeps j.start) items full
    → load_beside by_rank items full keeps i t ≡ taken_load items keeps t
load_beside-taken keeps i t [] full same = refl
load_beside-taken keeps i t (j ∷ items) [] same = absurd same
load_beside-taken keeps i t (j ∷ items) (f ∷ full) same =
    omega (
      arith,
      sum_by-cons (λ (p : Interval × Bool). cond (covers t p.0 && (p.1 || (by_rank p.0 i && is_kept keeps p.0.start))) p.0.size 0) (j, f) (zip items full),
      sum_by-cons (λ (k : Interval). cond (covers t k && is_kept keeps k.start) k.size 0) j items,
      ap {B = ℕ} (λ b. cond (covers t j && b) j.size 0) same.0,
      load_beside-taken keeps i t items full same.1,
    )

-- keeps that agree on what is ahead leave the same load beside an interval
load_beside-agree : (keeps new : List Bool) (i : Interval) (t : ℕ) (items : List Interval) (full : List Bool) → All (λ j. (by_rank j i && is_kept new j.start) ≡ (by_rank j i && is_kept keeps j.start)) items
    → load_beside by_rank items full new i t ≡ load_beside by_rank items full keeps i t
load_beside-agree keeps new i t [] full same = refl
load_beside-agree keeps new i t (j ∷ items) [] same = refl
load_beside-agree keeps new i t (j ∷ items) (f ∷ full) same =
    omega (
      arith,
      sum_by-cons (λ (p : Interval × Bool). cond (covers t p.0 && (p.1 || (by_rank p.0 i && is_kept new p.0.start))) p.0.size 0) (j, f) (zip items full),
      sum_by-cons (λ (p : Interval × Bool). cond (covers t p.0 && (p.1 || (by_rank p.0 i && is_kept keeps p.0.start))) p.0.size 0) (j, f) (zip items full),
      ap {B = ℕ} (λ b. cond (covers t j && (f || b)) j.size 0) (All-head (λ k. (by_rank k i && is_kept new k.start) ≡ (by_rank k i && is_kept keeps k.start)) j items same),
      load_beside-agree keeps new i t items full (All-tail (λ k. (by_rank k i && is_kept new k.start) ≡ (by_rank k i && is_kept keeps k.start)) j items same),
    )

-- the flagged intervals are taken, and of the first k in the order those that fit
pub record IsRoundedTo (line : Timeline) (capacity : ℕ) (full : List Bool) (order : List Ranked) (k : ℕ) (keeps : List Bool) (loads : List ℕ) : Type 0 where
  pub taken : IsTaken line capacity keeps loads
  pub flags_kept : (j : ℕ) → j < length line.items → get_or full j false ≡ true → is_kept keeps (interval_at line.items j).start ≡ true
  pub later : (m : ℕ) → k ≤ m → m < length order → is_kept keeps (interval_at line.items (number_of (get_or order m no_ranked))).start ≡ false
  pub fitted : (m : ℕ) → m < k → m < length order
      → is_kept keeps (interval_at line.items (number_of (get_or order m no_ranked))).start ≡ fits_beside by_rank line.items capacity full keeps (interval_at line.items (number_of (get_or order m no_ranked)))

module _ (line : Timeline) (capacity : ℕ) (full : List Bool) (order : List Ranked) (is_line : IsTimeline line) (fit : FitTogether line.items capacity full) (is_order : IsRankOrder line.items full order) where
  -- the interval at that place of the order
  abbrev placed : ℕ → Interval
  placed m = interval_at line.items (number_of (get_or order m no_ranked))

  -- what stands in the order has no flag
  pub unflagged : (m : ℕ) → m < length order → get_or full (number_of (get_or order m no_ranked)) true ≡ false
  unflagged m low =
      let n : ℕ = (number_of (get_or order m no_ranked)) in
      let one : 1 ≤ count_by (λ (r : Ranked). number_of r == n) order =
      omega (arith, ap {B = ℕ} (λ b. cond b 1 0) (eq-eqb n n refl), get_or-le-sum_by (λ (r : Ranked). cond (number_of r == n) 1 0) order m no_ranked low) in
      false_from_ne_true (get_or full n true) (λ flagged. omega (arith, is_order.once n, ap {B = ℕ} (λ b. cond b 0 1) flagged))

  pub within : (m : ℕ) → m < length order → (number_of (get_or order m no_ranked)) < length line.items
  within m low =
      let n : ℕ = (number_of (get_or order m no_ranked)) in
      ⊎_elim
      (λ (in_list : n < length line.items). in_list)
      (λ (past : length line.items ≤ n). absurd (both_ways (get_or full n true) (unflagged m low) (get_or_past full n true (omega (arith, fit.one_flag_each)))))
      (cases_lt n (length line.items))

  -- an interval without a flag has a place
  place : (j : ℕ) → j < length line.items → get_or full j false ≡ false → (m : ℕ) × (m < length order) × ((number_of (get_or order m no_ranked)) ≡ j)
  place j low off =
      let off_too : get_or full j true ≡ false = get_or_default full j true false (omega (arith, fit.one_flag_each)) ∙ off in
      let found = counted (λ (r : Ranked). number_of r == j) order no_ranked (omega (arith, is_order.once j, ap {B = ℕ} (λ b. cond b 0 1) off_too)) in
      (found.0, found.1, eqb-true (number_of (get_or order found.0 no_ranked)) j found.2)

  ahead : (l m : ℕ) → l < m → m < length order → by_rank (placed l) (placed m) ≡ true
  ahead l m before low = is_order.ascending l m no_ranked before low

  -- no two places have intervals of one start
  apart : (l m : ℕ) → l < m → m < length order → (placed l).start ≢ (placed m).start
  apart l m before low same =
      let number_same : (number_of (get_or order l no_ranked)) ≡ (number_of (get_or order m no_ranked)) = only_one line is_line (number_of (get_or order m no_ranked)) (within m low) (number_of (get_or order l no_ranked)) (within l (omega arith)) same in
      both_ways (by_rank (placed l) (placed m)) (ap (λ n. by_rank (placed l) (interval_at line.items n)) (sym number_same) ∙ by_rank-itself (placed l)) (ahead l m before low)

  -- the flagged intervals alone
  pub rounded_none : (keeps : List Bool) (loads : List ℕ) → IsTaken line capacity keeps loads → AllZip (λ i flagged. is_kept keeps i.start ≡ flagged) line.items full → IsRoundedTo line capacity full order 0 keeps loads
  rounded_none keeps loads taken flagged = record {
    taken = taken;
    flags_kept = λ j low on. get_or-AllZip (λ (i : Interval) (f : Bool). is_kept keeps i.start ≡ f) no_interval false line.items full j flagged low ∙ on;
    later = λ m _ low.
        get_or-AllZip (λ (i : Interval) (f : Bool). is_kept keeps i.start ≡ f) no_interval false line.items full (number_of (get_or order m no_ranked)) flagged (within m low)
        ∙ get_or_default full (number_of (get_or order m no_ranked)) false true (omega (arith, within m low, fit.one_flag_each)) ∙ unflagged m low;
    fitted = λ m early low. absurd (omega arith);
  }

  module _ (k : ℕ) (keeps : List Bool) (loads : List ℕ) (so_far : IsRoundedTo line capacity full order k keeps loads) (low : k < length order) where
    -- what is taken and not flagged stands ahead of the next
    taken_ahead : (j : ℕ) → j < length line.items → (get_or full j false || (by_rank (interval_at line.items j) (placed k) && is_kept keeps (interval_at line.items j).start)) ≡ is_kept keeps (interval_at line.items j).start
    taken_ahead j in_line =
        let i : Interval = interval_at line.items j in
        ⊎_elim
        (λ (on : get_or full j false ≡ true). or_left (get_or full j false) (by_rank i (placed k) && is_kept keeps i.start) on ∙ sym (so_far.flags_kept j in_line on))
        (λ (off : get_or full j false ≡ false).
        ap (λ b. b || (by_rank i (placed k) && is_kept keeps i.start)) off
        ∙ ⊎_elim
        (λ (held : is_kept keeps i.start ≡ true).
        let at = place j in_line off in
        ⊎_elim
        (λ (early : at.0 < k). ap (λ b. b && is_kept keeps i.start) (ap (λ n. by_rank (interval_at line.items n) (placed k)) (sym at.2) ∙ ahead at.0 k early low))
        (λ (late : k ≤ at.0). absurd (both_ways (is_kept keeps i.start) (ap (λ n. is_kept keeps (interval_at line.items n).start) (sym at.2) ∙ so_far.later at.0 late at.1) held))
        (cases_lt at.0 k))
        (λ (free : is_kept keeps i.start ≡ false). and_right (by_rank i (placed k)) (is_kept keeps i.start) free ∙ sym free)
        (cases_Bool (is_kept keeps i.start)))
        (cases_Bool (get_or full j false))

    -- the load beside the next is that of all that is taken
    beside : (t : ℕ) → load_beside by_rank line.items full keeps (placed k) t ≡ taken_load line.items keeps t
    beside t =
        load_beside-taken keeps (placed k) t line.items full
        (AllZip-from_get_or (λ (j : Interval) (flagged : Bool). (flagged || (by_rank j (placed k) && is_kept keeps j.start)) ≡ is_kept keeps j.start) no_interval false line.items full (sym fit.one_flag_each) taken_ahead)

    pub shaped : IsInterval line.steps (placed k)
    shaped = is_line.intervals (number_of (get_or order k no_ranked)) no_interval (within k low)

    -- where it fits, there is room at each step
    room : fits_beside by_rank line.items capacity full keeps (placed k) ≡ true → (t : ℕ) → (placed k).start ≤ t → t < (placed k).end → taken_load line.items keeps t + (placed k).size ≤ capacity
    room fits t from to =
        omega (
          arith,
          leb-true ((placed k).size + load_beside by_rank line.items full keeps (placed k) t) capacity
              (list_all-at (λ s. nat_le ((placed k).size + load_beside by_rank line.items full keeps (placed k) s) capacity) (placed k).start ((placed k).end - (placed k).start) t fits from (omega (arith, shaped.order))),
          beside t,
        )

    -- the test of the loads is that of the definition
    pub fits_beside-yes : (most : ℕ) → most ≡ capacity → ((t : ℕ) → (placed k).start ≤ t → t < (placed k).end → get_or loads t 0 + (placed k).size ≤ most) → fits_beside by_rank line.items capacity full keeps (placed k) ≡ true
    fits_beside-yes most same each =
        list_all-from (λ t. nat_le ((placed k).size + load_beside by_rank line.items full keeps (placed k) t) capacity) (placed k).start ((placed k).end - (placed k).start)
        (λ t from to. le-leb ((placed k).size + load_beside by_rank line.items full keeps (placed k) t) capacity
        (omega (arith, each t from (omega (arith, shaped.order)), so_far.taken.loads_are t (omega (arith, shaped.order, shaped.within)), beside t)))

    pub fits_beside-no : (most : ℕ) → most ≡ capacity → (((t : ℕ) → (placed k).start ≤ t → t < (placed k).end → get_or loads t 0 + (placed k).size ≤ most) → ⊥) → fits_beside by_rank line.items capacity full keeps (placed k) ≡ false
    fits_beside-no most same never =
        false_from_ne_true (fits_beside by_rank line.items capacity full keeps (placed k))
        (λ fits. never (λ t from to. omega (arith, room fits t from to, so_far.taken.loads_are t (omega (arith, shaped.within)))))

    -- it doesn't fit
    pub rounded_same : fits_beside by_rank line.items capacity full keeps (placed k) ≡ false → IsRoundedTo line capacity full order (k + 1) keeps loads
    rounded_same off = record {
      taken = so_far.taken;
      flags_kept = so_far.flags_kept;
      later = λ m late short. so_far.later m (omega arith) short;
      fitted = λ m early short.
          ⊎_elim
          (λ (last : m ≡ k). ap (λ l. is_kept keeps (placed l).start) last ∙ so_far.later k (omega arith) low ∙ sym off ∙ ap (λ l. fits_beside by_rank line.items capacity full keeps (placed l)) (sym last))
          (λ (other : m ≢ k). so_far.fitted m (omega arith) short)
          (cases_eq m k);
    }

    module _ (new : List Bool) (is : new ≡ set keeps (placed k).start true) where
      now_kept : is_kept new (placed k).start ≡ true
      now_kept = kept line is_line (number_of (get_or order k no_ranked)) (within k low) keeps new is so_far.taken.one_keep_each

      as_before : (r : ℕ) → r ≢ (placed k).start → is_kept new r ≡ is_kept keeps r
      as_before = others line is_line (number_of (get_or order k no_ranked)) (within k low) keeps new is so_far.taken.one_keep_each

      -- of what is ahead of a place that was seen nothing is new
      same_ahead : (m : ℕ) → m ≤ k → (j : ℕ) → j < length line.items
          → (by_rank (interval_at line.items j) (placed m) && is_kept new (interval_at line.items j).start) ≡ (by_rank (interval_at line.items j) (placed m) && is_kept keeps (interval_at line.items j).start)
      same_ahead m early j in_line =
          let i : Interval = interval_at line.items j in
          ⊎_elim
          (λ (same : i.start ≡ (placed k).start).
          let it_is : j ≡ (number_of (get_or order k no_ranked)) = only_one line is_line (number_of (get_or order k no_ranked)) (within k low) j in_line same in
          let behind : by_rank i (placed m) ≡ false =
          ap (λ n. by_rank (interval_at line.items n) (placed m)) it_is
          ∙ ⊎_elim
          (λ (before : m < k). by_rank-asymmetric (placed m) (placed k) (ahead m k before low))
          (λ (not_before : k ≤ m). let last : m ≡ k = omega arith in ap (λ l. by_rank (placed k) (placed l)) last ∙ by_rank-itself (placed k))
          (cases_lt m k) in
          and_left (by_rank i (placed m)) (is_kept new i.start) behind ∙ sym (and_left (by_rank i (placed m)) (is_kept keeps i.start) behind))
          (λ (other : i.start ≢ (placed k).start).
          ap (λ b. by_rank i (placed m) && b) (as_before i.start other))
          (cases_eq i.start (placed k).start)

      same_fit : (m : ℕ) → m ≤ k → fits_beside by_rank line.items capacity full new (placed m) ≡ fits_beside by_rank line.items capacity full keeps (placed m)
      same_fit m early =
          list_all-agree (λ s. nat_le ((placed m).size + load_beside by_rank line.items full new (placed m) s) capacity) (λ s. nat_le ((placed m).size + load_beside by_rank line.items full keeps (placed m) s) capacity) (placed m).start ((placed m).end - (placed m).start)
          (λ s _ _. ap (λ load. nat_le ((placed m).size + load) capacity)
          (load_beside-agree keeps new (placed m) s line.items full (All-from_get_or (λ (j : Interval). (by_rank j (placed m) && is_kept new j.start) ≡ (by_rank j (placed m) && is_kept keeps j.start)) line.items no_interval (same_ahead m early))))

      -- it fits, and is taken
      pub rounded_more : (raised : List ℕ) → fits_beside by_rank line.items capacity full keeps (placed k) ≡ true → AddsOver loads raised (placed k).start (placed k).end (placed k).size → IsRoundedTo line capacity full order (k + 1) new raised
      rounded_more raised on adds = record {
        taken = taken_more line is_line (number_of (get_or order k no_ranked)) (within k low) keeps new is so_far.taken.one_keep_each capacity loads raised so_far.taken (so_far.later k (omega arith) low) (room on) adds;
        flags_kept = λ j in_line flag.
            ⊎_elim
            (λ (same : (interval_at line.items j).start ≡ (placed k).start). ap (is_kept new) same ∙ now_kept)
            (λ (other : (interval_at line.items j).start ≢ (placed k).start). as_before (interval_at line.items j).start other ∙ so_far.flags_kept j in_line flag)
            (cases_eq (interval_at line.items j).start (placed k).start);
        later = λ m late short. as_before (placed m).start (λ same. apart k m (omega arith) short (sym same)) ∙ so_far.later m (omega arith) short;
        fitted = λ m early short.
            ⊎_elim
            (λ (last : m ≡ k).
            ap (λ l. is_kept new (placed l).start) last ∙ now_kept ∙ sym on ∙ sym (same_fit k (omega arith)) ∙ ap (λ l. fits_beside by_rank line.items capacity full new (placed l)) (sym last))
            (λ (other : m ≢ k). as_before (placed m).start (apart m k (omega arith) low) ∙ so_far.fitted m (omega arith) short ∙ sym (same_fit m (omega arith)))
            (cases_eq m k);
      }

  -- after the last the keeps are rounded
  pub rounded_all : (k : ℕ) (keeps : List Bool) (loads : List ℕ) → IsRoundedTo line capacity full order k keeps loads → length order ≤ k → IsRounded by_rank line.items capacity line.steps full keeps
  rounded_all k keeps loads whole all = record {
    one_keep_each = whole.taken.one_keep_each;
    flagged_fit = fit;
    taken = AllZip-from_get_or (λ (i : Interval) (flagged : Bool). is_kept keeps i.start ≡ (flagged || fits_beside by_rank line.items capacity full keeps i)) no_interval false line.items full (sym fit.one_flag_each) each;
    only_starts = whole.taken.only_starts;
  }
    where
      each : (j : ℕ) → j < length line.items → is_kept keeps (interval_at line.items j).start ≡ (get_or full j false || fits_beside by_rank line.items capacity full keeps (interval_at line.items j))
      each j in_line =
          let i : Interval = interval_at line.items j in
          ⊎_elim
          (λ (on : get_or full j false ≡ true). whole.flags_kept j in_line on ∙ sym (or_left (get_or full j false) (fits_beside by_rank line.items capacity full keeps i) on))
          (λ (off : get_or full j false ≡ false).
          let at = place j in_line off in
          ap (λ n. is_kept keeps (interval_at line.items n).start) (sym at.2)
          ∙ whole.fitted at.0 (omega (arith, at.1)) at.1
          ∙ ap (λ n. fits_beside by_rank line.items capacity full keeps (interval_at line.items n)) at.2
          ∙ ap (λ b. b || fits_beside by_rank line.items capacity full keeps i) (sym off))
          (cases_Bool (get_or full j false))

-- What W-TinyLFU answers, by its segments.
use Rattle.std.proofs.Common.{◌≡◌, ℕ, ◌+◌, ◌-◌, ◌^◌, ◌<◌, ◌≤◌, ◌∙◌, sym, refl, ap, subst, true, false, min, List, ◌++◌, length, take, drop, None, All, Ok, Err, OnErr, arith}
use Rattle.std.specs.declared.option.Option.{Option}
use Rattle.std.specs.declared.result.Result.{Result}
use Rattle.std.proofs.Math.Seq.{take-append_seam, drop-append_seam}
use Rattle.policy_model.specs.declared.names.PolicyName.TheVariants.{WTinyLfu}
use Rattle.policy_model.specs.States.{Entry, Stock, State, used, has_entry, members_of, IsFit}
use Rattle.policy_model.specs.Steps.{served}
use Rattle.policy_model.specs.WTinyLfu.{Segments, Frequencies, window_part, main_part, protected_part, with_request, hit_in, missed_in, main_used, main_of, segments_of, segment_entries, stock_of_segments}
use Rattle.policy_model.specs.Steps.{without_entry}
use Rattle.policy_model.specs.Leaving.{segments_without}
use Rattle.policy_model.proofs.AgingSound.{without-part}
use Rattle.policy_model.proofs.Leavings.{without-append, fit-without}
use Rattle.policy_model.proofs.Parts.{part-used}
use Rattle.policy_model.proofs.Settled.{segments-kept}
use Rattle.policy_model.proofs.WTinyLfuSound.{IsShared, shared_segments}
use Rattle.policy_model.proofs.RulesSound.{served-hit, served-large, served-small, shares-step}
use Rattle.replay_core.specs.declared.policy.Outcome.{Outcome}
use Rattle.replay_core.specs.declared.policy.Outcome.TheVariants.{Hit, Miss}
use Rattle.replay_core.specs.Outcomes.{is_hit}
use Rattle.replay_core.specs.Keeping.{Kept, state_of, Answers, kept_without}
use Rattle.replay_core.proofs.Kept.{answered, answers-fit}
use Rattle.replay_tinylfu.specs.Queues.{Queues, plain_entry, with_segments}
use Rattle.replay_tinylfu.specs.Counts.{Counted}
use Rattle.replay_tinylfu.specs.TinyKept.{kept_of, IsTinyLfu}

-- ---- the rule, by the segments
module _ (objects capacity requests : ℕ) (f : Frequencies) (q : Segments) (k size : ℕ) where
  abbrev before : Kept
  before = kept_of objects capacity requests f q

  abbrev after : Frequencies → Segments → Kept
  after g r = kept_of objects capacity (min (requests + 1) (2 ^ 64 - 1)) g r

  abbrev state : State
  state = state_of WTinyLfu before

  abbrev then : Frequencies
  then = with_request (length (segment_entries q)) k f

  -- the segments are those of the state
  pub segments-back : segments_of state ≡ q
  segments-back = segments-kept state f q

  abbrev hit : Stock
  hit = stock_of_segments then (hit_in (protected_part capacity) k (segments_of state))

  abbrev miss : Stock
  miss = stock_of_segments then (missed_in (window_part capacity) (main_part capacity) then.counts (plain_entry k size) (segments_of state))

  stock-answers : (g : Frequencies) (r : Segments) (outcome : Outcome) (next : Option ℕ) → is_hit outcome ≡ has_entry (segment_entries q) k → stock_of_segments g r ≡ served state k size hit miss
      → Answers WTinyLfu before (after g r) k size next outcome
  stock-answers g r outcome next hits is =
      answered WTinyLfu before (after g r) k size next outcome hits refl refl refl (ap (λ (x : Stock). x.entries) is) (ap (λ (x : Stock). x.beside) is)

  pub hit-answers : (g : Frequencies) (r : Segments) → has_entry (segment_entries q) k ≡ true → g ≡ then → r ≡ hit_in (protected_part capacity) k q → (next : Option ℕ) → Answers WTinyLfu before (after g r) k size next Hit
  hit-answers g r there counts moved next =
      stock-answers g r Hit next (sym there)
      (ap (λ h. stock_of_segments h r) counts ∙ ap (stock_of_segments then) (moved ∙ ap (hit_in (protected_part capacity) k) (sym segments-back)) ∙ sym (served-hit state k size hit miss (plain_entry k size) there))

  module _ (none : has_entry (segment_entries q) k ≡ false) where
    pub large-answers : capacity < size → (next : Option ℕ) → Answers WTinyLfu before (after f q) k size next Miss
    large-answers large next = stock-answers f q Miss next (sym none) (sym (served-large state k size hit miss (plain_entry k size) none large))

    pub miss-answers : size ≤ capacity → (g : Frequencies) (r : Segments) → g ≡ then → r ≡ missed_in (window_part capacity) (main_part capacity) g.counts (plain_entry k size) q
        → (next : Option ℕ) → Answers WTinyLfu before (after g r) k size next Miss
    miss-answers small g r counts moved next =
        stock-answers g r Miss next (sym none)
        (ap (stock_of_segments g) moved ∙ ap (λ h. stock_of_segments h (missed_in (window_part capacity) (main_part capacity) h.counts (plain_entry k size) q)) counts
        ∙ ap (λ s. stock_of_segments then (missed_in (window_part capacity) (main_part capacity) then.counts (plain_entry k size) s)) (sym segments-back)
        ∙ sym (served-small state k size hit miss (plain_entry k size) none small))

  -- ---- what holds after an answer
  module _ (c : Counted) (r : Queues) (is : IsTinyLfu objects capacity c r) (frequencies : c.frequencies ≡ f) (segments : r.segments ≡ q)
      (sizes : All (λ m. m.object ≡ k → m.size ≡ size) (members_of (segment_entries q))) where
    fit_before : IsFit capacity (segment_entries q)
    fit_before = subst (λ s. IsFit capacity (segment_entries s)) segments is.fits

    shared_before : IsShared capacity before.entries before.beside
    shared_before =
        shared_segments capacity f q (subst (λ (s : Segments). used s.window ≤ window_part capacity) segments is.window) (subst (λ (s : Segments). main_used s.main ≤ main_part capacity) segments is.main)

    module _ (g : Frequencies) (s : Segments) (outcome : Outcome) (answers : Answers WTinyLfu before (after g s) k size None outcome) where
      pub fit-after : IsFit capacity (segment_entries s)
      fit-after = answers-fit WTinyLfu before (after g s) k size None outcome answers shared_before sizes fit_before

      shared_after : IsShared capacity (after g s).entries (after g s).beside
      shared_after =
          subst (λ (x : State). IsShared capacity x.entries x.beside) (sym answers.state_is) (shares-step state k size None shared_before)

      pub tinylfu-after : (d : Counted) (t : Queues) → t.objects ≤ d.objects → d.objects ≤ objects → d.frequencies ≡ g → t.segments ≡ s → d.frequencies.asked ≤ 2 ^ 36 → IsTinyLfu objects capacity d t
      tinylfu-after d t counted within counts moved room =
          let rest : List Entry = s.main.probation ++ s.main.protected in
          let of : List Entry → List Entry → ℕ = λ xs ys. used xs + used ys in
          let window_is : used (take (length s.window) (s.window ++ rest)) ≤ window_part capacity = shared_after.window in
          let main_is : main_used (main_of (length s.main.probation) (drop (length s.window) (s.window ++ rest))) ≤ main_part capacity = shared_after.main in
          let same : main_used (main_of (length s.main.probation) (drop (length s.window) (s.window ++ rest))) ≡ main_used s.main =
          ap (λ es. main_used (main_of (length s.main.probation) es)) (drop-append_seam s.window rest)
          ∙ ap (λ es. of es (drop (length s.main.probation) rest)) (take-append_seam s.main.probation s.main.protected)
          ∙ ap (of s.main.probation) (drop-append_seam s.main.probation s.main.protected) in
          record {
            range = is.range;
            few = is.few;
            counted = counted;
            within = within;
            room = room;
            fits = subst (λ u. IsFit capacity (segment_entries u)) (sym moved) fit-after;
            window = subst (λ (u : Segments). used u.window ≤ window_part capacity) (sym moved) (omega (arith, ap used (take-append_seam s.window rest)));
            main = subst (λ (u : Segments). main_used u.main ≤ main_part capacity) (sym moved) (omega (arith, same));
          }

-- the answer, from the value that is seen of the fields
pub from_view : (old : Kept) (objects capacity requests n : ℕ) (f g : Frequencies) (q r : Segments) (k size : ℕ) (outcome : Outcome) → kept_of objects capacity requests f q ≡ old → n ≡ min (requests + 1) (2 ^ 64 - 1)
    → ((next : Option ℕ) → Answers WTinyLfu (kept_of objects capacity requests f q) (kept_of objects capacity (min (requests + 1) (2 ^ 64 - 1)) g r) k size next outcome)
    → (next : Option ℕ) → Answers WTinyLfu old (kept_of objects capacity n g r) k size next outcome
from_view old objects capacity requests n f g q r k size outcome view now answers next =
    subst (λ (p : Kept). Answers WTinyLfu p (kept_of objects capacity n g r) k size next outcome) view
    (subst (λ (m : ℕ). Answers WTinyLfu (kept_of objects capacity requests f q) (kept_of objects capacity m g r) k size next outcome) (sym now) (answers next))

-- what holds at all events holds after an error
pub on-err : {T E : Type 0} (r : Result T E) (A : Type 0) → A → OnErr r A
on-err (Ok x) A holds = tt
on-err (Err e) A holds = holds

-- ---- an object that is let go of
entries-left : (k : ℕ) (q : Segments) → segment_entries (segments_without k q) ≡ without_entry k (segment_entries q)
entries-left k q =
    ap (λ es. without_entry k q.window ++ es) (sym (without-append k q.main.probation q.main.protected))
    ∙ sym (without-append k q.window (q.main.probation ++ q.main.protected))

module _ (k : ℕ) (r t : Queues) (is : t ≡ with_segments (segments_without k r.segments) r) where
  pub tinylfu-left : (objects capacity : ℕ) (c : Counted) → IsTinyLfu objects capacity c r → IsTinyLfu objects capacity c t
  tinylfu-left objects capacity c b =
      let q : Segments = r.segments in
      let window : used q.window ≤ window_part capacity = b.window in
      let main : main_used q.main ≤ main_part capacity = b.main in
      subst (IsTinyLfu objects capacity c) (sym is)
      (record {
        range = b.range;
        few = b.few;
        counted = b.counted;
        within = b.within;
        room = b.room;
        fits = subst (IsFit capacity) (sym (entries-left k q)) (fit-without capacity k (segment_entries q) b.fits);
        window = omega (arith, part-used (without_entry k q.window) q.window (without-part k q.window));
        main = omega (
          arith,
          part-used (without_entry k q.main.probation) q.main.probation (without-part k q.main.probation),
          part-used (without_entry k q.main.protected) q.main.protected (without-part k q.main.protected),
        );
      })

  -- what is kept is what the rule keeps without it
  pub kept-left : (old : Kept) (objects capacity requests : ℕ) (f : Frequencies) → kept_of objects capacity requests f r.segments ≡ old → kept_of objects capacity requests f t.segments ≡ kept_without WTinyLfu old k
  kept-left old objects capacity requests f view =
      ap (λ (u : Queues). kept_of objects capacity requests f u.segments) is
      ∙ ap (λ s. kept_of objects capacity requests f (segments_without k s)) (sym (segments-kept (state_of WTinyLfu (kept_of objects capacity requests f r.segments)) f r.segments))
      ∙ ap (λ p. kept_without WTinyLfu p k) view

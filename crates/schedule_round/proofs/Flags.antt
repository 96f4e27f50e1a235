-- Flags whose intervals fit together.
use Rattle.std.proofs.Common.{◌≡◌, ℕ, ◌*◌, ◌/◌, ◌≤◌, ◌∙◌, ap, sym, refl, Bool, true, false, ◌&&◌, ◌==◌, cond, List, [], ◌∷◌, length, replicate, arith, All, sum_by, zip}
use Rattle.std.specs.List.{AllZip}
use Rattle.std.proofs.lemmas.Bool.{and_right, eqb-true}
use Rattle.std.proofs.lemmas.List.{length-replicate, length-map}
use Rattle.std.proofs.lemmas.List.Elements.{All-head, All-tail}
use Rattle.std.proofs.lemmas.List.Sums.{sum_by-cons}
use Rattle.std.proofs.lemmas.Slice.Zip.{AllZip-long, length-zip}
use Prim.Native.Nat.{◌∣◌}
use Rattle.std.proofs.Math.Nat.{mul-add, mul-div-le, mul-le-mul_left, mul-div_cancel'}
use Rattle.cache_model.specs.declared.intervals.Interval.{Interval}
use Rattle.cache_model.specs.Schedules.{IsFractionalSchedule, covers, load_at}
use Rattle.cache_model.specs.Units.{weight}
use Rattle.cache_model.specs.Rounding.{FitTogether}
use Rattle.schedule_round.specs.Laws.{full_flags}

-- no flag is set, so nothing is over a step
load-no_flags : (t : ℕ) (intervals : List Interval) → sum_by (λ (i, flagged). cond (covers t i && flagged) i.size 0) (zip intervals (replicate (length intervals) false)) ≡ 0
load-no_flags t [] = refl
load-no_flags t (i ∷ intervals) =
    omega (
      arith,
      sum_by-cons (λ (j, flagged). cond (covers t j && flagged) j.size 0) (i, false) (zip intervals (replicate (length intervals) false)),
      ap {B = ℕ} (λ s. cond s i.size 0) (and_right (covers t i) false refl),
      load-no_flags t intervals,
    )

-- and these fit together
pub no_flags_fit : (intervals : List Interval) (capacity : ℕ) → FitTogether intervals capacity (replicate (length intervals) false)
no_flags_fit intervals capacity = record {
  one_flag_each = length-replicate (length intervals) false;
  within_capacity = λ t. omega (arith, load-no_flags t intervals);
}

-- full flows are within all flows, in bytes
load-full_flags : (unit t : ℕ) (intervals : List Interval) (flows : List ℕ) → All (λ i. unit ∣ i.size) intervals → AllZip (λ i f. f ≤ weight unit i) intervals flows
    → sum_by (λ (i, flagged). cond (covers t i && flagged) i.size 0) (zip intervals (full_flags unit intervals flows)) ≤ unit * load_at intervals flows t
load-full_flags unit t [] flows whole fits = omega arith
load-full_flags unit t (i ∷ intervals) [] whole fits = absurd fits
load-full_flags unit t (i ∷ intervals) (f ∷ flows) whole fits =
    omega (
      arith,
      sum_by-cons (λ (p : Interval × Bool). cond (covers t p.0 && p.1) p.0.size 0) (i, f == weight unit i) (zip intervals (full_flags unit intervals flows)),
      ap (λ n. unit * n) (sum_by-cons (λ (p : Interval × ℕ). cond (covers t p.0) p.1 0) (i, f) (zip intervals flows)),
      mul-add unit (cond (covers t i) f 0) (load_at intervals flows t),
      one (covers t i) (f == weight unit i) refl,
      load-full_flags unit t intervals flows (All-tail (λ j. unit ∣ j.size) i intervals whole) fits.1,
    )
  where
    one : (over full : Bool) → full ≡ (f == weight unit i) → cond (over && full) i.size 0 ≤ unit * cond over f 0
    one false full is = omega arith
    one true false is = omega arith
    one true true is =
        let all : f ≡ weight unit i = eqb-true f (weight unit i) (sym is) in
        omega (arith, ap (λ n. unit * n) all, mul-div_cancel' unit (All-head (λ j. unit ∣ j.size) i intervals whole))

-- so they fit together
pub full_flags_fit : (intervals : List Interval) (capacity unit : ℕ) (flows : List ℕ) → All (λ i. unit ∣ i.size) intervals → IsFractionalSchedule intervals unit (capacity / unit) flows
    → FitTogether intervals capacity (full_flags unit intervals flows)
full_flags_fit intervals capacity unit flows whole scheduled = record {
  one_flag_each =
      let each : length flows ≡ length intervals = AllZip-long (λ (i : Interval) (f : ℕ). f ≤ weight unit i) intervals flows scheduled.within_weights in
      length-map (zip intervals flows) (λ (p : Interval × ℕ). p.1 == weight unit p.0) ∙ length-zip intervals flows ∙ omega arith;
  within_capacity = λ t.
      omega (arith, load-full_flags unit t intervals flows whole scheduled.within_weights, mul-le-mul_left unit (scheduled.within_units t), mul-div-le capacity unit);
}

-- The bounds of parts sum to a bound of the whole.
use Rattle.std.proofs.Common.{◌≡◌, ◌∙◌, ℕ, ◌+◌, ◌-◌, ◌<◌, ◌≤◌, sym, refl, ap, subst, ⊎_elim, Bool, List, [], ◌∷◌, ◌++◌, append_assoc, length, arith, sum_by}
use Rattle.std.specs.List.{range_with_len}
use Rattle.std.proofs.lemmas.Bool.{cases_lt}
use Rattle.std.proofs.lemmas.List.{length-append}
use Rattle.std.proofs.lemmas.List.Sums.{sum_by-cons}
use Rattle.cache_model.specs.declared.objects.Object.{Object}
use Rattle.cache_model.specs.declared.objects.Objective.{Objective}
use Rattle.cache_model.specs.Claim.{only_fills, IsAllowed}
use Rattle.part_laws.specs.Laws.{Part, HasSameMarks, whole_of, marks_of, fills_of, EachIsBounded, BoundsAddUp, earned_at, score_between}
use Rattle.part_laws.proofs.Marks.{length-marks_of, marks-within, marks-behind}
use Rattle.part_laws.proofs.Adding.{scores_add_up}
use Rattle.part_laws.proofs.Cutting.{cut_is_bounded}

-- a part has the same marks behind its prelude as in the whole
same_marks : (before : List Object) (marks : List Bool) (p : Part) (more : List Bool) → length marks ≡ length before → HasSameMarks p.requests [] p.fills p.prelude p.marks
    → HasSameMarks p.requests before (marks ++ marks_of p.requests p.fills ++ more) p.prelude p.marks
same_marks before marks p more long agree = λ j low.
    let own : List Bool = marks_of p.requests p.fills in
    let first : length {A = Object} [] + j ≡ j = omega arith in
    agree j low
    ∙ ap (only_fills p.fills) first
    ∙ sym
    (ap (λ fills. only_fills fills (length before + j)) (append_assoc marks own more)
    ∙ marks-behind marks (own ++ more) (length before) j long
    ∙ marks-within p.requests p.fills more j low)

module _ (o : Objective) (c w : ℕ) (trace : List Object) (fills : List Bool) (contents : List (List Object)) (allowed : IsAllowed c trace contents) where
  -- the part behind `before` is within its number: its stretch begins after the warm-up
  one_part : (before : List Object) (marks : List Bool) (p : Part) (parts : List Part)
      → trace ≡ before ++ p.requests ++ whole_of parts → fills ≡ marks ++ marks_of p.requests p.fills ++ fills_of parts → length marks ≡ length before
      → EachIsBounded o c w before (p ∷ parts)
      → score_between o trace fills contents (length before + (w - length before)) (length before + length p.requests) ≤ p.most
  one_part before marks p parts whole all long each =
      let here = cut_is_bounded o c (w - length before) p.most before p.requests (whole_of parts) p.prelude (marks ++ marks_of p.requests p.fills ++ fills_of parts)
      p.marks each.0 (same_marks before marks p (fills_of parts) long each.1) each.2 contents (subst (λ xs. IsAllowed c xs contents) whole allowed) in
      omega (
        arith,
        here,
        ap (λ xs. score_between o xs fills contents (length before + (w - length before)) (length before + length p.requests)) whole,
        ap (λ ms. score_between o (before ++ p.requests ++ whole_of parts) ms contents (length before + (w - length before)) (length before + length p.requests)) all,
      )

  -- what stands behind `before` is within the sum: its stretch begins after the warm-up
  from_there : (before : List Object) (marks : List Bool) (parts : List Part) → trace ≡ before ++ whole_of parts → fills ≡ marks ++ fills_of parts → length marks ≡ length before
      → EachIsBounded o c w before parts
      → score_between o trace fills contents (length before + (w - length before)) (length trace) ≤ sum_by (λ (p : Part). p.most) parts
  from_there before marks [] whole all long each =
      let from : ℕ = length before + (w - length before) in
      let none : length trace - from ≡ 0 = omega (arith, ap length whole, length-append before []) in
      omega (arith, ap (λ n. sum_by (earned_at o trace fills contents) (range_with_len from n)) none)
  from_there before marks (p ∷ parts) whole all long each =
      let own : List Bool = marks_of p.requests p.fills in
      let next : List Object = before ++ p.requests in
      let from : ℕ = length before + (w - length before) in
      let whole' : trace ≡ next ++ whole_of parts = whole ∙ sym (append_assoc before p.requests (whole_of parts)) in
      let all' : fills ≡ marks ++ own ++ fills_of parts = all ∙ sym (append_assoc marks own (fills_of parts)) in
      let cut : length next ≡ length before + length p.requests = length-append before p.requests in
      let within : length next ≤ length trace = omega (arith, ap length whole', length-append next (whole_of parts)) in
      let longer : length (marks ++ own) ≡ length next = omega (arith, length-append marks own, length-marks_of p.requests p.fills) in
      let here = one_part before marks p parts whole' all' long each in
      let later = from_there next (marks ++ own) parts whole' all' longer each.3 in
      let both = sum_by-cons (λ (q : Part). q.most) p parts in
      ⊎_elim
      (λ (early : w < length next).
      let place : length next + (w - length next) ≡ length next = omega arith in
      omega (
        arith,
        ap (λ n. score_between o trace fills contents from n) cut,
        ap (λ n. score_between o trace fills contents n (length trace)) place,
        (scores_add_up o trace fills contents).at_a_cut from (length next) (length trace) (omega arith) within,
      ))
      (λ (late : length next ≤ w).
      let place : length next + (w - length next) ≡ from = omega arith in
      omega (arith, ap (λ n. score_between o trace fills contents n (length trace)) place))
      (cases_lt w (length next))

pub bounds_add_up : BoundsAddUp
bounds_add_up o c w parts each contents allowed =
    let all : 0 + (w - 0) ≡ w = omega arith in
    omega (
      arith,
      from_there o c w (whole_of parts) (fills_of parts) contents allowed [] [] parts refl refl (omega arith) each,
      (scores_add_up o (whole_of parts) (fills_of parts) contents).from_the_warmup c w,
      ap (λ n. score_between o (whole_of parts) (fills_of parts) contents n (length (whole_of parts))) all,
    )

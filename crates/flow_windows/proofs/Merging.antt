-- The arcs that meet a window, from those that met the one before and those that start in it.
use Rattle.std.proofs.Common.{◌≡◌, ◌≢◌, ◌∙◌, ℕ, ◌+◌, ◌-◌, ◌*◌, ◌/◌, ◌<◌, ◌≤◌, ap, sym, subst, min, Bool, false, cond, nat_lt, arith, List, [], ◌∷◌, ◌++◌, length, drop, get_or, ◌⊎◌, ⊎_elim}
use Rattle.std.specs.List.{range_with_len}
use Rattle.std.proofs.lemmas.Bool.{cases_lt, cases_eq, false≢true, lt-ltb, le-ltb, eq-eqb, and_from}
use Rattle.std.proofs.lemmas.List.{drop-drop, drop_all, length-drop, get_or_past}
use Rattle.std.proofs.lemmas.List.FromFn.{length-range_with_len}
use Rattle.std.proofs.lemmas.List.Sums.{length-filter, count_by-le-length}
use Rattle.std.proofs.Math.Nat.{mul-le-mul_left}
use Rattle.flow_model.specs.declared.arcs.OuterArc.{OuterArc}
use Rattle.flow_model.specs.Instances.{arc_at}
use Rattle.flow_model.specs.Windows.{meets, part_steps}
use Rattle.flow_windows.specs.Cuts.{IsListed, met_before, numbers_where, starts_in}
use Rattle.flow_windows.proofs.Gathering.{passing, head_or, head_or-drop, head_low, head_high, head_within, none_before, taken, kept, passing_more, passing_none}
use Rattle.flow_windows.proofs.Listing.{head_of_list}

-- an arc that neither met the window before nor starts in this one does not meet it
pub covered : (width k : ℕ) (arc : OuterArc) → 0 < width → met_before width k arc ≡ false → starts_in width k arc ≡ false → meets width k arc ≡ false
covered width k arc some not_before not_starting =
    ⊎_elim
    (λ (met : 0 < part_steps width k arc).
    ⊎_elim
    (λ (starts : arc.start / width ≡ k). absurd (false≢true (sym not_starting ∙ eq-eqb (arc.start / width) k starts)))
    (λ (other : arc.start / width ≢ k).
    ⊎_elim
    (λ (late : k < arc.start / width).
    let after : width * (k + 1) ≤ width * (arc.start / width) = mul-le-mul_left width (omega arith) in absurd (omega (arith, met, after)))
    (λ (early : arc.start / width ≤ k).
    let before : width * (arc.start / width + 1) ≤ width * k = mul-le-mul_left width (omega arith) in
    let some_before : 0 < k = omega arith in
    let back : (k - 1) + 1 ≡ k = omega arith in
    let end : width * ((k - 1) + 1) ≡ width * k = ap (λ n. width * n) back in
    let steps : 0 < part_steps width (k - 1) arc = omega (arith, met, before, end) in
    absurd (false≢true (sym not_before ∙ and_from (nat_lt 0 k) (meets width (k - 1) arc) (lt-ltb 0 k some_before) (lt-ltb 0 (part_steps width (k - 1) arc) steps))))
    (cases_lt k (arc.start / width)))
    (cases_eq (arc.start / width) k))
    (λ (none : part_steps width k arc ≤ 0). le-ltb 0 (part_steps width k arc) none)
    (cases_lt 0 (part_steps width k arc))

-- those before m are gathered: `stay` has the numbers that pass p, the linked list those that pass q
pub record IsGathered (p q r : ℕ → Bool) (past : ℕ) (stay next : List ℕ) (at from m : ℕ) (out : List ℕ) : Type 0 where
  pub within : m ≤ past
  pub staying : drop at stay ≡ passing p m (past - m)
  pub starting : IsListed past next from (passing q m (past - m))
  pub gathered : out ≡ passing r 0 m

module _ (p q r : ℕ → Bool) (past : ℕ) (stay next : List ℕ) (at from m : ℕ) (out : List ℕ) (so_far : IsGathered p q r past stay next at from m out) where
  whole : m + (past - m) ≡ past
  whole = omega (arith, so_far.within)

  pub stay_head : get_or stay at past ≡ head_or past (passing p m (past - m))
  stay_head = head_or-drop past stay at ∙ ap (head_or past) so_far.staying

  pub from_head : from ≡ head_or past (passing q m (past - m))
  from_head = head_of_list past from next (passing q m (past - m)) so_far.starting

  -- where one of the lists has a number left, the lesser of the next two is that of an arc
  pub number_within : (at < length stay) ⊎ (from < past) → min (get_or stay at past) from < past
  number_within more =
      ⊎_elim
      (λ (left : at < length stay).
      let some : 0 < length (passing p m (past - m)) = omega (arith, length-drop at stay, ap length so_far.staying) in
      omega (arith, stay_head, head_within p m (past - m) past whole some))
      (λ (left : from < past). omega arith) more

  pub stay_low : m ≤ get_or stay at past
  stay_low = omega (arith, stay_head, head_low p m (past - m) past whole)

  pub from_low : m ≤ from
  from_low = omega (arith, from_head, head_low q m (past - m) past whole)

  pub from_high : from ≤ past
  from_high = omega (arith, from_head, head_high q m (past - m) past whole)

  module _ (x : ℕ) (below : x < past) (least : x ≡ min (get_or stay at past) from) where
    pub stay_taken : get_or stay at past ≡ x → drop (at + 1) stay ≡ passing p (x + 1) (past - (x + 1))
    stay_taken is =
        sym (drop-drop 1 at stay)
        ∙ ap (drop 1) (so_far.staying ∙ taken p m (past - m) past x whole (omega (arith, least, stay_low, from_low)) below (sym stay_head ∙ is))

    pub stay_kept : get_or stay at past ≢ x → drop at stay ≡ passing p (x + 1) (past - (x + 1))
    stay_kept other =
        so_far.staying
        ∙ kept p m (past - m) past x whole (omega (arith, least, stay_low, from_low)) (omega (arith, stay_head, least, other))

    pub from_taken : from ≡ x → IsListed past next (get_or next x 0) (passing q (x + 1) (past - (x + 1)))
    from_taken is =
        (subst (λ xs. IsListed past next from xs) (taken q m (past - m) past x whole (omega (arith, least, stay_low, from_low)) below (sym from_head ∙ is)) so_far.starting).1

    pub from_kept : from ≢ x → IsListed past next from (passing q (x + 1) (past - (x + 1)))
    from_kept other =
        subst (λ xs. IsListed past next from xs) (kept q m (past - m) past x whole (omega (arith, least, stay_low, from_low)) (omega (arith, from_head, least, other))) so_far.starting

    -- what follows a number in its list is past it
    pub from_rises : from ≡ x → x < get_or next x 0
    from_rises is =
        omega (
          arith,
          head_of_list past (get_or next x 0) next (passing q (x + 1) (past - (x + 1))) (from_taken is),
          head_low q (x + 1) (past - (x + 1)) past (omega arith),
        )

    pub one_gathered : ((k : ℕ) → p k ≡ false → q k ≡ false → r k ≡ false) → passing r 0 (x + 1) ≡ out ++ cond (r x) (x ∷ []) []
    one_gathered covers =
        let low : m ≤ x = omega (arith, least, stay_low, from_low) in
        let up : m + (x - m) ≡ x = omega arith in
        let none : passing r 0 (m + (x - m)) ≡ passing r 0 m = passing_none r m (x - m) (λ k from_m below_x.
        covers k (none_before p m (past - m) past k whole from_m (omega (arith, stay_head, least))) (none_before q m (past - m) past k whole from_m (omega (arith, from_head, least)))) in
        let same : passing r 0 x ≡ out = ap (λ n. passing r 0 n) (sym up) ∙ none ∙ sym so_far.gathered in
        passing_more r x ∙ ap (λ ys. ys ++ cond (r x) (x ∷ []) []) same

  -- where both lists are at their ends, all are gathered
  pub all_gathered : ((k : ℕ) → p k ≡ false → q k ≡ false → r k ≡ false) → length stay ≤ at → past ≤ from → out ≡ passing r 0 past
  all_gathered covers at_end from_end =
      let nothing : passing p m (past - m) ≡ [] = sym so_far.staying ∙ drop_all at stay at_end in
      let last : head_or past (passing p m (past - m)) ≡ past = ap (head_or past) nothing in
      so_far.gathered
      ∙ sym (passing_none r m (past - m) (λ k from_m below.
      covers k (none_before p m (past - m) past k whole from_m (omega (arith, last))) (none_before q m (past - m) past k whole from_m (omega (arith, from_head)))))
      ∙ ap (λ n. passing r 0 n) whole

-- where the two lists are after the number x was taken
pub record IsMoved (past : ℕ) (stay next : List ℕ) (at from at' from' x : ℕ) : Type 0 where
  pub staying : ((get_or stay at past ≡ x) × (at' ≡ at + 1)) ⊎ ((get_or stay at past ≢ x) × (at' ≡ at))
  pub starting : ((from ≡ x) × (from' ≡ get_or next x 0)) ⊎ ((from ≢ x) × (from' ≡ from))

-- the arcs of numbers before m that meet window k are gathered
abbrev pub IsGatheredIn : (width k : ℕ) (arcs : List OuterArc) (stay next : List ℕ) (at from m : ℕ) (out : List ℕ) → Type 0
IsGatheredIn width k arcs stay next at from m out =
    IsGathered (λ i. met_before width k (arc_at arcs i)) (λ i. starts_in width k (arc_at arcs i)) (λ i. meets width k (arc_at arcs i)) (length arcs) stay next at from m out

abbrev pub before_test : ℕ → ℕ → List OuterArc → ℕ → Bool
before_test width k arcs i = met_before width k (arc_at arcs i)

abbrev pub start_test : ℕ → ℕ → List OuterArc → ℕ → Bool
start_test width k arcs i = starts_in width k (arc_at arcs i)

abbrev pub meet_test : ℕ → ℕ → List OuterArc → ℕ → Bool
meet_test width k arcs i = meets width k (arc_at arcs i)

-- one more number is taken
pub gathered_more : (width k : ℕ) (arcs : List OuterArc) (stay next : List ℕ) (at from m : ℕ) (out : List ℕ) (at' from' x : ℕ) (out' : List ℕ) → 0 < width → IsGatheredIn width k arcs stay next at from m out
    → x < length arcs → x ≡ min (get_or stay at (length arcs)) from → IsMoved (length arcs) stay next at from at' from' x → out' ≡ out ++ cond (meets width k (arc_at arcs x)) (x ∷ []) []
    → IsGatheredIn width k arcs stay next at' from' (x + 1) out'
gathered_more width k arcs stay next at from m out at' from' x out' some so_far below least moved added =
    let p : ℕ → Bool = before_test width k arcs in
    let q : ℕ → Bool = start_test width k arcs in
    let r : ℕ → Bool = meet_test width k arcs in
    let past : ℕ = length arcs in
    record {
      within = omega arith;
      staying = ⊎_elim
          (λ (is : (get_or stay at past ≡ x) × (at' ≡ at + 1)). ap (λ j. drop j stay) is.1 ∙ stay_taken p q r past stay next at from m out so_far x below least is.0)
          (λ (is : (get_or stay at past ≢ x) × (at' ≡ at)). ap (λ j. drop j stay) is.1 ∙ stay_kept p q r past stay next at from m out so_far x below least is.0) moved.staying;
      starting = ⊎_elim
          (λ (is : (from ≡ x) × (from' ≡ get_or next x 0)).
          subst (λ f. IsListed past next f (passing q (x + 1) (past - (x + 1)))) (sym is.1) (from_taken p q r past stay next at from m out so_far x below least is.0))
          (λ (is : (from ≢ x) × (from' ≡ from)).
          subst (λ f. IsListed past next f (passing q (x + 1) (past - (x + 1)))) (sym is.1) (from_kept p q r past stay next at from m out so_far x below least is.0)) moved.starting;
      gathered = added ∙ sym (one_gathered p q r past stay next at from m out so_far x below least (λ i not_before not_starting. covered width k (arc_at arcs i) some not_before not_starting));
    }

-- less is left then
pub left_falls : (width k : ℕ) (arcs : List OuterArc) (stay next : List ℕ) (at from m : ℕ) (out : List ℕ) (at' from' x : ℕ) → IsGatheredIn width k arcs stay next at from m out
    → x < length arcs → x ≡ min (get_or stay at (length arcs)) from → IsMoved (length arcs) stay next at from at' from' x
    → (length stay - at') + (length arcs - from') < (length stay - at) + (length arcs - from)
left_falls width k arcs stay next at from m out at' from' x so_far below least moved =
    let p : ℕ → Bool = before_test width k arcs in
    let q : ℕ → Bool = start_test width k arcs in
    let r : ℕ → Bool = meet_test width k arcs in
    let past : ℕ = length arcs in
    let left : get_or stay at past < past → at < length stay = λ low.
    ⊎_elim (λ (h : at < length stay). h) (λ (h : length stay ≤ at). absurd (omega (arith, get_or_past stay at past h))) (cases_lt at (length stay)) in
    let rises : from ≡ x → x < get_or next x 0 = from_rises p q r past stay next at from m out so_far x below least in
    ⊎_elim
    (λ (is : (get_or stay at past ≡ x) × (at' ≡ at + 1)).
    let there : at < length stay = left (omega arith) in
    ⊎_elim (λ (f : (from ≡ x) × (from' ≡ get_or next x 0)). let more : x < get_or next x 0 = rises f.0 in omega arith) (λ (f : (from ≢ x) × (from' ≡ from)). omega arith) moved.starting)
    (λ (is : (get_or stay at past ≢ x) × (at' ≡ at)).
    ⊎_elim
    (λ (f : (from ≡ x) × (from' ≡ get_or next x 0)). let more : x < get_or next x 0 = rises f.0 in omega arith)
    (λ (f : (from ≢ x) × (from' ≡ from)). absurd (omega arith)) moved.starting)
    moved.staying

-- there is room for one more
pub gathered_room : (width k : ℕ) (arcs : List OuterArc) (stay next : List ℕ) (at from m : ℕ) (out : List ℕ) (x : ℕ) → IsGatheredIn width k arcs stay next at from m out
    → x < length arcs → x ≡ min (get_or stay at (length arcs)) from → length out < length arcs
gathered_room width k arcs stay next at from m out x so_far below least =
    let p : ℕ → Bool = before_test width k arcs in
    let q : ℕ → Bool = start_test width k arcs in
    let r : ℕ → Bool = meet_test width k arcs in
    omega (
      arith,
      least,
      stay_low p q r (length arcs) stay next at from m out so_far,
      from_low p q r (length arcs) stay next at from m out so_far,
      ap length so_far.gathered,
      length-filter r (range_with_len 0 m),
      count_by-le-length r (range_with_len 0 m),
      length-range_with_len 0 m,
    )

pub next_within : (width k : ℕ) (arcs : List OuterArc) (stay next : List ℕ) (at from m : ℕ) (out : List ℕ) (x : ℕ) → IsGatheredIn width k arcs stay next at from m out
    → x ≡ min (get_or stay at (length arcs)) from → (at < length stay) ⊎ (from < length arcs) → x < length arcs
next_within width k arcs stay next at from m out x so_far least more =
    omega (arith, least, number_within (before_test width k arcs) (start_test width k arcs) (meet_test width k arcs) (length arcs) stay next at from m out so_far more)

pub gathered_all : (width k : ℕ) (arcs : List OuterArc) (stay next : List ℕ) (at from m : ℕ) (out : List ℕ) → 0 < width → IsGatheredIn width k arcs stay next at from m out
    → length stay ≤ at → length arcs ≤ from → out ≡ numbers_where (meets width k) arcs
gathered_all width k arcs stay next at from m out some so_far at_end from_end =
    all_gathered (before_test width k arcs) (start_test width k arcs) (meet_test width k arcs) (length arcs) stay next at from m out so_far
    (λ i not_before not_starting. covered width k (arc_at arcs i) some not_before not_starting) at_end from_end

-- at first nothing is taken
pub gathered_none : (width k : ℕ) (arcs : List OuterArc) (stay next : List ℕ) (from : ℕ) (out : List ℕ) → stay ≡ numbers_where (met_before width k) arcs → IsListed (length arcs) next from (numbers_where (starts_in width k) arcs) → out ≡ []
    → IsGatheredIn width k arcs stay next 0 from 0 out
gathered_none width k arcs stay next from out staying starting empty =
    let all : length arcs ≡ length arcs - 0 = omega arith in
    record {
      within = omega arith;
      staying = staying ∙ ap (λ n. passing (before_test width k arcs) 0 n) all;
      starting = subst (λ n. IsListed (length arcs) next from (passing (start_test width k arcs) 0 n)) all starting;
      gathered = empty;
    }

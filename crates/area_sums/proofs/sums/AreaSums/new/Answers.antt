use Rattle.std.proofs.Common.{◌∙◌, length, ap, subst, sym}
use Rattle.area_sums.specs.Groups.{AreCapacities, rows_of}
use Rattle.area_sums.proofs.KeptLemmas.{kept-none, sums-none}
use Rattle.area_sums.proofs.sums.AreaSums.new.Goals as goal

pub invariant_of-result : goal.invariant_of-result
invariant_of-result c =
    let items = c.in_ok-from_slice.ensures.items in
    kept-none c.in_ok-from_slice.field-0.items c.in_ok-new.field-0 c.in_ok-new-2.field-0 (subst AreCapacities (sym items) c.requires)
    c.in_ok-new.ensures.rows c.in_ok-new-2.ensures.rows
    (c.in_ok-new.ensures.places ∙ sym (ap length items)) (c.in_ok-new-2.ensures.places ∙ sym (ap length items))
    c.in_ok-new.ensures.none c.in_ok-new-2.ensures.none

pub returns-clause-sums : goal.returns-clause-sums
returns-clause-sums c = λ i. record {
  capacities = c.in_ok-from_slice.ensures.items i;
  count = 0;
  hits = rows_of (length (c.in_ok-from_slice.ensures.items i)) (λ place class. c.in_ok-new.ensures.none place class i);
  bytes = rows_of (length (c.in_ok-from_slice.ensures.items i)) (λ place class. c.in_ok-new-2.ensures.none place class i);
}

pub returns-clause-none : goal.returns-clause-none
returns-clause-none c =
    sums-none c.in_ok-from_slice.field-0.items c.in_ok-new.field-0 c.in_ok-new-2.field-0 c.in_ok-new.ensures.rows c.in_ok-new-2.ensures.rows
    c.in_ok-new.ensures.none c.in_ok-new-2.ensures.none

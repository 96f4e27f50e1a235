use Rattle.std.proofs.Common.{◌≡◌, ℕ, List, ◌<◌, ◌≤◌, ◌*◌, ◌^◌, ◌∙◌, ◌+◌, ap, sym, subst, get_or, length, arith}
use Rattle.std.proofs.lemmas.List.Elements.{All-get_or}
use Rattle.area_sums.specs.declared.bound.EdgeBound.{EdgeBound}
use Rattle.area_sums.specs.Groups.{IsLeastOf}
use Rattle.area_sums.specs.Pages.{group_in}
use Rattle.area_sums.specs.Places.{AreLeastBefore, AreOfSpans}
use Rattle.area_sums.proofs.LeastLemmas.{product-le}
use Rattle.area_sums.proofs.PassLemmas.{before-none, least-more, least-none, next-before, next-cheap, next-room, next-total}
use Rattle.area_sums.proofs.places.bounds_over.Goals as goal

pub loop-place-init : goal.loop-place-init
loop-place-init c = record {
  before = before-none (group_in c.args.pages.now) c.args.groups.now c.requires.none;
  least = subst (AreLeastBefore 0 c.args.steps c.args.capacities.now (group_in c.args.pages.now)) (sym c.in_ok-bounds.ensures.items)
      (least-none c.args.steps c.args.capacities.now (group_in c.args.pages.now));
}

pub add_place-requires-clause-room : goal.add_place-requires-clause-room
add_place-requires-clause-room c =
    next-room c.args.capacities.now (group_in c.args.pages.now) c.loop-place.place c.requires.capacities (omega (arith, c.loop-place-test.true)) c.loop-place.groups
    (subst (λ n. AreOfSpans c.args.capacities.now n (group_in c.args.pages.now)) (sym c.loop-place.auto.groups) c.requires.spans) c.loop-place.invariant.before

pub least_bound-requires-clause-cheap : goal.least_bound-requires-clause-cheap
least_bound-requires-clause-cheap c =
    let low : c.loop-place.place < length c.args.capacities.now = omega (arith, c.loop-place-test.true) in
    let same : length c.add_place.new.groups ≡ length c.args.groups.now = c.add_place.auto.groups ∙ c.loop-place.auto.groups in
    let spans = subst (λ n. AreOfSpans c.args.capacities.now n (group_in c.args.pages.now)) (sym same) c.requires.spans in
    let after =
    next-before c.args.capacities.now (group_in c.args.pages.now) c.loop-place.place c.requires.capacities low c.loop-place.groups
    (subst (λ n. AreOfSpans c.args.capacities.now n (group_in c.args.pages.now)) (sym c.loop-place.auto.groups) c.requires.spans) c.loop-place.invariant.before
    c.add_place.new.groups c.add_place.auto.groups c.add_place.ensures in
    next-cheap c.args.capacities.now (group_in c.args.pages.now) c.loop-place.place c.requires.capacities low c.add_place.new.groups spans after

pub least_bound-requires-clause-room : goal.least_bound-requires-clause-room
least_bound-requires-clause-room c =
    let low : c.loop-place.place < length c.args.capacities.now = omega (arith, c.loop-place-test.true) in
    let same : length c.add_place.new.groups ≡ length c.args.groups.now = c.add_place.auto.groups ∙ c.loop-place.auto.groups in
    let spans = subst (λ n. AreOfSpans c.args.capacities.now n (group_in c.args.pages.now)) (sym same) c.requires.spans in
    let after =
    next-before c.args.capacities.now (group_in c.args.pages.now) c.loop-place.place c.requires.capacities low c.loop-place.groups
    (subst (λ n. AreOfSpans c.args.capacities.now n (group_in c.args.pages.now)) (sym c.loop-place.auto.groups) c.requires.spans) c.loop-place.invariant.before
    c.add_place.new.groups c.add_place.auto.groups c.add_place.ensures in
    let capacity : c.from.result ≤ 2 ^ 56 =
    omega (arith, c.from.ensures, All-get_or (λ (capacity : ℕ). capacity ≤ 2 ^ 56) c.args.capacities.now c.loop-place.place 0 low c.requires.capacities.limit) in
    let steps : c.from-in-loop-place.result ≤ 2 ^ 32 = omega (arith, c.from-in-loop-place.ensures, c.ranges.steps.fits) in
    next-total c.args.capacities.now (group_in c.args.pages.now) c.loop-place.place c.requires.capacities low c.add_place.new.groups spans after
    (c.from.result * c.from-in-loop-place.result) (omega (arith, product-le c.from.result (2 ^ 56) c.from-in-loop-place.result (2 ^ 32) capacity steps))

pub loop-place-preserved : goal.loop-place-preserved
loop-place-preserved c =
    let low : c.loop-place.place < length c.args.capacities.now = omega (arith, c.loop-place-test.true) in
    let same : length c.add_place.new.groups ≡ length c.args.groups.now = c.add_place.auto.groups ∙ c.loop-place.auto.groups in
    let spans = subst (λ n. AreOfSpans c.args.capacities.now n (group_in c.args.pages.now)) (sym same) c.requires.spans in
    let after =
    next-before c.args.capacities.now (group_in c.args.pages.now) c.loop-place.place c.requires.capacities low c.loop-place.groups
    (subst (λ n. AreOfSpans c.args.capacities.now n (group_in c.args.pages.now)) (sym c.loop-place.auto.groups) c.requires.spans) c.loop-place.invariant.before
    c.add_place.new.groups c.add_place.auto.groups c.add_place.ensures in
    let area : c.from.result * c.from-in-loop-place.result ≡ get_or c.args.capacities.now c.loop-place.place 0 * c.args.steps =
    ap (λ m. m * c.from-in-loop-place.result) c.from.ensures ∙ ap (λ m. get_or c.args.capacities.now c.loop-place.place 0 * m) c.from-in-loop-place.ensures in
    record {
      before = after;
      least = subst (AreLeastBefore (c.loop-place.place + 1) c.args.steps c.args.capacities.now (group_in c.args.pages.now)) (sym {A = List EdgeBound} c.in_ok-push.ensures.items)
          (least-more c.args.capacities.now (group_in c.args.pages.now) c.loop-place.place c.requires.capacities low c.add_place.new.groups
          spans after c.args.steps c.loop-place.bounds.items c.least_bound.result c.least_bound.ensures.edge
          (subst (λ a. IsLeastOf a c.add_place.new.groups (length c.add_place.new.groups) c.least_bound.result) area c.least_bound.ensures.least)
          c.loop-place.invariant.least);
    }

pub returns : goal.returns
returns c =
    let all : c.loop-place.place ≡ length c.args.capacities.now = omega (arith, c.loop-place-test.false, c.loop-place.auto.place-end) in
    subst (λ places. AreLeastBefore places c.args.steps c.args.capacities.now (group_in c.args.pages.now) c.loop-place.bounds.items) all c.loop-place.invariant.least

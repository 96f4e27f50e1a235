use Rattle.std.proofs.Common.{◌≡◌, ◌∙◌, ◌++◌, ◌/◌, ◌<◌, ℕ, Bool, List, ap, sym, subst, refl, arith, length, filter, get_or, take, not}
use Rattle.std.specs.List.{range_with_len}
use Rattle.std.proofs.lemmas.Bool.{not_from_false, not_from_true, eq-eqb, ne_eqb}
use Rattle.std.proofs.lemmas.List.{length-map}
use Rattle.flow_model.specs.declared.arcs.OuterArc.{OuterArc}
use Rattle.flow_model.specs.Instances.{arc_at}
use Rattle.flow_windows.specs.Cuts.{Cut, cut_of, starts_in}
use Rattle.window_arcs.specs.Current.{Current}
use Rattle.window_arcs.specs.Events.{numbers_with}
use Rattle.window_arcs.specs.Passing.{ends_at}
use Rattle.window_arcs.proofs.CurrentLemmas.{ending_are, number_low, passes_more, passes_same}
use Rattle.window_arcs.proofs.arcs.WindowArcs.push_ending.Goals.{then-arcs-number+in_ok-push, else-arcs-number}
use Rattle.window_arcs.proofs.arcs.WindowArcs.push_ending.Goals as goal

pub bounds-arcs-number : goal.bounds-arcs-number
bounds-arcs-number c =
    let keys : List ℕ = c.self.inside.ends in
    let all : c.deref-number-items.result.now ≡ numbers_with keys c.self.inside.number = c.deref-number-items.ensures.value ∙ c.in_ok-push_numbers.ensures ∙ ap (λ xs. xs ++ numbers_with keys c.self.inside.number) c.new-all.ensures.items in
    let arcs : length keys ≡ length c.arcs-arcs.result.now = ap length c.self.invariant.last_windows ∙ length-map c.self.inside.whole.now.arcs _ ∙ ap length (sym c.arcs-arcs.ensures.arcs) in
    subst (λ (xs : List ℕ). get_or xs c.loop-number.number-index 0 < length c.arcs-arcs.result.now) (sym all)
    (number_low keys c.self.inside.number (length c.arcs-arcs.result.now) c.loop-number.number-index arcs (omega (arith, ap length all, c.loop-number-test.true)))

pub loop-number-preserved : goal.loop-number-preserved
loop-number-preserved c =
    let xs : List ℕ = c.deref-number-items.result.now in
    let i : ℕ = c.loop-number.number-index in
    let x : ℕ = get_or xs i 0 in
    let cut : Cut = c.args.self.now.cut in
    let test : ℕ → Bool = λ j. not (starts_in cut.width cut.number (arc_at cut.whole.arcs j)) in
    let start : (arc_at c.arcs-arcs.result.now x).start ≡ (arc_at cut.whole.arcs x).start = subst (λ (v : Current). (arc_at c.arcs-arcs.result.now x).start ≡ (arc_at v.cut.whole.arcs x).start) c.self.view_is (ap (λ (some : List OuterArc). (arc_at some x).start) c.arcs-arcs.ensures.arcs) in
    let width : c.self.inside.width ≡ cut.width = ap (λ (v : Current). v.cut.width) c.self.view_is in
    let number : c.self.inside.number ≡ cut.number = ap (λ (v : Current). v.cut.number) c.self.view_is in
    let key : (arc_at c.arcs-arcs.result.now x).start / c.self.inside.width ≡ (arc_at cut.whole.arcs x).start / cut.width = ap (λ n. n / c.self.inside.width) start ∙ ap (λ n. (arc_at cut.whole.arcs x).start / n) width in
    elim c.if-arcs-number.branch [
      | then-arcs-number+in_ok-push w ↦
          rw w.numbers-is (passes_more test xs c.args.numbers.now.items c.loop-number.numbers.items _ i c.loop-number-test.true c.loop-number.invariant (not_from_false (starts_in cut.width cut.number (arc_at cut.whole.arcs x)) (ne_eqb _ _ (λ e. w.if-arcs-number.true (key ∙ e ∙ sym number)))) w.in_ok-push.ensures.items)
      | else-arcs-number w ↦
          rw w.numbers-is (passes_same test xs c.args.numbers.now.items c.loop-number.numbers.items _ i c.loop-number-test.true c.loop-number.invariant (not_from_true (starts_in cut.width cut.number (arc_at cut.whole.arcs x)) (eq-eqb _ _ (sym key ∙ w.if-arcs-number.false ∙ number))) refl)
    ]

pub returns : goal.returns
returns c =
    let keys : List ℕ = c.self.inside.ends in
    let cut : Cut = cut_of c.self.inside.whole.now c.self.inside.width c.self.inside.number in
    let all : c.deref-number-items.result.now ≡ numbers_with keys c.self.inside.number = c.deref-number-items.ensures.value ∙ c.in_ok-push_numbers.ensures ∙ ap (λ xs. xs ++ numbers_with keys c.self.inside.number) c.new-all.ensures.items in
    subst (λ (v : Current). c.loop-number.numbers.items ≡ c.args.numbers.now.items ++ filter (ends_at v.cut) (range_with_len 0 (length v.cut.whole.arcs))) c.self.view_is
    (ending_are cut keys c.args.numbers.now.items c.loop-number.numbers.items c.deref-number-items.result.now c.loop-number.number-index c.self.invariant.last_windows all
    (subst (λ (v : Current). c.loop-number.numbers.items ≡ c.args.numbers.now.items ++ filter (λ j. not (starts_in v.cut.width v.cut.number (arc_at v.cut.whole.arcs j))) (take c.loop-number.number-index c.deref-number-items.result.now)) (sym c.self.view_is) c.loop-number.invariant)
    c.loop-number-test.false)

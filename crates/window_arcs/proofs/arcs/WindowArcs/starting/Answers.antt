use Rattle.std.proofs.Common.{◌≡◌, ◌∙◌, ◌++◌, ◌<◌, ℕ, List, [], ap, sym, subst, refl, arith, length, filter, get_or, take, not}
use Rattle.std.specs.List.{range_with_len}
use Rattle.std.proofs.lemmas.Bool.{not_from_false, not_from_true}
use Rattle.std.proofs.lemmas.List.{length-map}
use Rattle.flow_model.specs.declared.arcs.OuterArc.{OuterArc}
use Rattle.flow_model.specs.Instances.{arc_at}
use Rattle.flow_windows.specs.Cuts.{Cut, cut_of}
use Rattle.window_arcs.specs.Current.{Current}
use Rattle.window_arcs.specs.Events.{numbers_with}
use Rattle.window_arcs.specs.Passing.{passes, passes_at, starts_at}
use Rattle.window_arcs.proofs.CurrentLemmas.{number_low, passes_more, passes_same, starting_are}
use Rattle.window_arcs.proofs.arcs.WindowArcs.starting.Goals.{then-not-passes+in_ok-push, else-not-passes}
use Rattle.window_arcs.proofs.arcs.WindowArcs.starting.Goals as goal

pub bounds-arcs-number : goal.bounds-arcs-number
bounds-arcs-number c =
    let keys : List ℕ = c.self.inside.starts in
    let all : c.deref-number-items.result.now ≡ numbers_with keys c.self.inside.number = c.deref-number-items.ensures.value ∙ c.in_ok-push_numbers.ensures ∙ ap (λ xs. xs ++ numbers_with keys c.self.inside.number) c.new-all.ensures.items in
    let arcs : length keys ≡ length c.arcs-arcs.result.now = ap length c.self.invariant.first_windows ∙ length-map c.self.inside.whole.now.arcs _ ∙ ap length (sym c.arcs-arcs.ensures.arcs) in
    subst (λ (xs : List ℕ). get_or xs c.loop-number.number-index 0 < length c.arcs-arcs.result.now) (sym all)
    (number_low keys c.self.inside.number (length c.arcs-arcs.result.now) c.loop-number.number-index arcs (omega (arith, ap length all, c.loop-number-test.true)))

pub loop-number-preserved : goal.loop-number-preserved
loop-number-preserved c =
    let xs : List ℕ = c.deref-number-items.result.now in
    let i : ℕ = c.loop-number.number-index in
    let x : ℕ = get_or xs i 0 in
    let cut : Cut = c.args.self.now.cut in
    let is : c.passes.result ≡ passes_at cut x =
    subst (λ (v : Current). c.passes.result ≡ passes_at v.cut x) c.self.view_is
    (c.passes.ensures ∙ ap (λ (some : List OuterArc). passes c.self.inside.width c.self.inside.number (arc_at some x)) c.arcs-arcs.ensures.arcs) in
    elim c.if-not-passes.branch [
      | then-not-passes+in_ok-push w ↦
          rw w.numbers-is (passes_more (λ j. not (passes_at cut j)) xs [] c.loop-number.numbers.items _ i c.loop-number-test.true c.loop-number.invariant (not_from_false (passes_at cut x) (sym is ∙ w.if-not-passes.true)) w.in_ok-push.ensures.items)
      | else-not-passes w ↦
          rw w.numbers-is (passes_same (λ j. not (passes_at cut j)) xs [] c.loop-number.numbers.items _ i c.loop-number-test.true c.loop-number.invariant (not_from_true (passes_at cut x) (sym is ∙ w.if-not-passes.false)) refl)
    ]

pub returns : goal.returns
returns c =
    let keys : List ℕ = c.self.inside.starts in
    let cut : Cut = cut_of c.self.inside.whole.now c.self.inside.width c.self.inside.number in
    let all : c.deref-number-items.result.now ≡ numbers_with keys c.self.inside.number = c.deref-number-items.ensures.value ∙ c.in_ok-push_numbers.ensures ∙ ap (λ xs. xs ++ numbers_with keys c.self.inside.number) c.new-all.ensures.items in
    subst (λ (v : Current). c.loop-number.numbers.items ≡ filter (starts_at v.cut) (range_with_len 0 (length v.cut.whole.arcs))) c.self.view_is
    (starting_are cut keys c.loop-number.numbers.items c.deref-number-items.result.now c.loop-number.number-index c.self.invariant.first_windows all
    (subst (λ (v : Current). c.loop-number.numbers.items ≡ filter (λ j. not (passes_at v.cut j)) (take c.loop-number.number-index c.deref-number-items.result.now)) (sym c.self.view_is) c.loop-number.invariant)
    c.loop-number-test.false)

use Rattle.std.proofs.Common.{◌≡◌, ℕ, ◌+◌, ◌∙◌, ap, refl, sym, subst, true, false, arith, get_or, set, take}
use mir.Val.{bool_byte}
use Rattle.std.proofs.lemmas.List.{get_or_read}
use Rattle.flow_model.specs.Instances.{arc_at}
use Rattle.flow_windows.specs.Cuts.{Cut, cut_of}
use Rattle.window_arcs.specs.Current.{ArePut, passing_mark, passing_weight}
use Rattle.window_arcs.specs.Passing.{passes_some}
use Rattle.window_arcs.proofs.RankLemmas.{mark_put, none_put, put_more, put_same, weight_put}
use Rattle.window_arcs.proofs.arcs.put_passing.Goals as goal
use Rattle.window_arcs.proofs.arcs.put_passing.Goals.{then-passes_some, then-passes, else-passes, else-passes_some}

pub loop-at-preserved : goal.loop-at-preserved
loop-at-preserved c =
    let cut : Cut = cut_of c.args.whole.now c.args.width c.args.number in
    let order = c.args.order.now.numbers.items in
    let ranks = c.args.order.now.ranks.items in
    let changed = c.args.changed.now in
    let k : ℕ = c.loop-at.at-index in
    let number : ℕ = get_or changed k 0 in
    let low = c.requires.within k 0 c.loop-at-test.true in
    let is : c.passes_some.result ≡ passes_some c.args.width (arc_at cut.whole.arcs number) = c.passes_some.ensures ∙ ap (λ xs. passes_some c.args.width (arc_at xs number)) c.arcs-arcs.ensures.arcs in
    elim c.if-passes_some.branch [
      | then-passes_some w ↦
          let weight : ℕ = w.if-passes.weight in
          let weighs : weight ≡ passing_weight cut number =
          elim w.if-passes.branch [
            | then-passes x ↦ weight_put cut c.arcs-arcs.result.now number weight w.passes-passes.result c.arcs-arcs.ensures.arcs w.passes-passes.ensures x.if-passes.true x.weight-is
            | else-passes x ↦ none_put cut c.arcs-arcs.result.now number weight w.passes-passes.result c.arcs-arcs.ensures.arcs w.passes-passes.ensures x.if-passes.false x.weight-is
          ] in
          let mark : w.from-then-passes_some.result ≡ passing_mark cut number = mark_put bool_byte cut c.arcs-arcs.result.now number w.from-then-passes_some.result w.passes-passes.result refl refl c.arcs-arcs.ensures.arcs w.passes-passes.ensures w.from-then-passes_some.ensures in
          let place : w.index-rank.result.now ≡ get_or ranks number 0 = get_or_read ranks number w.index-rank.result.now (omega (arith, low, c.requires.ordered.each_arc)) w.index-rank.ensures 0 in
          let some : passes_some c.args.width (arc_at cut.whole.arcs number) ≡ true = sym is ∙ w.if-passes_some.true in
          record {
            weights = subst (ArePut (passing_weight cut) order (take (k + 1) changed) c.args.passing.now) (ap (λ r. set c.loop-at.passing r weight) (sym place) ∙ sym (w.passing-is ∙ w.set.ensures ∙ ap (set c.loop-at.passing w.index-rank.result.now) w.from.ensures))
                (put_more (passing_weight cut) c.args.width cut.whole.arcs order ranks changed c.args.passing.now c.loop-at.passing k number weight c.loop-at.invariant.weights c.requires.ordered c.requires.each c.loop-at-test.true refl low some weighs);
            lives = subst (ArePut (passing_mark cut) order (take (k + 1) changed) c.args.live.now) (ap (λ r. set c.loop-at.live r w.from-then-passes_some.result) (sym place) ∙ sym (w.live-is ∙ w.set-then-passes_some.ensures))
                (put_more (passing_mark cut) c.args.width cut.whole.arcs order ranks changed c.args.live.now c.loop-at.live k number w.from-then-passes_some.result c.loop-at.invariant.lives c.requires.ordered c.requires.each_live c.loop-at-test.true refl low some mark);
          }
      | else-passes_some w ↦
          let none : passes_some c.args.width (arc_at cut.whole.arcs number) ≡ false = sym is ∙ w.if-passes_some.false in
          record {
            weights = subst (ArePut (passing_weight cut) order (take (k + 1) changed) c.args.passing.now) (sym w.passing-is)
                (put_same (passing_weight cut) c.args.width cut.whole.arcs order ranks changed c.args.passing.now c.loop-at.passing k number c.loop-at.invariant.weights c.requires.ordered c.loop-at-test.true refl none);
            lives = subst (ArePut (passing_mark cut) order (take (k + 1) changed) c.args.live.now) (sym w.live-is)
                (put_same (passing_mark cut) c.args.width cut.whole.arcs order ranks changed c.args.live.now c.loop-at.live k number c.loop-at.invariant.lives c.requires.ordered c.loop-at-test.true refl none);
          }
    ]

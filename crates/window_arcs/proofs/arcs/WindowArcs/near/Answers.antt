use Rattle.std.proofs.Common.{◌≡◌, ◌∙◌, ℕ, List, ap, arith, subst}
use Rattle.flow_windows.specs.Cuts.{Cut, cut_of}
use Rattle.window_arcs.specs.Current.{Current}
use Rattle.window_arcs.specs.Passing.{passing_numbers, weight_of}
use Rattle.window_arcs.proofs.CurrentLemmas.{passing_weights}
use Rattle.window_arcs.proofs.arcs.WindowArcs.near.Goals as goal

pub returns : goal.returns
returns c =
    let inside = c.self.inside in
    let v : Current = c.args.self.now in
    let cut : Cut = cut_of inside.whole.now inside.width inside.number in
    let order : List ℕ = inside.order.numbers.items in
    let first : ℕ = c.min-first.result in
    record {
      sorted = omega (arith, c.requires.sorted, c.min-first.ensures, c.max.ensures, c.min.ensures, c.max-end.ensures);
      within = omega (arith, c.requires.within, c.min.ensures);
      full = subst (λ (w : Current). c.before-full.result ≡ weight_of w.cut (passing_numbers w.cut w.order 0 first)) c.self.view_is (c.before-full.ensures ∙ passing_weights cut order inside.passing first c.self.invariant.weights);
      room = omega (arith, c.if-full-from.false, c.from.ensures, c.units.ensures, ap (λ (w : Current). w.cut.whole.units) c.self.view_is);
    }

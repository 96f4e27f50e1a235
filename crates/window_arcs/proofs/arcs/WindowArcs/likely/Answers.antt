use Rattle.std.proofs.Common.{◌≡◌, ◌∙◌, ◌<◌, ℕ, List, ap, arith, length, subst, sym, All}
use Rattle.std.proofs.lemmas.List.{length-map}
use Rattle.flow_windows.specs.Cuts.{Cut, cut_of}
use Rattle.window_arcs.specs.Current.{Current, passing_weight}
use Rattle.window_arcs.specs.Passing.{passing_numbers, weight_of}
use Rattle.window_arcs.proofs.CurrentLemmas.{passing_weights}
use Rattle.window_arcs.proofs.KeptLemmas.{local_low}
use Rattle.window_arcs.proofs.arcs.WindowArcs.likely.Goals as goal

pub weight-requires : goal.weight-requires
weight-requires c = subst (All (λ i. i < length c.args.self.now.cut.whole.arcs)) (sym c.requires) (local_low c.args.self.now.cut)

pub returns : goal.returns
returns c =
    let inside = c.self.inside in
    let v : Current = c.args.self.now in
    let cut : Cut = cut_of inside.whole.now inside.width inside.number in
    let order : List ℕ = inside.order.numbers.items in
    let long : length inside.passing ≡ length order = ap length c.self.invariant.weights ∙ length-map order (passing_weight cut) in
    let same : length order ≡ length v.order = ap (λ (w : Current). length w.order) c.self.view_is in
    let first : ℕ = c.below-first.result.places in
    record {
      sorted = omega (arith, c.min.ensures, c.max.ensures, c.places.ensures, c.below-first.ensures.places, long, same);
      within = omega (arith, c.min.ensures, c.places.ensures);
      full = subst (λ (w : Current). c.below-first.result.sum ≡ weight_of w.cut (passing_numbers w.cut w.order 0 first)) c.self.view_is (c.below-first.ensures.sum ∙ passing_weights cut order inside.passing first c.self.invariant.weights);
      room = omega (
        arith,
        c.below-first.ensures.fits,
        c.within-sure.ensures.fits,
        c.saturating_sub.ensures,
        c.saturating_add-taken.ensures,
        c.from-units.ensures,
        c.units.ensures,
        c.self.invariant.in_range.some_units,
        ap (λ (w : Current). w.cut.whole.units) c.self.view_is,
      );
    }

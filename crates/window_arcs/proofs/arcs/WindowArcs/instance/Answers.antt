use Rattle.std.proofs.Common.{◌≡◌, ◌∙◌, ◌<◌, ◌-◌, ◌++◌, ◌∷◌, [], ℕ, List, ap, sym, subst, arith, get_or, length, map, take}
use Rattle.std.specs.Result.{IfOk}
use Rattle.std.proofs.lemmas.List.{map_more, take_all}
use Rattle.flow_model.specs.declared.arcs.OuterArc.{OuterArc}
use Rattle.flow_model.specs.Instances.{Instance, IsInstance, arc_at}
use Rattle.flow_model.specs.Windows.{window_instance}
use Rattle.flow_windows.specs.Cuts.{Cut, cut_of}
use Rattle.window_arcs.specs.Current.{AreKept, Current, empty_numbers, full_numbers}
use Rattle.window_arcs.proofs.KeptLemmas.{kept_instance_fits, kept_low}
use Rattle.window_arcs.proofs.arcs.WindowArcs.instance.Goals as goal

pub bounds-arcs-number : goal.bounds-arcs-number
bounds-arcs-number c =
    let v : Current = c.args.self.now in
    let low = kept_low v.cut c.args.kept.now (full_numbers v c.args.ranks) (empty_numbers v c.args.ranks) c.requires.kept c.loop-number.number-index c.loop-number-test.true in
    omega (arith, low, ap length c.arcs-arcs.ensures.arcs, ap (λ (w : Current). length w.cut.whole.arcs) c.self.view_is)

pub loop-number-preserved : goal.loop-number-preserved
loop-number-preserved c =
    let whole : Instance = c.args.self.now.cut.whole in
    let i : ℕ = get_or c.args.kept.now c.loop-number.number-index 0 in
    let same : c.arcs-arcs.result.now ≡ whole.arcs = c.arcs-arcs.ensures.arcs ∙ ap (λ (w : Current). w.cut.whole.arcs) c.self.view_is in
    c.in_ok-push.ensures.items
    ∙ ap (λ (some : List OuterArc). c.loop-number.of_kept.items ++ arc_at some i ∷ []) same
    ∙ ap (λ (some : List OuterArc). some ++ arc_at whole.arcs i ∷ []) c.loop-number.invariant
    ∙ sym (map_more (arc_at whole.arcs) c.args.kept.now c.loop-number.number-index 0 c.loop-number-test.true)

pub new-whole-requires : goal.new-whole-requires
new-whole-requires c =
    let inside = c.self.inside in
    let cut : Cut = cut_of inside.whole.now inside.width inside.number in
    let v : Current = c.args.self.now in
    let fits : (w : Current) → inside.whole.now ≡ w.cut.whole → AreKept w c.args.ranks c.args.kept.now → c.args.ranks.full < w.cut.whole.units → c.loop-number.of_kept.items ≡ map (arc_at w.cut.whole.arcs) (take c.loop-number.number-index c.args.kept.now)
    → IsInstance (record { steps = w.cut.whole.steps; units = c.units.result - c.args.ranks.full; arcs = c.loop-number.of_kept.items }) =
    λ w same kept room are.
    kept_instance_fits w.cut c.args.kept.now (full_numbers w c.args.ranks) (empty_numbers w c.args.ranks) kept c.units.result c.args.ranks.full c.loop-number.of_kept.items c.loop-number.number-index (subst IsInstance same c.self.invariant.in_range)
    (c.units.ensures ∙ ap (λ (x : Instance). x.units) same) (omega (arith, room, c.units.ensures, ap (λ (x : Instance). x.units) same)) are c.loop-number-test.false in
    let whole_is : inside.whole.now ≡ v.cut.whole = ap (λ (w : Current). w.cut.whole) c.self.view_is in
    let steps : c.steps.result ≡ v.cut.whole.steps = c.steps.ensures ∙ ap (λ (x : Instance). x.steps) whole_is in
    subst (λ n. IsInstance (record { steps = n; units = c.units.result - c.args.ranks.full; arcs = c.loop-number.of_kept.items })) (sym steps)
    (fits v whole_is c.requires.kept c.requires.ranks.room c.loop-number.invariant)

pub returns : goal.returns
returns c =
    let inside = c.self.inside in
    let v : Current = c.args.self.now in
    let whole_is : inside.whole.now ≡ v.cut.whole = ap (λ (w : Current). w.cut.whole) c.self.view_is in
    let steps : c.steps.result ≡ v.cut.whole.steps = c.steps.ensures ∙ ap (λ (x : Instance). x.steps) whole_is in
    let units : c.units.result ≡ v.cut.whole.units = c.units.ensures ∙ ap (λ (x : Instance). x.units) whole_is in
    let arcs : c.loop-number.of_kept.items ≡ map (arc_at v.cut.whole.arcs) c.args.kept.now = c.loop-number.invariant ∙ ap (map (arc_at v.cut.whole.arcs)) (take_all c.loop-number.number-index c.args.kept.now c.loop-number-test.false) in
    let small : Instance = record { steps = v.cut.whole.steps; units = v.cut.whole.units - c.args.ranks.full; arcs = map (arc_at v.cut.whole.arcs) c.args.kept.now } in
    let made : c.new-whole.result ≡ small =
    c.new-whole.ensures
    ∙ ap (λ n. record { steps = n; units = c.units.result - c.args.ranks.full; arcs = c.loop-number.of_kept.items }) steps
    ∙ ap (λ n. record { steps = v.cut.whole.steps; units = n - c.args.ranks.full; arcs = c.loop-number.of_kept.items }) units
    ∙ ap (λ (some : List OuterArc). record { steps = v.cut.whole.steps; units = v.cut.whole.units - c.args.ranks.full; arcs = some }) arcs in
    subst (λ n. IfOk c.window_instance.result (λ (i : Instance). i ≡ window_instance small v.cut.width n)) (ap (λ (w : Current). w.cut.number) c.self.view_is)
    (subst (λ n. IfOk c.window_instance.result (λ (i : Instance). i ≡ window_instance small n inside.number)) (ap (λ (w : Current). w.cut.width) c.self.view_is)
    (subst (λ (x : Instance). IfOk c.window_instance.result (λ (i : Instance). i ≡ window_instance x inside.width inside.number)) made c.window_instance.ensures))

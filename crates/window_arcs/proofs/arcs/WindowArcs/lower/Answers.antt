use Rattle.std.proofs.Common.{◌<◌, ℕ, List, ap, subst, arith, get_or, length}
use Rattle.std.proofs.lemmas.List.{get_or_default}
use Rattle.flow_model.proofs.Lists.{written}
use Rattle.flow_windows.specs.Cuts.{Cut, cut_of}
use Rattle.window_arcs.specs.Current.{AreInRange, AreLowered, Current, empty_numbers, full_numbers}
use Rattle.window_arcs.proofs.FlowLemmas.{current_falls, lowered_le, once_distinct}
use Rattle.window_arcs.proofs.KeptLemmas.{kept_low, kept_once}
use Rattle.window_arcs.proofs.arcs.WindowArcs.lower.Goals as goal

pub lower_flows-requires-clause-distinct : goal.lower_flows-requires-clause-distinct
lower_flows-requires-clause-distinct c =
    let v : Current = c.args.self.now in
    once_distinct c.args.kept.now (kept_once v.cut c.args.kept.now (full_numbers v c.args.ranks) (empty_numbers v c.args.ranks) c.requires.kept)

pub lower_flows-requires-clause-within : goal.lower_flows-requires-clause-within
lower_flows-requires-clause-within c = λ k d within.
    let v : Current = c.args.self.now in
    let low : get_or c.args.kept.now k 0 < length v.cut.whole.arcs = kept_low v.cut c.args.kept.now (full_numbers v c.args.ranks) (empty_numbers v c.args.ranks) c.requires.kept k within in
    omega (arith, low, get_or_default c.args.kept.now k d 0 within, ap length c.deref_mut.ensures.value, c.self.invariant.each_arc, ap (λ (w : Current). length w.cut.whole.arcs) c.self.view_is)

pub invariant_of-self : goal.invariant_of-self
invariant_of-self c =
    let inside = c.self.inside in
    let cut : Cut = cut_of inside.whole.now inside.width inside.number in
    let old : List ℕ = inside.flows.items in
    let new : List ℕ = c.lower_flows.new.flows in
    let lower : AreLowered c.args.kept.now c.args.part_flows.now old new = subst (λ (xs : List ℕ). AreLowered c.args.kept.now c.args.part_flows.now xs new) c.deref_mut.ensures.value c.lower_flows.ensures in
    rw (written old new inside.flows.len lower.each_arc inside.flows.ok.0)
    (current_falls cut inside.order.numbers.items inside.order.ranks.items inside.starts inside.ends inside.passing inside.live old new c.self.invariant lower.each_arc (lowered_le c.args.kept.now c.args.part_flows.now old new lower))

pub returns-clause-flows : goal.returns-clause-flows
returns-clause-flows c =
    let inside = c.self.inside in
    let old : List ℕ = inside.flows.items in
    let new : List ℕ = c.lower_flows.new.flows in
    let lower : AreLowered c.args.kept.now c.args.part_flows.now old new = subst (λ (xs : List ℕ). AreLowered c.args.kept.now c.args.part_flows.now xs new) c.deref_mut.ensures.value c.lower_flows.ensures in
    rw (written old new inside.flows.len lower.each_arc inside.flows.ok.0) (subst (λ (w : Current). AreLowered c.args.kept.now c.args.part_flows.now w.flows new) c.self.view_is lower)

pub returns-clause-in_range : goal.returns-clause-in_range
returns-clause-in_range c =
    let is = c.self.invariant in
    subst AreInRange c.self.view_is (record { whole = is.in_range; some_width = is.some_width; each_arc = is.each_arc; within_weights = is.within_weights })

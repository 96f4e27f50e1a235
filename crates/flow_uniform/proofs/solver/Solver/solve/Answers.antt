use Rattle.std.proofs.Common.{◌≡◌, ◌∙◌, ℕ, List, length, ap, subst, arith}
use Rattle.flow_model.specs.Instances.{Instance, IsSolution}
use Rattle.flow_model.proofs.Lists.{written}
use Rattle.flow_uniform.specs.Cuts.{AreChosen}
use Rattle.flow_uniform.proofs.Solved.{cuts_solve}
use Rattle.flow_uniform.proofs.solver.Solver.solve.Goals as goal

pub returns : goal.returns
returns c =
    let own = c.self.inside in
    let at = c.self.invariant in
    let instance = own.instance.now in
    let flows = c.sweep.new.flows in
    let cuts = c.sweep.new.cuts in
    let prices = c.choose.new.prices in
    let whole_flows = written own.flows.items flows own.flows.len (omega (arith, c.sweep.auto.flows, ap length c.deref_mut.ensures.value)) own.flows.ok.0 in
    let whole_cuts = written own.cuts.items cuts own.cuts.len (omega (arith, c.sweep.auto.cuts, ap length c.deref_mut-3.ensures.value)) own.cuts.ok.0 in
    let whole_prices = written own.prices.items prices own.prices.len (omega (arith, c.choose.auto.prices, ap length c.deref_mut-4.ensures.value)) own.prices.ok.0 in
    let read : c.deref.result.now ≡ cuts = c.deref.ensures.value ∙ whole_cuts in
    let chosen : AreChosen own.cost cuts prices 0 c.choose.result = subst (λ (xs : List ℕ). AreChosen own.cost xs prices 0 c.choose.result) read c.choose.ensures in
    let answer : IsSolution instance prices flows = cuts_solve instance own.cost flows cuts prices c.choose.result at.fits.arcs_fit at.uniform c.sweep.ensures chosen in
    rw (c.new.ensures, whole_prices, whole_flows) (subst (λ (i : Instance). IsSolution i prices flows) c.self.view_is answer)

use Rattle.std.proofs.Common.{◌≡◌, ◌*◌, ◌∙◌, ℕ, sym, ap, subst, length, arith}
use Rattle.std.proofs.lemmas.Result.{err_from_is_err_and}
use Rattle.flow_model.specs.Instances.{Instance}
use Rattle.flow_network.specs.States.{State, no_flows}
use Rattle.flow_parts.specs.OuterEdges.{AreListed}
use Rattle.flow_solver.specs.Searches.{HasSearchRoom}
use Rattle.flow_solver.proofs.solver.Solver.new.Goals as goal

pub returns-in_err-path : goal.returns-in_err-path
returns-in_err-path c = rw (err_from_is_err_and c.from_residual.result c.from_residual.ensures.1).1 tt

pub returns-in_err-dead : goal.returns-in_err-dead
returns-in_err-dead c = rw (err_from_is_err_and c.from_residual-in_err-dead.result c.from_residual-in_err-dead.ensures.1).1 tt

pub returns-in_err-edges : goal.returns-in_err-edges
returns-in_err-edges c = rw (err_from_is_err_and c.from_residual-in_err-edges.result c.from_residual-in_err-edges.ensures.1).1 tt

pub returns-in_err-network : goal.returns-in_err-network
returns-in_err-network c = rw (err_from_is_err_and c.from_residual-in_err-network.result c.from_residual-in_err-network.ensures.1).1 tt

pub returns-in_err-search : goal.returns-in_err-search
returns-in_err-search c = rw (err_from_is_err_and c.from_residual-in_err-search.result c.from_residual-in_err-search.ensures.1).1 tt

pub set_slope-requires-clause-unused : goal.set_slope-requires-clause-unused
set_slope-requires-clause-unused c = ap (λ (x : State). x.flows) c.in_ok-network.ensures ∙ ap no_flows (sym (ap (λ (x : State). x.instance) c.in_ok-network.ensures))

pub new-requires-4 : goal.new-requires-4
new-requires-4 c =
    let same : c.set_slope.new.network.instance ≡ c.args.instance.now = ap (λ (x : State). x.instance) c.set_slope.ensures.same ∙ ap (λ (x : State). x.instance) c.in_ok-network.ensures in
    omega (arith, c.steps-steps.ensures, c.set_slope.ensures.ready.fits.in_range.few_steps, ap (λ (i : Instance). i.steps) same)

pub invariant_of-result : goal.invariant_of-result
invariant_of-result c =
    let same : c.set_slope.new.network.instance ≡ c.args.instance.now = ap (λ (x : State). x.instance) c.set_slope.ensures.same ∙ ap (λ (x : State). x.instance) c.in_ok-network.ensures in
    let steps : c.steps-steps.result ≡ c.set_slope.new.network.instance.steps = c.steps-steps.ensures ∙ sym (ap (λ (i : Instance). i.steps) same) in
    record {
      ready = c.set_slope.ensures.ready;
      edges = subst (λ (i : Instance). AreListed i c.in_ok-edges.edges (2 * length i.arcs)) (sym same) c.in_ok-edges.ensures;
      room = subst (λ (k : ℕ). HasSearchRoom k c.in_ok-search.search) steps c.in_ok-search.ensures;
      marks = omega (arith, c.in_ok-dead.ensures, steps);
      path_room = omega (arith, c.in_ok-path.ensures.len, c.in_ok-path.path.ok.0, steps);
    }

pub returns : goal.returns
returns c = ap (λ (x : State). x.instance) c.set_slope.ensures.same ∙ ap (λ (x : State). x.instance) c.in_ok-network.ensures

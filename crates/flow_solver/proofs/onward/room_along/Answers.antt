use Rattle.std.proofs.Common.{◌≡◌, ◌∙◌, ap, arith, ⊎_elim}
use Rattle.std.proofs.lemmas.List.{get_or_default}
use Rattle.std.specs.Prelude.{slice_index_or}
use Rattle.std.proofs.lemmas.Bool.{cases_eq}
use Rattle.flow_model.specs.declared.edges.Edge.TheVariants.{Inner}
use Rattle.flow_model.specs.Networks.{residual}
use Rattle.flow_solver.proofs.onward.room_along.Goals as goal

pub loop-edge-preserved : goal.loop-edge-preserved
loop-edge-preserved c =
    let n = c.args.network.now in
    let path = c.args.path.now in
    let i = c.loop-edge.edge-index in
    let inv = c.loop-edge.invariant in
    let tight = c.requires.tight i (Inner 0) c.loop-edge-test.true in
    record {
      some = omega (arith, c.min-amount.ensures, c.residual.ensures.residual, tight.room, inv.some);
      units = omega (arith, c.min-amount.ensures, inv.units);
      room = λ k d h.
          ⊎_elim
          (λ (e : k ≡ i).
          let same = ap (λ j. residual n.instance n.flows (slice_index_or path j d)) e ∙ ap (residual n.instance n.flows) (get_or_default path i d (Inner 0) c.loop-edge-test.true) in
          omega (arith, c.min-amount.ensures, c.residual.ensures.residual, same))
          (λ (m : k ≡ i → ⊥). omega (arith, c.min-amount.ensures, inv.room k d (omega arith))) (cases_eq k i);
      most = λ more fit under. omega (arith, c.min-amount.ensures, c.residual.ensures.residual, fit i (Inner 0) (omega arith), inv.most more (λ k d h. fit k d (omega arith)) under);
    }

pub returns-clause-some : goal.returns-clause-some
returns-clause-some c = c.loop-edge.invariant.some

pub returns-clause-units : goal.returns-clause-units
returns-clause-units c = c.loop-edge.invariant.units

pub returns-clause-room : goal.returns-clause-room
returns-clause-room c = λ k d h. c.loop-edge.invariant.room k d (omega (arith, h, c.loop-edge-test.false))

pub returns-clause-most : goal.returns-clause-most
returns-clause-most c = λ more fit under. c.loop-edge.invariant.most more (λ k d h. fit k d (omega (arith, h, c.loop-edge.auto.edge-index-end))) under

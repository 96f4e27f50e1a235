use Rattle.std.proofs.Common.{◌≡◌, ℕ, suc, ◌-◌, ◌<◌, ◌∙◌, sym, ap, refl, subst, List, [], ◌∷◌, ◌++◌, length, take, arith, length-set, true}
use Rattle.std.proofs.lemmas.List.{length-take-le, take_more_set}
use Rattle.std.proofs.Math.Seq.{take-suc}
use Rattle.flow_model.specs.declared.edges.Edge.{Edge}
use Rattle.flow_model.specs.declared.edges.Edge.TheVariants.{Inner}
use Rattle.flow_model.specs.Instances.{Instance}
use Rattle.flow_model.specs.Pushes.{edge_at}
use Rattle.flow_network.specs.States.{State}
use Rattle.flow_solver.specs.Onward.{IsOnward}
use Rattle.flow_solver.proofs.OnwardPaths.{onward_grows, onward_is_short, onward_shrinks}
use Rattle.flow_solver.proofs.onward.find.Goals.{in-Some, in-None+else-len-eq0}
use Rattle.flow_solver.proofs.onward.find.Goals as goal

pub bounds-path-len : goal.bounds-path-len
bounds-path-len c =
    let inv = c.loop.invariant in
    omega (
      arith,
      onward_is_short c.args.network.now c.loop.node (take c.loop.len c.loop.path) inv.onward,
      length-take-le c.loop.len c.loop.path inv.fits,
      inv.within,
      c.if-node-last.false,
      c.steps-last.ensures,
      ap (λ i. i.steps) c.instance.ensures.instance,
      c.loop.auto.path,
      c.requires.path_room,
    )

pub loop-preserved : goal.loop-preserved
loop-preserved c =
    let n : State = c.args.network.now in
    let inv = c.loop.invariant in
    let node = c.loop.node in
    let len = c.loop.len in
    let path : List Edge = c.loop.path in
    elim c.match-edge_on.branch [
      | in-Some w ↦
          let e : Edge = w.in-Some.edge in
          let on = w.in-Some.ensures in
          let room : len < length path =
          omega (
            arith,
            onward_is_short n node (take len path) inv.onward,
            length-take-le len path inv.fits,
            inv.within,
            c.if-node-last.false,
            c.steps-last.ensures,
            ap (λ i. i.steps) c.instance.ensures.instance,
            c.loop.auto.path,
            c.requires.path_room,
          ) in
          record {
            marks = omega (arith, ap length w.dead-is, inv.marks);
            within = omega (arith, w.node-is, w.ends-node.ensures.head, on.within);
            fits = omega (arith, w.len-is, ap length w.path-is, length-set path len e, room);
            onward = rw (w.node-is, w.ends-node.ensures.head, w.len-is, w.path-is, take_more_set path len e room) (onward_grows n node (take len path) e inv.onward on);
          }
      | in-None+else-len-eq0 w ↦
          let m : ℕ = len - 1 in
          let next : suc m ≡ len = omega (arith, w.if-len-eq0.false) in
          let room : m < length path = omega (arith, next, inv.fits) in
          let e : Edge = edge_at path m in
          let whole : take len path ≡ take m path ++ e ∷ [] = ap (λ k. take k path) (sym next) ∙ take-suc path m (Inner 0) room in
          record {
            marks = omega (arith, ap length w.dead-is, ap length w.mark.ensures, length-set c.loop.dead node true, inv.marks);
            within = omega (arith, w.node-is, w.ends-node-in-None.ensures.within.0);
            fits = omega (arith, w.len-is, ap length w.path-is, room);
            onward = rw (w.node-is, w.ends-node-in-None.ensures.tail, w.len-is, w.path-is) (onward_shrinks n node (take m path) e (subst (λ (es : List Edge). IsOnward n node es) whole inv.onward));
          }
    ]

pub loop-init : goal.loop-init
loop-init c =
    record {
      marks = c.requires.marks;
      within = omega arith;
      fits = omega arith;
      onward = record { leads = refl; tight = λ k d low. absurd (omega arith); later = λ k d low. absurd (omega arith) };
    }

pub returns-then-node-last-clause-marks : goal.returns-then-node-last-clause-marks
returns-then-node-last-clause-marks c = omega (arith, c.loop.invariant.marks, c.requires.marks)

pub returns-then-node-last-clause-within : goal.returns-then-node-last-clause-within
returns-then-node-last-clause-within c = c.loop.invariant.fits

pub returns-then-node-last-clause-path : goal.returns-then-node-last-clause-path
returns-then-node-last-clause-path c = subst (λ (k : ℕ). IsOnward c.args.network.now k (take c.loop.len c.loop.path)) (c.if-node-last.true ∙ c.steps-last.ensures ∙ ap (λ (i : Instance). i.steps) c.instance.ensures.instance) c.loop.invariant.onward

pub edge_on-requires-clause-fits : goal.edge_on-requires-clause-fits
edge_on-requires-clause-fits c = c.requires.fits

pub edge_on-requires-clause-edges : goal.edge_on-requires-clause-edges
edge_on-requires-clause-edges c = c.requires.edges

pub edge_on-requires-clause-node : goal.edge_on-requires-clause-node
edge_on-requires-clause-node c = omega (arith, c.loop.invariant.within, c.if-node-last.false, c.steps-last.ensures, ap (λ (i : Instance). i.steps) c.instance.ensures.instance)

pub edge_on-requires-clause-marks : goal.edge_on-requires-clause-marks
edge_on-requires-clause-marks c = c.loop.invariant.marks

pub ends-node-requires : goal.ends-node-requires
ends-node-requires c = c.in-Some.ensures.tight.is_edge

pub mark-requires : goal.mark-requires
mark-requires c = omega (arith, c.loop.invariant.marks, c.loop.invariant.within)

pub returns-then-len-eq0-clause-marks : goal.returns-then-len-eq0-clause-marks
returns-then-len-eq0-clause-marks c = omega (arith, ap length c.mark.ensures, length-set c.loop.dead c.loop.node true, c.loop.invariant.marks, c.requires.marks)

pub overflow_sub-len : goal.overflow_sub-len
overflow_sub-len c = omega (arith, c.if-len-eq0.false)

pub returns-clause-marks : goal.returns-clause-marks
returns-clause-marks c = omega (arith, c.loop.invariant.marks, c.requires.marks)

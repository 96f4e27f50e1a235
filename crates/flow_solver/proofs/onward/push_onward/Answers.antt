use Rattle.std.proofs.Common.{◌≡◌, ◌+◌, ◌*◌, ◌∙◌, refl, sym, ap, subst, List, length, take, arith}
use Rattle.flow_model.specs.declared.edges.Edge.{Edge}
use Rattle.flow_model.specs.Instances.{Instance}
use Rattle.flow_model.specs.Pushes.{push_path}
use Rattle.flow_network.specs.States.{State, IsState}
use Rattle.flow_parts.specs.OuterEdges.{AreListed}
use Rattle.flow_solver.specs.Searches.{IsReady}
use Rattle.flow_solver.proofs.LastRound.{ready_after_push}
use Rattle.flow_solver.proofs.OnwardPaths.{onward_can_push}
use Rattle.flow_solver.proofs.onward.push_onward.Goals as goal

pub push-requires-clause-path : goal.push-requires-clause-path
push-requires-clause-path c =
    onward_can_push c.loop-network.network (take c.in-Some.len c.find.new.path) c.room_along-amount.result c.in-Some.ensures.path c.room_along-amount.ensures.room

pub loop-network-preserved : goal.loop-network-preserved
loop-network-preserved c =
    let s : State = c.loop-network.network in
    let inv = c.loop-network.invariant in
    let path : List Edge = take c.in-Some.len c.find.new.path in
    let amount = c.room_along-amount.result in
    let pushed : c.push.new.self ≡ record s { flows = push_path amount s.flows path; pushed = s.pushed + amount } = c.push.ensures.pushed in
    let fits : IsState (record s { flows = push_path amount s.flows path; pushed = s.pushed + amount }) = subst (λ (x : State). IsState x) pushed c.push.ensures.state in
    let same : c.push.new.self.instance ≡ s.instance = ap (λ (x : State). x.instance) pushed in
    record {
      keeps = record {
        ready = subst (λ (x : State). IsReady x) (sym pushed) (ready_after_push s path amount inv.keeps.ready c.in-Some.ensures.path.tight fits);
        same = same ∙ inv.keeps.same;
        pushed = omega (arith, ap (λ (x : State). x.pushed) pushed, inv.keeps.pushed);
      };
      edges = subst (λ (i : Instance). AreListed i c.args.edges.now (2 * length i.arcs)) (sym same) inv.edges;
      marks = omega (arith, c.in-Some.ensures.marks, inv.marks, ap (λ (i : Instance). i.steps) same);
      same_marks = c.in-Some.ensures.marks ∙ inv.same_marks;
      path_room = omega (arith, c.find.auto.path, inv.path_room, ap (λ (i : Instance). i.steps) same);
    }

pub loop-network-init : goal.loop-network-init
loop-network-init c =
    record {
      keeps = record { ready = c.requires.ready; same = refl; pushed = omega arith };
      edges = c.requires.edges;
      marks = c.clear.ensures ∙ c.requires.marks;
      same_marks = refl;
      path_room = c.requires.path_room;
    }

pub find-requires-clause-fits : goal.find-requires-clause-fits
find-requires-clause-fits c = c.loop-network.invariant.keeps.ready.fits

pub find-requires-clause-edges : goal.find-requires-clause-edges
find-requires-clause-edges c = c.loop-network.invariant.edges

pub find-requires-clause-marks : goal.find-requires-clause-marks
find-requires-clause-marks c = c.loop-network.invariant.marks

pub find-requires-clause-path_room : goal.find-requires-clause-path_room
find-requires-clause-path_room c = c.loop-network.invariant.path_room

pub returns-in_default-clause-keeps : goal.returns-in_default-clause-keeps
returns-in_default-clause-keeps c = c.loop-network.invariant.keeps

pub returns-in_default-clause-marks : goal.returns-in_default-clause-marks
returns-in_default-clause-marks c = c.in_default.ensures.marks ∙ c.loop-network.invariant.same_marks ∙ c.clear.ensures

pub slice_bounds-room_along-end : goal.slice_bounds-room_along-end
slice_bounds-room_along-end c = c.in-Some.ensures.within

pub room_along-amount-requires-clause-tight : goal.room_along-amount-requires-clause-tight
room_along-amount-requires-clause-tight c = c.in-Some.ensures.path.tight

pub room_along-amount-requires-clause-left : goal.room_along-amount-requires-clause-left
room_along-amount-requires-clause-left c = omega (arith, c.loop-network-test.true, c.left.ensures.left)

pub slice_bounds-push-end : goal.slice_bounds-push-end
slice_bounds-push-end c = c.in-Some.ensures.within

pub push-requires-clause-units : goal.push-requires-clause-units
push-requires-clause-units c = c.room_along-amount.ensures.units

pub loop-network-smaller : goal.loop-network-smaller
loop-network-smaller c =
    let pushed = c.push.ensures.pushed in
    omega (arith, ap (λ (x : State). x.pushed) pushed, ap (λ (x : State). x.instance.units) pushed, c.room_along-amount.ensures.some, c.room_along-amount.ensures.units)

pub returns-clause-keeps : goal.returns-clause-keeps
returns-clause-keeps c = c.loop-network.invariant.keeps

pub returns-clause-marks : goal.returns-clause-marks
returns-clause-marks c = c.loop-network.invariant.same_marks ∙ c.clear.ensures

use Rattle.std.proofs.Common.{◌≡◌, ℕ, ◌+◌, ◌*◌, List, length, drop, ap, sym, subst, arith, ◌∙◌}
use Rattle.std.proofs.lemmas.List.{take_rest}
use Rattle.flow_model.specs.declared.edges.Edge.{Edge}
use Rattle.flow_model.specs.Instances.{Instance}
use Rattle.flow_model.specs.Pushes.{CanPush, push_path}
use Rattle.flow_network.specs.States.{State, IsState}
use Rattle.flow_parts.specs.OuterEdges.{AreListed}
use Rattle.flow_solver.specs.Searches.{IsReady, LeadsBackToFirst}
use Rattle.flow_solver.proofs.Guides.{enough_at, ready_lowered, leads_back}
use Rattle.flow_solver.proofs.LastRound.{ready_after_push}
use Rattle.flow_solver.proofs.rounds.augment.Goals as goal

pub lower-requires-clause-enough : goal.lower-requires-clause-enough
lower-requires-clause-enough c = λ node h. enough_at c.args.network.now c.run.new.self node c.requires.ready c.run.ensures.settled h

pub trace-route-requires-clause-back : goal.trace-route-requires-clause-back
trace-route-requires-clause-back c =
    let first : State = c.args.network.now in
    let found = c.run.new.self in
    let low = c.lower.new.network.potentials in
    subst (λ (s : State). LeadsBackToFirst s found) (sym c.lower.ensures.same) (leads_back first found low c.requires.ready c.run.ensures.search c.run.ensures.settled c.lower.ensures.lowered)

pub push_onward-requires-clause-ready : goal.push_onward-requires-clause-ready
push_onward-requires-clause-ready c =
    let first : State = c.args.network.now in
    let found = c.run.new.self in
    let s : State = c.lower.new.network in
    let low : List ℕ = s.potentials in
    let is = c.lower.ensures.same in
    let fits : IsState (record first { potentials = low }) = subst (λ (x : State). IsState x) is c.lower.ensures.fits in
    let ready : IsReady s = subst (λ (x : State). IsReady x) (sym is) (ready_lowered first found low c.requires.ready c.run.ensures.settled fits c.lower.ensures.lowered) in
    let start = c.trace-route.result.start in
    let amount = c.trace-route.result.amount in
    let path : List Edge = drop start c.trace-route.new.path in
    let pushed : c.push.new.self ≡ record s { flows = push_path amount s.flows path; pushed = s.pushed + amount } =
    c.push.ensures.pushed ∙ ap (λ (es : List Edge). record s { flows = push_path amount s.flows es; pushed = s.pushed + amount }) (take_rest c.trace-route.new.path start) in
    let after : IsState (record s { flows = push_path amount s.flows path; pushed = s.pushed + amount }) = subst (λ (x : State). IsState x) pushed c.push.ensures.state in
    subst (λ (x : State). IsReady x) (sym pushed) (ready_after_push s path amount ready c.trace-route.ensures.tight after)

pub returns-clause-advances : goal.returns-clause-advances
returns-clause-advances c =
    let keeps = c.push_onward.ensures.keeps in
    record {
      ready = keeps.ready;
      same = keeps.same ∙ ap (λ (x : State). x.instance) c.push.ensures.pushed ∙ ap (λ (x : State). x.instance) c.lower.ensures.same;
      pushed = omega (
        arith,
        keeps.pushed,
        ap (λ (x : State). x.pushed) c.push.ensures.pushed,
        ap (λ (x : State). x.pushed) c.lower.ensures.same,
        c.trace-route.ensures.some,
      );
    }

pub run-requires-clause-ready : goal.run-requires-clause-ready
run-requires-clause-ready c = c.requires.ready

pub run-requires-clause-room : goal.run-requires-clause-room
run-requires-clause-room c = c.requires.room

pub run-requires-clause-edges : goal.run-requires-clause-edges
run-requires-clause-edges c = c.requires.edges

pub lower-requires-clause-fits : goal.lower-requires-clause-fits
lower-requires-clause-fits c = c.requires.ready.fits

pub lower-requires-clause-each_distance : goal.lower-requires-clause-each_distance
lower-requires-clause-each_distance c = c.run.ensures.search.each_distance

pub trace-route-requires-clause-fits : goal.trace-route-requires-clause-fits
trace-route-requires-clause-fits c = c.lower.ensures.fits

pub trace-route-requires-clause-path_room : goal.trace-route-requires-clause-path_room
trace-route-requires-clause-path_room c = c.requires.path_room ∙ sym (ap (λ (x : State). x.instance.steps) c.lower.ensures.same)

pub trace-route-requires-clause-left : goal.trace-route-requires-clause-left
trace-route-requires-clause-left c = omega (arith, c.requires.left, ap (λ (x : State). x.pushed) c.lower.ensures.same, ap (λ (x : State). x.instance.units) c.lower.ensures.same)

pub slice_bounds-push-count : goal.slice_bounds-push-count
slice_bounds-push-count c = c.trace-route.ensures.within

pub push-requires-clause-path : goal.push-requires-clause-path
push-requires-clause-path c =
    let s : State = c.lower.new.network in
    let route = c.trace-route.result in
    subst (λ (es : List Edge). CanPush s.instance s.flows es route.amount) (sym (take_rest c.trace-route.new.path route.start)) c.trace-route.ensures.can

pub push-requires-clause-units : goal.push-requires-clause-units
push-requires-clause-units c = c.trace-route.ensures.units

pub push_onward-requires-clause-edges : goal.push_onward-requires-clause-edges
push_onward-requires-clause-edges c =
    let same : c.push.new.self.instance ≡ c.args.network.now.instance = ap (λ (x : State). x.instance) c.push.ensures.pushed ∙ ap (λ (x : State). x.instance) c.lower.ensures.same in
    subst (λ (i : Instance). AreListed i c.args.edges.now (2 * length i.arcs)) (sym same) c.requires.edges

pub push_onward-requires-clause-marks : goal.push_onward-requires-clause-marks
push_onward-requires-clause-marks c =
    let same : c.push.new.self.instance ≡ c.args.network.now.instance = ap (λ (x : State). x.instance) c.push.ensures.pushed ∙ ap (λ (x : State). x.instance) c.lower.ensures.same in
    omega (arith, c.requires.marks, ap (λ (i : Instance). i.steps) same)

pub push_onward-requires-clause-path_room : goal.push_onward-requires-clause-path_room
push_onward-requires-clause-path_room c =
    let same : c.push.new.self.instance ≡ c.args.network.now.instance = ap (λ (x : State). x.instance) c.push.ensures.pushed ∙ ap (λ (x : State). x.instance) c.lower.ensures.same in
    omega (arith, c.requires.path_room, c.trace-route.auto.path, ap (λ (i : Instance). i.steps) same)

pub returns-clause-room : goal.returns-clause-room
returns-clause-room c =
    let search = c.run.ensures.search in
    let places = search.queue.each_distance in
    record {
      distances = search.each_distance;
      parents = search.each_parent;
      nodes = omega (arith, search.queue.placed.lengths, places, search.each_distance);
      places = omega (arith, places, search.each_distance);
      stack = search.small_stack;
    }

pub returns-clause-marks : goal.returns-clause-marks
returns-clause-marks c = c.push_onward.ensures.marks

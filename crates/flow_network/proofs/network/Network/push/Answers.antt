use Rattle.std.proofs.Common.{◌≡◌, ℕ, length, List, get_or, ap, arith, ◌∙◌}
use Rattle.flow_model.specs.Networks.{Flows}
use Rattle.flow_model.specs.Pushes.{push_path}
use Rattle.flow_network.specs.States.{State}
use Rattle.flow_network.proofs.Pushed.{room_for, state_written}
use Rattle.flow_network.proofs.network.Network.push.Goals as goal

pub push_along-requires-clause-room : goal.push_along-requires-clause-room
push_along-requires-clause-room c =
    let n = c.self.inside in
    let s : State = record { instance = n.instance.now; flows = record { outer = n.outer.items; inner = n.inner.items }; pushed = n.pushed; potentials = n.potentials.items } in
    let can = rw (← c.self.view_is) at c.requires.path in
    let units = rw (← c.self.view_is) at c.requires.units in
    λ k d h. rw (c.deref_mut.ensures.value, c.deref_mut-2.ensures.value)
    (room_for s c.args.amount (get_or c.args.path.now k d) c.self.invariant units (can.edges k d h) (can.room k d h))

pub invariant_of-self : goal.invariant_of-self
invariant_of-self c =
    let n = c.self.inside in
    let s : State = record { instance = n.instance.now; flows = record { outer = n.outer.items; inner = n.inner.items }; pushed = n.pushed; potentials = n.potentials.items } in
    let can = rw (← c.self.view_is) at c.requires.path in
    let units = rw (← c.self.view_is) at c.requires.units in
    let to : Flows = record { outer = c.push_along.new.outer; inner = c.push_along.new.inner } in
    let from : ◌≡◌ {A = Flows} to (push_path c.args.amount s.flows c.args.path.now) =
    c.push_along.ensures
    ∙ ap (λ (xs : List ℕ). push_path c.args.amount (record { outer = xs; inner = c.deref_mut-2.result.now }) c.args.path.now) c.deref_mut.ensures.value
    ∙ ap (λ (xs : List ℕ). push_path c.args.amount (record { outer = n.outer.items; inner = xs }) c.args.path.now) c.deref_mut-2.ensures.value in
    state_written s c.args.path.now c.args.amount c.push_along.new.outer c.push_along.new.inner n.outer.len n.inner.len c.self.invariant can units from
    (omega (arith, ap length c.deref_mut.ensures.value)) (omega (arith, ap length c.deref_mut-2.ensures.value)) n.outer.ok.0 n.inner.ok.0

pub returns-clause-state : goal.returns-clause-state
returns-clause-state c =
    let n = c.self.inside in
    let s : State = record { instance = n.instance.now; flows = record { outer = n.outer.items; inner = n.inner.items }; pushed = n.pushed; potentials = n.potentials.items } in
    let can = rw (← c.self.view_is) at c.requires.path in
    let units = rw (← c.self.view_is) at c.requires.units in
    let to : Flows = record { outer = c.push_along.new.outer; inner = c.push_along.new.inner } in
    let from : ◌≡◌ {A = Flows} to (push_path c.args.amount s.flows c.args.path.now) =
    c.push_along.ensures
    ∙ ap (λ (xs : List ℕ). push_path c.args.amount (record { outer = xs; inner = c.deref_mut-2.result.now }) c.args.path.now) c.deref_mut.ensures.value
    ∙ ap (λ (xs : List ℕ). push_path c.args.amount (record { outer = n.outer.items; inner = xs }) c.args.path.now) c.deref_mut-2.ensures.value in
    state_written s c.args.path.now c.args.amount c.push_along.new.outer c.push_along.new.inner n.outer.len n.inner.len c.self.invariant can units from
    (omega (arith, ap length c.deref_mut.ensures.value)) (omega (arith, ap length c.deref_mut-2.ensures.value)) n.outer.ok.0 n.inner.ok.0

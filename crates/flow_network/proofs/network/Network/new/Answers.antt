use Rattle.std.proofs.Common.{◌≡◌, ℕ, ◌+◌, replicate, length, sym, subst, ap, ◌∙◌, List}
use Rattle.flow_network.specs.States.{State, IsState}
use Rattle.flow_network.proofs.Fresh.{fresh_state}
use Rattle.flow_network.proofs.network.Network.new.Goals as goal

pub invariant_of-result : goal.invariant_of-result
invariant_of-result c =
    let instance = c.args.instance.now in
    let state : List ℕ → List ℕ → List ℕ → State = λ o i p. record { instance = instance; flows = record { outer = o; inner = i }; pushed = 0; potentials = p } in
    let outer : replicate (length instance.arcs) 0 ≡ c.in_ok-outer.outer.items = ap (λ n. replicate n 0) (ap length (sym c.arcs-arcs.ensures.arcs)) ∙ sym (c.in_ok-outer.ensures.items_if_clones_equal (λ y h. h)) in
    let inner : replicate instance.steps 0 ≡ c.in_ok-inner.inner.items = ap (λ n. replicate n 0) (sym c.steps-steps.ensures) ∙ sym (c.in_ok-inner.ensures.items_if_clones_equal (λ y h. h)) in
    let potentials : replicate (instance.steps + 1) 0 ≡ c.in_ok-potentials.potentials.items = ap (λ n. replicate (n + 1) 0) (sym c.steps-steps.ensures) ∙ sym (c.in_ok-potentials.ensures.items_if_clones_equal (λ y h. h)) in
    let a : IsState (state c.in_ok-outer.outer.items (replicate instance.steps 0) (replicate (instance.steps + 1) 0)) = subst (λ (o : List ℕ). IsState (state o (replicate instance.steps 0) (replicate (instance.steps + 1) 0))) outer (fresh_state instance c.arcs-arcs.ensures.in_range) in
    let b : IsState (state c.in_ok-outer.outer.items c.in_ok-inner.inner.items (replicate (instance.steps + 1) 0)) = subst (λ (i : List ℕ). IsState (state c.in_ok-outer.outer.items i (replicate (instance.steps + 1) 0))) inner a in
    subst (λ (p : List ℕ). IsState (state c.in_ok-outer.outer.items c.in_ok-inner.inner.items p)) potentials b

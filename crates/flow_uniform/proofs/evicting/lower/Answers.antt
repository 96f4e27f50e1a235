use Rattle.std.proofs.Common.{◌≡◌, ◌∙◌, ℕ, ap, sym, refl, arith}
use Rattle.std.specs.Prelude.{None, Some}
use Rattle.std.specs.declared.option.Option.{Option}
use Rattle.flow_model.specs.Instances.{no_arc}
use Rattle.flow_parts.specs.Ranks.{ChangesRank, lesser, rank_at}
use Rattle.flow_uniform.specs.Holdings.{Holding, rank_of}
use Rattle.flow_uniform.proofs.Holding.{lower_held, flow_leaves}
use Rattle.flow_uniform.proofs.evicting.lower.Goals as goal

pub overflow_sub-leaving : goal.overflow_sub-leaving
overflow_sub-leaving c =
    let instance = c.args.instance.now in
    let is_arc = c.arcs.ensures.in_range.arcs_fit c.args.number no_arc c.requires.number in
    let held : Holding = record { flows = c.args.flows.now; leaving = c.args.leaving.now; ranks = c.args.heap.now } in
    rw c.arcs.ensures.arcs (omega (arith, c.requires.amount, flow_leaves instance held c.args.number c.args.number c.requires.held c.requires.number is_arc.within))

pub returns-then-less-gt0-clause-held : goal.returns-then-less-gt0-clause-held
returns-then-less-gt0-clause-held c =
    let instance = c.args.instance.now in
    let number : ℕ = c.args.number in
    let rank : ℕ = rank_of instance number in
    let before : Option ℕ = rank_at c.args.heap.now number in
    let change : ChangesRank c.args.heap.now c.offer.new.self number (Some (lesser before rank)) = rw (c.arcs.ensures.arcs, c.steps.ensures) at c.offer.ensures in
    let own : Some (lesser before rank) ≡ Some rank = ap (λ (r : Option ℕ). Some (lesser r rank)) c.requires.out in
    rw c.arcs.ensures.arcs
    (lower_held instance c.args.flows.now c.args.leaving.now c.args.heap.now c.offer.new.self number c.args.amount (Some (lesser before rank)) c.arcs.ensures.in_range c.requires.held c.requires.number c.requires.amount change (λ some. own)
    (λ r is.
    let both : Some rank ≡ Some r = sym own ∙ is in
    let equal : r ≡ rank = cc in
    (c.if-less-gt0.true, equal)))

pub returns-else-less-gt0-clause-held : goal.returns-else-less-gt0-clause-held
returns-else-less-gt0-clause-held c =
    let instance = c.args.instance.now in
    let number : ℕ = c.args.number in
    let none = c.if-less-gt0.false in
    let change : ChangesRank c.args.heap.now c.args.heap.now number None = record { keys = refl; changed = c.requires.out; others = λ other apart. refl } in
    rw c.arcs.ensures.arcs
    (lower_held instance c.args.flows.now c.args.leaving.now c.args.heap.now c.args.heap.now number c.args.amount None c.arcs.ensures.in_range c.requires.held c.requires.number c.requires.amount change (λ some. absurd (omega arith))
    (λ r is.
    let not : None ≡ Some r = is in
    cc))

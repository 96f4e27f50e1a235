use Rattle.std.proofs.Common.{◌≡◌, ℕ, ◌≤◌, ⊎_elim, get_or, replicate, ◌+◌, ◌*◌, ◌<◌, ◌∙◌, List, length, length-set, ap, sym, subst, arith}
use Rattle.std.proofs.lemmas.Bool.{cases_lt}
use Rattle.std.proofs.lemmas.List.{get_or-replicate, get_or_past, length-replicate}
use Rattle.std.proofs.lemmas.Result.{err_from_is_err_and}
use Rattle.flow_model.specs.declared.arcs.OuterArc.{OuterArc}
use Rattle.flow_parts.specs.OuterEdges.{Lists, AreListed, edge_of, tail_of}
use Rattle.flow_parts.proofs.EdgeLists.{ends_within, is_edge_of, none_listed, one_more_listed}
use Rattle.flow_parts.proofs.outer_edges.OuterEdges.of_first.Goals as goal

pub loop-number-preserved : goal.loop-number-preserved
loop-number-preserved c =
    let i = c.args.instance.now in
    let fits = c.arcs-arcs.ensures.in_range in
    let old : Lists = c.loop-number.edges in
    let number : ℕ = c.loop-number.number in
    let inv = c.loop-number.invariant in
    let within : number < 2 * length i.arcs = omega (arith, c.loop-number-test.true, c.requires) in
    let room : number < length old.next = omega (arith, c.loop-number-test.true, inv.room) in
    let own : c.tail_at.result ≡ tail_of i.arcs number = c.tail_at.ensures ∙ ap (λ (arcs : List OuterArc). tail_of arcs number) c.arcs-arcs.ensures.arcs in
    record {
      listed = subst (λ (x : Lists). AreListed i x (number + 1)) (sym c.add.ensures)
          (one_more_listed i old number c.tail_at.result inv.listed room (omega (arith, own, (ends_within i fits (edge_of (length i.arcs) number) (is_edge_of i number within)).0)) (sym own));
      room = ap (λ (x : Lists). length x.next) c.add.ensures ∙ length-set old.next number (get_or old.first c.tail_at.result 0) ∙ inv.room;
    }

pub returns-in_err-first : goal.returns-in_err-first
returns-in_err-first c = rw (err_from_is_err_and c.from_residual.result c.from_residual.ensures.1).1 tt

pub returns-in_err-next : goal.returns-in_err-next
returns-in_err-next c = rw (err_from_is_err_and c.from_residual-in_err-next.result c.from_residual-in_err-next.ensures.1).1 tt

pub tail_at-requires : goal.tail_at-requires
tail_at-requires c = omega (arith, c.loop-number-test.true, c.requires, ap length c.arcs-arcs.ensures.arcs)

pub add-requires-clause-number : goal.add-requires-clause-number
add-requires-clause-number c = omega (arith, c.loop-number.invariant.room, c.loop-number-test.true)

pub add-requires-clause-node : goal.add-requires-clause-node
add-requires-clause-node c =
    let i = c.args.instance.now in
    let number : ℕ = c.loop-number.number in
    let within : number < 2 * length i.arcs = omega (arith, c.loop-number-test.true, c.requires) in
    let own : c.tail_at.result ≡ tail_of i.arcs number = c.tail_at.ensures ∙ ap (λ (arcs : List OuterArc). tail_of arcs number) c.arcs-arcs.ensures.arcs in
    omega (arith, own, (ends_within i c.arcs-arcs.ensures.in_range (edge_of (length i.arcs) number) (is_edge_of i number within)).0, c.loop-number.invariant.listed.each_node)

pub add-requires-clause-few : goal.add-requires-clause-few
add-requires-clause-few c = omega (arith, c.loop-number-test.true, c.requires, c.arcs-arcs.ensures.in_range.few_arcs)

pub returns : goal.returns
returns c =
    let all : c.loop-number.number ≡ c.args.count = omega (arith, c.loop-number-test.false, c.loop-number.auto.number-end) in
    subst (λ (k : ℕ). AreListed c.args.instance.now c.loop-number.edges k) all c.loop-number.invariant.listed

pub loop-number-init : goal.loop-number-init
loop-number-init c =
    let i = c.args.instance.now in
    let first = c.in_ok-first.first.items in
    let next = c.in_ok-next.next.items in
    let count : ℕ = c.steps.result + 1 in
    let are : first ≡ replicate count 0 = c.in_ok-first.ensures.items_if_clones_equal (λ y same. same) in
    record {
      listed = none_listed i (record { first = first; next = next }) (omega (arith, ap length are, length-replicate {A = ℕ} count 0, c.steps.ensures))
          (λ node.
          ⊎_elim
          (λ (low : node < count). ap (λ xs. get_or xs node 0) are ∙ get_or-replicate count node 0 0 low)
          (λ (past : count ≤ node). get_or_past first node 0 (omega (arith, ap length are, length-replicate {A = ℕ} count 0, past)))
          (cases_lt node count));
      room = ap length (c.in_ok-next.ensures.items_if_clones_equal (λ y same. same)) ∙ length-replicate {A = ℕ} c.args.count 0;
    }

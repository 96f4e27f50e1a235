use Rattle.std.proofs.Common.{◌≡◌, ◌≢◌, ℕ, ◌+◌, ◌-◌, ◌<◌, ◌∙◌, min, ap, set, arith, ⊎_elim, length-set, slice_index, length}
use Rattle.std.proofs.lemmas.Bool.{cases_eq}
use Rattle.flow_model.proofs.Lists.{set_at}
use Rattle.flow_sparse.specs.States.{first_sum}
use Rattle.flow_sparse.proofs.Loaded.{first_sum-put, first_sum-before}
use Rattle.flow_sparse.proofs.loads.balance.Goals as goal

pub loop-node-preserved : goal.loop-node-preserved
loop-node-preserved c =
    let k = c.loop-node.node in
    let inv = c.loop-node.invariant in
    let t : ℕ = slice_index c.args.steps_of.now k in
    let load : ℕ = slice_index c.args.loads.now t in
    let room = c.beside-room.result in
    let passes = c.saturating_sub-passes.result in
    let lacks = c.saturating_sub-lacks.result in
    let within : k < c.args.count = omega (arith, c.loop-node-test.true, c.loop-node.auto.node-end) in
    let more : ℕ = passes + c.loop-node.less - min (passes + c.loop-node.less) (lacks + c.loop-node.more) in
    let less : ℕ = lacks + c.loop-node.more - min (passes + c.loop-node.less) (lacks + c.loop-node.more) in
    let excess_put : first_sum c.put.new.excess (k + 1) ≡ first_sum c.loop-node.excess k + more = ap (λ xs. first_sum xs (k + 1)) c.put.ensures.excess ∙ first_sum-put c.loop-node.excess k more (omega (arith, inv.excess, c.requires.each_node)) in
    let deficit_put : first_sum c.put.new.deficit (k + 1) ≡ first_sum c.loop-node.deficit k + less = ap (λ xs. first_sum xs (k + 1)) c.put.ensures.deficit ∙ first_sum-put c.loop-node.deficit k less (omega (arith, inv.deficit, c.requires.each_node)) in
    let passes_is = c.saturating_sub-passes.ensures in
    let lacks_is = c.saturating_sub-lacks.ensures in
    let at : (j : ℕ) → (j ≡ k → slice_index (set c.loop-node.inner k room) j ≡ room) × (j ≢ k → slice_index (set c.loop-node.inner k room) j ≡ slice_index c.loop-node.inner j) = λ j. set_at c.loop-node.inner k j room (omega (arith, inv.inner, c.requires.each_step)) in
    record {
      carried = omega (arith, excess_put, deficit_put, inv.carried, passes_is, lacks_is);
      small_more = omega (arith, passes_is, c.requires.small k within, c.beside-room.ensures.small);
      small_less = omega (arith, lacks_is, c.requires.units);
      few = omega (arith, excess_put, inv.few, inv.small_less, passes_is, c.requires.small k within, c.beside-room.ensures.small);
      balance = λ j h.
          ⊎_elim
          (λ (e : j ≡ k).
          omega (
            arith,
            (at j).0 e,
            excess_put,
            deficit_put,
            inv.carried,
            passes_is,
            lacks_is,
            ap (λ n. slice_index c.args.loads.now (slice_index c.args.steps_of.now n)) e,
            ap (λ n. first_sum c.put.new.excess (n + 1)) e,
            ap (λ n. first_sum c.put.new.deficit (n + 1)) e,
          ))
          (λ (n : j ≢ k).
          omega (
            arith,
            (at j).1 n,
            inv.balance j (omega arith),
            ap (λ xs. first_sum xs (j + 1)) c.put.ensures.excess ∙ first_sum-before c.loop-node.excess k (j + 1) more (omega arith),
            ap (λ xs. first_sum xs (j + 1)) c.put.ensures.deficit ∙ first_sum-before c.loop-node.deficit k (j + 1) less (omega arith),
          ))
          (cases_eq j k);
      shut = λ j h some.
          ⊎_elim
          (λ (e : j ≡ k). ap (λ n. slice_index c.args.prices.now (slice_index c.args.steps_of.now n)) e ∙ c.beside-room.ensures.shut (omega (arith, some, (at j).0 e)))
          (λ (n : j ≢ k). inv.shut j (omega arith) (omega (arith, some, (at j).1 n)))
          (cases_eq j k);
      inner = length-set c.loop-node.inner k room ∙ inv.inner;
      excess = ap length c.put.ensures.excess ∙ length-set c.loop-node.excess k more ∙ inv.excess;
      deficit = ap length c.put.ensures.deficit ∙ length-set c.loop-node.deficit k less ∙ inv.deficit;
    }

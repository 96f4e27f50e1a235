use Rattle.std.proofs.Common.{◌∙◌, ◌<◌, ℕ, ap, refl, arith, get_or, length, length-set, set}
use Rattle.window_arcs.proofs.FlowLemmas.{emptying_all, emptying_more, emptying_none}
use Rattle.window_arcs.proofs.arcs.empty_live.Goals as goal

pub up-init : goal.up-init
up-init c =
    record {
      low = c.next-rank.ensures.order;
      within = c.next-rank.ensures.within;
      each_rank = c.requires.each_rank;
      each_arc = refl;
      found = c.next-rank.ensures.found;
      so_far = λ cut lives. emptying_none cut c.args.order.now c.args.from c.args.flows.now c.args.live.now c.next-rank.result lives c.next-rank.ensures.within c.next-rank.ensures.none_before;
    }

pub up-preserved : goal.up-preserved
up-preserved c =
    let before = c.up.invariant in
    let rank : ℕ = c.up.rank in
    let x : ℕ = get_or c.args.order.now rank 0 in
    let within : rank < length c.args.order.now = omega (arith, c.up-test.true) in
    let low : x < length c.up.flows = omega (arith, c.requires.within rank 0 within, before.each_arc) in
    record {
      low = omega (arith, before.low, c.next-rank-in-up.ensures.order);
      within = c.next-rank-in-up.ensures.within;
      each_rank = ap length c.set.ensures ∙ length-set c.up.live rank 0 ∙ before.each_rank;
      each_arc = length-set c.up.flows x 0 ∙ before.each_arc;
      found = c.next-rank-in-up.ensures.found;
      so_far = λ cut lives.
          emptying_more cut c.args.order.now c.args.from c.args.flows.now c.up.live c.up.flows c.set.new.self (set c.up.flows x 0) rank c.next-rank-in-up.result x (before.so_far cut lives) before.low within (before.found (omega (arith, within, before.each_rank))) refl low refl
          c.set.ensures c.next-rank-in-up.ensures.within c.next-rank-in-up.ensures.none_before;
    }

pub returns : goal.returns
returns c = λ cut lives.
    emptying_all cut c.args.order.now c.args.from c.args.flows.now c.up.live c.up.flows c.up.rank (c.up.invariant.so_far cut lives) (omega (arith, c.up-test.false))

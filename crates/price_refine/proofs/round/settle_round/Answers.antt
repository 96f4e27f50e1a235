use Rattle.std.proofs.Common.{◌≡◌, ◌+◌, ◌/◌, arith, refl, subst}
use Rattle.price_refine.specs.declared.block.Block.{Block}
use Rattle.price_refine.specs.Parts.{AreSumsBeside, IsSettling}
use Rattle.price_refine.specs.Rounds.{AreOpen, HasSettled, numbered_block, place_of}
use Rattle.price_refine.proofs.BlockPlaces.{place-le, place_last, still_ready, worse_none, worse_more, settled_first, settled_more}
use Rattle.price_refine.proofs.SumsBeside.{beside_last}
use Rattle.price_refine.proofs.round.settle_round.Goals as goal

pub loop-number-init : goal.loop-number-init
loop-number-init c =
    let prices = c.args.pricing.now.prices.items in
    record {
      no_worse = worse_none c.args.whole c.args.items.now prices;
      settled = settled_first c.args.whole c.args.width c.args.items.now prices;
      open_at = record { since = 0; earlier = omega arith; kept = c.new.ensures.items };
      sums = beside_last c.args.whole.end (place_of c.args.whole c.args.width 0) (place_of c.args.whole c.args.width 0) prices c.args.pricing.now.sums.items c.requires.sums (omega (arith, c.requires.to_last));
    }

pub loop-number-preserved : goal.loop-number-preserved
loop-number-preserved c =
    let whole = c.args.whole in
    let width = c.args.width in
    let n = c.loop-number.number in
    let items = c.args.items.now in
    let old = c.args.pricing.now.prices.items in
    let now = c.loop-number.pricing.prices.items in
    let new = c.settle_next.new.pricing.prices.items in
    let fallen = c.in_ok-fallen.fallen in
    let is : c.numbered_block-block.result ≡ numbered_block whole width n = c.numbered_block-block.ensures in
    let settling : IsSettling items (numbered_block whole width n) now new fallen = subst (λ (b : Block). IsSettling items b now new fallen) is c.in_ok-fallen.ensures.settled in
    record {
      no_worse = worse_more whole (numbered_block whole width n) items old now new fallen c.loop-number.invariant.no_worse settling (place-le whole width (n + 1)) (λ prices. refl);
      settled = settled_more whole width n items old now new c.loop-number.fall fallen c.loop-number.invariant.settled settling;
      open_at = subst (λ (b : Block). AreOpen b.end items c.settle_next.new.gathered) is c.in_ok-fallen.ensures.«open»;
      sums = subst (λ (b : Block). AreSumsBeside b.end b.end new c.settle_next.new.pricing.sums.items) is c.in_ok-fallen.ensures.sums;
    }

pub returns-clause-settled : goal.returns-clause-settled
returns-clause-settled c =
    let all : c.loop-number.number ≡ c.args.whole.end / c.args.width + 2 = omega (arith, c.loop-number-test.false, c.loop-number.auto) in
    subst (λ n. HasSettled c.args.whole c.args.width c.args.items.now n c.args.pricing.now.prices.items c.loop-number.pricing.prices.items c.loop-number.fall) all c.loop-number.invariant.settled

pub returns-clause-ready : goal.returns-clause-ready
returns-clause-ready c =
    let all : c.loop-number.number ≡ c.args.whole.end / c.args.width + 2 = omega (arith, c.loop-number-test.false, c.loop-number.auto) in
    let last : place_of c.args.whole c.args.width c.loop-number.number ≡ c.args.whole.end = rw all (place_last c.args.whole c.args.width c.requires.some_width) in
    still_ready c.args.whole c.args.width c.args.items.now c.args.pricing.now c.loop-number.pricing c.requires c.loop-number.invariant.no_worse
    (subst (λ n. AreSumsBeside n n c.loop-number.pricing.prices.items c.loop-number.pricing.sums.items) last c.loop-number.invariant.sums)

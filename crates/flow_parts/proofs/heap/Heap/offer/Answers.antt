use Rattle.std.proofs.Common.{ℕ, ◌<◌, ◌≤◌, sym, ap, subst, arith, List, length, get_or, set}
use Rattle.std.specs.Prelude.{Some}
use Rattle.std.proofs.lemmas.Grind.{get_or_default_zero}
use Rattle.flow_parts.specs.Queues.{IsQueueBut, Waits}
use Rattle.flow_parts.specs.Ranks.{ChangesRank, Ranks, lesser, rank_at, ranks_of}
use Rattle.flow_parts.proofs.QueueSteps.{queue_lowered}
use Rattle.flow_parts.proofs.RankSteps.{length-ranks_of, offered_less, offered_more}
use Rattle.flow_parts.proofs.heap.Heap.offer.Goals as goal
use Rattle.flow_parts.proofs.heap.Heap.offer.Goals.{else-place_of-gt0-via-then-place_of-gt0+else-index-rank, else-place_of-gt0-via-else-place_of-gt0}

pub place_of-requires : goal.place_of-requires
place_of-requires c = omega (arith, c.requires, ap (λ (r : Ranks). length r) c.self.view_is, length-ranks_of c.self.inside.queue c.self.inside.ranks.items c.self.invariant.each_distance)

pub returns-then-index-rank : goal.returns-then-index-rank
returns-then-index-rank c =
    let own = c.self.inside in
    let waits : Waits own.queue c.args.key = omega (arith, c.if-place_of-gt0.true, c.place_of.ensures) in
    let inside : c.args.key < length own.ranks.items = omega (arith, c.requires, ap (λ (r : Ranks). length r) c.self.view_is, length-ranks_of own.queue own.ranks.items c.self.invariant.each_distance, c.self.invariant.each_distance) in
    let low : get_or own.ranks.items c.args.key 0 ≤ c.args.rank = omega (arith, c.if-index-rank.true, c.index.ensures, get_or_default_zero own.ranks.items c.args.key c.index.result.now inside) in
    subst (λ (r : Ranks). ChangesRank r r c.args.key (Some (lesser (rank_at r c.args.key) c.args.rank))) c.self.view_is
    (offered_more own.queue own.ranks.items c.args.key c.args.rank c.self.invariant.each_distance waits low)

pub index_mut-requires : goal.index_mut-requires
index_mut-requires c =
    omega (arith, c.requires, ap (λ (r : Ranks). length r) c.self.view_is, length-ranks_of c.self.inside.queue c.self.inside.ranks.items c.self.invariant.each_distance, c.self.invariant.each_distance, c.self.inside.ranks.ok.0)

pub offer-requires-clause-queue : goal.offer-requires-clause-queue
offer-requires-clause-queue c =
    let own = c.self.inside in
    let key : ℕ = c.args.key in
    let inside : key < length own.ranks.items = omega (arith, c.requires, ap (λ (r : Ranks). length r) c.self.view_is, length-ranks_of own.queue own.ranks.items c.self.invariant.each_distance, c.self.invariant.each_distance) in
    let less : Waits own.queue key → c.args.rank ≤ get_or own.ranks.items key 0 = λ waits.
    elim c.else-place_of-gt0.branch [
      | else-place_of-gt0-via-then-place_of-gt0+else-index-rank w ↦ omega (arith, w.if-index-rank.false, w.index.ensures, get_or_default_zero own.ranks.items key w.index.result.now inside)
      | else-place_of-gt0-via-else-place_of-gt0 w ↦ absurd (omega (arith, waits, w.if-place_of-gt0.false, c.place_of.ensures))
    ] in
    subst (λ (ds : List ℕ). IsQueueBut own.queue ds key) (sym c.deref.ensures.value) (queue_lowered own.queue own.ranks.items key c.args.rank c.self.invariant inside less)

pub offer-requires-clause-node : goal.offer-requires-clause-node
offer-requires-clause-node c = omega (arith, c.requires, ap (λ (r : Ranks). length r) c.self.view_is, length-ranks_of c.self.inside.queue c.self.inside.ranks.items c.self.invariant.each_distance)

pub returns : goal.returns
returns c =
    let own = c.self.inside in
    let key : ℕ = c.args.key in
    let d : List ℕ = own.ranks.items in
    let within : key < length own.queue.places = omega (arith, c.requires, ap (λ (r : Ranks). length r) c.self.view_is, length-ranks_of own.queue d c.self.invariant.each_distance) in
    let inside : key < length own.ranks.items = omega (arith, within, c.self.invariant.each_distance) in
    let less : Waits own.queue key → c.args.rank ≤ get_or d key 0 = λ waits.
    elim c.else-place_of-gt0.branch [
      | else-place_of-gt0-via-then-place_of-gt0+else-index-rank w ↦ omega (arith, w.if-index-rank.false, w.index.ensures, get_or_default_zero own.ranks.items key w.index.result.now inside)
      | else-place_of-gt0-via-else-place_of-gt0 w ↦ absurd (omega (arith, waits, w.if-place_of-gt0.false, c.place_of.ensures))
    ] in
    subst (λ (r : Ranks). ChangesRank r (ranks_of c.offer.new.self (set d key c.args.rank)) key (Some (lesser (rank_at r key) c.args.rank))) c.self.view_is
    (offered_less own.queue c.offer.new.self d key c.args.rank c.self.invariant within less c.offer.ensures.joins)

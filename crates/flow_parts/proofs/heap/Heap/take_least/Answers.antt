use Rattle.std.proofs.Common.{◌≡◌, ◌<◌, sym, refl, subst, arith, get_or, length}
use Rattle.std.specs.Prelude.{None}
use Rattle.std.proofs.lemmas.Grind.{get_or_default_zero}
use Rattle.flow_parts.specs.Queues.{IsQueue, Leaves}
use Rattle.flow_parts.specs.Ranks.{ChangesRank, IsEmpty, IsFirst, Ranks, ranks_of}
use Rattle.flow_parts.proofs.QueueSteps.{waits_within}
use Rattle.flow_parts.proofs.RankSteps.{empty_none, none_empty, taken_first, taken_gone}
use Rattle.flow_parts.proofs.heap.Heap.take_least.Goals as goal

pub returns-in_default-clause-none : goal.returns-in_default-clause-none
returns-in_default-clause-none c =
    let own = c.self.inside in (
      λ always. subst (λ (r : Ranks). IsEmpty r) c.self.view_is (none_empty own.queue own.ranks.items c.self.invariant (c.in_default.ensures.none.0 refl)),
      λ empty. refl,
    )

pub returns-clause-first : goal.returns-clause-first
returns-clause-first c =
    let own = c.self.inside in
    let leaves : Leaves own.queue c.take.new.self own.ranks.items c.in-Some.key = rw c.deref.ensures.value at c.in-Some.ensures.some in
    let inside : c.in-Some.key < length own.ranks.items = omega (arith, waits_within own.queue c.in-Some.key leaves.waited, c.self.invariant.each_distance) in
    let read : c.index.result.now ≡ get_or own.ranks.items c.in-Some.key 0 = omega (arith, c.index.ensures, get_or_default_zero own.ranks.items c.in-Some.key c.index.result.now inside) in
    rw read (subst (λ (r : Ranks). IsFirst r c.in-Some.key (get_or own.ranks.items c.in-Some.key 0)) c.self.view_is (taken_first own.queue c.take.new.self own.ranks.items c.in-Some.key c.self.invariant leaves))

pub returns-clause-taken : goal.returns-clause-taken
returns-clause-taken c =
    let own = c.self.inside in
    let leaves : Leaves own.queue c.take.new.self own.ranks.items c.in-Some.key = rw c.deref.ensures.value at c.in-Some.ensures.some in
    let next : IsQueue c.take.new.self own.ranks.items = rw c.deref.ensures.value at c.in-Some.ensures.queue in
    subst (λ (r : Ranks). ChangesRank r (ranks_of c.take.new.self own.ranks.items) c.in-Some.key None) c.self.view_is
    (taken_gone own.queue c.take.new.self own.ranks.items c.in-Some.key c.self.invariant next leaves)

pub returns-clause-none : goal.returns-clause-none
returns-clause-none c =
    let own = c.self.inside in (
      λ never. absurd cc,
      λ empty. c.in-Some.ensures.none.1 (empty_none own.queue own.ranks.items c.self.invariant (subst (λ (r : Ranks). IsEmpty r) (sym c.self.view_is) empty)),
    )

use Rattle.std.proofs.Common.{◌≡◌, ◌∙◌, ◌<◌, ◌≤◌, ℕ, List, length, refl, ap, sum, arith, ⊎_elim, slice_index}
use Rattle.std.proofs.lemmas.Bool.{cases_lt}
use Rattle.flow_model.specs.Instances.{Instance}
use Rattle.flow_model.specs.Networks.{tail}
use Rattle.flow_solver.specs.Searches.{FoundToLast}
use Rattle.flow_parts.proofs.EdgeLists.{ends_within}
use Rattle.flow_solver.proofs.Distances.{all_settled, next_settled, rests_after_take, search_taken}
use Rattle.flow_parts.proofs.QueueSteps.{waits_within}
use Rattle.flow_solver.proofs.search.Search.run.Goals as goal

pub loop-node-init : goal.loop-node-init
loop-node-init c =
    let n = c.args.network.now in
    let found = c.begin.new.self in
    record {
      search = c.begin.ensures.search;
      settled = λ e is rests has.
          let t : ℕ = tail n.instance.arcs e in
          let some : 0 < t = ⊎_elim (λ (h : 0 < t). h) (λ (h : t ≤ 0). let first : t ≡ 0 = omega arith in absurd (omega (arith, c.begin.ensures.waits, rests.unqueued, ap (slice_index found.waiting.places) first))) (cases_lt 0 t) in
          omega (
            arith,
            c.begin.ensures.far t some (ends_within n.instance c.requires.ready.fits.in_range e is).0,
            c.begin.ensures.search.tree.small n.instance.steps (omega arith),
            c.requires.ready.valid e is has,
          );
      unstacked = c.begin.ensures.depth;
    }

pub drain-requires-clause-settled : goal.drain-requires-clause-settled
drain-requires-clause-settled c =
    let old : FoundToLast = c.loop-node.self in
    let taken : FoundToLast = c.take_nearest.new.self in
    let take = c.in-Some.ensures in
    next_settled c.args.network.now old taken c.relax_from.new.self c.in-Some.node c.loop-node.invariant.settled (ap (λ (f : FoundToLast). f.distances) take.rest)
    (λ v other rests. rests_after_take old taken c.in-Some.node v take.rest take.some other rests) c.relax_from.ensures.nears c.relax_from.ensures.settled

pub begin-requires-clause-ready : goal.begin-requires-clause-ready
begin-requires-clause-ready c = c.requires.ready

pub begin-requires-clause-room : goal.begin-requires-clause-room
begin-requires-clause-room c = c.requires.room

pub take_nearest-requires : goal.take_nearest-requires
take_nearest-requires c = c.loop-node.invariant.search.queue

pub distance-requires : goal.distance-requires
distance-requires c =
    let search = c.loop-node.invariant.search in
    let take = c.in-Some.ensures in
    omega (arith, waits_within c.loop-node.self.waiting c.in-Some.node take.some.waited, search.queue.each_distance, ap (λ (f : FoundToLast). length f.distances) take.rest)

pub distance-requires-in-Some : goal.distance-requires-in-Some
distance-requires-in-Some c =
    omega (
      arith,
      c.steps-last.ensures,
      ap (λ (i : Instance). i.steps) c.instance.ensures.instance,
      c.loop-node.invariant.search.each_distance,
      ap (λ (f : FoundToLast). length f.distances) c.in-Some.ensures.rest,
    )

pub returns-then-distance-clause-search : goal.returns-then-distance-clause-search
returns-then-distance-clause-search c = search_taken c.args.network.now c.loop-node.self c.take_nearest.new.self c.loop-node.invariant.search c.in-Some.ensures.rest c.in-Some.ensures.queue

pub returns-then-distance-clause-settled : goal.returns-then-distance-clause-settled
returns-then-distance-clause-settled c =
    let n = c.args.network.now in
    let old : FoundToLast = c.loop-node.self in
    let taken : FoundToLast = c.take_nearest.new.self in
    let take = c.in-Some.ensures in
    let same : taken.distances ≡ old.distances = ap (λ (f : FoundToLast). f.distances) take.rest in
    let last : c.steps-last.result ≡ n.instance.steps = c.steps-last.ensures ∙ ap (λ (i : Instance). i.steps) c.instance.ensures.instance in
    let limit : slice_index old.distances n.instance.steps ≤ slice_index old.distances c.in-Some.node = omega (
      arith,
      c.if-distance.true,
      c.distance.ensures,
      c.distance-in-Some.ensures,
      ap (slice_index taken.distances) last,
      ap (λ (ds : List ℕ). slice_index ds n.instance.steps) same,
      ap (λ (ds : List ℕ). slice_index ds c.in-Some.node) same,
    ) in
    all_settled n old taken c.requires.ready c.loop-node.invariant.settled c.loop-node.invariant.unstacked same
    (λ v within waits. omega (arith, limit, take.some.first v waits, within, c.requires.ready.fits.in_range.few_steps))

pub relax_from-requires-clause-ready : goal.relax_from-requires-clause-ready
relax_from-requires-clause-ready c = c.requires.ready

pub relax_from-requires-clause-search : goal.relax_from-requires-clause-search
relax_from-requires-clause-search c = search_taken c.args.network.now c.loop-node.self c.take_nearest.new.self c.loop-node.invariant.search c.in-Some.ensures.rest c.in-Some.ensures.queue

pub relax_from-requires-clause-edges : goal.relax_from-requires-clause-edges
relax_from-requires-clause-edges c = c.requires.edges

pub relax_from-requires-clause-node : goal.relax_from-requires-clause-node
relax_from-requires-clause-node c =
    let search = c.loop-node.invariant.search in
    omega (arith, waits_within c.loop-node.self.waiting c.in-Some.node c.in-Some.ensures.some.waited, search.queue.each_distance, search.each_distance)

pub drain-requires-clause-ready : goal.drain-requires-clause-ready
drain-requires-clause-ready c = c.requires.ready

pub drain-requires-clause-search : goal.drain-requires-clause-search
drain-requires-clause-search c = c.relax_from.ensures.nears.search

pub drain-requires-clause-edges : goal.drain-requires-clause-edges
drain-requires-clause-edges c = c.requires.edges

pub loop-node-smaller : goal.loop-node-smaller
loop-node-smaller c =
    let take = c.in-Some.ensures in
    omega (
      arith,
      c.drain.ensures.falls,
      c.relax_from.ensures.nears.falls,
      take.some.quits.count,
      ap (λ (f : FoundToLast). sum f.distances) take.rest,
      ap (λ (f : FoundToLast). f.depth) take.rest,
    )

pub loop-node-preserved : goal.loop-node-preserved
loop-node-preserved c = record { search = c.drain.ensures.search; settled = c.drain.ensures.settled; unstacked = c.drain.ensures.depth }

pub returns-clause-search : goal.returns-clause-search
returns-clause-search c = search_taken c.args.network.now c.loop-node.self c.take_nearest.new.self c.loop-node.invariant.search c.in_default.ensures.rest c.in_default.ensures.queue

pub returns-clause-settled : goal.returns-clause-settled
returns-clause-settled c =
    let old : FoundToLast = c.loop-node.self in
    let inv = c.loop-node.invariant in
    let none : old.waiting.count ≡ 0 = c.in_default.ensures.none.0 refl in
    all_settled c.args.network.now old c.take_nearest.new.self c.requires.ready inv.settled inv.unstacked (ap (λ (f : FoundToLast). f.distances) c.in_default.ensures.rest)
    (λ v within waits. absurd (omega (arith, inv.search.queue.placed.low v, none, waits)))

use Rattle.std.proofs.Common.{◌≡◌, ℕ, ◌+◌, ◌-◌, ◌≤◌, ◌++◌, ◌∙◌, sym, ap, subst, List, length, map, replicate, arith}
use Rattle.linked_nodes.specs.declared.nodes.Node.{Node}
use Rattle.linked_nodes.specs.Nodes.{Grows, renumbered}
use Rattle.replay_queues.proofs.RoomLemmas.{grown-long}
use Rattle.replay_tinylfu.specs.Queues.{Queues, queues_at}
use Rattle.replay_tinylfu.specs.Loads.{numbers_of, IsKept}
use Rattle.replay_tinylfu.proofs.KeptLemmas.{kept-again, numbers-are}
use Rattle.replay_tinylfu.proofs.HeldLemmas.{held-length, length-entries}
use Rattle.replay_tinylfu.proofs.WiderLemmas.{wider-kept, wider-queues}
use Rattle.replay_tinylfu.proofs.ring.Ring.grow.Goals as goal

-- the nodes grow from as many objects as the ring has
grows : (old new : List Node) (none more : ℕ) → length old ≡ none + 3 → Grows old new (length old - 3) more → Grows old new none more
grows old new none more each g = let from : length old - 3 ≡ none = omega (arith, each) in subst (λ o. Grows old new o more) from g

pub invariant_of-self-2 : goal.invariant_of-self-2
invariant_of-self-2 c =
    let r = c.self.inside in
    let wider : r.objects ≤ c.args.objects = omega (arith, c.requires.more, ap (λ (q : Queues). q.objects) c.self.view_is) in
    let few : c.args.objects ≤ 2147483648 = omega (arith, c.in_ok-grow.ensures.few) in
    let each : length r.places.items ≡ r.objects = c.self.invariant.kept.each_object in
    let extra : ℕ = c.args.objects - length r.places.items in
    let named : List ℕ = map (renumbered r.objects c.args.objects) (numbers_of r.nodes.list r.objects r.window r.probation r.protected) in
    let kept : IsKept c.grow.new.self.list (r.places.items ++ replicate extra 0) c.args.objects r.window r.probation r.protected named =
    wider-kept r.nodes.list c.grow.new.self.list r.objects c.args.objects (grows r.nodes.list c.grow.new.self.list r.objects c.args.objects c.self.invariant.kept.ring.each_node c.in_ok-grow.ensures.grown) wider few r.places.items r.window r.probation r.protected (numbers_of r.nodes.list r.objects r.window r.probation r.protected) c.self.invariant.kept extra (grown-long r.places.items c.args.objects (omega arith)) in
    record {
      kept = kept-again c.grow.new.self.list c.in_ok-places.places.items c.args.objects r.window r.probation r.protected named
          (subst (λ (ps : List ℕ). IsKept c.grow.new.self.list ps c.args.objects r.window r.probation r.protected named) (sym c.in_ok-places.ensures) kept);
      counted = omega (arith, c.in_ok-grow.ensures.count, c.self.invariant.counted);
      fits = omega (arith, c.in_ok-grow.ensures.room, c.self.invariant.fits);
    }

pub returns-clause-ring : goal.returns-clause-ring
returns-clause-ring c =
    let r = c.self.inside in
    let wider : r.objects ≤ c.args.objects = omega (arith, c.requires.more, ap (λ (q : Queues). q.objects) c.self.view_is) in
    let few : c.args.objects ≤ 2147483648 = omega (arith, c.in_ok-grow.ensures.few) in
    let each : length r.places.items ≡ r.objects = c.self.invariant.kept.each_object in
    let extra : ℕ = c.args.objects - length r.places.items in
    let named : List ℕ = map (renumbered r.objects c.args.objects) (numbers_of r.nodes.list r.objects r.window r.probation r.protected) in
    let kept : IsKept c.grow.new.self.list (r.places.items ++ replicate extra 0) c.args.objects r.window r.probation r.protected named =
    wider-kept r.nodes.list c.grow.new.self.list r.objects c.args.objects (grows r.nodes.list c.grow.new.self.list r.objects c.args.objects c.self.invariant.kept.ring.each_node c.in_ok-grow.ensures.grown) wider few r.places.items r.window r.probation r.protected (numbers_of r.nodes.list r.objects r.window r.probation r.protected) c.self.invariant.kept extra (grown-long r.places.items c.args.objects (omega arith)) in
    let with_ends : Queues → Queues = λ q. record q { objects = c.args.objects; room = c.grow.new.self.room - 3 } in
    ap (λ (q : Queues). record q { room = c.grow.new.self.room - 3 })
    (ap (queues_at c.grow.new.self.list c.args.objects) (numbers-are c.grow.new.self.list (r.places.items ++ replicate extra 0) c.args.objects r.window r.probation r.protected named kept)
    ∙ wider-queues r.nodes.list c.grow.new.self.list r.objects c.args.objects (grows r.nodes.list c.grow.new.self.list r.objects c.args.objects c.self.invariant.kept.ring.each_node c.in_ok-grow.ensures.grown) wider few r.places.items r.window r.probation r.protected (numbers_of r.nodes.list r.objects r.window r.probation r.protected) c.self.invariant.kept)
    ∙ ap with_ends c.self.view_is

pub returns-clause-space : goal.returns-clause-space
returns-clause-space c =
    let r = c.self.inside in
    let wider : r.objects ≤ c.args.objects = omega (arith, c.requires.more, ap (λ (q : Queues). q.objects) c.self.view_is) in
    let few : c.args.objects ≤ 2147483648 = omega (arith, c.in_ok-grow.ensures.few) in
    let each : length r.places.items ≡ r.objects = c.self.invariant.kept.each_object in
    let extra : ℕ = c.args.objects - length r.places.items in
    let named : List ℕ = map (renumbered r.objects c.args.objects) (numbers_of r.nodes.list r.objects r.window r.probation r.protected) in
    let kept : IsKept c.grow.new.self.list (r.places.items ++ replicate extra 0) c.args.objects r.window r.probation r.protected named =
    wider-kept r.nodes.list c.grow.new.self.list r.objects c.args.objects (grows r.nodes.list c.grow.new.self.list r.objects c.args.objects c.self.invariant.kept.ring.each_node c.in_ok-grow.ensures.grown) wider few r.places.items r.window r.probation r.protected (numbers_of r.nodes.list r.objects r.window r.probation r.protected) c.self.invariant.kept extra (grown-long r.places.items c.args.objects (omega arith)) in
    omega (
      arith,
      length-entries c.grow.new.self.list (r.places.items ++ replicate extra 0) c.args.objects r.window r.probation r.protected (numbers_of c.grow.new.self.list c.args.objects r.window r.probation r.protected)
          (kept-again c.grow.new.self.list (r.places.items ++ replicate extra 0) c.args.objects r.window r.probation r.protected named kept),
      held-length r.nodes r.places.items r.objects r.window r.probation r.protected c.self.invariant c.args.self.now c.self.view_is,
      c.len.ensures.len,
      c.in_ok-grow.ensures.space,
    )

use Rattle.std.proofs.Common.{◌≡◌, ℕ, ◌+◌, ◌-◌, ◌≤◌, ◌∙◌, ap, subst, List, length, arith}
use Rattle.policy_model.specs.States.{Member}
use Rattle.linked_nodes.specs.declared.nodes.Node.{Node}
use Rattle.linked_nodes.specs.Nodes.{Grows}
use Rattle.replay_queues.specs.Lines.{Lined}
use Rattle.replay_queues.proofs.GhostAnswers.{count-few, members-length}
use Rattle.replay_queues.proofs.GrowLemmas.{grown-members, grown-ring, line-past}
use Rattle.replay_queues.proofs.line.Line.grow.Goals as goal

-- the nodes grow from as many objects as the line has
grows : (old new : List Node) (none more : ℕ) → length old ≡ none + 3 → Grows old new (length old - 3) more → Grows old new none more
grows old new none more each g = let from : length old - 3 ≡ none = omega (arith, each) in subst (λ o. Grows old new o more) from g

pub overflow_add-nodes : goal.overflow_add-nodes
overflow_add-nodes c =
    let p = c.self.inside in
    omega (arith, count-few p.nodes.list p.objects p.count c.self.invariant.ring, c.self.invariant.few)

pub invariant_of-self-2 : goal.invariant_of-self-2
invariant_of-self-2 c =
    let p = c.self.inside in
    let wider : p.objects ≤ c.args.objects = omega (arith, c.requires.more, ap (λ (l : Lined). l.objects) c.self.view_is) in
    record {
      ring = grown-ring p.nodes.list c.grow.new.self.list p.objects c.args.objects (grows p.nodes.list c.grow.new.self.list p.objects c.args.objects c.self.invariant.ring.each_node c.in_ok-grow.ensures.grown) p.count c.self.invariant.ring wider;
      few = c.in_ok-grow.ensures.few;
      counted = omega (arith, c.in_ok-grow.ensures.count, c.self.invariant.counted);
      fits = omega (arith, c.in_ok-grow.ensures.room, c.self.invariant.fits);
    }

pub returns-clause-line : goal.returns-clause-line
returns-clause-line c =
    let p = c.self.inside in
    let wider : p.objects ≤ c.args.objects = omega (arith, c.requires.more, ap (λ (l : Lined). l.objects) c.self.view_is) in
    let line : List Member → Lined = λ ms. record { objects = c.args.objects; members = ms; room = c.grow.new.self.room - 3 } in
    ap line
    (grown-members p.nodes.list c.grow.new.self.list p.objects c.args.objects (grows p.nodes.list c.grow.new.self.list p.objects c.args.objects c.self.invariant.ring.each_node c.in_ok-grow.ensures.grown) p.count c.self.invariant.ring wider
    ∙ ap (λ (l : Lined). l.members) c.self.view_is)

pub returns-clause-past : goal.returns-clause-past
returns-clause-past c =
    let p = c.self.inside in
    line-past p.nodes.list p.objects p.count (p.nodes.room - 3) c.args.self.now c.self.invariant.ring c.self.view_is c.args.objects c.requires.more

pub returns-clause-space : goal.returns-clause-space
returns-clause-space c =
    omega (
      arith,
      members-length c.grow.new.self.list c.args.objects c.self.inside.count,
      c.in_ok-grow.ensures.space,
      c.in_ok-grow.ensures.count,
      c.in_ok-grow.ensures.room,
      c.self.invariant.counted,
      c.self.invariant.fits,
    )

use Rattle.std.proofs.Common.{◌≡◌, ℕ, ◌+◌, ◌-◌, ◌<◌, ◌∙◌, sym, ap, subst, not, true, eqb, List, filter, length, arith}
use Rattle.policy_model.specs.States.{Member, members_size}
use Rattle.policy_model.specs.Leaving.{without_member}
use Rattle.linked_nodes.specs.declared.nodes.Node.{Node}
use Rattle.linked_nodes.specs.Nodes.{IsThere, Joins}
use Rattle.replay_queues.specs.Lines.{Lined}
use Rattle.replay_queues.specs.Rings.{is_among, ring_members, ring_of}
use Rattle.replay_queues.proofs.RingLemmas.{after, after-among, before, before-among}
use Rattle.replay_queues.proofs.GhostAnswers.{among-there, joins-there, less-bytes, less-count, less-members-are, less-ring, members-length, members-without, ring-there, view-among, view-length}
use Rattle.replay_queues.proofs.line.Line.remove.Goals as goal

pub get-before-requires : goal.get-before-requires
get-before-requires c =
    let p = c.self.inside in
    let there : is_among (ring_of p.nodes.list p.objects p.count) c.args.object ≡ true = view-among p.nodes.list p.objects p.count (p.nodes.room - 3) c.args.self.now c.self.invariant.ring c.self.view_is c.args.object true c.requires.there in
    record { known = (among-there p.nodes.list p.objects p.count c.self.invariant.ring c.args.object there).0 }

pub join-requires : goal.join-requires
join-requires c =
    let p = c.self.inside in
    let all : List ℕ = ring_of p.nodes.list p.objects p.count in
    let there : is_among all c.args.object ≡ true = view-among p.nodes.list p.objects p.count (p.nodes.room - 3) c.args.self.now c.self.invariant.ring c.self.view_is c.args.object true c.requires.there in
    record {
      before = subst (λ (n : Node). IsThere p.nodes.list n.before) (sym c.get-before.ensures)
          (ring-there p.nodes.list p.objects p.count c.self.invariant.ring (before p.nodes.list c.args.object) (before-among p.nodes.list p.objects all p.objects c.args.object c.self.invariant.ring.linked there));
      after = subst (λ (n : Node). IsThere p.nodes.list n.after) (sym c.get-before.ensures)
          (ring-there p.nodes.list p.objects p.count c.self.invariant.ring (after p.nodes.list c.args.object) (after-among p.nodes.list p.objects all p.objects c.args.object c.self.invariant.ring.linked there));
    }

pub leave-requires : goal.leave-requires
leave-requires c =
    let p = c.self.inside in
    let there : is_among (ring_of p.nodes.list p.objects p.count) c.args.object ≡ true = view-among p.nodes.list p.objects p.count (p.nodes.room - 3) c.args.self.now c.self.invariant.ring c.self.view_is c.args.object true c.requires.there in
    let low : c.args.object < p.objects = c.self.invariant.ring.below c.args.object there in
    let each : length c.join.new.self.list ≡ p.objects + 3 = c.join.ensures.joined.nodes_stay ∙ c.self.invariant.ring.each_node in
    record {
      known = omega arith;
      there = joins-there p.nodes.list c.join.new.self.list c.get-before.result.before c.get-before.result.after c.join.ensures.joined
          (subst (λ (n : Node). n.after < length p.nodes.list) (sym c.get-before.ensures) (among-there p.nodes.list p.objects p.count c.self.invariant.ring c.args.object there).1)
          c.args.object (among-there p.nodes.list p.objects p.count c.self.invariant.ring c.args.object there);
    }

pub overflow_sub-self : goal.overflow_sub-self
overflow_sub-self c =
    let p = c.self.inside in
    let there : is_among (ring_of p.nodes.list p.objects p.count) c.args.object ≡ true = view-among p.nodes.list p.objects p.count (p.nodes.room - 3) c.args.self.now c.self.invariant.ring c.self.view_is c.args.object true c.requires.there in
    omega (arith, less-count p.nodes.list p.objects p.count c.args.object c.self.invariant.ring there)

pub invariant_of-self : goal.invariant_of-self
invariant_of-self c =
    let p = c.self.inside in
    let there : is_among (ring_of p.nodes.list p.objects p.count) c.args.object ≡ true = view-among p.nodes.list p.objects p.count (p.nodes.room - 3) c.args.self.now c.self.invariant.ring c.self.view_is c.args.object true c.requires.there in
    record {
      ring = less-ring p.nodes.list p.objects p.count c.args.object c.self.invariant.ring there c.join.new.self.list c.leave.new.self.list
          (subst (λ (n : Node). Joins p.nodes.list c.join.new.self.list n.before n.after) c.get-before.ensures c.join.ensures.joined) c.leave.ensures.left;
      few = c.self.invariant.few;
      counted = omega (arith, c.leave.ensures.count, c.join.ensures.count, c.self.invariant.counted, less-count p.nodes.list p.objects p.count c.args.object c.self.invariant.ring there);
      fits = omega (arith, c.leave.ensures.room, c.join.ensures.room, c.self.invariant.fits);
    }

pub returns-clause-rest : goal.returns-clause-rest
returns-clause-rest c =
    let p = c.self.inside in
    let there : is_among (ring_of p.nodes.list p.objects p.count) c.args.object ≡ true = view-among p.nodes.list p.objects p.count (p.nodes.room - 3) c.args.self.now c.self.invariant.ring c.self.view_is c.args.object true c.requires.there in
    let line : List Member → ℕ → Lined = λ ms r. record { objects = p.objects; members = ms; room = r } in
    ap (λ r. line (ring_members c.leave.new.self.list p.objects (p.count - 1)) (r - 3)) (c.leave.ensures.room ∙ c.join.ensures.room)
    ∙ ap (λ ms. line ms (p.nodes.room - 3))
    (less-members-are p.nodes.list p.objects p.count c.args.object c.self.invariant.ring there c.join.new.self.list c.leave.new.self.list
    (subst (λ (n : Node). Joins p.nodes.list c.join.new.self.list n.before n.after) c.get-before.ensures c.join.ensures.joined) c.leave.ensures.left)
    ∙ ap (λ (g : Lined). record g { members = filter (λ m. not (eqb m.object c.args.object)) g.members }) c.self.view_is

pub returns-clause-size : goal.returns-clause-size
returns-clause-size c =
    let p = c.self.inside in
    let there : is_among (ring_of p.nodes.list p.objects p.count) c.args.object ≡ true = view-among p.nodes.list p.objects p.count (p.nodes.room - 3) c.args.self.now c.self.invariant.ring c.self.view_is c.args.object true c.requires.there in
    omega (
      arith,
      ap (λ (n : Node). n.size) c.get-before.ensures,
      less-bytes p.nodes.list p.objects p.count c.args.object c.self.invariant.ring there,
      ap (λ (g : Lined). members_size g.members) c.self.view_is,
      ap (λ (g : Lined). members_size g.members) (returns-clause-rest c),
      ap (λ (g : Lined). members_size (without_member c.args.object g.members)) c.self.view_is,
      ap members_size (members-without p.nodes.list c.args.object (ring_of p.nodes.list p.objects p.count)),
    )

pub returns-clause-known : goal.returns-clause-known
returns-clause-known c =
    let p = c.self.inside in
    let there : is_among (ring_of p.nodes.list p.objects p.count) c.args.object ≡ true = view-among p.nodes.list p.objects p.count (p.nodes.room - 3) c.args.self.now c.self.invariant.ring c.self.view_is c.args.object true c.requires.there in
    subst (λ (g : Lined). c.args.object < g.objects) c.self.view_is (c.self.invariant.ring.below c.args.object there)

pub returns-clause-space : goal.returns-clause-space
returns-clause-space c =
    let p = c.self.inside in
    let there : is_among (ring_of p.nodes.list p.objects p.count) c.args.object ≡ true = view-among p.nodes.list p.objects p.count (p.nodes.room - 3) c.args.self.now c.self.invariant.ring c.self.view_is c.args.object true c.requires.there in
    omega (
      arith,
      members-length c.leave.new.self.list p.objects (p.count - 1),
      less-count p.nodes.list p.objects p.count c.args.object c.self.invariant.ring there,
      c.leave.ensures.room,
      c.join.ensures.room,
      c.self.invariant.fits,
    )

pub returns-clause-count : goal.returns-clause-count
returns-clause-count c =
    let p = c.self.inside in
    let there : is_among (ring_of p.nodes.list p.objects p.count) c.args.object ≡ true = view-among p.nodes.list p.objects p.count (p.nodes.room - 3) c.args.self.now c.self.invariant.ring c.self.view_is c.args.object true c.requires.there in
    omega (
      arith,
      members-length c.leave.new.self.list p.objects (p.count - 1),
      less-count p.nodes.list p.objects p.count c.args.object c.self.invariant.ring there,
      view-length p.nodes.list p.objects p.count (p.nodes.room - 3) c.args.self.now c.self.invariant.ring c.self.view_is c.args.object,
    )

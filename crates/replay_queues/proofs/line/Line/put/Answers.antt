use Rattle.std.proofs.Common.{◌≡◌, ℕ, ◌+◌, ◌-◌, ◌<◌, ◌∙◌, sym, ap, subst, false, List, ◌∷◌, ◌++◌, length, arith}
use Rattle.policy_model.specs.States.{Member, member}
use Rattle.linked_nodes.specs.declared.nodes.Node.{Node}
use Rattle.linked_nodes.specs.Nodes.{IsThere, Joins}
use Rattle.replay_queues.specs.Lines.{Lined, before_object, from_object, first_of}
use Rattle.replay_queues.specs.Rings.{ring_members}
use Rattle.replay_queues.proofs.GhostAnswers.{count-few, joins-there, ring-there, view-among, view-below, view-length}
use Rattle.replay_queues.proofs.PutLemmas.{last-there, next-among, next-there, put-at, put-ring}
use Rattle.replay_queues.proofs.line.Line.put.Goals as goal

-- the number before which it is put begins what follows
begins : (nodes : List Node) (none count room : ℕ) (old : Lined) (next : ℕ) → record { objects = none; members = ring_members nodes none count; room = room } ≡ old → next ≡ first_of old.objects (from_object next old.members)
    → next ≡ first_of none (from_object next (ring_members nodes none count))
begins nodes none count room old next view is = is ∙ ap (λ (g : Lined). first_of g.objects (from_object next g.members)) (sym view)

pub enter-requires : goal.enter-requires
enter-requires c =
    let p = c.self.inside in
    let low : c.args.object < p.objects = view-below p.nodes.list p.objects p.count (p.nodes.room - 3) c.args.self.now c.self.invariant.ring c.self.view_is c.args.object c.requires.within in
    let each : length p.nodes.list ≡ p.objects + 3 = c.self.invariant.ring.each_node in
    record {
      known = omega arith;
      space = omega (
        arith,
        c.requires.space,
        view-length p.nodes.list p.objects p.count (p.nodes.room - 3) c.args.self.now c.self.invariant.ring c.self.view_is c.args.object,
        ap (λ (g : Lined). g.room) c.self.view_is,
        c.self.invariant.counted,
      );
    }

pub get-last-requires : goal.get-last-requires
get-last-requires c =
    let p = c.self.inside in
    let next = begins p.nodes.list p.objects p.count (p.nodes.room - 3) c.args.self.now c.args.next c.self.view_is c.requires.next in
    let there : IsThere p.nodes.list c.args.next = ring-there p.nodes.list p.objects p.count c.self.invariant.ring c.args.next (next-among p.nodes.list p.objects p.count c.args.next c.self.invariant.ring next) in
    record { known = subst (λ n. c.args.next < n) (sym c.enter.ensures.entered.nodes_stay) there.0 }

pub join-requires : goal.join-requires
join-requires c =
    let p = c.self.inside in
    let room : ℕ = p.nodes.room - 3 in
    let next = begins p.nodes.list p.objects p.count room c.args.self.now c.args.next c.self.view_is c.requires.next in
    record {
      before = last-there p.nodes.list c.enter.new.self.list p.objects p.count c.args.object c.args.size c.args.next c.self.invariant.ring
          (view-below p.nodes.list p.objects p.count room c.args.self.now c.self.invariant.ring c.self.view_is c.args.object c.requires.within)
          (view-among p.nodes.list p.objects p.count room c.args.self.now c.self.invariant.ring c.self.view_is c.args.object false c.requires.absent) next c.enter.ensures.entered c.get-last.result c.get-last.ensures;
      after = c.enter.ensures.entered.there;
    }

pub join-requires-2 : goal.join-requires-2
join-requires-2 c =
    let p = c.self.inside in
    let room : ℕ = p.nodes.room - 3 in
    let next = begins p.nodes.list p.objects p.count room c.args.self.now c.args.next c.self.view_is c.requires.next in
    let stay : (k : ℕ) → IsThere c.enter.new.self.list k → IsThere c.join.new.self.list k =
    joins-there c.enter.new.self.list c.join.new.self.list c.get-last.result.before c.args.object c.join.ensures.joined c.enter.ensures.entered.there.0 in
    record {
      before = stay c.args.object c.enter.ensures.entered.there;
      after = stay c.args.next
          (next-there p.nodes.list c.enter.new.self.list p.objects p.count c.args.object c.args.size c.args.next c.self.invariant.ring
          (view-below p.nodes.list p.objects p.count room c.args.self.now c.self.invariant.ring c.self.view_is c.args.object c.requires.within)
          (view-among p.nodes.list p.objects p.count room c.args.self.now c.self.invariant.ring c.self.view_is c.args.object false c.requires.absent) next c.enter.ensures.entered);
    }

pub overflow_add-self : goal.overflow_add-self
overflow_add-self c =
    let p = c.self.inside in
    omega (arith, count-few p.nodes.list p.objects p.count c.self.invariant.ring)

pub invariant_of-self : goal.invariant_of-self
invariant_of-self c =
    let p = c.self.inside in
    let room : ℕ = p.nodes.room - 3 in
    let next = begins p.nodes.list p.objects p.count room c.args.self.now c.args.next c.self.view_is c.requires.next in
    let space : p.count < p.nodes.room - 3 =
    omega (arith, c.requires.space, view-length p.nodes.list p.objects p.count room c.args.self.now c.self.invariant.ring c.self.view_is c.args.object, ap (λ (g : Lined). g.room) c.self.view_is) in
    record {
      ring = put-ring p.nodes.list c.enter.new.self.list c.join.new.self.list c.join-2.new.self.list p.objects p.count c.args.object c.args.size c.args.next c.self.invariant.ring
          (view-below p.nodes.list p.objects p.count room c.args.self.now c.self.invariant.ring c.self.view_is c.args.object c.requires.within)
          (view-among p.nodes.list p.objects p.count room c.args.self.now c.self.invariant.ring c.self.view_is c.args.object false c.requires.absent) next
          c.enter.ensures.entered
          (subst (λ b. Joins c.enter.new.self.list c.join.new.self.list b c.args.object) (ap (λ (m : Node). m.before) c.get-last.ensures) c.join.ensures.joined) c.join-2.ensures.joined;
      few = c.self.invariant.few;
      counted = omega (arith, c.join-2.ensures.count, c.join.ensures.count, c.enter.ensures.count, c.self.invariant.counted);
      fits = omega (arith, c.join-2.ensures.room, c.join.ensures.room, c.enter.ensures.room, space);
    }

pub returns : goal.returns
returns c =
    let p = c.self.inside in
    let room : ℕ = p.nodes.room - 3 in
    let next = begins p.nodes.list p.objects p.count room c.args.self.now c.args.next c.self.view_is c.requires.next in
    let line : List Member → ℕ → Lined = λ ms r. record { objects = p.objects; members = ms; room = r } in
    ap (λ r. line (ring_members c.join-2.new.self.list p.objects (p.count + 1)) (r - 3)) (c.join-2.ensures.room ∙ c.join.ensures.room ∙ c.enter.ensures.room)
    ∙ ap (λ ms. line ms room)
    (put-at p.nodes.list c.enter.new.self.list c.join.new.self.list c.join-2.new.self.list p.objects p.count c.args.object c.args.size c.args.next c.self.invariant.ring
    (view-below p.nodes.list p.objects p.count room c.args.self.now c.self.invariant.ring c.self.view_is c.args.object c.requires.within)
    (view-among p.nodes.list p.objects p.count room c.args.self.now c.self.invariant.ring c.self.view_is c.args.object false c.requires.absent) next
    c.enter.ensures.entered
    (subst (λ b. Joins c.enter.new.self.list c.join.new.self.list b c.args.object) (ap (λ (m : Node). m.before) c.get-last.ensures) c.join.ensures.joined) c.join-2.ensures.joined)
    ∙ ap (λ (g : Lined). record g { members = before_object c.args.next g.members ++ member c.args.object c.args.size ∷ from_object c.args.next g.members }) c.self.view_is

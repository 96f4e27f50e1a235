use Rattle.std.proofs.Common.{◌≡◌, ◌-◌, ◌∙◌, ap, true, drop}
use Rattle.linked_nodes.specs.declared.nodes.Node.{Node}
use Rattle.replay_queues.specs.Lines.{Lined, first_of, from_object}
use Rattle.replay_queues.specs.Rings.{is_among, ring_of}
use Rattle.replay_queues.proofs.GhostAnswers.{among-there, view-among}
use Rattle.replay_queues.proofs.LineLemmas.{next-after}
use Rattle.replay_queues.proofs.line.Line.after.Goals as goal

pub get-requires : goal.get-requires
get-requires c =
    let p = c.self.inside in
    let there : is_among (ring_of p.nodes.list p.objects p.count) c.args.object ≡ true = view-among p.nodes.list p.objects p.count (p.nodes.room - 3) c.args.self.now c.self.invariant.ring c.self.view_is c.args.object true c.requires.there in
    record { known = (among-there p.nodes.list p.objects p.count c.self.invariant.ring c.args.object there).0 }

pub returns : goal.returns
returns c =
    let p = c.self.inside in
    let there : is_among (ring_of p.nodes.list p.objects p.count) c.args.object ≡ true = view-among p.nodes.list p.objects p.count (p.nodes.room - 3) c.args.self.now c.self.invariant.ring c.self.view_is c.args.object true c.requires.there in
    ap (λ (m : Node). m.after) c.get.ensures
    ∙ next-after p.nodes.list p.objects (ring_of p.nodes.list p.objects p.count) p.objects c.args.object c.self.invariant.ring.linked there
    ∙ ap (λ (g : Lined). first_of g.objects (drop 1 (from_object c.args.object g.members))) c.self.view_is

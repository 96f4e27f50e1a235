use Rattle.std.proofs.Common.{◌≡◌, ◌+◌, ◌∙◌, ap, length, arith}
use Rattle.linked_nodes.specs.declared.nodes.Node.{Node}
use Rattle.replay_queues.specs.Lines.{Lined, first_of}
use Rattle.replay_queues.specs.Rings.{ring_of}
use Rattle.replay_queues.proofs.LineLemmas.{first-after}
use Rattle.replay_queues.proofs.line.Line.first.Goals as goal

pub get-requires : goal.get-requires
get-requires c = record { known = let each : length c.self.inside.nodes.list ≡ c.self.inside.objects + 3 = c.self.invariant.ring.each_node in omega arith }

pub returns : goal.returns
returns c =
    let p = c.self.inside in
    ap (λ (m : Node). m.after) c.get.ensures
    ∙ first-after p.nodes.list p.objects (ring_of p.nodes.list p.objects p.count) p.objects c.self.invariant.ring.linked
    ∙ ap (λ (g : Lined). first_of g.objects g.members) c.self.view_is

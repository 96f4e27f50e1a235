use Rattle.std.proofs.Common.{◌≡◌, ℕ, ◌<◌, ◌∙◌, sym, ap, subst, List, [], ◌∷◌, length, drop, arith}
use Rattle.std.proofs.lemmas.List.{length-map}
use Rattle.policy_model.specs.States.{has_entry}
use Rattle.policy_model.specs.Steps.{without_entry}
use Rattle.policy_model.specs.WTinyLfu.{entry_of}
use Rattle.linked_nodes.specs.declared.nodes.Node.{Node}
use Rattle.linked_nodes.specs.Nodes.{node_at}
use Rattle.replay_queues.proofs.RingLemmas.{after}
use Rattle.replay_tinylfu.specs.Queues.{Queues, plain_entry, entries_at, window_of, with_window}
use Rattle.replay_tinylfu.specs.Loads.{numbers_of}
use Rattle.replay_tinylfu.proofs.KeptLemmas.{entries-among, apart-window}
use Rattle.replay_tinylfu.proofs.TakenLemmas.{first_window, first-there, popped}
use Rattle.replay_tinylfu.proofs.ring.Ring.pop_window.Goals as goal

is_some : (nodes : List Node) (part : List ℕ) → 0 < length (entries_at nodes part) → 0 < length part
is_some nodes part some = omega (arith, length-map part (λ k. plain_entry k (node_at nodes k).size))

pub take_window-size-requires : goal.take_window-size-requires
take_window-size-requires c =
    let r = c.self.inside in
    let part : List ℕ = window_of r.objects (numbers_of r.nodes.list r.objects r.window r.probation r.protected) in
    let some : 0 < length part = is_some r.nodes.list part (subst (λ (q : Queues). 0 < length q.segments.window) (sym c.self.view_is) c.requires.some) in
    let read : c.get-object.result.after ≡ after r.nodes.list r.objects = ap (λ (n : Node). n.after) c.get-object.ensures in
    let first : part ≡ c.get-object.result.after ∷ drop 1 part = first_window r.nodes.list r.objects (numbers_of r.nodes.list r.objects r.window r.probation r.protected) c.self.invariant.kept.ring some ∙ ap (λ x. x ∷ drop 1 part) (sym read) in
    record {
      there = ap (λ (q : Queues). has_entry q.segments.window c.get-object.result.after) (sym c.self.view_is) ∙ entries-among r.nodes.list part c.get-object.result.after ∙ first-there c.get-object.result.after part first;
    }

pub returns-clause-first : goal.returns-clause-first
returns-clause-first c =
    let r = c.self.inside in
    let part : List ℕ = window_of r.objects (numbers_of r.nodes.list r.objects r.window r.probation r.protected) in
    let some : 0 < length part = is_some r.nodes.list part (subst (λ (q : Queues). 0 < length q.segments.window) (sym c.self.view_is) c.requires.some) in
    let read : c.get-object.result.after ≡ after r.nodes.list r.objects = ap (λ (n : Node). n.after) c.get-object.ensures in
    let first : part ≡ c.get-object.result.after ∷ drop 1 part = first_window r.nodes.list r.objects (numbers_of r.nodes.list r.objects r.window r.probation r.protected) c.self.invariant.kept.ring some ∙ ap (λ x. x ∷ drop 1 part) (sym read) in
    let one : entry_of c.get-object.result.after (entries_at r.nodes.list part) ≡ plain_entry c.get-object.result.after c.take_window-size.result ∷ [] =
    ap (λ (q : Queues). entry_of c.get-object.result.after q.segments.window) c.self.view_is ∙ c.take_window-size.ensures.size in
    let two = popped r.nodes.list c.get-object.result.after part c.take_window-size.result (apart-window r.nodes.list r.places.items r.objects r.window r.probation r.protected (numbers_of r.nodes.list r.objects r.window r.probation r.protected) c.self.invariant.kept) first one in
    let left : c.take_window-size.new.self.segments.window ≡ without_entry c.get-object.result.after (entries_at r.nodes.list part) =
    ap (λ (q : Queues). q.segments.window) c.take_window-size.ensures.rest ∙ ap (λ (q : Queues). without_entry c.get-object.result.after q.segments.window) (sym c.self.view_is) in
    ap (λ (q : Queues). q.segments.window) (sym c.self.view_is) ∙ two.0 ∙ ap (λ es. plain_entry c.get-object.result.after c.take_window-size.result ∷ es) (sym left)

pub returns-clause-rest : goal.returns-clause-rest
returns-clause-rest c =
    let r = c.self.inside in
    let part : List ℕ = window_of r.objects (numbers_of r.nodes.list r.objects r.window r.probation r.protected) in
    let some : 0 < length part = is_some r.nodes.list part (subst (λ (q : Queues). 0 < length q.segments.window) (sym c.self.view_is) c.requires.some) in
    let read : c.get-object.result.after ≡ after r.nodes.list r.objects = ap (λ (n : Node). n.after) c.get-object.ensures in
    let first : part ≡ c.get-object.result.after ∷ drop 1 part = first_window r.nodes.list r.objects (numbers_of r.nodes.list r.objects r.window r.probation r.protected) c.self.invariant.kept.ring some ∙ ap (λ x. x ∷ drop 1 part) (sym read) in
    let one : entry_of c.get-object.result.after (entries_at r.nodes.list part) ≡ plain_entry c.get-object.result.after c.take_window-size.result ∷ [] =
    ap (λ (q : Queues). entry_of c.get-object.result.after q.segments.window) c.self.view_is ∙ c.take_window-size.ensures.size in
    let two = popped r.nodes.list c.get-object.result.after part c.take_window-size.result (apart-window r.nodes.list r.places.items r.objects r.window r.probation r.protected (numbers_of r.nodes.list r.objects r.window r.probation r.protected) c.self.invariant.kept) first one in
    let left : c.take_window-size.new.self.segments.window ≡ without_entry c.get-object.result.after (entries_at r.nodes.list part) =
    ap (λ (q : Queues). q.segments.window) c.take_window-size.ensures.rest ∙ ap (λ (q : Queues). without_entry c.get-object.result.after q.segments.window) (sym c.self.view_is) in
    c.take_window-size.ensures.rest
    ∙ ap (λ es. with_window es c.args.self.now) (ap (λ (q : Queues). without_entry c.get-object.result.after q.segments.window) (sym c.self.view_is) ∙ two.1 ∙ ap (λ (q : Queues). drop 1 q.segments.window) c.self.view_is)

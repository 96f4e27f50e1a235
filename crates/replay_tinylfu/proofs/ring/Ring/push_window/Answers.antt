use Rattle.std.proofs.Common.{◌≡◌, ℕ, ◌+◌, ◌-◌, ◌<◌, ◌∙◌, sym, ap, subst, false, List, [], ◌∷◌, ◌++◌, length, set, eqb, arith}
use Rattle.std.proofs.lemmas.Bool.{ne_eqb}
use Rattle.policy_model.specs.States.{has_entry}
use Rattle.policy_model.specs.WTinyLfu.{segment_entries}
use Rattle.linked_nodes.specs.declared.nodes.Node.{Node}
use Rattle.linked_nodes.specs.Nodes.{IsThere}
use Rattle.replay_queues.proofs.RingLemmas.{before}
use Rattle.replay_queues.proofs.GhostAnswers.{enters-there}
use Rattle.replay_tinylfu.specs.Marks.{put_in}
use Rattle.replay_tinylfu.specs.Queues.{Queues, plain_entry, queues_at, with_window}
use Rattle.replay_tinylfu.specs.Loads.{numbers_of}
use Rattle.replay_tinylfu.proofs.LinkLemmas.{among-there, before-there}
use Rattle.replay_tinylfu.proofs.KeptLemmas.{few-numbers, numbers-are, kept-window, queues-window}
use Rattle.replay_tinylfu.proofs.HeldLemmas.{held-length, held-more}
use Rattle.replay_tinylfu.proofs.ring.Ring.push_window.Goals as goal

pub enter-requires : goal.enter-requires
enter-requires c =
    let r = c.self.inside in
    let low : c.args.object < r.objects = subst (λ (q : Queues). c.args.object < q.objects) (sym c.self.view_is) c.requires.known in
    let each : length r.nodes.list ≡ r.objects + 3 = c.self.invariant.kept.ring.each_node in
    record {
      known = omega arith;
      space = omega (
        arith,
        c.requires.space,
        held-length r.nodes r.places.items r.objects r.window r.probation r.protected c.self.invariant c.args.self.now c.self.view_is,
        ap (λ (q : Queues). q.room) c.self.view_is,
        c.self.invariant.counted,
      );
    }

pub put_before-requires : goal.put_before-requires
put_before-requires c =
    let r = c.self.inside in
    let low : c.args.object < r.objects = subst (λ (q : Queues). c.args.object < q.objects) (sym c.self.view_is) c.requires.known in
    let there : (k : ℕ) → IsThere r.nodes.list k → IsThere c.enter.new.self.list k = enters-there r.nodes.list c.enter.new.self.list c.args.object c.args.size c.enter.ensures.entered in
    let apart : eqb (r.objects + 1) c.args.object ≡ false = ne_eqb (r.objects + 1) c.args.object (λ same. absurd (omega (arith, same))) in
    let last : before c.enter.new.self.list (r.objects + 1) ≡ before r.nodes.list (r.objects + 1) = ap (λ (n : Node). n.before) (c.enter.ensures.entered.others_stay (r.objects + 1) apart) in
    record {
      object = c.enter.ensures.entered.there;
      next = there (r.objects + 1) (among-there r.nodes.list r.objects (numbers_of r.nodes.list r.objects r.window r.probation r.protected) c.self.invariant.kept.ring (r.objects + 1) c.self.invariant.kept.ring.second_mark);
      last = subst (IsThere c.enter.new.self.list) (sym last) (there (before r.nodes.list (r.objects + 1)) (before-there r.nodes.list r.objects (numbers_of r.nodes.list r.objects r.window r.probation r.protected) c.self.invariant.kept.ring (r.objects + 1) c.self.invariant.kept.ring.second_mark));
    }

pub overflow_add-self : goal.overflow_add-self
overflow_add-self c =
    let r = c.self.inside in
    let few : r.objects < 2147483649 = omega (arith, c.self.invariant.kept.ring.few) in
    omega (arith, few-numbers r.nodes.list r.places.items r.objects r.window r.probation r.protected (numbers_of r.nodes.list r.objects r.window r.probation r.protected) c.self.invariant.kept)

pub invariant_of-self : goal.invariant_of-self
invariant_of-self c =
    let r = c.self.inside in
    let low : c.args.object < r.objects = subst (λ (q : Queues). c.args.object < q.objects) (sym c.self.view_is) c.requires.known in
    let absent : has_entry (segment_entries (queues_at r.nodes.list r.objects (numbers_of r.nodes.list r.objects r.window r.probation r.protected)).segments) c.args.object ≡ false =
    ap (λ (q : Queues). has_entry (segment_entries q.segments) c.args.object) c.self.view_is ∙ c.requires.absent in
    held-more r.nodes r.places.items r.objects r.window r.probation r.protected c.self.invariant c.put_before.new.nodes (set r.places.items c.args.object 1) (record { entries = r.window.entries + 1; bytes = r.window.bytes + c.args.size }) r.probation r.protected
    (put_in (r.objects + 1) c.args.object (numbers_of r.nodes.list r.objects r.window r.probation r.protected))
    (kept-window r.nodes.list c.enter.new.self.list c.put_before.new.nodes.list r.places.items r.objects r.window r.probation r.protected (numbers_of r.nodes.list r.objects r.window r.probation r.protected) c.self.invariant.kept c.args.object c.args.size low absent c.enter.ensures.entered c.put_before.ensures.puts)
    (c.put_before.ensures.room ∙ c.enter.ensures.room) c.args.self.now c.self.view_is c.requires.space (omega (arith, c.put_before.ensures.count, c.enter.ensures.count)) (omega arith)

pub returns : goal.returns
returns c =
    let r = c.self.inside in
    let low : c.args.object < r.objects = subst (λ (q : Queues). c.args.object < q.objects) (sym c.self.view_is) c.requires.known in
    let absent : has_entry (segment_entries (queues_at r.nodes.list r.objects (numbers_of r.nodes.list r.objects r.window r.probation r.protected)).segments) c.args.object ≡ false =
    ap (λ (q : Queues). has_entry (segment_entries q.segments) c.args.object) c.self.view_is ∙ c.requires.absent in
    let new : List Node = c.put_before.new.nodes.list in
    ap (λ n. record (queues_at new r.objects (numbers_of new r.objects (record { entries = r.window.entries + 1; bytes = r.window.bytes + c.args.size }) r.probation r.protected)) { room = n - 3 }) (c.put_before.ensures.room ∙ c.enter.ensures.room)
    ∙ ap (λ (q : Queues). record q { room = r.nodes.room - 3 })
    (ap (queues_at new r.objects)
    (numbers-are _ _ _ _ _ _ _
    (kept-window r.nodes.list c.enter.new.self.list c.put_before.new.nodes.list r.places.items r.objects r.window r.probation r.protected (numbers_of r.nodes.list r.objects r.window r.probation r.protected) c.self.invariant.kept c.args.object c.args.size low absent c.enter.ensures.entered c.put_before.ensures.puts))
    ∙ queues-window r.nodes.list c.enter.new.self.list c.put_before.new.nodes.list r.places.items r.objects r.window r.probation r.protected (numbers_of r.nodes.list r.objects r.window r.probation r.protected) c.self.invariant.kept c.args.object c.args.size low absent c.enter.ensures.entered c.put_before.ensures.puts)
    ∙ ap (λ (q : Queues). with_window (q.segments.window ++ plain_entry c.args.object c.args.size ∷ []) q) c.self.view_is

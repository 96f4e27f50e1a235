use Rattle.std.proofs.Common.{◌≡◌, ℕ, ◌+◌, ◌-◌, ◌<◌, ◌∙◌, sym, ap, subst, true, List, [], ◌∷◌, length, set, arith}
use Rattle.policy_model.specs.States.{has_entry}
use Rattle.policy_model.specs.Steps.{without_entry}
use Rattle.policy_model.specs.WTinyLfu.{entry_of, segment_entries}
use Rattle.linked_nodes.specs.declared.nodes.Node.{Node}
use Rattle.replay_queues.specs.Rings.{is_among}
use Rattle.replay_queues.proofs.RingLemmas.{without}
use Rattle.replay_tinylfu.specs.Queues.{Queues, plain_entry, entries_at, probation_of, queues_at, with_probation}
use Rattle.replay_tinylfu.specs.Loads.{numbers_of, IsKept}
use Rattle.replay_tinylfu.proofs.LinkLemmas.{after-there, among-there, before-there}
use Rattle.replay_tinylfu.proofs.KeptLemmas.{apart-probation, entries-among, numbers-are}
use Rattle.replay_tinylfu.proofs.TakenLemmas.{low_probation, fits_probation, whole_probation, size_probation, kept_probation, queues_probation, nowhere_probation}
use Rattle.replay_tinylfu.proofs.HeldLemmas.{held-less, load-some, space-less}
use Rattle.replay_tinylfu.proofs.ring.Ring.take_probation.Goals as goal

is_there : (nodes : List Node) (part : List ℕ) (k : ℕ) → has_entry (entries_at nodes part) k ≡ true → is_among part k ≡ true
is_there nodes part k there = sym (entries-among nodes part k) ∙ there

pub take_out-size-requires : goal.take_out-size-requires
take_out-size-requires c =
    let r = c.self.inside in
    let there : is_among (probation_of r.objects (numbers_of r.nodes.list r.objects r.window r.probation r.protected)) c.args.object ≡ true =
    is_there r.nodes.list (probation_of r.objects (numbers_of r.nodes.list r.objects r.window r.probation r.protected)) c.args.object (ap (λ (q : Queues). has_entry q.segments.main.probation c.args.object) c.self.view_is ∙ c.requires.there) in
    let low : c.args.object < r.objects = low_probation r.nodes.list r.places.items r.objects r.window r.probation r.protected (numbers_of r.nodes.list r.objects r.window r.probation r.protected) c.self.invariant.kept c.args.object there in
    let each : length r.nodes.list ≡ r.objects + 3 = c.self.invariant.kept.ring.each_node in
    let whole : is_among (numbers_of r.nodes.list r.objects r.window r.probation r.protected) c.args.object ≡ true = whole_probation r.nodes.list r.places.items r.objects r.window r.probation r.protected (numbers_of r.nodes.list r.objects r.window r.probation r.protected) c.self.invariant.kept c.args.object there in
    record {
      known = omega arith;
      object = among-there r.nodes.list r.objects (numbers_of r.nodes.list r.objects r.window r.probation r.protected) c.self.invariant.kept.ring c.args.object whole;
      before = before-there r.nodes.list r.objects (numbers_of r.nodes.list r.objects r.window r.probation r.protected) c.self.invariant.kept.ring c.args.object whole;
      after = after-there r.nodes.list r.objects (numbers_of r.nodes.list r.objects r.window r.probation r.protected) c.self.invariant.kept.ring c.args.object whole;
    }

pub index_mut-requires : goal.index_mut-requires
index_mut-requires c =
    let r = c.self.inside in
    let there : is_among (probation_of r.objects (numbers_of r.nodes.list r.objects r.window r.probation r.protected)) c.args.object ≡ true =
    is_there r.nodes.list (probation_of r.objects (numbers_of r.nodes.list r.objects r.window r.probation r.protected)) c.args.object (ap (λ (q : Queues). has_entry q.segments.main.probation c.args.object) c.self.view_is ∙ c.requires.there) in
    let low : c.args.object < r.objects = low_probation r.nodes.list r.places.items r.objects r.window r.probation r.protected (numbers_of r.nodes.list r.objects r.window r.probation r.protected) c.self.invariant.kept c.args.object there in
    let each : length r.places.items ≡ r.objects = c.self.invariant.kept.each_object in
    omega (arith, r.places.ok.0)

pub overflow_sub-self : goal.overflow_sub-self
overflow_sub-self c =
    let r = c.self.inside in
    let there : is_among (probation_of r.objects (numbers_of r.nodes.list r.objects r.window r.probation r.protected)) c.args.object ≡ true =
    is_there r.nodes.list (probation_of r.objects (numbers_of r.nodes.list r.objects r.window r.probation r.protected)) c.args.object (ap (λ (q : Queues). has_entry q.segments.main.probation c.args.object) c.self.view_is ∙ c.requires.there) in
    let some : 0 < r.probation.entries = load-some r.nodes.list (probation_of r.objects (numbers_of r.nodes.list r.objects r.window r.probation r.protected)) r.probation c.args.object (apart-probation r.nodes.list r.places.items r.objects r.window r.probation r.protected (numbers_of r.nodes.list r.objects r.window r.probation r.protected) c.self.invariant.kept) there c.self.invariant.kept.probation_is in
    omega arith

pub overflow_sub-self-2 : goal.overflow_sub-self-2
overflow_sub-self-2 c =
    let r = c.self.inside in
    let there : is_among (probation_of r.objects (numbers_of r.nodes.list r.objects r.window r.probation r.protected)) c.args.object ≡ true =
    is_there r.nodes.list (probation_of r.objects (numbers_of r.nodes.list r.objects r.window r.probation r.protected)) c.args.object (ap (λ (q : Queues). has_entry q.segments.main.probation c.args.object) c.self.view_is ∙ c.requires.there) in
    omega (arith, fits_probation r.nodes.list r.places.items r.objects r.window r.probation r.protected (numbers_of r.nodes.list r.objects r.window r.probation r.protected) c.self.invariant.kept c.args.object there, c.take_out-size.ensures.size)

pub invariant_of-self : goal.invariant_of-self
invariant_of-self c =
    let r = c.self.inside in
    let there : is_among (probation_of r.objects (numbers_of r.nodes.list r.objects r.window r.probation r.protected)) c.args.object ≡ true =
    is_there r.nodes.list (probation_of r.objects (numbers_of r.nodes.list r.objects r.window r.probation r.protected)) c.args.object (ap (λ (q : Queues). has_entry q.segments.main.probation c.args.object) c.self.view_is ∙ c.requires.there) in
    let some : 0 < r.probation.entries = load-some r.nodes.list (probation_of r.objects (numbers_of r.nodes.list r.objects r.window r.probation r.protected)) r.probation c.args.object (apart-probation r.nodes.list r.places.items r.objects r.window r.probation r.protected (numbers_of r.nodes.list r.objects r.window r.probation r.protected) c.self.invariant.kept) there c.self.invariant.kept.probation_is in
    held-less r.nodes r.places.items r.objects r.window r.probation r.protected c.self.invariant c.take_out-size.new.nodes (set r.places.items c.args.object 0) r.window (record { entries = r.probation.entries - 1; bytes = r.probation.bytes - c.take_out-size.result }) r.protected (without c.args.object (numbers_of r.nodes.list r.objects r.window r.probation r.protected))
    (subst (λ (s : ℕ). IsKept c.take_out-size.new.nodes.list (set r.places.items c.args.object 0) r.objects r.window (record { entries = r.probation.entries - 1; bytes = r.probation.bytes - s }) r.protected (without c.args.object (numbers_of r.nodes.list r.objects r.window r.probation r.protected))) (sym c.take_out-size.ensures.size)
    (kept_probation r.nodes.list r.places.items r.objects r.window r.probation r.protected (numbers_of r.nodes.list r.objects r.window r.probation r.protected) c.self.invariant.kept c.args.object there c.take_out-size.new.nodes.list c.take_out-size.ensures.takes))
    c.take_out-size.ensures.room c.take_out-size.ensures.count (omega arith)

pub returns-clause-rest : goal.returns-clause-rest
returns-clause-rest c =
    let r = c.self.inside in
    let there : is_among (probation_of r.objects (numbers_of r.nodes.list r.objects r.window r.probation r.protected)) c.args.object ≡ true =
    is_there r.nodes.list (probation_of r.objects (numbers_of r.nodes.list r.objects r.window r.probation r.protected)) c.args.object (ap (λ (q : Queues). has_entry q.segments.main.probation c.args.object) c.self.view_is ∙ c.requires.there) in
    let new : List Node = c.take_out-size.new.nodes.list in
    ap (λ n. record (queues_at new r.objects (numbers_of new r.objects r.window (record { entries = r.probation.entries - 1; bytes = r.probation.bytes - c.take_out-size.result }) r.protected)) { room = n - 3 }) c.take_out-size.ensures.room
    ∙ ap (λ (q : Queues). record q { room = r.nodes.room - 3 })
    (ap (queues_at new r.objects)
    (numbers-are _ _ _ _ _ _ _
    (subst (λ (s : ℕ). IsKept c.take_out-size.new.nodes.list (set r.places.items c.args.object 0) r.objects r.window (record { entries = r.probation.entries - 1; bytes = r.probation.bytes - s }) r.protected (without c.args.object (numbers_of r.nodes.list r.objects r.window r.probation r.protected))) (sym c.take_out-size.ensures.size)
    (kept_probation r.nodes.list r.places.items r.objects r.window r.probation r.protected (numbers_of r.nodes.list r.objects r.window r.probation r.protected) c.self.invariant.kept c.args.object there c.take_out-size.new.nodes.list c.take_out-size.ensures.takes)))
    ∙ queues_probation r.nodes.list r.places.items r.objects r.window r.probation r.protected (numbers_of r.nodes.list r.objects r.window r.probation r.protected) c.self.invariant.kept c.args.object there new c.take_out-size.ensures.takes)
    ∙ ap (λ (q : Queues). with_probation (without_entry c.args.object q.segments.main.probation) q) c.self.view_is

pub returns-clause-size : goal.returns-clause-size
returns-clause-size c =
    let r = c.self.inside in
    let there : is_among (probation_of r.objects (numbers_of r.nodes.list r.objects r.window r.probation r.protected)) c.args.object ≡ true =
    is_there r.nodes.list (probation_of r.objects (numbers_of r.nodes.list r.objects r.window r.probation r.protected)) c.args.object (ap (λ (q : Queues). has_entry q.segments.main.probation c.args.object) c.self.view_is ∙ c.requires.there) in
    ap (λ (q : Queues). entry_of c.args.object q.segments.main.probation) (sym c.self.view_is) ∙ size_probation r.nodes.list r.places.items r.objects r.window r.probation r.protected (numbers_of r.nodes.list r.objects r.window r.probation r.protected) c.self.invariant.kept c.args.object there
    ∙ ap (λ (s : ℕ). plain_entry c.args.object s ∷ []) (sym c.take_out-size.ensures.size)

pub returns-clause-absent : goal.returns-clause-absent
returns-clause-absent c =
    let r = c.self.inside in
    let there : is_among (probation_of r.objects (numbers_of r.nodes.list r.objects r.window r.probation r.protected)) c.args.object ≡ true =
    is_there r.nodes.list (probation_of r.objects (numbers_of r.nodes.list r.objects r.window r.probation r.protected)) c.args.object (ap (λ (q : Queues). has_entry q.segments.main.probation c.args.object) c.self.view_is ∙ c.requires.there) in
    ap (λ (q : Queues). has_entry (segment_entries q.segments) c.args.object)
    (ap (queues_at c.take_out-size.new.nodes.list r.objects)
    (numbers-are _ _ _ _ _ _ _
    (subst (λ (s : ℕ). IsKept c.take_out-size.new.nodes.list (set r.places.items c.args.object 0) r.objects r.window (record { entries = r.probation.entries - 1; bytes = r.probation.bytes - s }) r.protected (without c.args.object (numbers_of r.nodes.list r.objects r.window r.probation r.protected))) (sym c.take_out-size.ensures.size)
    (kept_probation r.nodes.list r.places.items r.objects r.window r.probation r.protected (numbers_of r.nodes.list r.objects r.window r.probation r.protected) c.self.invariant.kept c.args.object there c.take_out-size.new.nodes.list c.take_out-size.ensures.takes))))
    ∙ nowhere_probation r.nodes.list r.places.items r.objects r.window r.probation r.protected (numbers_of r.nodes.list r.objects r.window r.probation r.protected) c.self.invariant.kept c.args.object there c.take_out-size.new.nodes.list c.take_out-size.ensures.takes

pub returns-clause-known : goal.returns-clause-known
returns-clause-known c =
    let r = c.self.inside in
    let there : is_among (probation_of r.objects (numbers_of r.nodes.list r.objects r.window r.probation r.protected)) c.args.object ≡ true =
    is_there r.nodes.list (probation_of r.objects (numbers_of r.nodes.list r.objects r.window r.probation r.protected)) c.args.object (ap (λ (q : Queues). has_entry q.segments.main.probation c.args.object) c.self.view_is ∙ c.requires.there) in
    subst (λ (q : Queues). c.args.object < q.objects) c.self.view_is (low_probation r.nodes.list r.places.items r.objects r.window r.probation r.protected (numbers_of r.nodes.list r.objects r.window r.probation r.protected) c.self.invariant.kept c.args.object there)

pub returns-clause-space : goal.returns-clause-space
returns-clause-space c =
    let r = c.self.inside in
    let there : is_among (probation_of r.objects (numbers_of r.nodes.list r.objects r.window r.probation r.protected)) c.args.object ≡ true =
    is_there r.nodes.list (probation_of r.objects (numbers_of r.nodes.list r.objects r.window r.probation r.protected)) c.args.object (ap (λ (q : Queues). has_entry q.segments.main.probation c.args.object) c.self.view_is ∙ c.requires.there) in
    let some : 0 < r.probation.entries = load-some r.nodes.list (probation_of r.objects (numbers_of r.nodes.list r.objects r.window r.probation r.protected)) r.probation c.args.object (apart-probation r.nodes.list r.places.items r.objects r.window r.probation r.protected (numbers_of r.nodes.list r.objects r.window r.probation r.protected) c.self.invariant.kept) there c.self.invariant.kept.probation_is in
    space-less r.nodes r.places.items r.objects r.window r.probation r.protected c.self.invariant c.take_out-size.new.nodes (set r.places.items c.args.object 0) r.window (record { entries = r.probation.entries - 1; bytes = r.probation.bytes - c.take_out-size.result }) r.protected (without c.args.object (numbers_of r.nodes.list r.objects r.window r.probation r.protected))
    (subst (λ (s : ℕ). IsKept c.take_out-size.new.nodes.list (set r.places.items c.args.object 0) r.objects r.window (record { entries = r.probation.entries - 1; bytes = r.probation.bytes - s }) r.protected (without c.args.object (numbers_of r.nodes.list r.objects r.window r.probation r.protected))) (sym c.take_out-size.ensures.size)
    (kept_probation r.nodes.list r.places.items r.objects r.window r.probation r.protected (numbers_of r.nodes.list r.objects r.window r.probation r.protected) c.self.invariant.kept c.args.object there c.take_out-size.new.nodes.list c.take_out-size.ensures.takes))
    c.take_out-size.ensures.room (omega arith)

use Rattle.std.proofs.Common.{◌≡◌, ◌<◌, ◌≤◌, ⊎_elim, ◌∙◌, sym, ap, subst, eqb, length, get_or, arith}
use Rattle.std.proofs.lemmas.Bool.{cases_lt}
use Rattle.std.proofs.lemmas.List.{get_or_past}
use Rattle.policy_model.specs.States.{has_entry}
use Rattle.replay_tinylfu.specs.Queues.{Queues, window_of, probation_of, protected_of}
use Rattle.replay_tinylfu.specs.Loads.{numbers_of}
use Rattle.replay_tinylfu.proofs.KeptLemmas.{entries-among}
use Rattle.replay_tinylfu.proofs.ring.Ring.place.Goals as goal

pub returns-clause-window : goal.returns-clause-window
returns-clause-window c =
    let r = c.self.inside in
    ap (λ n. eqb n 1) c.place_at.ensures ∙ c.self.invariant.kept.places_are.in_window c.args.object ∙ sym (entries-among r.nodes.list (window_of r.objects (numbers_of r.nodes.list r.objects r.window r.probation r.protected)) c.args.object)
    ∙ ap (λ (q : Queues). has_entry q.segments.window c.args.object) c.self.view_is

pub returns-clause-probation : goal.returns-clause-probation
returns-clause-probation c =
    let r = c.self.inside in
    ap (λ n. eqb n 2) c.place_at.ensures ∙ c.self.invariant.kept.places_are.on_probation c.args.object ∙ sym (entries-among r.nodes.list (probation_of r.objects (numbers_of r.nodes.list r.objects r.window r.probation r.protected)) c.args.object)
    ∙ ap (λ (q : Queues). has_entry q.segments.main.probation c.args.object) c.self.view_is

pub returns-clause-protected : goal.returns-clause-protected
returns-clause-protected c =
    let r = c.self.inside in
    ap (λ n. eqb n 3) c.place_at.ensures ∙ c.self.invariant.kept.places_are.is_protected c.args.object ∙ sym (entries-among r.nodes.list (protected_of r.objects (numbers_of r.nodes.list r.objects r.window r.probation r.protected)) c.args.object)
    ∙ ap (λ (q : Queues). has_entry q.segments.main.protected c.args.object) c.self.view_is

pub returns-clause-known : goal.returns-clause-known
returns-clause-known c some =
    let r = c.self.inside in
    let each : length r.places.items ≡ r.objects = c.self.invariant.kept.each_object in
    ⊎_elim (λ (low : c.args.object < r.objects). subst (λ (q : Queues). c.args.object < q.objects) c.self.view_is low)
    (λ (high : r.objects ≤ c.args.object).
    let none : get_or r.places.items c.args.object 0 ≡ 0 = get_or_past r.places.items c.args.object 0 (omega arith) in
    absurd (omega (arith, none, c.place_at.ensures)))
    (cases_lt c.args.object r.objects)

use Rattle.std.proofs.Common.{ap, ◌≡◌, arith, position, slice_get, Some, subst}
use Rattle.std.proofs.lemmas.Grind.{common_steps}
use Rattle.std.specs.HashMap.{keys}
use Rattle.cache_model.specs.Objects.{objects_of}
use Rattle.cache_model.specs.Claim.{same_object, request_at}
use Rattle.cache_rules.specs.Stored.{Requests, trace_of}
use Rattle.cache_rules.proofs.Numbers.{number_position, number_object}
use Rattle.cache_rules.proofs.trace.Trace.request.Goals as goal

pub returns-clause-number : goal.returns-clause-number
returns-clause-number c =
    let inside = c.self.inside in
    subst (λ ts. position (same_object (request_at ts c.args.t)) (objects_of ts) ≡ Some c.index.result.now) (ap (λ (r : Requests). r.objects) c.self.view_is)
    (number_position (trace_of (keys inside.latest) inside.numbers.items) inside.latest.entries inside.numbers.items inside.previous.items inside.following.items c.self.invariant
    c.args.t (rw (ap (λ (r : Requests). r.objects) c.self.view_is) c.requires.within) c.index.result.now (grind (arith, common_steps)))

pub returns-clause-object : goal.returns-clause-object
returns-clause-object c =
    let inside = c.self.inside in
    subst (λ ts. slice_get (objects_of ts) c.index.result.now ≡ Some (request_at ts c.args.t)) (ap (λ (r : Requests). r.objects) c.self.view_is)
    (number_object (trace_of (keys inside.latest) inside.numbers.items) inside.latest.entries inside.numbers.items inside.previous.items inside.following.items c.self.invariant
    c.args.t (rw (ap (λ (r : Requests). r.objects) c.self.view_is) c.requires.within) c.index.result.now (grind (arith, common_steps)))

use Rattle.std.proofs.Common.{◌≡◌, ◌≢◌, ◌∙◌, sym, ap, subst, IfSome, IfOk, List, unwrap_or}
use Rattle.std.proofs.lemmas.Option.{get_or_from_slice_get}
use Rattle.std.proofs.lemmas.Result.{IfOk-weaker, on_ok_weaker}
use Rattle.cache_model.specs.declared.objects.Object.{Object}
use Rattle.cache_model.specs.Claim.{no_object, request_at}
use Rattle.cache_model.specs.Objects.{objects_of}
use Rattle.policy_model.specs.Asks.{number_of}
use Rattle.policy_model.proofs.Numbers.{number_of-found}
use Rattle.replay_fresh.specs.Latest.{IsRequestOf, IsVersion}
use Rattle.replay_fresh.proofs.Versions.{own_version}
use Rattle.replay_fresh.proofs.replacing.replaced.Goals as goal

-- the object of the request, under its number
version : (c : goal.After-replaced_by) → IsVersion c.args.trace.now.objects (request_at c.args.trace.now.objects c.args.t) (request_at c.args.trace.now.objects c.args.t) c.request-number.result
version c =
    let trace : List Object = c.args.trace.now.objects in
    own_version trace (request_at trace c.args.t) c.request-number.result c.request-number.ensures.number
    (get_or_from_slice_get (objects_of trace) c.request-number.result (request_at trace c.args.t) no_object c.request-number.ensures.object) c.request-number.ensures.known

asked : (c : goal.After-replaced_by) → IsRequestOf c.args.trace.now.objects c.args.t c.object.result c.request-number.result
asked c =
    let trace : List Object = c.args.trace.now.objects in
    let is : request_at trace c.args.t ≡ c.object.result = sym (ap (λ o. unwrap_or o no_object) (sym c.object.ensures.object ∙ c.request-number.ensures.object)) in
    record {
      within = c.requires.within;
      asked = is;
      version = subst (λ x. IsVersion trace x x c.request-number.result) is (version c);
    }

pub returns-clause-latest : goal.returns-clause-latest
returns-clause-latest c = on_ok_weaker c.replaced_by.result (λ all. all c.args.trace.now.objects c.args.t (asked c) c.requires.latest) c.replaced_by.ensures.latest

pub returns-clause-replaced : goal.returns-clause-replaced
returns-clause-replaced c = IfOk-weaker c.replaced_by.result _ _ (λ r all. all c.args.trace.now.objects c.args.t (asked c) c.requires.latest) c.replaced_by.ensures.replaced

pub returns-clause-known : goal.returns-clause-known
returns-clause-known c = IfOk-weaker c.replaced_by.result _ _ (λ r all. all c.args.trace.now.objects c.args.t (asked c) c.requires.latest) c.replaced_by.ensures.known

pub returns-clause-other : goal.returns-clause-other
returns-clause-other c =
    let trace : List Object = c.args.trace.now.objects in
    let found : number_of trace (request_at trace c.args.t) ≡ c.request-number.result = number_of-found trace (request_at trace c.args.t) c.request-number.result (version c).found in
    subst (λ n. IfOk c.replaced_by.result (λ r. IfSome r (λ k. k ≢ n))) (sym found) c.replaced_by.ensures.other

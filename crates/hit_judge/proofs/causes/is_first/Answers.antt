use Rattle.std.proofs.Common.{◌≡◌, ◌∙◌, ℕ, ◌<◌, Bool, true, false, not, refl, sym, arith, List, length, Option, None, Some}
use Rattle.std.specs.Option.{is_some, MatchOption}
use Rattle.std.proofs.lemmas.Bool.{both_ways}
use Rattle.cache_model.specs.declared.objects.Object.{Object}
use Rattle.cache_model.specs.Claim.{request_at}
use Rattle.cache_model.specs.Objects.{IsFirst, IsNext, is_first}
use Rattle.cache_model.proofs.DifferentObjects.{is_first-no, is_first-yes}
use Rattle.cache_model.proofs.Pairs.{same_object-sym}
use Rattle.hit_judge.proofs.causes.is_first.Goals as goal

-- a request is the first of its object exactly if it has none before it
none-is_first : (trace : List Object) (t : ℕ) → t < length trace → (prev : Option ℕ) (none : Bool)
    → MatchOption prev (IsFirst trace t) (λ a. IsNext trace a t) → is_some prev ≡ not none → none ≡ is_first trace t
none-is_first trace t within None true first is = sym (is_first-yes trace t (omega arith) first)
none-is_first trace t within None false first is = absurd (both_ways true (sym is) refl)
none-is_first trace t within (Some a) true next is = absurd (both_ways true is refl)
none-is_first trace t within (Some a) false next is =
    sym (is_first-no trace t a next.before (omega arith) (same_object-sym (request_at trace t) (request_at trace a) ∙ next.same))

pub returns : goal.returns
returns c = none-is_first c.args.trace.now.objects c.args.t (omega arith) c.prev.result c.is_none.result c.prev.ensures.nearest c.is_none.ensures

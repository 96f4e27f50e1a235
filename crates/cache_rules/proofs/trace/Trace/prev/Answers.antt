use Rattle.std.proofs.Common.{ap, ◌≡◌, ◌∙◌, ◌<◌, ℕ, List, None, Some, sym, subst, length, arith}
use Rattle.std.specs.Prelude.{slice_index, MatchOption}
use Rattle.std.specs.HashMap.{keys}
use Rattle.std.specs.declared.option.Option.{Option}
use Rattle.std.proofs.lemmas.List.{get_or_default}
use Rattle.cache_model.specs.declared.objects.Object.{Object}
use Rattle.cache_model.specs.Objects.{IsFirst, IsNext}
use Rattle.cache_rules.specs.Stored.{Requests, no_request, trace_of, IsPrevious}
use Rattle.cache_rules.proofs.trace.Trace.prev.Goals as goal

-- what the stored number names is the nearest earlier request
named : (trace : List Object) (t stored : ℕ) (found : Option ℕ) → IsPrevious trace t stored
    → MatchOption found (stored ≡ no_request) (λ a. (stored ≡ a) × (a < no_request)) → MatchOption found (IsFirst trace t) (λ a. IsNext trace a t)
named trace t stored None is tells = is.none tells
named trace t stored (Some a) is tells = subst (λ n. IsNext trace n t) tells.0 (is.some (omega (arith, tells.0, tells.1)))

pub returns : goal.returns
returns c =
    let inside = c.self.inside in
    let trace = trace_of (keys inside.latest) inside.numbers.items in
    let within : c.args.t < length trace = rw (ap (λ (r : Requests). r.objects) c.self.view_is) c.requires.within in
    let stored : slice_index inside.previous.items c.args.t ≡ c.index.result.now =
    get_or_default inside.previous.items c.args.t 0 c.index.result.now (omega (arith, within, c.self.invariant.previous_length)) ∙ sym c.index.ensures in
    record {
      nearest = named c.args.self.now.objects c.args.t c.index.result.now c.named_request.result
          (subst (λ ts. IsPrevious ts c.args.t c.index.result.now) (ap (λ (r : Requests). r.objects) c.self.view_is) (subst (IsPrevious trace c.args.t) stored (c.self.invariant.previous_is c.args.t within)))
          c.named_request.ensures;
    }

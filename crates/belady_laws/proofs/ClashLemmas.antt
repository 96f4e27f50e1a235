-- Sizes by number, and the objects of a trace.
use Rattle.std.proofs.Common.{◌≡◌, ℕ, ◌<◌, ◌≤◌, ◌∙◌, sym, ap, List, length, arith, Contains}
use Rattle.std.proofs.lemmas.List.{get_or_default}
use Rattle.cache_model.specs.declared.objects.Object.{Object}
use Rattle.cache_model.specs.Objects.{objects_of}
use Rattle.cache_model.specs.Claim.{no_object, request_at}
use Rattle.policy_model.specs.Asks.{number_of}
use Rattle.policy_laws.specs.Laws.{HaveOneSize}
use Rattle.policy_laws.proofs.Asked.{number_of-object}
use Rattle.belady_laws.specs.Clashes.{size_at}

-- the object of a request has a number, at which its size stands
numbered : (trace : List Object) (x : Object) → Contains trace x → (n : ℕ) × (n < length (objects_of trace)) × (size_at trace n ≡ x.size)
numbered trace x c =
    let here : request_at trace c.0 ≡ x = get_or_default trace c.0 no_object x c.1 ∙ c.2 in
    let known = number_of-object trace c.0 c.1 in
    (number_of trace (request_at trace c.0), known.0, ap (λ (y : Object). y.size) (known.1 ∙ here))

pub none_within : (trace : List Object) (capacity : ℕ) → ((n : ℕ) → n < length (objects_of trace) → capacity < size_at trace n) → HaveOneSize capacity trace
none_within trace capacity large x y c_x c_y small_x small_y =
    let at = numbered trace x c_x in
    absurd (omega (arith, large at.0 at.1, at.2))

pub all_alike : (trace : List Object) (capacity size : ℕ) → ((n : ℕ) → n < length (objects_of trace) → size_at trace n ≤ capacity → size_at trace n ≡ size) → HaveOneSize capacity trace
all_alike trace capacity size alike x y c_x c_y small_x small_y =
    let at_x = numbered trace x c_x in
    let at_y = numbered trace y c_y in
    let size_x : size_at trace at_x.0 ≡ x.size = at_x.2 in
    let size_y : size_at trace at_y.0 ≡ y.size = at_y.2 in
    sym size_x ∙ alike at_x.0 at_x.1 (omega arith) ∙ sym (alike at_y.0 at_y.1 (omega arith)) ∙ size_y

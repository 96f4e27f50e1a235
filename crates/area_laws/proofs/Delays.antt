-- A longer delay allows more contents.
use Rattle.std.proofs.Common.{◌≡◌, ℕ, ◌+◌, ◌≤◌, ◌∙◌, ap, List, arith, Some, slice_get}
use Rattle.std.proofs.Math.Logic.{⊎_map}
use Rattle.cache_model.specs.declared.objects.Object.{Object}
use Rattle.area_laws.specs.Late.{IsAskedLately}
use Rattle.area_laws.specs.Laws.{DelaysAllowMore}

-- what may enter without a delay is what is asked for
asked_now : (trace : List Object) (t : ℕ) (x : Object) → IsAskedLately 0 trace t x → slice_get trace t ≡ Some x
asked_now trace t x lately =
    let early : lately.asked ≤ t = lately.by_then in
    let late : t ≤ lately.asked + 0 = lately.lately in
    let here : t ≡ lately.asked = omega arith in
    ap (λ k. slice_get trace k) here ∙ lately.same

-- and may enter with any
asked_lately : (delay : ℕ) (trace : List Object) (t : ℕ) (x : Object)
    → slice_get trace t ≡ Some x → IsAskedLately delay trace t x
asked_lately delay trace t x e = record { asked = t; by_then = omega arith; lately = omega arith; same = e }

-- or with a longer one
asked_longer : (delay longer : ℕ) (trace : List Object) (t : ℕ) (x : Object) → delay ≤ longer
    → IsAskedLately delay trace t x → IsAskedLately longer trace t x
asked_longer delay longer trace t x more lately =
    let late : t ≤ lately.asked + delay = lately.lately in
    record { asked = lately.asked; by_then = lately.by_then; lately = omega arith; same = lately.same }

pub delays_allow_more : DelaysAllowMore
delays_allow_more capacity trace contents = record {
  with_any = λ delay allowed. record {
    one_more_than_requests = allowed.one_more_than_requests;
    empty_at_first = allowed.empty_at_first;
    only_lately_asked_enter = λ t within x m.
        ⊎_map (λ held. held) (asked_lately delay trace t x) (allowed.only_requests_enter t within x m);
    within_capacity = allowed.within_capacity;
    without_repeats = allowed.without_repeats;
  };
  with_none = λ allowed. record {
    one_more_than_requests = allowed.one_more_than_requests;
    empty_at_first = allowed.empty_at_first;
    only_requests_enter = λ t within x m.
        ⊎_map (λ held. held) (asked_now trace t x) (allowed.only_lately_asked_enter t within x m);
    within_capacity = allowed.within_capacity;
    without_repeats = allowed.without_repeats;
  };
  with_longer = λ delay longer more allowed. record {
    one_more_than_requests = allowed.one_more_than_requests;
    empty_at_first = allowed.empty_at_first;
    only_lately_asked_enter = λ t within x m.
        ⊎_map (λ held. held) (asked_longer delay longer trace t x more) (allowed.only_lately_asked_enter t within x m);
    within_capacity = allowed.within_capacity;
    without_repeats = allowed.without_repeats;
  };
}

-- The eligible interval that starts at a request, by the next request of its object.
use Rattle.std.proofs.Common.{◌≡◌, ◌∙◌, ℕ, ◌<◌, ◌≤◌, ◌^◌, ap, sym, subst, List, [], ◌∷◌, true, false, length, Some, slice_get, lit≤}
use Rattle.cache_model.specs.declared.objects.Object.{Object}
use Rattle.cache_model.specs.declared.objects.Objective.{Objective}
use Rattle.cache_model.specs.declared.intervals.Interval.{Interval}
use Rattle.cache_model.specs.declared.objects.Objective.TheVariants.{Object as Hits, Bytes}
use Rattle.cache_model.specs.Claim.{Terms, counts, gain_of, request_at}
use Rattle.cache_model.specs.Objects.{objects_of, IsNext, IsLast}
use Rattle.cache_model.specs.Intervals.{eligible_from}
use Rattle.cache_model.proofs.Duality.{same_object-true}
use Rattle.interval_maker.specs.Timelines.{IsInterval}
use Rattle.cache_model.proofs.Eligible.{eligible_from_one, eligible_from_uncounted, eligible_from_last, eligible_from_too_large}

-- one number names one object
pub object_named : (trace : List Object) (number t : ℕ) (x : Object) → slice_get (objects_of trace) number ≡ Some (request_at trace t) → slice_get (objects_of trace) number ≡ Some x → request_at trace t ≡ x
object_named trace number t x asked found = cc

pub too_large : (terms : Terms) (trace : List Object) (t : ℕ) (x : Object) → request_at trace t ≡ x → terms.capacity < x.size → eligible_from terms trace t ≡ []
too_large terms trace t x is over = eligible_from_too_large terms trace t (rw is over)

pub no_next : (terms : Terms) (trace : List Object) (t : ℕ) → IsLast trace t → eligible_from terms trace t ≡ []
no_next terms trace t last = eligible_from_last terms trace t last

pub uncounted : (terms : Terms) (trace : List Object) (t end : ℕ) → IsNext trace t end → counts terms end ≡ false → eligible_from terms trace t ≡ []
uncounted terms trace t end next none = eligible_from_uncounted terms trace t end next none

-- the gain at the end is that of the object at the start
pub with_next : (terms : Terms) (trace : List Object) (t end : ℕ) (x : Object) (gain : ℕ)
    → request_at trace t ≡ x → x.size ≤ terms.capacity → IsNext trace t end → counts terms end ≡ true → gain ≡ gain_of terms.objective x
    → eligible_from terms trace t ≡ (record { start = t; end = end; size = x.size; gain = gain }) ∷ []
with_next terms trace t end x gain is fits next counted gained =
    let same : request_at trace t ≡ request_at trace end = same_object-true (request_at trace t) (request_at trace end) next.same in
    let earned : gain_of terms.objective (request_at trace end) ≡ gain = ap (gain_of terms.objective) (sym same ∙ is) ∙ sym gained in
    let size : (request_at trace t).size ≡ x.size = ap (λ (y : Object). y.size) is in
    let with_parts : ℕ → ℕ → List Interval = λ s g. record { start = t; end = end; size = s; gain = g } ∷ [] in
    eligible_from_one terms trace t end next (rw size fits) counted
    ∙ ap (λ g. with_parts (request_at trace t).size g) earned
    ∙ ap (λ s. with_parts s gain) size

-- it is over the steps of the trace, with a size and a gain of an object
pub next_is_interval : (o : Objective) (trace : List Object) (t end : ℕ) (x : Object) (gain : ℕ) → (1 ≤ x.size) × (x.size ≤ 2 ^ 48) → IsNext trace t end → gain ≡ gain_of o x
    → IsInterval (length trace) (record { start = t; end = end; size = x.size; gain = gain })
next_is_interval o trace t end x gain size next gained =
    record { order = next.before; within = next.within; size = size; gain = subst (λ g. (1 ≤ g) × (g ≤ 2 ^ 48)) (sym gained) (gain_range o x size) }
  where
    gain_range : (o : Objective) (x : Object) → (1 ≤ x.size) × (x.size ≤ 2 ^ 48) → (1 ≤ gain_of o x) × (gain_of o x ≤ 2 ^ 48)
    gain_range Hits x size = (lit≤ tt, lit≤ tt)
    gain_range Bytes x size = size

-- The times that a reader has noted.
use Rattle.std.proofs.Common.{◌≡◌, ◌∙◌, ℕ, Bool, true, refl, ap, subst, List, [], ◌∷◌, ◌++◌, Option, Some, None, IfSome}
use Rattle.cache_model.specs.declared.objects.Object.{Object}
use Rattle.freshness.specs.declared.fresh.Freshness.{Freshness}
use Rattle.freshness.specs.Stale.{can_end}
use Rattle.freshness.specs.Seen.{Seen, with_seen}
use Rattle.trace_any.specs.declared.format.Format.{Format}
use Rattle.trace_any.specs.Readings.{full_limits}
use Rattle.trace_any.specs.Readers.{fresh, known, to_come}
use Rattle.trace_any.proofs.Coming.{fresh_to_come}
use Rattle.trace_times.specs.Times.{AreTimes}

-- a request has its time behind those before it, if some can be stale
pub adds_time : (f : Freshness) (seen : Seen) (x : Object) (time : ℕ) (own : Bool) → can_end f ≡ true → (with_seen f seen x time own).times ≡ seen.times ++ time ∷ []
adds_time f seen x time own ends = rw ends refl

-- those that a reader knows at the end, of which nothing was asked before, are those of all that its source had left
pub all_times : (format : Format) (left : Option (List ℕ)) (seen : Seen) (times : List ℕ)
    → IfSome (known (fresh format full_limits) left) (λ bytes. (to_come (fresh format full_limits) bytes).seen ≡ seen)
    → times ≡ seen.times → AreTimes format left times
all_times format None seen times all is = tt
all_times format (Some bytes) seen times all is = rw (is) (ap (λ (s : Seen). s.times) (rw (fresh_to_come) at all))

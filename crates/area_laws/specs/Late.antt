-- Contents that objects may enter late: some requests after they were asked for, as soon as they are fetched.
use Rattle.std.specs.Prelude.{◌≡◌, ◌≢◌, ℕ, ◌+◌, ◌<◌, ◌≤◌, ◌⊎◌, List, [], length, slice_get, Some, All, AllPairs, Contains}
use Rattle.cache_model.specs.declared.objects.Object.{Object}
use Rattle.cache_model.specs.Claim.{total_size, before_request}

-- x is asked for at request t, or at one of the `delay` requests before it
pub record IsAskedLately (delay : ℕ) (trace : List Object) (t : ℕ) (x : Object) : Type 0 where
  pub asked : ℕ
  pub by_then : asked ≤ t
  pub lately : t ≤ asked + delay
  pub same : slice_get trace asked ≡ Some x

-- the rules allow these contents with a delay: nothing comes in but what is asked for lately, and all fits the capacity
pub record IsAllowedLate (delay capacity : ℕ) (trace : List Object) (contents : List (List Object)) : Type 0 where
  pub one_more_than_requests : length contents ≡ length trace + 1
  pub empty_at_first : before_request contents 0 ≡ []
  pub only_lately_asked_enter : (t : ℕ) → t < length trace → (x : Object) → Contains (before_request contents (t + 1)) x
      → Contains (before_request contents t) x ⊎ IsAskedLately delay trace t x
  pub within_capacity : All (λ held. total_size held ≤ capacity) contents
  pub without_repeats : All (AllPairs (λ x y. x ≢ y)) contents

-- The load of the contents that keeps stand for, one truth value for each request.
use Rattle.std.specs.Prelude.{◌≡◌, ℕ, ◌+◌, ◌<◌, ◌≤◌, Bool, if◌then◌else◌, List, length, sum_by}
use Rattle.std.specs.List.{range_with_len}
use Rattle.cache_model.specs.declared.objects.Object.{Object}
use Rattle.cache_model.specs.Claim.{total_size, is_latest, held_before}

-- the amounts of the latest request before t of each object, summed
abbrev pub latest_sum : List Object → (ℕ → ℕ) → ℕ → ℕ
latest_sum trace amount t = sum_by (λ a. if is_latest trace t a then amount a else 0) (range_with_len 0 t)

-- the size of the contents after request t
abbrev pub load_after : List Object → List Bool → ℕ → ℕ
load_after trace keeps t = total_size (held_before trace keeps (t + 1))

-- the load of the step is the first that passes the capacity
pub record IsFirstOverfull (capacity : ℕ) (trace : List Object) (keeps : List Bool) (step load : ℕ) : Type 0 where
  pub within : step < length trace
  pub load_is : load ≡ load_after trace keeps step
  pub over : capacity < load
  pub earlier : (t : ℕ) → t < step → load_after trace keeps t ≤ capacity

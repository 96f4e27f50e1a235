-- Requests that are counted as they pass.
use Rattle.std.specs.Prelude.{ℕ, ◌+◌, Bool, if◌then◌else◌}

-- one more, if it is so
abbrev pub more : ℕ → Bool → ℕ
more count so = count + (if so then 1 else 0)

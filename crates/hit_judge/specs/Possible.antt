-- Which flags are possible if some requests are stale.
use Rattle.std.specs.Prelude.{◌≡◌, ℕ, ◌<◌, Bool, false, IsTrue, List, length, slice_index_or}
use Rattle.cache_model.specs.declared.objects.Object.{Object}
use Rattle.judge_laws.specs.Flags.{is_flagged, IsPossible}

-- whether request t is stale; past the end of the list none is
abbrev pub is_stale : List Bool → ℕ → Bool
is_stale stale t = slice_index_or stale t false

-- the flags are possible, and no stale request is flagged
pub record IsPossibleFresh (capacity : ℕ) (trace : List Object) (stale flags : List Bool) : Type 0 where
  pub possible : IsPossible capacity trace flags
  pub fresh : (t : ℕ) → t < length trace → IsTrue (is_flagged flags t) → is_stale stale t ≡ false

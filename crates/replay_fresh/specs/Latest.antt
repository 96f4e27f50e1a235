-- What is kept of the requests so far: the number of the last object of each volume and id.
use Rattle.std.specs.Prelude.{◌≡◌, ℕ, ◌<◌, ◌==◌, if◌then◌else◌, IsTrue, List, length, take, position, None, Some}
use Rattle.std.specs.declared.option.Option.{Option}
use Rattle.std.specs.Map.{lookup}
use Rattle.cache_model.specs.declared.objects.Object.{Object}
use Rattle.cache_model.specs.Claim.{request_at, same_object}
use Rattle.cache_model.specs.Objects.{objects_of}
use Rattle.policy_model.specs.Asks.{object_numbered}
use Rattle.freshness.specs.declared.id.Id.{Id}
use Rattle.freshness.specs.Stale.{same_id}
use Rattle.freshness.specs.Seen.{id_of}
use Rattle.freshness.specs.Seen as seen
use Rattle.replay_fresh.specs.Fresh.{last_of_id}

-- this is the number of the object y of the trace, which is of the volume and id of x
pub record IsVersion (trace : List Object) (x y : Object) (number : ℕ) : Type 0 where
  pub same : IsTrue (same_id x y)
  pub found : position (same_object y) (objects_of trace) ≡ Some number
  pub object : object_numbered trace number ≡ y
  pub known : number < length (objects_of trace)

-- request t of the trace is for this object, which has this number
pub record IsRequestOf (trace : List Object) (t : ℕ) (x : Object) (number : ℕ) : Type 0 where
  pub within : t < length trace
  pub asked : request_at trace t ≡ x
  pub version : IsVersion trace x x number

-- a number is kept exactly if there is an object, and is its number
abbrev pub Keeps : List Object → Object → Option Object → Option ℕ → Type 0
Keeps trace x None None = Unit {0}
Keeps trace x None (Some number) = ⊥
Keeps trace x (Some y) None = ⊥
Keeps trace x (Some y) (Some number) = IsVersion trace x y number

-- the entries have the number of the last object of each volume and id among the first t requests
abbrev pub AreLatest : List (Id × ℕ) → List Object → ℕ → Type 0
AreLatest entries trace t = (x : Object) → Keeps trace x (last_of_id x (take t trace)) (lookup (seen.same_id (id_of x)) entries)

-- the number that is given, unless it is this one
abbrev pub other_than : ℕ → Option ℕ → Option ℕ
other_than number None = None
other_than number (Some k) = if k == number then None else Some k

-- Policies that are told a trace request by request.
use Rattle.std.specs.Prelude.{◌≡◌, ℕ, ◌<◌, ◌≤◌, ◌^◌, ◌++◌, ◌∷◌, [], true, false, nat_le, IsTrue, List, length, map, position, Some}
use Rattle.std.specs.List.{flat_map}
use Rattle.cache_model.specs.declared.objects.Object.{Object}
use Rattle.cache_model.specs.Claim.{only_fills, same_object}
use Rattle.cache_model.specs.Objects.{objects_of}
use Rattle.policy_model.specs.declared.names.PolicyName.{PolicyName}
use Rattle.replay_fresh.specs.Fresh.{is_stale}
use Rattle.replay_fresh.specs.Latest.{AreLatest}
use Rattle.policy_sweep.specs.Running.{Setting, Told}
use Rattle.policy_sweep.specs.Replays.{HasGone, is_idle}
use Rattle.policy_stream.specs.declared.request.Request.{Request}
use Rattle.policy_stream.specs.declared.stream.PolicyStream.{PolicyStream}

-- policies know at most so many different objects
abbrev pub most_objects : ℕ
most_objects = 2 ^ 31

-- what was told is the first part of all that is told
pub record IsPartOf (told all : Told) : Type 0 where
  pub rest : List Object
  pub trace : all.trace ≡ told.trace ++ rest
  pub fills : (t : ℕ) → t < length told.trace → only_fills all.fills t ≡ only_fills told.fills t
  pub stale : (t : ℕ) → t < length told.trace → is_stale all.stale t ≡ is_stale told.stale t
  pub replace : all.replace ≡ told.replace
  pub warmup : all.warmup ≡ told.warmup

-- one request more is told
pub record IsOneMore (told next : Told) (request : Request) : Type 0 where
  pub part : IsPartOf told next
  pub one : part.rest ≡ request.object ∷ []
  pub past : request.is_past ≡ nat_le told.warmup (length told.trace)
  pub fills : request.only_fills ≡ only_fills next.fills (length told.trace)
  pub stale : request.is_stale ≡ is_stale next.stale (length told.trace)
  pub few : length next.trace < 2 ^ 32

-- this is the number of the object, in the order of the first requests
abbrev pub IsNumber : Told → Object → ℕ → Type 0
IsNumber told x number = position (same_object x) (objects_of told.trace) ≡ Some number

-- the policies of these settings were told so much: they have gone through it, however the trace goes on
pub record HasBeenTold (told : Told) (settings : List Setting) (stream : PolicyStream) : Type 0 where
  pub replace : told.replace ≡ stream.replace
  pub gone : (all : Told) → IsPartOf told all → HasGone all most_objects settings (length told.trace) stream.replays
  pub idle : settings ≡ [] → is_idle stream.replays ≡ true
  pub latest : is_idle stream.replays ≡ false → IsTrue told.replace → (all : Told) → IsPartOf told all → AreLatest stream.latest.entries all.trace (length told.trace)

-- policies of these rules, with this capacity
abbrev pub at_capacity : List PolicyName → ℕ → List Setting
at_capacity names capacity = map (λ name. record { name = name; capacity = capacity }) names

-- policies of these rules at each of the capacities
abbrev pub settings_of : List PolicyName → List ℕ → List Setting
settings_of names capacities = flat_map (at_capacity names) capacities

-- the policies of these settings were told nothing
pub record HasBegun (settings : List Setting) (stream : PolicyStream) : Type 0 where
  pub none_kept : stream.latest.entries ≡ []
  pub gone : (all : Told) → HasGone all most_objects settings 0 stream.replays

-- they were told something, and this is the next request, whose object has this number and is among those that they can know
pub record IsNextOfSome (stream : PolicyStream) (request : Request) (number : ℕ) : Type 0 where
  pub told : Told
  pub next : Told
  pub settings : List Setting
  pub been_told : HasBeenTold told settings stream
  pub one_more : IsOneMore told next request
  pub numbered : IsNumber next request.object number
  pub known : is_idle stream.replays ≡ false → length (objects_of next.trace) ≤ most_objects

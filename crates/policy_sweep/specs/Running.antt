-- Policies that are replayed over the requests of a trace, as far as they have come.
use Rattle.std.specs.Prelude.{◌≡◌, ◌≢◌, ℕ, ◌+◌, ◌<◌, ◌≤◌, ◌^◌, Bool, nat_le, IsTrue, IfSome, List, length, slice_index_or, Some, None}
use Rattle.cache_model.specs.declared.objects.Object.{Object}
use Rattle.cache_model.specs.Claim.{only_fills}
use Rattle.policy_model.specs.declared.names.PolicyName.{PolicyName}
use Rattle.policy_model.specs.declared.names.PolicyName.TheVariants.{Belady}
use Rattle.policy_model.specs.States.{start_of}
use Rattle.policy_model.proofs.Replays.{IsAsked}
use Rattle.replay_core.specs.Keeping.{contents_of, state_of}
use Rattle.replay_fresh.specs.Fresh.{is_stale, leaving}
use Rattle.replay_steps.specs.declared.asked.Asked.{Asked}
use Rattle.replay_steps.specs.Steps.{IsReplayedTo, Replaying, leaving_of}
use Rattle.any_policy.specs.Any.{kept_of, name_of}
use Rattle.policy_sweep.specs.declared.running.Running.{Running}

-- what the policies are told: a trace with its marks, which of its requests are stale, whether objects are replaced, and the warm-up
pub record Told : Type 0 where
  pub trace : List Object
  pub fills : List Bool
  pub stale : List Bool
  pub replace : Bool
  pub warmup : ℕ

-- a replay of it by a rule, from no entries
abbrev pub replaying : Told → PolicyName → ℕ → Replaying
replaying told name capacity = record {
  trace = told.trace;
  fills = told.fills;
  stale = told.stale;
  replace = told.replace;
  warmup = told.warmup;
  capacity = capacity;
  first = Some (start_of name capacity);
}

-- a policy of this rule has gone through t requests
pub record IsRunning (told : Told) (name : PolicyName) (capacity objects t : ℕ) (running : Running) : Type 0 where
  pub rule : name_of running.policy ≡ name
  pub capacity_is : (kept_of running.policy).capacity ≡ capacity
  pub objects_are : (kept_of running.policy).objects ≡ objects
  pub replayed : IsReplayedTo (replaying told name capacity) t (Some (state_of (name_of running.policy) (kept_of running.policy))) (contents_of (kept_of running.policy)) running.so_far.counts
  pub named : running.so_far.policy ≡ name
  pub sized : running.so_far.capacity ≡ capacity

-- this is what request t asks of a policy that doesn't look ahead
pub record IsToldRequest (told : Told) (objects t : ℕ) (asked : Asked) : Type 0 where
  pub is_asked : IsAsked told.trace t asked.object asked.size
  pub no_next : asked.next ≡ None
  pub leaving : leaving_of asked ≡ leaving told.stale told.replace told.trace t
  pub other : IfSome asked.replaced (λ k. k ≢ asked.object)
  pub stale : asked.is_stale ≡ is_stale told.stale t
  pub stale_fills : IsTrue asked.is_stale → IsTrue asked.only_fills
  pub past : asked.is_past ≡ nat_le told.warmup t
  pub fills : asked.only_fills ≡ only_fills told.fills t
  pub known : asked.object < objects
  pub known_replaced : IfSome asked.replaced (λ k. k < objects)
  pub size : (1 ≤ asked.size) × (asked.size ≤ 2 ^ 48)

-- these are the requests from t on
pub record AreAsked (told : Told) (objects t : ℕ) (batch : List Asked) : Type 0 where
  pub each : (i : ℕ) (d : Asked) → i < length batch → IsToldRequest told objects (t + i) (slice_index_or batch i d)
  pub few : t + length batch < 2 ^ 32

-- the policy has gone through some trace, whose next requests these are
pub record IsAnyRunning (running : Running) (batch : List Asked) : Type 0 where
  pub told : Told
  pub name : PolicyName
  pub capacity : ℕ
  pub objects : ℕ
  pub t : ℕ
  pub ahead_of : name ≢ Belady
  pub asked : AreAsked told objects t batch
  pub is : IsRunning told name capacity objects t running

-- one policy after the other has gone through the same requests
abbrev pub Advances : List Asked → Running → Running → Type 0
Advances batch old new =
    (told : Told) (name : PolicyName) (capacity objects t : ℕ) → name ≢ Belady → AreAsked told objects t batch
    → IsRunning told name capacity objects t old → IsRunning told name capacity objects (t + length batch) new

-- a rule and the capacity of its policy
pub record Setting : Type 0 where
  pub name : PolicyName
  pub capacity : ℕ

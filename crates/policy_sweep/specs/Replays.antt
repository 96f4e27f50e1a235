-- Policies side by side, as far as they were told, and what they have counted in the end.
use Rattle.std.specs.Prelude.{◌≡◌, ◌≢◌, ℕ, ◌+◌, ◌<◌, ◌^◌, ◌==◌, ◌&&◌, Bool, List, Contains, length, slice_index_or, Some}
use Rattle.policy_model.specs.declared.names.PolicyName.{PolicyName}
use Rattle.policy_model.specs.declared.names.PolicyName.TheVariants.{Belady}
use Rattle.policy_model.specs.States.{start_of}
use Rattle.replay_core.specs.declared.counts.Replay.{Replay}
use Rattle.replay_fresh.specs.FreshRuns.{IsFreshRunOf, IsFreshlyPlayed}
use Rattle.replay_steps.specs.declared.asked.Asked.{Asked}
use Rattle.policy_sweep.specs.declared.fault.ReplayFault.{ReplayFault}
use Rattle.policy_sweep.specs.declared.fault.ReplayFault.TheVariants.{PolicyMemory, NoMemory}
use Rattle.policy_sweep.specs.declared.running.PolicyReplay.{PolicyReplay}
use Rattle.policy_sweep.specs.declared.running.Running.{Running}
use Rattle.policy_sweep.specs.declared.replays.PolicyReplays.{PolicyReplays}
use Rattle.policy_sweep.specs.Running.{AreAsked, IsRunning, IsToldRequest, Setting, Told}

-- the policies of these settings were told t requests: they have gone through the first of them, and the batch has the others
pub record HasGone (told : Told) (objects : ℕ) (settings : List Setting) (t : ℕ) (replays : PolicyReplays) : Type 0 where
  pub gone : ℕ
  pub others : gone + length replays.batch.items ≡ t
  pub asked : AreAsked told objects gone replays.batch.items
  pub each : length replays.running.items ≡ length settings
  pub ahead_of : (i : ℕ) (s : Setting) → i < length settings → (slice_index_or settings i s).name ≢ Belady
  pub running : (i : ℕ) (s : Setting) (d : Running) → i < length settings
      → IsRunning told (slice_index_or settings i s).name (slice_index_or settings i s).capacity objects gone (slice_index_or replays.running.items i d)

-- there is no policy, and nothing that one has not gone through
abbrev pub is_idle : PolicyReplays → Bool
is_idle replays = (length replays.running.items == 0) && (length replays.batch.items == 0)

-- they have gone through some trace
pub record HasGoneSome (replays : PolicyReplays) : Type 0 where
  pub told : Told
  pub objects : ℕ
  pub settings : List Setting
  pub t : ℕ
  pub gone : HasGone told objects settings t replays

-- and this is its next request
pub record IsNextOfSome (replays : PolicyReplays) (asked : Asked) : Type 0 where
  pub told : Told
  pub objects : ℕ
  pub settings : List Setting
  pub t : ℕ
  pub gone : HasGone told objects settings t replays
  pub request : IsToldRequest told objects t asked
  pub few : t + 1 < 2 ^ 32

-- these are the counts of a replay of the trace by the rule: some allowed contents have them, which are those of its run
pub record IsReplayOf (told : Told) (name : PolicyName) (capacity : ℕ) (replay : Replay) : Type 0 where
  pub played : IsFreshlyPlayed (Some (start_of name capacity)) capacity told.warmup told.fills told.stale told.replace told.trace replay.hits replay.bytes replay.written
  pub run : IsFreshRunOf (Some (start_of name capacity)) told.trace told.warmup told.fills told.stale told.replace replay.hits replay.bytes

-- what is said of a policy is of these settings: its rule and its capacity, and the counts of its replay
pub record IsOfSetting (told : Told) (setting : Setting) (replay : PolicyReplay) : Type 0 where
  pub policy : replay.policy ≡ setting.name
  pub capacity : replay.capacity ≡ setting.capacity
  pub counts : IsReplayOf told setting.name setting.capacity replay.counts

-- the replays of these settings, in their order
pub record AreReplays (told : Told) (settings : List Setting) (replays : List PolicyReplay) : Type 0 where
  pub each : length replays ≡ length settings
  pub are : (i : ℕ) (s : Setting) (d : PolicyReplay) → i < length settings → IsOfSetting told (slice_index_or settings i s) (slice_index_or replays i d)

-- the policy that a fault names is one of these, at its capacity
abbrev pub NamesOneOf : List Running → ReplayFault → Type 0
NamesOneOf running (PolicyMemory policy capacity) =
    (i : ℕ) × (i < length running) × ((d : Running) → ((slice_index_or running i d).so_far.policy ≡ policy) × ((slice_index_or running i d).so_far.capacity ≡ capacity))
NamesOneOf running NoMemory = Unit {0}

-- the policy that a fault names is of one of these settings
abbrev pub NamesSetting : List Setting → ReplayFault → Type 0
NamesSetting settings (PolicyMemory policy capacity) = Contains settings (record { name = policy; capacity = capacity })
NamesSetting settings NoMemory = Unit {0}

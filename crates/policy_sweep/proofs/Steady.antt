-- A policy in a replay keeps its rule, its capacity and its bound of objects.
use Rattle.std.proofs.Common.{◌≡◌, ◌≢◌, ℕ, zero, suc, ◌+◌, ◌^◌, ◌<◌, ◌∙◌, ap, sym, refl, subst, arith, take, Some, All, [], ◌∷◌, length, slice_index_or}
use Rattle.std.specs.declared.option.Option.{Option}
use Rattle.std.specs.Prelude.{unwrap_or}
use Rattle.cache_model.specs.Claim.{counts_past, request_at}
use Rattle.policy_model.specs.declared.names.PolicyName.{PolicyName}
use Rattle.policy_model.specs.declared.names.PolicyName.TheVariants.{Lru, Fifo, Clock, Lfu, Belady, Sieve, S3Fifo, Gdsf, Lfuda, Gdsf98, WTinyLfu}
use Rattle.policy_model.specs.States.{Member, State, start_of}
use Rattle.policy_model.specs.Steps.{next_kept}
use Rattle.policy_model.specs.Runs.{run_from}
use Rattle.policy_model.proofs.Holdings.{size-held}
use Rattle.replay_core.specs.declared.counts.Replay.{Replay}
use Rattle.replay_core.specs.Keeping.{contents_of, state_of}
use Rattle.replay_fresh.specs.Fresh.{fresh_asks, leaving}
use Rattle.replay_steps.specs.declared.asked.Asked.{Asked}
use Rattle.replay_steps.specs.Steps.{IsReplayedTo, IsRequest}
use Rattle.replay_steps.proofs.NextKept.{run-name}
use Rattle.any_policy.specs.declared.policy.AnyPolicy.{AnyPolicy}
use Rattle.any_policy.specs.Any.{kept_of, name_of}
use Rattle.policy_sweep.specs.declared.running.Running.{Running}
use Rattle.policy_sweep.specs.Running.{AreAsked, IsRunning, IsToldRequest, Told, replaying}

-- of all rules but Belady's nothing is kept of the next request
none-kept : (name : PolicyName) → name ≢ Belady → (n m : Option ℕ) → next_kept name n ≡ next_kept name m
none-kept Lru other n m = refl
none-kept Fifo other n m = refl
none-kept Clock other n m = refl
none-kept Lfu other n m = refl
none-kept Belady other n m = absurd (other refl)
none-kept Sieve other n m = refl
none-kept S3Fifo other n m = refl
none-kept Gdsf other n m = refl
none-kept Lfuda other n m = refl
none-kept Gdsf98 other n m = refl
none-kept WTinyLfu other n m = refl

-- so what it is told is a request of the replay
pub is-request : (told : Told) (name : PolicyName) (capacity objects t : ℕ) (asked : Asked) → name ≢ Belady → IsToldRequest told objects t asked → IsRequest (replaying told name capacity) t asked
is-request told name capacity objects t asked other is = record {
  is_asked = is.is_asked;
  next = none-kept name other asked.next _;
  leaving = is.leaving;
  other = is.other;
  stale = is.stale;
  stale_fills = is.stale_fills;
  past = is.past;
  fills = is.fills;
}

-- a policy whose state is that of a run of a rule has that rule
pub rule-stays : (told : Told) (name : PolicyName) (capacity t : ℕ) (policy : AnyPolicy) (counts : Replay)
    → IsReplayedTo (replaying told name capacity) t (Some (state_of (name_of policy) (kept_of policy))) (contents_of (kept_of policy)) counts → name_of policy ≡ name
rule-stays told name capacity t policy counts so_far =
    let s : State = start_of name capacity in
    ap (λ (o : Option State). (unwrap_or o s).name) so_far.run.0
    ∙ run-name (counts_past told.warmup told.fills) (leaving told.stale told.replace told.trace) (run_from s) (take t (fresh_asks told.stale told.trace))

-- what it holds of an object has the size that is asked for
pub sizes-stay : (told : Told) (name : PolicyName) (capacity objects t : ℕ) (running : Running) (asked : Asked) → IsToldRequest told objects t asked → IsRunning told name capacity objects t running
    → All (λ (m : Member). m.object ≡ asked.object → m.size ≡ asked.size) (contents_of (kept_of running.policy))
sizes-stay told name capacity objects t running asked is so_far =
    subst (λ n. All (λ (m : Member). m.object ≡ asked.object → m.size ≡ n) (contents_of (kept_of running.policy))) (sym is.is_asked.size_is)
    (size-held told.trace (request_at told.trace t) asked.object is.is_asked.found is.is_asked.object (contents_of (kept_of running.policy)) so_far.replayed.played.scores.numbered)

-- the first of requests from t on is request t
pub first-asked : (told : Told) (objects t : ℕ) (asked : Asked) → AreAsked told objects t (asked ∷ []) → IsToldRequest told objects t asked
first-asked told objects t asked are = subst (λ n. IsToldRequest told objects n asked) (omega arith) (are.each 0 asked (omega arith))

-- one request
pub one-asked : (told : Told) (objects n : ℕ) (asked : Asked) → IsToldRequest told objects n asked → n + 1 < 2 ^ 32 → AreAsked told objects n (asked ∷ [])
one-asked told objects n asked is few = record { each = at; few = omega (arith, few) }
  where
    at : (i : ℕ) (d : Asked) → i < length (asked ∷ []) → IsToldRequest told objects (n + i) (slice_index_or (asked ∷ []) i d)
    at zero d below = subst (λ m. IsToldRequest told objects m asked) (omega arith) is
    at (suc i) d below = absurd (omega (arith, below))

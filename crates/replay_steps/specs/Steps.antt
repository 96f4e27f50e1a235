-- A replay of a trace after some of its requests, and what the next one asks.
use Rattle.std.specs.Prelude.{◌≡◌, ◌≢◌, ℕ, ◌+◌, ◌*◌, ◌≤◌, ◌^◌, ◌++◌, ◌∷◌, [], Bool, ◌&&◌, ◌||◌, not, nat_le, if◌then◌else◌, IsTrue, IfSome, List, option_to_list}
use Rattle.std.specs.declared.option.Option.{Option}
use Rattle.cache_model.specs.declared.objects.Object.{Object}
use Rattle.cache_model.specs.Claim.{counts_past, only_fills}
use Rattle.policy_model.specs.States.{Member, State}
use Rattle.policy_model.specs.Asks.{next_request}
use Rattle.policy_model.specs.Steps.{next_kept}
use Rattle.policy_model.proofs.Replays.{IsAsked}
use Rattle.replay_core.specs.declared.counts.Replay.{Replay}
use Rattle.replay_fresh.specs.Fresh.{is_stale, leaving, unless_stale}
use Rattle.replay_fresh.proofs.KnownRuns.{IsRunTo}
use Rattle.replay_fresh.proofs.Writes.{IsPlayedTo}
use Rattle.replay_steps.specs.declared.asked.Asked.{Asked}

-- what is replayed: a trace with its marks, which of its requests are stale, whether objects are replaced, the warm-up, and the capacity of the policy with its first state, if that is known
pub record Replaying : Type 0 where
  pub trace : List Object
  pub fills : List Bool
  pub stale : List Bool
  pub replace : Bool
  pub warmup : ℕ
  pub capacity : ℕ
  pub first : Option State

-- the number of the request's own object, if it is stale
abbrev pub own_leaving : Asked → List ℕ
own_leaving asked = if asked.is_stale then asked.object ∷ [] else []

-- the numbers of the objects that leave before it: its own, if it is stale, and then the one that it replaces
abbrev pub leaving_of : Asked → List ℕ
leaving_of asked = own_leaving asked ++ option_to_list asked.replaced

-- this is what request t asks; its next request is looked at by the rule of Belady alone
pub record IsRequest (r : Replaying) (t : ℕ) (asked : Asked) : Type 0 where
  pub is_asked : IsAsked r.trace t asked.object asked.size
  pub next : IfSome r.first (λ s. next_kept s.name asked.next ≡ next_kept s.name (unless_stale r.stale (next_request r.trace t)))
  pub leaving : leaving_of asked ≡ leaving r.stale r.replace r.trace t
  pub other : IfSome asked.replaced (λ k. k ≢ asked.object)
  pub stale : asked.is_stale ≡ is_stale r.stale t
  pub stale_fills : IsTrue asked.is_stale → IsTrue asked.only_fills
  pub past : asked.is_past ≡ nat_le r.warmup t
  pub fills : asked.only_fills ≡ only_fills r.fills t

-- t requests were replayed: some contents that are allowed so far have these counts and end with these members, and a state that is known is that of its rule's run
pub record IsReplayedTo (r : Replaying) (t : ℕ) (now : Option State) (members : List Member) (counts : Replay) : Type 0 where
  pub played : IsPlayedTo r.capacity r.warmup r.fills r.stale r.replace r.trace r.first t members counts.hits counts.bytes counts.written
  pub run : IsRunTo (counts_past r.warmup r.fills) r.stale r.replace r.trace r.first now t counts.hits counts.bytes
  pub few_hits : counts.hits ≤ t
  pub few_bytes : counts.bytes ≤ t * 2 ^ 48
  pub few_written : counts.written ≤ t * 2 ^ 48

-- the number, if it is so
abbrev pub if_so : Bool → ℕ → ℕ
if_so so number = if so then number else 0

-- what is counted after a request that was a hit or not, and after which its object is held or not
abbrev pub counted_more : Replay → Asked → Bool → Bool → Replay
counted_more counts asked hit held =
    let earns = (asked.is_past && not asked.only_fills) && hit in
    let writes = asked.is_past && ((asked.only_fills || not hit) && held) in
    record {
      hits = counts.hits + if_so earns 1;
      bytes = counts.bytes + if_so earns asked.size;
      written = counts.written + if_so writes asked.size;
    }

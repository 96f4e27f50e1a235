-- A replay with what it writes, request by request.
use Rattle.std.proofs.Common.{◌≡◌, ◌≢◌, ℕ, ◌+◌, ◌<◌, ◌≤◌, ◌⊎◌, ◌∙◌, sym, refl, ap, subst, Bool, true, false, not, ◌&&◌, ◌||◌, cond, nat_le, List, [], ◌∷◌, ◌++◌, length, map, take, arith, Some, None, IfSome, Contains, AllPairs}
use Rattle.std.specs.List.{range_with_len}
use Rattle.std.specs.declared.option.Option.{Option}
use Rattle.std.proofs.lemmas.List.{length-take-le, take_all, take_more}
use Rattle.cache_model.specs.declared.objects.Object.{Object}
use Rattle.cache_model.specs.Claim.{before_request, counts_past, holds, no_object, only_fills, request_at}
use Rattle.cache_model.specs.Written.{written_bytes}
use Rattle.policy_model.specs.States.{Member, State, has_member, member, members_size, start_of}
use Rattle.policy_model.specs.Runs.{IsPlayed, held_after, objects_held}
use Rattle.policy_model.proofs.Holdings.{has_member-held}
use Rattle.policy_model.proofs.Replays.{AreScoresTo, IsAsked, played-begin, played-on, played-through, run_to}
use Rattle.policy_model.proofs.Writing.{own_written, written_bytes-more, held_after-run, held_after-more}
use Rattle.replay_core.specs.Laws.{IsFresh, StateFits}
use Rattle.replay_core.proofs.KnownRuns.{IsRunTo}

-- t requests were answered: contents with these scores so far wrote these bytes, and are those of the rule that is known
pub record IsPlayedTo (first : Option State) (capacity warmup : ℕ) (fills : List Bool) (trace : List Object) (t : ℕ) (members : List Member) (hits bytes written : ℕ) : Type 0 where
  pub scores : AreScoresTo capacity (counts_past warmup fills) trace t members hits bytes
  pub written_are : written ≡ written_bytes warmup fills (take t trace) scores.contents
  pub of_rule : IfSome first (λ s. scores.contents ≡ map (held_after s trace) (range_with_len 0 (t + 1)))

-- ---- the contents of the rule that is known
-- before the first request
pub rule-none : (first : Option State) (capacity : ℕ) (trace : List Object) (members : List Member) → members ≡ [] → StateFits first members capacity → (contents : List (List Object)) → contents ≡ [] ∷ []
    → IfSome first (λ s. contents ≡ map (held_after s trace) (range_with_len 0 1))
rule-none None capacity trace members empty fits contents same = tt
rule-none (Some s) capacity trace members empty fits contents same = same ∙ ap (λ ms. objects_held trace ms ∷ []) (sym empty ∙ sym fits.0)

-- one request later
pub rule-more : (first after : Option State) (counted : ℕ → Bool) (trace : List Object) (t room hits bytes : ℕ) (new : List Member) (was more : List (List Object))
    → IfSome first (λ s. was ≡ map (held_after s trace) (range_with_len 0 (t + 1)))
    → IsRunTo first after counted trace (t + 1) hits bytes
    → StateFits after new room
    → more ≡ was ++ objects_held trace new ∷ []
    → IfSome first (λ s. more ≡ map (held_after s trace) (range_with_len 0 (t + 1 + 1)))
rule-more None after counted trace t room hits bytes new was more rule run fits more_is = tt
rule-more (Some s) after counted trace t room hits bytes new was more rule run fits more_is =
    let tells : StateFits (Some (run_to counted s trace (t + 1)).state) new room = subst (λ o. StateFits o new room) run.0 fits in
    more_is
    ∙ ap (λ ks. ks ++ objects_held trace new ∷ []) rule
    ∙ ap (λ (h : List Object). map (held_after s trace) (range_with_len 0 (t + 1)) ++ h ∷ []) (ap (objects_held trace) (sym tells.0) ∙ sym (held_after-run counted s trace (t + 1)))
    ∙ sym (held_after-more s trace t)

-- of the whole trace
pub rule-all : (first : Option State) (trace : List Object) (t : ℕ) (was contents : List (List Object)) → t ≡ length trace → IsFresh first
    → IfSome first (λ s. was ≡ map (held_after s trace) (range_with_len 0 (t + 1))) → contents ≡ was
    → IfSome first (λ s. contents ≡ map (held_after (start_of s.name s.capacity) trace) (range_with_len 0 (length trace + 1)))
rule-all None trace t was contents end fresh rule same = tt
rule-all (Some s) trace t was contents end fresh rule same =
    same ∙ rule ∙ ap (λ n. map (held_after s trace) (range_with_len 0 (n + 1))) end ∙ ap (λ (u : State). map (held_after u trace) (range_with_len 0 (length trace + 1))) fresh

-- ---- with what it writes
-- before the first request
pub written-none : (first : Option State) (capacity warmup : ℕ) (fills : List Bool) (trace : List Object) (members : List Member) → members ≡ [] → StateFits first members capacity → IsPlayedTo first capacity warmup fills trace 0 members 0 0 0
written-none first capacity warmup fills trace members empty fits =
    let begin = played-begin capacity (counts_past warmup fills) trace members empty in
    record { scores = begin.0; written_are = ap (written_bytes warmup fills (take 0 trace)) (sym begin.1); of_rule = rule-none first capacity trace members empty fits begin.0.contents begin.1 }

-- of three conditions the second and the third may be exchanged
exchanged : (past unclaimed held : Bool) (n : ℕ) → cond (past && (unclaimed && held)) n 0 ≡ cond (past && (held && unclaimed)) n 0
exchanged past false false n = refl
exchanged past false true n = refl
exchanged past true false n = refl
exchanged past true true n = refl

-- one more request
pub written-more : (first after : Option State) (capacity warmup : ℕ) (fills : List Bool) (trace : List Object) (t k size room : ℕ) (old new : List Member) (hits bytes written more_hits more_bytes more_written : ℕ) (hit : Bool)
    → IsAsked trace t k size
    → IsPlayedTo first capacity warmup fills trace t old hits bytes written
    → ((m : Member) → Contains new m → Contains old m ⊎ (m ≡ member k size))
    → members_size new ≤ capacity
    → AllPairs (λ m n. m.object ≢ n.object) new
    → hit ≡ has_member old k
    → more_hits ≡ hits + cond (counts_past warmup fills t && hit) 1 0
    → more_bytes ≡ bytes + cond (counts_past warmup fills t && hit) size 0
    → more_written ≡ written + cond (nat_le warmup t && ((only_fills fills t || not hit) && has_member new k)) size 0
    → IsRunTo first after (counts_past warmup fills) trace (t + 1) more_hits more_bytes
    → StateFits after new room
    → IsPlayedTo first capacity warmup fills trace (t + 1) new more_hits more_bytes more_written
written-more first after capacity warmup fills trace t k size room old new hits bytes written more_hits more_bytes more_written hit asked played enters fits apart hit_is hits_more bytes_more written_more run tells =
    let x : Object = request_at trace t in
    let ks : List (List Object) = played.scores.contents in
    let on = played-on capacity (counts_past warmup fills) trace t k size old new hits bytes more_hits more_bytes hit asked played.scores enters fits apart hit_is hits_more bytes_more in
    let so_far : length (take t trace) ≡ t = length-take-le t trace (let within : t < length trace = asked.within in omega arith) in
    let long : length ks ≡ length (take t trace) + 1 = played.scores.allowed.one_more_than_requests in
    let before : holds (before_request ks t) x ≡ hit =
    ap (λ h. holds h x) played.scores.last ∙ sym (has_member-held trace x k asked.found asked.object old played.scores.numbered) ∙ sym hit_is in
    let after_it : holds (objects_held trace new) x ≡ has_member new k = sym (has_member-held trace x k asked.found asked.object new on.0.numbered) in
    let own : own_written warmup fills (length (take t trace)) x (before_request ks (length (take t trace))) (objects_held trace new)
    ≡ cond (nat_le warmup t && ((only_fills fills t || not hit) && has_member new k)) size 0 =
    ap (λ n. own_written warmup fills n x (before_request ks n) (objects_held trace new)) so_far
    ∙ ap (λ b. cond (nat_le warmup t && (b && (only_fills fills t || not (holds (before_request ks t) x)))) x.size 0) after_it
    ∙ ap (λ b. cond (nat_le warmup t && (has_member new k && (only_fills fills t || not b))) x.size 0) before
    ∙ ap (λ n. cond (nat_le warmup t && (has_member new k && (only_fills fills t || not hit))) n 0) (sym asked.size_is)
    ∙ sym (exchanged (nat_le warmup t) (only_fills fills t || not hit) (has_member new k) size) in
    record {
      scores = on.0;
      written_are = written_more
          ∙ ap (λ n. n + cond (nat_le warmup t && ((only_fills fills t || not hit) && has_member new k)) size 0) played.written_are
          ∙ ap (λ n. written_bytes warmup fills (take t trace) ks + n) (sym own)
          ∙ sym (written_bytes-more warmup fills (take t trace) x ks (objects_held trace new) long)
          ∙ ap (λ xs. written_bytes warmup fills xs (ks ++ objects_held trace new ∷ [])) (sym (take_more trace t no_object asked.within))
          ∙ ap (written_bytes warmup fills (take (t + 1) trace)) (sym on.1);
      of_rule = rule-more first after (counts_past warmup fills) trace t room more_hits more_bytes new ks on.0.contents played.of_rule run tells on.1;
    }

-- the whole trace
pub written-all : (first : Option State) (capacity warmup : ℕ) (fills : List Bool) (trace : List Object) (t : ℕ) (members : List Member) (hits bytes written : ℕ)
    → t ≡ length trace → IsFresh first → IsPlayedTo first capacity warmup fills trace t members hits bytes written → IsPlayed first capacity warmup fills trace hits bytes written
written-all first capacity warmup fills trace t members hits bytes written end fresh played =
    let through = played-through capacity warmup fills trace members t hits bytes end played.scores in
    let all : take t trace ≡ trace = take_all t trace (omega arith) in
    record {
      scores = through.0;
      written_are = played.written_are ∙ ap (λ xs. written_bytes warmup fills xs played.scores.contents) all ∙ ap (written_bytes warmup fills trace) (sym through.1);
      of_rule = rule-all first trace t played.scores.contents through.0.contents end fresh played.of_rule through.1;
    }

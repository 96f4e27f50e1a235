-- A replay with what it holds and writes, request by request, where objects leave before requests.
use Rattle.std.proofs.Common.{◌≡◌, ◌≢◌, ℕ, ◌+◌, ◌<◌, ◌≤◌, ◌⊎◌, ◌∙◌, sym, refl, ap, subst, Bool, true, false, not, ◌&&◌, ◌||◌, cond, nat_le, List, [], ◌∷◌, ◌++◌, length, take, arith, All, Contains, AllPairs, inl, inr, ⊎_elim}
use Rattle.std.specs.declared.option.Option.{Option}
use Rattle.std.proofs.Math.Seq.{get_or-append_seam}
use Rattle.std.proofs.lemmas.Bool.{cases_lt}
use Rattle.std.proofs.lemmas.List.{get_or_append_left, length-take-le, take_all, take_more}
use Rattle.cache_model.specs.declared.objects.Object.{Object}
use Rattle.cache_model.specs.Claim.{before_request, counts_past, holds, no_object, only_fills, request_at}
use Rattle.cache_model.specs.Written.{written_bytes}
use Rattle.policy_model.specs.States.{Member, State, has_member, member, members_size}
use Rattle.policy_model.specs.Asks.{number_of}
use Rattle.policy_model.specs.Runs.{objects_held}
use Rattle.policy_model.proofs.Holdings.{IsNumbered, has_member-held}
use Rattle.policy_model.proofs.Replays.{AreScoresTo, IsAsked, played-begin, played-on, played-through}
use Rattle.policy_model.proofs.Writing.{own_written, written_bytes-more}
use Rattle.replay_core.specs.Laws.{IsFresh, StateFits}
use Rattle.replay_fresh.specs.Fresh.{leaving}
use Rattle.replay_fresh.specs.FreshRuns.{IsFreshlyPlayed, NoneStays, members_without}
use Rattle.replay_fresh.proofs.Left.{asked_or_left, counted-left, members_without-former, written-left}
use Rattle.replay_fresh.proofs.KnownRuns.{HeldTo, IsRunTo, held-none, held-more, held-all}

-- of three conditions the second and the third may be exchanged
exchanged : (past unclaimed held : Bool) (n : ℕ) → cond (past && (unclaimed && held)) n 0 ≡ cond (past && (held && unclaimed)) n 0
exchanged past false false n = refl
exchanged past false true n = refl
exchanged past true false n = refl
exchanged past true true n = refl

module _ (capacity warmup : ℕ) (fills stale : List Bool) (replace : Bool) (trace : List Object) where
  -- t requests were answered: contents with these scores so far wrote these bytes, and are those of the rule that is known
  pub record IsPlayedTo (first : Option State) (t : ℕ) (members : List Member) (hits bytes written : ℕ) : Type 0 where
    pub scores : AreScoresTo capacity (counts_past warmup fills) trace t members hits bytes
    pub written_are : written ≡ written_bytes warmup fills (take t trace) scores.contents
    pub none_stays : NoneStays stale replace trace t scores.contents
    pub of_rule : HeldTo (counts_past warmup fills) stale replace trace first t scores.contents

  -- before the first request
  pub written-none : (first : Option State) (members : List Member) → members ≡ [] → StateFits first members capacity → IsPlayedTo first 0 members 0 0 0
  written-none first members empty fits =
      let begin = played-begin capacity (counts_past warmup fills) trace members empty in
      record {
        scores = begin.0;
        written_are = ap (written_bytes warmup fills (take 0 trace)) (sym begin.1);
        none_stays = λ u low. absurd (omega arith);
        of_rule = held-none (counts_past warmup fills) stale replace trace first capacity members empty fits begin.0.contents begin.1;
      }

  -- what one more request writes
  own_bytes : (t k size : ℕ) (old new : List Member) (hits bytes : ℕ) → IsAsked trace t k size → (scores : AreScoresTo capacity (counts_past warmup fills) trace t old hits bytes) → All (IsNumbered trace) new
      → written_bytes warmup fills (take (t + 1) trace) (scores.contents ++ objects_held trace new ∷ [])
      ≡ written_bytes warmup fills (take t trace) scores.contents + cond (nat_le warmup t && ((only_fills fills t || not (has_member old k)) && has_member new k)) size 0
  own_bytes t k size old new hits bytes asked scores numbered =
      let x : Object = request_at trace t in
      let ks : List (List Object) = scores.contents in
      let so_far : length (take t trace) ≡ t = length-take-le t trace (let within : t < length trace = asked.within in omega arith) in
      let long : length ks ≡ length (take t trace) + 1 = scores.allowed.one_more_than_requests in
      let before : holds (before_request ks t) x ≡ has_member old k = ap (λ h. holds h x) scores.last ∙ sym (has_member-held trace x k asked.found asked.object old scores.numbered) in
      let after_it : holds (objects_held trace new) x ≡ has_member new k = sym (has_member-held trace x k asked.found asked.object new numbered) in
      let own : own_written warmup fills (length (take t trace)) x (before_request ks (length (take t trace))) (objects_held trace new)
      ≡ cond (nat_le warmup t && ((only_fills fills t || not (has_member old k)) && has_member new k)) size 0 =
      ap (λ n. own_written warmup fills n x (before_request ks n) (objects_held trace new)) so_far
      ∙ ap (λ b. cond (nat_le warmup t && (b && (only_fills fills t || not (holds (before_request ks t) x)))) x.size 0) after_it
      ∙ ap (λ b. cond (nat_le warmup t && (has_member new k && (only_fills fills t || not b))) x.size 0) before
      ∙ ap (λ n. cond (nat_le warmup t && (has_member new k && (only_fills fills t || not (has_member old k)))) n 0) (sym asked.size_is)
      ∙ sym (exchanged (nat_le warmup t) (only_fills fills t || not (has_member old k)) (has_member new k) size) in
      ap (λ xs. written_bytes warmup fills xs (ks ++ objects_held trace new ∷ [])) (take_more trace t no_object asked.within)
      ∙ written_bytes-more warmup fills (take t trace) x ks (objects_held trace new) long
      ∙ ap (λ n. written_bytes warmup fills (take t trace) ks + n) own

  -- what leaves before it is not there after it
  none_stays-more : (t : ℕ) (ks : List (List Object)) (next : List Object) → length ks ≡ t + 1 → NoneStays stale replace trace t ks
      → ((x : Object) → Contains next x → Contains (leaving stale replace trace t) (number_of trace x) → x ≡ request_at trace t) → NoneStays stale replace trace (t + 1) (ks ++ next ∷ [])
  none_stays-more t ks next long so_far last u low x held leaves =
      ⊎_elim
      (λ (before : u < t). so_far u before x (subst (λ h. Contains h x) (get_or_append_left ks (next ∷ []) [] (u + 1) (omega (arith, long, before))) held) leaves)
      (λ (here : t ≤ u).
      let same : u ≡ t = omega (arith, low, here) in
      let now : before_request (ks ++ next ∷ []) (u + 1) ≡ next = ap (before_request (ks ++ next ∷ [])) (omega (arith, long, same)) ∙ get_or-append_seam ks next [] [] in
      last x (subst (λ h. Contains h x) now held) (subst (λ n. Contains (leaving stale replace trace n) (number_of trace x)) same leaves) ∙ ap (request_at trace) (sym same))
      (cases_lt u t)

  -- one more request, before which the former members may leave, and its own only if it doesn't count; its contents follow those so far
  pub written-more : (first after : Option State) (t k size room : ℕ) (old left new : List Member) (hits bytes written more_hits more_bytes more_written : ℕ) (hit : Bool)
      → IsAsked trace t k size
      → (played : IsPlayedTo first t old hits bytes written)
      → left ≡ members_without old (leaving stale replace trace t)
      → (only_fills fills t ≡ false → hit ≡ has_member old k)
      → ((m : Member) → Contains new m → Contains left m ⊎ (m ≡ member k size))
      → members_size new ≤ capacity
      → AllPairs (λ m n. m.object ≢ n.object) new
      → more_hits ≡ hits + cond (counts_past warmup fills t && hit) 1 0
      → more_bytes ≡ bytes + cond (counts_past warmup fills t && hit) size 0
      → more_written ≡ written + cond (nat_le warmup t && ((only_fills fills t || not hit) && has_member new k)) size 0
      → IsRunTo (counts_past warmup fills) stale replace trace first after (t + 1) more_hits more_bytes
      → StateFits after new room
      → (next : IsPlayedTo first (t + 1) new more_hits more_bytes more_written) × (next.scores.contents ≡ played.scores.contents ++ objects_held trace new ∷ [])
  written-more first after t k size room old left new hits bytes written more_hits more_bytes more_written hit asked played left_is held enters fits apart hits_more bytes_more written_more run tells =
      let counted : (counts_past warmup fills t && hit) ≡ (counts_past warmup fills t && has_member old k) = counted-left (nat_le warmup t) (only_fills fills t) hit (has_member old k) held in
      let former : (m : Member) → Contains left m → Contains old m = subst (λ ms. (m : Member) → Contains ms m → Contains old m) (sym left_is) (members_without-former old (leaving stale replace trace t)) in
      let on = played-on capacity (counts_past warmup fills) trace t k size old new hits bytes more_hits more_bytes (has_member old k) asked played.scores
      (λ m c. ⊎_elim (λ (was : Contains left m). inl (former m was)) (λ (own : m ≡ member k size). inr own) (enters m c)) fits apart refl
      (hits_more ∙ ap (λ b. hits + cond b 1 0) counted) (bytes_more ∙ ap (λ b. bytes + cond b size 0) counted) in
      let next : IsPlayedTo first (t + 1) new more_hits more_bytes more_written = record {
        scores = on.0;
        written_are = written_more
            ∙ ap (λ b. written + cond b size 0) (written-left (nat_le warmup t) (only_fills fills t) hit (has_member old k) (has_member new k) held)
            ∙ ap (λ n. n + cond (nat_le warmup t && ((only_fills fills t || not (has_member old k)) && has_member new k)) size 0) played.written_are
            ∙ sym (own_bytes t k size old new hits bytes asked played.scores on.0.numbered)
            ∙ ap (written_bytes warmup fills (take (t + 1) trace)) (sym on.1);
        none_stays = subst (NoneStays stale replace trace (t + 1)) (sym on.1)
            (none_stays-more t played.scores.contents (objects_held trace new)
            (let long : length played.scores.contents ≡ length (take t trace) + 1 = played.scores.allowed.one_more_than_requests in
            let within : t < length trace = asked.within in omega (arith, length-take-le t trace))
            played.none_stays (asked_or_left trace t k size old left new (leaving stale replace trace t) asked on.0.numbered left_is enters));
        of_rule = held-more (counts_past warmup fills) stale replace trace first after t room more_hits more_bytes new played.scores.contents on.0.contents played.of_rule run tells on.1;
      } in
      (next, on.1)

  -- the whole trace
  pub written-all : (first : Option State) (t : ℕ) (members : List Member) (hits bytes written : ℕ)
      → t ≡ length trace → IsFresh first → IsPlayedTo first t members hits bytes written → IsFreshlyPlayed first capacity warmup fills stale replace trace hits bytes written
  written-all first t members hits bytes written end fresh played =
      let through = played-through capacity warmup fills trace members t hits bytes end played.scores in
      let all : take t trace ≡ trace = take_all t trace (omega arith) in
      record {
        scores = through.0;
        written_are = played.written_are ∙ ap (λ xs. written_bytes warmup fills xs played.scores.contents) all ∙ ap (written_bytes warmup fills trace) (sym through.1);
        none_stays = subst (NoneStays stale replace trace (length trace)) (sym through.1) (subst (λ n. NoneStays stale replace trace n played.scores.contents) end played.none_stays);
        of_rule = held-all (counts_past warmup fills) stale replace trace first t played.scores.contents through.0.contents end fresh played.of_rule through.1;
      }

-- A replay with its flags, request by request.
use Rattle.std.proofs.Common.{◌≡◌, ◌≢◌, ℕ, ◌+◌, ◌<◌, ◌≤◌, ◌⊎◌, ⊎_elim, ◌∙◌, sym, refl, ap, subst, Bool, true, false, not, ◌&&◌, cond, List, [], ◌∷◌, ◌++◌, length, map, take, arith, IfSome, Contains, AllPairs}
use Rattle.std.specs.List.{range_with_len}
use Rattle.std.specs.declared.option.Option.{Option}
use Rattle.std.proofs.Math.Seq.{get_or-append_seam}
use Rattle.std.proofs.lemmas.Bool.{cases_lt, le-leb}
use Rattle.std.proofs.lemmas.List.Sums.{sum_by-append, sum_by-cons}
use Rattle.std.proofs.lemmas.List.{get_or_append_left, length-append, length-take-le, take_all}
use Rattle.cache_model.specs.declared.objects.Object.{Object}
use Rattle.cache_model.specs.Claim.{IsAllowed, before_request, counts_past, holds, only_fills, request_at}
use Rattle.judge_laws.specs.Flags.{IsPossible, is_flagged}
use Rattle.judge_laws.proofs.Possible.{allowed_is_possible}
use Rattle.policy_model.specs.States.{Member, State, has_member, member, members_size}
use Rattle.policy_model.specs.Runs.{held_after, objects_held}
use Rattle.policy_model.proofs.Holdings.{has_member-held}
use Rattle.policy_model.proofs.Replays.{AreScoresTo, IsAsked, played-begin, played-on}
use Rattle.replay_core.specs.Laws.{IsFresh, StateFits}
use Rattle.replay_core.proofs.KnownRuns.{IsRunTo}
use Rattle.replay_core.proofs.Writes.{rule-all, rule-more, rule-none}
use Rattle.replay_hits.specs.Hits.{AreHits, flag_count}

-- no request counts
abbrev pub none_counts : ℕ → Bool
none_counts t = false

-- t requests were answered: some contents hit exactly at the flags so far, and are those of the rule that is known
pub record AreHitsTo (first : Option State) (capacity : ℕ) (trace : List Object) (t : ℕ) (members : List Member) (flags : List Bool) : Type 0 where
  pub played : AreScoresTo capacity none_counts trace t members 0 0
  pub each : length flags ≡ t
  pub hits : (k : ℕ) → k < t → holds (before_request played.contents k) (request_at trace k) ≡ is_flagged flags k
  pub of_rule : IfSome first (λ s. played.contents ≡ map (held_after s trace) (range_with_len 0 (t + 1)))

-- before the first request
pub flagged-none : (first : Option State) (capacity : ℕ) (trace : List Object) (members : List Member) → members ≡ [] → StateFits first members capacity → AreHitsTo first capacity trace 0 members []
flagged-none first capacity trace members empty fits =
    let begin = played-begin capacity none_counts trace members empty in
    record { played = begin.0; each = refl; hits = λ k low. absurd (omega arith); of_rule = rule-none first capacity trace members empty fits begin.0.contents begin.1 }

-- one more request
pub flagged-more : (first after : Option State) (capacity : ℕ) (trace : List Object) (t k size room : ℕ) (old new : List Member) (flags : List Bool) (hit : Bool)
    → IsAsked trace t k size
    → AreHitsTo first capacity trace t old flags
    → ((m : Member) → Contains new m → Contains old m ⊎ (m ≡ member k size))
    → members_size new ≤ capacity
    → AllPairs (λ m n. m.object ≢ n.object) new
    → hit ≡ has_member old k
    → IsRunTo first after none_counts trace (t + 1) 0 0
    → StateFits after new room
    → AreHitsTo first capacity trace (t + 1) new (flags ++ hit ∷ [])
flagged-more first after capacity trace t k size room old new flags hit asked so_far enters fits apart hit_is run tells =
    let ks : List (List Object) = so_far.played.contents in
    let on = played-on capacity none_counts trace t k size old new 0 0 0 0 hit asked so_far.played enters fits apart hit_is refl refl in
    let so_long : length (take t trace) ≡ t = length-take-le t trace (let within : t < length trace = asked.within in omega arith) in
    let long : length ks ≡ t + 1 = so_far.played.allowed.one_more_than_requests ∙ ap (λ n. n + 1) so_long in
    record {
      played = on.0;
      each = omega (arith, length-append flags (hit ∷ []), so_far.each);
      hits = λ j low.
          let before : before_request on.0.contents j ≡ before_request ks j = ap (λ cs. before_request cs j) on.1 ∙ get_or_append_left ks (objects_held trace new ∷ []) [] j (omega arith) in
          ap (λ h. holds h (request_at trace j)) before
          ∙ ⊎_elim
          (λ (early : j < t). so_far.hits j early ∙ sym (get_or_append_left flags (hit ∷ []) false j (omega (arith, so_far.each))))
          (λ (late : t ≤ j).
          let here : t ≡ j = omega arith in
          subst (λ i. holds (before_request ks i) (request_at trace i) ≡ is_flagged (flags ++ hit ∷ []) i) here
          (ap (λ h. holds h (request_at trace t)) so_far.played.last
          ∙ sym (has_member-held trace (request_at trace t) k asked.found asked.object old so_far.played.numbered)
          ∙ sym hit_is
          ∙ sym (get_or-append_seam flags hit [] false)
          ∙ ap (is_flagged (flags ++ hit ∷ [])) so_far.each))
          (cases_lt j t);
      of_rule = rule-more first after none_counts trace t room 0 0 new ks on.0.contents so_far.of_rule run tells on.1;
    }

-- the whole trace
pub flagged-all : (first : Option State) (capacity : ℕ) (trace : List Object) (t : ℕ) (members : List Member) (flags : List Bool)
    → t ≡ length trace → IsFresh first → AreHitsTo first capacity trace t members flags → AreHits first capacity trace flags
flagged-all first capacity trace t members flags end fresh so_far =
    let ks : List (List Object) = so_far.played.contents in
    let all : take t trace ≡ trace = take_all t trace (omega arith) in
    record {
      each = so_far.each ∙ end;
      contents = ks;
      allowed = subst (λ xs. IsAllowed capacity xs ks) all so_far.played.allowed;
      hits = λ k within. so_far.hits k (omega arith);
      of_rule = rule-all first trace t ks ks end fresh so_far.of_rule refl;
    }

-- hits of allowed contents are possible
pub are_possible : (first : Option State) (capacity : ℕ) (trace : List Object) (flags : List Bool) → AreHits first capacity trace flags → IsPossible capacity trace flags
are_possible first capacity trace flags hits = allowed_is_possible capacity trace flags hits.contents hits.allowed (λ t within flagged. hits.hits t within ∙ flagged)

-- one more flag
pub flag_count-more : (flags : List Bool) (hit : Bool) (t : ℕ) → flag_count (flags ++ hit ∷ []) ≡ flag_count flags + cond (counts_past 0 [] t && hit) 1 0
flag_count-more flags hit t =
    let counted : counts_past 0 [] t ≡ true = ap (λ b. b && not (only_fills [] t)) (le-leb 0 t (omega arith)) in
    let own : Bool → ℕ = λ flag. cond {A = ℕ} flag 1 0 in
    let one : own hit ≡ cond (counts_past 0 [] t && hit) 1 0 = ap (λ b. own (b && hit)) (sym counted) in
    omega (arith, sum_by-append own flags (hit ∷ []), sum_by-cons own hit [], one)

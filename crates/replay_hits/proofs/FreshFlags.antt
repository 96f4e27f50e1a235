-- A replay with its flags from which objects leave, request by request.
use Rattle.std.proofs.Common.{◌≡◌, ◌≢◌, ℕ, ◌+◌, ◌<◌, ◌≤◌, ◌⊎◌, ⊎_elim, ◌∙◌, sym, refl, ap, subst, Bool, true, false, not, ◌&&◌, ◌||◌, cond, nat_le, eqb, List, [], ◌∷◌, ◌++◌, length, take, arith, IfSome, Contains, AllPairs}
use Rattle.std.specs.declared.option.Option.{Option}
use Rattle.std.proofs.Math.Seq.{get_or-append_seam}
use Rattle.std.proofs.lemmas.Bool.{cases_lt, eqb-true, lt-leb}
use Rattle.std.proofs.lemmas.List.{get_or_append_left, length-append, length-take-le, take_all}
use Rattle.cache_model.specs.declared.objects.Object.{Object}
use Rattle.cache_model.specs.Claim.{IsAllowed, before_request, counts_past, holds, only_fills, request_at}
use Rattle.judge_laws.specs.Flags.{is_flagged}
use Rattle.policy_model.specs.Asks.{ask_at}
use Rattle.policy_model.specs.Leaving.{without_member}
use Rattle.policy_model.specs.Runs.{objects_held}
use Rattle.policy_model.specs.States.{Member, State, has_member, member, members_size}
use Rattle.policy_model.proofs.Holdings.{has_member-held}
use Rattle.policy_model.proofs.Leavings.{without_member-gone, without_member-others}
use Rattle.policy_model.proofs.Replays.{IsAsked}
use Rattle.replay_core.specs.Laws.{IsFresh, StateFits}
use Rattle.replay_fresh.specs.Fresh.{is_stale, leaving, replaced}
use Rattle.replay_fresh.specs.FreshRuns.{NoneStays, members_without}
use Rattle.replay_fresh.proofs.KnownRuns.{IsRunTo, held-all}
use Rattle.replay_fresh.proofs.Writes.{IsPlayedTo, written-more, written-none}
use Rattle.replay_hits.specs.FreshHits.{AreFreshHits}

-- what is not held is not held once more has left
has_member-fewer : (members : List Member) (objects : List ℕ) (k : ℕ) → has_member members k ≡ false → has_member (members_without members objects) k ≡ false
has_member-fewer members [] k none = none
has_member-fewer members (j ∷ objects) k none = has_member-fewer (without_member j members) objects k (at (eqb j k) refl)
  where
    at : (b : Bool) → eqb j k ≡ b → has_member (without_member j members) k ≡ false
    at true same = subst (λ n. has_member (without_member n members) k ≡ false) (sym (eqb-true j k same)) (without_member-gone k members)
    at false apart = without_member-others j k members apart ∙ none

-- the object of a stale request is not held once it has left
own-gone : (stale : List Bool) (replace : Bool) (trace : List Object) (t : ℕ) (members : List Member) → is_stale stale t ≡ true → has_member (members_without members (leaving stale replace trace t)) (ask_at trace t).object ≡ false
own-gone stale replace trace t members is =
    let k : ℕ = (ask_at trace t).object in
    let rest : List ℕ = cond replace (replaced trace t) [] in
    ap (λ b. has_member (members_without members (cond b (k ∷ []) [] ++ rest)) k) is ∙ has_member-fewer (without_member k members) rest k (without_member-gone k members)

-- a hit is what is held and not stale, whether it is stale or not
hit-fresh : (stale hit held : Bool) → (stale ≡ true → hit ≡ false) → (stale ≡ false → hit ≡ held) → (held && not stale) ≡ hit
hit-fresh true hit true gone stays = sym (gone refl)
hit-fresh true hit false gone stays = sym (gone refl)
hit-fresh false hit true gone stays = sym (stays refl)
hit-fresh false hit false gone stays = sym (stays refl)

module _ (capacity : ℕ) (stale : List Bool) (replace : Bool) (trace : List Object) where
  -- no request counts: the warm-up is the whole trace
  abbrev pub none_counts : ℕ → Bool
  none_counts = counts_past (length trace) stale

  never : (t : ℕ) → t < length trace → nat_le (length trace) t ≡ false
  never t within = lt-leb (length trace) t within

  pub unscored : (t n : ℕ) (hit : Bool) → t < length trace → 0 ≡ 0 + cond (none_counts t && hit) n 0
  unscored t n hit within = ap (λ b. 0 + cond ((b && not (only_fills stale t)) && hit) n 0) (sym (never t within))

  unwritten : (t n : ℕ) (other : Bool) → t < length trace → 0 ≡ 0 + cond (nat_le (length trace) t && other) n 0
  unwritten t n other within = ap (λ b. 0 + cond (b && other) n 0) (sym (never t within))

  -- t requests were answered: some contents hit exactly at the flags so far
  pub record AreHitsTo (first : Option State) (t : ℕ) (members : List Member) (flags : List Bool) : Type 0 where
    pub played : IsPlayedTo capacity (length trace) stale stale replace trace first t members 0 0 0
    pub each : length flags ≡ t
    pub hits : (k : ℕ) → k < t → (holds (before_request played.scores.contents k) (request_at trace k) && not (is_stale stale k)) ≡ is_flagged flags k

  -- before the first request
  pub flagged-none : (first : Option State) (members : List Member) → members ≡ [] → StateFits first members capacity → AreHitsTo first 0 members []
  flagged-none first members empty fits = record { played = written-none capacity (length trace) stale stale replace trace first members empty fits; each = refl; hits = λ k low. absurd (omega arith) }

  -- one more request
  pub flagged-more : (first after : Option State) (t k size room : ℕ) (old left new : List Member) (flags : List Bool) (hit : Bool)
      → IsAsked trace t k size
      → (ask_at trace t).object ≡ k
      → AreHitsTo first t old flags
      → left ≡ members_without old (leaving stale replace trace t)
      → (is_stale stale t ≡ false → has_member left k ≡ has_member old k)
      → hit ≡ has_member left k
      → ((m : Member) → Contains new m → Contains left m ⊎ (m ≡ member k size))
      → members_size new ≤ capacity
      → AllPairs (λ m n. m.object ≢ n.object) new
      → IsRunTo none_counts stale replace trace first after (t + 1) 0 0
      → StateFits after new room
      → AreHitsTo first (t + 1) new (flags ++ hit ∷ [])
  flagged-more first after t k size room old left new flags hit asked of_k so_far left_is stays hit_is enters fits apart run tells =
      let within : t < length trace = asked.within in
      let ks : List (List Object) = so_far.played.scores.contents in
      let on = written-more capacity (length trace) stale stale replace trace first after t k size room old left new 0 0 0 0 0 0 hit asked so_far.played left_is
      (λ counts. hit_is ∙ stays counts) enters fits apart (unscored t 1 hit within) (unscored t size hit within) (unwritten t size ((only_fills stale t || not hit) && has_member new k) within) run tells in
      let so_long : length (take t trace) ≡ t = length-take-le t trace (omega (arith, within)) in
      let long : length ks ≡ t + 1 = so_far.played.scores.allowed.one_more_than_requests ∙ ap (λ n. n + 1) so_long in
      let gone : is_stale stale t ≡ true → hit ≡ false = λ is.
      hit_is ∙ ap (λ ms. has_member ms k) left_is ∙ subst (λ n. has_member (members_without old (leaving stale replace trace t)) n ≡ false) of_k (own-gone stale replace trace t old is) in
      record {
        played = on.0;
        each = omega (arith, length-append flags (hit ∷ []), so_far.each);
        hits = λ j low.
            let before : before_request on.0.scores.contents j ≡ before_request ks j = ap (λ cs. before_request cs j) on.1 ∙ get_or_append_left ks (objects_held trace new ∷ []) [] j (omega (arith, long, low)) in
            ap (λ h. holds h (request_at trace j) && not (is_stale stale j)) before
            ∙ ⊎_elim
            (λ (early : j < t). so_far.hits j early ∙ sym (get_or_append_left flags (hit ∷ []) false j (omega (arith, so_far.each, early))))
            (λ (late : t ≤ j).
            let here : t ≡ j = omega (arith, late, low) in
            subst (λ i. (holds (before_request ks i) (request_at trace i) && not (is_stale stale i)) ≡ is_flagged (flags ++ hit ∷ []) i) here
            (ap (λ h. holds h (request_at trace t) && not (is_stale stale t)) so_far.played.scores.last
            ∙ ap (λ b. b && not (is_stale stale t)) (sym (has_member-held trace (request_at trace t) k asked.found asked.object old so_far.played.scores.numbered))
            ∙ hit-fresh (is_stale stale t) hit (has_member old k) gone (λ fresh. hit_is ∙ stays fresh)
            ∙ sym (get_or-append_seam flags hit [] false)
            ∙ ap (is_flagged (flags ++ hit ∷ [])) so_far.each))
            (cases_lt j t);
      }

  -- the whole trace
  pub flagged-all : (first : Option State) (t : ℕ) (members : List Member) (flags : List Bool) → t ≡ length trace → IsFresh first → AreHitsTo first t members flags → AreFreshHits first capacity trace stale replace flags
  flagged-all first t members flags end fresh so_far =
      let ks : List (List Object) = so_far.played.scores.contents in
      let all : take t trace ≡ trace = take_all t trace (omega (arith, end)) in
      record {
        each = so_far.each ∙ end;
        contents = ks;
        allowed = subst (λ xs. IsAllowed capacity xs ks) all so_far.played.scores.allowed;
        hits = λ k within. so_far.hits k (omega (arith, end, within));
        none_stays = subst (λ n. NoneStays stale replace trace n ks) end so_far.played.none_stays;
        of_rule = held-all none_counts stale replace trace first t ks ks end fresh so_far.played.of_rule refl;
      }

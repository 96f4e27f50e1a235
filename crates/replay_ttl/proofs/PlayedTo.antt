-- A replay with a time to live after some of the requests: contents that go on from those so far count what was counted.
use Rattle.std.proofs.Common.{◌≡◌, ◌≢◌, ℕ, ◌+◌, ◌<◌, ◌≤◌, ◌⊎◌, ◌∙◌, sym, refl, ap, subst, Bool, true, false, not, ◌&&◌, ◌||◌, cond, nat_le, List, [], ◌∷◌, ◌++◌, length, take, arith, AllPairs, Contains, get_or, inl, inr, ⊎_elim, replicate, set}
use Rattle.std.specs.declared.option.Option.{Option}
use Rattle.std.proofs.Math.Seq.{get_or-append_seam}
use Rattle.std.proofs.lemmas.Bool.{cases_lt}
use Rattle.std.proofs.lemmas.List.{get_or_append_left, length-append, length-take-le, take_all}
use Rattle.cache_model.specs.declared.objects.Object.{Object}
use Rattle.cache_model.specs.Claim.{IsAllowed, before_request, counts_past, holds, only_fills, request_at}
use Rattle.cache_model.specs.Objects.{objects_of}
use Rattle.freshness.specs.Stale.{clock}
use Rattle.policy_model.specs.Asks.{number_of}
use Rattle.policy_model.specs.States.{Member, State, has_member, member, members_size}
use Rattle.policy_model.specs.Runs.{objects_held}
use Rattle.policy_model.proofs.Holdings.{has_member-held}
use Rattle.policy_model.proofs.Replays.{AreScoresTo, IsAsked, played-begin, played-on}
use Rattle.replay_core.specs.Laws.{StateFits}
use Rattle.replay_fresh.specs.Fresh.{is_stale, leaving}
use Rattle.replay_fresh.specs.FreshRuns.{NoneStays, members_without}
use Rattle.replay_fresh.proofs.Left.{asked_or_left, members_without-former}
use Rattle.ttl_laws.proofs.Numbered.{AreOf, of-none}
use Rattle.replay_ttl.specs.Runs.{Timed}
use Rattle.replay_ttl.specs.Played.{IsPlayedWithTtl}
use Rattle.replay_ttl.proofs.Counted.{IsCountedTo, counted-more, written}
use Rattle.replay_ttl.proofs.KnownRuns.{HeldTo, IsRunTo, held-more, held-none, of_rule-all}

-- no request counts
abbrev pub none_counts : ℕ → Bool
none_counts t = false

-- contents that are these up to request t
abbrev pub GoesOn : List (List Object) → ℕ → List (List Object) → Type 0
GoesOn so_far t contents = (j : ℕ) → j ≤ t → before_request contents j ≡ before_request so_far j

module _ (capacity : ℕ) (r : Timed) where
  -- t requests were answered: some contents so far are allowed, and all that go on from them count this
  pub record IsPlayedTo (first : Option State) (t : ℕ) (members : List Member) (clocks : List ℕ) (hits bytes bytes_written : ℕ) (flags : List Bool) : Type 0 where
    pub scores : AreScoresTo capacity none_counts r.trace t members 0 0
    pub none_stays : NoneStays r.stale r.replace r.trace t scores.contents
    pub each : length flags ≡ t
    pub counted : (cs : List (List Object)) → GoesOn scores.contents t cs → IsCountedTo r cs t clocks hits bytes bytes_written flags
    pub of_rule : HeldTo r first t scores.contents

  -- before the first request
  pub played-none : (first : Option State) (members : List Member) (clocks : List ℕ) (flags : List Bool) → members ≡ [] → StateFits first members capacity → clocks ≡ replicate (length (objects_of r.trace)) 0 → flags ≡ []
      → IsPlayedTo first 0 members clocks 0 0 0 flags
  played-none first members clocks flags empty fits none no_flags =
      let begin = played-begin capacity none_counts r.trace members empty in
      record {
        scores = begin.0;
        none_stays = λ u low. absurd (omega arith);
        each = ap (λ fs. length fs) no_flags;
        counted = λ cs on. record {
          clocks_are = subst (AreOf r.trace (written r cs 0)) (sym none) (of-none r.trace (written r cs 0) (length (objects_of r.trace)) refl (λ x. refl));
          hits_are = refl;
          bytes_are = refl;
          written_are = refl;
          flags_are = λ j low. absurd (omega arith);
        };
        of_rule = held-none r first capacity members empty fits begin.0.contents begin.1;
      }

  -- what leaves before it is not there after it
  none_stays-more : (t : ℕ) (ks : List (List Object)) (next : List Object) → length ks ≡ t + 1 → NoneStays r.stale r.replace r.trace t ks
      → ((x : Object) → Contains next x → Contains (leaving r.stale r.replace r.trace t) (number_of r.trace x) → x ≡ request_at r.trace t) → NoneStays r.stale r.replace r.trace (t + 1) (ks ++ next ∷ [])
  none_stays-more t ks next long so_far last u low x held leaves =
      ⊎_elim
      (λ (before : u < t). so_far u before x (subst (λ h. Contains h x) (get_or_append_left ks (next ∷ []) [] (u + 1) (omega (arith, long, before))) held) leaves)
      (λ (here : t ≤ u).
      let same : u ≡ t = omega (arith, low, here) in
      let now : before_request (ks ++ next ∷ []) (u + 1) ≡ next = ap (before_request (ks ++ next ∷ [])) (omega (arith, long, same)) ∙ get_or-append_seam ks next [] [] in
      last x (subst (λ h. Contains h x) now held) (subst (λ n. Contains (leaving r.stale r.replace r.trace n) (number_of r.trace x)) same leaves) ∙ ap (request_at r.trace) (sym same))
      (cases_lt u t)

  -- one more request, before which the former members may leave
  pub played-more : (first after : Option State) (t k size clock_now room : ℕ) (old middle left new : List Member) (aged : List ℕ) (clocks more_clocks : List ℕ)
      (hits bytes bytes_written more_hits more_bytes more_written : ℕ) (flags : List Bool) (hit anew : Bool)
      → IsAsked r.trace t k size
      → IsPlayedTo first t old clocks hits bytes bytes_written flags
      → clock_now ≡ clock r.times t
      → middle ≡ members_without old aged
      → left ≡ members_without middle (leaving r.stale r.replace r.trace t)
      → hit ≡ (has_member old k && not (is_stale r.stale t) && nat_le clock_now (get_or clocks k 0 + r.ttl))
      → (is_stale r.stale t ≡ true → only_fills r.fills t ≡ true)
      → ((m : Member) → Contains new m → Contains left m ⊎ (m ≡ member k size))
      → members_size new ≤ capacity
      → AllPairs (λ m n. m.object ≢ n.object) new
      → anew ≡ ((only_fills r.fills t || not hit) && has_member new k)
      → more_clocks ≡ cond anew (set clocks k clock_now) clocks
      → more_hits ≡ hits + cond (counts_past r.warmup r.fills t && hit) 1 0
      → more_bytes ≡ bytes + cond (counts_past r.warmup r.fills t && hit) size 0
      → more_written ≡ bytes_written + cond (nat_le r.warmup t && anew) size 0
      → IsRunTo r first after (t + 1) more_clocks more_hits more_bytes
      → StateFits after new room
      → IsPlayedTo first (t + 1) new more_clocks more_hits more_bytes more_written (flags ++ hit ∷ [])
  played-more first after t k size clock_now room old middle left new aged clocks more_clocks hits bytes bytes_written more_hits more_bytes more_written flags hit anew
      asked so_far clock_is middle_is left_is hit_is fill enters fits apart anew_is clocks_is hits_more bytes_more written_more run tells =
      let within : t < length r.trace = asked.within in
      let ks : List (List Object) = so_far.scores.contents in
      let own : Object = request_at r.trace t in
      let was_middle : (m : Member) → Contains middle m → Contains old m = subst (λ ms. (m : Member) → Contains ms m → Contains old m) (sym middle_is) (members_without-former old aged) in
      let former : (m : Member) → Contains left m → Contains old m = λ m c.
      was_middle m (members_without-former middle (leaving r.stale r.replace r.trace t) m (subst (λ ms. Contains ms m) left_is c)) in
      let on = played-on capacity none_counts r.trace t k size old new 0 0 0 0 (has_member old k) asked so_far.scores
      (λ m c. ⊎_elim (λ (was : Contains left m). inl (former m was)) (λ (is_own : m ≡ member k size). inr is_own) (enters m c)) fits apart refl refl refl in
      let so_long : length (take t r.trace) ≡ t = length-take-le t r.trace (omega (arith, within)) in
      let long : length ks ≡ t + 1 = so_far.scores.allowed.one_more_than_requests ∙ ap (λ n. n + 1) so_long in
      let earlier : (j : ℕ) → j ≤ t → before_request on.0.contents j ≡ before_request ks j = λ j low.
      ap (λ cs. before_request cs j) on.1 ∙ get_or_append_left ks (objects_held r.trace new ∷ []) [] j (omega (arith, long, low)) in
      record {
        scores = on.0;
        none_stays = subst (NoneStays r.stale r.replace r.trace (t + 1)) (sym on.1)
            (none_stays-more t ks (objects_held r.trace new) long so_far.none_stays
            (asked_or_left r.trace t k size middle left new (leaving r.stale r.replace r.trace t) asked on.0.numbered left_is enters));
        each = omega (arith, length-append flags (hit ∷ []), so_far.each);
        counted = λ cs goes_on.
            let was : holds (before_request cs t) own ≡ has_member old k =
            ap (λ h. holds h own) (goes_on t (omega arith) ∙ earlier t (omega arith) ∙ so_far.scores.last) ∙ sym (has_member-held r.trace own k asked.found asked.object old so_far.scores.numbered) in
            let then : holds (before_request cs (t + 1)) own ≡ has_member new k =
            ap (λ h. holds h own) (goes_on (t + 1) (omega arith) ∙ on.0.last) ∙ sym (has_member-held r.trace own k asked.found asked.object new on.0.numbered) in
            counted-more r cs t k size asked clocks hits bytes bytes_written flags (so_far.counted cs (λ j low. goes_on j (omega (arith, low)) ∙ earlier j low))
            clock_now more_hits more_bytes more_written more_clocks hit (has_member old k) (has_member new k) anew
            clock_is hit_is was then fill anew_is clocks_is hits_more bytes_more written_more so_far.each;
        of_rule = held-more r first after t room more_hits more_bytes more_clocks new ks on.0.contents so_far.of_rule run tells on.1;
      }

  -- the whole trace
  pub played-all : (first now : Option State) (t : ℕ) (members : List Member) (clocks : List ℕ) (hits bytes bytes_written : ℕ) (flags : List Bool)
      → t ≡ length r.trace → IsPlayedTo first t members clocks hits bytes bytes_written flags → IsRunTo r first now t clocks hits bytes
      → IsPlayedWithTtl first capacity r hits bytes bytes_written flags
  played-all first now t members clocks hits bytes bytes_written flags end played run =
      let ks : List (List Object) = played.scores.contents in
      let all : take t r.trace ≡ r.trace = take_all t r.trace (omega (arith, end)) in
      let counts : IsCountedTo r ks (length r.trace) clocks hits bytes bytes_written flags =
      subst (λ n. IsCountedTo r ks n clocks hits bytes bytes_written flags) end (played.counted ks (λ j low. refl)) in
      record {
        contents = ks;
        allowed = subst (λ xs. IsAllowed capacity xs ks) all played.scores.allowed;
        hits_are = counts.hits_are;
        bytes_are = counts.bytes_are;
        written_are = counts.written_are;
        each = played.each ∙ end;
        flags_are = counts.flags_are;
        none_stays = subst (λ n. NoneStays r.stale r.replace r.trace n ks) end played.none_stays;
        of_rule = of_rule-all r first now t hits bytes clocks ks end played.of_rule run;
      }

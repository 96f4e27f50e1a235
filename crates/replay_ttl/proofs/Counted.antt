-- What is counted of the first requests, and what the next one adds.
use Rattle.std.proofs.Common.{◌≡◌, ℕ, suc, ◌+◌, ◌<◌, ◌≤◌, ⊎_elim, ◌∙◌, sym, refl, ap, subst, Bool, true, false, not, ◌&&◌, ◌||◌, cond, nat_le, List, [], ◌∷◌, ◌++◌, length, arith, get_or, set, sum_by}
use Rattle.std.specs.List.{range_with_len}
use Rattle.std.proofs.Math.Seq.{get_or-append_seam}
use Rattle.std.proofs.lemmas.Bool.{both_ways, cases_lt}
use Rattle.std.proofs.lemmas.List.{get_or_append_left}
use Rattle.cache_model.specs.declared.objects.Object.{Object}
use Rattle.cache_model.specs.declared.objects.Objective.{Objective}
use Rattle.cache_model.specs.declared.objects.Objective.TheVariants.{Object as Hits, Bytes}
use Rattle.cache_model.specs.Claim.{before_request, counts_past, gain_of, holds, only_fills, request_at, same_object}
use Rattle.cache_model.proofs.Duality.{same_object-refl}
use Rattle.freshness.specs.Stale.{clock}
use Rattle.judge_laws.specs.Flags.{is_flagged}
use Rattle.policy_model.proofs.Replays.{IsAsked}
use Rattle.replay_fresh.specs.Fresh.{is_stale}
use Rattle.ttl_laws.specs.Fresh.{is_fresh_hit, writes_anew, written_at}
use Rattle.ttl_laws.proofs.Numbered.{AreOf, of-own, of-same, of-set}
use Rattle.ttl_scores.specs.Written.{writes_own}
use Rattle.ttl_scores.proofs.Known.{sum-more}
use Rattle.replay_ttl.specs.Runs.{Timed}
use Rattle.replay_ttl.specs.Played.{finds}

-- a fresh hit is what is found by a request that doesn't only fill, as stale ones do
fresh-found : (held stale only young : Bool) → (stale ≡ true → only ≡ true) → (held && not only && young) ≡ (not only && (held && not stale && young))
fresh-found true true true young fill = refl
fresh-found false true true young fill = refl
fresh-found held true false young fill = absurd (both_ways false refl (fill refl))
fresh-found true false true young fill = refl
fresh-found false false true young fill = refl
fresh-found true false false young fill = refl
fresh-found false false false young fill = refl

-- a request that counts doesn't only fill
counted-twice : (past only hit : Bool) → ((past && not only) && hit) ≡ ((past && not only) && (not only && hit))
counted-twice true true hit = refl
counted-twice true false hit = refl
counted-twice false only hit = refl

-- what is held after a request, and is no fresh hit
written-found : (only hit after : Bool) → ((only || not hit) && after) ≡ (after && not (not only && hit))
written-found true hit true = refl
written-found true hit false = refl
written-found false true true = refl
written-found false true false = refl
written-found false false true = refl
written-found false false false = refl

module _ (r : Timed) (cs : List (List Object)) where
  -- the clock at the last of the first n requests that wrote x
  abbrev pub written : ℕ → Object → ℕ
  written n x = written_at r.fills r.trace r.times r.ttl cs n x

  abbrev pub is_fresh : ℕ → Bool
  is_fresh t = is_fresh_hit r.fills r.trace r.times r.ttl cs t

  abbrev pub writes : ℕ → Bool
  writes t = writes_own r.fills r.trace r.times r.ttl cs t

  -- what request t earns, and what it writes past the warm-up
  abbrev pub earned_at : Objective → ℕ → ℕ
  earned_at o t = cond (counts_past r.warmup r.fills t && is_fresh t) (gain_of o (request_at r.trace t)) 0

  abbrev pub written_past : ℕ → ℕ
  written_past t = cond (nat_le r.warmup t && writes t) (request_at r.trace t).size 0

  -- t requests were counted, as these contents hit and write
  pub record IsCountedTo (t : ℕ) (clocks : List ℕ) (hits bytes bytes_written : ℕ) (flags : List Bool) : Type 0 where
    pub clocks_are : AreOf r.trace (written t) clocks
    pub hits_are : hits ≡ sum_by (earned_at Hits) (range_with_len 0 t)
    pub bytes_are : bytes ≡ sum_by (earned_at Bytes) (range_with_len 0 t)
    pub written_are : bytes_written ≡ sum_by written_past (range_with_len 0 t)
    pub flags_are : (j : ℕ) → j < t → is_flagged flags j ≡ finds r cs j

  module _ (t : ℕ) where
    abbrev own : Object
    own = request_at r.trace t

    -- a request for another object changes nothing of when x was last written
    written-other : (x : Object) → same_object own x ≡ false → written (t + 1) x ≡ written t x
    written-other x differs =
        let next : t + 1 ≡ suc t = omega arith in
        ap (λ n. written n x) next
        ∙ ap (λ b. cond (b && writes_anew r.fills r.times r.ttl cs t x (written t x)) (clock r.times t) (written t x)) differs

    -- and its own is written at its clock, if at all
    written-own : written (t + 1) own ≡ cond (writes t) (clock r.times t) (written t own)
    written-own =
        let next : t + 1 ≡ suc t = omega arith in
        ap (λ n. written n own) next
        ∙ ap (λ b. cond (b && writes_anew r.fills r.times r.ttl cs t own (written t own)) (clock r.times t) (written t own)) (same_object-refl own)

    -- the flags, one request later
    flags-more : (flags : List Bool) (hit : Bool) → length flags ≡ t → hit ≡ finds r cs t → ((j : ℕ) → j < t → is_flagged flags j ≡ finds r cs j)
        → (j : ℕ) → j < t + 1 → is_flagged (flags ++ hit ∷ []) j ≡ finds r cs j
    flags-more flags hit each found so_far j low =
        ⊎_elim
        (λ (early : j < t). get_or_append_left flags (hit ∷ []) false j (omega (arith, each, early)) ∙ so_far j early)
        (λ (late : t ≤ j).
        let here : length flags ≡ j = omega (arith, each, late, low) in
        let same : t ≡ j = omega (arith, late, low) in
        ap (is_flagged (flags ++ hit ∷ [])) (sym here) ∙ get_or-append_seam flags hit [] false ∙ found ∙ ap (finds r cs) same)
        (cases_lt j t)

    module _ (k size : ℕ) (asked : IsAsked r.trace t k size) (clocks : List ℕ) (hits bytes bytes_written : ℕ) (flags : List Bool)
        (so_far : IsCountedTo t clocks hits bytes bytes_written flags) where
      -- what is kept at the number of an object is the clock at its last write
      pub clock-kept : get_or clocks k 0 ≡ written t own
      clock-kept = of-own r.trace t k asked.found (written t) (written (t + 1)) clocks so_far.clocks_are written-other

      -- the clocks, one request later
      clocks-more : (anew : Bool) (after : List ℕ) → anew ≡ writes t → after ≡ cond anew (set clocks k (clock r.times t)) clocks → AreOf r.trace (written (t + 1)) after
      clocks-more anew after anew_is after_is = subst (AreOf r.trace (written (t + 1))) (sym after_is) (at anew anew_is)
        where
          at : (b : Bool) → b ≡ writes t → AreOf r.trace (written (t + 1)) (cond b (set clocks k (clock r.times t)) clocks)
          at true is =
              of-set r.trace t k asked.found (written t) (written (t + 1)) clocks so_far.clocks_are written-other (clock r.times t)
              (written-own ∙ ap (λ b. cond b (clock r.times t) (written t own)) (sym is))
          at false is =
              of-same r.trace t k asked.found (written t) (written (t + 1)) clocks so_far.clocks_are written-other
              (written-own ∙ ap (λ b. cond b (clock r.times t) (written t own)) (sym is))

      -- one more request, which is answered as a hit or not, and after which its object is held or not
      pub counted-more : (now more_hits more_bytes more_written : ℕ) (after_clocks : List ℕ) (hit held after anew : Bool)
          → now ≡ clock r.times t
          → hit ≡ (held && not (is_stale r.stale t) && nat_le now (get_or clocks k 0 + r.ttl))
          → holds (before_request cs t) own ≡ held
          → holds (before_request cs (t + 1)) own ≡ after
          → (is_stale r.stale t ≡ true → only_fills r.fills t ≡ true)
          → anew ≡ ((only_fills r.fills t || not hit) && after)
          → after_clocks ≡ cond anew (set clocks k now) clocks
          → more_hits ≡ hits + cond (counts_past r.warmup r.fills t && hit) 1 0
          → more_bytes ≡ bytes + cond (counts_past r.warmup r.fills t && hit) size 0
          → more_written ≡ bytes_written + cond (nat_le r.warmup t && anew) size 0
          → length flags ≡ t
          → IsCountedTo (t + 1) after_clocks more_hits more_bytes more_written (flags ++ hit ∷ [])
      counted-more now more_hits more_bytes more_written after_clocks hit held after anew now_is hit_is was then fill anew_is clocks_is hits_more bytes_more written_more each =
          let only : Bool = only_fills r.fills t in
          let stale : Bool = is_stale r.stale t in
          let young : Bool = nat_le (clock r.times t) (written t own + r.ttl) in
          let found : hit ≡ finds r cs t =
          hit_is
          ∙ ap (λ n. held && not stale && nat_le n (get_or clocks k 0 + r.ttl)) now_is
          ∙ ap (λ n. held && not stale && nat_le (clock r.times t) (n + r.ttl)) clock-kept
          ∙ ap (λ b. b && not stale && young) (sym was) in
          let fresh : is_fresh t ≡ (not only && hit) =
          fresh-found (holds (before_request cs t) own) stale only young fill ∙ ap (λ b. not only && b) (sym found) in
          let counts : (counts_past r.warmup r.fills t && hit) ≡ (counts_past r.warmup r.fills t && is_fresh t) =
          counted-twice (nat_le r.warmup t) only hit ∙ ap (λ b. counts_past r.warmup r.fills t && b) (sym fresh) in
          let writes_is : anew ≡ writes t =
          anew_is
          ∙ written-found only hit after
          ∙ ap (λ b. b && not (not only && hit)) (sym then)
          ∙ ap (λ b. holds (before_request cs (t + 1)) own && not b) (sym fresh) in
          record {
            clocks_are = clocks-more anew after_clocks writes_is (clocks_is ∙ ap (λ n. cond anew (set clocks k n) clocks) now_is);
            hits_are = sum-more (earned_at Hits) t hits (cond (counts_past r.warmup r.fills t && hit) 1 0) more_hits so_far.hits_are (ap (λ b. cond b 1 0) counts) hits_more;
            bytes_are = sum-more (earned_at Bytes) t bytes (cond (counts_past r.warmup r.fills t && hit) size 0) more_bytes so_far.bytes_are
                (ap (λ b. cond b size 0) counts ∙ ap (λ n. cond (counts_past r.warmup r.fills t && is_fresh t) n 0) asked.size_is) bytes_more;
            written_are = sum-more written_past t bytes_written (cond (nat_le r.warmup t && anew) size 0) more_written so_far.written_are
                (ap (λ b. cond (nat_le r.warmup t && b) size 0) writes_is ∙ ap (λ n. cond (nat_le r.warmup t && writes t) n 0) asked.size_is) written_more;
            flags_are = flags-more flags hit each found so_far.flags_are;
          }

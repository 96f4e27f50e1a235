-- What is known of each object after the first requests, and what the next one adds.
use Rattle.std.proofs.Common.{◌≡◌, ℕ, suc, ◌+◌, ◌<◌, ◌≤◌, ◌∙◌, sym, refl, subst, ap, Bool, true, false, not, ◌&&◌, cond, nat_le, List, length, arith, get_or, position, replicate, set, Some, sum_by}
use Rattle.std.specs.List.{range_with_len}
use Rattle.cache_model.specs.declared.objects.Object.{Object}
use Rattle.cache_model.specs.Claim.{Terms, contents_of, counts, gain_of, held_before, holds, is_kept, only_fills, request_at, same_object}
use Rattle.cache_model.specs.Objects.{objects_of}
use Rattle.cache_model.proofs.Duality.{same_object-refl}
use Rattle.cache_model.proofs.Scores.{before_request-contents_of}
use Rattle.cache_model.proofs.Streams.{sum_by-range_last}
use Rattle.cache_model.proofs.Written.{holds-own}
use Rattle.freshness.specs.Stale.{clock}
use Rattle.ttl_laws.specs.Fresh.{is_fresh_hit, writes_anew, written_at}
use Rattle.ttl_laws.proofs.Numbered.{AreOf, of-none, of-own, of-same, of-set}
use Rattle.ttl_scores.specs.Written.{writes_own}

-- what request t earns, and what it writes past the warm-up
abbrev pub earned_at : Terms → List Object → List ℕ → ℕ → List Bool → ℕ → ℕ
earned_at terms trace times ttl keeps t =
    cond (counts terms t && is_fresh_hit terms.fills trace times ttl (contents_of trace keeps) t) (gain_of terms.objective (request_at trace t)) 0

abbrev pub written_past : ℕ → List Bool → List Object → List ℕ → ℕ → List Bool → ℕ → ℕ
written_past warmup fills trace times ttl keeps t =
    cond (nat_le warmup t && writes_own fills trace times ttl (contents_of trace keeps) t) (request_at trace t).size 0

-- a sum, one request later
pub sum-more : (f : ℕ → ℕ) (t before more after : ℕ) → before ≡ sum_by f (range_with_len 0 t) → more ≡ f t → after ≡ before + more
    → after ≡ sum_by f (range_with_len 0 (t + 1))
sum-more f t before more after before_is more_is adds =
    let next : t + 1 ≡ suc t = omega arith in
    let last : sum_by f (range_with_len 0 (t + 1)) ≡ sum_by f (range_with_len 0 t) + f t
    = ap (λ n. sum_by f (range_with_len 0 n)) next ∙ sum_by-range_last f t in
    omega (arith, before_is, more_is, adds, last)

-- what is earned by a request is what its object gains by a fresh hit
pub earned-found : (terms : Terms) (trace : List Object) (times : List ℕ) (ttl : ℕ) (keeps : List Bool) (t earned : ℕ) (object : Object) (fresh : Bool)
    → object ≡ request_at trace t → fresh ≡ is_fresh_hit terms.fills trace times ttl (contents_of trace keeps) t
    → earned ≡ cond (counts terms t && fresh) (gain_of terms.objective object) 0 → earned ≡ earned_at terms trace times ttl keeps t
earned-found terms trace times ttl keeps t earned object fresh object_is fresh_is earned_is =
    earned_is
    ∙ ap (λ x. cond (counts terms t && fresh) (gain_of terms.objective x) 0) object_is
    ∙ ap (λ b. cond (counts terms t && b) (gain_of terms.objective (request_at trace t)) 0) fresh_is

-- and what is written is its size
pub written-found : (warmup : ℕ) (fills : List Bool) (trace : List Object) (times : List ℕ) (ttl : ℕ) (keeps : List Bool) (t written : ℕ) (object : Object) (writes : Bool)
    → object ≡ request_at trace t → writes ≡ writes_own fills trace times ttl (contents_of trace keeps) t
    → written ≡ cond (nat_le warmup t && writes) object.size 0 → written ≡ written_past warmup fills trace times ttl keeps t
written-found warmup fills trace times ttl keeps t written object writes object_is writes_is written_is =
    written_is
    ∙ ap (λ (x : Object). cond (nat_le warmup t && writes) x.size 0) object_is
    ∙ ap (λ b. cond (nat_le warmup t && b) (request_at trace t).size 0) writes_is

-- a size or none is at most the size
pub size-le : (past : Bool) (size most : ℕ) → size ≤ most → cond past size 0 ≤ most
size-le true size most small = small
size-le false size most small = omega arith

module _ (fills : List Bool) (trace : List Object) (times : List ℕ) (ttl : ℕ) (keeps : List Bool) where
  -- what the keeps stand for
  abbrev contents : List (List Object)
  contents = contents_of trace keeps

  abbrev written : ℕ → Object → ℕ
  written n x = written_at fills trace times ttl contents n x

  -- of each object the clock at the last of the first n requests that wrote it
  abbrev pub HasClocks : ℕ → List ℕ → Type 0
  HasClocks n clocks = AreOf trace (written n) clocks

  -- nothing was written before the first request
  pub clocks-first : (objects : ℕ) → objects ≡ length (objects_of trace) → HasClocks 0 (replicate objects 0)
  clocks-first objects all = of-none trace (written 0) objects all (λ x. refl)

  module _ (t : ℕ) (within : t < length trace) where
    abbrev own : Object
    own = request_at trace t

    -- a fresh hit is found by the clock at the last write of its object
    pub fresh-found : (now last : ℕ) (fresh : Bool) → now ≡ clock times t → last ≡ written t own
        → fresh ≡ (holds (held_before trace keeps t) own && not (only_fills fills t) && nat_le now (last + ttl))
        → fresh ≡ is_fresh_hit fills trace times ttl contents t
    fresh-found now last fresh now_is last_is fresh_is =
        fresh_is
        ∙ ap (λ n. holds (held_before trace keeps t) own && not (only_fills fills t) && nat_le n (last + ttl)) now_is
        ∙ ap (λ n. holds (held_before trace keeps t) own && not (only_fills fills t) && nat_le (clock times t) (n + ttl)) last_is
        ∙ ap (λ held. holds held own && not (only_fills fills t) && nat_le (clock times t) (written t own + ttl))
        (sym (before_request-contents_of trace keeps t (omega arith)))

    -- and what is kept, and is none, is written
    pub writes-found : (writes fresh : Bool) → writes ≡ (is_kept keeps t && not fresh) → fresh ≡ is_fresh_hit fills trace times ttl contents t
        → writes ≡ writes_own fills trace times ttl contents t
    writes-found writes fresh writes_is fresh_is =
        let hit : Bool = is_fresh_hit fills trace times ttl contents t in
        writes_is
        ∙ ap (λ b. is_kept keeps t && not b) fresh_is
        ∙ ap (λ b. b && not hit) (sym (holds-own trace keeps t within))
        ∙ ap (λ held. holds held own && not hit) (sym (before_request-contents_of trace keeps (t + 1) (omega arith)))

    -- a request for another object changes nothing of when x was last written
    written-other : (x : Object) → same_object own x ≡ false → written (t + 1) x ≡ written t x
    written-other x differs =
        let next : t + 1 ≡ suc t = omega arith in
        ap (λ n. written n x) next
        ∙ ap (λ b. cond (b && writes_anew fills times ttl contents t x (written t x)) (clock times t) (written t x)) differs

    -- and its own is written at its clock, if at all
    written-own : written (t + 1) own ≡ cond (writes_own fills trace times ttl contents t) (clock times t) (written t own)
    written-own =
        let next : t + 1 ≡ suc t = omega arith in
        ap (λ n. written n own) next
        ∙ ap (λ b. cond (b && writes_anew fills times ttl contents t own (written t own)) (clock times t) (written t own)) (same_object-refl own)

    module _ (number : ℕ) (numbered : position (same_object (request_at trace t)) (objects_of trace) ≡ Some number)
        (clocks : List ℕ) (has : HasClocks t clocks) where
      -- what is kept at the number of an object is the clock at its last write
      pub clock-kept : get_or clocks number 0 ≡ written t own
      clock-kept = of-own trace t number numbered (written t) (written (t + 1)) clocks has written-other

      -- a request that writes notes its clock
      pub clocks-written : (now : ℕ) (after : List ℕ) → now ≡ clock times t → writes_own fills trace times ttl contents t ≡ true
          → after ≡ set clocks number now → HasClocks (t + 1) after
      clocks-written now after now_is writes noted =
          subst (AreOf trace (written (t + 1))) (sym noted)
          (of-set trace t number numbered (written t) (written (t + 1)) clocks has written-other now
          (written-own ∙ ap (λ b. cond b (clock times t) (written t own)) writes ∙ sym now_is))

      -- and one that doesn't notes nothing
      pub clocks-unwritten : (after : List ℕ) → writes_own fills trace times ttl contents t ≡ false → after ≡ clocks → HasClocks (t + 1) after
      clocks-unwritten after none same_list =
          subst (AreOf trace (written (t + 1))) (sym same_list)
          (of-same trace t number numbered (written t) (written (t + 1)) clocks has written-other
          (written-own ∙ ap (λ b. cond b (clock times t) (written t own)) none))

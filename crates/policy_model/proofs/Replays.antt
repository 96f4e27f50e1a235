-- A replay after some of the requests: the contents so far, and the run so far.
use Rattle.std.proofs.Common.{◌≡◌, ◌≢◌, ℕ, ◌+◌, ◌<◌, ◌≤◌, ◌⊎◌, ◌∙◌, sym, refl, ap, subst, Bool, ◌&&◌, ◌||◌, eqb, cond, List, [], ◌∷◌, ◌++◌, length, take, fold, arith, Some, position, All, AllPairs, Contains}
use Rattle.std.proofs.Math.Seq.{get_or-append_seam}
use Rattle.std.proofs.lemmas.List.{length-take-le, take_more, take_all}
use Rattle.std.proofs.lemmas.List.Elements.{All-nil}
use Rattle.std.proofs.lemmas.List.FromFn.{get_or-map-range_with_len, length-map-range_with_len}
use Rattle.std.proofs.lemmas.List.Sums.{fold_more}
use Rattle.cache_model.specs.declared.objects.Object.{Object}
use Rattle.cache_model.specs.declared.objects.Objective.{Objective}
use Rattle.cache_model.specs.declared.objects.Objective.TheVariants.{Object as Hits, Bytes}
use Rattle.cache_model.specs.Claim.{same_object, counts_past, gain_of, holds, before_request, IsAllowed}
use Rattle.cache_model.specs.Objects.{objects_of}
use Rattle.cache_model.specs.Claim.{no_object, request_at}
use Rattle.policy_model.specs.States.{Member, Entry, State, member, members_of, has_member, has_entry, members_size}
use Rattle.policy_model.specs.Asks.{object_numbered, ask_at, asks_of}
use Rattle.policy_model.specs.Runs.{Run, run_step, run_from, AreScores, objects_held}
use Rattle.policy_model.proofs.AllowedContents.{allowed-none, allowed-more, score_from, score_from-more}
use Rattle.policy_model.proofs.Holdings.{IsNumbered, total_size-held, apart-held, has_member-held, numbered-more, held-more}

-- t requests were answered: some contents, the last of them those of the members, are allowed contents that earns the hits and bytes
pub record AreScoresTo (capacity : ℕ) (counted : ℕ → Bool) (trace : List Object) (t : ℕ) (members : List Member) (hits bytes : ℕ) : Type 0 where
  pub contents : List (List Object)
  pub allowed : IsAllowed capacity (take t trace) contents
  pub last : before_request contents t ≡ objects_held trace members
  pub hits_are : hits ≡ score_from counted Hits (take t trace) contents
  pub bytes_are : bytes ≡ score_from counted Bytes (take t trace) contents
  pub numbered : All (IsNumbered trace) members

-- before the first request
pub played-begin : (capacity : ℕ) (counted : ℕ → Bool) (trace : List Object) (members : List Member) → members ≡ [] → (played : AreScoresTo capacity counted trace 0 members 0 0) × (played.contents ≡ [] ∷ [])
played-begin capacity counted trace members empty = (
  record {
    contents = [] ∷ [];
    allowed = allowed-none capacity;
    last = sym (ap (objects_held trace) empty);
    hits_are = nothing Hits;
    bytes_are = nothing Bytes;
    numbered = subst (All (IsNumbered trace)) (sym empty) (All-nil (IsNumbered trace));
  },
  refl,
)
  where
    nothing : (o : Objective) → 0 ≡ score_from counted o [] ([] ∷ [])
    nothing o = refl

pub played-none : (capacity : ℕ) (counted : ℕ → Bool) (trace : List Object) (members : List Member) → members ≡ [] → AreScoresTo capacity counted trace 0 members 0 0
played-none capacity counted trace members empty = (played-begin capacity counted trace members empty).0

-- the request t asks for the object of this number and size
pub record IsAsked (trace : List Object) (t k size : ℕ) : Type 0 where
  pub within : t < length trace
  pub found : position (same_object (request_at trace t)) (objects_of trace) ≡ Some k
  pub object : object_numbered trace k ≡ request_at trace t
  pub size_is : size ≡ (request_at trace t).size

-- one more request, after which the members are former ones or the one requested, and fit: they are the last contents
pub played-on : (capacity : ℕ) (counted : ℕ → Bool) (trace : List Object) (t k size : ℕ) (old new : List Member) (hits bytes more_hits more_bytes : ℕ) (hit : Bool)
    → IsAsked trace t k size
    → (played : AreScoresTo capacity counted trace t old hits bytes)
    → ((m : Member) → Contains new m → Contains old m ⊎ (m ≡ member k size))
    → members_size new ≤ capacity
    → AllPairs (λ m n. m.object ≢ n.object) new
    → hit ≡ has_member old k
    → more_hits ≡ hits + cond (counted t && hit) 1 0
    → more_bytes ≡ bytes + cond (counted t && hit) size 0
    → (more : AreScoresTo capacity counted trace (t + 1) new more_hits more_bytes) × (more.contents ≡ played.contents ++ objects_held trace new ∷ [])
played-on capacity counted trace t k size old new hits bytes more_hits more_bytes hit asked played enters fits apart hit_is hits_more bytes_more =
    let x : Object = request_at trace t in
    let within : t < length trace = asked.within in
    let so_far : length (take t trace) ≡ t = length-take-le t trace (omega arith) in
    let longer : take (t + 1) trace ≡ take t trace ++ x ∷ [] = take_more trace t no_object within in
    let enters_sized : (m : Member) → Contains new m → Contains old m ⊎ (m ≡ member k x.size) =
    subst (λ s. (m : Member) → Contains new m → Contains old m ⊎ (m ≡ member k s)) asked.size_is enters in
    let numbered : All (IsNumbered trace) new = numbered-more trace x k asked.found asked.object old new enters_sized played.numbered in
    let long : length played.contents ≡ length (take t trace) + 1 = played.allowed.one_more_than_requests in
    let here : before_request played.contents (length (take t trace)) ≡ objects_held trace old = ap (before_request played.contents) so_far ∙ played.last in
    let hits_object : hit ≡ holds (before_request played.contents (length (take t trace))) x =
    hit_is ∙ has_member-held trace x k asked.found asked.object old played.numbered ∙ ap (λ h. holds h x) (sym here) in
    let allowed : IsAllowed capacity (take t trace ++ x ∷ []) (played.contents ++ objects_held trace new ∷ []) =
    allowed-more capacity (take t trace) x played.contents (objects_held trace new) played.allowed
    (λ y m. subst (λ h. Contains h y ⊎ (x ≡ y)) (sym here) (held-more trace x k asked.found asked.object old new enters_sized played.numbered y m))
    (omega (arith, total_size-held trace new numbered))
    (apart-held trace new numbered apart) in
    let earned : (o : Objective) → score_from counted o (take (t + 1) trace) (played.contents ++ objects_held trace new ∷ [])
    ≡ score_from counted o (take t trace) played.contents + cond (counted t && hit) (gain_of o x) 0 =
    λ o. ap (λ xs. score_from counted o xs (played.contents ++ objects_held trace new ∷ [])) longer
    ∙ score_from-more counted o (take t trace) x played.contents (objects_held trace new) long
    ∙ ap (λ n. score_from counted o (take t trace) played.contents + cond (counted n && holds (before_request played.contents (length (take t trace))) x) (gain_of o x) 0) so_far
    ∙ ap (λ b. score_from counted o (take t trace) played.contents + cond (counted t && b) (gain_of o x) 0) (sym hits_object) in (
      record {
        contents = played.contents ++ objects_held trace new ∷ [];
        allowed = subst (λ xs. IsAllowed capacity xs (played.contents ++ objects_held trace new ∷ [])) (sym longer) allowed;
        last = ap (λ n. before_request (played.contents ++ objects_held trace new ∷ []) n) (omega (arith, long, so_far)) ∙ get_or-append_seam played.contents (objects_held trace new) [] [];
        hits_are = hits_more ∙ ap (λ n. n + cond (counted t && hit) 1 0) played.hits_are ∙ sym (earned Hits);
        bytes_are = bytes_more ∙ ap (λ n. n + cond (counted t && hit) size 0) played.bytes_are
            ∙ ap (λ s. score_from counted Bytes (take t trace) played.contents + cond (counted t && hit) s 0) asked.size_is ∙ sym (earned Bytes);
        numbered = numbered;
      },
      refl,
    )

pub played-more : (capacity : ℕ) (counted : ℕ → Bool) (trace : List Object) (t k size : ℕ) (old new : List Member) (hits bytes more_hits more_bytes : ℕ) (hit : Bool)
    → IsAsked trace t k size
    → AreScoresTo capacity counted trace t old hits bytes
    → ((m : Member) → Contains new m → Contains old m ⊎ (m ≡ member k size))
    → members_size new ≤ capacity
    → AllPairs (λ m n. m.object ≢ n.object) new
    → hit ≡ has_member old k
    → more_hits ≡ hits + cond (counted t && hit) 1 0
    → more_bytes ≡ bytes + cond (counted t && hit) size 0
    → AreScoresTo capacity counted trace (t + 1) new more_hits more_bytes
played-more capacity counted trace t k size old new hits bytes more_hits more_bytes hit asked played enters fits apart hit_is hits_more bytes_more =
    (played-on capacity counted trace t k size old new hits bytes more_hits more_bytes hit asked played enters fits apart hit_is hits_more bytes_more).0

-- after the last request
pub played-through : (capacity warmup : ℕ) (fills : List Bool) (trace : List Object) (members : List Member) (t hits bytes : ℕ) → t ≡ length trace → (played : AreScoresTo capacity (counts_past warmup fills) trace t members hits bytes)
    → (scores : AreScores capacity warmup fills trace hits bytes) × (scores.contents ≡ played.contents)
played-through capacity warmup fills trace members t hits bytes end played =
    let all : take t trace ≡ trace = take_all t trace (omega arith) in (
      record {
        contents = played.contents;
        allowed = subst (λ xs. IsAllowed capacity xs played.contents) all played.allowed;
        hits_are = played.hits_are ∙ ap (λ xs. score_from (counts_past warmup fills) Hits xs played.contents) all;
        bytes_are = played.bytes_are ∙ ap (λ xs. score_from (counts_past warmup fills) Bytes xs played.contents) all;
      },
      refl,
    )

pub played-all : (capacity warmup : ℕ) (fills : List Bool) (trace : List Object) (members : List Member) (t hits bytes : ℕ) → t ≡ length trace → AreScoresTo capacity (counts_past warmup fills) trace t members hits bytes → AreScores capacity warmup fills trace hits bytes
played-all capacity warmup fills trace members t hits bytes end played = (played-through capacity warmup fills trace members t hits bytes end played).0

-- ---- the run of a rule
-- the run over the first t requests
abbrev pub run_to : (ℕ → Bool) → State → List Object → ℕ → Run
run_to counted s trace t = fold (run_step counted) (run_from s) (take t (asks_of trace))

pub length-asks_of : (trace : List Object) → length (asks_of trace) ≡ length trace
length-asks_of trace = length-map-range_with_len (ask_at trace) 0 (length trace)

-- one more request of a run
pub run_to-more : (counted : ℕ → Bool) (s : State) (trace : List Object) (t : ℕ) → t < length trace → run_to counted s trace (t + 1) ≡ run_step counted (run_to counted s trace t) (ask_at trace t)
run_to-more counted s trace t within =
    fold_more (run_step counted) (run_from s) (asks_of trace) t (ask_at trace t) (omega (arith, length-asks_of trace))
    ∙ ap (run_step counted (run_to counted s trace t)) (get_or-map-range_with_len (ask_at trace) 0 (length trace) t t (ask_at trace t) within (omega arith))

-- the whole run
pub run_to-all : (counted : ℕ → Bool) (s : State) (trace : List Object) (t : ℕ) → t ≡ length trace → run_to counted s trace t ≡ fold (run_step counted) (run_from s) (asks_of trace)
run_to-all counted s trace t end = ap (λ xs. fold (run_step counted) (run_from s) xs) (take_all t (asks_of trace) (omega (arith, length-asks_of trace)))

-- the entries have an object exactly if their members do
pub has_entry-members : (entries : List Entry) (k : ℕ) → has_entry entries k ≡ has_member (members_of entries) k
has_entry-members [] k = refl
has_entry-members (e ∷ rest) k = ap (λ b. eqb e.object k || b) (has_entry-members rest k)

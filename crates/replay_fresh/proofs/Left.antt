-- What is held once objects have left: nothing that was not, and each other object.
use Rattle.std.proofs.Common.{◌≡◌, ◌≢◌, ℕ, ◌<◌, ◌∙◌, ap, sym, subst, length, position, slice_get, refl, Bool, true, false, not, ◌&&◌, ◌||◌, eqb, List, [], ◌∷◌, ◌⊎◌, ⊎_elim, arith, None, Some, IfSome, All, Contains, option_to_list}
use Rattle.std.specs.declared.option.Option.{Option}
use Rattle.std.proofs.lemmas.Bool.{both_ways, ne_eqb}
use Rattle.std.proofs.lemmas.List.Elements.{All-contains, All-contains_itself, All-filter, Contains-append_cases, Contains-push_cases}
use Rattle.std.proofs.lemmas.Option.{get_or_from_slice_get}
use Rattle.cache_model.specs.declared.objects.Object.{Object}
use Rattle.cache_model.specs.Claim.{no_object, request_at, same_object}
use Rattle.cache_model.specs.Objects.{objects_of}
use Rattle.policy_model.specs.Asks.{number_of, object_numbered}
use Rattle.policy_model.specs.States.{Member, has_member, member}
use Rattle.policy_model.proofs.Holdings.{Contains-unmap, IsNumbered, size-held}
use Rattle.policy_model.proofs.Numbers.{number_of-found}
use Rattle.policy_model.proofs.Replays.{IsAsked}
use Rattle.policy_model.specs.Runs.{objects_held}
use Rattle.policy_model.specs.Leaving.{without_member}
use Rattle.policy_model.proofs.Leavings.{without_member-apart, without_member-others}
use Rattle.replay_fresh.specs.FreshRuns.{members_without}

-- what holds of all members holds of those that stay
pub All-members_without : (P : Member → Type 0) (members : List Member) (objects : List ℕ) → All P members → All P (members_without members objects)
All-members_without P members [] each = each
All-members_without P members (k ∷ objects) each = All-members_without P (without_member k members) objects (All-filter (λ m. not (eqb m.object k)) P members each)

-- and so they were members
pub members_without-former : (members : List Member) (objects : List ℕ) (m : Member) → Contains (members_without members objects) m → Contains members m
members_without-former members objects m c = All-contains (Contains members) (members_without members objects) m (All-members_without (Contains members) members objects (All-contains_itself members)) c

none_there : (k : ℕ) → Contains [] k → ⊥
none_there k (i, within, e) = absurd (omega arith)

-- an object that leaves is no member
pub members_without-apart : (members : List Member) (objects : List ℕ) (m : Member) → Contains (members_without members objects) m → Contains objects m.object → ⊥
members_without-apart members [] m stays leaves = none_there m.object leaves
members_without-apart members (k ∷ objects) m stays leaves =
    ⊎_elim
    (λ (first : Contains (k ∷ []) m.object).
    ⊎_elim (λ (none : Contains [] m.object). none_there m.object none)
    (λ (same : k ≡ m.object).
    All-contains (λ n. n.object ≢ k) (without_member k members) m (without_member-apart k members) (members_without-former (without_member k members) objects m stays) (sym same))
    (Contains-push_cases [] k m.object first))
    (λ (later : Contains objects m.object). members_without-apart (without_member k members) objects m stays later)
    (Contains-append_cases (k ∷ []) objects m.object leaves)

-- an object that stays, or is asked for, leaves only if it is asked for
pub asked_or_left : (trace : List Object) (t k size : ℕ) (old left new : List Member) (objects : List ℕ) → IsAsked trace t k size → All (IsNumbered trace) new → left ≡ members_without old objects
    → ((m : Member) → Contains new m → Contains left m ⊎ (m ≡ member k size)) → (x : Object) → Contains (objects_held trace new) x → Contains objects (number_of trace x) → x ≡ request_at trace t
asked_or_left trace t k size old left new objects asked numbered left_is enters x held leaves =
    let f : Member → Object = λ m. object_numbered trace m.object in
    let from = Contains-unmap f new x held in
    let m : Member = from.0 in
    let of_m : IsNumbered trace m = All-contains (IsNumbered trace) new m numbered from.1 in
    let number : number_of trace x ≡ m.object = ap (number_of trace) (sym from.2) ∙ number_of-found trace (f m) m.object of_m.found in
    ⊎_elim
    (λ (stays : Contains left m). absurd (members_without-apart old objects m (subst (λ ms. Contains ms m) left_is stays) (subst (Contains objects) number leaves)))
    (λ (own : m ≡ member k size). sym from.2 ∙ ap f own ∙ asked.object)
    (enters m from.1)

-- the request t asks for the object of the number that a look-up finds
pub is_asked : (trace : List Object) (t k size : ℕ) → t < length trace → position (same_object (request_at trace t)) (objects_of trace) ≡ Some k → slice_get (objects_of trace) k ≡ Some (request_at trace t)
    → size ≡ (object_numbered trace k).size → IsAsked trace t k size
is_asked trace t k size within found there size_is =
    let object : object_numbered trace k ≡ request_at trace t = get_or_from_slice_get (objects_of trace) k (request_at trace t) no_object there in
    record { within = within; found = found; object = object; size_is = size_is ∙ ap (λ (x : Object). x.size) object }

-- the members of that object have its size
pub size-left : (trace : List Object) (t k size : ℕ) (old left : List Member) (objects : List ℕ) → IsAsked trace t k size → All (IsNumbered trace) old → left ≡ members_without old objects
    → All (λ m. m.object ≡ k → m.size ≡ size) left
size-left trace t k size old left objects asked numbered left_is =
    let sizes : All (λ m. m.object ≡ k → m.size ≡ size) old =
    subst (λ n. All (λ m. m.object ≡ k → m.size ≡ n) old) (sym asked.size_is) (size-held trace (request_at trace t) k asked.found asked.object old numbered) in
    subst (All (λ m. m.object ≡ k → m.size ≡ size)) (sym left_is) (All-members_without (λ m. m.object ≡ k → m.size ≡ size) old objects sizes)

-- an object stays if it is none of those that leave
pub has_member-left : (members : List Member) (own : ℕ) (first : List ℕ) (second : Option ℕ) → first ≡ [] → IfSome second (λ k. k ≢ own)
    → has_member (members_without (members_without members first) (option_to_list second)) own ≡ has_member members own
has_member-left members own first second none apart = ap (λ ks. has_member (members_without (members_without members ks) (option_to_list second)) own) none ∙ at second apart
  where
    at : (o : Option ℕ) → IfSome o (λ k. k ≢ own) → has_member (members_without members (option_to_list o)) own ≡ has_member members own
    at None apart = refl
    at (Some k) apart = without_member-others k own members (ne_eqb k own apart)

-- ---- a request that is not stale
-- what holds if it is fresh holds if it doesn't only fill
pub if_counts : (stale only hit held : Bool) → (stale ≡ true → only ≡ true) → (stale ≡ false → hit ≡ held) → only ≡ false → hit ≡ held
if_counts true only hit held fill same counts = absurd (both_ways only counts (fill refl))
if_counts false only hit held fill same counts = same refl

-- so it is the same, whether what is held before anything leaves counts as a hit
pub counted-left : (past only hit held : Bool) → (only ≡ false → hit ≡ held) → ((past && not only) && hit) ≡ ((past && not only) && held)
counted-left false only hit held same = refl
counted-left true true hit held same = refl
counted-left true false hit held same = same refl

pub written-left : (past only hit held after : Bool) → (only ≡ false → hit ≡ held) → (past && ((only || not hit) && after)) ≡ (past && ((only || not held) && after))
written-left past true hit held after same = refl
written-left past false hit held after same = ap (λ b. past && (not b && after)) (same refl)

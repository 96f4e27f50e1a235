-- What a request finds once what is too old, and then what is stale or replaced, has left.
use Rattle.std.proofs.Common.{◌≡◌, ℕ, ◌∙◌, sym, refl, ap, subst, Bool, true, false, not, ◌&&◌, cond, eqb, List, [], ◌∷◌, ◌++◌}
use Rattle.std.proofs.lemmas.Bool.{eqb-true}
use Rattle.cache_model.specs.declared.objects.Object.{Object}
use Rattle.policy_model.specs.Asks.{ask_at}
use Rattle.policy_model.specs.Leaving.{without_member}
use Rattle.policy_model.specs.States.{Member, has_member}
use Rattle.policy_model.proofs.Leavings.{without_member-gone, without_member-others}
use Rattle.replay_fresh.specs.Fresh.{is_stale, leaving, replaced}
use Rattle.replay_fresh.specs.FreshRuns.{members_without}
use Rattle.replay_ttl.specs.Runs.{own_if_old}

-- what is not held is not held once more has left
has_member-fewer : (members : List Member) (objects : List ℕ) (k : ℕ) → has_member members k ≡ false → has_member (members_without members objects) k ≡ false
has_member-fewer members [] k none = none
has_member-fewer members (j ∷ objects) k none = has_member-fewer (without_member j members) objects k (at (eqb j k) refl)
  where
    at : (b : Bool) → eqb j k ≡ b → has_member (without_member j members) k ≡ false
    at true same = subst (λ n. has_member (without_member n members) k ≡ false) (sym (eqb-true j k same)) (without_member-gone k members)
    at false apart = without_member-others j k members apart ∙ none

-- the object of a stale request is not held once it has left
own-gone : (stale : List Bool) (replace : Bool) (trace : List Object) (t : ℕ) (members : List Member) → is_stale stale t ≡ true → has_member (members_without members (leaving stale replace trace t)) (ask_at trace t).object ≡ false
own-gone stale replace trace t members is =
    let k : ℕ = (ask_at trace t).object in
    let rest : List ℕ = cond replace (replaced trace t) [] in
    ap (λ b. has_member (members_without members (cond b (k ∷ []) [] ++ rest)) k) is ∙ has_member-fewer (without_member k members) rest k (without_member-gone k members)

-- a hit is what is held, not stale and young
found : (stale young hit held kept : Bool) → (stale ≡ true → hit ≡ false) → (stale ≡ false → hit ≡ kept) → kept ≡ (held && young) → hit ≡ (held && not stale && young)
found true young hit true kept gone stays kept_is = gone refl
found true young hit false kept gone stays kept_is = gone refl
found false young hit true kept gone stays kept_is = stays refl ∙ kept_is
found false young hit false kept gone stays kept_is = stays refl ∙ kept_is

-- an object is held once it has left if too old, exactly if it was held and is young
kept : (young : Bool) (k : ℕ) (members : List Member) → has_member (members_without members (own_if_old (not young) k)) k ≡ (has_member members k && young)
kept true k members = at (has_member members k)
  where
    at : (b : Bool) → b ≡ (b && true)
    at true = refl
    at false = refl
kept false k members = without_member-gone k members ∙ at (has_member members k)
  where
    at : (b : Bool) → false ≡ (b && false)
    at true = refl
    at false = refl

-- so the answer to request t is a hit exactly if its object was held, is not stale and is young
pub hit-found : (stale : List Bool) (replace : Bool) (trace : List Object) (t k : ℕ) (old middle left : List Member) (young hit : Bool)
    → (ask_at trace t).object ≡ k
    → middle ≡ members_without old (own_if_old (not young) k)
    → left ≡ members_without middle (leaving stale replace trace t)
    → (is_stale stale t ≡ false → has_member left k ≡ has_member middle k)
    → hit ≡ has_member left k
    → hit ≡ (has_member old k && not (is_stale stale t) && young)
hit-found stale replace trace t k old middle left young hit of_k middle_is left_is stays hit_is =
    found (is_stale stale t) young hit (has_member old k) (has_member middle k)
    (λ is. hit_is ∙ ap (λ ms. has_member ms k) left_is ∙ subst (λ n. has_member (members_without middle (leaving stale replace trace t)) n ≡ false) of_k (own-gone stale replace trace t middle is))
    (λ fresh. hit_is ∙ stays fresh)
    (ap (λ ms. has_member ms k) middle_is ∙ kept young k old)

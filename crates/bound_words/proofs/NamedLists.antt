-- Lists of policies, read one word at a time.
use Rattle.std.proofs.Common.{◌≡◌, ◌≢◌, ◌∙◌, ℕ, ap, sym, subst, refl, arith, Bool, true, false, cond, ◌||◌, List, [], ◌∷◌, Some, None, unwrap_or, All}
use Rattle.std.specs.declared.option.Option.{Option}
use Rattle.std.specs.Option.{option_and_then, option_map}
use Rattle.std.proofs.lemmas.List.Elements.{All-cons}
use Rattle.policy_model.specs.declared.names.PolicyName.{PolicyName}
use Rattle.policy_model.specs.declared.names.PolicyName.TheVariants.{Belady}
use Rattle.policy_model.specs.Names.{policy_named}
use Rattle.bound_words.specs.Capacities.{words_of_list}
use Rattle.bound_words.specs.Policies.{is_named, looks_ahead, named_once, policies_in, policies_of}

-- a policy that doesn't look ahead is not Belady's
not-belady : (policy : PolicyName) → looks_ahead policy ≡ false → policy ≢ Belady
not-belady policy blind is = true-false (sym (ap looks_ahead is) ∙ blind)
  where
    true-false : true ≡ false → ⊥
    true-false same = cc

-- the policies from one that is named on
abbrev from_named : List (List ℕ) → PolicyName → Option (List PolicyName)
from_named words policy = cond (looks_ahead policy || is_named policy words) None (option_map (λ more. policy ∷ more) (named_once words))

-- a policy that doesn't look ahead and those after it are not Belady's, if those after it are not
module _ (words : List (List ℕ)) (policies : List PolicyName) (rest_blind : (rest : List PolicyName) → named_once words ≡ Some rest → All (λ n. n ≢ Belady) rest) where
  with-rest : (policy : PolicyName) → policy ≢ Belady → (found : Option (List PolicyName)) → named_once words ≡ found
      → option_map (λ more. policy ∷ more) found ≡ Some policies → All (λ n. n ≢ Belady) policies
  with-rest policy other None named is = absurd cc
  with-rest policy other (Some rest) named is =
      let same : policy ∷ rest ≡ policies = cc in
      subst (All (λ n. n ≢ Belady)) same (All-cons (λ n. n ≢ Belady) policy rest other (rest_blind rest named))

  if-blind : (policy : PolicyName) (ahead again : Bool) → looks_ahead policy ≡ ahead
      → cond (ahead || again) None (option_map (λ more. policy ∷ more) (named_once words)) ≡ Some policies → All (λ n. n ≢ Belady) policies
  if-blind policy true again blind is = absurd cc
  if-blind policy false true blind is = absurd cc
  if-blind policy false false blind is = with-rest policy (not-belady policy blind) (named_once words) refl is

  if-named : (found : Option PolicyName) → option_and_then (from_named words) found ≡ Some policies → All (λ n. n ≢ Belady) policies
  if-named None is = absurd cc
  if-named (Some policy) is = if-blind policy (looks_ahead policy) (is_named policy words) refl is

-- what words name once is not Belady's
named-blind : (words : List (List ℕ)) (policies : List PolicyName) → named_once words ≡ Some policies → All (λ n. n ≢ Belady) policies
named-blind [] policies is = let same : [] ≡ policies = cc in subst (All (λ n. n ≢ Belady)) same (λ k d low. absurd (omega arith))
named-blind (word ∷ words) policies is = if-named words policies (λ rest named. named-blind words rest named) (policy_named word) is

-- the policies of a list are not Belady's
pub list-blind : (list : List ℕ) → All (λ n. n ≢ Belady) (policies_in list)
list-blind list = found-blind (policies_of list) refl
  where
    found-blind : (found : Option (List PolicyName)) → policies_of list ≡ found → All (λ n. n ≢ Belady) (unwrap_or found [])
    found-blind None is = λ k d low. absurd (omega arith)
    found-blind (Some policies) is = named-blind (words_of_list list) policies is

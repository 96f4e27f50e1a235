-- Lists of policies, and the words of a sweep with them, at small rows, computed.
use Rattle.std.proofs.Common.{◌≡◌, ℕ, true, false, List, [], ◌∷◌, codes, None, Some, Ok, Err, refl}
use Rattle.policy_model.specs.declared.names.PolicyName.TheVariants.{Lru, Gdsf, WTinyLfu}
use Rattle.trace_any.specs.Readings.{lasting}
use Rattle.trace_any.specs.declared.format.Layout.TheVariants.{Webcache}
use Rattle.bound_terms.specs.declared.words.WordKind.TheVariants.{BadValue, Twice, Unknown}
use Rattle.bound_words.specs.declared.plans.Plan.TheVariants.{Sweep}
use Rattle.bound_words.specs.Faults.{fault}
use Rattle.bound_words.specs.Kinds.{is_operand}
use Rattle.bound_words.specs.Policies.{policies_of}
use Rattle.bound_words.specs.Words.{plan}

one : policies_of (codes "lru") ≡ Some (Lru ∷ [])
one = refl

-- in any order
two : policies_of (codes "gdsf,lru") ≡ Some (Gdsf ∷ Lru ∷ [])
two = refl

three : policies_of (codes "lru,gdsf,wtinylfu") ≡ Some (Lru ∷ Gdsf ∷ WTinyLfu ∷ [])
three = refl

-- each word is that of a policy
nothing : policies_of (codes "") ≡ None
nothing = refl

comma_last : policies_of (codes "lru,") ≡ None
comma_last = refl

capitals : policies_of (codes "LRU") ≡ None
capitals = refl

-- it comes once
twice : policies_of (codes "lru,lru") ≡ None
twice = refl

twice_apart : policies_of (codes "gdsf,lru,gdsf") ≡ None
twice_apart = refl

-- and its policy doesn't look ahead
belady : policies_of (codes "belady") ≡ None
belady = refl

belady_last : policies_of (codes "lru,belady") ≡ None
belady_last = refl

-- a sweep of a trace at two capacities, with these operands
abbrev sweep_with : List (List ℕ) → List (List ℕ)
sweep_with operands = codes "sweep" ∷ codes "t" ∷ codes "format=webcache" ∷ codes "capacities=1,2" ∷ operands

some_policies : plan (sweep_with (codes "policies=gdsf,lru" ∷ [])) ≡ Ok (Sweep (lasting Webcache) (codes "1,2") (Some (codes "gdsf,lru")) 0 0)
unfolding plan
some_policies = refl

no_policies : plan (sweep_with []) ≡ Ok (Sweep (lasting Webcache) (codes "1,2") None 0 0)
unfolding plan
no_policies = refl

-- a value that is no list of policies
bad_policies : plan (sweep_with (codes "policies=belady" ∷ [])) ≡ Err (fault 5 BadValue)
unfolding plan
bad_policies = refl

-- two lists
lists_twice : plan (sweep_with (codes "policies=lru" ∷ codes "policies=fifo" ∷ [])) ≡ Err (fault 6 Twice)
unfolding plan
lists_twice = refl

-- a sweep alone has the operand
no_replay : plan (codes "replay" ∷ codes "t" ∷ codes "policies=lru" ∷ []) ≡ Err (fault 3 Unknown)
unfolding plan
no_replay = refl

-- but its name is known
known : is_operand (codes "policies") ≡ true
known = refl

known_of_curves : is_operand (codes "denominator") ≡ true
known_of_curves = refl

not_known : is_operand (codes "policie") ≡ false
not_known = refl

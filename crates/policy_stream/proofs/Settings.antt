-- The settings of policies at many capacities.
use Rattle.std.proofs.Common.{◌≡◌, ℕ, ◌<◌, zero, suc, arith, List, [], ◌∷◌, ◌++◌, Contains, length, slice_index_or, flat_map}
use Rattle.std.proofs.lemmas.List.Elements.{Contains-append_left, Contains-append_right}
use Rattle.policy_model.specs.declared.names.PolicyName.{PolicyName}
use Rattle.policy_sweep.specs.declared.fault.ReplayFault.{ReplayFault}
use Rattle.policy_sweep.specs.declared.fault.ReplayFault.TheVariants.{PolicyMemory, NoMemory}
use Rattle.policy_sweep.specs.Running.{Setting}
use Rattle.policy_sweep.specs.Replays.{NamesSetting}
use Rattle.policy_stream.specs.Streams.{at_capacity, settings_of}

-- what a list has that comes of an element
contains-flat : {A B : Type 0} (f : A → List B) (xs : List A) (d : A) (i : ℕ) (y : B) → i < length xs → Contains (f (slice_index_or xs i d)) y → Contains (flat_map f xs) y
contains-flat f [] d i y below has = absurd (omega (arith, below))
contains-flat f (x ∷ xs) d zero y below has = Contains-append_left (f x) (flat_map f xs) y has
contains-flat f (x ∷ xs) d (suc i) y below has = Contains-append_right (f x) (flat_map f xs) y (contains-flat f xs d i y (omega (arith, below)) has)

-- a setting at one of the capacities is among all
pub named-among : (names : List PolicyName) (capacities : List ℕ) (d i : ℕ) (fault : ReplayFault) → i < length capacities → NamesSetting (at_capacity names (slice_index_or capacities i d)) fault
    → NamesSetting (settings_of names capacities) fault
named-among names capacities d i (PolicyMemory policy capacity) below has = contains-flat (at_capacity names) capacities d i (record { name = policy; capacity = capacity }) below has
named-among names capacities d i NoMemory below has = tt

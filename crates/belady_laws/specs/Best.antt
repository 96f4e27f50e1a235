-- What no contents passes.
use Rattle.std.specs.Prelude.{◌≡◌, ℕ, ◌≤◌, Bool, List, []}
use Rattle.cache_model.specs.declared.objects.Object.{Object}
use Rattle.cache_model.specs.declared.objects.Objective.TheVariants.{Object as Hits, Bytes}
use Rattle.cache_model.specs.Claim.{IsAllowed, score, terms_from}
use Rattle.policy_model.specs.declared.names.PolicyName.TheVariants.{Belady}
use Rattle.policy_model.specs.Runs.{policy_run}
use Rattle.policy_laws.specs.Laws.{HaveOneSize}
use Rattle.belady_laws.specs.declared.best.BestFault.{BestFault}
use Rattle.belady_laws.specs.declared.best.BestFault.TheVariants.{Unequal, NoMemory}
use Rattle.belady_laws.specs.Clashes.{IsClash}

-- the contents are allowed contents with these scores
pub record AreBestContents (capacity : ℕ) (trace : List Object) (hits bytes : ℕ) (contents : List (List Object)) : Type 0 where
  pub allowed : IsAllowed capacity trace contents
  pub hits_are : hits ≡ score (terms_from Hits capacity 0 []) trace contents
  pub bytes_are : bytes ≡ score (terms_from Bytes capacity 0 []) trace contents

-- the hits and bytes are the greatest scores of all allowed contents, and those of one of them
pub record IsBest (capacity : ℕ) (trace : List Object) (hits bytes : ℕ) : Type 0 where
  pub contents : List (List Object)
  pub played : AreBestContents capacity trace hits bytes contents
  pub most_hits : (other : List (List Object)) → IsAllowed capacity trace other → score (terms_from Hits capacity 0 []) trace other ≤ hits
  pub most_bytes : (other : List (List Object)) → IsAllowed capacity trace other → score (terms_from Bytes capacity 0 []) trace other ≤ bytes

-- the hits and the bytes are those of the rule of Belady
abbrev pub AreOfBelady : ℕ → List Object → List Bool → ℕ → ℕ → Type 0
AreOfBelady capacity trace fills hits bytes =
    (hits ≡ (policy_run Belady trace capacity 0 fills).hits) × (bytes ≡ (policy_run Belady trace capacity 0 fills).bytes)

-- a clash of sizes is the first, and otherwise there is one size and memory ran out
abbrev pub IsCause : ℕ → List Object → BestFault → Type 0
IsCause capacity trace (Unequal clash) = IsClash trace capacity clash.first clash.other
IsCause capacity trace NoMemory = HaveOneSize capacity trace

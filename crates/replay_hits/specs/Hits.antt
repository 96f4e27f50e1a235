-- Which requests of a trace a policy answers as hits.
use Rattle.std.specs.Prelude.{◌≡◌, ℕ, Bool, if◌then◌else◌, List, length, sum_by, IfSome}
use Rattle.std.specs.declared.option.Option.{Option}
use Rattle.cache_model.specs.declared.objects.Object.{Object}
use Rattle.cache_model.specs.Claim.{IsAllowed}
use Rattle.policy_model.specs.Runs.{rule_contents}
use Rattle.policy_model.specs.States.{State}
use Rattle.write_laws.specs.Claims.{HitsExactly}

-- a flag for each request: some allowed contents hit exactly where they are; they are those of the rule, if one is known
pub record AreHits (known_state : Option State) (capacity : ℕ) (trace : List Object) (flags : List Bool) : Type 0 where
  pub each : length flags ≡ length trace
  pub contents : List (List Object)
  pub allowed : IsAllowed capacity trace contents
  pub hits : HitsExactly trace contents flags
  pub of_rule : IfSome known_state (λ s. contents ≡ rule_contents s.name trace s.capacity)

-- how many flags there are
abbrev pub flag_count : List Bool → ℕ
flag_count flags = sum_by (λ flag. if flag then 1 else 0) flags

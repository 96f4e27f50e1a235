-- One step of each rule.
use Rattle.std.specs.Prelude.{ℕ, ◌+◌, ◌-◌, ◌^◌, Bool, min, List}
use Rattle.std.specs.declared.option.Option.{Option}
use Rattle.policy_model.specs.declared.names.PolicyName.{PolicyName}
use Rattle.policy_model.specs.declared.names.PolicyName.TheVariants.{Sieve, S3Fifo, Gdsf, Lfuda, Gdsf98, WTinyLfu}
use Rattle.policy_model.specs.States.{Entry, Beside, Stock, State, has_entry}
use Rattle.policy_model.specs.Steps.{plain_after}
use Rattle.policy_model.specs.Sieve.{sieve_after}
use Rattle.policy_model.specs.S3Fifo.{s3fifo_after}
use Rattle.policy_model.specs.Aging.{aged_after, admitted_after}
use Rattle.policy_model.specs.WTinyLfu.{tinylfu_after}

-- what is kept after a request, by the rule of this name
abbrev pub stock_after : PolicyName → State → ℕ → ℕ → Option ℕ → Stock
stock_after Sieve s object size next = sieve_after s object size
stock_after S3Fifo s object size next = s3fifo_after s object size
stock_after Gdsf s object size next = aged_after Gdsf s object size
stock_after Lfuda s object size next = aged_after Lfuda s object size
stock_after Gdsf98 s object size next = admitted_after s object size
stock_after WTinyLfu s object size next = tinylfu_after s object size
stock_after name s object size next = record { entries = plain_after s object size next; beside = s.beside }

-- the entries after a request
abbrev pub entries_after : State → ℕ → ℕ → Option ℕ → List Entry
entries_after s object size next = (stock_after s.name s object size next).entries

-- what stands beside them
abbrev pub beside_after : State → ℕ → ℕ → Option ℕ → Beside
beside_after s object size next = (stock_after s.name s object size next).beside

-- whether a request hits, and the state after it
pub record Answer : Type 0 where
  pub hit : Bool
  pub after : State

-- the answer to a request for the object of this number and size, whose next request is given
abbrev pub policy_step : State → ℕ → ℕ → Option ℕ → Answer
policy_step s object size next = record {
  hit = has_entry s.entries object;
  after = record s { now = min (s.now + 1) (2 ^ 64 - 1); entries = entries_after s object size next; beside = beside_after s object size next };
}

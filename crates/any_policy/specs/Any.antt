-- A policy of any of the rules: its rule, and what it keeps.
use Rattle.policy_model.specs.declared.names.PolicyName.{PolicyName}
use Rattle.policy_model.specs.declared.names.PolicyName.TheVariants as rule
use Rattle.replay_core.specs.Keeping.{Kept}
use Rattle.any_policy.specs.declared.policy.AnyPolicy.{AnyPolicy}
use Rattle.any_policy.specs.declared.policy.AnyPolicy.TheVariants.{Lru, Fifo, Clock, Lfu, Belady, Sieve, S3Fifo, Gdsf, Lfuda, Gdsf98, WTinyLfu}

-- its rule
abbrev pub name_of : AnyPolicy → PolicyName
name_of (Lru p) = rule.Lru
name_of (Fifo p) = rule.Fifo
name_of (Clock p) = rule.Clock
name_of (Lfu p) = rule.Lfu
name_of (Belady p) = rule.Belady
name_of (Sieve p) = rule.Sieve
name_of (S3Fifo p) = rule.S3Fifo
name_of (Gdsf p) = rule.Gdsf
name_of (Lfuda p) = rule.Lfuda
name_of (Gdsf98 p) = rule.Gdsf98
name_of (WTinyLfu p) = rule.WTinyLfu

-- what it keeps
abbrev pub kept_of : AnyPolicy → Kept
kept_of (Lru p) = p
kept_of (Fifo p) = p
kept_of (Clock p) = p
kept_of (Lfu p) = p
kept_of (Belady p) = p
kept_of (Sieve p) = p
kept_of (S3Fifo p) = p
kept_of (Gdsf p) = p
kept_of (Lfuda p) = p
kept_of (Gdsf98 p) = p
kept_of (WTinyLfu p) = p

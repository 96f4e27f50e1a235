-- The words of the policies.
use Rattle.std.specs.Prelude.{ℕ, List, [], ◌∷◌, codes, find}
use Rattle.std.specs.declared.option.Option.{Option}
use Rattle.std.specs.Str.{bytes_eq}
use Rattle.policy_model.specs.declared.names.PolicyName.{PolicyName}
use Rattle.policy_model.specs.declared.names.PolicyName.TheVariants.{Lru, Fifo, Clock, Lfu, Belady, Sieve, S3Fifo, Gdsf, Lfuda, Gdsf98, WTinyLfu}

-- the word of a policy
abbrev pub policy_word : PolicyName → List ℕ
policy_word Lru = codes "lru"
policy_word Fifo = codes "fifo"
policy_word Clock = codes "clock"
policy_word Lfu = codes "lfu"
policy_word Belady = codes "belady"
policy_word Sieve = codes "sieve"
policy_word S3Fifo = codes "s3fifo"
policy_word Gdsf = codes "gdsf"
policy_word Lfuda = codes "lfuda"
policy_word Gdsf98 = codes "gdsf98"
policy_word WTinyLfu = codes "wtinylfu"

-- each policy
abbrev pub all_policies : List PolicyName
all_policies = Lru ∷ Fifo ∷ Clock ∷ Lfu ∷ Belady ∷ Sieve ∷ S3Fifo ∷ Gdsf ∷ Lfuda ∷ Gdsf98 ∷ WTinyLfu ∷ []

-- the policy of a word
abbrev pub policy_named : List ℕ → Option PolicyName
policy_named word = find (λ policy. bytes_eq (policy_word policy) word) all_policies

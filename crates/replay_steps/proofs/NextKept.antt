-- A step of a rule is the same, whatever the next request, if the rule keeps the same of it.
use Rattle.std.proofs.Common.{◌≡◌, ℕ, ◌∷◌, [], ◌∙◌, ap, refl, false, if◌then◌else◌, nat_le, List, fold, Bool}
use Rattle.std.specs.declared.option.Option.{Option}
use Rattle.policy_model.specs.declared.names.PolicyName.{PolicyName}
use Rattle.policy_model.specs.declared.names.PolicyName.TheVariants.{Lru, Fifo, Clock, Lfu, Belady, Sieve, S3Fifo, Gdsf, Lfuda, Gdsf98, WTinyLfu}
use Rattle.policy_model.specs.Asks.{Ask}
use Rattle.policy_model.specs.States.{Entry, Stock, State, has_entry}
use Rattle.policy_model.specs.Steps.{last_kept, next_kept, on_hit, on_miss, plain_after}
use Rattle.policy_model.specs.Rules.{policy_step, stock_after}
use Rattle.policy_model.specs.Runs.{Run}
use Rattle.replay_fresh.specs.FreshRuns.{fresh_step, let_go_all}
use Rattle.policy_model.specs.Leaving.{let_go}

-- the entry of a request, of whose next request this is kept
abbrev entry_with : State → ℕ → ℕ → Option ℕ → Entry
entry_with s object size next = record { object = object; size = size; mark = false; count = 0; last = last_kept s.name s.now; next = next; rank = 0 }

plain-next : (s : State) (object size : ℕ) (n m : Option ℕ) → next_kept s.name n ≡ next_kept s.name m → plain_after s object size n ≡ plain_after s object size m
plain-next s object size n m same =
    ap (λ (next : Option ℕ).
    if has_entry s.entries object then on_hit s.name s.now (entry_with s object size next) s.entries
    else (if nat_le size s.capacity then on_miss s.name s.capacity (entry_with s object size next) s.entries else s.entries)) same

-- what is kept after a request
stock-next : (name : PolicyName) (s : State) (object size : ℕ) (n m : Option ℕ) → next_kept s.name n ≡ next_kept s.name m → stock_after name s object size n ≡ stock_after name s object size m
stock-next Lru s object size n m same = ap (λ (es : List Entry). record { entries = es; beside = s.beside }) (plain-next s object size n m same)
stock-next Fifo s object size n m same = ap (λ (es : List Entry). record { entries = es; beside = s.beside }) (plain-next s object size n m same)
stock-next Clock s object size n m same = ap (λ (es : List Entry). record { entries = es; beside = s.beside }) (plain-next s object size n m same)
stock-next Lfu s object size n m same = ap (λ (es : List Entry). record { entries = es; beside = s.beside }) (plain-next s object size n m same)
stock-next Belady s object size n m same = ap (λ (es : List Entry). record { entries = es; beside = s.beside }) (plain-next s object size n m same)
stock-next Sieve s object size n m same = refl
stock-next S3Fifo s object size n m same = refl
stock-next Gdsf s object size n m same = refl
stock-next Lfuda s object size n m same = refl
stock-next Gdsf98 s object size n m same = refl
stock-next WTinyLfu s object size n m same = refl

-- the state after it
pub step-next : (s : State) (object size : ℕ) (n m : Option ℕ) → next_kept s.name n ≡ next_kept s.name m → (policy_step s object size n).after ≡ (policy_step s object size m).after
step-next s object size n m same =
    ap (λ (kept : Stock). record s { now = (policy_step s object size n).after.now; entries = kept.entries; beside = kept.beside }) (stock-next s.name s object size n m same)

-- ---- the name of the rule stays
pub let_go_all-name : (s : State) (objects : List ℕ) → (let_go_all s objects).name ≡ s.name
let_go_all-name s [] = refl
let_go_all-name s (k ∷ objects) = let_go_all-name (let_go s k) objects

pub run-name : (counted : ℕ → Bool) (leaves : ℕ → List ℕ) (r : Run) (asks : List Ask) → (fold (fresh_step counted leaves) r asks).state.name ≡ r.state.name
run-name counted leaves r [] = refl
run-name counted leaves r (a ∷ asks) = run-name counted leaves (fresh_step counted leaves r a) asks ∙ let_go_all-name r.state (leaves a.request)

-- The operands that a command needs are given where its words are accepted.
use Rattle.std.proofs.Common.{◌≡◌, ℕ, ◌+◌, Bool, true, false, cond, subst, sym, ◌&&◌, List, [], codes, refl, slice_get, Result, Ok, Err, IfOk, IfSome, None, Some}
use Rattle.std.specs.declared.option.Option.{Option}
use Rattle.std.specs.Option.{is_some, option_and_then, option_map}
use Rattle.bound_words.specs.declared.commands.Command.{Command}
use Rattle.bound_words.specs.declared.commands.Command.TheVariants as command
use Rattle.bound_words.specs.declared.plans.Plan.{Plan}
use Rattle.bound_words.specs.declared.words.WordFault.{WordFault}
use Rattle.bound_words.specs.Commands.{command_named, operands_at, operands_of, places_of}
use Rattle.bound_words.specs.Named.{value_given}
use Rattle.bound_words.specs.Faults.{◌>>=◌, passed, required}
use Rattle.bound_words.specs.Plans.{inputs_fault, plan_of_command}
use Rattle.bound_words.specs.Words.{HasNeeded, beside_fault, has_needed, known_command, command_of, command_with, operands_fault, paths, plan, plan_of_operands}

-- what holds behind each value holds if there is one
behind : {A B : Type 0} (r : Result A WordFault) (g : A → Result B WordFault) (P : Type 0) → ((x : A) → IfOk (g x) (λ b. P)) → IfOk (r >>= g) (λ b. P)
behind (Ok x) g P each = each x
behind (Err e) g P each = tt

-- an operand whose value is required is given
given : {A B : Type 0} (end : ℕ) (f : List ℕ → Option A) (value : Option (List ℕ)) (g : A → Result B WordFault) (rest : Bool)
    → ((x : A) → IfOk (g x) (λ b. rest ≡ true)) → IfOk (required end (option_and_then f value) >>= g) (λ b. (is_some value && rest) ≡ true)
given end f None g rest each = tt
given end f (Some value) g rest each = behind (required end (f value)) g (rest ≡ true) each

-- a plan is of operands that give each one that the command needs
needed : (asked : Command) (words operands : List (List ℕ)) → IfOk (plan_of_command asked words operands) (λ p. has_needed asked operands ≡ true)
needed command.Bounds words operands =
    given _ _ (value_given (codes "format") operands) _ _ (λ format.
    given _ _ (value_given (codes "capacity") operands) _ _ (λ capacity. refl))
needed command.Check words operands =
    given _ _ (value_given (codes "format") operands) _ _ (λ format.
    behind (passed (inputs_fault (places_of command.Check).trace (places_of command.Check).beside words)) _ _ (λ apart. refl))
needed command.Replay words operands =
    given _ _ (value_given (codes "format") operands) _ _ (λ format.
    given _ _ (value_given (codes "capacity") operands) _ _ (λ capacity.
    given _ _ (value_given (codes "policy") operands) _ _ (λ policy. refl)))
needed command.Curve words operands = given _ _ (value_given (codes "format") operands) _ _ (λ format. refl)
needed command.CapacityCurve words operands =
    given _ _ (value_given (codes "format") operands) _ _ (λ format.
    given _ _ (value_given (codes "capacities") operands) _ _ (λ capacities. refl))
needed command.Sweep words operands =
    given _ _ (value_given (codes "format") operands) _ _ (λ format.
    given _ _ (value_given (codes "capacities") operands) _ _ (λ capacities. refl))
needed command.Judge words operands =
    given _ _ (value_given (codes "format") operands) _ _ (λ format.
    given _ _ (value_given (codes "capacity") operands) _ _ (λ capacity.
    behind (passed (inputs_fault (places_of command.Judge).trace (places_of command.Judge).beside words)) _ _ (λ apart. refl)))
needed command.Demo words operands = refl
needed command.Upgrade words operands = refl
needed command.Refine words operands =
    given _ _ (value_given (codes "format") operands) _ _ (λ format.
    given _ _ (value_given (codes "window") operands) _ _ (λ width.
    behind (passed (inputs_fault (places_of command.Refine).trace (places_of command.Refine).beside words)) _ _ (λ apart. refl)))

-- the operands of a curve over capacities stand where those of a curve do
same_operands : (named : Command) (operands words : List (List ℕ)) → operands_of (command_with named operands) words ≡ operands_of named words
same_operands command.Bounds operands words = refl
same_operands command.Check operands words = refl
same_operands command.Replay operands words = refl
same_operands command.Curve operands words = at (is_some (value_given (codes "capacities") operands))
  where
    at : (b : Bool) → operands_of (cond b command.CapacityCurve command.Curve) words ≡ operands_of command.Curve words
    at true = refl
    at false = refl
same_operands command.CapacityCurve operands words = refl
same_operands command.Sweep operands words = refl
same_operands command.Judge operands words = refl
same_operands command.Demo operands words = refl
same_operands command.Upgrade operands words = refl
same_operands command.Refine operands words = refl

-- the plan of the words that follow a command
abbrev plan_with : List (List ℕ) → Command → Result Plan WordFault
plan_with words named =
    paths 1 (places_of named).count words
    >>= (λ there. plan_of_operands (command_with named (operands_of named words)) (operands_at named + 1) words (operands_of named words))

-- what the words of a command ask for
abbrev asked_by : List (List ℕ) → Command → Command
asked_by words named = command_with named (operands_of named words)

-- each operand that it needs is given
abbrev Gives : List (List ℕ) → Command → Type 0
Gives words asked = has_needed asked (operands_of asked words) ≡ true

-- the same of the words that follow a command
needed_of : (named : Command) (words : List (List ℕ)) → IfOk (plan_with words named) (λ p. Gives words (asked_by words named))
needed_of named words =
    let asked = asked_by words named in
    let same : operands_of asked words ≡ operands_of named words = same_operands named (operands_of named words) words in
    behind (paths 1 (places_of named).count words) _ _ (λ there.
    behind (passed (operands_fault asked (operands_at named + 1) [] (operands_of named words))) _ _ (λ accepted.
    behind (passed (beside_fault (operands_at named + 1) (operands_of named words))) _ _ (λ fitting.
    subst (λ operands. IfOk (plan_of_command asked words (operands_of named words)) (λ p. has_needed asked operands ≡ true)) (sym same) (needed asked words (operands_of named words)))))

-- the same of a word that may be a command
needed_at : (named : Option Command) (words : List (List ℕ)) → IfOk (known_command named >>= plan_with words) (λ p. IfSome (option_map (asked_by words) named) (Gives words))
needed_at None words = tt
needed_at (Some named) words = needed_of named words

-- the same of a first word that may be missing
needed_from : (first : Option (List ℕ)) (words : List (List ℕ))
    → IfOk (command_of first >>= plan_with words) (λ p. IfSome (option_map (asked_by words) (option_and_then command_named first)) (Gives words))
needed_from None words = tt
needed_from (Some word) words = needed_at (command_named word) words

-- words that are accepted give each operand that their command needs
pub plan-has-needed : (words : List (List ℕ)) → IfOk (plan words) (λ p. HasNeeded words)
unfolding plan
plan-has-needed words = needed_from (slice_get words 0) words

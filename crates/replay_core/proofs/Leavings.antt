-- From what is kept without an object to what a policy promises that has let go of it.
use Rattle.std.proofs.Common.{◌≡◌, ℕ, ◌∙◌, sym, ap, subst, List, Some}
use Rattle.policy_model.specs.declared.names.PolicyName.{PolicyName}
use Rattle.policy_model.specs.States.{Entry, Stock, State, IsFit}
use Rattle.policy_model.specs.Steps.{without_entry}
use Rattle.policy_model.specs.Leaving.{without_member, stock_without}
use Rattle.policy_model.proofs.Leavings.{members-let_go, fit-let_go}
use Rattle.replay_core.specs.Laws.{IsSound, LetsGo}
use Rattle.replay_core.specs.Keeping.{Kept, state_of, contents_of, kept_without}
use Rattle.replay_core.proofs.Kept.{fit-sound}

module _ (name : PolicyName) (old new : Kept) (object : ℕ) (is : new ≡ kept_without name old object) where
  pub left-contents : contents_of new ≡ without_member object (contents_of old)
  left-contents = ap contents_of is ∙ members-let_go (state_of name old) object

  pub left-sound : IsFit old.capacity old.entries → IsSound new.capacity (contents_of new)
  left-sound fit =
      subst (λ (p : Kept). IsSound p.capacity (contents_of p)) (sym is)
      (fit-sound old.capacity (kept_without name old object).entries (fit-let_go (state_of name old) object old.capacity fit))

  pub left-capacity : new.capacity ≡ old.capacity
  left-capacity = ap (λ (p : Kept). p.capacity) is

  pub left-objects : new.objects ≡ old.objects
  left-objects = ap (λ (p : Kept). p.objects) is

  pub left-state : LetsGo (Some (state_of name old)) (Some (state_of name new)) object
  left-state = ap (λ p. Some (state_of name p)) is

-- a rule whose entries are one list: the entry leaves it, and all else stays
module _ (name : PolicyName) (plain : (s : State) (object : ℕ) → stock_without name s object ≡ record { entries = without_entry object s.entries; beside = s.beside }) where
  pub plain-left : (inside old : Kept) (object : ℕ) (entries : List Entry) → inside ≡ old → entries ≡ without_entry object inside.entries → record inside { entries = entries } ≡ kept_without name old object
  plain-left inside old object entries view is =
      ap (λ es. record inside { entries = es }) is
      ∙ sym (ap (λ (x : Stock). record inside { entries = x.entries; beside = x.beside }) (plain (state_of name inside) object))
      ∙ ap (λ p. kept_without name p object) view

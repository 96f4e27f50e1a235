-- What a policy keeps, by its entries, and that nothing entered where no entry changed.
use Rattle.std.proofs.Common.{◌≡◌, ℕ, sym, refl, subst, List, Contains}
use Rattle.policy_model.specs.States.{Entry, members_of, nothing_beside}
use Rattle.policy_model.proofs.Sound.{IsFit}
use Rattle.replay_core.specs.Keeping.{Kept, GivesUp}
use Rattle.replay_core.proofs.Kept.{gives_up}

abbrev pub kept : ℕ → ℕ → ℕ → List Entry → Kept
kept objects capacity requests entries = record { objects = objects; capacity = capacity; now = requests; entries = entries; beside = nothing_beside }

-- where no entry changed, nothing entered
pub same-gives_up : (objects capacity requests : ℕ) (old new : List Entry) → IsFit capacity old → new ≡ old → GivesUp (kept objects capacity requests old) (kept objects capacity requests new)
same-gives_up objects capacity requests old new fit same =
    gives_up (kept objects capacity requests old) (kept objects capacity requests new) (subst (IsFit capacity) (sym same) fit)
    (λ m c. subst (λ es. Contains (members_of es) m) same c) refl refl

-- Possible flags keep the requests whose next one is flagged.
use Rattle.std.proofs.Common.{◌≡◌, ℕ, ◌<◌, ◌∙◌, sym, Bool, false, List, length, ⊎_elim}
use Rattle.cache_model.specs.declared.objects.Object.{Object}
use Rattle.cache_model.specs.Claim.{is_kept}
use Rattle.cache_model.specs.Objects.{IsLast, IsNext}
use Rattle.judge_laws.specs.Flags.{is_flagged, IsPossible}
use Rattle.judge_laws.proofs.Flagged.{flag_keeps}
use Rattle.write_laws.proofs.Kept.{kept-next, kept-last}
use Rattle.hit_judge.specs.Causes.{IsNextFlagged}

-- whether a request is kept is whether the next one of its object is flagged, and no if it has none
pub kept-next_flagged : (c : ℕ) (trace : List Object) (flags : List Bool) → IsPossible c trace flags → (t : ℕ) → t < length trace → (answer : Bool) → IsNextFlagged trace flags t answer
    → is_kept (flag_keeps c trace flags) t ≡ answer
kept-next_flagged c trace flags possible t within answer next_or_last =
    ⊎_elim
    (λ (next : (b : ℕ) × IsNext trace t b × (answer ≡ is_flagged flags b)). kept-next c trace flags possible t next.0 next.1 ∙ sym next.2)
    (λ (last : IsLast trace t × (answer ≡ false)). kept-last c trace flags t within last.0 ∙ sym last.1)
    next_or_last

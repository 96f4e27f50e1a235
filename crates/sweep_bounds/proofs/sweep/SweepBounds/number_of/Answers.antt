use Rattle.std.proofs.Common.{◌≡◌, ◌∙◌, ℕ, false, ap, List}
use Rattle.std.specs.Option.{is_some}
use Rattle.std.specs.Map.{lookup}
use Rattle.cache_model.specs.contracts.objects.ObjectPartialEq.TheImpl.{eq-value}
use Rattle.cache_model.specs.declared.objects.Object.{Object}
use Rattle.cache_model.proofs.DifferentObjects.{same_object-derived}
use Rattle.cache_model.specs.Claim.{same_object}
use Rattle.sweep_bounds.specs.Sweep.{Sweep}
use Rattle.sweep_bounds.proofs.Seen.{never-new}
use Rattle.sweep_bounds.proofs.sweep.SweepBounds.number_of.Goals as goal

pub returns-in_err-index-clause-found : goal.returns-in_err-index-clause-found
returns-in_err-index-clause-found c = λ trace fills h.
    let none : false ≡ is_some (lookup (eq-value.it c.args.object) c.self.inside.latest.entries) = c.in_err-index.ensures.found in
    ap is_some c.from_residual.ensures ∙ none
    ∙ ap (λ same. is_some (lookup (same c.args.object) c.self.inside.latest.entries)) same_object-derived
    ∙ ap (λ (s : Sweep). is_some (lookup (same_object c.args.object) s.latest)) c.self.view_is
    ∙ never-new trace c.args.object fills c.args.self.now h

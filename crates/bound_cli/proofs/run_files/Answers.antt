use Rattle.std.proofs.Common.{◌≡◌, ◌∙◌, ◌⊎◌, Bool, true, false, inl, ap, refl, Result, Ok, Err, IfErr}
use Rattle.std.specs.Result.{is_ok}
use Rattle.bound_words.specs.declared.plans.Plan.{Plan}
use Rattle.bound_run.specs.Run.{Devices, RunEnds}
use Rattle.bound_words.specs.declared.words.WordFault.{WordFault}
use Rattle.bound_run.specs.declared.status.Status.{Status}
use Rattle.bound_run.specs.declared.status.Status.TheVariants.{NoMemory, Words}
use Rattle.bound_cli.specs.Exits.{settled}
use Rattle.bound_cli.proofs.run_files.Goals as goal

-- refused words stay the status, whether the certificate was placed or not
stays : (placed : Bool) (fault : WordFault) → settled placed (Words fault) ≡ Words fault
stays true fault = refl
stays false fault = refl

-- what refuses the words is the status, and stays it
refused_words : (read : Result Plan WordFault) (d : Devices) (status ended : Status) (placed : Bool) → RunEnds read d status
    → ended ≡ settled placed status → IfErr read (λ fault. (ended ≡ Words fault) ⊎ (ended ≡ NoMemory))
refused_words (Ok plan) d status ended placed ends is = tt
refused_words (Err fault) d status ended placed ends is = inl (is ∙ ap (settled placed) ends.0 ∙ stays placed fault)

pub returns : goal.returns
returns g c =
    refused_words _ _ c.run-status.result c.settle.result (is_ok c.finish-placed.result) c.run-status.ensures.explains c.settle.ensures

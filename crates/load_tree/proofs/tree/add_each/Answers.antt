use Rattle.std.proofs.Common.{◌≡◌, ℕ, ◌+◌, ◌<◌, ◌≤◌, ◌∙◌, List, length, get_or, set, arith, ⊎_elim}
use Rattle.std.proofs.lemmas.Bool.{cases_lt}
use Rattle.std.proofs.lemmas.List.{length-set, get_or-set_same, get_or-set_other}
use Rattle.load_tree.specs.Ranges.{AddsOver}
use Rattle.load_tree.proofs.tree.add_each.Goals as goal

-- one more step carries the amount
added_next : (old new : List ℕ) (from step amount : ℕ) → from ≤ step → step < length old → AddsOver old new from step amount
    → AddsOver old (set new step (get_or new step 0 + amount)) from (step + 1) amount
added_next old new from step amount low within adds = record {
  steps = length-set new step (get_or new step 0 + amount) ∙ adds.steps;
  covered = λ t first last. ⊎_elim
      (λ (earlier : t < step). get_or-set_other new step t (get_or new step 0 + amount) 0 (omega arith) ∙ adds.covered t first earlier)
      (λ (here : step ≤ t).
      let at : t ≡ step = omega arith in
      rw at (omega (arith, get_or-set_same new step (get_or new step 0 + amount) 0 (omega (arith, adds.steps)), adds.after step (omega arith))))
      (cases_lt t step);
  before = λ t first. get_or-set_other new step t (get_or new step 0 + amount) 0 (omega arith) ∙ adds.before t first;
  after = λ t last. get_or-set_other new step t (get_or new step 0 + amount) 0 (omega arith) ∙ adds.after t (omega arith);
}

pub loop-step-preserved : goal.loop-step-preserved
loop-step-preserved c = added_next c.args.loads.now c.loop-step.loads c.args.from c.loop-step.step c.args.amount (omega arith) (omega arith) c.loop-step.invariant

use Rattle.std.proofs.Common.{◌∙◌, ap, arith, sym}
use Rattle.std.proofs.lemmas.Grind.{common_steps}
use Rattle.bound_io.specs.Positions.{with_fault, with_held}
use Rattle.bound_io.proofs.line_reader.LineReader.find_line.Goals as goal

pub invariant_of-self : goal.invariant_of-self
invariant_of-self g c = grind (arith, common_steps)

pub returns-in-Err-clause-stops : goal.returns-in-Err-clause-stops
returns-in-Err-clause-stops g c =
    let held = ap (λ p. p.held) c.self-2.view_is in
    record {
      still = ap (λ p. with_fault p c.in-Err.fault) (c.self-2.view_is ∙ c.look-found.ensures.still) ∙ ap (λ bytes. with_fault (with_held c.args.self.now bytes) c.in-Err.fault) (sym held);
      rest = rw (← held) at c.look-found.ensures.kept;
      again = rw (sym (ap (λ p. p.fault) c.self.view_is) ∙ c.in_default.is) tt;
    }

pub returns-in-Err-clause-again : goal.returns-in-Err-clause-again
returns-in-Err-clause-again g c = rw (sym (ap (λ p. p.fault) c.self.view_is) ∙ c.in_default.is) tt

pub returns-in-Some-clause-stops : goal.returns-in-Some-clause-stops
returns-in-Some-clause-stops g c = grind (arith, common_steps)

pub returns-in_default-found-clause-still : goal.returns-in_default-found-clause-still
returns-in_default-found-clause-still g c = grind (arith, common_steps)

pub returns-in-Err-clause-kept : goal.returns-in-Err-clause-kept
returns-in-Err-clause-kept g c = grind (arith, common_steps)

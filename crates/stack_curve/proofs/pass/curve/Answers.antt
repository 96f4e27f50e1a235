use Rattle.std.proofs.Common.{◌∙◌, arith}
use Rattle.stack_curve.specs.declared.pass.CurveFault.TheVariants.{NoMemory}
use Rattle.stack_curve.specs.Curves.{IsCause, first_size}
use Rattle.stack_curve.proofs.CurveLemmas.{have-size, is-curve, is-of-lru, if-err}
use Rattle.stack_curve.proofs.pass.curve.Goals as goal

pub returns-in_err-hits_of-clause-cause : goal.returns-in_err-hits_of-clause-cause
returns-in_err-hits_of-clause-cause c =
    if-err c.from_residual.result NoMemory (IsCause c.args.trace.now.objects) c.from_residual.ensures.1
    (have-size c.args.trace.now.objects (first_size c.args.trace.now.objects) (λ n known. c.in_default.ensures n known ∙ c.size_of_first-size.ensures.size))

pub returns-clause-curve : goal.returns-clause-curve
returns-clause-curve c = is-curve c.args.trace.now.objects c.args.trace.now.fills c.size_of_first-size.result c.in_ok-hits_of.field-0.items c.size_of_first-size.ensures.size c.in_ok-hits_of.ensures

pub returns-clause-one_size : goal.returns-clause-one_size
returns-clause-one_size c = have-size c.args.trace.now.objects (first_size c.args.trace.now.objects) (λ n known. c.in_default.ensures n known ∙ c.size_of_first-size.ensures.size)

pub returns-clause-lru : goal.returns-clause-lru
returns-clause-lru c =
    is-of-lru c.args.trace.now.objects c.args.trace.now.fills _ (is-curve c.args.trace.now.objects c.args.trace.now.fills c.size_of_first-size.result c.in_ok-hits_of.field-0.items c.size_of_first-size.ensures.size c.in_ok-hits_of.ensures)
    (have-size c.args.trace.now.objects (first_size c.args.trace.now.objects) (λ n known. c.in_default.ensures n known ∙ c.size_of_first-size.ensures.size))
    (λ some. omega (arith, c.size_of_first-size.ensures.positive some, c.size_of_first-size.ensures.size))

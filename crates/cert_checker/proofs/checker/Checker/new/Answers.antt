use Rattle.std.proofs.Common.{[], arith, subst}
use Rattle.std.specs.List.{IsDistinct}
use Rattle.std.specs.Map.{keys_of}
use Rattle.cache_model.proofs.DifferentObjects.{same_object-derived}
use Rattle.cert_checker.proofs.Checking.{StandsFor-new}
use Rattle.cert_checker.proofs.checker.Checker.new.Goals as goal

pub invariant_of-result : goal.invariant_of-result
invariant_of-result c = record {
  unique = subst (λ same. IsDistinct same (keys_of c.new.result.entries)) same_object-derived c.new.ensures.unique;
  fills = [];
  trace = [];
  records = [];
  stands = StandsFor-new c.args.header c.requires.range c.new.result.entries c.new.ensures.empty [];
  small = record { surpluses = omega arith; values = omega arith; score = omega arith };
}

pub returns-clause-nothing : goal.returns-clause-nothing
returns-clause-nothing c = StandsFor-new c.args.header c.requires.range c.new.result.entries c.new.ensures.empty

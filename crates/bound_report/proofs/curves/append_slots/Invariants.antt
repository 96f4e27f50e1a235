use Rattle.std.proofs.Common.{◌≡◌, ◌++◌}
use Rattle.cache_model.specs.Texts.{text_of}
use Rattle.stack_curve.specs.Curves.{hits_with}
use Rattle.bound_report.specs.Curves.{slots_lines}
use Rattle.bound_report.proofs.curves.append_slots.Given as goal

abbrev pub invariant-loop-fewer : goal.invariant-loop-fewer
invariant-loop-fewer l = l.text.items ≡ l.initial.text.items ++ text_of (slots_lines (hits_with l.curve) l.fewer)

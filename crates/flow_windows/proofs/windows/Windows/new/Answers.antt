use Rattle.std.proofs.Common.{◌∙◌, ℕ, refl, sym, ap, subst, length, arith}
use Rattle.std.proofs.lemmas.Result.{err_from_is_err_and}
use Rattle.flow_windows.specs.Cuts.{AreStarts}
use Rattle.flow_windows.proofs.Numbering.{none_before_first}
use Rattle.flow_windows.proofs.windows.Windows.new.Goals as goal

pub gather-requires-clause-before : goal.gather-requires-clause-before
gather-requires-clause-before c =
    c.deref.ensures.value ∙ c.in_ok-spare.ensures.items ∙ sym (none_before_first c.new-2.result.width c.new-2.result.number c.arcs-arcs.result.now c.new-2.ensures.number)

pub nonzero_div-lists : goal.nonzero_div-lists
nonzero_div-lists c = omega arith

pub returns-in_err-met : goal.returns-in_err-met
returns-in_err-met c = rw (err_from_is_err_and c.from_residual.result c.from_residual.ensures.1).1 tt

pub returns-in_err-spare : goal.returns-in_err-spare
returns-in_err-spare c = rw (err_from_is_err_and c.from_residual-in_err-spare.result c.from_residual-in_err-spare.ensures.1).1 tt

pub new-requires-clause-width : goal.new-requires-clause-width
new-requires-clause-width c = omega arith

pub new-requires-clause-few : goal.new-requires-clause-few
new-requires-clause-few c = omega (arith, ap length c.arcs-arcs.ensures.arcs, c.arcs-arcs.ensures.in_range.few_arcs)

pub returns-in_err-starts : goal.returns-in_err-starts
returns-in_err-starts c = rw (err_from_is_err_and c.from_residual-in_err-starts.result c.from_residual-in_err-starts.ensures.1).1 tt

pub new-requires-2 : goal.new-requires-2
new-requires-2 c = omega arith

pub gather-requires-clause-starts : goal.gather-requires-clause-starts
gather-requires-clause-starts c = subst (λ (width : ℕ). AreStarts width c.arcs-arcs.result.now c.in_ok-starts.starts) (sym c.new-2.ensures.width) c.in_ok-starts.ensures.starts

pub gather-requires-clause-window : goal.gather-requires-clause-window
gather-requires-clause-window c = omega (arith, c.new-2.ensures.number, c.in_ok-starts.ensures.windows)

pub gather-requires-clause-few : goal.gather-requires-clause-few
gather-requires-clause-few c = omega (arith, ap length c.arcs-arcs.ensures.arcs, c.arcs-arcs.ensures.in_range.few_arcs)

pub gather-requires-clause-empty : goal.gather-requires-clause-empty
gather-requires-clause-empty c = c.in_ok-met.ensures.items

pub gather-requires-clause-room : goal.gather-requires-clause-room
gather-requires-clause-room c = omega (arith, c.in_ok-met.ensures.capacity)

pub returns : goal.returns
returns c = refl

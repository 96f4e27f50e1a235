use Rattle.std.proofs.Common.{◌+◌, ◌∙◌, sym, arith}
use Rattle.std.proofs.lemmas.Bool.{ne_eqb}
use Rattle.std.proofs.lemmas.Result.{err_from_is_err_and}
use Rattle.bound_io.specs.Lines.{first_text}
use Rattle.cert_format.specs.Grammar.{number_at}
use Rattle.cert_format.specs.Lines.{known}
use Rattle.cert_format.specs.Readings.{after_lines, first_fault}
use Rattle.cert_format.proofs.Taken.{at_some}
use Rattle.cert_format.proofs.Chains.{start, then_more, then_stop, all_done, Nothing}
use Rattle.budget_format.specs.Parts.{budget_fault, first_budget, first_tenth, tail_fault, tail_in, tenth_fault}
use Rattle.budget_format.proofs.WideChains.{then_wide, wide_stops}
use Rattle.budget_format.proofs.Tails.{budget_stops, lower, plain_tail, records, records_stop, room_after_lower, room_after_warmup, tail_none, tenth_stated, tenth_stops, tenth_warm, warm_records_stop, warm_tail, warm_tail_none}
use Rattle.budget_format.proofs.header.read_tail.Goals as goal

pub returns-in_err-budget-clause-read : goal.returns-in_err-budget-clause-read
returns-in_err-budget-clause-read g c =
    let p = err_from_is_err_and c.from_residual-in_err-budget.result c.from_residual-in_err-budget.ensures.1 in
    let c0 = start c.args.lines.now (g.S.Source.left c.args.source.now) (g.S.Source.faults c.args.source.now) c.requires.no_fault in
    let c1 = then_more 0 Nothing (λ n. first_fault n lower) 1 (λ bytes. number_at 1 (first_text bytes)) c.args.lines.now c.args.lines.now c.read_number.new.lines (g.S.Source.left c.args.source.now) (g.S.Source.left c.args.source.now) (g.S.Source.left c.read_number.new.source) (g.S.Source.faults c.args.source.now) (g.S.Source.faults c.args.source.now) (g.S.Source.faults c.read_number.new.source) c.in_ok-lower.lower c.read_number.result c.in_ok-lower.was c0 c.read_number.ensures.read in
    rw (p.1, p.2) (wide_stops 1 _ tenth_fault first_tenth c.args.lines.now c.read_number.new.lines c.read_tenth.new.lines (g.S.Source.left c.args.source.now) (g.S.Source.left c.read_number.new.source) (g.S.Source.left c.read_tenth.new.source) (g.S.Source.faults c.args.source.now) (g.S.Source.faults c.read_number.new.source) (g.S.Source.faults c.read_tenth.new.source) (λ bytes e p. room_after_lower c.args.lines.now c.read_number.new.lines (g.S.Source.left c.args.source.now) bytes e c1.given (at_some (known c.args.lines.now (g.S.Source.left c.args.source.now)) bytes _ e c1.past) p.1) (tail_fault (c.args.lines.now.line + 1)) 0 tail_in c.in_err-budget.field-0.0 c.read_tenth.result c.in_err-budget.was c1 c.read_tenth.ensures.read
    (λ bytes p f e. tenth_stops c.args.lines.now.line bytes f p.1 e))

pub returns-in_err-read_fixed-in-Budget-clause-read : goal.returns-in_err-read_fixed-in-Budget-clause-read
returns-in_err-read_fixed-in-Budget-clause-read g c =
    let p = err_from_is_err_and c.from_residual-in_err-read_fixed-in-Budget.result c.from_residual-in_err-read_fixed-in-Budget.ensures.1 in
    let c0 = start c.args.lines.now (g.S.Source.left c.args.source.now) (g.S.Source.faults c.args.source.now) c.requires.no_fault in
    let c1 = then_more 0 Nothing (λ n. first_fault n lower) 1 (λ bytes. number_at 1 (first_text bytes)) c.args.lines.now c.args.lines.now c.read_number.new.lines (g.S.Source.left c.args.source.now) (g.S.Source.left c.args.source.now) (g.S.Source.left c.read_number.new.source) (g.S.Source.faults c.args.source.now) (g.S.Source.faults c.args.source.now) (g.S.Source.faults c.read_number.new.source) c.in_ok-lower.lower c.read_number.result c.in_ok-lower.was c0 c.read_number.ensures.read in
    let c2 = then_wide 1 _ tenth_fault first_tenth c.args.lines.now c.read_number.new.lines c.read_tenth.new.lines (g.S.Source.left c.args.source.now) (g.S.Source.left c.read_number.new.source) (g.S.Source.left c.read_tenth.new.source) (g.S.Source.faults c.args.source.now) (g.S.Source.faults c.read_number.new.source) (g.S.Source.faults c.read_tenth.new.source) (λ bytes e p. room_after_lower c.args.lines.now c.read_number.new.lines (g.S.Source.left c.args.source.now) bytes e c1.given (at_some (known c.args.lines.now (g.S.Source.left c.args.source.now)) bytes _ e c1.past) p.1) c.in_ok-budget.field-0 c.read_tenth.result c.in_ok-budget.was c1 c.read_tenth.ensures.read in
    rw (p.1, p.2) (then_stop 2 _ (λ n. first_fault n records) 1 (λ bytes. tt) c.args.lines.now c.read_tenth.new.lines c.read_fixed.new.lines (g.S.Source.left c.args.source.now) (g.S.Source.left c.read_tenth.new.source) (g.S.Source.left c.read_fixed.new.source) (g.S.Source.faults c.args.source.now) (g.S.Source.faults c.read_tenth.new.source) (g.S.Source.faults c.read_fixed.new.source) (tail_fault (c.args.lines.now.line + 1)) 0 tail_in c.in_err-read_fixed-in-Budget.field-0.0 c.read_fixed.result c.in_err-read_fixed-in-Budget.was c2 c.read_fixed.ensures
    (λ bytes p f e. records_stop c.args.lines.now.line bytes f (tenth_stated (first_text (after_lines 1 bytes)) c.in-Budget.budget (sym c.in-Budget.is ∙ p.2)).0 p.0.1 p.1 e))

pub returns-in_ok-read_fixed-in-Budget-clause-read : goal.returns-in_ok-read_fixed-in-Budget-clause-read
returns-in_ok-read_fixed-in-Budget-clause-read g c =
    let c0 = start c.args.lines.now (g.S.Source.left c.args.source.now) (g.S.Source.faults c.args.source.now) c.requires.no_fault in
    let c1 = then_more 0 Nothing (λ n. first_fault n lower) 1 (λ bytes. number_at 1 (first_text bytes)) c.args.lines.now c.args.lines.now c.read_number.new.lines (g.S.Source.left c.args.source.now) (g.S.Source.left c.args.source.now) (g.S.Source.left c.read_number.new.source) (g.S.Source.faults c.args.source.now) (g.S.Source.faults c.args.source.now) (g.S.Source.faults c.read_number.new.source) c.in_ok-lower.lower c.read_number.result c.in_ok-lower.was c0 c.read_number.ensures.read in
    let c2 = then_wide 1 _ tenth_fault first_tenth c.args.lines.now c.read_number.new.lines c.read_tenth.new.lines (g.S.Source.left c.args.source.now) (g.S.Source.left c.read_number.new.source) (g.S.Source.left c.read_tenth.new.source) (g.S.Source.faults c.args.source.now) (g.S.Source.faults c.read_number.new.source) (g.S.Source.faults c.read_tenth.new.source) (λ bytes e p. room_after_lower c.args.lines.now c.read_number.new.lines (g.S.Source.left c.args.source.now) bytes e c1.given (at_some (known c.args.lines.now (g.S.Source.left c.args.source.now)) bytes _ e c1.past) p.1) c.in_ok-budget.field-0 c.read_tenth.result c.in_ok-budget.was c1 c.read_tenth.ensures.read in
    let c3 = then_more 2 _ (λ n. first_fault n records) 1 (λ bytes. tt) c.args.lines.now c.read_tenth.new.lines c.read_fixed.new.lines (g.S.Source.left c.args.source.now) (g.S.Source.left c.read_tenth.new.source) (g.S.Source.left c.read_fixed.new.source) (g.S.Source.faults c.args.source.now) (g.S.Source.faults c.read_tenth.new.source) (g.S.Source.faults c.read_fixed.new.source) tt c.read_fixed.result c.in_ok-read_fixed-in-Budget.was c2 c.read_fixed.ensures in
    all_done 3 _ c.args.lines.now c.read_fixed.new.lines (g.S.Source.left c.args.source.now) (g.S.Source.left c.read_fixed.new.source) (g.S.Source.faults c.args.source.now) (g.S.Source.faults c.read_fixed.new.source) (tail_fault (c.args.lines.now.line + 1)) tail_in _ c3 c.read_fixed.ensures.held
    (λ bytes p. tail_none c.args.lines.now.line bytes (tenth_stated (first_text (after_lines 1 bytes)) c.in-Budget.budget (sym c.in-Budget.is ∙ p.0.2)).0 p.0.0.1 p.0.1 p.1)
    (λ bytes p. plain_tail bytes c.in_ok-lower.lower c.in-Budget.budget p.0.0.2 (sym c.in-Budget.is ∙ p.0.2))

pub returns-in_err-budget-in-Warmup-clause-read : goal.returns-in_err-budget-in-Warmup-clause-read
returns-in_err-budget-in-Warmup-clause-read g c =
    let p = err_from_is_err_and c.from_residual-in_err-budget-in-Warmup.result c.from_residual-in_err-budget-in-Warmup.ensures.1 in
    let c0 = start c.args.lines.now (g.S.Source.left c.args.source.now) (g.S.Source.faults c.args.source.now) c.requires.no_fault in
    let c1 = then_more 0 Nothing (λ n. first_fault n lower) 1 (λ bytes. number_at 1 (first_text bytes)) c.args.lines.now c.args.lines.now c.read_number.new.lines (g.S.Source.left c.args.source.now) (g.S.Source.left c.args.source.now) (g.S.Source.left c.read_number.new.source) (g.S.Source.faults c.args.source.now) (g.S.Source.faults c.args.source.now) (g.S.Source.faults c.read_number.new.source) c.in_ok-lower.lower c.read_number.result c.in_ok-lower.was c0 c.read_number.ensures.read in
    let c2 = then_wide 1 _ tenth_fault first_tenth c.args.lines.now c.read_number.new.lines c.read_tenth.new.lines (g.S.Source.left c.args.source.now) (g.S.Source.left c.read_number.new.source) (g.S.Source.left c.read_tenth.new.source) (g.S.Source.faults c.args.source.now) (g.S.Source.faults c.read_number.new.source) (g.S.Source.faults c.read_tenth.new.source) (λ bytes e p. room_after_lower c.args.lines.now c.read_number.new.lines (g.S.Source.left c.args.source.now) bytes e c1.given (at_some (known c.args.lines.now (g.S.Source.left c.args.source.now)) bytes _ e c1.past) p.1) c.in_ok-budget.field-0 c.read_tenth.result c.in_ok-budget.was c1 c.read_tenth.ensures.read in
    rw (p.1, p.2) (wide_stops 2 _ budget_fault first_budget c.args.lines.now c.read_tenth.new.lines c.read_budget.new.lines (g.S.Source.left c.args.source.now) (g.S.Source.left c.read_tenth.new.source) (g.S.Source.left c.read_budget.new.source) (g.S.Source.faults c.args.source.now) (g.S.Source.faults c.read_tenth.new.source) (g.S.Source.faults c.read_budget.new.source) (λ bytes e p. room_after_warmup c.args.lines.now c.read_tenth.new.lines (g.S.Source.left c.args.source.now) bytes e c2.given (at_some (known c.args.lines.now (g.S.Source.left c.args.source.now)) bytes _ e c2.past) (tenth_warm (first_text (after_lines 1 bytes)) c.in-Warmup.warmup (sym c.in-Warmup.is ∙ p.2)).0 p.0.1 p.1) (tail_fault (c.args.lines.now.line + 1)) 0 tail_in c.in_err-budget-in-Warmup.field-0.0 c.read_budget.result c.in_err-budget-in-Warmup.was c2 c.read_budget.ensures.read
    (λ bytes p f e. budget_stops c.args.lines.now.line bytes f (tenth_warm (first_text (after_lines 1 bytes)) c.in-Warmup.warmup (sym c.in-Warmup.is ∙ p.2)).0 p.0.1 p.1 e))

pub returns-in_err-read_fixed-in-Warmup-clause-read : goal.returns-in_err-read_fixed-in-Warmup-clause-read
returns-in_err-read_fixed-in-Warmup-clause-read g c =
    let p = err_from_is_err_and c.from_residual-in_err-read_fixed-in-Warmup.result c.from_residual-in_err-read_fixed-in-Warmup.ensures.1 in
    let c0 = start c.args.lines.now (g.S.Source.left c.args.source.now) (g.S.Source.faults c.args.source.now) c.requires.no_fault in
    let c1 = then_more 0 Nothing (λ n. first_fault n lower) 1 (λ bytes. number_at 1 (first_text bytes)) c.args.lines.now c.args.lines.now c.read_number.new.lines (g.S.Source.left c.args.source.now) (g.S.Source.left c.args.source.now) (g.S.Source.left c.read_number.new.source) (g.S.Source.faults c.args.source.now) (g.S.Source.faults c.args.source.now) (g.S.Source.faults c.read_number.new.source) c.in_ok-lower.lower c.read_number.result c.in_ok-lower.was c0 c.read_number.ensures.read in
    let c2 = then_wide 1 _ tenth_fault first_tenth c.args.lines.now c.read_number.new.lines c.read_tenth.new.lines (g.S.Source.left c.args.source.now) (g.S.Source.left c.read_number.new.source) (g.S.Source.left c.read_tenth.new.source) (g.S.Source.faults c.args.source.now) (g.S.Source.faults c.read_number.new.source) (g.S.Source.faults c.read_tenth.new.source) (λ bytes e p. room_after_lower c.args.lines.now c.read_number.new.lines (g.S.Source.left c.args.source.now) bytes e c1.given (at_some (known c.args.lines.now (g.S.Source.left c.args.source.now)) bytes _ e c1.past) p.1) c.in_ok-budget.field-0 c.read_tenth.result c.in_ok-budget.was c1 c.read_tenth.ensures.read in
    let c3 = then_wide 2 _ budget_fault first_budget c.args.lines.now c.read_tenth.new.lines c.read_budget.new.lines (g.S.Source.left c.args.source.now) (g.S.Source.left c.read_tenth.new.source) (g.S.Source.left c.read_budget.new.source) (g.S.Source.faults c.args.source.now) (g.S.Source.faults c.read_tenth.new.source) (g.S.Source.faults c.read_budget.new.source) (λ bytes e p. room_after_warmup c.args.lines.now c.read_tenth.new.lines (g.S.Source.left c.args.source.now) bytes e c2.given (at_some (known c.args.lines.now (g.S.Source.left c.args.source.now)) bytes _ e c2.past) (tenth_warm (first_text (after_lines 1 bytes)) c.in-Warmup.warmup (sym c.in-Warmup.is ∙ p.2)).0 p.0.1 p.1) c.in_ok-budget-in-Warmup.budget c.read_budget.result c.in_ok-budget-in-Warmup.was c2 c.read_budget.ensures.read in
    rw (p.1, p.2) (then_stop 3 _ (λ n. first_fault n records) 1 (λ bytes. tt) c.args.lines.now c.read_budget.new.lines c.read_fixed-in-Warmup.new.lines (g.S.Source.left c.args.source.now) (g.S.Source.left c.read_budget.new.source) (g.S.Source.left c.read_fixed-in-Warmup.new.source) (g.S.Source.faults c.args.source.now) (g.S.Source.faults c.read_budget.new.source) (g.S.Source.faults c.read_fixed-in-Warmup.new.source) (tail_fault (c.args.lines.now.line + 1)) 0 tail_in c.in_err-read_fixed-in-Warmup.field-0.0 c.read_fixed-in-Warmup.result c.in_err-read_fixed-in-Warmup.was c3 c.read_fixed-in-Warmup.ensures
    (λ bytes p f e. warm_records_stop c.args.lines.now.line bytes f (tenth_warm (first_text (after_lines 1 bytes)) c.in-Warmup.warmup (sym c.in-Warmup.is ∙ p.0.2)).0 p.0.0.1 p.0.1 p.1 e))

pub returns-in_ok-read_fixed-in-Warmup-clause-read : goal.returns-in_ok-read_fixed-in-Warmup-clause-read
returns-in_ok-read_fixed-in-Warmup-clause-read g c =
    let c0 = start c.args.lines.now (g.S.Source.left c.args.source.now) (g.S.Source.faults c.args.source.now) c.requires.no_fault in
    let c1 = then_more 0 Nothing (λ n. first_fault n lower) 1 (λ bytes. number_at 1 (first_text bytes)) c.args.lines.now c.args.lines.now c.read_number.new.lines (g.S.Source.left c.args.source.now) (g.S.Source.left c.args.source.now) (g.S.Source.left c.read_number.new.source) (g.S.Source.faults c.args.source.now) (g.S.Source.faults c.args.source.now) (g.S.Source.faults c.read_number.new.source) c.in_ok-lower.lower c.read_number.result c.in_ok-lower.was c0 c.read_number.ensures.read in
    let c2 = then_wide 1 _ tenth_fault first_tenth c.args.lines.now c.read_number.new.lines c.read_tenth.new.lines (g.S.Source.left c.args.source.now) (g.S.Source.left c.read_number.new.source) (g.S.Source.left c.read_tenth.new.source) (g.S.Source.faults c.args.source.now) (g.S.Source.faults c.read_number.new.source) (g.S.Source.faults c.read_tenth.new.source) (λ bytes e p. room_after_lower c.args.lines.now c.read_number.new.lines (g.S.Source.left c.args.source.now) bytes e c1.given (at_some (known c.args.lines.now (g.S.Source.left c.args.source.now)) bytes _ e c1.past) p.1) c.in_ok-budget.field-0 c.read_tenth.result c.in_ok-budget.was c1 c.read_tenth.ensures.read in
    let c3 = then_wide 2 _ budget_fault first_budget c.args.lines.now c.read_tenth.new.lines c.read_budget.new.lines (g.S.Source.left c.args.source.now) (g.S.Source.left c.read_tenth.new.source) (g.S.Source.left c.read_budget.new.source) (g.S.Source.faults c.args.source.now) (g.S.Source.faults c.read_tenth.new.source) (g.S.Source.faults c.read_budget.new.source) (λ bytes e p. room_after_warmup c.args.lines.now c.read_tenth.new.lines (g.S.Source.left c.args.source.now) bytes e c2.given (at_some (known c.args.lines.now (g.S.Source.left c.args.source.now)) bytes _ e c2.past) (tenth_warm (first_text (after_lines 1 bytes)) c.in-Warmup.warmup (sym c.in-Warmup.is ∙ p.2)).0 p.0.1 p.1) c.in_ok-budget-in-Warmup.budget c.read_budget.result c.in_ok-budget-in-Warmup.was c2 c.read_budget.ensures.read in
    let c4 = then_more 3 _ (λ n. first_fault n records) 1 (λ bytes. tt) c.args.lines.now c.read_budget.new.lines c.read_fixed-in-Warmup.new.lines (g.S.Source.left c.args.source.now) (g.S.Source.left c.read_budget.new.source) (g.S.Source.left c.read_fixed-in-Warmup.new.source) (g.S.Source.faults c.args.source.now) (g.S.Source.faults c.read_budget.new.source) (g.S.Source.faults c.read_fixed-in-Warmup.new.source) tt c.read_fixed-in-Warmup.result c.in_ok-read_fixed-in-Warmup.was c3 c.read_fixed-in-Warmup.ensures in
    let some = (rw (c.in_ok-budget.was, c.in-Warmup.is) at c.read_tenth.ensures.range).0 in
    let all = all_done 4 _ c.args.lines.now c.read_fixed-in-Warmup.new.lines (g.S.Source.left c.args.source.now) (g.S.Source.left c.read_fixed-in-Warmup.new.source) (g.S.Source.faults c.args.source.now) (g.S.Source.faults c.read_fixed-in-Warmup.new.source) (tail_fault (c.args.lines.now.line + 1)) tail_in _ c4 c.read_fixed-in-Warmup.ensures.held
    (λ bytes p. warm_tail_none c.args.lines.now.line bytes (tenth_warm (first_text (after_lines 1 bytes)) c.in-Warmup.warmup (sym c.in-Warmup.is ∙ p.0.0.2)).0 p.0.0.0.1 p.0.0.1 p.0.1 p.1)
    (λ bytes p. warm_tail bytes c.in_ok-lower.lower c.in-Warmup.warmup c.in_ok-budget-in-Warmup.budget p.0.0.0.2 (sym c.in-Warmup.is ∙ p.0.0.2) p.0.2) in
    rw (ne_eqb c.in-Warmup.warmup 0 (λ e. omega (arith, e, some))) all

use Rattle.std.proofs.Common.{◌+◌, ◌-◌, ◌^◌, ◌∙◌, arith, ◌∷◌, [], codes}
use Rattle.std.proofs.lemmas.Result.{err_from_is_err_and}
use Rattle.bound_io.specs.Lines.{first_text}
use Rattle.cert_format.specs.Grammar.{number_line, value_slots, number_at}
use Rattle.cert_format.specs.Readings.{first_fault, lines_fault}
use Rattle.cert_format.specs.Parts.{values_in}
use Rattle.cert_format.proofs.Chains.{start, then_more, then_stop, all_done, Nothing, lines_stop, lines_none}
use Rattle.cert_format.proofs.HeaderParts.{values_same}
use Rattle.cert_format.proofs.header.read_values.Goals as goal

pub returns-in_err-read_number-2-clause-read : goal.returns-in_err-read_number-2-clause-read
returns-in_err-read_number-2-clause-read g c =
    let p = err_from_is_err_and c.from_residual-in_err-read_number-2.result c.from_residual-in_err-read_number-2.ensures.1 in
    let c0 = start c.args.lines.now (g.S.Source.left c.args.source.now) (g.S.Source.faults c.args.source.now) c.requires.no_fault in
    let c1 = then_more 0 Nothing (λ n. first_fault n (number_line (codes "upper") 0 (2 ^ 127 - 1))) 1 (λ bytes. number_at 1 (first_text bytes)) c.args.lines.now c.args.lines.now c.read_number.new.lines (g.S.Source.left c.args.source.now) (g.S.Source.left c.args.source.now) (g.S.Source.left c.read_number.new.source) (g.S.Source.faults c.args.source.now) (g.S.Source.faults c.args.source.now) (g.S.Source.faults c.read_number.new.source) _ c.read_number.result c.in_ok-read_number.was c0 c.read_number.ensures.read in
    rw (p.1, p.2) (then_stop 1 _ (λ n. first_fault n (number_line (codes "flow") 0 (2 ^ 127 - 1))) 1 (λ bytes. number_at 1 (first_text bytes)) c.args.lines.now c.read_number.new.lines c.read_number-2.new.lines (g.S.Source.left c.args.source.now) (g.S.Source.left c.read_number.new.source) (g.S.Source.left c.read_number-2.new.source) (g.S.Source.faults c.args.source.now) (g.S.Source.faults c.read_number.new.source) (g.S.Source.faults c.read_number-2.new.source) (lines_fault (c.args.lines.now.line + 1) value_slots) 3 values_in c.in_err-read_number-2.field-0.0 c.read_number-2.result c.in_err-read_number-2.was c1 c.read_number-2.ensures.read
    (λ bytes p f e. lines_stop c.args.lines.now.line (number_line (codes "upper") 0 (2 ^ 127 - 1) ∷ []) (number_line (codes "flow") 0 (2 ^ 127 - 1)) (number_line (codes "lower") 0 (2 ^ 127 - 1) ∷ []) bytes f (p.1, tt) e))

pub returns-in_err-read_number-3-clause-read : goal.returns-in_err-read_number-3-clause-read
returns-in_err-read_number-3-clause-read g c =
    let p = err_from_is_err_and c.from_residual-in_err-read_number-3.result c.from_residual-in_err-read_number-3.ensures.1 in
    let c0 = start c.args.lines.now (g.S.Source.left c.args.source.now) (g.S.Source.faults c.args.source.now) c.requires.no_fault in
    let c1 = then_more 0 Nothing (λ n. first_fault n (number_line (codes "upper") 0 (2 ^ 127 - 1))) 1 (λ bytes. number_at 1 (first_text bytes)) c.args.lines.now c.args.lines.now c.read_number.new.lines (g.S.Source.left c.args.source.now) (g.S.Source.left c.args.source.now) (g.S.Source.left c.read_number.new.source) (g.S.Source.faults c.args.source.now) (g.S.Source.faults c.args.source.now) (g.S.Source.faults c.read_number.new.source) _ c.read_number.result c.in_ok-read_number.was c0 c.read_number.ensures.read in
    let c2 = then_more 1 _ (λ n. first_fault n (number_line (codes "flow") 0 (2 ^ 127 - 1))) 1 (λ bytes. number_at 1 (first_text bytes)) c.args.lines.now c.read_number.new.lines c.read_number-2.new.lines (g.S.Source.left c.args.source.now) (g.S.Source.left c.read_number.new.source) (g.S.Source.left c.read_number-2.new.source) (g.S.Source.faults c.args.source.now) (g.S.Source.faults c.read_number.new.source) (g.S.Source.faults c.read_number-2.new.source) _ c.read_number-2.result c.in_ok-read_number-2.was c1 c.read_number-2.ensures.read in
    rw (p.1, p.2) (then_stop 2 _ (λ n. first_fault n (number_line (codes "lower") 0 (2 ^ 127 - 1))) 1 (λ bytes. number_at 1 (first_text bytes)) c.args.lines.now c.read_number-2.new.lines c.read_number-3.new.lines (g.S.Source.left c.args.source.now) (g.S.Source.left c.read_number-2.new.source) (g.S.Source.left c.read_number-3.new.source) (g.S.Source.faults c.args.source.now) (g.S.Source.faults c.read_number-2.new.source) (g.S.Source.faults c.read_number-3.new.source) (lines_fault (c.args.lines.now.line + 1) value_slots) 3 values_in c.in_err-read_number-3.field-0.0 c.read_number-3.result c.in_err-read_number-3.was c2 c.read_number-3.ensures.read
    (λ bytes p f e. lines_stop c.args.lines.now.line (number_line (codes "upper") 0 (2 ^ 127 - 1) ∷ number_line (codes "flow") 0 (2 ^ 127 - 1) ∷ []) (number_line (codes "lower") 0 (2 ^ 127 - 1)) ([]) bytes f (p.0.1, (p.1, tt)) e))

pub returns-clause-read : goal.returns-clause-read
returns-clause-read g c =
    let c0 = start c.args.lines.now (g.S.Source.left c.args.source.now) (g.S.Source.faults c.args.source.now) c.requires.no_fault in
    let c1 = then_more 0 Nothing (λ n. first_fault n (number_line (codes "upper") 0 (2 ^ 127 - 1))) 1 (λ bytes. number_at 1 (first_text bytes)) c.args.lines.now c.args.lines.now c.read_number.new.lines (g.S.Source.left c.args.source.now) (g.S.Source.left c.args.source.now) (g.S.Source.left c.read_number.new.source) (g.S.Source.faults c.args.source.now) (g.S.Source.faults c.args.source.now) (g.S.Source.faults c.read_number.new.source) _ c.read_number.result c.in_ok-read_number.was c0 c.read_number.ensures.read in
    let c2 = then_more 1 _ (λ n. first_fault n (number_line (codes "flow") 0 (2 ^ 127 - 1))) 1 (λ bytes. number_at 1 (first_text bytes)) c.args.lines.now c.read_number.new.lines c.read_number-2.new.lines (g.S.Source.left c.args.source.now) (g.S.Source.left c.read_number.new.source) (g.S.Source.left c.read_number-2.new.source) (g.S.Source.faults c.args.source.now) (g.S.Source.faults c.read_number.new.source) (g.S.Source.faults c.read_number-2.new.source) _ c.read_number-2.result c.in_ok-read_number-2.was c1 c.read_number-2.ensures.read in
    let c3 = then_more 2 _ (λ n. first_fault n (number_line (codes "lower") 0 (2 ^ 127 - 1))) 1 (λ bytes. number_at 1 (first_text bytes)) c.args.lines.now c.read_number-2.new.lines c.read_number-3.new.lines (g.S.Source.left c.args.source.now) (g.S.Source.left c.read_number-2.new.source) (g.S.Source.left c.read_number-3.new.source) (g.S.Source.faults c.args.source.now) (g.S.Source.faults c.read_number-2.new.source) (g.S.Source.faults c.read_number-3.new.source) _ c.read_number-3.result c.in_ok-read_number-3.was c2 c.read_number-3.ensures.read in
    all_done 3 _ c.args.lines.now c.read_number-3.new.lines (g.S.Source.left c.args.source.now) (g.S.Source.left c.read_number-3.new.source) (g.S.Source.faults c.args.source.now) (g.S.Source.faults c.read_number-3.new.source) (lines_fault (c.args.lines.now.line + 1) value_slots) values_in _ c3 c.read_number-3.ensures.read.held
    (λ bytes p. lines_none c.args.lines.now.line value_slots bytes (p.0.0.1, (p.0.1, (p.1, tt))))
    (λ bytes p. values_same _ _ _ _ _ _ p.0.0.2 p.0.2 p.2)

pub read_number-requires-clause-limit : goal.read_number-requires-clause-limit
read_number-requires-clause-limit g c = c.requires.limit

pub read_number-requires-clause-few : goal.read_number-requires-clause-few
read_number-requires-clause-few g c = omega (arith, c.requires.few)

pub read_number-requires-clause-no_fault : goal.read_number-requires-clause-no_fault
read_number-requires-clause-no_fault g c = c.requires.no_fault

pub returns-in_err-read_number-clause-range : goal.returns-in_err-read_number-clause-range
returns-in_err-read_number-clause-range g c = rw (err_from_is_err_and c.from_residual.result c.from_residual.ensures.1).1 tt

pub read_number-requires-2-clause-limit : goal.read_number-requires-2-clause-limit
read_number-requires-2-clause-limit g c = c.in_ok-read_number.ensures.read.limit ∙ c.requires.limit

pub read_number-requires-2-clause-few : goal.read_number-requires-2-clause-few
read_number-requires-2-clause-few g c = omega (arith, c.in_ok-read_number.ensures.read.given.0, c.requires.few)

pub read_number-requires-2-clause-no_fault : goal.read_number-requires-2-clause-no_fault
read_number-requires-2-clause-no_fault g c = c.in_ok-read_number.ensures.read.given.1

pub returns-in_err-read_number-2-clause-range : goal.returns-in_err-read_number-2-clause-range
returns-in_err-read_number-2-clause-range g c = rw (err_from_is_err_and c.from_residual-in_err-read_number-2.result c.from_residual-in_err-read_number-2.ensures.1).1 tt

pub read_number-requires-3-clause-limit : goal.read_number-requires-3-clause-limit
read_number-requires-3-clause-limit g c = c.in_ok-read_number-2.ensures.read.limit ∙ (c.in_ok-read_number.ensures.read.limit ∙ c.requires.limit)

pub read_number-requires-3-clause-few : goal.read_number-requires-3-clause-few
read_number-requires-3-clause-few g c = omega (arith, c.in_ok-read_number.ensures.read.given.0, c.in_ok-read_number-2.ensures.read.given.0, c.requires.few)

pub read_number-requires-3-clause-no_fault : goal.read_number-requires-3-clause-no_fault
read_number-requires-3-clause-no_fault g c = c.in_ok-read_number-2.ensures.read.given.1

pub returns-in_err-read_number-3-clause-range : goal.returns-in_err-read_number-3-clause-range
returns-in_err-read_number-3-clause-range g c = rw (err_from_is_err_and c.from_residual-in_err-read_number-3.result c.from_residual-in_err-read_number-3.ensures.1).1 tt

pub returns-clause-range : goal.returns-clause-range
returns-clause-range g c = record { upper = omega (arith, c.in_ok-read_number.ensures.range); flow = omega (arith, c.in_ok-read_number-2.ensures.range); lower = omega (arith, c.in_ok-read_number-3.ensures.range) }

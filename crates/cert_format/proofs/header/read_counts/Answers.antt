use Rattle.std.proofs.Common.{◌+◌, ◌^◌, ◌∙◌, sym, ap, arith, ◌∷◌, [], codes}
use Rattle.std.proofs.lemmas.Result.{err_from_is_err_and}
use Rattle.bound_io.specs.Lines.{first_text}
use Rattle.cert_format.specs.Grammar.{number_line, count_slots, number_at}
use Rattle.cert_format.specs.Readings.{first_fault, lines_fault}
use Rattle.cert_format.specs.Parts.{counts_in}
use Rattle.cert_format.proofs.Headers.{after_lines-zero}
use Rattle.cert_format.proofs.Chains.{start, then_more, then_stop, all_done, Nothing, lines_stop, lines_none}
use Rattle.cert_format.proofs.HeaderParts.{counts_same}
use Rattle.cert_format.proofs.header.read_counts.Goals as goal

pub returns-in_err-requests-clause-read : goal.returns-in_err-requests-clause-read
returns-in_err-requests-clause-read g c =
    let p = err_from_is_err_and c.from_residual-in_err-requests.result c.from_residual-in_err-requests.ensures.1 in
    let c0 = start c.args.lines.now (g.S.Source.left c.args.source.now) (g.S.Source.faults c.args.source.now) c.requires.no_fault in
    let c1 = then_more 0 Nothing (λ n. first_fault n (number_line (codes "capacity") 1 (2 ^ 56))) 1 (λ bytes. number_at 1 (first_text bytes)) c.args.lines.now c.args.lines.now c.read_number.new.lines (g.S.Source.left c.args.source.now) (g.S.Source.left c.args.source.now) (g.S.Source.left c.read_number.new.source) (g.S.Source.faults c.args.source.now) (g.S.Source.faults c.args.source.now) (g.S.Source.faults c.read_number.new.source) c.in_ok-capacity.capacity c.read_number.result c.in_ok-capacity.was c0 c.read_number.ensures.read in
    rw (p.1, p.2) (then_stop 1 _ (λ n. first_fault n (number_line (codes "requests") 0 (2 ^ 25))) 1 (λ bytes. number_at 1 (first_text bytes)) c.args.lines.now c.read_number.new.lines c.read_number-2.new.lines (g.S.Source.left c.args.source.now) (g.S.Source.left c.read_number.new.source) (g.S.Source.left c.read_number-2.new.source) (g.S.Source.faults c.args.source.now) (g.S.Source.faults c.read_number.new.source) (g.S.Source.faults c.read_number-2.new.source) (λ bytes. lines_fault (c.args.lines.now.line + 1) (count_slots (number_at 1 (first_text bytes))) bytes) 4 counts_in c.in_err-requests.field-0.0 c.read_number-2.result c.in_err-requests.was c1 c.read_number-2.ensures.read
    (λ bytes p f e. ap (λ cap. lines_fault (c.args.lines.now.line + 1) (count_slots cap) bytes) (ap (λ b. number_at 1 (first_text b)) (sym (after_lines-zero bytes)) ∙ sym p.2) ∙ lines_stop c.args.lines.now.line (number_line (codes "capacity") 1 (2 ^ 56) ∷ []) (number_line (codes "requests") 0 (2 ^ 25)) (number_line (codes "unit") 1 (c.in_ok-capacity.capacity) ∷ number_line (codes "denominator") 1 (2 ^ 48) ∷ []) bytes f (p.1, tt) e))

pub returns-in_err-unit-clause-read : goal.returns-in_err-unit-clause-read
returns-in_err-unit-clause-read g c =
    let p = err_from_is_err_and c.from_residual-in_err-unit.result c.from_residual-in_err-unit.ensures.1 in
    let c0 = start c.args.lines.now (g.S.Source.left c.args.source.now) (g.S.Source.faults c.args.source.now) c.requires.no_fault in
    let c1 = then_more 0 Nothing (λ n. first_fault n (number_line (codes "capacity") 1 (2 ^ 56))) 1 (λ bytes. number_at 1 (first_text bytes)) c.args.lines.now c.args.lines.now c.read_number.new.lines (g.S.Source.left c.args.source.now) (g.S.Source.left c.args.source.now) (g.S.Source.left c.read_number.new.source) (g.S.Source.faults c.args.source.now) (g.S.Source.faults c.args.source.now) (g.S.Source.faults c.read_number.new.source) c.in_ok-capacity.capacity c.read_number.result c.in_ok-capacity.was c0 c.read_number.ensures.read in
    let c2 = then_more 1 _ (λ n. first_fault n (number_line (codes "requests") 0 (2 ^ 25))) 1 (λ bytes. number_at 1 (first_text bytes)) c.args.lines.now c.read_number.new.lines c.read_number-2.new.lines (g.S.Source.left c.args.source.now) (g.S.Source.left c.read_number.new.source) (g.S.Source.left c.read_number-2.new.source) (g.S.Source.faults c.args.source.now) (g.S.Source.faults c.read_number.new.source) (g.S.Source.faults c.read_number-2.new.source) c.in_ok-requests.requests c.read_number-2.result c.in_ok-requests.was c1 c.read_number-2.ensures.read in
    rw (p.1, p.2) (then_stop 2 _ (λ n. first_fault n (number_line (codes "unit") 1 (c.in_ok-capacity.capacity))) 1 (λ bytes. number_at 1 (first_text bytes)) c.args.lines.now c.read_number-2.new.lines c.read_number-3.new.lines (g.S.Source.left c.args.source.now) (g.S.Source.left c.read_number-2.new.source) (g.S.Source.left c.read_number-3.new.source) (g.S.Source.faults c.args.source.now) (g.S.Source.faults c.read_number-2.new.source) (g.S.Source.faults c.read_number-3.new.source) (λ bytes. lines_fault (c.args.lines.now.line + 1) (count_slots (number_at 1 (first_text bytes))) bytes) 4 counts_in c.in_err-unit.field-0.0 c.read_number-3.result c.in_err-unit.was c2 c.read_number-3.ensures.read
    (λ bytes p f e. ap (λ cap. lines_fault (c.args.lines.now.line + 1) (count_slots cap) bytes) (ap (λ b. number_at 1 (first_text b)) (sym (after_lines-zero bytes)) ∙ sym p.0.2) ∙ lines_stop c.args.lines.now.line (number_line (codes "capacity") 1 (2 ^ 56) ∷ number_line (codes "requests") 0 (2 ^ 25) ∷ []) (number_line (codes "unit") 1 (c.in_ok-capacity.capacity)) (number_line (codes "denominator") 1 (2 ^ 48) ∷ []) bytes f (p.0.1, (p.1, tt)) e))

pub returns-in_err-denominator-clause-read : goal.returns-in_err-denominator-clause-read
returns-in_err-denominator-clause-read g c =
    let p = err_from_is_err_and c.from_residual-in_err-denominator.result c.from_residual-in_err-denominator.ensures.1 in
    let c0 = start c.args.lines.now (g.S.Source.left c.args.source.now) (g.S.Source.faults c.args.source.now) c.requires.no_fault in
    let c1 = then_more 0 Nothing (λ n. first_fault n (number_line (codes "capacity") 1 (2 ^ 56))) 1 (λ bytes. number_at 1 (first_text bytes)) c.args.lines.now c.args.lines.now c.read_number.new.lines (g.S.Source.left c.args.source.now) (g.S.Source.left c.args.source.now) (g.S.Source.left c.read_number.new.source) (g.S.Source.faults c.args.source.now) (g.S.Source.faults c.args.source.now) (g.S.Source.faults c.read_number.new.source) c.in_ok-capacity.capacity c.read_number.result c.in_ok-capacity.was c0 c.read_number.ensures.read in
    let c2 = then_more 1 _ (λ n. first_fault n (number_line (codes "requests") 0 (2 ^ 25))) 1 (λ bytes. number_at 1 (first_text bytes)) c.args.lines.now c.read_number.new.lines c.read_number-2.new.lines (g.S.Source.left c.args.source.now) (g.S.Source.left c.read_number.new.source) (g.S.Source.left c.read_number-2.new.source) (g.S.Source.faults c.args.source.now) (g.S.Source.faults c.read_number.new.source) (g.S.Source.faults c.read_number-2.new.source) c.in_ok-requests.requests c.read_number-2.result c.in_ok-requests.was c1 c.read_number-2.ensures.read in
    let c3 = then_more 2 _ (λ n. first_fault n (number_line (codes "unit") 1 (c.in_ok-capacity.capacity))) 1 (λ bytes. number_at 1 (first_text bytes)) c.args.lines.now c.read_number-2.new.lines c.read_number-3.new.lines (g.S.Source.left c.args.source.now) (g.S.Source.left c.read_number-2.new.source) (g.S.Source.left c.read_number-3.new.source) (g.S.Source.faults c.args.source.now) (g.S.Source.faults c.read_number-2.new.source) (g.S.Source.faults c.read_number-3.new.source) c.in_ok-unit.unit c.read_number-3.result c.in_ok-unit.was c2 c.read_number-3.ensures.read in
    rw (p.1, p.2) (then_stop 3 _ (λ n. first_fault n (number_line (codes "denominator") 1 (2 ^ 48))) 1 (λ bytes. number_at 1 (first_text bytes)) c.args.lines.now c.read_number-3.new.lines c.read_number-4.new.lines (g.S.Source.left c.args.source.now) (g.S.Source.left c.read_number-3.new.source) (g.S.Source.left c.read_number-4.new.source) (g.S.Source.faults c.args.source.now) (g.S.Source.faults c.read_number-3.new.source) (g.S.Source.faults c.read_number-4.new.source) (λ bytes. lines_fault (c.args.lines.now.line + 1) (count_slots (number_at 1 (first_text bytes))) bytes) 4 counts_in c.in_err-denominator.field-0.0 c.read_number-4.result c.in_err-denominator.was c3 c.read_number-4.ensures.read
    (λ bytes p f e. ap (λ cap. lines_fault (c.args.lines.now.line + 1) (count_slots cap) bytes) (ap (λ b. number_at 1 (first_text b)) (sym (after_lines-zero bytes)) ∙ sym p.0.0.2) ∙ lines_stop c.args.lines.now.line (number_line (codes "capacity") 1 (2 ^ 56) ∷ number_line (codes "requests") 0 (2 ^ 25) ∷ number_line (codes "unit") 1 (c.in_ok-capacity.capacity) ∷ []) (number_line (codes "denominator") 1 (2 ^ 48)) ([]) bytes f (p.0.0.1, (p.0.1, (p.1, tt))) e))

pub returns-clause-read : goal.returns-clause-read
returns-clause-read g c =
    let c0 = start c.args.lines.now (g.S.Source.left c.args.source.now) (g.S.Source.faults c.args.source.now) c.requires.no_fault in
    let c1 = then_more 0 Nothing (λ n. first_fault n (number_line (codes "capacity") 1 (2 ^ 56))) 1 (λ bytes. number_at 1 (first_text bytes)) c.args.lines.now c.args.lines.now c.read_number.new.lines (g.S.Source.left c.args.source.now) (g.S.Source.left c.args.source.now) (g.S.Source.left c.read_number.new.source) (g.S.Source.faults c.args.source.now) (g.S.Source.faults c.args.source.now) (g.S.Source.faults c.read_number.new.source) c.in_ok-capacity.capacity c.read_number.result c.in_ok-capacity.was c0 c.read_number.ensures.read in
    let c2 = then_more 1 _ (λ n. first_fault n (number_line (codes "requests") 0 (2 ^ 25))) 1 (λ bytes. number_at 1 (first_text bytes)) c.args.lines.now c.read_number.new.lines c.read_number-2.new.lines (g.S.Source.left c.args.source.now) (g.S.Source.left c.read_number.new.source) (g.S.Source.left c.read_number-2.new.source) (g.S.Source.faults c.args.source.now) (g.S.Source.faults c.read_number.new.source) (g.S.Source.faults c.read_number-2.new.source) c.in_ok-requests.requests c.read_number-2.result c.in_ok-requests.was c1 c.read_number-2.ensures.read in
    let c3 = then_more 2 _ (λ n. first_fault n (number_line (codes "unit") 1 (c.in_ok-capacity.capacity))) 1 (λ bytes. number_at 1 (first_text bytes)) c.args.lines.now c.read_number-2.new.lines c.read_number-3.new.lines (g.S.Source.left c.args.source.now) (g.S.Source.left c.read_number-2.new.source) (g.S.Source.left c.read_number-3.new.source) (g.S.Source.faults c.args.source.now) (g.S.Source.faults c.read_number-2.new.source) (g.S.Source.faults c.read_number-3.new.source) c.in_ok-unit.unit c.read_number-3.result c.in_ok-unit.was c2 c.read_number-3.ensures.read in
    let c4 = then_more 3 _ (λ n. first_fault n (number_line (codes "denominator") 1 (2 ^ 48))) 1 (λ bytes. number_at 1 (first_text bytes)) c.args.lines.now c.read_number-3.new.lines c.read_number-4.new.lines (g.S.Source.left c.args.source.now) (g.S.Source.left c.read_number-3.new.source) (g.S.Source.left c.read_number-4.new.source) (g.S.Source.faults c.args.source.now) (g.S.Source.faults c.read_number-3.new.source) (g.S.Source.faults c.read_number-4.new.source) c.in_ok-denominator.denominator c.read_number-4.result c.in_ok-denominator.was c3 c.read_number-4.ensures.read in
    all_done 4 _ c.args.lines.now c.read_number-4.new.lines (g.S.Source.left c.args.source.now) (g.S.Source.left c.read_number-4.new.source) (g.S.Source.faults c.args.source.now) (g.S.Source.faults c.read_number-4.new.source) (λ bytes. lines_fault (c.args.lines.now.line + 1) (count_slots (number_at 1 (first_text bytes))) bytes) counts_in _ c4 c.read_number-4.ensures.read.held
    (λ bytes p. ap (λ cap. lines_fault (c.args.lines.now.line + 1) (count_slots cap) bytes) (ap (λ b. number_at 1 (first_text b)) (sym (after_lines-zero bytes)) ∙ sym p.0.0.0.2) ∙ lines_none c.args.lines.now.line (number_line (codes "capacity") 1 (2 ^ 56) ∷ number_line (codes "requests") 0 (2 ^ 25) ∷ number_line (codes "unit") 1 (c.in_ok-capacity.capacity) ∷ number_line (codes "denominator") 1 (2 ^ 48) ∷ []) bytes (p.0.0.0.1, (p.0.0.1, (p.0.1, (p.1, tt)))))
    (λ bytes p. counts_same _ _ _ _ _ _ _ _ p.0.0.0.2 p.0.0.2 p.0.2 p.2)

pub read_number-requires-clause-limit : goal.read_number-requires-clause-limit
read_number-requires-clause-limit g c = c.requires.limit

pub read_number-requires-clause-few : goal.read_number-requires-clause-few
read_number-requires-clause-few g c = omega (arith, c.requires.few)

pub read_number-requires-clause-no_fault : goal.read_number-requires-clause-no_fault
read_number-requires-clause-no_fault g c = c.requires.no_fault

pub returns-in_err-capacity-clause-range : goal.returns-in_err-capacity-clause-range
returns-in_err-capacity-clause-range g c = rw (err_from_is_err_and c.from_residual.result c.from_residual.ensures.1).1 tt

pub read_number-requires-2-clause-limit : goal.read_number-requires-2-clause-limit
read_number-requires-2-clause-limit g c = c.in_ok-capacity.ensures.read.limit ∙ c.requires.limit

pub read_number-requires-2-clause-few : goal.read_number-requires-2-clause-few
read_number-requires-2-clause-few g c = omega (arith, c.in_ok-capacity.ensures.read.given.0, c.requires.few)

pub read_number-requires-2-clause-no_fault : goal.read_number-requires-2-clause-no_fault
read_number-requires-2-clause-no_fault g c = c.in_ok-capacity.ensures.read.given.1

pub returns-in_err-requests-clause-range : goal.returns-in_err-requests-clause-range
returns-in_err-requests-clause-range g c = rw (err_from_is_err_and c.from_residual-in_err-requests.result c.from_residual-in_err-requests.ensures.1).1 tt

pub read_number-requires-3-clause-limit : goal.read_number-requires-3-clause-limit
read_number-requires-3-clause-limit g c = c.in_ok-requests.ensures.read.limit ∙ (c.in_ok-capacity.ensures.read.limit ∙ c.requires.limit)

pub read_number-requires-3-clause-few : goal.read_number-requires-3-clause-few
read_number-requires-3-clause-few g c = omega (arith, c.in_ok-capacity.ensures.read.given.0, c.in_ok-requests.ensures.read.given.0, c.requires.few)

pub read_number-requires-3-clause-no_fault : goal.read_number-requires-3-clause-no_fault
read_number-requires-3-clause-no_fault g c = c.in_ok-requests.ensures.read.given.1

pub returns-in_err-unit-clause-range : goal.returns-in_err-unit-clause-range
returns-in_err-unit-clause-range g c = rw (err_from_is_err_and c.from_residual-in_err-unit.result c.from_residual-in_err-unit.ensures.1).1 tt

pub read_number-requires-4-clause-limit : goal.read_number-requires-4-clause-limit
read_number-requires-4-clause-limit g c = c.in_ok-unit.ensures.read.limit ∙ (c.in_ok-requests.ensures.read.limit ∙ (c.in_ok-capacity.ensures.read.limit ∙ c.requires.limit))

pub read_number-requires-4-clause-few : goal.read_number-requires-4-clause-few
read_number-requires-4-clause-few g c = omega (arith, c.in_ok-capacity.ensures.read.given.0, c.in_ok-requests.ensures.read.given.0, c.in_ok-unit.ensures.read.given.0, c.requires.few)

pub read_number-requires-4-clause-no_fault : goal.read_number-requires-4-clause-no_fault
read_number-requires-4-clause-no_fault g c = c.in_ok-unit.ensures.read.given.1

pub returns-in_err-denominator-clause-range : goal.returns-in_err-denominator-clause-range
returns-in_err-denominator-clause-range g c = rw (err_from_is_err_and c.from_residual-in_err-denominator.result c.from_residual-in_err-denominator.ensures.1).1 tt

pub read_number-requires-3-clause-high : goal.read_number-requires-3-clause-high
read_number-requires-3-clause-high g c = omega (arith, c.in_ok-capacity.ensures.range)

pub overflow_cast-result : goal.overflow_cast-result
overflow_cast-result g c = omega (arith, c.in_ok-capacity.ensures.range)

pub overflow_cast-result-2 : goal.overflow_cast-result-2
overflow_cast-result-2 g c = omega (arith, c.in_ok-requests.ensures.range)

pub overflow_cast-result-3 : goal.overflow_cast-result-3
overflow_cast-result-3 g c = omega (arith, c.in_ok-capacity.ensures.range, c.in_ok-unit.ensures.range)

pub overflow_cast-result-4 : goal.overflow_cast-result-4
overflow_cast-result-4 g c = omega (arith, c.in_ok-denominator.ensures.range)

pub returns-clause-range : goal.returns-clause-range
returns-clause-range g c = record {
  capacity = c.in_ok-capacity.ensures.range;
  requests = c.in_ok-requests.ensures.range.1;
  unit = c.in_ok-unit.ensures.range;
  denominator = c.in_ok-denominator.ensures.range;
}

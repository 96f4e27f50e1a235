use Rattle.std.proofs.Common.{◌∙◌, codes, refl}
use Rattle.std.specs.Str.{bytes_eq}
use Rattle.std.proofs.lemmas.Result.{err_from_is_err_and}
use Rattle.bound_io.specs.Lines.{first_text}
use Rattle.cert_format.specs.Grammar.{number_at, word_at}
use Rattle.cert_format.specs.Readings.{first_fault}
use Rattle.cert_format.specs.Parts.{counts_fault, counts_in}
use Rattle.cert_format.proofs.Chains.{start, then_more, then_stop, all_done, Nothing}
use Rattle.cert_format.proofs.HeaderParts.{stop2, stop3, stop4, stop5, last6}
use Rattle.budget_format.specs.Readings.{header_fault, header_in}
use Rattle.budget_format.specs.Parts.{tail_fault, tail_in, tail_len}
use Rattle.budget_format.proofs.HeaderParts.{first, form, header_parts, header_same, objective, upper, whole_header}
use Rattle.budget_format.proofs.header.read_header.Goals as goal

pub returns-in_err-of_objects-clause-read : goal.returns-in_err-of_objects-clause-read
returns-in_err-of_objects-clause-read g c =
    let p = err_from_is_err_and c.from_residual-in_err-of_objects.result c.from_residual-in_err-of_objects.ensures.1 in
    let c0 = start c.args.lines.now (g.S.Source.left c.args.source.now) (g.S.Source.faults c.args.source.now) c.requires.no_fault in
    let c1 = then_more 0 Nothing (λ n. first_fault n first) 1 (λ bytes. tt) c.args.lines.now c.args.lines.now c.read_fixed.new.lines (g.S.Source.left c.args.source.now) (g.S.Source.left c.args.source.now) (g.S.Source.left c.read_fixed.new.source) (g.S.Source.faults c.args.source.now) (g.S.Source.faults c.args.source.now) (g.S.Source.faults c.read_fixed.new.source) tt c.read_fixed.result c.in_ok-read_fixed.was c0 c.read_fixed.ensures in
    rw (p.1, p.2) (then_stop 1 _ (λ n. first_fault n objective) 1 (λ bytes. bytes_eq (word_at 1 (first_text bytes)) (codes "object")) c.args.lines.now c.read_fixed.new.lines c.read_choice.new.lines (g.S.Source.left c.args.source.now) (g.S.Source.left c.read_fixed.new.source) (g.S.Source.left c.read_choice.new.source) (g.S.Source.faults c.args.source.now) (g.S.Source.faults c.read_fixed.new.source) (g.S.Source.faults c.read_choice.new.source) header_fault 0 header_in c.in_err-of_objects.field-0.0 c.read_choice.result c.in_err-of_objects.was c1 c.read_choice.ensures
    (λ bytes p f e. header_parts c.args.lines.now.line bytes c.requires.first ∙ (stop2 f _ _ _ p.1 e)))

pub returns-in_err-counts-clause-read : goal.returns-in_err-counts-clause-read
returns-in_err-counts-clause-read g c =
    let p = err_from_is_err_and c.from_residual-in_err-counts.result c.from_residual-in_err-counts.ensures.1 in
    let c0 = start c.args.lines.now (g.S.Source.left c.args.source.now) (g.S.Source.faults c.args.source.now) c.requires.no_fault in
    let c1 = then_more 0 Nothing (λ n. first_fault n first) 1 (λ bytes. tt) c.args.lines.now c.args.lines.now c.read_fixed.new.lines (g.S.Source.left c.args.source.now) (g.S.Source.left c.args.source.now) (g.S.Source.left c.read_fixed.new.source) (g.S.Source.faults c.args.source.now) (g.S.Source.faults c.args.source.now) (g.S.Source.faults c.read_fixed.new.source) tt c.read_fixed.result c.in_ok-read_fixed.was c0 c.read_fixed.ensures in
    let c2 = then_more 1 _ (λ n. first_fault n objective) 1 (λ bytes. bytes_eq (word_at 1 (first_text bytes)) (codes "object")) c.args.lines.now c.read_fixed.new.lines c.read_choice.new.lines (g.S.Source.left c.args.source.now) (g.S.Source.left c.read_fixed.new.source) (g.S.Source.left c.read_choice.new.source) (g.S.Source.faults c.args.source.now) (g.S.Source.faults c.read_fixed.new.source) (g.S.Source.faults c.read_choice.new.source) c.in_ok-of_objects.of_objects c.read_choice.result c.in_ok-of_objects.was c1 c.read_choice.ensures in
    rw (p.1, p.2) (then_stop 2 _ counts_fault 4 counts_in c.args.lines.now c.read_choice.new.lines c.read_counts.new.lines (g.S.Source.left c.args.source.now) (g.S.Source.left c.read_choice.new.source) (g.S.Source.left c.read_counts.new.source) (g.S.Source.faults c.args.source.now) (g.S.Source.faults c.read_choice.new.source) (g.S.Source.faults c.read_counts.new.source) header_fault 0 header_in c.in_err-counts.field-0.0 c.read_counts.result c.in_err-counts.was c2 c.read_counts.ensures.read
    (λ bytes p f e. header_parts c.args.lines.now.line bytes c.requires.first ∙ (stop3 f _ _ _ _ p.0.1 p.1 e)))

pub returns-in_err-read_fixed-2-clause-read : goal.returns-in_err-read_fixed-2-clause-read
returns-in_err-read_fixed-2-clause-read g c =
    let p = err_from_is_err_and c.from_residual-in_err-read_fixed-2.result c.from_residual-in_err-read_fixed-2.ensures.1 in
    let c0 = start c.args.lines.now (g.S.Source.left c.args.source.now) (g.S.Source.faults c.args.source.now) c.requires.no_fault in
    let c1 = then_more 0 Nothing (λ n. first_fault n first) 1 (λ bytes. tt) c.args.lines.now c.args.lines.now c.read_fixed.new.lines (g.S.Source.left c.args.source.now) (g.S.Source.left c.args.source.now) (g.S.Source.left c.read_fixed.new.source) (g.S.Source.faults c.args.source.now) (g.S.Source.faults c.args.source.now) (g.S.Source.faults c.read_fixed.new.source) tt c.read_fixed.result c.in_ok-read_fixed.was c0 c.read_fixed.ensures in
    let c2 = then_more 1 _ (λ n. first_fault n objective) 1 (λ bytes. bytes_eq (word_at 1 (first_text bytes)) (codes "object")) c.args.lines.now c.read_fixed.new.lines c.read_choice.new.lines (g.S.Source.left c.args.source.now) (g.S.Source.left c.read_fixed.new.source) (g.S.Source.left c.read_choice.new.source) (g.S.Source.faults c.args.source.now) (g.S.Source.faults c.read_fixed.new.source) (g.S.Source.faults c.read_choice.new.source) c.in_ok-of_objects.of_objects c.read_choice.result c.in_ok-of_objects.was c1 c.read_choice.ensures in
    let c3 = then_more 2 _ counts_fault 4 counts_in c.args.lines.now c.read_choice.new.lines c.read_counts.new.lines (g.S.Source.left c.args.source.now) (g.S.Source.left c.read_choice.new.source) (g.S.Source.left c.read_counts.new.source) (g.S.Source.faults c.args.source.now) (g.S.Source.faults c.read_choice.new.source) (g.S.Source.faults c.read_counts.new.source) c.in_ok-counts.counts c.read_counts.result c.in_ok-counts.was c2 c.read_counts.ensures.read in
    rw (p.1, p.2) (then_stop 6 _ (λ n. first_fault n form) 1 (λ bytes. tt) c.args.lines.now c.read_counts.new.lines c.read_fixed-2.new.lines (g.S.Source.left c.args.source.now) (g.S.Source.left c.read_counts.new.source) (g.S.Source.left c.read_fixed-2.new.source) (g.S.Source.faults c.args.source.now) (g.S.Source.faults c.read_counts.new.source) (g.S.Source.faults c.read_fixed-2.new.source) header_fault 0 header_in c.in_err-read_fixed-2.field-0.0 c.read_fixed-2.result c.in_err-read_fixed-2.was c3 c.read_fixed-2.ensures
    (λ bytes p f e. header_parts c.args.lines.now.line bytes c.requires.first ∙ (stop4 f _ _ _ _ _ p.0.0.1 p.0.1 p.1 e)))

pub returns-in_err-upper-clause-read : goal.returns-in_err-upper-clause-read
returns-in_err-upper-clause-read g c =
    let p = err_from_is_err_and c.from_residual-in_err-upper.result c.from_residual-in_err-upper.ensures.1 in
    let c0 = start c.args.lines.now (g.S.Source.left c.args.source.now) (g.S.Source.faults c.args.source.now) c.requires.no_fault in
    let c1 = then_more 0 Nothing (λ n. first_fault n first) 1 (λ bytes. tt) c.args.lines.now c.args.lines.now c.read_fixed.new.lines (g.S.Source.left c.args.source.now) (g.S.Source.left c.args.source.now) (g.S.Source.left c.read_fixed.new.source) (g.S.Source.faults c.args.source.now) (g.S.Source.faults c.args.source.now) (g.S.Source.faults c.read_fixed.new.source) tt c.read_fixed.result c.in_ok-read_fixed.was c0 c.read_fixed.ensures in
    let c2 = then_more 1 _ (λ n. first_fault n objective) 1 (λ bytes. bytes_eq (word_at 1 (first_text bytes)) (codes "object")) c.args.lines.now c.read_fixed.new.lines c.read_choice.new.lines (g.S.Source.left c.args.source.now) (g.S.Source.left c.read_fixed.new.source) (g.S.Source.left c.read_choice.new.source) (g.S.Source.faults c.args.source.now) (g.S.Source.faults c.read_fixed.new.source) (g.S.Source.faults c.read_choice.new.source) c.in_ok-of_objects.of_objects c.read_choice.result c.in_ok-of_objects.was c1 c.read_choice.ensures in
    let c3 = then_more 2 _ counts_fault 4 counts_in c.args.lines.now c.read_choice.new.lines c.read_counts.new.lines (g.S.Source.left c.args.source.now) (g.S.Source.left c.read_choice.new.source) (g.S.Source.left c.read_counts.new.source) (g.S.Source.faults c.args.source.now) (g.S.Source.faults c.read_choice.new.source) (g.S.Source.faults c.read_counts.new.source) c.in_ok-counts.counts c.read_counts.result c.in_ok-counts.was c2 c.read_counts.ensures.read in
    let c4 = then_more 6 _ (λ n. first_fault n form) 1 (λ bytes. tt) c.args.lines.now c.read_counts.new.lines c.read_fixed-2.new.lines (g.S.Source.left c.args.source.now) (g.S.Source.left c.read_counts.new.source) (g.S.Source.left c.read_fixed-2.new.source) (g.S.Source.faults c.args.source.now) (g.S.Source.faults c.read_counts.new.source) (g.S.Source.faults c.read_fixed-2.new.source) tt c.read_fixed-2.result c.in_ok-read_fixed-2.was c3 c.read_fixed-2.ensures in
    rw (p.1, p.2) (then_stop 7 _ (λ n. first_fault n upper) 1 (λ bytes. number_at 1 (first_text bytes)) c.args.lines.now c.read_fixed-2.new.lines c.read_number.new.lines (g.S.Source.left c.args.source.now) (g.S.Source.left c.read_fixed-2.new.source) (g.S.Source.left c.read_number.new.source) (g.S.Source.faults c.args.source.now) (g.S.Source.faults c.read_fixed-2.new.source) (g.S.Source.faults c.read_number.new.source) header_fault 0 header_in c.in_err-upper.field-0.0 c.read_number.result c.in_err-upper.was c4 c.read_number.ensures.read
    (λ bytes p f e. header_parts c.args.lines.now.line bytes c.requires.first ∙ (stop5 f _ _ _ _ _ _ p.0.0.0.1 p.0.0.1 p.0.1 p.1 e)))

pub returns-in_err-tail-clause-read : goal.returns-in_err-tail-clause-read
returns-in_err-tail-clause-read g c =
    let p = err_from_is_err_and c.from_residual-in_err-tail.result c.from_residual-in_err-tail.ensures.1 in
    let c0 = start c.args.lines.now (g.S.Source.left c.args.source.now) (g.S.Source.faults c.args.source.now) c.requires.no_fault in
    let c1 = then_more 0 Nothing (λ n. first_fault n first) 1 (λ bytes. tt) c.args.lines.now c.args.lines.now c.read_fixed.new.lines (g.S.Source.left c.args.source.now) (g.S.Source.left c.args.source.now) (g.S.Source.left c.read_fixed.new.source) (g.S.Source.faults c.args.source.now) (g.S.Source.faults c.args.source.now) (g.S.Source.faults c.read_fixed.new.source) tt c.read_fixed.result c.in_ok-read_fixed.was c0 c.read_fixed.ensures in
    let c2 = then_more 1 _ (λ n. first_fault n objective) 1 (λ bytes. bytes_eq (word_at 1 (first_text bytes)) (codes "object")) c.args.lines.now c.read_fixed.new.lines c.read_choice.new.lines (g.S.Source.left c.args.source.now) (g.S.Source.left c.read_fixed.new.source) (g.S.Source.left c.read_choice.new.source) (g.S.Source.faults c.args.source.now) (g.S.Source.faults c.read_fixed.new.source) (g.S.Source.faults c.read_choice.new.source) c.in_ok-of_objects.of_objects c.read_choice.result c.in_ok-of_objects.was c1 c.read_choice.ensures in
    let c3 = then_more 2 _ counts_fault 4 counts_in c.args.lines.now c.read_choice.new.lines c.read_counts.new.lines (g.S.Source.left c.args.source.now) (g.S.Source.left c.read_choice.new.source) (g.S.Source.left c.read_counts.new.source) (g.S.Source.faults c.args.source.now) (g.S.Source.faults c.read_choice.new.source) (g.S.Source.faults c.read_counts.new.source) c.in_ok-counts.counts c.read_counts.result c.in_ok-counts.was c2 c.read_counts.ensures.read in
    let c4 = then_more 6 _ (λ n. first_fault n form) 1 (λ bytes. tt) c.args.lines.now c.read_counts.new.lines c.read_fixed-2.new.lines (g.S.Source.left c.args.source.now) (g.S.Source.left c.read_counts.new.source) (g.S.Source.left c.read_fixed-2.new.source) (g.S.Source.faults c.args.source.now) (g.S.Source.faults c.read_counts.new.source) (g.S.Source.faults c.read_fixed-2.new.source) tt c.read_fixed-2.result c.in_ok-read_fixed-2.was c3 c.read_fixed-2.ensures in
    let c5 = then_more 7 _ (λ n. first_fault n upper) 1 (λ bytes. number_at 1 (first_text bytes)) c.args.lines.now c.read_fixed-2.new.lines c.read_number.new.lines (g.S.Source.left c.args.source.now) (g.S.Source.left c.read_fixed-2.new.source) (g.S.Source.left c.read_number.new.source) (g.S.Source.faults c.args.source.now) (g.S.Source.faults c.read_fixed-2.new.source) (g.S.Source.faults c.read_number.new.source) c.in_ok-upper.upper c.read_number.result c.in_ok-upper.was c4 c.read_number.ensures.read in
    rw (p.1, p.2) (then_stop 8 _ tail_fault (tail_len c.read_tail.result) tail_in c.args.lines.now c.read_number.new.lines c.read_tail.new.lines (g.S.Source.left c.args.source.now) (g.S.Source.left c.read_number.new.source) (g.S.Source.left c.read_tail.new.source) (g.S.Source.faults c.args.source.now) (g.S.Source.faults c.read_number.new.source) (g.S.Source.faults c.read_tail.new.source) header_fault 0 header_in c.in_err-tail.field-0.0 c.read_tail.result c.in_err-tail.was c5 c.read_tail.ensures.read
    (λ bytes p f e. header_parts c.args.lines.now.line bytes c.requires.first ∙ (last6 _ _ _ _ _ _ p.0.0.0.0.1 p.0.0.0.1 p.0.0.1 p.0.1 p.1 ∙ e)))

pub returns-clause-read : goal.returns-clause-read
returns-clause-read g c =
    let c0 = start c.args.lines.now (g.S.Source.left c.args.source.now) (g.S.Source.faults c.args.source.now) c.requires.no_fault in
    let c1 = then_more 0 Nothing (λ n. first_fault n first) 1 (λ bytes. tt) c.args.lines.now c.args.lines.now c.read_fixed.new.lines (g.S.Source.left c.args.source.now) (g.S.Source.left c.args.source.now) (g.S.Source.left c.read_fixed.new.source) (g.S.Source.faults c.args.source.now) (g.S.Source.faults c.args.source.now) (g.S.Source.faults c.read_fixed.new.source) tt c.read_fixed.result c.in_ok-read_fixed.was c0 c.read_fixed.ensures in
    let c2 = then_more 1 _ (λ n. first_fault n objective) 1 (λ bytes. bytes_eq (word_at 1 (first_text bytes)) (codes "object")) c.args.lines.now c.read_fixed.new.lines c.read_choice.new.lines (g.S.Source.left c.args.source.now) (g.S.Source.left c.read_fixed.new.source) (g.S.Source.left c.read_choice.new.source) (g.S.Source.faults c.args.source.now) (g.S.Source.faults c.read_fixed.new.source) (g.S.Source.faults c.read_choice.new.source) c.in_ok-of_objects.of_objects c.read_choice.result c.in_ok-of_objects.was c1 c.read_choice.ensures in
    let c3 = then_more 2 _ counts_fault 4 counts_in c.args.lines.now c.read_choice.new.lines c.read_counts.new.lines (g.S.Source.left c.args.source.now) (g.S.Source.left c.read_choice.new.source) (g.S.Source.left c.read_counts.new.source) (g.S.Source.faults c.args.source.now) (g.S.Source.faults c.read_choice.new.source) (g.S.Source.faults c.read_counts.new.source) c.in_ok-counts.counts c.read_counts.result c.in_ok-counts.was c2 c.read_counts.ensures.read in
    let c4 = then_more 6 _ (λ n. first_fault n form) 1 (λ bytes. tt) c.args.lines.now c.read_counts.new.lines c.read_fixed-2.new.lines (g.S.Source.left c.args.source.now) (g.S.Source.left c.read_counts.new.source) (g.S.Source.left c.read_fixed-2.new.source) (g.S.Source.faults c.args.source.now) (g.S.Source.faults c.read_counts.new.source) (g.S.Source.faults c.read_fixed-2.new.source) tt c.read_fixed-2.result c.in_ok-read_fixed-2.was c3 c.read_fixed-2.ensures in
    let c5 = then_more 7 _ (λ n. first_fault n upper) 1 (λ bytes. number_at 1 (first_text bytes)) c.args.lines.now c.read_fixed-2.new.lines c.read_number.new.lines (g.S.Source.left c.args.source.now) (g.S.Source.left c.read_fixed-2.new.source) (g.S.Source.left c.read_number.new.source) (g.S.Source.faults c.args.source.now) (g.S.Source.faults c.read_fixed-2.new.source) (g.S.Source.faults c.read_number.new.source) c.in_ok-upper.upper c.read_number.result c.in_ok-upper.was c4 c.read_number.ensures.read in
    let c6 = then_more 8 _ tail_fault (tail_len c.read_tail.result) tail_in c.args.lines.now c.read_number.new.lines c.read_tail.new.lines (g.S.Source.left c.args.source.now) (g.S.Source.left c.read_number.new.source) (g.S.Source.left c.read_tail.new.source) (g.S.Source.faults c.args.source.now) (g.S.Source.faults c.read_number.new.source) (g.S.Source.faults c.read_tail.new.source) c.in_ok-tail.tail c.read_tail.result c.in_ok-tail.was c5 c.read_tail.ensures.read in
    whole_header _ _ _ _ c.in_ok-tail.tail c.read_tail.result c.in_ok-tail.was refl (all_done _ _ c.args.lines.now c.read_tail.new.lines (g.S.Source.left c.args.source.now) (g.S.Source.left c.read_tail.new.source) (g.S.Source.faults c.args.source.now) (g.S.Source.faults c.read_tail.new.source) header_fault header_in _ c6 c.read_tail.ensures.read.held
    (λ bytes p. header_parts c.args.lines.now.line bytes c.requires.first ∙ (last6 _ _ _ _ _ _ p.0.0.0.0.0.1 p.0.0.0.0.1 p.0.0.0.1 p.0.0.1 p.0.1 ∙ p.1))
    (λ bytes p. header_same c.objective_of.result c.in_ok-of_objects.of_objects c.in_ok-counts.counts c.in_ok-upper.upper c.in_ok-tail.tail bytes c.objective_of.ensures p.0.0.0.0.2 p.0.0.0.2 p.0.2 p.2))

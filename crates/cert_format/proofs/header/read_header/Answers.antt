use Rattle.std.proofs.Common.{◌∙◌, arith, codes}
use Rattle.std.specs.Str.{bytes_eq}
use Rattle.std.proofs.lemmas.Result.{err_from_is_err_and}
use Rattle.bound_io.specs.Lines.{first_text}
use Rattle.cache_model.specs.Texts.{header_len}
use Rattle.cert_format.specs.Grammar.{word_at}
use Rattle.cert_format.specs.Readings.{first_fault, header_fault, header_in, warmup_in}
use Rattle.cert_format.specs.Parts.{counts_in, values_in}
use Rattle.cert_format.proofs.Chains.{start, then_more, then_stop, all_done, Nothing}
use Rattle.cert_format.specs.Parts.{last_fault, last_len}
use Rattle.cert_format.proofs.HeaderParts.{version, objective, form, version_range, whole_header, counts_fault, values_fault, header_parts, stop2, stop3, stop4, stop5, last6, header_same}
use Rattle.cert_format.proofs.header.read_header.Goals as goal

pub returns-in_err-of_objects-clause-read : goal.returns-in_err-of_objects-clause-read
returns-in_err-of_objects-clause-read g c =
    let p = err_from_is_err_and c.from_residual-in_err-of_objects.result c.from_residual-in_err-of_objects.ensures.1 in
    let c0 = start c.args.lines.now (g.S.Source.left c.args.source.now) (g.S.Source.faults c.args.source.now) c.requires.no_fault in
    let c1 = then_more 0 Nothing (λ n. first_fault n version) 1 (λ bytes. bytes_eq (word_at 1 (first_text bytes)) (codes "1")) c.args.lines.now c.args.lines.now c.read_choice.new.lines (g.S.Source.left c.args.source.now) (g.S.Source.left c.args.source.now) (g.S.Source.left c.read_choice.new.source) (g.S.Source.faults c.args.source.now) (g.S.Source.faults c.args.source.now) (g.S.Source.faults c.read_choice.new.source) c.in_ok-is_first.is_first c.read_choice.result c.in_ok-is_first.was c0 c.read_choice.ensures in
    rw (p.1, p.2) (then_stop 1 _ (λ n. first_fault n objective) 1 (λ bytes. bytes_eq (word_at 1 (first_text bytes)) (codes "object")) c.args.lines.now c.read_choice.new.lines c.read_choice-2.new.lines (g.S.Source.left c.args.source.now) (g.S.Source.left c.read_choice.new.source) (g.S.Source.left c.read_choice-2.new.source) (g.S.Source.faults c.args.source.now) (g.S.Source.faults c.read_choice.new.source) (g.S.Source.faults c.read_choice-2.new.source) (header_fault) 0 header_in c.in_err-of_objects.field-0.0 c.read_choice-2.result c.in_err-of_objects.was c1 c.read_choice-2.ensures
    (λ bytes p f e. header_parts c.args.lines.now.line bytes c.requires.first ∙ (stop2 f _ _ _ p.1 e)))

pub returns-in_err-counts-clause-read : goal.returns-in_err-counts-clause-read
returns-in_err-counts-clause-read g c =
    let p = err_from_is_err_and c.from_residual-in_err-counts.result c.from_residual-in_err-counts.ensures.1 in
    let c0 = start c.args.lines.now (g.S.Source.left c.args.source.now) (g.S.Source.faults c.args.source.now) c.requires.no_fault in
    let c1 = then_more 0 Nothing (λ n. first_fault n version) 1 (λ bytes. bytes_eq (word_at 1 (first_text bytes)) (codes "1")) c.args.lines.now c.args.lines.now c.read_choice.new.lines (g.S.Source.left c.args.source.now) (g.S.Source.left c.args.source.now) (g.S.Source.left c.read_choice.new.source) (g.S.Source.faults c.args.source.now) (g.S.Source.faults c.args.source.now) (g.S.Source.faults c.read_choice.new.source) c.in_ok-is_first.is_first c.read_choice.result c.in_ok-is_first.was c0 c.read_choice.ensures in
    let c2 = then_more 1 _ (λ n. first_fault n objective) 1 (λ bytes. bytes_eq (word_at 1 (first_text bytes)) (codes "object")) c.args.lines.now c.read_choice.new.lines c.read_choice-2.new.lines (g.S.Source.left c.args.source.now) (g.S.Source.left c.read_choice.new.source) (g.S.Source.left c.read_choice-2.new.source) (g.S.Source.faults c.args.source.now) (g.S.Source.faults c.read_choice.new.source) (g.S.Source.faults c.read_choice-2.new.source) c.in_ok-of_objects.of_objects c.read_choice-2.result c.in_ok-of_objects.was c1 c.read_choice-2.ensures in
    rw (p.1, p.2) (then_stop 2 _ (counts_fault) 4 (counts_in) c.args.lines.now c.read_choice-2.new.lines c.read_counts.new.lines (g.S.Source.left c.args.source.now) (g.S.Source.left c.read_choice-2.new.source) (g.S.Source.left c.read_counts.new.source) (g.S.Source.faults c.args.source.now) (g.S.Source.faults c.read_choice-2.new.source) (g.S.Source.faults c.read_counts.new.source) (header_fault) 0 header_in c.in_err-counts.field-0.0 c.read_counts.result c.in_err-counts.was c2 c.read_counts.ensures.read
    (λ bytes p f e. header_parts c.args.lines.now.line bytes c.requires.first ∙ (stop3 f _ _ _ _ p.0.1 p.1 e)))

pub returns-in_err-exact-clause-read : goal.returns-in_err-exact-clause-read
returns-in_err-exact-clause-read g c =
    let p = err_from_is_err_and c.from_residual-in_err-exact.result c.from_residual-in_err-exact.ensures.1 in
    let c0 = start c.args.lines.now (g.S.Source.left c.args.source.now) (g.S.Source.faults c.args.source.now) c.requires.no_fault in
    let c1 = then_more 0 Nothing (λ n. first_fault n version) 1 (λ bytes. bytes_eq (word_at 1 (first_text bytes)) (codes "1")) c.args.lines.now c.args.lines.now c.read_choice.new.lines (g.S.Source.left c.args.source.now) (g.S.Source.left c.args.source.now) (g.S.Source.left c.read_choice.new.source) (g.S.Source.faults c.args.source.now) (g.S.Source.faults c.args.source.now) (g.S.Source.faults c.read_choice.new.source) c.in_ok-is_first.is_first c.read_choice.result c.in_ok-is_first.was c0 c.read_choice.ensures in
    let c2 = then_more 1 _ (λ n. first_fault n objective) 1 (λ bytes. bytes_eq (word_at 1 (first_text bytes)) (codes "object")) c.args.lines.now c.read_choice.new.lines c.read_choice-2.new.lines (g.S.Source.left c.args.source.now) (g.S.Source.left c.read_choice.new.source) (g.S.Source.left c.read_choice-2.new.source) (g.S.Source.faults c.args.source.now) (g.S.Source.faults c.read_choice.new.source) (g.S.Source.faults c.read_choice-2.new.source) c.in_ok-of_objects.of_objects c.read_choice-2.result c.in_ok-of_objects.was c1 c.read_choice-2.ensures in
    let c3 = then_more 2 _ (counts_fault) 4 (counts_in) c.args.lines.now c.read_choice-2.new.lines c.read_counts.new.lines (g.S.Source.left c.args.source.now) (g.S.Source.left c.read_choice-2.new.source) (g.S.Source.left c.read_counts.new.source) (g.S.Source.faults c.args.source.now) (g.S.Source.faults c.read_choice-2.new.source) (g.S.Source.faults c.read_counts.new.source) c.in_ok-counts.counts c.read_counts.result c.in_ok-counts.was c2 c.read_counts.ensures.read in
    rw (p.1, p.2) (then_stop 6 _ (λ n. first_fault n form) 1 (λ bytes. bytes_eq (word_at 1 (first_text bytes)) (codes "exact")) c.args.lines.now c.read_counts.new.lines c.read_choice-3.new.lines (g.S.Source.left c.args.source.now) (g.S.Source.left c.read_counts.new.source) (g.S.Source.left c.read_choice-3.new.source) (g.S.Source.faults c.args.source.now) (g.S.Source.faults c.read_counts.new.source) (g.S.Source.faults c.read_choice-3.new.source) (header_fault) 0 header_in c.in_err-exact.field-0.0 c.read_choice-3.result c.in_err-exact.was c3 c.read_choice-3.ensures
    (λ bytes p f e. header_parts c.args.lines.now.line bytes c.requires.first ∙ (stop4 f _ _ _ _ _ p.0.0.1 p.0.1 p.1 e)))

pub returns-in_err-values-clause-read : goal.returns-in_err-values-clause-read
returns-in_err-values-clause-read g c =
    let p = err_from_is_err_and c.from_residual-in_err-values.result c.from_residual-in_err-values.ensures.1 in
    let c0 = start c.args.lines.now (g.S.Source.left c.args.source.now) (g.S.Source.faults c.args.source.now) c.requires.no_fault in
    let c1 = then_more 0 Nothing (λ n. first_fault n version) 1 (λ bytes. bytes_eq (word_at 1 (first_text bytes)) (codes "1")) c.args.lines.now c.args.lines.now c.read_choice.new.lines (g.S.Source.left c.args.source.now) (g.S.Source.left c.args.source.now) (g.S.Source.left c.read_choice.new.source) (g.S.Source.faults c.args.source.now) (g.S.Source.faults c.args.source.now) (g.S.Source.faults c.read_choice.new.source) c.in_ok-is_first.is_first c.read_choice.result c.in_ok-is_first.was c0 c.read_choice.ensures in
    let c2 = then_more 1 _ (λ n. first_fault n objective) 1 (λ bytes. bytes_eq (word_at 1 (first_text bytes)) (codes "object")) c.args.lines.now c.read_choice.new.lines c.read_choice-2.new.lines (g.S.Source.left c.args.source.now) (g.S.Source.left c.read_choice.new.source) (g.S.Source.left c.read_choice-2.new.source) (g.S.Source.faults c.args.source.now) (g.S.Source.faults c.read_choice.new.source) (g.S.Source.faults c.read_choice-2.new.source) c.in_ok-of_objects.of_objects c.read_choice-2.result c.in_ok-of_objects.was c1 c.read_choice-2.ensures in
    let c3 = then_more 2 _ (counts_fault) 4 (counts_in) c.args.lines.now c.read_choice-2.new.lines c.read_counts.new.lines (g.S.Source.left c.args.source.now) (g.S.Source.left c.read_choice-2.new.source) (g.S.Source.left c.read_counts.new.source) (g.S.Source.faults c.args.source.now) (g.S.Source.faults c.read_choice-2.new.source) (g.S.Source.faults c.read_counts.new.source) c.in_ok-counts.counts c.read_counts.result c.in_ok-counts.was c2 c.read_counts.ensures.read in
    let c4 = then_more 6 _ (λ n. first_fault n form) 1 (λ bytes. bytes_eq (word_at 1 (first_text bytes)) (codes "exact")) c.args.lines.now c.read_counts.new.lines c.read_choice-3.new.lines (g.S.Source.left c.args.source.now) (g.S.Source.left c.read_counts.new.source) (g.S.Source.left c.read_choice-3.new.source) (g.S.Source.faults c.args.source.now) (g.S.Source.faults c.read_counts.new.source) (g.S.Source.faults c.read_choice-3.new.source) c.in_ok-exact.exact c.read_choice-3.result c.in_ok-exact.was c3 c.read_choice-3.ensures in
    rw (p.1, p.2) (then_stop 7 _ (values_fault) 3 (values_in) c.args.lines.now c.read_choice-3.new.lines c.read_values.new.lines (g.S.Source.left c.args.source.now) (g.S.Source.left c.read_choice-3.new.source) (g.S.Source.left c.read_values.new.source) (g.S.Source.faults c.args.source.now) (g.S.Source.faults c.read_choice-3.new.source) (g.S.Source.faults c.read_values.new.source) (header_fault) 0 header_in c.in_err-values.field-0.0 c.read_values.result c.in_err-values.was c4 c.read_values.ensures.read
    (λ bytes p f e. header_parts c.args.lines.now.line bytes c.requires.first ∙ (stop5 f _ _ _ _ _ _ p.0.0.0.1 p.0.0.1 p.0.1 p.1 e)))

pub returns-in_err-warmup-clause-read : goal.returns-in_err-warmup-clause-read
returns-in_err-warmup-clause-read g c =
    let p = err_from_is_err_and c.from_residual-in_err-warmup.result c.from_residual-in_err-warmup.ensures.1 in
    let c0 = start c.args.lines.now (g.S.Source.left c.args.source.now) (g.S.Source.faults c.args.source.now) c.requires.no_fault in
    let c1 = then_more 0 Nothing (λ n. first_fault n version) 1 (λ bytes. bytes_eq (word_at 1 (first_text bytes)) (codes "1")) c.args.lines.now c.args.lines.now c.read_choice.new.lines (g.S.Source.left c.args.source.now) (g.S.Source.left c.args.source.now) (g.S.Source.left c.read_choice.new.source) (g.S.Source.faults c.args.source.now) (g.S.Source.faults c.args.source.now) (g.S.Source.faults c.read_choice.new.source) c.in_ok-is_first.is_first c.read_choice.result c.in_ok-is_first.was c0 c.read_choice.ensures in
    let c2 = then_more 1 _ (λ n. first_fault n objective) 1 (λ bytes. bytes_eq (word_at 1 (first_text bytes)) (codes "object")) c.args.lines.now c.read_choice.new.lines c.read_choice-2.new.lines (g.S.Source.left c.args.source.now) (g.S.Source.left c.read_choice.new.source) (g.S.Source.left c.read_choice-2.new.source) (g.S.Source.faults c.args.source.now) (g.S.Source.faults c.read_choice.new.source) (g.S.Source.faults c.read_choice-2.new.source) c.in_ok-of_objects.of_objects c.read_choice-2.result c.in_ok-of_objects.was c1 c.read_choice-2.ensures in
    let c3 = then_more 2 _ (counts_fault) 4 (counts_in) c.args.lines.now c.read_choice-2.new.lines c.read_counts.new.lines (g.S.Source.left c.args.source.now) (g.S.Source.left c.read_choice-2.new.source) (g.S.Source.left c.read_counts.new.source) (g.S.Source.faults c.args.source.now) (g.S.Source.faults c.read_choice-2.new.source) (g.S.Source.faults c.read_counts.new.source) c.in_ok-counts.counts c.read_counts.result c.in_ok-counts.was c2 c.read_counts.ensures.read in
    let c4 = then_more 6 _ (λ n. first_fault n form) 1 (λ bytes. bytes_eq (word_at 1 (first_text bytes)) (codes "exact")) c.args.lines.now c.read_counts.new.lines c.read_choice-3.new.lines (g.S.Source.left c.args.source.now) (g.S.Source.left c.read_counts.new.source) (g.S.Source.left c.read_choice-3.new.source) (g.S.Source.faults c.args.source.now) (g.S.Source.faults c.read_counts.new.source) (g.S.Source.faults c.read_choice-3.new.source) c.in_ok-exact.exact c.read_choice-3.result c.in_ok-exact.was c3 c.read_choice-3.ensures in
    let c5 = then_more 7 _ (values_fault) 3 (values_in) c.args.lines.now c.read_choice-3.new.lines c.read_values.new.lines (g.S.Source.left c.args.source.now) (g.S.Source.left c.read_choice-3.new.source) (g.S.Source.left c.read_values.new.source) (g.S.Source.faults c.args.source.now) (g.S.Source.faults c.read_choice-3.new.source) (g.S.Source.faults c.read_values.new.source) c.in_ok-values.values c.read_values.result c.in_ok-values.was c4 c.read_values.ensures.read in
    rw (p.1, p.2) (then_stop 10 _ last_fault (last_len c.read_last.result) (λ bytes. warmup_in (first_text bytes)) c.args.lines.now c.read_values.new.lines c.read_last.new.lines (g.S.Source.left c.args.source.now) (g.S.Source.left c.read_values.new.source) (g.S.Source.left c.read_last.new.source) (g.S.Source.faults c.args.source.now) (g.S.Source.faults c.read_values.new.source) (g.S.Source.faults c.read_last.new.source) (header_fault) 0 header_in c.in_err-warmup.field-0.0 c.read_last.result c.in_err-warmup.was c5 c.read_last.ensures.read
    (λ bytes p f e. header_parts c.args.lines.now.line bytes c.requires.first ∙ (last6 _ _ _ _ _ _ p.0.0.0.0.1 p.0.0.0.1 p.0.0.1 p.0.1 p.1 ∙ e)))

pub returns-clause-read : goal.returns-clause-read
unfolding header_len
returns-clause-read g c =
    let c0 = start c.args.lines.now (g.S.Source.left c.args.source.now) (g.S.Source.faults c.args.source.now) c.requires.no_fault in
    let c1 = then_more 0 Nothing (λ n. first_fault n version) 1 (λ bytes. bytes_eq (word_at 1 (first_text bytes)) (codes "1")) c.args.lines.now c.args.lines.now c.read_choice.new.lines (g.S.Source.left c.args.source.now) (g.S.Source.left c.args.source.now) (g.S.Source.left c.read_choice.new.source) (g.S.Source.faults c.args.source.now) (g.S.Source.faults c.args.source.now) (g.S.Source.faults c.read_choice.new.source) c.in_ok-is_first.is_first c.read_choice.result c.in_ok-is_first.was c0 c.read_choice.ensures in
    let c2 = then_more 1 _ (λ n. first_fault n objective) 1 (λ bytes. bytes_eq (word_at 1 (first_text bytes)) (codes "object")) c.args.lines.now c.read_choice.new.lines c.read_choice-2.new.lines (g.S.Source.left c.args.source.now) (g.S.Source.left c.read_choice.new.source) (g.S.Source.left c.read_choice-2.new.source) (g.S.Source.faults c.args.source.now) (g.S.Source.faults c.read_choice.new.source) (g.S.Source.faults c.read_choice-2.new.source) c.in_ok-of_objects.of_objects c.read_choice-2.result c.in_ok-of_objects.was c1 c.read_choice-2.ensures in
    let c3 = then_more 2 _ (counts_fault) 4 (counts_in) c.args.lines.now c.read_choice-2.new.lines c.read_counts.new.lines (g.S.Source.left c.args.source.now) (g.S.Source.left c.read_choice-2.new.source) (g.S.Source.left c.read_counts.new.source) (g.S.Source.faults c.args.source.now) (g.S.Source.faults c.read_choice-2.new.source) (g.S.Source.faults c.read_counts.new.source) c.in_ok-counts.counts c.read_counts.result c.in_ok-counts.was c2 c.read_counts.ensures.read in
    let c4 = then_more 6 _ (λ n. first_fault n form) 1 (λ bytes. bytes_eq (word_at 1 (first_text bytes)) (codes "exact")) c.args.lines.now c.read_counts.new.lines c.read_choice-3.new.lines (g.S.Source.left c.args.source.now) (g.S.Source.left c.read_counts.new.source) (g.S.Source.left c.read_choice-3.new.source) (g.S.Source.faults c.args.source.now) (g.S.Source.faults c.read_counts.new.source) (g.S.Source.faults c.read_choice-3.new.source) c.in_ok-exact.exact c.read_choice-3.result c.in_ok-exact.was c3 c.read_choice-3.ensures in
    let c5 = then_more 7 _ (values_fault) 3 (values_in) c.args.lines.now c.read_choice-3.new.lines c.read_values.new.lines (g.S.Source.left c.args.source.now) (g.S.Source.left c.read_choice-3.new.source) (g.S.Source.left c.read_values.new.source) (g.S.Source.faults c.args.source.now) (g.S.Source.faults c.read_choice-3.new.source) (g.S.Source.faults c.read_values.new.source) c.in_ok-values.values c.read_values.result c.in_ok-values.was c4 c.read_values.ensures.read in
    let c6 = then_more 10 _ last_fault (last_len c.read_last.result) (λ bytes. warmup_in (first_text bytes)) c.args.lines.now c.read_values.new.lines c.read_last.new.lines (g.S.Source.left c.args.source.now) (g.S.Source.left c.read_values.new.source) (g.S.Source.left c.read_last.new.source) (g.S.Source.faults c.args.source.now) (g.S.Source.faults c.read_values.new.source) (g.S.Source.faults c.read_last.new.source) c.in_ok-warmup.warmup c.read_last.result c.in_ok-warmup.was c5 c.read_last.ensures.read in
    whole_header _ _ _ _ c.read_last.result c.in_ok-warmup.was (all_done _ _ c.args.lines.now c.read_last.new.lines (g.S.Source.left c.args.source.now) (g.S.Source.left c.read_last.new.source) (g.S.Source.faults c.args.source.now) (g.S.Source.faults c.read_last.new.source) (header_fault) header_in _ c6 c.read_last.ensures.read.held
    (λ bytes p. header_parts c.args.lines.now.line bytes c.requires.first ∙ (last6 _ _ _ _ _ _ p.0.0.0.0.0.1 p.0.0.0.0.1 p.0.0.0.1 p.0.0.1 p.0.1 ∙ p.1))
    (λ bytes p. header_same c.version_of.result c.in_ok-is_first.is_first c.in_ok-warmup.warmup c.objective_of.result c.in_ok-of_objects.of_objects c.in_ok-counts.counts c.in_ok-exact.exact c.in_ok-values.values bytes c.version_of.ensures p.0.0.0.0.0.2 p.2 c.objective_of.ensures p.0.0.0.0.2 p.0.0.0.2 p.0.0.2 p.0.2))

pub read_choice-requires-clause-limit : goal.read_choice-requires-clause-limit
read_choice-requires-clause-limit g c = c.requires.limit

pub read_choice-requires-clause-few : goal.read_choice-requires-clause-few
read_choice-requires-clause-few g c = omega (arith, c.requires.first)

pub read_choice-requires-clause-no_fault : goal.read_choice-requires-clause-no_fault
read_choice-requires-clause-no_fault g c = c.requires.no_fault

pub returns-in_err-is_first-clause-range : goal.returns-in_err-is_first-clause-range
returns-in_err-is_first-clause-range g c = rw (err_from_is_err_and c.from_residual.result c.from_residual.ensures.1).1 tt

pub read_choice-requires-2-clause-limit : goal.read_choice-requires-2-clause-limit
read_choice-requires-2-clause-limit g c = c.in_ok-is_first.ensures.limit ∙ c.requires.limit

pub read_choice-requires-2-clause-few : goal.read_choice-requires-2-clause-few
read_choice-requires-2-clause-few g c = omega (arith, c.in_ok-is_first.ensures.given.0, c.requires.first)

pub read_choice-requires-2-clause-no_fault : goal.read_choice-requires-2-clause-no_fault
read_choice-requires-2-clause-no_fault g c = c.in_ok-is_first.ensures.given.1

pub returns-in_err-of_objects-clause-range : goal.returns-in_err-of_objects-clause-range
returns-in_err-of_objects-clause-range g c = rw (err_from_is_err_and c.from_residual-in_err-of_objects.result c.from_residual-in_err-of_objects.ensures.1).1 tt

pub read_counts-requires-clause-limit : goal.read_counts-requires-clause-limit
read_counts-requires-clause-limit g c = c.in_ok-of_objects.ensures.limit ∙ (c.in_ok-is_first.ensures.limit ∙ c.requires.limit)

pub read_counts-requires-clause-few : goal.read_counts-requires-clause-few
read_counts-requires-clause-few g c = omega (arith, c.in_ok-is_first.ensures.given.0, c.in_ok-of_objects.ensures.given.0, c.requires.first)

pub read_counts-requires-clause-no_fault : goal.read_counts-requires-clause-no_fault
read_counts-requires-clause-no_fault g c = c.in_ok-of_objects.ensures.given.1

pub returns-in_err-counts-clause-range : goal.returns-in_err-counts-clause-range
returns-in_err-counts-clause-range g c = rw (err_from_is_err_and c.from_residual-in_err-counts.result c.from_residual-in_err-counts.ensures.1).1 tt

pub read_choice-requires-3-clause-limit : goal.read_choice-requires-3-clause-limit
read_choice-requires-3-clause-limit g c = c.in_ok-counts.ensures.read.limit ∙ (c.in_ok-of_objects.ensures.limit ∙ (c.in_ok-is_first.ensures.limit ∙ c.requires.limit))

pub read_choice-requires-3-clause-few : goal.read_choice-requires-3-clause-few
read_choice-requires-3-clause-few g c = omega (arith, c.in_ok-is_first.ensures.given.0, c.in_ok-of_objects.ensures.given.0, c.in_ok-counts.ensures.read.given.0, c.requires.first)

pub read_choice-requires-3-clause-no_fault : goal.read_choice-requires-3-clause-no_fault
read_choice-requires-3-clause-no_fault g c = c.in_ok-counts.ensures.read.given.1

pub returns-in_err-exact-clause-range : goal.returns-in_err-exact-clause-range
returns-in_err-exact-clause-range g c = rw (err_from_is_err_and c.from_residual-in_err-exact.result c.from_residual-in_err-exact.ensures.1).1 tt

pub read_values-requires-clause-limit : goal.read_values-requires-clause-limit
read_values-requires-clause-limit g c = c.in_ok-exact.ensures.limit ∙ (c.in_ok-counts.ensures.read.limit ∙ (c.in_ok-of_objects.ensures.limit ∙ (c.in_ok-is_first.ensures.limit ∙ c.requires.limit)))

pub read_values-requires-clause-few : goal.read_values-requires-clause-few
read_values-requires-clause-few g c = omega (arith, c.in_ok-is_first.ensures.given.0, c.in_ok-of_objects.ensures.given.0, c.in_ok-counts.ensures.read.given.0, c.in_ok-exact.ensures.given.0, c.requires.first)

pub read_values-requires-clause-no_fault : goal.read_values-requires-clause-no_fault
read_values-requires-clause-no_fault g c = c.in_ok-exact.ensures.given.1

pub returns-in_err-values-clause-range : goal.returns-in_err-values-clause-range
returns-in_err-values-clause-range g c = rw (err_from_is_err_and c.from_residual-in_err-values.result c.from_residual-in_err-values.ensures.1).1 tt

pub read_last-requires-clause-limit : goal.read_last-requires-clause-limit
read_last-requires-clause-limit g c = c.in_ok-values.ensures.read.limit ∙ (c.in_ok-exact.ensures.limit ∙ (c.in_ok-counts.ensures.read.limit ∙ (c.in_ok-of_objects.ensures.limit ∙ (c.in_ok-is_first.ensures.limit ∙ c.requires.limit))))

pub read_last-requires-clause-few : goal.read_last-requires-clause-few
read_last-requires-clause-few g c = omega (arith, c.in_ok-is_first.ensures.given.0, c.in_ok-of_objects.ensures.given.0, c.in_ok-counts.ensures.read.given.0, c.in_ok-exact.ensures.given.0, c.in_ok-values.ensures.read.given.0, c.requires.first)

pub read_last-requires-clause-no_fault : goal.read_last-requires-clause-no_fault
read_last-requires-clause-no_fault g c = c.in_ok-values.ensures.read.given.1

pub returns-in_err-warmup-clause-range : goal.returns-in_err-warmup-clause-range
returns-in_err-warmup-clause-range g c = rw (err_from_is_err_and c.from_residual-in_err-warmup.result c.from_residual-in_err-warmup.ensures.1).1 tt

pub returns-clause-range : goal.returns-clause-range
returns-clause-range g c = record {
  capacity = c.in_ok-counts.ensures.range.capacity;
  requests = c.in_ok-counts.ensures.range.requests;
  unit = c.in_ok-counts.ensures.range.unit;
  denominator = c.in_ok-counts.ensures.range.denominator;
  upper = c.in_ok-values.ensures.range.upper;
  flow = c.in_ok-values.ensures.range.flow;
  lower = c.in_ok-values.ensures.range.lower;
  warmup = c.in_ok-warmup.ensures.range;
  version = version_range c.in_ok-is_first.is_first c.version_of.result c.version_of.ensures;
}

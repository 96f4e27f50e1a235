use Rattle.std.proofs.Common.{◌+◌, ◌∙◌, ap, not}
use Rattle.std.proofs.lemmas.Bool.{ne_eqb}
use Rattle.std.proofs.lemmas.Result.{err_from_is_err_and}
use Rattle.bound_io.specs.Lines.{first_text}
use Rattle.cert_format.specs.Readings.{first_fault, warmup_in, after_lines}
use Rattle.cert_format.specs.Parts.{last_fault, warmup_fault}
use Rattle.cert_format.proofs.Headers.{after_lines-zero}
use Rattle.cert_format.proofs.Chains.{start, then_more, then_stop, all_done, Nothing}
use Rattle.cert_format.proofs.HeaderParts.{last, last_more, warm_stated}
use Rattle.cert_format.proofs.header.read_last.Goals as goal

pub returns-in_err-read_fixed-clause-read : goal.returns-in_err-read_fixed-clause-read
returns-in_err-read_fixed-clause-read g c =
    let p = err_from_is_err_and c.from_residual-in_err-read_fixed.result c.from_residual-in_err-read_fixed.ensures.1 in
    let c0 = start c.args.lines.now (g.S.Source.left c.args.source.now) (g.S.Source.faults c.args.source.now) c.requires.no_fault in
    let c1 = then_more 0 Nothing warmup_fault 1 (λ bytes. warmup_in (first_text bytes)) c.args.lines.now c.args.lines.now c.read_warmup.new.lines (g.S.Source.left c.args.source.now) (g.S.Source.left c.args.source.now) (g.S.Source.left c.read_warmup.new.source) (g.S.Source.faults c.args.source.now) (g.S.Source.faults c.args.source.now) (g.S.Source.faults c.read_warmup.new.source) c.in_ok-warmup.warmup c.read_warmup.result c.in_ok-warmup.was c0 c.read_warmup.ensures.read in
    let n = c.args.lines.now.line in
    rw (p.1, p.2) (then_stop 1 _ (λ n. first_fault n last) 1 (λ bytes. tt) c.args.lines.now c.read_warmup.new.lines c.read_fixed.new.lines (g.S.Source.left c.args.source.now) (g.S.Source.left c.read_warmup.new.source) (g.S.Source.left c.read_fixed.new.source) (g.S.Source.faults c.args.source.now) (g.S.Source.faults c.read_warmup.new.source) (g.S.Source.faults c.read_fixed.new.source) (last_fault (n + 1)) 0 (λ bytes. warmup_in (first_text bytes)) c.in_err-read_fixed.field-0.0 c.read_fixed.result c.in_err-read_fixed.was c1 c.read_fixed.ensures
    (λ bytes p f e. last_more n bytes p.1 (warm_stated (n + 0 + 1) c.in_ok-warmup.warmup (after_lines 0 bytes) p.1 p.2 ∙ ap not (ne_eqb c.in_ok-warmup.warmup 0 c.if-warmup-eq0.false)) ∙ e))

pub returns-clause-read : goal.returns-clause-read
returns-clause-read g c =
    let c0 = start c.args.lines.now (g.S.Source.left c.args.source.now) (g.S.Source.faults c.args.source.now) c.requires.no_fault in
    let c1 = then_more 0 Nothing warmup_fault 1 (λ bytes. warmup_in (first_text bytes)) c.args.lines.now c.args.lines.now c.read_warmup.new.lines (g.S.Source.left c.args.source.now) (g.S.Source.left c.args.source.now) (g.S.Source.left c.read_warmup.new.source) (g.S.Source.faults c.args.source.now) (g.S.Source.faults c.args.source.now) (g.S.Source.faults c.read_warmup.new.source) c.in_ok-warmup.warmup c.read_warmup.result c.in_ok-warmup.was c0 c.read_warmup.ensures.read in
    let n = c.args.lines.now.line in
    let w = c.in_ok-warmup.warmup in
    let c2 = then_more 1 _ (λ n. first_fault n last) 1 (λ bytes. tt) c.args.lines.now c.read_warmup.new.lines c.read_fixed.new.lines (g.S.Source.left c.args.source.now) (g.S.Source.left c.read_warmup.new.source) (g.S.Source.left c.read_fixed.new.source) (g.S.Source.faults c.args.source.now) (g.S.Source.faults c.read_warmup.new.source) (g.S.Source.faults c.read_fixed.new.source) tt c.read_fixed.result c.in_ok-read_fixed.was c1 c.read_fixed.ensures in
    let all = all_done 2 _ c.args.lines.now c.read_fixed.new.lines (g.S.Source.left c.args.source.now) (g.S.Source.left c.read_fixed.new.source) (g.S.Source.faults c.args.source.now) (g.S.Source.faults c.read_fixed.new.source) (last_fault (n + 1)) (λ bytes. warmup_in (first_text bytes)) w c2 c.read_fixed.ensures.held
    (λ bytes p. last_more n bytes p.0.1 (warm_stated (n + 0 + 1) w (after_lines 0 bytes) p.0.1 p.0.2 ∙ ap not (ne_eqb c.in_ok-warmup.warmup 0 c.if-warmup-eq0.false)) ∙ p.1)
    (λ bytes p. p.0.2 ∙ ap (λ b. warmup_in (first_text b)) (after_lines-zero bytes)) in
    rw (ne_eqb c.in_ok-warmup.warmup 0 c.if-warmup-eq0.false) all

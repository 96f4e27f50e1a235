use Rattle.std.proofs.Common.{◌≡◌, ◌∙◌, refl, subst, sym}
use Rattle.std.proofs.lemmas.Result.{err_from_is_err_and}
use Rattle.cert_checker.specs.Rules.{end_rules, first_some}
use Rattle.cert_checker.specs.Summaries.{StandsFor, Summary}
use Rattle.cert_checker.proofs.Passing.{none_from_ok, some_from_err}
use Rattle.cert_checker.proofs.Yes.{end_fault-is, yes-is}
use Rattle.cert_checker.proofs.checker.Checker.verdict.Goals as goal

pub returns : goal.returns
returns c = λ h fills trace records st.
    let here = subst (StandsFor h fills trace records) (sym c.self.view_is) st in
    yes-is h fills trace records _ here c.first_unused.result (c.first_unused.ensures h fills trace records st) c.counted.result (c.counted.ensures h fills trace records st)
    (subst (λ (v : Summary). v.sums.steps ≡ v.header.requests) (sym c.self.view_is) c.requires.all)
    (none_from_ok (first_some (end_rules c.self.inside.header c.first_unused.result c.counted.result)) c.in_ok-check_end.ensures)
    (record { header = c.self.inside.header; objects = c.entries.result }) refl (c.entries.ensures.objects h fills trace records st)

pub returns-in_err-check_end : goal.returns-in_err-check_end
returns-in_err-check_end c =
    let p = err_from_is_err_and c.from_residual.result c.from_residual.ensures.1 in
    rw (p.1, p.2) (λ h fills trace records st.
    let here = subst (StandsFor h fills trace records) (sym c.self.view_is) st in
    sym (end_fault-is h fills trace records _ here c.first_unused.result (c.first_unused.ensures h fills trace records st) c.counted.result (c.counted.ensures h fills trace records st))
    ∙ some_from_err (first_some (end_rules c.self.inside.header c.first_unused.result c.counted.result)) c.in_err-check_end.field-0.0 c.in_err-check_end.ensures)

use Rattle.std.proofs.Common.{◌≡◌, ◌∙◌, ◌++◌, sym, None, Some}
use Rattle.std.proofs.lemmas.Result.{err_from_is_err_and}
use Rattle.cert_checker.specs.Rules.{first_some, interval_rules, load_rules, price_rules}
use Rattle.cert_checker.proofs.Passing.{none_from_ok, some_from_err, unless_fault-append, unless_fault-first}
use Rattle.cert_checker.proofs.record_check.check_record.Goals as goal

pub returns-in_err-check_interval : goal.returns-in_err-check_interval
returns-in_err-check_interval c =
    let h = c.args.header.now in
    let x = c.args.object.now in
    let r = c.args.entry.now in
    let now = c.args.now.now in
    let passed : first_some (price_rules h r now) ≡ None = none_from_ok (first_some (price_rules h r now)) c.in_ok-check_price.ensures in
    let failed : first_some (interval_rules h x now) ≡ Some c.in_err-check_interval.field-0.0 = some_from_err (first_some (interval_rules h x now)) c.in_err-check_interval.field-0.0 c.in_err-check_interval.ensures in
    let p = err_from_is_err_and c.from_residual-in_err-check_interval.result c.from_residual-in_err-check_interval.ensures.1 in
    rw (p.1, p.2) (sym (unless_fault-append (price_rules h r now) (interval_rules h x now ++ load_rules h x r now) passed
    ∙ unless_fault-first (interval_rules h x now) (load_rules h x r now) c.in_err-check_interval.field-0.0 failed))

pub returns-in_err-check_price : goal.returns-in_err-check_price
returns-in_err-check_price c =
    let h = c.args.header.now in
    let x = c.args.object.now in
    let r = c.args.entry.now in
    let now = c.args.now.now in
    let failed : first_some (price_rules h r now) ≡ Some c.in_err-check_price.field-0.0 = some_from_err (first_some (price_rules h r now)) c.in_err-check_price.field-0.0 c.in_err-check_price.ensures in
    let p = err_from_is_err_and c.from_residual.result c.from_residual.ensures.1 in
    rw (p.1, p.2) (sym (unless_fault-first (price_rules h r now) (interval_rules h x now ++ load_rules h x r now) c.in_err-check_price.field-0.0 failed))

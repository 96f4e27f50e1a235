use Rattle.std.proofs.Common.{◌≡◌, ◌<◌, ◌+◌, ◌∙◌, refl, sym, ap, subst, arith, cond, None, Some}
use Rattle.std.specs.Map.{lookup}
use Rattle.std.proofs.lemmas.Result.{err_from_is_err_and}
use Rattle.indexmap.specs.IndexMap.{insert_entry}
use Rattle.cache_model.specs.declared.objects.Object.{Object}
use Rattle.cache_model.specs.Claim.{same_object}
use Rattle.cert_checker.specs.declared.summary.Sums.{Sums}
use Rattle.cert_checker.specs.Rules.{first_some, record_rules}
use Rattle.cert_checker.specs.Steps.{seen_at, sums_after}
use Rattle.cert_checker.specs.Summaries.{StandsFor, Summary}
use Rattle.cert_checker.proofs.Checking.{counted-is, prices-le, load-le, flows-le, in_load, in_flows, each_price, each_flow, each_weight, refused, taken, IsChecker-taken}
use Rattle.cert_checker.proofs.Passing.{none_from_ok, some_from_err}
use Rattle.cert_checker.proofs.checker.Checker.take.Goals as goal

pub figures-now-requires-clause-prices : goal.figures-now-requires-clause-prices
figures-now-requires-clause-prices c = omega (arith, prices-le _ c.self.invariant, c.requires.range.price)

pub figures-now-requires-clause-load : goal.figures-now-requires-clause-load
figures-now-requires-clause-load c = omega (arith, load-le _ c.self.invariant, c.requires.size)

pub figures-now-requires-clause-flows : goal.figures-now-requires-clause-flows
figures-now-requires-clause-flows c = omega (arith, flows-le _ c.self.invariant, c.requires.range.flow)

pub figures-now-requires-clause-in_load : goal.figures-now-requires-clause-in_load
figures-now-requires-clause-in_load c =
    let found = c.find-place.ensures.seen in
    in_load _ c.self.invariant c.args.object c.find-place.result.1 found

pub figures-now-requires-clause-in_flows : goal.figures-now-requires-clause-in_flows
figures-now-requires-clause-in_flows c =
    let found = c.find-place.ensures.seen in
    in_flows _ c.self.invariant c.args.object c.find-place.result.1 found

pub returns-in_err-check_record-clause-stepped : goal.returns-in_err-check_record-clause-stepped
returns-in_err-check_record-clause-stepped c =
    let found = c.find-place.ensures.seen in
    let p = err_from_is_err_and c.from_residual.result c.from_residual.ensures.1 in
    rw (p.1, p.2) (λ h fills trace records st mark.
    refused _ c.self.invariant c.args.object c.find-place.result.1 found c.args.entry c.figures-now.result _ c.figures-now.ensures h fills trace records (subst (StandsFor h fills trace records) (sym c.self.view_is) st) (c.counts-counts.ensures ∙ counted-is _ h fills trace records (subst (StandsFor h fills trace records) (sym c.self.view_is) st) c.args.only mark)
    ∙ some_from_err (first_some (record_rules c.self.inside.header c.args.object c.args.entry c.figures-now.result)) c.in_err-check_record.field-0.0 c.in_err-check_record.ensures)

pub added-added-requires-clause-prices : goal.added-added-requires-clause-prices
added-added-requires-clause-prices c =
    let found = c.find-place.ensures.seen in
    each_price _ c.self.invariant c.args.object c.find-place.result.1 found

pub added-added-requires-clause-flow : goal.added-added-requires-clause-flow
added-added-requires-clause-flow c =
    let found = c.find-place.ensures.seen in
    each_flow _ c.self.invariant c.args.object c.find-place.result.1 found

pub added-added-requires-clause-weight : goal.added-added-requires-clause-weight
added-added-requires-clause-weight c =
    let found = c.find-place.ensures.seen in
    each_weight _ c.self.invariant c.args.object c.find-place.result.1 found c.args.entry c.figures-now.result _ c.figures-now.ensures c.requires.size
    (none_from_ok (first_some (record_rules c.self.inside.header c.args.object c.args.entry c.figures-now.result)) c.in_ok-check_record.ensures)

pub returns-in_err-put-clause-stepped : goal.returns-in_err-put-clause-stepped
returns-in_err-put-clause-stepped c =
    let found = c.find-place.ensures.seen in
    let p = err_from_is_err_and c.from_residual-in_err-put.result c.from_residual-in_err-put.ensures.1 in
    rw (p.1, p.2) (λ h fills trace records st mark.
    refused _ c.self.invariant c.args.object c.find-place.result.1 found c.args.entry c.figures-now.result _ c.figures-now.ensures h fills trace records (subst (StandsFor h fills trace records) (sym c.self.view_is) st) (c.counts-counts.ensures ∙ counted-is _ h fills trace records (subst (StandsFor h fills trace records) (sym c.self.view_is) st) c.args.only mark)
    ∙ none_from_ok (first_some (record_rules c.self.inside.header c.args.object c.args.entry c.figures-now.result)) c.in_ok-check_record.ensures)

pub returns-in_err-put-clause-only_if_new : goal.returns-in_err-put-clause-only_if_new
returns-in_err-put-clause-only_if_new c =
    let p = err_from_is_err_and c.from_residual-in_err-put.result c.from_residual-in_err-put.ensures.1 in
    rw (p.1, p.2) (λ memory. subst (λ (v : Summary). lookup (same_object c.args.object) v.entries ≡ None) c.self.view_is c.in_err-put.ensures.err_only_if_new)

-- the entries after the request
entered : (c : goal.After-self-1) → c.put.new.entries.entries ≡ insert_entry same_object c.self.inside.seen.entries c.args.object (seen_at c.self.inside.sums c.args.entry)
entered c = c.in_ok-put.ensures.entries ∙ ap (insert_entry same_object c.self.inside.seen.entries c.args.object) c.seen_of.ensures

-- and what a look-up finds in them
looked : (c : goal.After-self-1) → (y : Object) → lookup (same_object y) c.put.new.entries.entries
    ≡ cond (same_object c.args.object y) (Some (seen_at c.self.inside.sums c.args.entry)) (lookup (same_object y) c.self.inside.seen.entries)
looked c y =
    c.in_ok-put.ensures.looked_up y
    ∙ ap (λ v. cond (same_object c.args.object y) (Some v) (lookup (same_object y) c.self.inside.seen.entries)) c.seen_of.ensures

pub invariant_of-self-2 : goal.invariant_of-self-2
invariant_of-self-2 c =
    let found = c.find-place.ensures.seen in
    IsChecker-taken _ c.self.invariant c.args.object c.find-place.result.1 found c.args.entry c.figures-now.result _ c.figures-now.ensures c.requires.size c.requires.range
    (subst (λ (v : Summary). v.sums.steps < v.header.requests) (sym c.self.view_is) c.requires.fewer)
    (none_from_ok (first_some (record_rules c.self.inside.header c.args.object c.args.entry c.figures-now.result)) c.in_ok-check_record.ensures)
    c.put.new.entries.entries (entered c) (looked c) c.sums_with-self-inside.result
    (c.sums_with-self-inside.ensures.sums ∙ ap (sums_after c.self.inside.sums c.figures-now.result) c.added-added.ensures.sums) c.args.only c.counts-counts.ensures c.sums_with-self-inside.ensures.small
    c.in_ok-put.ensures.distinct

pub returns-clause-stepped : goal.returns-clause-stepped
returns-clause-stepped c = λ h fills trace records st mark.
    let found = c.find-place.ensures.seen in
    taken _ c.self.invariant c.args.object c.find-place.result.1 found c.args.entry c.figures-now.result _ c.figures-now.ensures c.requires.size c.requires.range
    (subst (λ (v : Summary). v.sums.steps < v.header.requests) (sym c.self.view_is) c.requires.fewer)
    (none_from_ok (first_some (record_rules c.self.inside.header c.args.object c.args.entry c.figures-now.result)) c.in_ok-check_record.ensures)
    c.put.new.entries.entries (entered c) (looked c) c.sums_with-self-inside.result
    (c.sums_with-self-inside.ensures.sums ∙ ap (sums_after c.self.inside.sums c.figures-now.result) c.added-added.ensures.sums)
    h fills trace records (subst (StandsFor h fills trace records) (sym c.self.view_is) st) (c.counts-counts.ensures ∙ counted-is _ h fills trace records (subst (StandsFor h fills trace records) (sym c.self.view_is) st) c.args.only mark)

pub figures-now-requires-clause-steps : goal.figures-now-requires-clause-steps
figures-now-requires-clause-steps c = omega (arith, c.requires.fewer, c.self.invariant.stands.input.header_in_range.requests, ap (λ (v : Summary). v.sums.steps) c.self.view_is, ap (λ (v : Summary). v.header.requests) c.self.view_is)

pub check_record-requires-clause-header : goal.check_record-requires-clause-header
check_record-requires-clause-header c = c.self.invariant.stands.input.header_in_range

pub check_record-requires-clause-size : goal.check_record-requires-clause-size
check_record-requires-clause-size c = c.requires.size

pub returns-in_err-check_record-clause-counts : goal.returns-in_err-check_record-clause-counts
returns-in_err-check_record-clause-counts c = rw (err_from_is_err_and c.from_residual.result c.from_residual.ensures.1).1 tt

pub returns-in_err-check_record-clause-kept : goal.returns-in_err-check_record-clause-kept
returns-in_err-check_record-clause-kept c = rw (err_from_is_err_and c.from_residual.result c.from_residual.ensures.1).1 refl

pub added-added-requires-clause-header : goal.added-added-requires-clause-header
added-added-requires-clause-header c = c.self.invariant.stands.input.header_in_range

pub added-added-requires-clause-size : goal.added-added-requires-clause-size
added-added-requires-clause-size c = c.requires.size.1

pub returns-in_err-put-clause-counts : goal.returns-in_err-put-clause-counts
returns-in_err-put-clause-counts c = rw (err_from_is_err_and c.from_residual-in_err-put.result c.from_residual-in_err-put.ensures.1).1 tt

pub sums_with-self-inside-requires-clause-steps : goal.sums_with-self-inside-requires-clause-steps
sums_with-self-inside-requires-clause-steps c = omega (arith, c.requires.fewer, c.self.invariant.stands.input.header_in_range.requests, ap (λ (v : Summary). v.sums.steps) c.self.view_is, ap (λ (v : Summary). v.header.requests) c.self.view_is)

pub sums_with-self-inside-requires-clause-small : goal.sums_with-self-inside-requires-clause-small
sums_with-self-inside-requires-clause-small c = c.self.invariant.small

pub sums_with-self-inside-requires-clause-added : goal.sums_with-self-inside-requires-clause-added
sums_with-self-inside-requires-clause-added c = c.added-added.ensures.small

pub returns-clause-counts : goal.returns-clause-counts
returns-clause-counts c =
    let steps : c.sums_with-self-inside.result.steps ≡ c.self.inside.sums.steps + 1 = ap (λ (s : Sums). s.steps) c.sums_with-self-inside.ensures.sums in
    (ap (λ (v : Summary). v.header) c.self.view_is, steps ∙ ap (λ (v : Summary). v.sums.steps + 1) c.self.view_is)

pub put-requires-clause-distinct : goal.put-requires-clause-distinct
put-requires-clause-distinct c = c.self.invariant.unique

use Rattle.std.proofs.Common.{◌∙◌, sym, ap, subst}
use Rattle.std.specs.List.{IsDistinct}
use Rattle.std.specs.Map.{lookup}
use Rattle.indexmap.specs.IndexMap.{insert_entry}
use Rattle.indexmap.proofs.CallerLemmas.{keys-with_value_at}
use Rattle.cache_model.specs.Claim.{same_object}
use Rattle.cache_model.proofs.DifferentObjects.{same_object-derived}
use Rattle.cert_checker.proofs.Places.{lookup-insert_entry, set_value_at-place}
use Rattle.cert_checker.proofs.entries.put.Goals as goal

pub returns-in-Some-clause-entries : goal.returns-in-Some-clause-entries
returns-in-Some-clause-entries c = set_value_at-place c.args.object c.args.seen c.args.entries.now.entries c.in-Some.place (sym c.in-Some.is ∙ c.requires.place)

pub returns-in-Some-clause-looked_up : goal.returns-in-Some-clause-looked_up
returns-in-Some-clause-looked_up c = λ y.
    ap (lookup (same_object y)) (set_value_at-place c.args.object c.args.seen c.args.entries.now.entries c.in-Some.place (sym c.in-Some.is ∙ c.requires.place))
    ∙ lookup-insert_entry c.args.object c.args.seen c.args.entries.now.entries y

pub returns-in-Some-clause-distinct : goal.returns-in-Some-clause-distinct
returns-in-Some-clause-distinct c = subst (IsDistinct same_object) (sym (keys-with_value_at c.args.entries.now c.in-Some.place c.args.seen)) c.requires.distinct

pub returns-in_ok-insert-in-None-clause-looked_up : goal.returns-in_ok-insert-in-None-clause-looked_up
returns-in_ok-insert-in-None-clause-looked_up c = λ y.
    ap (lookup (same_object y)) (c.in_ok-insert-in-None.ensures.entries ∙ ap (λ same. insert_entry same c.args.entries.now.entries c.args.object c.args.seen) same_object-derived)
    ∙ lookup-insert_entry c.args.object c.args.seen c.args.entries.now.entries y

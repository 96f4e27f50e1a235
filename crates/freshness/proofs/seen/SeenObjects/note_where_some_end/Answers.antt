use Rattle.std.proofs.Common.{◌≡◌, ◌+◌, ◌∙◌, ap, subst}
use Rattle.std.specs.Map.{lookup}
use Rattle.indexmap.specs.IndexMap.{insert_entry}
use Rattle.cache_model.specs.Claim.{same_object}
use Rattle.cache_model.proofs.DifferentObjects.{same_object-derived}
use Rattle.freshness.specs.Stale.{stale_after}
use Rattle.freshness.specs.Seen.{Seen, is_stale, is_stale_since, with_seen}
use Rattle.freshness.specs.contracts.seen.SeenObjects.{the_view}
use Rattle.freshness.proofs.Noted.{is_stale-found, seen-noted}
use Rattle.freshness.proofs.seen.SeenObjects.note_where_some_end.Goals as goal

pub returns-clause-stale : goal.returns-clause-stale
returns-clause-stale c =
    let seen = the_view c.self.inside in
    let x = c.args.object in
    let last : c.in_ok-last.last ≡ lookup (same_object x) c.self.inside.clocks.entries = c.in_ok-last.ensures.old ∙ ap (λ same. lookup (same x) c.self.inside.clocks.entries) same_object-derived in
    let told_stale : c.is_stale_since-stale.result ≡ is_stale_since (stale_after c.args.fresh) c.max-clock.result c.in_ok-last.last c.in_ok-other.other = c.is_stale_since-stale.ensures ∙ ap (λ after. is_stale_since after c.max-clock.result c.in_ok-last.last c.in_ok-other.other) c.stale_after.ensures in
    subst (λ (s : Seen). c.is_stale_since-stale.result ≡ is_stale c.args.fresh s x c.args.time) c.self.view_is
    (is_stale-found c.args.fresh seen x c.args.time c.max-clock.result c.in_ok-last.last c.in_ok-other.other c.is_stale_since-stale.result c.requires.can_end c.max-clock.ensures last c.in_ok-other.ensures.other told_stale)

pub returns-clause-seen : goal.returns-clause-seen
returns-clause-seen c =
    let old = c.self.inside in
    let seen = the_view old in
    let x = c.args.object in
    let fresh = c.args.fresh in
    let stale_is = c.is_stale_since-stale.result in
    let last : c.in_ok-last.last ≡ lookup (same_object x) old.clocks.entries = c.in_ok-last.ensures.old ∙ ap (λ same. lookup (same x) old.clocks.entries) same_object-derived in
    let told_stale : stale_is ≡ is_stale_since (stale_after fresh) c.max-clock.result c.in_ok-last.last c.in_ok-other.other = c.is_stale_since-stale.ensures ∙ ap (λ after. is_stale_since after c.max-clock.result c.in_ok-last.last c.in_ok-other.other) c.stale_after.ensures in
    let stale = is_stale-found fresh seen x c.args.time c.max-clock.result c.in_ok-last.last c.in_ok-other.other stale_is c.requires.can_end c.max-clock.ensures last c.in_ok-other.ensures.other told_stale in
    let clocks = c.in_ok-last.ensures.entries ∙ ap (λ same. insert_entry same old.clocks.entries x c.max-clock.result) same_object-derived in
    let told = c.with-self-inside.ensures in
    subst (λ (s : Seen). the_view (record { clock = c.max-clock.result; clocks = c.insert_full.new.self; sizes = c.note_size.new.sizes; late = old.late + c.one_if.result; history = c.with-self-inside.result }) ≡ with_seen fresh s x c.args.time c.args.own) c.self.view_is
    (seen-noted fresh seen x c.args.time c.max-clock.result stale_is c.args.own c.insert_full.new.self.entries c.note_size.new.sizes.entries (old.late + c.one_if.result) c.with-self-inside.result.stale c.with-self-inside.result.own c.with-self-inside.result.times
    c.requires.can_end c.max-clock.ensures clocks c.in_ok-other.ensures.sizes stale (ap (λ n. old.late + n) c.one_if.ensures) told.0 told.1 told.2)

use Rattle.std.proofs.Common.{◌≡◌, ◌≢◌, ℕ, ◌<◌, ◌∙◌, sym, ap, subst, cond, Some, IfSome, List, length, take, option_to_list}
use Rattle.std.specs.Map.{lookup}
use Rattle.cache_model.specs.declared.objects.Object.{Object}
use Rattle.cache_model.specs.Objects.{objects_of}
use Rattle.freshness.specs.declared.id.Id.{Id}
use Rattle.freshness.specs.Seen.{id_of, same_id}
use Rattle.freshness.proofs.Ids.{same_id-derived}
use Rattle.replay_fresh.specs.Fresh.{last_of_id, of_other_size}
use Rattle.replay_fresh.specs.Latest.{AreLatest, IsRequestOf, Keeps}
use Rattle.replay_fresh.proofs.Versions.{latest-more, other-number, other_than-known, other_than-size}
use Rattle.replay_fresh.proofs.replacing.replaced_by.Goals as goal

-- what the map had for its volume and id
had : (c : goal.After-other_than) → c.in_ok-before.before ≡ lookup (same_id (id_of c.args.object)) c.args.latest.now.entries
had c =
    c.in_ok-before.ensures.old ∙ ap (λ same. lookup (same c.of.result) c.args.latest.now.entries) same_id-derived
    ∙ ap (λ key. lookup (same_id key) c.args.latest.now.entries) c.of.ensures

keeps : (c : goal.After-other_than) (trace : List Object) (t : ℕ) → AreLatest c.args.latest.now.entries trace t → Keeps trace c.args.object (last_of_id c.args.object (take t trace)) c.in_ok-before.before
keeps c trace t latest = subst (Keeps trace c.args.object (last_of_id c.args.object (take t trace))) (sym (had c)) (latest c.args.object)

pub returns-clause-latest : goal.returns-clause-latest
returns-clause-latest c = λ trace t is latest.
    let own = subst (λ x. Keeps trace x (Some x) (Some c.args.number)) (sym is.asked) is.version in
    latest-more c.args.latest.now.entries c.insert.new.self.entries trace t c.args.number is.within own latest
    (subst (λ key. (q : Id) → lookup (same_id q) c.insert.new.self.entries ≡ cond (same_id key q) (Some c.args.number) (lookup (same_id q) c.args.latest.now.entries))
    (c.of.ensures ∙ ap id_of (sym is.asked))
    (subst (λ same. (q : Id) → lookup (same q) c.insert.new.self.entries ≡ cond (same c.of.result q) (Some c.args.number) (lookup (same q) c.args.latest.now.entries)) same_id-derived
    c.in_ok-before.ensures.updates.0))

pub returns-clause-replaced : goal.returns-clause-replaced
returns-clause-replaced c = λ trace t is latest.
    let x : Object = c.args.object in
    ap option_to_list c.other_than.ensures ∙ other_than-size trace x c.args.number is.version (last_of_id x (take t trace)) c.in_ok-before.before (keeps c trace t latest)
    ∙ ap (λ y. of_other_size trace y (last_of_id y (take t trace))) (sym is.asked)

pub returns-clause-known : goal.returns-clause-known
returns-clause-known c = λ trace t is latest.
    let x : Object = c.args.object in
    subst (λ o. IfSome o (λ k. k < length (objects_of trace))) (sym c.other_than.ensures)
    (other_than-known trace x c.args.number is.version (last_of_id x (take t trace)) c.in_ok-before.before (keeps c trace t latest))

pub returns-clause-other : goal.returns-clause-other
returns-clause-other c = subst (λ o. IfSome o (λ k. k ≢ c.args.number)) (sym c.other_than.ensures) (other-number c.args.number c.in_ok-before.before)

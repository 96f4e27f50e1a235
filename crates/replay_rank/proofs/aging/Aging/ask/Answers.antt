use Rattle.std.proofs.Common.{◌≡◌, ℕ, ◌+◌, ◌∙◌, sym, refl, ap, subst, List, arith, Some, None, All, Contains, heap_items}
use Rattle.std.specs.Bool.{⊤}
use Rattle.std.specs.BTreeMap.{is_at}
use Rattle.std.specs.Map.{lookup}
use Rattle.std.specs.Ordering.{nat_cmp}
use Rattle.std.proofs.lemmas.Result.{MatchResult-from_err}
use Rattle.policy_model.specs.States.{Entry, members_of, used, IsFit}
use Rattle.policy_model.specs.Steps.{change, put_in}
use Rattle.policy_model.specs.Aging.{raised}
use Rattle.replay_core.specs.declared.policy.Outcome.TheVariants.{Hit, Miss}
use Rattle.replay_core.specs.Keeping.{Kept, Answers, GivesUp, contents_of}
use Rattle.replay_core.proofs.Kept.{fit-sound, gives_up}
use Rattle.replay_rank.specs.AgingEntries.{entries_of, name_of}
use Rattle.replay_rank.proofs.AgingAnswers.{keeping, renewed-by, hit-answers, hit-aging, large-answers, freed-none, freed-gives, miss-answers, miss-fit, miss-used}
use Rattle.replay_rank.proofs.aging.Aging.ask.Goals as goal

-- the sizes, by the fields
abbrev SizesAre : ℕ → ℕ → Kept → Type 0
SizesAre object size p = All (λ m. m.object ≡ object → m.size ≡ size) (contents_of p)

pub returns-in_err-renew-clause-gives_up : goal.returns-in_err-renew-clause-gives_up
returns-in_err-renew-clause-gives_up c =
    let old : List Entry = entries_of c.self.inside.holdings in
    let final : List Entry = entries_of c.renew.new.holdings in
    let after : List Entry → Kept = λ es. keeping c.self.inside.objects c.self.inside.capacity c.self.inside.requests c.self.inside.floor es in
    let same : final ≡ old = c.in_err-renew.ensures.err in
    MatchResult-from_err c.from_residual.result (λ _. ⊤) (λ _. GivesUp c.args.self.now (after final)) c.from_residual.ensures.0
    (λ _. subst (λ (was : Kept). GivesUp was (after final)) c.self.view_is
    (gives_up (after old) (after final) (subst (IsFit c.self.inside.capacity) (sym same) c.self.invariant.fits) (λ m h. subst (λ es. Contains (members_of es) m) same h) refl refl))

pub invariant_of-self-in-Some : goal.invariant_of-self-in-Some
invariant_of-self-in-Some c =
    let is : lookup (is_at (nat_cmp c.args.object)) c.self.inside.holdings ≡ Some c.in-Some.former = sym c.get.ensures.found ∙ c.in-Some.is in
    let renewed : entries_of c.renew.new.holdings ≡ change (raised (name_of c.args.by) c.self.inside.floor c.self.inside.requests) c.args.object (entries_of c.self.inside.holdings) =
    renewed-by c.args.by c.self.inside.objects c.self.inside.capacity c.self.inside.requests c.self.inside.floor c.self.inside.used c.self.inside.holdings (heap_items c.self.inside.order) c.self.invariant c.args.object c.args.size
    (subst (SizesAre c.args.object c.args.size) (sym c.self.view_is) c.requires.kept_size) c.in-Some.former is c.raise-now.result c.worth-worth.result c.worth-worth.ensures c.raise-now.ensures.entry c.renew.new.holdings c.in_ok-renew.ensures.entries in
    hit-aging c.args.by c.self.inside.objects c.self.inside.capacity c.self.inside.requests c.self.inside.floor c.self.inside.used c.self.inside.holdings (heap_items c.self.inside.order) c.self.invariant c.args.object c.args.size
    (subst (SizesAre c.args.object c.args.size) (sym c.self.view_is) c.requires.kept_size) c.in-Some.former is c.renew.new.holdings renewed (heap_items c.renew.new.order) c.renew.ensures.ordered

pub returns-in-Some-clause-answers : goal.returns-in-Some-clause-answers
returns-in-Some-clause-answers c = λ next.
    let is : lookup (is_at (nat_cmp c.args.object)) c.self.inside.holdings ≡ Some c.in-Some.former = sym c.get.ensures.found ∙ c.in-Some.is in
    let renewed : entries_of c.renew.new.holdings ≡ change (raised (name_of c.args.by) c.self.inside.floor c.self.inside.requests) c.args.object (entries_of c.self.inside.holdings) =
    renewed-by c.args.by c.self.inside.objects c.self.inside.capacity c.self.inside.requests c.self.inside.floor c.self.inside.used c.self.inside.holdings (heap_items c.self.inside.order) c.self.invariant c.args.object c.args.size
    (subst (SizesAre c.args.object c.args.size) (sym c.self.view_is) c.requires.kept_size) c.in-Some.former is c.raise-now.result c.worth-worth.result c.worth-worth.ensures c.raise-now.ensures.entry c.renew.new.holdings c.in_ok-renew.ensures.entries in
    let after : ℕ → Kept = λ n. keeping c.self.inside.objects c.self.inside.capacity n c.self.inside.floor (entries_of c.renew.new.holdings) in
    subst (λ (old : Kept). Answers (name_of c.args.by) old (after c.saturating_add-requests.result) c.args.object c.args.size next Hit) c.self.view_is
    (subst (λ (n : ℕ). Answers (name_of c.args.by) (keeping c.self.inside.objects c.self.inside.capacity c.self.inside.requests c.self.inside.floor (entries_of c.self.inside.holdings)) (after n) c.args.object c.args.size next Hit) (sym c.saturating_add-requests.ensures)
    (hit-answers c.args.by c.self.inside.objects c.self.inside.capacity c.self.inside.requests c.self.inside.floor c.self.inside.used c.self.inside.holdings (heap_items c.self.inside.order) c.self.invariant c.args.object c.args.size
    (subst (SizesAre c.args.object c.args.size) (sym c.self.view_is) c.requires.kept_size) c.in-Some.former is c.renew.new.holdings renewed next))

pub returns-in-Some-clause-fits : goal.returns-in-Some-clause-fits
returns-in-Some-clause-fits c = fit-sound c.self.inside.capacity (entries_of c.renew.new.holdings) (invariant_of-self-in-Some c).fits

pub returns-then-size-self-clause-answers : goal.returns-then-size-self-clause-answers
returns-then-size-self-clause-answers c = λ next.
    let is : lookup (is_at (nat_cmp c.args.object)) c.self.inside.holdings ≡ None = sym c.get.ensures.found ∙ c.in_default.is in
    let after : ℕ → Kept = λ n. keeping c.self.inside.objects c.self.inside.capacity n c.self.inside.floor (entries_of c.self.inside.holdings) in
    subst (λ (old : Kept). Answers (name_of c.args.by) old (after c.saturating_add-requests.result) c.args.object c.args.size next Miss) c.self.view_is
    (subst (λ (n : ℕ). Answers (name_of c.args.by) (after c.self.inside.requests) (after n) c.args.object c.args.size next Miss) (sym c.saturating_add-requests.ensures)
    (large-answers c.args.by c.self.inside.objects c.self.inside.capacity c.self.inside.requests c.self.inside.floor c.self.inside.used c.self.inside.holdings (heap_items c.self.inside.order) c.self.invariant c.args.object c.args.size
    (subst (SizesAre c.args.object c.args.size) (sym c.self.view_is) c.requires.kept_size) is next c.if-size-self.true))

pub returns-then-size-self-clause-fits : goal.returns-then-size-self-clause-fits
returns-then-size-self-clause-fits c = fit-sound c.self.inside.capacity (entries_of c.self.inside.holdings) c.self.invariant.fits

pub put-requires-clause-absent : goal.put-requires-clause-absent
put-requires-clause-absent c =
    freed-none c.args.by c.self.inside.objects c.self.inside.capacity c.self.inside.requests c.self.inside.floor c.self.inside.used c.self.inside.holdings (heap_items c.self.inside.order) c.self.invariant c.args.object c.args.size
    (subst (SizesAre c.args.object c.args.size) (sym c.self.view_is) c.requires.kept_size) (sym c.get.ensures.found ∙ c.in_default.is)
    c.free_least-left.new.holdings c.free_least-left.result.floor c.free_least-left.ensures.stock

pub returns-in_err-put-clause-gives_up : goal.returns-in_err-put-clause-gives_up
returns-in_err-put-clause-gives_up c =
    let final : List Entry = entries_of c.put.new.holdings in
    let same : final ≡ entries_of c.free_least-left.new.holdings = c.in_err-put.ensures.err in
    let fit : IsFit c.self.inside.capacity final = record { room = omega (arith, ap used same, c.free_least-left.ensures.in_use, c.free_least-left.ensures.room); apart = c.put.ensures.ordered.apart } in
    MatchResult-from_err c.from_residual-in_err-put.result (λ _. ⊤) (λ _. GivesUp c.args.self.now (keeping c.self.inside.objects c.self.inside.capacity c.self.inside.requests c.free_least-left.result.floor final)) c.from_residual-in_err-put.ensures.0
    (λ _. subst (λ (old : Kept). GivesUp old (keeping c.self.inside.objects c.self.inside.capacity c.self.inside.requests c.free_least-left.result.floor final)) c.self.view_is
    (freed-gives c.args.by c.self.inside.objects c.self.inside.capacity c.self.inside.requests c.self.inside.floor c.self.inside.used c.self.inside.holdings (heap_items c.self.inside.order) c.self.invariant c.args.object c.args.size
    (subst (SizesAre c.args.object c.args.size) (sym c.self.view_is) c.requires.kept_size) (sym c.get.ensures.found ∙ c.in_default.is)
    c.free_least-left.new.holdings c.free_least-left.result.floor c.free_least-left.ensures.stock final same fit))

pub invariant_of-self-2 : goal.invariant_of-self-2
invariant_of-self-2 c = record {
  range = c.self.invariant.range;
  in_use_is = ap (λ n. n + c.args.size) c.free_least-left.ensures.in_use
      ∙ sym (miss-used c.args.by c.self.inside.objects c.self.inside.capacity c.self.inside.requests c.self.inside.floor c.self.inside.used c.self.inside.holdings (heap_items c.self.inside.order) c.self.invariant c.args.object c.args.size
      (subst (SizesAre c.args.object c.args.size) (sym c.self.view_is) c.requires.kept_size) (sym c.get.ensures.found ∙ c.in_default.is)
      c.free_least-left.new.holdings c.free_least-left.result.floor c.free_least-left.ensures.stock c.if-size-self.false c.put.new.holdings (c.in_ok-put.ensures.entries ∙ ap (λ (e : Entry). put_in e (entries_of c.free_least-left.new.holdings)) (c.enter-ranked.ensures.entry c.args.by c.args.object c.worth-worth.ensures)));
  fits = miss-fit c.args.by c.self.inside.objects c.self.inside.capacity c.self.inside.requests c.self.inside.floor c.self.inside.used c.self.inside.holdings (heap_items c.self.inside.order) c.self.invariant c.args.object c.args.size
      (subst (SizesAre c.args.object c.args.size) (sym c.self.view_is) c.requires.kept_size) (sym c.get.ensures.found ∙ c.in_default.is)
      c.free_least-left.new.holdings c.free_least-left.result.floor c.free_least-left.ensures.stock c.if-size-self.false c.put.new.holdings (c.in_ok-put.ensures.entries ∙ ap (λ (e : Entry). put_in e (entries_of c.free_least-left.new.holdings)) (c.enter-ranked.ensures.entry c.args.by c.args.object c.worth-worth.ensures));
  ordered = c.put.ensures.ordered;
}

pub returns-clause-answers : goal.returns-clause-answers
returns-clause-answers c = λ next.
    let after : ℕ → Kept = λ n. keeping c.self.inside.objects c.self.inside.capacity n c.free_least-left.result.floor (entries_of c.put.new.holdings) in
    subst (λ (old : Kept). Answers (name_of c.args.by) old (after c.saturating_add-requests.result) c.args.object c.args.size next Miss) c.self.view_is
    (subst (λ (n : ℕ). Answers (name_of c.args.by) (keeping c.self.inside.objects c.self.inside.capacity c.self.inside.requests c.self.inside.floor (entries_of c.self.inside.holdings)) (after n) c.args.object c.args.size next Miss) (sym c.saturating_add-requests.ensures)
    (miss-answers c.args.by c.self.inside.objects c.self.inside.capacity c.self.inside.requests c.self.inside.floor c.self.inside.used c.self.inside.holdings (heap_items c.self.inside.order) c.self.invariant c.args.object c.args.size
    (subst (SizesAre c.args.object c.args.size) (sym c.self.view_is) c.requires.kept_size) (sym c.get.ensures.found ∙ c.in_default.is)
    c.free_least-left.new.holdings c.free_least-left.result.floor c.free_least-left.ensures.stock c.if-size-self.false c.put.new.holdings (c.in_ok-put.ensures.entries ∙ ap (λ (e : Entry). put_in e (entries_of c.free_least-left.new.holdings)) (c.enter-ranked.ensures.entry c.args.by c.args.object c.worth-worth.ensures)) next))

pub returns-clause-fits : goal.returns-clause-fits
returns-clause-fits c = fit-sound c.self.inside.capacity (entries_of c.put.new.holdings) (invariant_of-self-2 c).fits

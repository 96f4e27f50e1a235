use Rattle.std.proofs.Common.{◌≡◌, ℕ, ◌+◌, ◌-◌, ◌^◌, ◌<◌, ◌≤◌, ◌∙◌, sym, ap, subst, false, min, List, Some, is_some, All, arith, heap_items}
use Rattle.std.specs.Bool.{⊤}
use Rattle.std.specs.BTreeMap.{is_at}
use Rattle.std.specs.Map.{lookup}
use Rattle.std.specs.Ordering.{nat_cmp}
use Rattle.std.proofs.lemmas.Result.{MatchResult-from_err}
use Rattle.cache_model.specs.declared.objects.Objective.TheVariants.{Object as Hits}
use Rattle.policy_model.specs.declared.names.PolicyName.TheVariants.{Gdsf98}
use Rattle.policy_model.specs.States.{Entry, members_of, has_entry}
use Rattle.policy_model.specs.Steps.{change}
use Rattle.policy_model.specs.Aging.{raised}
use Rattle.policy_model.proofs.Parts.{IsPart}
use Rattle.replay_core.specs.declared.policy.Outcome.TheVariants.{Hit}
use Rattle.replay_core.specs.Keeping.{Kept, Answers, GivesUp, contents_of}
use Rattle.replay_core.proofs.Kept.{fit-sound}
use Rattle.replay_rank.specs.AgingEntries.{entries_of}
use Rattle.replay_rank.specs.AdmittedEntries.{admitted_kept}
use Rattle.replay_rank.proofs.Pairs.{has_entry-lookup}
use Rattle.replay_rank.proofs.AgingOrdered.{by_rank}
use Rattle.replay_rank.proofs.AgingAnswers.{keeping, renewed-by, hit-aging}
use Rattle.replay_rank.proofs.AdmittedAnswers.{part-gives, hit-answers, large-answers, small-answers}
use Rattle.replay_rank.proofs.gdsf98.Gdsf98.ask.Goals as goal
use Rattle.replay_rank.proofs.gdsf98.Gdsf98.ask.Goals.{then-size-self+in_ok-admit, else-size-self}

-- the sizes, by the fields
abbrev SizesAre : ℕ → ℕ → Kept → Type 0
SizesAre object size p = All (λ m. m.object ≡ object → m.size ≡ size) (contents_of p)

pub returns-in_err-renew-clause-gives_up : goal.returns-in_err-renew-clause-gives_up
returns-in_err-renew-clause-gives_up c =
    let former : List Entry = entries_of c.self.inside.holdings in
    MatchResult-from_err c.from_residual.result (λ _. ⊤) (λ _. GivesUp c.args.self.now (keeping c.self.inside.objects c.self.inside.capacity c.self.inside.requests c.self.inside.left.floor (entries_of c.renew.new.holdings))) c.from_residual.ensures.0
    (λ _. subst (λ (old : Kept). GivesUp old (keeping c.self.inside.objects c.self.inside.capacity c.self.inside.requests c.self.inside.left.floor (entries_of c.renew.new.holdings))) c.self.view_is
    (part-gives c.self.inside.objects c.self.inside.capacity c.self.inside.requests c.self.inside.left.floor c.self.inside.left.used c.self.inside.holdings (heap_items c.self.inside.order) c.self.invariant c.self.inside.left.floor (entries_of c.renew.new.holdings) (subst (λ es. IsPart es former) (sym c.in_err-renew.ensures.err) (λ f. omega arith))))

pub invariant_of-self-in-Some : goal.invariant_of-self-in-Some
invariant_of-self-in-Some c =
    let is : lookup (is_at (nat_cmp c.args.object)) c.self.inside.holdings ≡ Some c.in-Some.former = sym c.get.ensures.found ∙ c.in-Some.is in
    let sizes : All (λ m. m.object ≡ c.args.object → m.size ≡ c.args.size) (members_of (entries_of c.self.inside.holdings)) = subst (SizesAre c.args.object c.args.size) (sym c.self.view_is) c.requires.kept_size in
    let renewed : entries_of c.renew.new.holdings ≡ change (raised Gdsf98 c.self.inside.left.floor c.self.inside.requests) c.args.object (entries_of c.self.inside.holdings) =
    renewed-by Hits c.self.inside.objects c.self.inside.capacity c.self.inside.requests c.self.inside.left.floor c.self.inside.left.used c.self.inside.holdings (heap_items c.self.inside.order) c.self.invariant.aging c.args.object c.args.size sizes c.in-Some.former is c.raise-now.result c.worth-worth.result c.worth-worth.ensures c.raise-now.ensures.entry c.renew.new.holdings c.in_ok-renew.ensures.entries in
    record {
      aging = hit-aging Hits c.self.inside.objects c.self.inside.capacity c.self.inside.requests c.self.inside.left.floor c.self.inside.left.used c.self.inside.holdings (heap_items c.self.inside.order) c.self.invariant.aging c.args.object c.args.size sizes c.in-Some.former is c.renew.new.holdings renewed (heap_items c.renew.new.order) c.renew.ensures.ordered;
      low = c.self.invariant.low;
    }

pub returns-in-Some-clause-answers : goal.returns-in-Some-clause-answers
returns-in-Some-clause-answers c = λ next.
    let is : lookup (is_at (nat_cmp c.args.object)) c.self.inside.holdings ≡ Some c.in-Some.former = sym c.get.ensures.found ∙ c.in-Some.is in
    let sizes : All (λ m. m.object ≡ c.args.object → m.size ≡ c.args.size) (members_of (entries_of c.self.inside.holdings)) = subst (SizesAre c.args.object c.args.size) (sym c.self.view_is) c.requires.kept_size in
    let renewed : entries_of c.renew.new.holdings ≡ change (raised Gdsf98 c.self.inside.left.floor c.self.inside.requests) c.args.object (entries_of c.self.inside.holdings) =
    renewed-by Hits c.self.inside.objects c.self.inside.capacity c.self.inside.requests c.self.inside.left.floor c.self.inside.left.used c.self.inside.holdings (heap_items c.self.inside.order) c.self.invariant.aging c.args.object c.args.size sizes c.in-Some.former is c.raise-now.result c.worth-worth.result c.worth-worth.ensures c.raise-now.ensures.entry c.renew.new.holdings c.in_ok-renew.ensures.entries in
    let after : ℕ → List Entry → Kept = λ n es. keeping c.self.inside.objects c.self.inside.capacity n c.self.inside.left.floor es in
    subst (λ (old : Kept). Answers Gdsf98 old (after c.saturating_add-requests.result (entries_of c.renew.new.holdings)) c.args.object c.args.size next Hit) c.self.view_is
    (hit-answers (after c.self.inside.requests (entries_of c.self.inside.holdings)) c.args.object c.args.size (has_entry-lookup by_rank.fill c.self.inside.holdings c.args.object ∙ ap is_some is)
    (after c.saturating_add-requests.result (entries_of c.renew.new.holdings))
    (ap (after c.saturating_add-requests.result) renewed ∙ ap (λ n. after n (change (raised Gdsf98 c.self.inside.left.floor c.self.inside.requests) c.args.object (entries_of c.self.inside.holdings))) c.saturating_add-requests.ensures) next)

pub returns-in-Some-clause-fits : goal.returns-in-Some-clause-fits
returns-in-Some-clause-fits c = fit-sound c.self.inside.capacity (entries_of c.renew.new.holdings) (invariant_of-self-in-Some c).aging.fits

pub admit-requires-clause-absent : goal.admit-requires-clause-absent
admit-requires-clause-absent c =
    subst (λ (p : Kept). has_entry p.entries c.args.object ≡ false) c.self.view_is (has_entry-lookup by_rank.fill c.self.inside.holdings c.args.object ∙ ap is_some (sym c.get.ensures.found ∙ c.in_default.is))

pub returns-clause-answers : goal.returns-clause-answers
returns-clause-answers c = λ next.
    let none : has_entry c.args.self.now.entries c.args.object ≡ false =
    subst (λ (p : Kept). has_entry p.entries c.args.object ≡ false) c.self.view_is (has_entry-lookup by_rank.fill c.self.inside.holdings c.args.object ∙ ap is_some (sym c.get.ensures.found ∙ c.in_default.is)) in
    let counted : c.saturating_add-requests.result ≡ min (c.args.self.now.now + 1) (2 ^ 64 - 1) = c.saturating_add-requests.ensures ∙ ap (λ (p : Kept). min (p.now + 1) (2 ^ 64 - 1)) c.self.view_is in
    let later : ℕ → Kept → Kept = λ n p. record p { now = n } in
    let made : Kept → Kept = λ p. later c.saturating_add-requests.result p in
    let last : Kept = keeping c.self-2.inside.objects c.self-2.inside.capacity c.self-2.inside.requests c.self-2.inside.left.floor (entries_of c.self-2.inside.holdings) in
    elim c.if-size-self.branch [
      | then-size-self+in_ok-admit w ↦
          small-answers c.args.self.now c.args.object c.args.size none (subst (λ (p : Kept). c.args.size ≤ p.capacity) c.self.view_is w.if-size-self.true) (made last)
          (ap made (c.self-2.view_is ∙ w.self-is ∙ w.in_ok-admit.ensures.admits) ∙ ap (λ n. later n (admitted_kept c.args.self.now c.args.object c.args.size)) counted) next
      | else-size-self w ↦
          large-answers c.args.self.now c.args.object c.args.size none (subst (λ (p : Kept). p.capacity < c.args.size) c.self.view_is w.if-size-self.false) (made last)
          (ap made (c.self-2.view_is ∙ w.self-is) ∙ ap (λ n. later n c.args.self.now) counted) next
    ]

pub returns-clause-fits : goal.returns-clause-fits
returns-clause-fits c = fit-sound c.self-2.inside.capacity (entries_of c.self-2.inside.holdings) c.self-2.invariant.aging.fits

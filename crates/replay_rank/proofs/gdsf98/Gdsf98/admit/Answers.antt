use Rattle.std.proofs.Common.{◌≡◌, ◌≤◌, ◌^◌, ◌∙◌, sym, ap, subst, false, arith, heap_items}
use Rattle.std.specs.Bool.{⊤}
use Rattle.std.proofs.lemmas.Result.{MatchResult-from_err}
use Rattle.cache_model.specs.declared.objects.Objective.TheVariants.{Object as Hits}
use Rattle.policy_model.specs.declared.names.PolicyName.TheVariants.{Gdsf98}
use Rattle.policy_model.specs.States.{Entry, used, has_entry}
use Rattle.policy_model.specs.Steps.{put_in}
use Rattle.policy_model.specs.Aging.{ranked_entry}
use Rattle.policy_model.proofs.Parts.{IsPart, part-used, part-none}
use Rattle.replay_core.specs.Keeping.{Kept, GivesUp}
use Rattle.replay_rank.specs.AgingEntries.{entry_of, entries_of}
use Rattle.replay_rank.specs.AdmittedEntries.{SetsAside, admitted_kept}
use Rattle.replay_rank.proofs.AgingAnswers.{keeping}
use Rattle.replay_rank.proofs.AdmittedAnswers.{part-gives, part-admitting, own-high, own-low, admits, admitted-admitting, refuses}
use Rattle.replay_rank.proofs.gdsf98.Gdsf98.admit.Goals as goal

pub set_aside-requires-clause-low : goal.set_aside-requires-clause-low
set_aside-requires-clause-low c =
    let own : Entry = ranked_entry Gdsf98 c.self.inside.left.floor c.self.inside.requests c.args.object c.args.size in
    let entry_is : entry_of (c.args.object, c.enter-ranked.result) ≡ own = c.enter-ranked.ensures.entry Hits c.args.object c.worth.ensures in
    let rank_is : c.enter-ranked.result.kept.rank ≡ own.rank = ap (λ (e : Entry). e.rank) entry_is in
    subst (λ n. c.self.inside.left.floor ≤ n) (sym rank_is) (own-high c.self.inside.objects c.self.inside.capacity c.self.inside.requests c.self.inside.left.floor c.self.inside.left.used c.self.inside.holdings (heap_items c.self.inside.order) c.self.invariant c.args.object c.args.size)

pub invariant_of-self : goal.invariant_of-self
invariant_of-self c =
    let own : Entry = ranked_entry Gdsf98 c.self.inside.left.floor c.self.inside.requests c.args.object c.args.size in
    let entry_is : entry_of (c.args.object, c.enter-ranked.result) ≡ own = c.enter-ranked.ensures.entry Hits c.args.object c.worth.ensures in
    let rank_is : c.enter-ranked.result.kept.rank ≡ own.rank = ap (λ (e : Entry). e.rank) entry_is in
    let low : c.set_aside.new.left.floor ≤ own.rank = subst (λ n. c.set_aside.new.left.floor ≤ n) rank_is c.set_aside.ensures.low in
    let most : own.rank ≤ 2 ^ 127 = own-low c.self.inside.objects c.self.inside.capacity c.self.inside.requests c.self.inside.left.floor c.self.inside.left.used c.self.inside.holdings (heap_items c.self.inside.order) c.self.invariant c.args.object c.args.size in
    part-admitting c.self.inside.objects c.self.inside.capacity c.self.inside.requests c.self.inside.left.floor c.self.inside.left.used c.self.inside.holdings (heap_items c.self.inside.order) c.self.invariant c.set_aside.new.left.floor c.set_aside.new.left.used c.set_aside.new.holdings (heap_items c.set_aside.new.order) (omega arith) c.set_aside.ensures.in_use c.set_aside.ensures.part c.set_aside.ensures.ordered

pub returns-in_err-set_aside-clause-gives_up : goal.returns-in_err-set_aside-clause-gives_up
returns-in_err-set_aside-clause-gives_up c =
    MatchResult-from_err c.from_residual.result (λ _. ⊤) (λ _. GivesUp c.args.self.now (keeping c.self.inside.objects c.self.inside.capacity c.self.inside.requests c.set_aside.new.left.floor (entries_of c.set_aside.new.holdings))) c.from_residual.ensures.0
    (λ _. subst (λ (old : Kept). GivesUp old (keeping c.self.inside.objects c.self.inside.capacity c.self.inside.requests c.set_aside.new.left.floor (entries_of c.set_aside.new.holdings))) c.self.view_is
    (part-gives c.self.inside.objects c.self.inside.capacity c.self.inside.requests c.self.inside.left.floor c.self.inside.left.used c.self.inside.holdings (heap_items c.self.inside.order) c.self.invariant c.set_aside.new.left.floor (entries_of c.set_aside.new.holdings) (c.set_aside.ensures.part)))

pub overflow_add-self-inside : goal.overflow_add-self-inside
overflow_add-self-inside c =
    let small : c.args.size ≤ c.self.inside.capacity = subst (λ (p : Kept). c.args.size ≤ p.capacity) (sym c.self.view_is) c.requires.small in
    omega (arith, c.set_aside.ensures.in_use, part-used (entries_of c.set_aside.new.holdings) (entries_of c.self.inside.holdings) c.set_aside.ensures.part, c.self.invariant.aging.fits.room, c.self.invariant.aging.range)

pub put-requires-clause-absent : goal.put-requires-clause-absent
put-requires-clause-absent c =
    part-none c.args.object (entries_of c.set_aside.new.holdings) (entries_of c.self.inside.holdings) c.set_aside.ensures.part (subst (λ (p : Kept). has_entry p.entries c.args.object ≡ false) (sym c.self.view_is) c.requires.absent)

pub invariant_of-self-in_err-put : goal.invariant_of-self-in_err-put
invariant_of-self-in_err-put c =
    let own : Entry = ranked_entry Gdsf98 c.self.inside.left.floor c.self.inside.requests c.args.object c.args.size in
    let entry_is : entry_of (c.args.object, c.enter-ranked.result) ≡ own = c.enter-ranked.ensures.entry Hits c.args.object c.worth.ensures in
    let rank_is : c.enter-ranked.result.kept.rank ≡ own.rank = ap (λ (e : Entry). e.rank) entry_is in
    let low : c.set_aside.new.left.floor ≤ own.rank = subst (λ n. c.set_aside.new.left.floor ≤ n) rank_is c.set_aside.ensures.low in
    let most : own.rank ≤ 2 ^ 127 = own-low c.self.inside.objects c.self.inside.capacity c.self.inside.requests c.self.inside.left.floor c.self.inside.left.used c.self.inside.holdings (heap_items c.self.inside.order) c.self.invariant c.args.object c.args.size in
    part-admitting c.self.inside.objects c.self.inside.capacity c.self.inside.requests c.self.inside.left.floor c.self.inside.left.used c.self.inside.holdings (heap_items c.self.inside.order) c.self.invariant c.set_aside.new.left.floor c.set_aside.new.left.used c.put.new.holdings (heap_items c.put.new.order) (omega arith) (c.set_aside.ensures.in_use ∙ ap used (sym c.in_err-put.ensures.err)) (subst (λ es. IsPart es (entries_of c.self.inside.holdings)) (sym c.in_err-put.ensures.err) c.set_aside.ensures.part) c.put.ensures.ordered

pub returns-in_err-put-clause-gives_up : goal.returns-in_err-put-clause-gives_up
returns-in_err-put-clause-gives_up c =
    MatchResult-from_err c.from_residual-in_err-put.result (λ _. ⊤) (λ _. GivesUp c.args.self.now (keeping c.self.inside.objects c.self.inside.capacity c.self.inside.requests c.set_aside.new.left.floor (entries_of c.put.new.holdings))) c.from_residual-in_err-put.ensures.0
    (λ _. subst (λ (old : Kept). GivesUp old (keeping c.self.inside.objects c.self.inside.capacity c.self.inside.requests c.set_aside.new.left.floor (entries_of c.put.new.holdings))) c.self.view_is
    (part-gives c.self.inside.objects c.self.inside.capacity c.self.inside.requests c.self.inside.left.floor c.self.inside.left.used c.self.inside.holdings (heap_items c.self.inside.order) c.self.invariant c.set_aside.new.left.floor (entries_of c.put.new.holdings) (subst (λ es. IsPart es (entries_of c.self.inside.holdings)) (sym c.in_err-put.ensures.err) c.set_aside.ensures.part)))

pub invariant_of-self-then-self-size : goal.invariant_of-self-then-self-size
invariant_of-self-then-self-size c =
    let own : Entry = ranked_entry Gdsf98 c.self.inside.left.floor c.self.inside.requests c.args.object c.args.size in
    let entry_is : entry_of (c.args.object, c.enter-ranked.result) ≡ own = c.enter-ranked.ensures.entry Hits c.args.object c.worth.ensures in
    let rank_is : c.enter-ranked.result.kept.rank ≡ own.rank = ap (λ (e : Entry). e.rank) entry_is in
    let low : c.set_aside.new.left.floor ≤ own.rank = subst (λ n. c.set_aside.new.left.floor ≤ n) rank_is c.set_aside.ensures.low in
    let sets : SetsAside own.rank c.self.inside.left.floor c.set_aside.new.left.floor c.self.inside.capacity c.args.size c.set_aside.new.left.used c.self.inside.holdings c.set_aside.new.holdings c.set_aside.new.aside.items =
    subst (λ n. SetsAside n c.self.inside.left.floor c.set_aside.new.left.floor c.self.inside.capacity c.args.size c.set_aside.new.left.used c.self.inside.holdings c.set_aside.new.holdings c.set_aside.new.aside.items) rank_is c.in_ok-set_aside.ensures.aside in
    admitted-admitting c.self.inside.objects c.self.inside.capacity c.self.inside.requests c.self.inside.left.floor c.self.inside.left.used c.self.inside.holdings (heap_items c.self.inside.order) c.self.invariant c.args.object c.args.size c.set_aside.new.left.floor c.set_aside.new.left.used c.set_aside.new.holdings c.set_aside.new.aside.items sets c.put.new.holdings (c.in_ok-put.ensures.entries ∙ ap (λ (e : Entry). put_in e (entries_of c.set_aside.new.holdings)) entry_is) (heap_items c.put.new.order) low c.if-self-size.true c.set_aside.ensures.in_use c.put.ensures.ordered

pub returns-then-self-size-clause-admits : goal.returns-then-self-size-clause-admits
returns-then-self-size-clause-admits c =
    let own : Entry = ranked_entry Gdsf98 c.self.inside.left.floor c.self.inside.requests c.args.object c.args.size in
    let entry_is : entry_of (c.args.object, c.enter-ranked.result) ≡ own = c.enter-ranked.ensures.entry Hits c.args.object c.worth.ensures in
    let rank_is : c.enter-ranked.result.kept.rank ≡ own.rank = ap (λ (e : Entry). e.rank) entry_is in
    let low : c.set_aside.new.left.floor ≤ own.rank = subst (λ n. c.set_aside.new.left.floor ≤ n) rank_is c.set_aside.ensures.low in
    let sets : SetsAside own.rank c.self.inside.left.floor c.set_aside.new.left.floor c.self.inside.capacity c.args.size c.set_aside.new.left.used c.self.inside.holdings c.set_aside.new.holdings c.set_aside.new.aside.items =
    subst (λ n. SetsAside n c.self.inside.left.floor c.set_aside.new.left.floor c.self.inside.capacity c.args.size c.set_aside.new.left.used c.self.inside.holdings c.set_aside.new.holdings c.set_aside.new.aside.items) rank_is c.in_ok-set_aside.ensures.aside in
    subst (λ (old : Kept). keeping c.self.inside.objects c.self.inside.capacity c.self.inside.requests c.set_aside.new.left.floor (entries_of c.put.new.holdings) ≡ admitted_kept old c.args.object c.args.size) c.self.view_is
    (admits c.self.inside.objects c.self.inside.capacity c.self.inside.requests c.self.inside.left.floor c.self.inside.left.used c.self.inside.holdings (heap_items c.self.inside.order) c.self.invariant c.args.object c.args.size c.set_aside.new.left.floor c.set_aside.new.left.used c.set_aside.new.holdings c.set_aside.new.aside.items sets c.put.new.holdings (c.in_ok-put.ensures.entries ∙ ap (λ (e : Entry). put_in e (entries_of c.set_aside.new.holdings)) entry_is) low c.if-self-size.true)

pub invariant_of-self-in_err-restore : goal.invariant_of-self-in_err-restore
invariant_of-self-in_err-restore c =
    let own : Entry = ranked_entry Gdsf98 c.self.inside.left.floor c.self.inside.requests c.args.object c.args.size in
    let entry_is : entry_of (c.args.object, c.enter-ranked.result) ≡ own = c.enter-ranked.ensures.entry Hits c.args.object c.worth.ensures in
    let rank_is : c.enter-ranked.result.kept.rank ≡ own.rank = ap (λ (e : Entry). e.rank) entry_is in
    let sets : SetsAside own.rank c.self.inside.left.floor c.set_aside.new.left.floor c.self.inside.capacity c.args.size c.set_aside.new.left.used c.self.inside.holdings c.set_aside.new.holdings c.set_aside.new.aside.items =
    subst (λ n. SetsAside n c.self.inside.left.floor c.set_aside.new.left.floor c.self.inside.capacity c.args.size c.set_aside.new.left.used c.self.inside.holdings c.set_aside.new.holdings c.set_aside.new.aside.items) rank_is c.in_ok-set_aside.ensures.aside in
    let low : c.set_aside.new.left.floor ≤ own.rank = subst (λ n. c.set_aside.new.left.floor ≤ n) rank_is c.set_aside.ensures.low in
    let most : own.rank ≤ 2 ^ 127 = own-low c.self.inside.objects c.self.inside.capacity c.self.inside.requests c.self.inside.left.floor c.self.inside.left.used c.self.inside.holdings (heap_items c.self.inside.order) c.self.invariant c.args.object c.args.size in
    part-admitting c.self.inside.objects c.self.inside.capacity c.self.inside.requests c.self.inside.left.floor c.self.inside.left.used c.self.inside.holdings (heap_items c.self.inside.order) c.self.invariant c.set_aside.new.left.floor c.restore.new.in_use c.restore.new.holdings (heap_items c.restore.new.order) (omega arith) c.restore.ensures.in_use (subst (IsPart (entries_of c.restore.new.holdings)) sets.again c.restore.ensures.part) c.restore.ensures.ordered

pub returns-in_err-restore-clause-gives_up : goal.returns-in_err-restore-clause-gives_up
returns-in_err-restore-clause-gives_up c =
    let own : Entry = ranked_entry Gdsf98 c.self.inside.left.floor c.self.inside.requests c.args.object c.args.size in
    let entry_is : entry_of (c.args.object, c.enter-ranked.result) ≡ own = c.enter-ranked.ensures.entry Hits c.args.object c.worth.ensures in
    let rank_is : c.enter-ranked.result.kept.rank ≡ own.rank = ap (λ (e : Entry). e.rank) entry_is in
    let sets : SetsAside own.rank c.self.inside.left.floor c.set_aside.new.left.floor c.self.inside.capacity c.args.size c.set_aside.new.left.used c.self.inside.holdings c.set_aside.new.holdings c.set_aside.new.aside.items =
    subst (λ n. SetsAside n c.self.inside.left.floor c.set_aside.new.left.floor c.self.inside.capacity c.args.size c.set_aside.new.left.used c.self.inside.holdings c.set_aside.new.holdings c.set_aside.new.aside.items) rank_is c.in_ok-set_aside.ensures.aside in
    MatchResult-from_err c.from_residual-in_err-restore.result (λ _. ⊤) (λ _. GivesUp c.args.self.now (keeping c.self.inside.objects c.self.inside.capacity c.self.inside.requests c.set_aside.new.left.floor (entries_of c.restore.new.holdings))) c.from_residual-in_err-restore.ensures.0
    (λ _. subst (λ (old : Kept). GivesUp old (keeping c.self.inside.objects c.self.inside.capacity c.self.inside.requests c.set_aside.new.left.floor (entries_of c.restore.new.holdings))) c.self.view_is
    (part-gives c.self.inside.objects c.self.inside.capacity c.self.inside.requests c.self.inside.left.floor c.self.inside.left.used c.self.inside.holdings (heap_items c.self.inside.order) c.self.invariant c.set_aside.new.left.floor (entries_of c.restore.new.holdings) (subst (IsPart (entries_of c.restore.new.holdings)) sets.again c.restore.ensures.part)))

pub returns-clause-admits : goal.returns-clause-admits
returns-clause-admits c =
    let own : Entry = ranked_entry Gdsf98 c.self.inside.left.floor c.self.inside.requests c.args.object c.args.size in
    let entry_is : entry_of (c.args.object, c.enter-ranked.result) ≡ own = c.enter-ranked.ensures.entry Hits c.args.object c.worth.ensures in
    let rank_is : c.enter-ranked.result.kept.rank ≡ own.rank = ap (λ (e : Entry). e.rank) entry_is in
    let sets : SetsAside own.rank c.self.inside.left.floor c.set_aside.new.left.floor c.self.inside.capacity c.args.size c.set_aside.new.left.used c.self.inside.holdings c.set_aside.new.holdings c.set_aside.new.aside.items =
    subst (λ n. SetsAside n c.self.inside.left.floor c.set_aside.new.left.floor c.self.inside.capacity c.args.size c.set_aside.new.left.used c.self.inside.holdings c.set_aside.new.holdings c.set_aside.new.aside.items) rank_is c.in_ok-set_aside.ensures.aside in
    subst (λ (old : Kept). keeping c.self.inside.objects c.self.inside.capacity c.self.inside.requests c.self.inside.left.floor (entries_of c.restore.new.holdings) ≡ admitted_kept old c.args.object c.args.size) c.self.view_is
    (refuses c.self.inside.objects c.self.inside.capacity c.self.inside.requests c.self.inside.left.floor c.self.inside.left.used c.self.inside.holdings (heap_items c.self.inside.order) c.self.invariant c.args.object c.args.size c.set_aside.new.left.floor c.set_aside.new.left.used c.set_aside.new.holdings c.set_aside.new.aside.items sets (entries_of c.restore.new.holdings) c.in_ok-restore.ensures.all c.if-self-size.false)

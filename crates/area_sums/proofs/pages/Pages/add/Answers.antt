use Rattle.std.proofs.Common.{◌≡◌, ◌∙◌, ◌+◌, ◌*◌, ◌/◌, ◌%◌, ℕ, List, ap, set}
use Rattle.std.proofs.lemmas.List.{get_or_default}
use Rattle.area_sums.specs.declared.group.Group.{Group}
use Rattle.area_sums.specs.Groups.{both, group_at, no_group}
use Rattle.area_sums.specs.Pages.{group_in}
use Rattle.area_sums.proofs.PageLemmas.{read, write-more}
use Rattle.area_sums.proofs.pages.Pages.add.Goals as goal

pub returns-clause-added : goal.returns-clause-added
returns-clause-added c = λ p k low.
    let places : ℕ = c.args.self.now.places in
    let numbers : List ℕ = c.args.self.now.numbers.items in
    let groups : List Group = c.args.self.now.groups.items in
    let old : c.index.result.now ≡ group_in c.args.self.now c.args.place c.args.class =
    c.index.ensures ∙ get_or_default groups c.position-position.result c.index.result.now no_group c.position-position.ensures.within
    ∙ ap (group_at groups) c.position-position.ensures.position in
    let value : c.plus.result ≡ both (group_in c.args.self.now c.args.place c.args.class) c.args.more =
    c.plus.ensures ∙ ap (λ g. both g c.args.more) old in
    (λ i. read numbers (set groups (c.position-position.ensures.position i) (value i)) (k / 64 * places + p) (k % 64))
    ∙ write-more places c.args.self.now.rows numbers groups c.args.self.now.paged c.args.place c.args.class c.args.more c.requires.place c.requires.made.numbered p k low

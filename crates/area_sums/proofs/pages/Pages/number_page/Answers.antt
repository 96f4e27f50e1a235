use Rattle.std.proofs.Common.{◌≡◌, ◌∙◌, ◌+◌, ◌*◌, ◌/◌, ◌%◌, ℕ, List, ap, set, get_or, sym, arith}
use Rattle.std.proofs.lemmas.Grind.{get_or_default_zero}
use Rattle.area_sums.specs.declared.group.Group.{Group}
use Rattle.area_sums.specs.Groups.{group_at}
use Rattle.area_sums.proofs.PageLemmas.{read-page}
use Rattle.area_sums.proofs.pages.Pages.number_page.Goals as goal

pub returns-in_ok-self-clause-same : goal.returns-in_ok-self-clause-same
returns-in_ok-self-clause-same c = λ p k.
    let places : ℕ = c.args.self.now.places in
    let numbers : List ℕ = c.args.self.now.numbers.items in
    let groups : List Group = c.args.self.now.groups.items in
    let none : get_or numbers c.spot-spot.result 0 ≡ 0 =
    sym (get_or_default_zero numbers c.spot-spot.result c.index.result.now c.spot-spot.ensures.within) ∙ sym c.index.ensures ∙ c.if-index-eq0.true in
    ap (λ gs. group_at gs (get_or (set numbers c.spot-spot.result c.in_ok-self.field-0) (k / 64 * places + p) 0 * 64 + k % 64)) c.in_ok-self.ensures.added
    ∙ read-page places c.args.self.now.rows numbers groups c.args.self.now.paged c.spot-spot.result c.in_ok-self.field-0 c.spot-spot.ensures.within none
    c.in_ok-self.ensures.number (k / 64 * places + p) (k % 64) (omega arith)

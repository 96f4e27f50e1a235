use Rattle.std.proofs.Common.{◌≡◌, ◌∙◌, ◌∷◌, ap, sym, arith, eqb, false}
use Rattle.std.specs.List.{after_first}
use Rattle.std.proofs.lemmas.List.Elements.{All-from_get_or}
use Rattle.std.proofs.lemmas.List.Splits.{slice_split_first, slice_split_none}
use Rattle.std.proofs.lemmas.List.Sums.{fails_before_first}
use Rattle.std.proofs.lemmas.Str.Pattern.{split_once_first}
use Rattle.bound_words.specs.Capacities.{words_of_list}
use Rattle.bound_words.proofs.capacities.cut.Goals as goal

pub returns-in-Some : goal.returns-in-Some
returns-in-Some c =
    let list = c.args.list.now in
    let parts = rw c.in-Some.is at (split_once_first 44 list c.split_once.result c.split_once.ensures.cases (omega arith)) in
    slice_split_first (λ b. eqb b 44) list 0 parts.0
    ∙ ap (λ first. first ∷ words_of_list (after_first (λ b. eqb b 44) list)) (sym parts.1)
    ∙ ap (λ left. c.in-Some.first.now ∷ words_of_list left) (sym parts.2)

pub returns-in-None : goal.returns-in-None
returns-in-None c =
    let list = c.args.list.now in
    let none = rw c.in-None.is at (split_once_first 44 list c.split_once.result c.split_once.ensures.cases (omega arith)) in
    slice_split_none (λ b. eqb b 44) list (All-from_get_or (λ b. eqb b 44 ≡ false) list 0 (λ k low. fails_before_first (λ b. eqb b 44) list k 0 (omega (arith, none, low))))

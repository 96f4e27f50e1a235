use Rattle.std.proofs.Common.{◌∙◌, ◌++◌, ap, subst, sym}
use Rattle.window_arcs.specs.Current.{AreKept}
use Rattle.window_arcs.specs.Passing.{passing_numbers}
use Rattle.window_arcs.proofs.arcs.WindowArcs.kept.Goals as goal

pub returns : goal.returns
returns c =
    let passing = passing_numbers c.args.self.now.cut c.args.self.now.order c.args.ranks.first c.args.ranks.end in
    subst (AreKept c.args.self.now c.args.ranks)
    (sym (c.in_ok-push_passing.ensures.items ∙ ap (λ xs. xs ++ passing) (c.in_ok-kept.ensures.items_if_clones_equal (λ x y same. same) ∙ c.requires.local)))
    c.in_ok-push_passing.ensures.kept

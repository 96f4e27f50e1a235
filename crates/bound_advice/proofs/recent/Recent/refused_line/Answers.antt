use Rattle.std.proofs.Common.{rules, tests, ◌≡◌, ◌∙◌, ℕ, List, Option, sym, subst, drop, ◌==◌}
use Rattle.std.specs.Iterator.Adapters.{skip_count, skip_source, skip_steps}
use Rattle.std.specs.declared.iter.Skip.{Skip}
use Rattle.std.proofs.lemmas.Iterator.{YieldsList}
use Rattle.std.proofs.lemmas.Iterator.Adapters.{YieldsList-from_skip}
use Rattle.std.proofs.lemmas.Iterator.Search.{find_from_yields_List}
use Rattle.std.proofs.lemmas.Iterator.Splits.{YieldsList-from_slice_split}
use Rattle.bound_advice.specs.Lines.{is_refused}
use Rattle.bound_advice.proofs.recent.Recent.refused_line.Goals as goal

-- what an iterator yields after its first items
yields_rest : {S A B : Type 0} {steps : S → Option A → S → Type 0} {v : A → B} {ys : List B} {s : Skip S} (all : S) (n : ℕ)
    → skip_source s ≡ all → skip_count s ≡ n → YieldsList steps v all ys → YieldsList (skip_steps steps) v s (drop n ys)
yields_rest {steps = steps} {v = v} {ys = ys} all n is count yields =
    YieldsList-from_skip n (subst (λ from. YieldsList steps v from ys) (sym is) yields) count

pub returns : goal.returns
returns c =
    find_from_yields_List (is_refused c.args.format) _ _ c.find.result c.find.ensures.ran
    (yields_rest _ _ c.skip-lines.ensures.source (c.skip-lines.ensures.count ∙ c.first_whole.ensures)
    (YieldsList-from_slice_split _ (λ byte. byte == 10) c.args.self.now.bytes.items (c.split-lines.ensures.rest ∙ c.as_slice.ensures.value) c.split-lines.ensures.done c.split-lines.ensures.closure (λ x b q k. search (rules, tests))))
    (λ x b q k. search rules)

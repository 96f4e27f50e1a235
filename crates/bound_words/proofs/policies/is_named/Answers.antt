use Rattle.std.proofs.Common.{rules, lit<}
use Rattle.std.specs.Str.{bytes_eq}
use Rattle.std.proofs.lemmas.Iterator.Search.{any_from_yields_List}
use Rattle.std.proofs.lemmas.Iterator.Splits.{YieldsList-from_str_split}
use Rattle.policy_model.specs.Names.{policy_word}
use Rattle.bound_words.proofs.policies.is_named.Goals as goal

pub returns-in-Some : goal.returns-in-Some
returns-in-Some c =
    rw c.in-Some.is
    (any_from_yields_List (λ word. bytes_eq word (policy_word c.args.policy)) _ _ _ c.any.ensures.ran
    (YieldsList-from_str_split 44 c.in-Some.list.now (lit< tt) c.split.ensures.text c.split.ensures.has_more c.split.ensures.pattern)
    (λ x b q k. search rules))

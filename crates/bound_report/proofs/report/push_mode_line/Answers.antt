use Rattle.std.proofs.Common.{◌≡◌, ℕ, List, ◌++◌, append_assoc, refl, codes}
use Rattle.cache_model.specs.Texts.{entry, line}
use Rattle.bound_report.proofs.report.push_mode_line.Goals as goal

-- a line of two pieces
two_pieces : (a b t u v : List ℕ) → u ≡ t ++ a → v ≡ u ++ line b → v ≡ t ++ line (a ++ b)
two_pieces a b t u v at_u at_v = rw (at_v, at_u) (simp append_assoc)

pub returns-in-Constant : goal.returns-in-Constant
returns-in-Constant c = rw c.in-Constant.is (two_pieces (entry (codes "mode constant price") c.args.price) (codes " form plain") c.args.text.now _ _ c.push_entry.ensures.text c.push_line-in-Constant.ensures.text)

pub returns-in-Infinite : goal.returns-in-Infinite
returns-in-Infinite c = rw (c.in-Infinite.is, c.push_line-in-Infinite.ensures.text) refl

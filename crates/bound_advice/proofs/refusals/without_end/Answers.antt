use Rattle.std.proofs.Common.{sym, subst, ℕ, List, [], codes, lit<}
use Rattle.std.specs.Str.{IsAscii}
use Rattle.std.proofs.lemmas.Str.{IsAscii-append, IsAscii-take, IsUtf8-from_ascii}
use Rattle.std.proofs.lemmas.Str.Ascii.{IsAscii-cons, IsAscii-nil}
use Rattle.bound_advice.specs.Advices.{IsAsciiLine}
use Rattle.bound_advice.proofs.refusals.without_end.Goals as goal

-- its end is a letter too
with_end : (text : List ℕ) → IsAsciiLine text → IsAscii text
with_end text (line, ascii, is) = subst IsAscii (sym is) (IsAscii-append line (codes "\n") ascii (IsAscii-cons 10 [] (lit< tt) IsAscii-nil))

pub returns-in-Err : goal.returns-in-Err
returns-in-Err c =
    absurd (c.in-Err.ensures.cases.0 (IsUtf8-from_ascii _ (IsAscii-take c.args.text.now _ (with_end c.args.text.now c.requires))))

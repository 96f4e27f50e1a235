use Rattle.std.proofs.Common.{◌≡◌, ◌∙◌, ap, arith, sym, ◌+◌, map, take, string_bytes, Err}
use Rattle.bound_words.specs.Faults.{fault, passed}
use Rattle.bound_words.specs.Words.{operand_fault}
use Rattle.bound_words.proofs.GivenByName.{stops_here, goes_on}
use Rattle.bound_words.proofs.words.check_operands.Goals as goal

pub returns-in-Some : goal.returns-in-Some
returns-in-Some c =
    let place : c.loop-at.at + c.args.first ≡ c.args.first + c.loop-at.at = omega arith in
    let stops = stops_here c.args.command string_bytes c.args.operands.now c.args.first c.loop-at.at c.index-operands-at.result (omega arith) c.index-operands-at.is c.in-Some.kind
    (c.in-Some.ensures ∙ ap (operand_fault c.args.command (map string_bytes (take c.loop-at.at c.args.operands.now))) c.as_str.ensures.value) in
    c.refuse.ensures ∙ ap (λ n. Err (fault n c.in-Some.kind)) place ∙ ap passed (sym (c.loop-at.invariant ∙ stops))

pub loop-at-preserved : goal.loop-at-preserved
loop-at-preserved c =
    c.loop-at.invariant
    ∙ goes_on c.args.command string_bytes c.args.operands.now c.args.first c.loop-at.at c.index-operands-at.result (omega arith) c.index-operands-at.is
    (c.in_default.ensures ∙ ap (operand_fault c.args.command (map string_bytes (take c.loop-at.at c.args.operands.now))) c.as_str.ensures.value)

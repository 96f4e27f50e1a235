use Rattle.std.proofs.Common.{refl, append_assoc, ◌++◌, ◌∙◌, codes}
use Rattle.std.specs.Prelude.{decimal}
use Rattle.bound_report.proofs.refusal.push_line_kind.Goals as goal

pub returns-in-BadNumber : goal.returns-in-BadNumber
returns-in-BadNumber c =
    rw (c.in-BadNumber.is, c.push-in-BadNumber-2.ensures.text, c.push_number.ensures.text, c.push-in-BadNumber.ensures.text) (append_assoc (c.args.text.now ++ codes "number in word ") (decimal c.in-BadNumber.word) (codes "\n") ∙ append_assoc c.args.text.now (codes "number in word ") (decimal c.in-BadNumber.word ++ codes "\n"))

pub returns-in-SizeTooLarge : goal.returns-in-SizeTooLarge
returns-in-SizeTooLarge c = rw (c.in-SizeTooLarge.is, c.push-in-SizeTooLarge.ensures.text) refl

pub returns-in-BadRange : goal.returns-in-BadRange
returns-in-BadRange c = rw (c.in-BadRange.is, c.push-in-BadRange.ensures.text) refl

pub returns-in-PartRecord : goal.returns-in-PartRecord
returns-in-PartRecord c =
    rw (c.in-PartRecord.is, c.push-in-PartRecord-2.ensures.text, c.push_number-in-PartRecord.ensures.text, c.push-in-PartRecord.ensures.text) (append_assoc (c.args.text.now ++ codes "part record ") (decimal c.in-PartRecord.bytes) (codes "\n") ∙ append_assoc c.args.text.now (codes "part record ") (decimal c.in-PartRecord.bytes ++ codes "\n"))

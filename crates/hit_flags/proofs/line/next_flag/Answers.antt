use Rattle.std.proofs.Common.{◌∙◌, sym}
use Rattle.hit_flags.specs.Lines.{known}
use Rattle.hit_flags.proofs.FlagLines.{gives_flag, gives_no_flag, too_long_none}
use Rattle.hit_flags.proofs.Near.{goes_line}
use Rattle.hit_flags.proofs.line.next_flag.Goals as goal

pub returns-in-Err-LineTooLong-clause-next : goal.returns-in-Err-LineTooLong-clause-next
returns-in-Err-LineTooLong-clause-next g c =
    let left = known c.args.lines.now (g.H.Source.left c.args.hits.now) in
    let why = rw c.in-Err-LineTooLong.field-0-is at (c.in-Err-LineTooLong.ensures.refused c.requires.going.1) in
    too_long_none c.args.lines.now left (g.H.Source.faults c.args.hits.now) (g.H.Source.faults c.next_line.new.source) c.in-Err-LineTooLong.line why

pub returns-in-Some-clause-next : goal.returns-in-Some-clause-next
returns-in-Some-clause-next g c =
    let gives = rw (c.in-Ok-Some.is, c.in-Ok-Some.field-0-is) at (c.next_line.follows.holds-at-none.0) in
    let found = sym c.flag_of-flag.ensures ∙ c.in-Some.is in (
      (gives.line, (gives.limit ∙ c.requires.going.0, gives.fault)),
      gives_flag c.in-Ok-Some.text.now c.in-Some.flag c.args.lines.now c.next_line.follows.lender-at-none _ _ (rw c.in-Ok-Some.field-0-is at c.in-Ok-Some.ensures.text) gives found,
    )

pub returns-in-None-clause-next : goal.returns-in-None-clause-next
returns-in-None-clause-next g c =
    let gives = rw (c.in-Ok-Some.is, c.in-Ok-Some.field-0-is) at (c.next_line.follows.holds-at-none.0) in
    let found = sym c.flag_of-flag.ensures ∙ c.in-None.is in
    (c.line-in-None.ensures ∙ gives.line, λ _. gives_no_flag c.in-Ok-Some.text.now _ (rw c.in-Ok-Some.field-0-is at c.in-Ok-Some.ensures.text) found)

pub returns-in-Some-clause-lines : goal.returns-in-Some-clause-lines
returns-in-Some-clause-lines g c = goes_line c.args.lines.now c.next_line.follows.lender-at-none _ c.next_line.result c.next_line.follows.holds-at-none

pub returns-in-None-clause-lines : goal.returns-in-None-clause-lines
returns-in-None-clause-lines g c = goes_line c.args.lines.now c.next_line.follows.lender-at-none _ c.next_line.result c.next_line.follows.holds-at-none

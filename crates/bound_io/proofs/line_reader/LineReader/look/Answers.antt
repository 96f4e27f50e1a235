use Rattle.std.proofs.lemmas.Grind.{common_steps}
use Rattle.std.proofs.Common.{◌≡◌, ◌+◌, ◌≤◌, ◌<◌, length, min, arith, ap}
use Rattle.bound_io.proofs.FirstLine.{extent_known, too_long_known, past_limit_known}
use Rattle.bound_io.proofs.Texts.{text_len-le}
use Rattle.bound_io.proofs.line_reader.LineReader.look.Goals as goal

pub returns-then-text-gt-MOST_TEXT-clause-refused : goal.returns-then-text-gt-MOST_TEXT-clause-refused
returns-then-text-gt-MOST_TEXT-clause-refused g c =
    let f = c.in-Ok.ensures in
    (ap (λ p. p.line + 1) c.self.view_is, rw (ap (λ p. p.held) c.self.view_is) at (too_long_known _ _ c.find_text.new.self c.in-Ok.text f.kept f.text (omega (arith, c.if-text-gt-MOST_TEXT.true))))

pub returns-then-line-self-clause-refused : goal.returns-then-line-self-clause-refused
returns-then-line-self-clause-refused g c =
    let f = c.in-Ok.ensures in
    let short : c.in-Ok.text ≤ 65535 = omega (arith, c.if-text-gt-MOST_TEXT.false) in
    let line : c.min-line.result ≡ min (length c.find_text.new.self) (c.in-Ok.text + 1) = omega (arith, c.min-line.ensures, c.len.ensures.len) in
    let extent = rw (← line, ap (λ p. p.held) c.self.view_is) at (extent_known _ _ c.find_text.new.self c.in-Ok.text f.kept f.text f.whole short) in
    let past : c.args.self.now.limit < c.args.self.now.consumed + c.min-line.result = omega (arith, c.if-line-self.true, ap (λ p. p.limit) c.self.view_is, ap (λ p. p.consumed) c.self.view_is, c.self.invariant) in
    past_limit_known _ _ _ c.in-Ok.text c.min-line.result extent short past

pub returns-clause-extent : goal.returns-clause-extent
returns-clause-extent g c =
    let f = c.in-Ok.ensures in
    let short : c.in-Ok.text ≤ 65535 = omega (arith, c.if-text-gt-MOST_TEXT.false) in
    let line : c.min-line.result ≡ min (length c.find_text.new.self) (c.in-Ok.text + 1) = omega (arith, c.min-line.ensures, c.len.ensures.len) in
    rw (← line, ap (λ p. p.held) c.self.view_is) at (extent_known _ _ c.find_text.new.self c.in-Ok.text f.kept f.text f.whole short)

pub returns-clause-within : goal.returns-clause-within
returns-clause-within g c =
    let line : c.min-line.result ≡ min (length c.find_text.new.self) (c.in-Ok.text + 1) = omega (arith, c.min-line.ensures, c.len.ensures.len) in
    let short : c.in-Ok.text ≤ length c.find_text.new.self = omega (arith, c.in-Ok.ensures.text, text_len-le c.find_text.new.self) in
    let room : c.args.self.now.consumed + c.min-line.result ≤ c.args.self.now.limit = omega (arith, c.if-line-self.false, ap (λ p. p.limit) c.self.view_is, ap (λ p. p.consumed) c.self.view_is, c.self.invariant) in
    record {
      in_line = omega (arith, line, short);
      one_lf = omega (arith, line);
      in_held = omega (arith, line);
      short = omega (arith, c.if-text-gt-MOST_TEXT.false);
      within = room;
      none = λ empty. omega (arith, line, empty);
    }

pub invariant_of-self : goal.invariant_of-self
invariant_of-self g c = grind (arith, common_steps)

pub returns-in_default-clause-still : goal.returns-in_default-clause-still
returns-in_default-clause-still g c = grind (arith, common_steps)

pub returns-in_default-clause-kept : goal.returns-in_default-clause-kept
returns-in_default-clause-kept g c = grind (arith, common_steps)

pub invariant_of-self-then-text-gt-MOST_TEXT : goal.invariant_of-self-then-text-gt-MOST_TEXT
invariant_of-self-then-text-gt-MOST_TEXT g c = grind (arith, common_steps)

pub returns-then-text-gt-MOST_TEXT-clause-still : goal.returns-then-text-gt-MOST_TEXT-clause-still
returns-then-text-gt-MOST_TEXT-clause-still g c = grind (arith, common_steps)

pub returns-then-text-gt-MOST_TEXT-clause-kept : goal.returns-then-text-gt-MOST_TEXT-clause-kept
returns-then-text-gt-MOST_TEXT-clause-kept g c = grind (arith, common_steps)

pub invariant_of-self-then-line-self : goal.invariant_of-self-then-line-self
invariant_of-self-then-line-self g c = grind (arith, common_steps)

pub returns-then-line-self-clause-still : goal.returns-then-line-self-clause-still
returns-then-line-self-clause-still g c = grind (arith, common_steps)

pub returns-then-line-self-clause-kept : goal.returns-then-line-self-clause-kept
returns-then-line-self-clause-kept g c = grind (arith, common_steps)

pub invariant_of-self-2 : goal.invariant_of-self-2
invariant_of-self-2 g c = grind (arith, common_steps)

pub returns-clause-still : goal.returns-clause-still
returns-clause-still g c = grind (arith, common_steps)

pub returns-clause-kept : goal.returns-clause-kept
returns-clause-kept g c = grind (arith, common_steps)

pub returns-in_default-clause-extent : goal.returns-in_default-clause-extent
returns-in_default-clause-extent g c = tt

pub returns-in_default-clause-within : goal.returns-in_default-clause-within
returns-in_default-clause-within g c = tt

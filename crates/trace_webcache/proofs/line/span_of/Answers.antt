use Rattle.std.proofs.Common.{◌≡◌, ◌∙◌, ℕ, ◌^◌, ◌<◌, ◌≤◌, ◌==◌, false, Ok, Err, sym, ap, refl, arith}
use Rattle.std.proofs.lemmas.Bool.{lt-ltb, le-ltb}
use Rattle.std.proofs.lemmas.Bool.Decides.{nat_tests}
use Rattle.trace_lines.specs.declared.line.Span.TheVariants.{Nothing, One}
use Rattle.trace_lines.specs.declared.line.LineKind.TheVariants.{SizeTooLarge}
use Rattle.trace_webcache.specs.Lines.{span_of}
use Rattle.trace_webcache.proofs.line.span_of.Goals as goal

-- a size within the range is a request
one_span : (id size : ℕ) → size ≤ 2 ^ 48 → (size ≡ 0 → ⊥) → span_of (Ok id) (Ok size) ≡ Ok (One id size)
one_span id size small some =
    let no : (size == 0) ≡ false = grind (arith, nat_tests) in
    rw (le-ltb (2 ^ 48) size small, no) refl

-- a size of 0 is none
no_span : (id size : ℕ) → size ≡ 0 → span_of (Ok id) (Ok size) ≡ Ok Nothing
no_span id size none = rw none refl

-- a size past the range is refused
large_span : (id size : ℕ) → 2 ^ 48 < size → span_of (Ok id) (Ok size) ≡ Err SizeTooLarge
large_span id size large = rw (lt-ltb (2 ^ 48) size large) refl

pub returns-else-size-eq0-clause-span : goal.returns-else-size-eq0-clause-span
returns-else-size-eq0-clause-span c = sym (ap (λ found. span_of found c.args.size) c.in-Ok.is ∙ (ap (span_of (Ok c.in-Ok.id)) c.in-Ok-size.is ∙ one_span c.in-Ok.id c.in-Ok-size.size c.if-size-gt-MOST_SIZE.false c.if-size-eq0.false))

pub returns-then-size-eq0-clause-span : goal.returns-then-size-eq0-clause-span
returns-then-size-eq0-clause-span c = sym (ap (λ found. span_of found c.args.size) c.in-Ok.is ∙ (ap (span_of (Ok c.in-Ok.id)) c.in-Ok-size.is ∙ no_span c.in-Ok.id c.in-Ok-size.size c.if-size-eq0.true))

pub returns-then-size-gt-MOST_SIZE-clause-span : goal.returns-then-size-gt-MOST_SIZE-clause-span
returns-then-size-gt-MOST_SIZE-clause-span c = sym (ap (λ found. span_of found c.args.size) c.in-Ok.is ∙ (ap (span_of (Ok c.in-Ok.id)) c.in-Ok-size.is ∙ large_span c.in-Ok.id c.in-Ok-size.size c.if-size-gt-MOST_SIZE.true))

pub returns-else-size-eq0-clause-range : goal.returns-else-size-eq0-clause-range
returns-else-size-eq0-clause-range c = (omega (arith, c.if-size-eq0.false), c.if-size-gt-MOST_SIZE.false)

pub returns-then-size-eq0-clause-range : goal.returns-then-size-eq0-clause-range
returns-then-size-eq0-clause-range c = tt

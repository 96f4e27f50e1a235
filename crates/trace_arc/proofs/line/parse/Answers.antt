use Rattle.std.proofs.Common.{◌≡◌, ◌∙◌, ℕ, ◌^◌, ◌≤◌, List, [], length, Ok, Err, sym, refl}
use Rattle.std.specs.Prelude.{slice_index_or}
use Rattle.std.proofs.lemmas.Bool.{le-ltb}
use Rattle.bound_base.specs.declared.digits.NumFault.{NumFault}
use Rattle.bound_base.specs.Digits.{number_of}
use Rattle.trace_lines.specs.Lines.{words}
use Rattle.trace_lines.specs.declared.line.LineKind.TheVariants.{BadNumber}
use Rattle.trace_arc.specs.Lines.{line_span}
use Rattle.trace_arc.proofs.line.parse.Goals as goal

-- a count that is no number is refused, whatever the first block
bad_count : (line a b : List ℕ) (first : ℕ) (fault : NumFault) → 2 ≤ length (words line) → a ≡ slice_index_or (words line) 0 [] → b ≡ slice_index_or (words line) 1 []
    → number_of (2 ^ 64) a ≡ Ok first → number_of (2 ^ 64) b ≡ Err fault → line_span line ≡ Err (BadNumber 2)
bad_count line a b first fault enough a_is b_is first_is count_is =
    rw (le-ltb (length (words line)) 2 enough, ← a_is, ← b_is, first_is, count_is) refl

pub returns-in_default-read_u64-2-clause-span : goal.returns-in_default-read_u64-2-clause-span
returns-in_default-read_u64-2-clause-span c =
    sym
    (bad_count c.args.line.now c.in-Some.first.now c.in-Some.count.now c.in-Ok.first c.in_default-read_u64-2.field-0 (c.in-Some.ensures.enough.0 refl) c.in-Some.ensures.first c.in-Some.ensures.count
    (sym c.read_u64.ensures ∙ c.in-Ok.is) (sym c.read_u64-2.ensures ∙ c.in_default-read_u64-2.is))

use Rattle.std.proofs.Common.{◌+◌, ◌-◌, ◌/◌, ◌^◌, ◌≤◌, ap, Ok, div-le_self, div-mul-le_self, arith}
use Rattle.std.proofs.lemmas.Nat.{le-div}
use Rattle.std.proofs.lemmas.Bool.{le-ltb, ne_eqb}
use Rattle.trace_lines.specs.declared.line.Span.TheVariants.{Blocks}
use Rattle.trace_msr.proofs.blocks.touched.Goals as goal

pub returns-clause-span : goal.returns-clause-span
returns-clause-span c =
    rw (ne_eqb c.args.size 0 c.if-size-eq0.false, le-ltb (2 ^ 64) (c.args.offset + c.args.size) (omega (arith, c.in-Some.ensures.0)))
    (ap (λ end. Ok (Blocks (c.args.offset / c.args.block) (end / c.args.block - c.args.offset / c.args.block + 1) c.args.block)) (omega (arith, c.in-Some.ensures.1, c.if-size-eq0.false)))

pub returns-clause-range : goal.returns-clause-range
returns-clause-range c =
    let start : c.args.offset / c.args.block ≤ c.in-Some.end / c.args.block = le-div (c.args.offset / c.args.block) c.in-Some.end c.args.block c.requires.0 (omega (arith, div-mul-le_self c.args.offset c.args.block, c.in-Some.ensures.1)) in
    let last : c.in-Some.end / c.args.block ≤ c.in-Some.end = div-le_self c.in-Some.end c.args.block in
    (omega arith, omega (arith, start, last, c.in-Some.ensures), c.requires.0, c.requires.1)

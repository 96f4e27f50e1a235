use Rattle.std.proofs.Common.{ap, arith, length}
use Rattle.std.specs.HashMap.{keys}
use Rattle.cache_rules.specs.Stored.{Requests, trace_of}
use Rattle.cache_rules.proofs.Numbers.{few_entries}
use Rattle.cache_rules.proofs.trace.Trace.objects.Goals as goal

pub overflow_cast-result : goal.overflow_cast-result
overflow_cast-result c =
    let inside = c.self.inside in
    omega (arith, c.self.invariant.few, c.len.ensures.len, few_entries (trace_of (keys inside.latest) inside.numbers.items) inside.latest.entries inside.numbers.items inside.previous.items inside.following.items c.self.invariant)

pub returns-clause-no_more : goal.returns-clause-no_more
returns-clause-no_more c =
    let inside = c.self.inside in
    omega (arith, ap length (ap (λ (r : Requests). r.objects) c.self.view_is), c.len.ensures.len, few_entries (trace_of (keys inside.latest) inside.numbers.items) inside.latest.entries inside.numbers.items inside.previous.items inside.following.items c.self.invariant)

pub returns-clause-most : goal.returns-clause-most
returns-clause-most c =
    let inside = c.self.inside in
    omega (arith, c.self.invariant.few, c.len.ensures.len, few_entries (trace_of (keys inside.latest) inside.numbers.items) inside.latest.entries inside.numbers.items inside.previous.items inside.following.items c.self.invariant)

use Rattle.std.proofs.Common.{◌≡◌, Some, slice_get, sym, ap, ◌∙◌}
use Rattle.std.specs.HashMap.{keys}
use Rattle.std.specs.Option.{option_map}
use Rattle.std.specs.Map.Iter.{deref_pair}
use Rattle.cache_rules.specs.Stored.{trace_of}
use Rattle.cache_rules.proofs.Numbers.{entry_sized}
use Rattle.cache_rules.proofs.trace.Trace.object.Goals as goal

pub returns-clause-size : goal.returns-clause-size
returns-clause-size c =
    let inside = c.self.inside in
    let at : slice_get inside.latest.entries c.args.number ≡ Some (c.unwrap.result.0.now, c.unwrap.result.1.now) =
    sym c.get_index.ensures.entry ∙ ap (option_map deref_pair) c.unwrap.ensures in
    entry_sized (trace_of (keys inside.latest) inside.numbers.items) inside.latest.entries inside.numbers.items inside.previous.items inside.following.items c.self.invariant
    c.args.number c.unwrap.result.0.now c.unwrap.result.1.now at

use Rattle.std.proofs.Common.{refl}
use Rattle.relaxation.proofs.Whole.{timeline_weights, whole_iff, chosen_least, chosen_most, most_is_not_whole, past_all, within_not_past}
use Rattle.relaxation.proofs.denominators.denominator_for.Goals as goal

pub has_whole_costs-requires-clause-weights : goal.has_whole_costs-requires-clause-weights
has_whole_costs-requires-clause-weights c = rw c.as_slice-intervals.ensures.items (timeline_weights c.args.intervals.now c.args.unit c.as_slice-intervals.ensures.timeline c.requires.unit c.requires.divides)

pub least_whole-requires-clause-weights : goal.least_whole-requires-clause-weights
least_whole-requires-clause-weights c = rw c.as_slice-intervals.ensures.items (timeline_weights c.args.intervals.now c.args.unit c.as_slice-intervals.ensures.timeline c.requires.unit c.requires.divides)

pub least_whole-requires-in-Auto-clause-weights : goal.least_whole-requires-in-Auto-clause-weights
least_whole-requires-in-Auto-clause-weights c = rw c.as_slice-intervals.ensures.items (timeline_weights c.args.intervals.now c.args.unit c.as_slice-intervals.ensures.timeline c.requires.unit c.requires.divides)

pub returns-in-Given-clause-exact : goal.returns-in-Given-clause-exact
returns-in-Given-clause-exact c =
    rw (c.has_whole_costs.ensures, c.as_slice-intervals.ensures.items) (whole_iff c.args.intervals.now.items c.args.unit c.in-Given.value)

pub returns-in-Ok-clause-exact : goal.returns-in-Ok-clause-exact
returns-in-Ok-clause-exact c = chosen_least c.args.intervals.now.items c.args.unit c.in-Ok.value (rw c.as_slice-intervals.ensures.items at c.in-Ok.ensures.least).0

pub returns-in-Ok-clause-refused : goal.returns-in-Ok-clause-refused
returns-in-Ok-clause-refused c =
    let least = rw c.as_slice-intervals.ensures.items at c.in-Ok.ensures.least in
    (λ no. cc, λ past. within_not_past c.args.intervals.now.items c.args.unit c.in-Ok.value least.0 least.1 past.1)

pub returns-in-Err-clause-refused : goal.returns-in-Err-clause-refused
returns-in-Err-clause-refused c =
    let first = rw c.as_slice-intervals.ensures.items at c.in-Err.ensures.limit in
    let weights = timeline_weights c.args.intervals.now c.args.unit c.as_slice-intervals.ensures.timeline c.requires.unit c.requires.divides in
    (λ _. (c.in-Exact.is, past_all c.args.intervals.now.items c.args.unit c.in-Err.limit.intervals weights first.past), λ _. refl)

pub returns-in-Ok-least_whole-clause-exact : goal.returns-in-Ok-least_whole-clause-exact
returns-in-Ok-least_whole-clause-exact c =
    chosen_least c.args.intervals.now.items c.args.unit c.in-Ok-least_whole.value (rw c.as_slice-intervals.ensures.items at c.in-Ok-least_whole.ensures.least).0

pub returns-in-Err-least_whole-clause-value : goal.returns-in-Err-least_whole-clause-value
returns-in-Err-least_whole-clause-value c =
    let first = rw c.as_slice-intervals.ensures.items at c.in-Err-least_whole.ensures.limit in
    let weights = timeline_weights c.args.intervals.now c.args.unit c.as_slice-intervals.ensures.timeline c.requires.unit c.requires.divides in
    rw c.in-Auto.is (chosen_most c.args.intervals.now.items c.args.unit c.in-Err-least_whole.field-0.intervals weights first)

pub returns-in-Err-least_whole-clause-exact : goal.returns-in-Err-least_whole-clause-exact
returns-in-Err-least_whole-clause-exact c =
    let first = rw c.as_slice-intervals.ensures.items at c.in-Err-least_whole.ensures.limit in
    let weights = timeline_weights c.args.intervals.now c.args.unit c.as_slice-intervals.ensures.timeline c.requires.unit c.requires.divides in
    most_is_not_whole c.args.intervals.now.items c.args.unit c.in-Err-least_whole.field-0.intervals weights first

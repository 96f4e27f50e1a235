use Rattle.replay_core.proofs.Kept.{fit-sound}
use Rattle.replay_core.proofs.Leavings.{plain-left}
use Rattle.replay_rank.specs.AgingEntries.{entries_of, name_of}
use Rattle.replay_rank.proofs.AgingAnswers.{keeping, one_list, aging-gone, aging-entries, aging-ordered, aging-left}
use Rattle.std.proofs.Common.{heap_items}
use Rattle.replay_rank.proofs.aging.Aging.leave.Goals as goal

pub overflow_sub-self : goal.overflow_sub-self
overflow_sub-self c = aging-gone c.self.inside.capacity c.self.inside.used c.self.inside.holdings (heap_items c.self.inside.order) c.self.invariant c.args.object c.take.result c.take.ensures.size

pub invariant_of-self : goal.invariant_of-self
invariant_of-self c =
    aging-left c.self.inside.capacity c.self.inside.used c.self.inside.holdings (heap_items c.self.inside.order) c.self.invariant c.args.object c.take.result c.take.ensures.size c.take.new.self c.take.ensures.rest
    (heap_items c.throw_away-self-inside.new.order) c.throw_away-self-inside.ensures.ordered

pub returns-clause-rest : goal.returns-clause-rest
returns-clause-rest c = λ by.
    plain-left (name_of by) (one_list by) (keeping c.self.inside.objects c.self.inside.capacity c.self.inside.requests c.self.inside.floor (entries_of c.self.inside.holdings)) c.args.self.now c.args.object
    (entries_of c.take.new.self) c.self.view_is
    (aging-entries c.self.inside.capacity c.self.inside.used c.self.inside.holdings (heap_items c.self.inside.order) c.self.invariant c.args.object c.take.result c.take.ensures.size c.take.new.self c.take.ensures.rest)

pub returns-clause-fits : goal.returns-clause-fits
returns-clause-fits c = fit-sound c.self.inside.capacity (entries_of c.take.new.self) (invariant_of-self c).fits

pub throw_away-self-inside-requires : goal.throw_away-self-inside-requires
throw_away-self-inside-requires c = record { ordered = aging-ordered c.self.inside.capacity c.self.inside.used c.self.inside.holdings (heap_items c.self.inside.order) c.self.invariant c.args.object c.take.result c.take.ensures.size c.take.new.self c.take.ensures.rest }

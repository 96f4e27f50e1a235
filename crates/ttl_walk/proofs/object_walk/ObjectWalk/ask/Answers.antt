use Rattle.std.proofs.Common.{◌≡◌, ◌+◌, ◌-◌, ◌≤◌, sym, subst}
use Rattle.ttl_walk.specs.Queue.{IsQueue}
use Rattle.ttl_walk.specs.Kept.{Kept, IsInOrder, StandsFor, latest_clock}
use Rattle.ttl_walk.specs.Requests.{walk_on}
use Rattle.ttl_walk.proofs.Queues.{queue-going_on}
use Rattle.ttl_walk.proofs.Asking.{kept_after, after-stands, after-top, after-clock, after-order, made-after}
use Rattle.ttl_walk.proofs.object_walk.ObjectWalk.ask.Goals as goal
use Rattle.ttl_walk.proofs.object_walk.ObjectWalk.ask.Goals.{After-join}

pub join-requires-clause-queue : goal.join-requires-clause-queue
join-requires-clause-queue c =
    subst IsQueue (sym c.go_on.ensures.items)
    (queue-going_on c.args.asked.fills c.args.ttl c.args.asked.clock c.make_room.new.starts.items
    (subst IsQueue (sym c.make_room.ensures.same) c.self.invariant.starts))

-- what was kept before, and what the request asks of it
abbrev old : After-join → Kept
old c = record { level = c.self.inside.level; top = c.self.inside.top; starts = c.self.inside.starts.items }

late : (c : After-join) → latest_clock (old c) ≤ c.args.asked.clock
late c = subst (λ k. latest_clock k ≤ c.args.asked.clock) (sym c.self.view_is) c.requires.clock

paid : (c : After-join) → (old c).top + c.args.asked.priced ≤ (old c).level
paid c = subst (λ (k : Kept). k.top + c.args.asked.priced ≤ k.level) (sym c.self.view_is) c.requires.priced

-- what is kept now
abbrev new : After-join → Kept
new c = record { level = (c.self.inside.level - c.args.asked.priced) + c.args.asked.gain; top = c.max-self-inside.result; starts = c.join.new.starts.items }

made : (c : After-join) → kept_after c.args.asked.fills c.args.ttl c.args.asked.clock c.args.asked.gain c.args.asked.priced (old c) ≡ new c
made c =
    made-after c.args.asked.fills c.args.ttl c.args.asked.clock c.args.asked.gain c.args.asked.priced (old c) c.make_room.new.starts.items
    c.go_on.new.starts.items c.join.new.starts.items c.first_worth.result c.max-self-inside.result c.make_room.ensures.same
    c.go_on.ensures.items c.first_worth.ensures c.max-self-inside.ensures c.join.ensures

pub invariant_of-self-2 : goal.invariant_of-self-2
invariant_of-self-2 c =
    subst IsInOrder (made c)
    (after-order c.args.asked.fills c.args.ttl c.args.asked.clock c.args.asked.gain c.args.asked.priced (old c) c.self.invariant (late c) (paid c))

pub returns-clause-walk : goal.returns-clause-walk
returns-clause-walk c w stands =
    subst (λ k. StandsFor k (walk_on c.args.ttl w c.args.asked)) (made c)
    (after-stands c.args.asked.fills c.args.ttl c.args.asked.clock c.args.asked.gain c.args.asked.priced (old c) c.self.invariant (late c) (paid c) w
    (subst (λ k. StandsFor k w) (sym c.self.view_is) stands))

pub returns-clause-top : goal.returns-clause-top
returns-clause-top c =
    subst (λ (k : Kept). c.max-self-inside.result ≤ k.top + c.args.asked.gain) c.self.view_is
    (subst (λ (k : Kept). k.top ≤ (old c).top + c.args.asked.gain) (made c)
    (after-top c.args.asked.fills c.args.ttl c.args.asked.clock c.args.asked.gain c.args.asked.priced (old c) c.self.invariant (late c) (paid c)))

pub returns-clause-clock : goal.returns-clause-clock
returns-clause-clock c =
    subst (λ k. latest_clock k ≡ c.args.asked.clock) (made c)
    (after-clock c.args.asked.fills c.args.ttl c.args.asked.clock c.args.asked.gain c.args.asked.priced (old c) c.self.invariant (late c) (paid c))

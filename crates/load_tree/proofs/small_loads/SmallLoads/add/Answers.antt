use Rattle.std.proofs.Common.{ℕ, ◌<◌, ◌≤◌, ◌-◌, ◌^◌, ◌++◌, ap, sym, subst, length, take, drop, get_or, arith}
use Rattle.std.proofs.lemmas.List.{take_at}
use Rattle.load_tree.proofs.Listed.{adds_over, at_loads, length-loads_in, small_after}
use Rattle.load_tree.specs.Levels.{IsLevels, load_at, loads_in}
use Rattle.load_tree.specs.Ranges.{AddsOver}
use Rattle.load_tree.proofs.small_loads.SmallLoads.add.Goals as goal

pub raise-requires-clause-within : goal.raise-requires-clause-within
raise-requires-clause-within c = omega (arith, ap length c.self.view_is, length-loads_in c.self.inside.height c.self.inside.steps c.self.inside.values.items, c.requires.within)

pub raise-requires-clause-low_room : goal.raise-requires-clause-low_room
raise-requires-clause-low_room c = omega (arith, c.requires.room c.args.from (omega arith) (omega arith), ap (λ ls. get_or ls c.args.from 0) c.self.view_is, at_loads c.self.inside.height c.self.inside.steps c.self.inside.values.items c.args.from (omega (arith, ap length c.self.view_is, length-loads_in c.self.inside.height c.self.inside.steps c.self.inside.values.items, c.requires.within)), ap (λ vs. load_at c.self.inside.height 0 c.self.inside.steps vs c.args.from) c.deref_mut.ensures.value)

pub raise-requires-clause-high_room : goal.raise-requires-clause-high_room
raise-requires-clause-high_room c = λ apart. omega (arith, c.requires.room (c.args.to - 1) (omega arith) (omega arith), ap (λ ls. get_or ls (c.args.to - 1) 0) c.self.view_is, at_loads c.self.inside.height c.self.inside.steps c.self.inside.values.items (c.args.to - 1) (omega (arith, ap length c.self.view_is, length-loads_in c.self.inside.height c.self.inside.steps c.self.inside.values.items, c.requires.within)), ap (λ vs. load_at c.self.inside.height 0 c.self.inside.steps vs (c.args.to - 1)) c.deref_mut.ensures.value)

pub raise-requires-clause-room : goal.raise-requires-clause-room
raise-requires-clause-room c = λ t first last. omega (arith, c.requires.room t (omega arith) (omega arith), ap (λ ls. get_or ls t 0) c.self.view_is, at_loads c.self.inside.height c.self.inside.steps c.self.inside.values.items t (omega (arith, ap length c.self.view_is, length-loads_in c.self.inside.height c.self.inside.steps c.self.inside.values.items, c.requires.within)), ap (λ vs. load_at c.self.inside.height 0 c.self.inside.steps vs t) c.deref_mut.ensures.value)

pub invariant_of-self : goal.invariant_of-self
invariant_of-self c =
    let whole = take_at c.raise.new.values (drop (length c.raise.new.values) c.self.inside.values.items) c.self.inside.values.len (omega (arith, c.raise.auto.values, c.deref_mut.ensures.len)) in
    subst (λ vs. IsLevels c.self.inside.height 0 c.self.inside.steps vs × ((t : ℕ) → t < c.self.inside.steps → load_at c.self.inside.height 0 c.self.inside.steps vs t < 2 ^ 64)) (sym whole) (
      c.raise.ensures.levels,
      small_after (load_at c.self.inside.height 0 c.self.inside.steps c.deref_mut.result.now) (load_at c.self.inside.height 0 c.self.inside.steps c.raise.new.values) c.self.inside.steps c.args.from c.args.amount (c.args.to - 1) c.args.amount c.args.amount (2 ^ 64) c.raise.ensures.loads
          (λ t short. omega (arith, c.self.invariant.1 t short, ap (λ vs. load_at c.self.inside.height 0 c.self.inside.steps vs t) c.deref_mut.ensures.value))
          (omega (arith, c.requires.room c.args.from (omega arith) (omega arith), ap (λ ls. get_or ls c.args.from 0) c.self.view_is, at_loads c.self.inside.height c.self.inside.steps c.self.inside.values.items c.args.from (omega (arith, ap length c.self.view_is, length-loads_in c.self.inside.height c.self.inside.steps c.self.inside.values.items, c.requires.within)), ap (λ vs. load_at c.self.inside.height 0 c.self.inside.steps vs c.args.from) c.deref_mut.ensures.value))
          (λ apart. omega (arith, c.requires.room (c.args.to - 1) (omega arith) (omega arith), ap (λ ls. get_or ls (c.args.to - 1) 0) c.self.view_is, at_loads c.self.inside.height c.self.inside.steps c.self.inside.values.items (c.args.to - 1) (omega (arith, ap length c.self.view_is, length-loads_in c.self.inside.height c.self.inside.steps c.self.inside.values.items, c.requires.within)), ap (λ vs. load_at c.self.inside.height 0 c.self.inside.steps vs (c.args.to - 1)) c.deref_mut.ensures.value))
          (λ t first last. omega (arith, c.requires.room t (omega arith) (omega arith), ap (λ ls. get_or ls t 0) c.self.view_is, at_loads c.self.inside.height c.self.inside.steps c.self.inside.values.items t (omega (arith, ap length c.self.view_is, length-loads_in c.self.inside.height c.self.inside.steps c.self.inside.values.items, c.requires.within)), ap (λ vs. load_at c.self.inside.height 0 c.self.inside.steps vs t) c.deref_mut.ensures.value)),
    )

pub returns : goal.returns
returns c =
    let whole = take_at c.raise.new.values (drop (length c.raise.new.values) c.self.inside.values.items) c.self.inside.values.len (omega (arith, c.raise.auto.values, c.deref_mut.ensures.len)) in
    let within : c.args.to ≤ c.self.inside.steps = omega (arith, ap length c.self.view_is, length-loads_in c.self.inside.height c.self.inside.steps c.self.inside.values.items, c.requires.within) in
    subst (λ ls. AddsOver ls (loads_in c.self.inside.height c.self.inside.steps (take c.self.inside.values.len (c.raise.new.values ++ drop (length c.raise.new.values) c.self.inside.values.items))) c.args.from c.args.to c.args.amount) c.self.view_is
    (subst (λ vs. AddsOver (loads_in c.self.inside.height c.self.inside.steps vs) (loads_in c.self.inside.height c.self.inside.steps (take c.self.inside.values.len (c.raise.new.values ++ drop (length c.raise.new.values) c.self.inside.values.items))) c.args.from c.args.to c.args.amount) c.deref_mut.ensures.value
    (subst (λ vs. AddsOver (loads_in c.self.inside.height c.self.inside.steps c.deref_mut.result.now) (loads_in c.self.inside.height c.self.inside.steps vs) c.args.from c.args.to c.args.amount) (sym whole)
    (adds_over c.self.inside.height c.self.inside.steps c.deref_mut.result.now c.raise.new.values c.args.from c.args.to c.args.amount c.requires.order within c.raise.ensures.loads)))

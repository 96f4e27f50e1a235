use Rattle.std.proofs.Common.{◌≡◌, ◌∙◌, ◌+◌, ◌^◌, ◌≤◌, ℕ, Bool, List, length, ap, arith, subst, sym, slice_index}
use Rattle.flow_model.specs.Instances.{Instance, IsInstance}
use Rattle.flow_sparse.specs.States.{State, first_sum}
use Rattle.flow_sparse.specs.Contractions.{IsNumbering, contracted}
use Rattle.flow_sparse.specs.Rooms.{IsAtRest}
use Rattle.flow_sparse.proofs.Numbered.{few, rises}
use Rattle.flow_sparse.proofs.Rested.{rests, steps_fall, written_all}
use Rattle.flow_sparse.proofs.rounds.run_round.Goals as goal

-- the numbering, over the steps of the instance
numbered : (whole : Instance) (given opens : List Bool) (nodes steps_of : List ℕ) (count : ℕ) → given ≡ opens → length opens ≡ whole.steps → IsNumbering (length given) given nodes steps_of count → IsNumbering whole.steps opens nodes steps_of count
numbered whole given opens nodes steps_of count own each is =
    subst (λ (n : ℕ). IsNumbering n opens nodes steps_of count) each (subst (λ (os : List Bool). IsNumbering (length os) os nodes steps_of count) own is)

-- there are no more nodes than steps
few_open : (whole : Instance) (given opens : List Bool) (nodes steps_of : List ℕ) (count : ℕ) → IsInstance whole → given ≡ opens → length opens ≡ whole.steps → IsNumbering (length given) given nodes steps_of count → count ≤ 2 ^ 25
few_open whole given opens nodes steps_of count fits own each is =
    let all = numbered whole given opens nodes steps_of count own each is in
    omega (arith, all.last, few whole.steps opens nodes steps_of count all whole.steps (omega arith), fits.few_steps)

pub make_room-requires : goal.make_room-requires
make_room-requires c =
    few_open c.args.instance.now c.deref.result.now c.args.work.now.opens.items c.number-count.new.nodes c.number-count.new.steps_of c.number-count.result c.requires.fits c.deref.ensures.value c.requires.each c.number-count.ensures.numbers

pub new-requires : goal.new-requires
new-requires c =
    few_open c.args.instance.now c.deref.result.now c.args.work.now.opens.items c.number-count.new.nodes c.number-count.new.steps_of c.number-count.result c.requires.fits c.deref.ensures.value c.requires.each c.number-count.ensures.numbers

pub write_prices-requires-clause-within : goal.write_prices-requires-clause-within
write_prices-requires-clause-within c = λ t h.
    let whole : Instance = c.args.instance.now in
    let opens : List Bool = c.args.work.now.opens.items in
    let is = numbered whole c.deref.result.now c.args.work.now.opens.items c.number-count.new.nodes c.number-count.new.steps_of c.number-count.result c.deref.ensures.value c.requires.each c.number-count.ensures.numbers in
    let nodes_are : c.deref-7.result.now ≡ c.number-count.new.nodes = c.deref-7.ensures.value ∙ written_all c.args.work.now.nodes.items c.number-count.new.nodes c.args.work.now.nodes.len (omega (arith, c.number-count.ensures.each_time, ap length c.deref_mut.ensures.value)) (omega (arith, c.args.work.now.nodes.ok.0)) in
    omega (
      arith,
      rises whole.steps opens c.number-count.new.nodes c.number-count.new.steps_of c.number-count.result is t whole.steps
          (omega (arith, h, ap length nodes_are, c.number-count.ensures.each_time, ap length c.deref_mut.ensures.value, c.requires.room.nodes_fit)) (omega arith),
      ap (λ xs. slice_index xs t) nodes_are,
      is.last,
      c.in_ok-repair.ensures.lengths.potentials,
      c.open.ensures.room.potentials,
    )

pub write_prices-requires-clause-falls : goal.write_prices-requires-clause-falls
write_prices-requires-clause-falls c = λ t h.
    let whole : Instance = c.args.instance.now in
    let s : State = c.repair.new.network in
    let is = numbered whole c.deref.result.now c.args.work.now.opens.items c.number-count.new.nodes c.number-count.new.steps_of c.number-count.result c.deref.ensures.value c.requires.each c.number-count.ensures.numbers in
    let written = written_all c.args.work.now.nodes.items c.number-count.new.nodes c.args.work.now.nodes.len (omega (arith, c.number-count.ensures.each_time, ap length c.deref_mut.ensures.value)) (omega (arith, c.args.work.now.nodes.ok.0)) in
    let nodes_are : c.deref-7.result.now ≡ c.number-count.new.nodes = c.deref-7.ensures.value ∙ written in
    let same = c.in_ok-repair.ensures.lengths.instance ∙ c.open.ensures.same ∙ ap (λ xs. contracted whole xs c.number-count.result) (c.deref-5.ensures.value ∙ written) in
    subst (λ (xs : List ℕ). slice_index s.potentials (slice_index xs (t + 1)) ≤ slice_index s.potentials (slice_index xs t)) (sym nodes_are)
    (steps_fall whole c.args.work.now.opens.items c.number-count.new.nodes c.number-count.new.steps_of c.number-count.result s is same c.in_ok-repair.ensures.ready t
    (omega (arith, h, ap length c.deref_mut-4.ensures.value, c.requires.slack.each_step)))

pub returns-clause-rests : goal.returns-clause-rests
returns-clause-rests c =
    let whole : Instance = c.args.instance.now in
    let opens : List Bool = c.args.work.now.opens.items in
    let s : State = c.repair.new.network in
    let old : List ℕ = c.args.work.now.prices.items in
    let prices : List ℕ = c.write_prices.new.prices in
    let is = numbered whole c.deref.result.now c.args.work.now.opens.items c.number-count.new.nodes c.number-count.new.steps_of c.number-count.result c.deref.ensures.value c.requires.each c.number-count.ensures.numbers in
    let written = written_all c.args.work.now.nodes.items c.number-count.new.nodes c.args.work.now.nodes.len (omega (arith, c.number-count.ensures.each_time, ap length c.deref_mut.ensures.value)) (omega (arith, c.args.work.now.nodes.ok.0)) in
    let nodes_are : c.deref-7.result.now ≡ c.number-count.new.nodes = c.deref-7.ensures.value ∙ written in
    let same = c.in_ok-repair.ensures.lengths.instance ∙ c.open.ensures.same ∙ ap (λ xs. contracted whole xs c.number-count.result) (c.deref-5.ensures.value ∙ written) in
    let long : length prices ≡ length old = c.write_prices.ensures.each_step ∙ ap length c.deref_mut-4.ensures.value in
    let prices_are = written_all old prices c.args.work.now.prices.len long (omega (arith, c.args.work.now.prices.ok.0)) in
    subst (λ (xs : List ℕ). IsAtRest whole opens xs s.flows.outer) (sym prices_are)
    (rests whole opens c.number-count.new.nodes c.number-count.new.steps_of c.number-count.result prices s c.requires.fits is c.requires.each same c.in_ok-repair.ensures.ready
    (ap (λ (i : Instance). first_sum s.excess (i.steps + 1)) c.in_ok-repair.ensures.lengths.instance ∙ c.in_ok-repair.ensures.none) (long ∙ c.requires.slack.each_step)
    (λ t h. subst (λ (xs : List ℕ). slice_index prices t + slice_index s.potentials (slice_index xs (t + 1)) ≡ slice_index s.potentials (slice_index xs t)) nodes_are (c.write_prices.ensures.falls t (omega (arith, h, ap length c.deref_mut-4.ensures.value, c.requires.slack.each_step)))))

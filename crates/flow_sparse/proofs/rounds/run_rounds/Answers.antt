use Rattle.std.proofs.Common.{◌≡◌, ◌∙◌, ℕ, Bool, List, length, arith, ap, subst, slice_index}
use Rattle.flow_model.specs.Instances.{Instance}
use Rattle.flow_sparse.specs.Starts.{AreFitted}
use Rattle.flow_sparse.proofs.Fitted.{slack_fitted, small_fitted, shut_priced, room_fitted}
use Rattle.flow_sparse.proofs.Rested.{written_all}
use Rattle.flow_sparse.proofs.rounds.run_rounds.Goals as goal

pub write_loads-requires-clause-small : goal.write_loads-requires-clause-small
write_loads-requires-clause-small c =
    small_fitted c.args.instance.now c.deref-3.result.now c.fit.new.self.flows.outer c.requires.fits (c.fit.ensures.each ∙ c.requires.room.sized.outer) c.fit.ensures.fitted

pub run_round-requires-clause-room : goal.run_round-requires-clause-room
run_round-requires-clause-room c =
    room_fitted c.args.instance.now c.args.work.now.network c.fit.new.self (length c.args.work.now.nodes.items) (length c.args.work.now.steps_of.items) c.requires.room c.fit.ensures.rest c.fit.ensures.each

pub run_round-requires-clause-slack : goal.run_round-requires-clause-slack
run_round-requires-clause-slack c =
    let whole : Instance = c.args.instance.now in
    let prices : List ℕ = c.cut_prices.new.prices in
    let falls : List ℕ = c.write_falls.new.falls in
    let flows : List ℕ = c.fit.new.self.flows.outer in
    let prices_are = written_all c.args.work.now.prices.items prices c.args.work.now.prices.len (c.cut_prices.ensures.each ∙ ap length c.deref_mut.ensures.value) (omega (arith, c.args.work.now.prices.ok.0)) in
    let falls_are = written_all c.args.work.now.loads.items falls c.args.work.now.loads.len (c.write_falls.ensures.each ∙ ap length c.deref_mut-3.ensures.value) (omega (arith, c.args.work.now.loads.ok.0)) in
    let long : length prices ≡ whole.steps = c.cut_prices.ensures.each ∙ ap length c.deref_mut.ensures.value ∙ c.requires.each_step in
    let given : c.deref-2.result.now ≡ prices = c.deref-2.ensures.value ∙ prices_are in
    rw prices_are
    (slack_fitted whole prices falls flows c.requires.fits long (c.fit.ensures.each ∙ c.requires.room.sized.outer)
    (λ t h. omega (arith, c.write_falls.ensures.falls t (omega (arith, h, ap length given)), ap (λ xs. slice_index xs t) given))
    (subst (λ (xs : List ℕ). AreFitted whole xs flows) (c.deref-3.ensures.value ∙ falls_are) c.fit.ensures.fitted))

pub run_round-requires-clause-shut : goal.run_round-requires-clause-shut
run_round-requires-clause-shut c =
    let whole : Instance = c.args.instance.now in
    let prices : List ℕ = c.cut_prices.new.prices in
    let opens : List Bool = c.open_priced.new.opens in
    let prices_are = written_all c.args.work.now.prices.items prices c.args.work.now.prices.len (c.cut_prices.ensures.each ∙ ap length c.deref_mut.ensures.value) (omega (arith, c.args.work.now.prices.ok.0)) in
    let opens_are = written_all c.args.work.now.opens.items opens c.args.work.now.opens.len (c.open_priced.ensures.each ∙ ap length c.deref_mut-2.ensures.value) (omega (arith, c.args.work.now.opens.ok.0)) in
    let long : length prices ≡ whole.steps = c.cut_prices.ensures.each ∙ ap length c.deref_mut.ensures.value ∙ c.requires.each_step in
    let given : c.deref.result.now ≡ prices = c.deref.ensures.value ∙ prices_are in
    rw (prices_are, opens_are)
    (shut_priced whole opens prices long
    (λ t h is_shut. omega (arith, c.open_priced.ensures.shut t (omega (arith, h, ap length c.deref_mut-2.ensures.value, c.requires.each_open)) is_shut, ap (λ xs. slice_index xs t) given)))

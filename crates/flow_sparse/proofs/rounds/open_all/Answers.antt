use Rattle.std.proofs.Common.{◌≡◌, ◌∙◌, ℕ, List, Bool, true, false, subst, sym}
use Rattle.std.specs.Prelude.{IsTrue}
use Rattle.flow_model.specs.Instances.{Instance}
use Rattle.flow_sparse.specs.Rooms.{IsAtRest}
use Rattle.flow_sparse.proofs.Rested.{solved}
use Rattle.flow_sparse.proofs.rounds.open_all.Goals as goal

not_true : (b : Bool) → b ≡ false → IsTrue b → ⊥
not_true b off on = at (sym on ∙ off)
  where
    at : true ≡ false → ⊥
    at e = absurd (cc)

pub returns : goal.returns
returns c =
    let more = c.open_more.ensures in
    let none : IsTrue c.open_more.result → ⊥ = not_true c.open_more.result c.loop-alloc-test.false in
    let whole : Instance = c.args.instance.now in
    let prices : List ℕ = c.loop-alloc.work.prices.items in
    let flows : List ℕ = c.loop-alloc.work.network.flows.outer in
    solved whole c.open_more.new.opens prices flows c.requires.fits
    (subst (λ (opens : List Bool). IsAtRest whole opens prices flows) (sym (more.same none ∙ c.deref_mut.ensures.value)) c.loop-alloc.invariant.rests) (more.fit none)

-- What a solver works on.
use Rattle.std.specs.Prelude.{◌≡◌, ℕ, ◌+◌, ◌≤◌, Bool, List, length}
use Rattle.flow_model.specs.Instances.{Instance}
use Rattle.flow_sparse.specs.States.{State}
use Rattle.flow_sparse.specs.Contractions.{AreFull, AreOpen, IsSized, IsSlack}

-- there is room for all steps and arcs
pub record HasRoom (whole : Instance) (state : State) (nodes steps_of : ℕ) : Type 0 where
  pub sized : IsSized whole state
  pub nodes_fit : nodes ≡ whole.steps + 1
  pub steps_fit : whole.steps ≤ steps_of

-- prices and flows suit each other, and the open steps are full where they have a price
pub record IsAtRest (whole : Instance) (opens : List Bool) (prices flows : List ℕ) : Type 0 where
  pub each_step : length opens ≡ whole.steps
  pub slack : IsSlack whole prices flows
  pub full : AreFull whole opens prices flows
  pub shut : AreOpen opens prices

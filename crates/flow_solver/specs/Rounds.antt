-- What a round of the solver does.
use Rattle.std.specs.Prelude.{◌≡◌, ◌<◌, ◌≤◌}
use Rattle.flow_network.specs.States.{State}
use Rattle.flow_solver.specs.Searches.{IsReady}

-- units were pushed over the same instance, and the network is ready again
pub record Advances (old new : State) : Type 0 where
  pub ready : IsReady new
  pub same : new.instance ≡ old.instance
  pub pushed : old.pushed < new.pushed

-- the network is ready again over the same instance, and no unit was taken back
pub record Keeps (old new : State) : Type 0 where
  pub ready : IsReady new
  pub same : new.instance ≡ old.instance
  pub pushed : old.pushed ≤ new.pushed

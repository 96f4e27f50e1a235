-- What a solver begins with.
use Rattle.std.specs.Prelude.{◌≡◌, ℕ, ◌<◌, List, length, replicate, slice_index}
use Rattle.flow_model.specs.Instances.{Instance, IsInstance}
use Rattle.flow_parts.specs.OuterEdges.{Lists, AreListed}
use Rattle.flow_uniform.specs.Uniform.{IsUniform}
use Rattle.flow_uniform.specs.Holdings.{Holding, IsHeld}

-- the arcs cost nothing or the one cost and are listed, and none has flow, was cut or has a price over it
pub record IsAtStart (instance : Instance) (cost : ℕ) (lists : Lists) (holding : Holding) (cuts prices : List ℕ) : Type 0 where
  pub dear : 0 < cost
  pub uniform : IsUniform cost instance.arcs
  pub fits : IsInstance instance
  pub edges : AreListed instance lists (length instance.arcs)
  pub held : IsHeld instance holding (length instance.arcs)
  pub unused : (i : ℕ) → slice_index holding.flows i ≡ 0
  pub each_step : length cuts ≡ instance.steps
  pub uncut : (t : ℕ) → slice_index cuts t ≡ 0
  pub unpriced : prices ≡ replicate instance.steps 0

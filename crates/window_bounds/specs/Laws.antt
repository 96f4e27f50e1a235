-- What is proved of windows.
use Rattle.std.specs.Prelude.{◌≡◌, ℕ, ◌≤◌}
use Rattle.flow_model.specs.Instances.{Instance, IsInstance}
use Rattle.flow_model.specs.Windows.{window_instance}

-- the first window, if it is at least as wide as the steps, is the whole instance
abbrev pub OneWindowIsWhole : Type 0
OneWindowIsWhole = (whole : Instance) (width : ℕ) → whole.steps ≤ width → IsInstance whole → window_instance whole width 0 ≡ whole

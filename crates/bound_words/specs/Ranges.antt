-- The ranges of what is asked for.
use Rattle.std.specs.Prelude.{◌^◌, ◌≤◌}
use Rattle.cache_model.specs.declared.version.TheConstants.{CERT_VERSION, SHORT_VERSION}
use Rattle.relaxation.specs.Denominators.{IsChoice}
use Rattle.bound_terms.specs.declared.modes.Mode.{Mode}
use Rattle.bound_terms.specs.declared.modes.Mode.TheVariants.{Flow, Constant, Infinite}
use Rattle.bound_terms.specs.declared.modes.Window.TheVariants.{Steps, All as Whole}
use Rattle.bound_words.specs.declared.plans.BoundSettings.TheInside.{Inside as BoundFields}
use Rattle.bound_words.specs.declared.plans.ReplaySettings.TheInside.{Inside as ReplayFields}
use Rattle.bound_words.specs.declared.plans.DrawSettings.TheInside.{Inside as DrawFields}

-- a window has a step, and at most 2^25 steps
abbrev pub IsModeInRange : Mode → Type 0
IsModeInRange (Flow Whole) = Unit {0}
IsModeInRange (Flow (Steps width)) = (1 ≤ width) × (width ≤ 2 ^ 25)
IsModeInRange Constant = Unit {0}
IsModeInRange Infinite = Unit {0}

-- the settings of bounds are in their ranges
pub record AreBoundSettingsInRange (s : BoundFields) : Type 0 where
  pub capacity : (1 ≤ s.terms.capacity) × (s.terms.capacity ≤ 2 ^ 56)
  pub warmup : s.terms.warmup ≤ 2 ^ 25
  pub mode : IsModeInRange s.mode
  pub denominator : IsChoice s.denominator
  pub version : (CERT_VERSION ≤ s.version) × (s.version ≤ SHORT_VERSION)

-- the settings of a replay are in their ranges
pub record AreReplaySettingsInRange (s : ReplayFields) : Type 0 where
  pub capacity : (1 ≤ s.capacity) × (s.capacity ≤ 2 ^ 56)
  pub warmup : s.warmup ≤ 2 ^ 25

-- the settings of a drawn trace are in their ranges
pub record AreDrawSettingsInRange (s : DrawFields) : Type 0 where
  pub requests : (1 ≤ s.requests) × (s.requests ≤ 2 ^ 25)
  pub objects : (1 ≤ s.objects) × (s.objects ≤ 2 ^ 25)

-- What holds of the hits of every curve; each law is the contract of a function.
use Rattle.std.specs.Prelude.{◌≡◌, ℕ, ◌-◌, ◌<◌, ◌≤◌, Bool, List, length}
use Rattle.cache_model.specs.declared.objects.Object.{Object}
use Rattle.cache_model.specs.Objects.{objects_of}
use Rattle.stack_curve.specs.Distances.{curve_hits}

-- the hits of a curve: none at 0 slots, never fewer with more slots, and the same from as many slots as objects on
pub record IsSteady (trace : List Object) (fills : List Bool) : Type 0 where
  pub none_at_first : curve_hits trace fills 0 ≡ 0
  pub never_fall : (slots more : ℕ) → slots ≤ more → curve_hits trace fills slots ≤ curve_hits trace fills more
  pub stay : (slots : ℕ) → length (objects_of trace) ≤ slots → curve_hits trace fills slots ≡ curve_hits trace fills (length (objects_of trace))

-- what is said above holds of every trace
abbrev pub CurveIsSteady : Type 0
CurveIsSteady = (trace : List Object) (fills : List Bool) → IsSteady trace fills

-- this many slots have no more hits than one slot less
abbrev pub AddsNone : List Object → List Bool → ℕ → Type 0
AddsNone trace fills slots = curve_hits trace fills slots ≤ curve_hits trace fills (slots - 1)

-- two numbers of slots have the same hits if none after the one, up to the other and to the number of objects, adds any
abbrev pub HitsStayBetweenLines : Type 0
HitsStayBetweenLines =
    (trace : List Object) (fills : List Bool) (slots more : ℕ)
    → slots ≤ more
    → ((n : ℕ) → slots < n → n ≤ more → n ≤ length (objects_of trace) → AddsNone trace fills n)
    → curve_hits trace fills more ≡ curve_hits trace fills slots

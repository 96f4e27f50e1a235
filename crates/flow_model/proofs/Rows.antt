-- The definitions at small instances, computed. The numbers were worked out by hand.
use Rattle.std.proofs.Common.{◌≡◌, ℕ, [], ◌∷◌, map, refl}
use Rattle.flow_model.specs.declared.arcs.OuterArc.{OuterArc}
use Rattle.flow_model.specs.Instances.{Instance, value_at, total_cost, load_at, whole_instance}
use Rattle.flow_model.specs.Windows.{window_instance}

abbrev arc : ℕ → ℕ → ℕ → ℕ → OuterArc
arc a b w c = record { start = a; end = b; weight = w; cost = c }

-- six steps and three arcs of three steps, of weight and cost 1, each beginning a step later
abbrev three : Instance
three = record { steps = 6; units = 2; arcs = arc 0 3 1 1 ∷ arc 1 4 1 1 ∷ arc 2 5 1 1 ∷ [] }

value_of_three : value_at three (0 ∷ 0 ∷ 1 ∷ 0 ∷ 0 ∷ 0 ∷ []) ≡ 2
value_of_three = refl

-- the first and last arc, full
cost_of_three : total_cost three.arcs (1 ∷ 0 ∷ 1 ∷ []) ≡ 2
cost_of_three = refl

loads_of_three : map (load_at three.arcs (1 ∷ 0 ∷ 1 ∷ [])) (0 ∷ 1 ∷ 2 ∷ 3 ∷ 4 ∷ 5 ∷ 6 ∷ []) ≡ 1 ∷ 1 ∷ 2 ∷ 1 ∷ 1 ∷ 0 ∷ 0 ∷ []
loads_of_three = refl

-- in windows of three steps the shares of the arcs that are cut are rounded down, and the last part costs the rest
first_window : window_instance three 3 0 ≡ record { steps = 3; units = 2; arcs = arc 0 3 1 1 ∷ arc 1 3 1 0 ∷ arc 2 3 1 0 ∷ [] }
first_window = refl

second_window : window_instance three 3 1 ≡ record { steps = 3; units = 2; arcs = arc 0 1 1 1 ∷ arc 0 2 1 1 ∷ [] }
second_window = refl

-- one window at least as wide as the steps is the whole
one_window : window_instance three 6 0 ≡ three
one_window = refl

-- in the first window the price that is best over all steps has the value 2, and zero prices have 1
three_values : value_at (window_instance three 3 0) (0 ∷ 0 ∷ 1 ∷ []) ≡ 2
three_values = refl

zero_value : value_at (window_instance three 3 0) (0 ∷ 0 ∷ 0 ∷ []) ≡ 1
zero_value = refl

-- the last window has the steps that are left, and one arc alone reaches into it
last_of_three : window_instance three 4 1 ≡ record { steps = 2; units = 2; arcs = arc 0 1 1 1 ∷ [] }
last_of_three = refl

-- two intervals of sizes 2 and 3 over the denominator 4: the costs 2 and ceil(4/3)
rounded : whole_instance (record { start = 0; end = 2; size = 2; gain = 1 } ∷ record { start = 1; end = 3; size = 3; gain = 1 } ∷ []) 4 1 4 4
    ≡ record { steps = 4; units = 4; arcs = arc 0 2 2 2 ∷ arc 1 3 3 2 ∷ [] }
rounded = refl

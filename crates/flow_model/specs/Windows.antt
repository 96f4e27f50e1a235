-- The windows of an instance: its steps cut into pieces of one width, and its arcs with them.
use Rattle.std.specs.Prelude.{ℕ, ◌+◌, ◌-◌, ◌*◌, ◌/◌, min, max, Bool, ◌==◌, nat_lt, if◌then◌else◌, map, filter, sum_by}
use Rattle.std.specs.List.{range_with_len}
use Rattle.flow_model.specs.declared.arcs.OuterArc.{OuterArc}
use Rattle.flow_model.specs.Instances.{Instance}

-- how many steps the arc covers in window k of that width
abbrev pub part_steps : ℕ → ℕ → OuterArc → ℕ
part_steps width k arc = min arc.end (width * (k + 1)) - max arc.start (width * k)

-- the arc covers a step of window k
abbrev pub meets : ℕ → ℕ → OuterArc → Bool
meets width k arc = nat_lt 0 (part_steps width k arc)

-- the cost, shared among the steps of the arc and rounded down
abbrev pub part_share : ℕ → ℕ → OuterArc → ℕ
part_share width k arc = arc.cost * part_steps width k arc / (arc.end - arc.start)

-- the last window that the arc meets
abbrev pub last_window : ℕ → OuterArc → ℕ
last_window width arc = (arc.end - 1) / width

-- each part costs its share, but the last what the others leave
abbrev pub part_cost : ℕ → ℕ → OuterArc → ℕ
part_cost width k arc =
    if k == last_window width arc then arc.cost - sum_by (λ j. part_share width j arc) (range_with_len 0 k) else part_share width k arc

-- the arc cut to window k, with steps counted from the window's first
abbrev pub part_of : ℕ → ℕ → OuterArc → OuterArc
part_of width k arc =
    record {
      start = max arc.start (width * k) - width * k;
      end = min arc.end (width * (k + 1)) - width * k;
      weight = arc.weight;
      cost = part_cost width k arc;
    }

-- window k: its steps, the same units, and the parts of the arcs that meet it, in their order
abbrev pub window_instance : Instance → ℕ → ℕ → Instance
window_instance whole width k =
    record {
      steps = min whole.steps (width * (k + 1)) - width * k;
      units = whole.units;
      arcs = map (part_of width k) (filter (meets width k) whole.arcs);
    }

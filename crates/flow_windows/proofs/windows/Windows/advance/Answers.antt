use Rattle.std.proofs.Common.{◌∙◌, ◌+◌, ap, length, arith, vec_capacity}
use Rattle.flow_windows.specs.Cuts.{Cut}
use Rattle.flow_windows.proofs.windows.Windows.advance.Goals as goal

pub new-window-requires : goal.new-window-requires
new-window-requires c = c.self.invariant.some_width

pub gather-requires-clause-starts : goal.gather-requires-clause-starts
gather-requires-clause-starts c = rw (c.new-window.ensures.width, c.arcs-arcs.ensures.arcs) c.self.invariant.starts

pub gather-requires-clause-few : goal.gather-requires-clause-few
gather-requires-clause-few c = omega (arith, ap length c.arcs-arcs.ensures.arcs, c.arcs-arcs.ensures.in_range.few_arcs)

pub gather-requires-clause-empty : goal.gather-requires-clause-empty
gather-requires-clause-empty c = c.clear.ensures.items

pub gather-requires-clause-room : goal.gather-requires-clause-room
gather-requires-clause-room c = omega (arith, ap length c.arcs-arcs.ensures.arcs, c.clear.ensures.capacity, c.self.invariant.spare_for_all)

pub invariant_of-self : goal.invariant_of-self
invariant_of-self c =
    let inv = c.self.invariant in
    record {
      some_width = inv.some_width;
      starts = inv.starts;
      windows = inv.windows;
      arcs = ap (λ v. v.items) c.swap.ensures.x_after ∙ (rw (c.new-window.ensures.width, c.new-window.ensures.number, c.arcs-arcs.ensures.arcs) at c.gather.ensures.met);
      room_for_all = omega (arith, ap (λ v. vec_capacity v) c.swap.ensures.x_after, c.gather.ensures.room, c.clear.ensures.capacity, inv.spare_for_all);
      spare_for_all = omega (arith, ap (λ v. vec_capacity v) c.swap.ensures.y_after, inv.room_for_all);
    }

pub returns : goal.returns
returns c = ap (λ (cut : Cut). record cut { number = cut.number + 1 }) c.self.view_is

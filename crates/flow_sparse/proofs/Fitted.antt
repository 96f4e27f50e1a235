-- Flows that suit start prices.
use Rattle.std.proofs.Common.{◌≡◌, ℕ, suc, ◌+◌, ◌^◌, ◌<◌, ◌≤◌, ◌∙◌, ap, List, Bool, false, length, arith, ⊎_elim, slice_index, slice_index_or}
use Rattle.std.proofs.lemmas.Bool.{cases_lt}
use Rattle.std.proofs.lemmas.List.{get_or_past}
use Rattle.flow_model.specs.Instances.{Instance, IsInstance, IsArc, no_arc, arc_at, price_over}
use Rattle.flow_model.proofs.Equal.{telescope}
use Rattle.flow_sparse.specs.States.{State}
use Rattle.flow_sparse.specs.Contractions.{AreOpen, IsSlack}
use Rattle.flow_sparse.specs.Rooms.{HasRoom}
use Rattle.flow_sparse.specs.Starts.{IsFitted}

abbrev pub AreFitted : Instance → List ℕ → List ℕ → Type 0
AreFitted whole falls flows = (i : ℕ) → i < length whole.arcs → IsFitted (arc_at whole.arcs i).weight (arc_at whole.arcs i).cost (slice_index falls (arc_at whole.arcs i).start) (slice_index falls (arc_at whole.arcs i).end) (slice_index flows i)

pub slack_fitted : (whole : Instance) (prices falls flows : List ℕ) → IsInstance whole → length prices ≡ whole.steps → length flows ≡ length whole.arcs
    → ((t : ℕ) → t < length prices → slice_index prices t + slice_index falls (t + 1) ≡ slice_index falls t) → AreFitted whole falls flows → IsSlack whole prices flows
slack_fitted whole prices falls flows fits long wide are fitted =
    record {
      each_step = long;
      each_arc = wide;
      low = λ i h. (fitted i h).small;
      unfilled_are_dear = λ i h less. omega (arith, over i h, (fitted i h).unfilled less);
      used_are_cheap = λ i h some. omega (arith, over i h, (fitted i h).used some);
    }
  where
    over : (i : ℕ) → i < length whole.arcs → price_over prices (arc_at whole.arcs i) + slice_index falls (arc_at whole.arcs i).end ≡ slice_index falls (arc_at whole.arcs i).start
    over i h =
        let arc : IsArc whole.steps (arc_at whole.arcs i) = fits.arcs_fit i no_arc h in
        telescope prices (slice_index falls) (arc_at whole.arcs i).start (arc_at whole.arcs i).end (λ t l. let e : t + 1 ≡ suc t = omega arith in omega (arith, are t l, ap (slice_index falls) e)) (omega (arith, arc.order)) (omega (arith, arc.within, long))

pub small_fitted : (whole : Instance) (falls flows : List ℕ) → IsInstance whole → length flows ≡ length whole.arcs → AreFitted whole falls flows → (i : ℕ) → i < length flows → slice_index flows i ≤ 2 ^ 48
small_fitted whole falls flows fits wide fitted i h = omega (arith, (fitted i (omega (arith, h, wide))).small, (fits.arcs_fit i no_arc (omega (arith, h, wide))).small_weight)

pub shut_priced : (whole : Instance) (opens : List Bool) (prices : List ℕ) → length prices ≡ whole.steps → ((t : ℕ) → t < whole.steps → slice_index_or opens t false ≡ false → slice_index prices t ≡ 0) → AreOpen opens prices
shut_priced whole opens prices long shut t is_shut = ⊎_elim (λ (h : t < whole.steps). shut t h is_shut) (λ (h : whole.steps ≤ t). get_or_past prices t 0 (omega (arith, h, long))) (cases_lt t whole.steps)

pub room_fitted : (whole : Instance) (old new : State) (nodes steps_of : ℕ) → HasRoom whole old nodes steps_of → new ≡ record old { flows = record { outer = new.flows.outer; inner = old.flows.inner } }
    → length new.flows.outer ≡ length old.flows.outer → HasRoom whole new nodes steps_of
room_fitted whole old new nodes steps_of room is same =
    record {
      sized = record {
        units = ap (λ (s : State). s.instance.units) is ∙ room.sized.units;
        arcs = ap (λ (s : State). length s.instance.arcs) is ∙ room.sized.arcs;
        outer = same ∙ room.sized.outer;
      };
      nodes_fit = room.nodes_fit;
      steps_fit = room.steps_fit;
    }

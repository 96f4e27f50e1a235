-- A push along tight edges, from a node with a deficit to one with an excess.
use Rattle.std.proofs.Common.{◌≡◌, ℕ, ◌+◌, ◌-◌, ◌<◌, ◌≤◌, sym, refl, ap, subst, cond, nat_lt, List, length, arith, ⊎_elim, slice_index, get_or, length-set, All}
use Rattle.std.proofs.lemmas.Bool.{cases_lt, lt-ltb, le-ltb}
use Rattle.flow_model.specs.declared.edges.Edge.{Edge}
use Rattle.flow_model.specs.declared.edges.Edge.TheVariants.{Inner, InnerBack, Outer, OuterBack}
use Rattle.flow_model.specs.Instances.{Instance, no_arc}
use Rattle.flow_model.specs.Networks.{Flows, IsEdge, IsPotential, tail, head, gain, loss, residual}
use Rattle.flow_model.specs.Pushes.{opposite, push_path, edge_at}
use Rattle.flow_model.proofs.Pushes.{HasLengths, Pushed, beyond, opposite_tight, push_path-rises, push_path-totals}
use Rattle.flow_sparse.specs.States.{State, IsState, IsReady, IsHigh, CanPush, HasWideRoomFor, pushed, first_sum}
use Rattle.flow_sparse.proofs.Sums.{first_sum-less, first_sum-le, less_at}

-- the instance with as many steps as there is room for
abbrev pub wide : State → Instance
wide s = record s.instance { steps = length s.flows.inner }

wide_edge : (s : State) (e : Edge) → IsState s → IsEdge s.instance e → IsEdge (wide s) e
wide_edge s (Inner t) fits is = omega (arith, is, fits.each_step)
wide_edge s (InnerBack t) fits is = omega (arith, is, fits.each_step)
wide_edge s (Outer i) fits is = is
wide_edge s (OuterBack i) fits is = is

-- residuals know nothing of the steps
wide_room : (s : State) (flows : Flows) (e : Edge) → residual (wide s) flows e ≡ residual s.instance flows e
wide_room s flows (Inner t) = refl
wide_room s flows (InnerBack t) = refl
wide_room s flows (Outer i) = refl
wide_room s flows (OuterBack i) = refl

-- a step is before a node, or the node is before the next step
parts : (amount t node : ℕ) → beyond amount t node + cond (nat_lt node (t + 1)) amount 0 ≡ amount
parts amount t node =
    ⊎_elim
    (λ (h : t < node). omega (arith, ap (λ b. cond b amount 0) (lt-ltb t node h), ap (λ b. cond b amount 0) (le-ltb node (t + 1) (omega arith))))
    (λ (h : node ≤ t). omega (arith, ap (λ b. cond b amount 0) (le-ltb t node h), ap (λ b. cond b amount 0) (lt-ltb node (t + 1) (omega arith))))
    (cases_lt t node)

module _ (s : State) (from to amount : ℕ) (path : List Edge) (ready : IsReady s) (high : IsHigh s) (can : CanPush s from to path amount) where
  lengths : HasLengths (wide s) s.flows
  lengths = record { inner = refl; outer = ready.fits.each_arc }

  edges : All (IsEdge (wide s)) path
  edges k d h = wide_edge s (get_or path k d) ready.fits (can.tight k d h).is_edge

  room : All (λ e. amount ≤ residual (wide s) s.flows e) path
  room k d h = omega (arith, wide_room s s.flows (get_or path k d), can.room k d h)

  after : Pushed (wide s) s.flows (push_path amount s.flows path) amount from to
  after = push_path-totals (wide s) amount path s.flows from to (λ i h. (ready.fits.in_range.arcs_fit i no_arc h).order) lengths ready.fits.low can.leads edges room can.simple

  pub excess_less : (n : ℕ) → first_sum (pushed s from to path amount).excess n + cond (nat_lt to n) amount 0 ≡ first_sum s.excess n
  excess_less n = first_sum-less s.excess to n amount (omega (arith, can.to_within, ready.fits.each_excess)) can.excess

  pub deficit_less : (n : ℕ) → first_sum (pushed s from to path amount).deficit n + cond (nat_lt from n) amount 0 ≡ first_sum s.deficit n
  deficit_less n = first_sum-less s.deficit from n amount (omega (arith, can.from_within, ready.fits.each_deficit)) can.deficit

  pub all_less : first_sum (pushed s from to path amount).excess (s.instance.steps + 1) + amount ≡ first_sum s.excess (s.instance.steps + 1)
  all_less = omega (arith, excess_less (s.instance.steps + 1), ap (λ b. cond b amount 0) (lt-ltb to (s.instance.steps + 1) (omega (arith, can.to_within))))

  pub pushed_state : IsState (pushed s from to path amount)
  pushed_state =
      record {
        in_range = ready.fits.in_range;
        each_arc = after.lengths.outer;
        each_step = omega (arith, after.lengths.inner, ready.fits.each_step);
        each_node = ready.fits.each_node;
        each_excess = omega (arith, length-set s.excess to (slice_index s.excess to - amount), ready.fits.each_excess);
        each_deficit = omega (arith, length-set s.deficit from (slice_index s.deficit from - amount), ready.fits.each_deficit);
        low = after.within;
        balance = λ t h.
            omega (arith, after.totals t (omega (arith, h, ready.fits.each_step)), ready.fits.balance t h, excess_less (t + 1), deficit_less (t + 1), parts amount t from, parts amount t to);
        total = omega (
          arith,
          ready.fits.total,
          all_less,
          deficit_less (s.instance.steps + 1),
          ap (λ b. cond b amount 0) (lt-ltb from (s.instance.steps + 1) (omega (arith, can.from_within))),
        );
      }

  pub path_lengths : HasLengths (wide s) (push_path amount s.flows path)
  path_lengths = after.lengths

  -- an edge gets room only if its opposite is on the path
  pub pushed_rises : (f : Edge) → 0 < residual s.instance (push_path amount s.flows path) f → residual s.instance s.flows f ≤ 0 → (k : ℕ) × (k < length path) × (f ≡ opposite (edge_at path k))
  pushed_rises f has none = push_path-rises (wide s) amount path s.flows f lengths edges (omega (arith, has, none, wide_room s s.flows f, wide_room s (push_path amount s.flows path) f))

  pub pushed_valid : IsPotential s.instance (push_path amount s.flows path) (slice_index s.potentials)
  pushed_valid f is_edge has =
      ⊎_elim
      (λ (h : 0 < residual s.instance s.flows f). ready.valid f is_edge h)
      (λ (h : residual s.instance s.flows f ≤ 0).
      let from = push_path-rises (wide s) amount path s.flows f lengths edges (omega (arith, has, wide_room s s.flows f, wide_room s (push_path amount s.flows path) f)) in
      let e : Edge = edge_at path from.0 in
      subst (λ (g : Edge). gain s.instance.arcs g + slice_index s.potentials (head s.instance.arcs g) ≤ loss s.instance.arcs g + slice_index s.potentials (tail s.instance.arcs g)) (sym from.2)
      (opposite_tight s.instance (slice_index s.potentials) e (can.tight from.0 (Inner 0) from.1).tight))
      (cases_lt 0 (residual s.instance s.flows f))

  pub pushed_is_ready : IsReady (pushed s from to path amount)
      × IsHigh (pushed s from to path amount)
      × (first_sum (pushed s from to path amount).excess (s.instance.steps + 1) + amount ≡ first_sum s.excess (s.instance.steps + 1))
  pushed_is_ready = (
    record { fits = pushed_state; valid = pushed_valid },
    record {
      high = λ node h excess. high.high node h (omega (arith, excess, less_at s.excess to amount node (omega (arith, can.to_within, ready.fits.each_excess))));
      small = high.small;
      few = omega (arith, high.few, all_less);
    },
    all_less,
  )

-- the flow of a step is at most the units and all excess
pub has_room_for : (s : State) (amount : ℕ) (e : Edge) → IsState s → IsHigh s → IsEdge s.instance e → amount ≤ residual s.instance s.flows e → HasWideRoomFor amount s.flows e
has_room_for s amount (Inner t) is high is_edge room =
    (omega (arith, is_edge, is.each_step), omega (arith, is.balance t is_edge, is.in_range.few_units, first_sum-le s.excess (t + 1) (s.instance.steps + 1) (omega arith), high.few))
has_room_for s amount (InnerBack t) is high is_edge room = (omega (arith, is_edge, is.each_step), room)
has_room_for s amount (Outer i) is high is_edge room = (omega (arith, is_edge, is.each_arc), omega (arith, is.low i is_edge, (is.in_range.arcs_fit i no_arc is_edge).small_weight))
has_room_for s amount (OuterBack i) is high is_edge room = (omega (arith, is_edge, is.each_arc), room, omega (arith, is.low i is_edge, (is.in_range.arcs_fit i no_arc is_edge).small_weight))

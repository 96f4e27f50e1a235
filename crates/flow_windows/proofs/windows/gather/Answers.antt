use Rattle.std.proofs.Common.{◌≡◌, ◌∙◌, ◌+◌, ◌<◌, length, ap, sym, refl, subst, arith, [], ◌∷◌, ◌++◌, get_or, inl, inr, cond, min, true, false, append-nil}
use Rattle.flow_model.specs.Instances.{arc_at}
use Rattle.flow_model.specs.Windows.{meets}
use Rattle.flow_windows.specs.Cuts.{IsListed, numbers_where, starts_in}
use Rattle.flow_windows.proofs.Merging.{IsMoved, gathered_none, gathered_more, gathered_room, gathered_all, left_falls, next_within}
use Rattle.flow_windows.proofs.windows.gather.Goals as goal
use Rattle.flow_windows.proofs.windows.gather.Goals.{then-at-before, else-at-before+then-starting-past, then-staying-number, else-staying-number, then-starting-number, else-starting-number}

pub loop-at-init : goal.loop-at-init
loop-at-init c =
    let first : c.first-starting.result ≡ get_or c.args.starts.now.first c.args.window.number 0 = c.first-starting.ensures ∙ ap (λ k. get_or c.args.starts.now.first k 0) c.number.ensures in
    let listed = c.requires.starts.each_window c.args.window.number c.requires.window in (
      0,
      gathered_none c.args.window.width c.args.window.number c.args.arcs.now c.args.before.now c.args.starts.now.next c.first-starting.result c.args.met.now.items c.requires.before
          (subst (λ f. IsListed (length c.args.arcs.now) c.args.starts.now.next f (numbers_where (starts_in c.args.window.width c.args.window.number) c.args.arcs.now)) (sym first) listed)
          c.requires.empty,
      c.requires.room,
      refl,
    )

pub after-starting-requires : goal.after-starting-requires
after-starting-requires c =
    let least : c.min-number.result ≡ min (get_or c.args.before.now c.loop-at.at (length c.args.arcs.now)) c.loop-at.starting = c.min-number.ensures ∙ ap (λ n. min n c.loop-at.starting) c.number_at-staying.ensures in
    let below : c.min-number.result < length c.args.arcs.now = next_within c.args.window.width c.args.window.number c.args.arcs.now c.args.before.now c.args.starts.now.next c.loop-at.at c.loop-at.starting c.loop-at.invariant.0 c.loop-at.met.items c.min-number.result c.loop-at.invariant.1 least
    (elim c.if-at-before.branch [ then-at-before w ↦ inl w.if-at-before.true | else-at-before+then-starting-past w ↦ inr w.if-starting-past.true ]) in
    omega (arith, below, c.requires.starts.each_arc)

pub bounds-arcs-number : goal.bounds-arcs-number
bounds-arcs-number c =
    let least : c.min-number.result ≡ min (get_or c.args.before.now c.loop-at.at (length c.args.arcs.now)) c.loop-at.starting = c.min-number.ensures ∙ ap (λ n. min n c.loop-at.starting) c.number_at-staying.ensures in
    let below : c.min-number.result < length c.args.arcs.now = next_within c.args.window.width c.args.window.number c.args.arcs.now c.args.before.now c.args.starts.now.next c.loop-at.at c.loop-at.starting c.loop-at.invariant.0 c.loop-at.met.items c.min-number.result c.loop-at.invariant.1 least
    (elim c.if-at-before.branch [ then-at-before w ↦ inl w.if-at-before.true | else-at-before+then-starting-past w ↦ inr w.if-starting-past.true ]) in
    below

pub push_reserved-requires : goal.push_reserved-requires
push_reserved-requires c =
    let least : c.min-number.result ≡ min (get_or c.args.before.now c.loop-at.at (length c.args.arcs.now)) c.loop-at.starting = c.min-number.ensures ∙ ap (λ n. min n c.loop-at.starting) c.number_at-staying.ensures in
    let below : c.min-number.result < length c.args.arcs.now = next_within c.args.window.width c.args.window.number c.args.arcs.now c.args.before.now c.args.starts.now.next c.loop-at.at c.loop-at.starting c.loop-at.invariant.0 c.loop-at.met.items c.min-number.result c.loop-at.invariant.1 least
    (elim c.if-at-before.branch [ then-at-before w ↦ inl w.if-at-before.true | else-at-before+then-starting-past w ↦ inr w.if-starting-past.true ]) in
    omega (arith, gathered_room c.args.window.width c.args.window.number c.args.arcs.now c.args.before.now c.args.starts.now.next c.loop-at.at c.loop-at.starting c.loop-at.invariant.0 c.loop-at.met.items c.min-number.result c.loop-at.invariant.1 below least, c.loop-at.invariant.2)

pub loop-at-smaller-then-meets : goal.loop-at-smaller-then-meets
loop-at-smaller-then-meets c =
    let least : c.min-number.result ≡ min (get_or c.args.before.now c.loop-at.at (length c.args.arcs.now)) c.loop-at.starting = c.min-number.ensures ∙ ap (λ n. min n c.loop-at.starting) c.number_at-staying.ensures in
    let below : c.min-number.result < length c.args.arcs.now = next_within c.args.window.width c.args.window.number c.args.arcs.now c.args.before.now c.args.starts.now.next c.loop-at.at c.loop-at.starting c.loop-at.invariant.0 c.loop-at.met.items c.min-number.result c.loop-at.invariant.1 least
    (elim c.if-at-before.branch [ then-at-before w ↦ inl w.if-at-before.true | else-at-before+then-starting-past w ↦ inr w.if-starting-past.true ]) in
    let moved : IsMoved (length c.args.arcs.now) c.args.before.now c.args.starts.now.next c.loop-at.at c.loop-at.starting c.if-staying-number.at c.if-starting-number.starting c.min-number.result = record {
      staying = elim c.if-staying-number.branch [
        | then-staying-number w ↦ inl (sym c.number_at-staying.ensures ∙ w.if-staying-number.true, w.at-is)
        | else-staying-number w ↦ inr (λ e. w.if-staying-number.false (c.number_at-staying.ensures ∙ e), w.at-is)
      ];
      starting = elim c.if-starting-number.branch [
        | then-starting-number w ↦ inl (w.if-starting-number.true, w.starting-is ∙ w.after-starting.ensures)
        | else-starting-number w ↦ inr (w.if-starting-number.false, w.starting-is)
      ];
    } in
    left_falls c.args.window.width c.args.window.number c.args.arcs.now c.args.before.now c.args.starts.now.next c.loop-at.at c.loop-at.starting c.loop-at.invariant.0 c.loop-at.met.items c.if-staying-number.at c.if-starting-number.starting c.min-number.result c.loop-at.invariant.1 below least moved

pub loop-at-preserved-then-meets : goal.loop-at-preserved-then-meets
loop-at-preserved-then-meets c =
    let least : c.min-number.result ≡ min (get_or c.args.before.now c.loop-at.at (length c.args.arcs.now)) c.loop-at.starting = c.min-number.ensures ∙ ap (λ n. min n c.loop-at.starting) c.number_at-staying.ensures in
    let below : c.min-number.result < length c.args.arcs.now = next_within c.args.window.width c.args.window.number c.args.arcs.now c.args.before.now c.args.starts.now.next c.loop-at.at c.loop-at.starting c.loop-at.invariant.0 c.loop-at.met.items c.min-number.result c.loop-at.invariant.1 least
    (elim c.if-at-before.branch [ then-at-before w ↦ inl w.if-at-before.true | else-at-before+then-starting-past w ↦ inr w.if-starting-past.true ]) in
    let moved : IsMoved (length c.args.arcs.now) c.args.before.now c.args.starts.now.next c.loop-at.at c.loop-at.starting c.if-staying-number.at c.if-starting-number.starting c.min-number.result = record {
      staying = elim c.if-staying-number.branch [
        | then-staying-number w ↦ inl (sym c.number_at-staying.ensures ∙ w.if-staying-number.true, w.at-is)
        | else-staying-number w ↦ inr (λ e. w.if-staying-number.false (c.number_at-staying.ensures ∙ e), w.at-is)
      ];
      starting = elim c.if-starting-number.branch [
        | then-starting-number w ↦ inl (w.if-starting-number.true, w.starting-is ∙ w.after-starting.ensures)
        | else-starting-number w ↦ inr (w.if-starting-number.false, w.starting-is)
      ];
    } in
    let meets_it : meets c.args.window.width c.args.window.number (arc_at c.args.arcs.now c.min-number.result) ≡ true = sym c.meets.ensures ∙ c.if-meets.true in
    let added : c.push_reserved.new.self.items ≡ c.loop-at.met.items ++ cond (meets c.args.window.width c.args.window.number (arc_at c.args.arcs.now c.min-number.result)) (c.min-number.result ∷ []) [] =
    c.push_reserved.ensures.items ∙ ap (λ t. c.loop-at.met.items ++ cond t (c.min-number.result ∷ []) []) (sym meets_it) in (
      c.min-number.result + 1,
      gathered_more c.args.window.width c.args.window.number c.args.arcs.now c.args.before.now c.args.starts.now.next c.loop-at.at c.loop-at.starting c.loop-at.invariant.0 c.loop-at.met.items c.if-staying-number.at c.if-starting-number.starting c.min-number.result c.push_reserved.new.self.items c.args.window.some_width
          c.loop-at.invariant.1 below least moved added,
      omega (arith, c.push_reserved.ensures.capacity, c.loop-at.invariant.2),
      c.push_reserved.ensures.capacity ∙ c.loop-at.invariant.3,
    )

pub loop-at-smaller : goal.loop-at-smaller
loop-at-smaller c =
    let least : c.min-number.result ≡ min (get_or c.args.before.now c.loop-at.at (length c.args.arcs.now)) c.loop-at.starting = c.min-number.ensures ∙ ap (λ n. min n c.loop-at.starting) c.number_at-staying.ensures in
    let below : c.min-number.result < length c.args.arcs.now = next_within c.args.window.width c.args.window.number c.args.arcs.now c.args.before.now c.args.starts.now.next c.loop-at.at c.loop-at.starting c.loop-at.invariant.0 c.loop-at.met.items c.min-number.result c.loop-at.invariant.1 least
    (elim c.if-at-before.branch [ then-at-before w ↦ inl w.if-at-before.true | else-at-before+then-starting-past w ↦ inr w.if-starting-past.true ]) in
    let moved : IsMoved (length c.args.arcs.now) c.args.before.now c.args.starts.now.next c.loop-at.at c.loop-at.starting c.if-staying-number.at c.if-starting-number.starting c.min-number.result = record {
      staying = elim c.if-staying-number.branch [
        | then-staying-number w ↦ inl (sym c.number_at-staying.ensures ∙ w.if-staying-number.true, w.at-is)
        | else-staying-number w ↦ inr (λ e. w.if-staying-number.false (c.number_at-staying.ensures ∙ e), w.at-is)
      ];
      starting = elim c.if-starting-number.branch [
        | then-starting-number w ↦ inl (w.if-starting-number.true, w.starting-is ∙ w.after-starting.ensures)
        | else-starting-number w ↦ inr (w.if-starting-number.false, w.starting-is)
      ];
    } in
    left_falls c.args.window.width c.args.window.number c.args.arcs.now c.args.before.now c.args.starts.now.next c.loop-at.at c.loop-at.starting c.loop-at.invariant.0 c.loop-at.met.items c.if-staying-number.at c.if-starting-number.starting c.min-number.result c.loop-at.invariant.1 below least moved

pub loop-at-preserved : goal.loop-at-preserved
loop-at-preserved c =
    let least : c.min-number.result ≡ min (get_or c.args.before.now c.loop-at.at (length c.args.arcs.now)) c.loop-at.starting = c.min-number.ensures ∙ ap (λ n. min n c.loop-at.starting) c.number_at-staying.ensures in
    let below : c.min-number.result < length c.args.arcs.now = next_within c.args.window.width c.args.window.number c.args.arcs.now c.args.before.now c.args.starts.now.next c.loop-at.at c.loop-at.starting c.loop-at.invariant.0 c.loop-at.met.items c.min-number.result c.loop-at.invariant.1 least
    (elim c.if-at-before.branch [ then-at-before w ↦ inl w.if-at-before.true | else-at-before+then-starting-past w ↦ inr w.if-starting-past.true ]) in
    let moved : IsMoved (length c.args.arcs.now) c.args.before.now c.args.starts.now.next c.loop-at.at c.loop-at.starting c.if-staying-number.at c.if-starting-number.starting c.min-number.result = record {
      staying = elim c.if-staying-number.branch [
        | then-staying-number w ↦ inl (sym c.number_at-staying.ensures ∙ w.if-staying-number.true, w.at-is)
        | else-staying-number w ↦ inr (λ e. w.if-staying-number.false (c.number_at-staying.ensures ∙ e), w.at-is)
      ];
      starting = elim c.if-starting-number.branch [
        | then-starting-number w ↦ inl (w.if-starting-number.true, w.starting-is ∙ w.after-starting.ensures)
        | else-starting-number w ↦ inr (w.if-starting-number.false, w.starting-is)
      ];
    } in
    let misses_it : meets c.args.window.width c.args.window.number (arc_at c.args.arcs.now c.min-number.result) ≡ false = sym c.meets.ensures ∙ c.if-meets.false in
    let added : c.loop-at.met.items ≡ c.loop-at.met.items ++ cond (meets c.args.window.width c.args.window.number (arc_at c.args.arcs.now c.min-number.result)) (c.min-number.result ∷ []) [] =
    sym (append-nil c.loop-at.met.items) ∙ ap (λ t. c.loop-at.met.items ++ cond t (c.min-number.result ∷ []) []) (sym misses_it) in (
      c.min-number.result + 1,
      gathered_more c.args.window.width c.args.window.number c.args.arcs.now c.args.before.now c.args.starts.now.next c.loop-at.at c.loop-at.starting c.loop-at.invariant.0 c.loop-at.met.items c.if-staying-number.at c.if-starting-number.starting c.min-number.result c.loop-at.met.items c.args.window.some_width
          c.loop-at.invariant.1 below least moved added,
      c.loop-at.invariant.2,
      c.loop-at.invariant.3,
    )

pub returns-clause-met : goal.returns-clause-met
returns-clause-met c = gathered_all c.args.window.width c.args.window.number c.args.arcs.now c.args.before.now c.args.starts.now.next c.loop-at.at c.loop-at.starting c.loop-at.invariant.0 c.loop-at.met.items c.args.window.some_width c.loop-at.invariant.1 c.if-at-before.false c.if-starting-past.false

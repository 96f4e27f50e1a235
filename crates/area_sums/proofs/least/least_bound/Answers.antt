use Rattle.std.proofs.Common.{◌≡◌, ◌+◌, ◌*◌, ◌<◌, ◌≤◌, length, ap, sym, subst, ◌∙◌, arith}
use Rattle.area_sums.specs.declared.group.Group.{Group}
use Rattle.area_sums.specs.Short.{short_at}
use Rattle.area_sums.specs.Groups.{IsLeastOf, both, group_at, group_below}
use Rattle.area_sums.proofs.LeastLemmas.{area-fits, below-more, cheap-below, gains-fit, least-more, least-same, lesser-is, room-below, below-same}
use Rattle.area_sums.proofs.least.least_bound.Goals.{then-group-gt0, else-group-gt0}
use Rattle.area_sums.proofs.least.least_bound.Goals as goal

pub total_gain-requires : goal.total_gain-requires
total_gain-requires c = gains-fit c.args.groups.now c.args.area c.requires.room

pub lesser_at-least-requires-clause-cheap : goal.lesser_at-least-requires-clause-cheap
lesser_at-least-requires-clause-cheap c =
    subst (λ (g : Group). g.area ≤ short_at c.loop-class.class * g.gain) (sym c.loop-class.invariant.below)
    (cheap-below c.args.groups.now c.requires.cheap c.loop-class.class (omega arith))

pub lesser_at-least-requires-clause-room : goal.lesser_at-least-requires-clause-room
lesser_at-least-requires-clause-room c =
    subst (λ (g : Group). c.args.area + short_at c.loop-class.class * g.gain < 340282366920938463463374607431768211456) (sym c.loop-class.invariant.below)
    (room-below c.args.groups.now c.args.area c.requires.room c.loop-class.class (omega arith))

pub plus-below-requires-clause-area : goal.plus-below-requires-clause-area
plus-below-requires-clause-area c =
    omega (
      arith,
      area-fits c.args.groups.now c.args.area c.requires.room c.requires.cheap (c.loop-class.class + 1) (omega arith),
      ap (λ g. g.area) (below-more c.args.groups.now c.loop-class.class (omega arith)),
      ap (λ g. g.area) c.loop-class.invariant.below,
    )

pub lesser_at-least-requires-then-group-gt0-clause-cheap : goal.lesser_at-least-requires-then-group-gt0-clause-cheap
lesser_at-least-requires-then-group-gt0-clause-cheap c =
    let e : c.plus-below.result ≡ group_below c.args.groups.now (c.loop-class.class + 1) =
    c.plus-below.ensures ∙ ap (λ g. both g (group_at c.args.groups.now c.loop-class.class)) c.loop-class.invariant.below
    ∙ sym (below-more c.args.groups.now c.loop-class.class (omega arith)) in
    subst (λ (g : Group). g.area ≤ short_at (c.loop-class.class + 1) * g.gain) (sym e)
    (cheap-below c.args.groups.now c.requires.cheap (c.loop-class.class + 1) (omega arith))

pub lesser_at-least-requires-then-group-gt0-clause-room : goal.lesser_at-least-requires-then-group-gt0-clause-room
lesser_at-least-requires-then-group-gt0-clause-room c =
    let e : c.plus-below.result ≡ group_below c.args.groups.now (c.loop-class.class + 1) =
    c.plus-below.ensures ∙ ap (λ g. both g (group_at c.args.groups.now c.loop-class.class)) c.loop-class.invariant.below
    ∙ sym (below-more c.args.groups.now c.loop-class.class (omega arith)) in
    subst (λ (g : Group). c.args.area + short_at (c.loop-class.class + 1) * g.gain < 340282366920938463463374607431768211456) (sym e)
    (room-below c.args.groups.now c.args.area c.requires.room (c.loop-class.class + 1) (omega arith))

pub loop-class-preserved : goal.loop-class-preserved
loop-class-preserved c =
    let groups = c.args.groups.now in
    let class = c.loop-class.class in
    let within : class < length groups = omega arith in
    elim c.if-group-gt0.branch [
      | then-group-gt0 w ↦
          let one_more : w.plus-below.result ≡ group_below groups (class + 1) =
          w.plus-below.ensures ∙ ap (λ g. both g (group_at groups class)) c.loop-class.invariant.below ∙ sym (below-more groups class within) in
          let first = w.lesser_at-least.ensures in
          let second = w.lesser_at-least-then-group-gt0.ensures in
          record {
            edge = omega (arith, ap (λ b. b.edge) w.least-is, second.edge);
            below = w.below-is ∙ one_more;
            least = subst (IsLeastOf c.args.area groups (class + 1)) (sym w.least-is)
                (least-more groups c.args.area class c.loop-class.least w.lesser_at-least.result w.lesser_at-least-then-group-gt0.result
                (omega (arith, w.if-group-gt0.true))
                (lesser-is groups c.args.area class c.loop-class.below c.loop-class.least w.lesser_at-least.result c.loop-class.invariant.below
                first.same first.either first.no_worse first.no_worse_than_edge)
                (lesser-is groups c.args.area (class + 1) w.plus-below.result w.lesser_at-least.result w.lesser_at-least-then-group-gt0.result one_more
                second.same second.either second.no_worse second.no_worse_than_edge)
                c.loop-class.invariant.least);
          }
      | else-group-gt0 w ↦
          let none : (group_at groups class).gain ≡ 0 = omega (arith, w.if-group-gt0.false) in
          record {
            edge = omega (arith, ap (λ b. b.edge) w.least-is, c.loop-class.invariant.edge);
            below = w.below-is ∙ c.loop-class.invariant.below ∙ sym (below-same groups class within c.requires.cheap none);
            least = subst (IsLeastOf c.args.area groups (class + 1)) (sym w.least-is)
                (least-same groups c.args.area class c.loop-class.least none c.loop-class.invariant.least);
          }
    ]

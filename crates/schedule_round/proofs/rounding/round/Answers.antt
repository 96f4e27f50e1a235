use Rattle.std.proofs.Common.{◌+◌, ◌∙◌, refl, ap, sym, subst, length, arith}
use Rattle.std.proofs.lemmas.Bool.{false≢true}
use Rattle.cache_model.proofs.Rounding.{rounded_is_maximal}
use Rattle.cache_model.specs.Rounding.{by_rank}
use Rattle.schedule_round.specs.declared.schedule.Schedule.{Schedule}
use Rattle.schedule_round.specs.Ranks.{IsRankOrder}
use Rattle.schedule_round.proofs.Fitting.{IsRoundedTo, within, fits_beside-yes, fits_beside-no, rounded_none, rounded_same, rounded_more, rounded_all, shaped}
use Rattle.schedule_round.proofs.rounding.round.Goals as goal
use Rattle.schedule_round.proofs.rounding.round.Goals.{then-fits, else-fits}

pub loop-ranked-init : goal.loop-ranked-init
loop-ranked-init c = (
  c.in_ok-schedule.ensures.capacity,
  rounded_none c.args.intervals.now c.args.capacity c.args.full.now c.deref-ranked-items.result.now c.as_slice-items.ensures.timeline c.requires.flags
      (subst (IsRankOrder c.args.intervals.now.items c.args.full.now) (sym c.deref-ranked-items.ensures.value) c.in_ok-order.ensures) c.in_ok-schedule.schedule.keeps.items c.in_ok-schedule.schedule.loads
      c.in_ok-schedule.ensures.taken c.in_ok-schedule.ensures.flagged,
)

pub bounds-items-number : goal.bounds-items-number
bounds-items-number c =
    let is_order = subst (IsRankOrder c.args.intervals.now.items c.args.full.now) (sym c.deref-ranked-items.ensures.value) c.in_ok-order.ensures in
    omega (arith, ap length c.as_slice-items.ensures.items, within c.args.intervals.now c.args.capacity c.args.full.now c.deref-ranked-items.result.now c.as_slice-items.ensures.timeline c.requires.flags is_order c.loop-ranked.ranked-index c.loop-ranked-test.true)

pub fits-requires-clause-order : goal.fits-requires-clause-order
fits-requires-clause-order c =
    let is_order = subst (IsRankOrder c.args.intervals.now.items c.args.full.now) (sym c.deref-ranked-items.ensures.value) c.in_ok-order.ensures in
    rw (c.number.ensures, c.as_slice-items.ensures.items)
    (shaped c.args.intervals.now c.args.capacity c.args.full.now c.deref-ranked-items.result.now c.as_slice-items.ensures.timeline c.requires.flags is_order c.loop-ranked.ranked-index c.loop-ranked.schedule.keeps.items c.loop-ranked.schedule.loads c.loop-ranked.invariant.1 c.loop-ranked-test.true).order

pub take-requires-clause-order : goal.take-requires-clause-order
take-requires-clause-order c =
    let is_order = subst (IsRankOrder c.args.intervals.now.items c.args.full.now) (sym c.deref-ranked-items.ensures.value) c.in_ok-order.ensures in
    rw (c.number.ensures, c.as_slice-items.ensures.items)
    (shaped c.args.intervals.now c.args.capacity c.args.full.now c.deref-ranked-items.result.now c.as_slice-items.ensures.timeline c.requires.flags is_order c.loop-ranked.ranked-index c.loop-ranked.schedule.keeps.items c.loop-ranked.schedule.loads c.loop-ranked.invariant.1 c.loop-ranked-test.true).order

pub fits-requires-clause-within : goal.fits-requires-clause-within
fits-requires-clause-within c =
    let is_order = subst (IsRankOrder c.args.intervals.now.items c.args.full.now) (sym c.deref-ranked-items.ensures.value) c.in_ok-order.ensures in
    let fine = shaped c.args.intervals.now c.args.capacity c.args.full.now c.deref-ranked-items.result.now c.as_slice-items.ensures.timeline c.requires.flags is_order c.loop-ranked.ranked-index c.loop-ranked.schedule.keeps.items c.loop-ranked.schedule.loads c.loop-ranked.invariant.1 c.loop-ranked-test.true in
    rw (c.number.ensures, c.as_slice-items.ensures.items) (omega (arith, fine.within, c.loop-ranked.invariant.1.taken.one_load_each))

pub take-requires-clause-within : goal.take-requires-clause-within
take-requires-clause-within c =
    let is_order = subst (IsRankOrder c.args.intervals.now.items c.args.full.now) (sym c.deref-ranked-items.ensures.value) c.in_ok-order.ensures in
    let fine = shaped c.args.intervals.now c.args.capacity c.args.full.now c.deref-ranked-items.result.now c.as_slice-items.ensures.timeline c.requires.flags is_order c.loop-ranked.ranked-index c.loop-ranked.schedule.keeps.items c.loop-ranked.schedule.loads c.loop-ranked.invariant.1 c.loop-ranked-test.true in
    rw (c.number.ensures, c.as_slice-items.ensures.items) (omega (arith, fine.within, c.loop-ranked.invariant.1.taken.one_load_each))

pub take-requires-clause-start : goal.take-requires-clause-start
take-requires-clause-start c =
    let is_order = subst (IsRankOrder c.args.intervals.now.items c.args.full.now) (sym c.deref-ranked-items.ensures.value) c.in_ok-order.ensures in
    let fine = shaped c.args.intervals.now c.args.capacity c.args.full.now c.deref-ranked-items.result.now c.as_slice-items.ensures.timeline c.requires.flags is_order c.loop-ranked.ranked-index c.loop-ranked.schedule.keeps.items c.loop-ranked.schedule.loads c.loop-ranked.invariant.1 c.loop-ranked-test.true in
    rw (c.number.ensures, c.as_slice-items.ensures.items) (omega (arith, fine.order, fine.within, c.loop-ranked.invariant.1.taken.one_keep_each))

pub loop-ranked-preserved : goal.loop-ranked-preserved
loop-ranked-preserved c =
    let line = c.args.intervals.now in
    let schedule = c.loop-ranked.schedule in
    let is_order = subst (IsRankOrder line.items c.args.full.now) (sym c.deref-ranked-items.ensures.value) c.in_ok-order.ensures in
    elim c.if-fits.branch [
      | then-fits w ↦ (
        ap (λ (s : Schedule). s.capacity) w.schedule-is ∙ w.take.ensures.capacity ∙ c.loop-ranked.invariant.0,
        subst (λ (s : Schedule). IsRoundedTo line c.args.capacity c.args.full.now c.deref-ranked-items.result.now (c.loop-ranked.ranked-index + 1) s.keeps.items s.loads) (sym w.schedule-is)
            (rounded_more line c.args.capacity c.args.full.now c.deref-ranked-items.result.now c.as_slice-items.ensures.timeline c.requires.flags is_order c.loop-ranked.ranked-index schedule.keeps.items schedule.loads c.loop-ranked.invariant.1 c.loop-ranked-test.true
            w.take.new.self.keeps.items (rw (c.number.ensures, c.as_slice-items.ensures.items) at w.take.ensures.kept) w.take.new.self.loads
            (fits_beside-yes line c.args.capacity c.args.full.now c.deref-ranked-items.result.now c.as_slice-items.ensures.timeline c.requires.flags is_order c.loop-ranked.ranked-index schedule.keeps.items schedule.loads c.loop-ranked.invariant.1 c.loop-ranked-test.true schedule.capacity c.loop-ranked.invariant.0 (rw (c.number.ensures, c.as_slice-items.ensures.items) at (w.if-fits.ensures.0 refl)))
            (rw (c.number.ensures, c.as_slice-items.ensures.items) at w.take.ensures.held)),
      )
      | else-fits w ↦ (
        ap (λ (s : Schedule). s.capacity) w.schedule-is ∙ c.loop-ranked.invariant.0,
        subst (λ (s : Schedule). IsRoundedTo line c.args.capacity c.args.full.now c.deref-ranked-items.result.now (c.loop-ranked.ranked-index + 1) s.keeps.items s.loads) (sym w.schedule-is)
            (rounded_same line c.args.capacity c.args.full.now c.deref-ranked-items.result.now c.as_slice-items.ensures.timeline c.requires.flags is_order c.loop-ranked.ranked-index schedule.keeps.items schedule.loads c.loop-ranked.invariant.1 c.loop-ranked-test.true
            (fits_beside-no line c.args.capacity c.args.full.now c.deref-ranked-items.result.now c.as_slice-items.ensures.timeline c.requires.flags is_order c.loop-ranked.ranked-index schedule.keeps.items schedule.loads c.loop-ranked.invariant.1 c.loop-ranked-test.true schedule.capacity c.loop-ranked.invariant.0 (let answers = rw (c.number.ensures, c.as_slice-items.ensures.items) at w.if-fits.ensures.1 in λ each. false≢true (answers each)))),
      )
    ]

pub returns-clause-rounded : goal.returns-clause-rounded
returns-clause-rounded c =
    let is_order = subst (IsRankOrder c.args.intervals.now.items c.args.full.now) (sym c.deref-ranked-items.ensures.value) c.in_ok-order.ensures in
    rounded_all c.args.intervals.now c.args.capacity c.args.full.now c.deref-ranked-items.result.now c.as_slice-items.ensures.timeline c.requires.flags is_order c.loop-ranked.ranked-index c.loop-ranked.schedule.keeps.items c.loop-ranked.schedule.loads c.loop-ranked.invariant.1 (omega arith)

pub returns-clause-maximal : goal.returns-clause-maximal
returns-clause-maximal c =
    let is_order = subst (IsRankOrder c.args.intervals.now.items c.args.full.now) (sym c.deref-ranked-items.ensures.value) c.in_ok-order.ensures in
    rounded_is_maximal by_rank c.args.intervals.now.items c.args.capacity c.args.intervals.now.steps c.args.full.now c.loop-ranked.schedule.keeps.items
    (rounded_all c.args.intervals.now c.args.capacity c.args.full.now c.deref-ranked-items.result.now c.as_slice-items.ensures.timeline c.requires.flags is_order c.loop-ranked.ranked-index c.loop-ranked.schedule.keeps.items c.loop-ranked.schedule.loads c.loop-ranked.invariant.1 (omega arith))

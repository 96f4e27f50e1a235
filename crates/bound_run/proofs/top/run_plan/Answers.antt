use Rattle.std.proofs.Common.{refl}
use Rattle.bound_run.proofs.top.run_plan.Goals as goal

pub returns-in-Err-clause-ends : goal.returns-in-Err-clause-ends
returns-in-Err-clause-ends g c = rw c.in-Err.is (c.refuse.ensures.status, c.refuse.ensures.reported, (refl, refl), (refl, refl), (refl, refl))

pub returns-in-Bounds-clause-ends : goal.returns-in-Bounds-clause-ends
returns-in-Bounds-clause-ends g c = rw (c.in-Ok.is, ← c.in-Bounds.ensures) (c.run_bounds.ensures.ends, c.run_bounds.ensures.source, (refl, refl))

pub returns-in-TtlBounds-clause-ends : goal.returns-in-TtlBounds-clause-ends
returns-in-TtlBounds-clause-ends g c = rw (c.in-Ok.is, ← c.in-TtlBounds.ensures) (c.run_ttl_bounds.ensures.ends, c.run_ttl_bounds.ensures.source, (refl, refl))

pub returns-in-Check-clause-ends : goal.returns-in-Check-clause-ends
returns-in-Check-clause-ends g c = rw (c.in-Ok.is, ← c.in-Check.ensures) (c.run_check.ensures.ends, c.run_check.ensures.trace_source, c.run_check.ensures.cert_source, (refl, refl))

pub returns-in-Replay-clause-ends : goal.returns-in-Replay-clause-ends
returns-in-Replay-clause-ends g c = rw (c.in-Ok.is, ← c.in-Replay.ensures) (c.run_replay.ensures.ends, c.run_replay.ensures.source, (refl, refl), (refl, refl))

pub returns-in-Demo-clause-ends : goal.returns-in-Demo-clause-ends
returns-in-Demo-clause-ends g c = rw (c.in-Ok.is, ← c.in-Demo.ensures) (c.run_demo.ensures.ends, (refl, refl), (refl, refl), (refl, refl))

pub returns-in-Curve-clause-ends : goal.returns-in-Curve-clause-ends
returns-in-Curve-clause-ends g c = rw (c.in-Ok.is, ← c.in-Curve.ensures) (c.run_curve.ensures.ends, c.run_curve.ensures.source, (refl, refl), (refl, refl))

pub returns-in-CapacityCurve-clause-ends : goal.returns-in-CapacityCurve-clause-ends
returns-in-CapacityCurve-clause-ends g c = rw (c.in-Ok.is, ← c.in-CapacityCurve.ensures) (c.run_capacity_curve.ensures.ends, c.run_capacity_curve.ensures.source, (refl, refl), (refl, refl))

pub returns-in-Sweep-clause-ends : goal.returns-in-Sweep-clause-ends
returns-in-Sweep-clause-ends g c = rw (c.in-Ok.is, ← c.in-Sweep.ensures) (c.run_sweep.ensures.ends, c.run_sweep.ensures.source, (refl, refl), (refl, refl))

pub returns-in-Upgrade-clause-ends : goal.returns-in-Upgrade-clause-ends
returns-in-Upgrade-clause-ends g c = rw (c.in-Ok.is, ← c.in-Upgrade.ensures) (c.run_upgrade.ensures.ends, c.run_upgrade.ensures.source, (refl, refl))

pub returns-in-Refine-clause-ends : goal.returns-in-Refine-clause-ends
returns-in-Refine-clause-ends g c = rw (c.in-Ok.is, ← c.in-Refine.ensures) (c.run_refine.ensures.ends, c.run_refine.ensures.trace_source, c.run_refine.ensures.cert_source)

pub returns-in-Judge-clause-ends : goal.returns-in-Judge-clause-ends
returns-in-Judge-clause-ends g c = rw (c.in-Ok.is, ← c.in-Judge.ensures) (c.run_judge.ensures.ends, c.run_judge.ensures.trace_source, c.run_judge.ensures.hits_source, (refl, refl))

pub returns-in-Err-clause-none_failed : goal.returns-in-Err-clause-none_failed
returns-in-Err-clause-none_failed g c = λ is. absurd (c.refuse.ensures.never_done is)

pub returns-in-Bounds-clause-none_failed : goal.returns-in-Bounds-clause-none_failed
returns-in-Bounds-clause-none_failed g c = λ is. let h = c.run_bounds.ensures.none_failed is in record { trace = h.0; beside = refl; report = h.1; made = h.2 }

pub returns-in-TtlBounds-clause-none_failed : goal.returns-in-TtlBounds-clause-none_failed
returns-in-TtlBounds-clause-none_failed g c = λ is. let h = c.run_ttl_bounds.ensures.none_failed is in record { trace = h.0; beside = refl; report = h.1; made = h.2 }

pub returns-in-Check-clause-none_failed : goal.returns-in-Check-clause-none_failed
returns-in-Check-clause-none_failed g c = λ is. let h = c.run_check.ensures.none_failed is in record { trace = h.0; beside = h.1; report = h.2; made = refl }

pub returns-in-Replay-clause-none_failed : goal.returns-in-Replay-clause-none_failed
returns-in-Replay-clause-none_failed g c = λ is. let h = c.run_replay.ensures.none_failed is in record { trace = h.0; beside = refl; report = h.1; made = refl }

pub returns-in-Curve-clause-none_failed : goal.returns-in-Curve-clause-none_failed
returns-in-Curve-clause-none_failed g c = λ is. let h = c.run_curve.ensures.none_failed is in record { trace = h.0; beside = refl; report = h.1; made = refl }

pub returns-in-CapacityCurve-clause-none_failed : goal.returns-in-CapacityCurve-clause-none_failed
returns-in-CapacityCurve-clause-none_failed g c = λ is. let h = c.run_capacity_curve.ensures.none_failed is in record { trace = h.0; beside = refl; report = h.1; made = refl }

pub returns-in-Sweep-clause-none_failed : goal.returns-in-Sweep-clause-none_failed
returns-in-Sweep-clause-none_failed g c = λ is. let h = c.run_sweep.ensures.none_failed is in record { trace = h.0; beside = refl; report = h.1; made = refl }

pub returns-in-Judge-clause-none_failed : goal.returns-in-Judge-clause-none_failed
returns-in-Judge-clause-none_failed g c = λ is. let h = c.run_judge.ensures.none_failed is in record { trace = h.0; beside = h.1; report = h.2; made = refl }

pub returns-in-Demo-clause-none_failed : goal.returns-in-Demo-clause-none_failed
returns-in-Demo-clause-none_failed g c = λ is. let h = c.run_demo.ensures.none_failed is in record { trace = refl; beside = refl; report = h; made = refl }

pub returns-in-Upgrade-clause-none_failed : goal.returns-in-Upgrade-clause-none_failed
returns-in-Upgrade-clause-none_failed g c = λ is. let h = c.run_upgrade.ensures.none_failed is in record { trace = refl; beside = h.0; report = h.1; made = h.2 }

pub returns-in-Refine-clause-none_failed : goal.returns-in-Refine-clause-none_failed
returns-in-Refine-clause-none_failed g c = λ is. let h = c.run_refine.ensures.none_failed is in record { trace = h.0; beside = h.1; report = h.2; made = h.3 }

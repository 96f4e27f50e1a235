use Rattle.std.proofs.Common.{◌-◌, ◌≤◌, ◌∙◌, ap, arith}
use Rattle.policy_model.specs.States.{used, has_entry}
use Rattle.policy_model.specs.WTinyLfu.{first_with, segment_entries, main_used}
use Rattle.policy_model.proofs.WTinyLfuSound.{weight-drop}
use Rattle.replay_tinylfu.specs.Queues.{Queues, DisplacesAll, main_entries}
use Rattle.replay_tinylfu.proofs.MoveLemmas.{none-left, first_with-few}
use Rattle.replay_tinylfu.proofs.moves.admit.Goals as goal

pub remove_first-requires : goal.remove_first-requires
remove_first-requires c =
    let q : Queues = c.args.ring.now in
    let d : DisplacesAll c.args.counts.now.frequencies.counts (first_with (c.args.size - (c.args.most - c.main_bytes.result)) (main_entries q)) c.count.result c.in-Some.leaving = c.in-Some.ensures in
    record { many = omega (arith, d.many, first_with-few (c.args.size - (c.args.most - c.main_bytes.result)) (main_entries q)) }

pub push_probation-requires-2-clause-absent : goal.push_probation-requires-2-clause-absent
push_probation-requires-2-clause-absent c =
    ap (λ (q : Queues). has_entry (segment_entries q.segments) c.args.object) c.remove_first.ensures ∙ none-left c.args.object c.in-Some.leaving c.args.ring.now.segments c.requires.absent

pub push_probation-requires-2-clause-fits : goal.push_probation-requires-2-clause-fits
push_probation-requires-2-clause-fits c =
    let q : Queues = c.args.ring.now in
    let fits : main_used q.segments.main ≤ c.args.most = c.requires.fits in
    omega (arith, ap (λ (q : Queues). used q.segments.main.probation) c.remove_first.ensures, weight-drop (λ o s. s) c.in-Some.leaving q.segments.main.probation, c.if-size-most.false, c.requires.range)

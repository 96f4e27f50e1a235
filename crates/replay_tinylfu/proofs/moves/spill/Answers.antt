use Rattle.std.proofs.Common.{◌≡◌, ◌≤◌, ◌<◌, ◌∙◌, sym, ap, subst, List, ◌∷◌, ℕ, arith}
use Rattle.policy_model.specs.States.{Entry, used}
use Rattle.policy_model.specs.WTinyLfu.{Main, Segments, main_used, admit, spill}
use Rattle.policy_model.proofs.WTinyLfuSound.{admit-room}
use Rattle.replay_tinylfu.specs.Queues.{Queues, plain_entry}
use Rattle.replay_tinylfu.proofs.MoveLemmas.{spill-over, spill-fits}
use Rattle.replay_tinylfu.proofs.moves.spill.Goals as goal

pub loop-ring-preserved : goal.loop-ring-preserved
loop-ring-preserved c =
    let q : Queues = c.loop-ring.ring in
    let left : Queues = c.pop_window-object.new.self in
    let e : Entry = plain_entry c.pop_window-object.result.0 c.pop_window-object.result.1 in
    let counts : List ℕ = c.args.counts.now.frequencies.counts in
    let first : q.segments.window ≡ e ∷ left.segments.window = c.pop_window-object.ensures.first in
    let same : left.segments.main ≡ q.segments.main = ap (λ (r : Queues). r.segments.main) c.pop_window-object.ensures.rest in
    let over : c.args.window < used (e ∷ left.segments.window) = omega (arith, c.loop-ring-test.true, c.window_bytes.ensures, ap used first) in
    let of : List Entry → Main → Segments = spill c.args.window c.args.most counts in
    let fits : main_used q.segments.main ≤ c.args.most = c.loop-ring.invariant.fits in
    record {
      objects = ap (λ (r : Queues). r.objects) c.admit.ensures ∙ ap (λ (r : Queues). r.objects) c.pop_window-object.ensures.rest ∙ c.loop-ring.invariant.objects;
      room = ap (λ (r : Queues). r.room) c.admit.ensures ∙ ap (λ (r : Queues). r.room) c.pop_window-object.ensures.rest ∙ c.loop-ring.invariant.room;
      segments = ap (λ (r : Queues). of r.segments.window r.segments.main) c.admit.ensures
          ∙ ap (λ m. of left.segments.window (admit c.args.most counts e m)) same
          ∙ sym (spill-over c.args.window c.args.most counts e left.segments.window q.segments.main over)
          ∙ ap (λ es. of es q.segments.main) (sym first) ∙ c.loop-ring.invariant.segments;
      fits = subst (λ m. main_used m ≤ c.args.most) (sym (ap (λ (r : Queues). r.segments.main) c.admit.ensures ∙ ap (admit c.args.most counts e) same)) (admit-room c.args.most counts e q.segments.main fits);
    }

pub returns : goal.returns
returns c =
    let q : Queues = c.loop-ring.ring in
    let old : Queues = c.args.ring.now in
    let of : Segments → Queues = λ s. record { objects = old.objects; segments = s; room = old.room } in
    ap (λ o. record { objects = o; segments = q.segments; room = q.room }) c.loop-ring.invariant.objects
    ∙ ap (λ r. record { objects = old.objects; segments = q.segments; room = r }) c.loop-ring.invariant.room
    ∙ ap of (sym (spill-fits c.args.window c.args.most c.args.counts.now.frequencies.counts q.segments.window q.segments.main (omega (arith, c.window_bytes.ensures, c.loop-ring-test.false))) ∙ c.loop-ring.invariant.segments)

use Rattle.std.proofs.Common.{◌≡◌, ℕ, ◌+◌, ◌∙◌, sym, ap, subst, Bool, true, false, get_or}
use Rattle.policy_model.specs.States.{has_entry}
use Rattle.policy_model.proofs.S3FifoSound.{queue_entries}
use Rattle.replay_core.specs.declared.policy.Outcome.TheVariants.{Hit, Miss}
use Rattle.replay_core.proofs.Kept.{fit-sound}
use Rattle.replay_queues.specs.SmallAndMain.{is_kept, queues_at, with_space, IsS3Fifo}
use Rattle.replay_queues.specs.declared.three_queues.ThreeQueues.{ThreeQueues}
use Rattle.replay_queues.proofs.S3FifoAnswers.{kept-entry, hit-answers, large-answers, miss-answers, s3fifo-fit, hit-small, hit-main, hit-s3fifo, still_absent, from_view, entered-s3fifo}
use Rattle.replay_queues.specs.Items.{items_of}
use Rattle.replay_queues.proofs.RoomAnswers.{reached-s3fifo, reached-out}
use Rattle.replay_queues.proofs.s3fifo.S3Fifo.ask.Goals as goal

-- whether an object has an entry
answer_is : (objects capacity in_use : ℕ) (t : ThreeQueues) → IsS3Fifo objects capacity in_use t → (k : ℕ) (b : Bool) → is_kept (get_or t.table k 0) ≡ b → has_entry (queue_entries (queues_at t)) k ≡ b
answer_is objects capacity in_use t is k b held = sym (kept-entry t.table (items_of t.parts.small) (items_of t.parts.main) t.parts.ghosts is.queued.fading.are k) ∙ held

pub invariant_of-self : goal.invariant_of-self
invariant_of-self c =
    let p = c.self.inside in
    subst (IsS3Fifo p.objects p.capacity p.used) (sym c.count_hit.ensures)
    (hit-s3fifo p.objects p.capacity p.requests p.used p.queues c.self.invariant c.args.object (sym c.holds.ensures ∙ c.if-holds.true))

pub returns-then-holds-clause-answers : goal.returns-then-holds-clause-answers
returns-then-holds-clause-answers c =
    let p = c.self.inside in
    let there : is_kept (get_or p.queues.table c.args.object 0) ≡ true = sym c.holds.ensures ∙ c.if-holds.true in
    from_view c.args.self.now p.objects p.capacity p.requests c.saturating_add-requests.result (queues_at p.queues) (queues_at c.count_hit.new.self) c.args.object c.args.size Hit c.self.view_is c.saturating_add-requests.ensures
    (hit-answers p.objects p.capacity p.requests (queues_at p.queues) c.args.object c.args.size (queues_at c.count_hit.new.self) (answer_is p.objects p.capacity p.used p.queues c.self.invariant c.args.object true there)
    (ap (λ (t : ThreeQueues). (queues_at t).small) c.count_hit.ensures ∙ hit-small p.objects p.capacity p.requests p.used p.queues c.self.invariant c.args.object there)
    (ap (λ (t : ThreeQueues). (queues_at t).main) c.count_hit.ensures ∙ hit-main p.objects p.capacity p.requests p.used p.queues c.self.invariant c.args.object there)
    (ap (λ (t : ThreeQueues). t.parts.ghosts) c.count_hit.ensures))

pub returns-then-holds-clause-fits : goal.returns-then-holds-clause-fits
returns-then-holds-clause-fits c =
    let p = c.self.inside in
    fit-sound p.capacity (queue_entries (queues_at c.count_hit.new.self)) (s3fifo-fit p.objects p.capacity p.used c.count_hit.new.self (invariant_of-self c))

pub returns-then-size-self-clause-answers : goal.returns-then-size-self-clause-answers
returns-then-size-self-clause-answers c =
    let p = c.self.inside in
    let none : is_kept (get_or p.queues.table c.args.object 0) ≡ false = sym c.holds.ensures ∙ c.if-holds.false in
    from_view c.args.self.now p.objects p.capacity p.requests c.saturating_add-requests.result (queues_at p.queues) (queues_at p.queues) c.args.object c.args.size Miss c.self.view_is c.saturating_add-requests.ensures
    (large-answers p.objects p.capacity p.requests (queues_at p.queues) c.args.object c.args.size (answer_is p.objects p.capacity p.used p.queues c.self.invariant c.args.object false none) c.if-size-self.true)

pub returns-then-size-self-clause-fits : goal.returns-then-size-self-clause-fits
returns-then-size-self-clause-fits c =
    let p = c.self.inside in
    fit-sound p.capacity (queue_entries (queues_at p.queues)) (s3fifo-fit p.objects p.capacity p.used p.queues c.self.invariant)

pub returns-in_err-reach-clause-fits : goal.returns-in_err-reach-clause-fits
returns-in_err-reach-clause-fits c =
    let p = c.self.inside in
    fit-sound p.capacity (queue_entries (queues_at c.reach.new.self)) (s3fifo-fit p.objects p.capacity p.used c.reach.new.self
    (reached-s3fifo p.objects p.capacity p.used p.queues c.reach.new.self c.self.invariant c.reach.ensures.queues c.reach.ensures.within c.reach.ensures.queued))

pub enter-requires-clause-absent : goal.enter-requires-clause-absent
enter-requires-clause-absent c =
    let p = c.self.inside in
    still_absent c.reach.new.self c.make_room-self-inside.new.self p.capacity c.args.size c.reach.ensures.queued c.make_room-self-inside.ensures.queued c.make_room-self-inside.ensures.queues
    c.args.object (reached-out p.queues c.reach.new.self c.self.invariant.queued c.reach.ensures.queued c.reach.ensures.queues c.args.object (sym c.holds.ensures ∙ c.if-holds.false))

pub invariant_of-self-2 : goal.invariant_of-self-2
invariant_of-self-2 c =
    let p = c.self.inside in
    entered-s3fifo p.objects p.capacity p.used c.make_room-self-inside.result c.args.size c.reach.new.self c.make_room-self-inside.new.self c.enter.new.self
    (reached-s3fifo p.objects p.capacity p.used p.queues c.reach.new.self c.self.invariant c.reach.ensures.queues c.reach.ensures.within c.reach.ensures.queued)
    (c.enter.ensures.table ∙ c.make_room-self-inside.ensures.table) c.enter.ensures.queued c.args.object c.enter.ensures.queues c.make_room-self-inside.ensures.in_use c.make_room-self-inside.ensures.fits

pub returns-clause-answers : goal.returns-clause-answers
returns-clause-answers c =
    let p = c.self.inside in
    let none : is_kept (get_or p.queues.table c.args.object 0) ≡ false = sym c.holds.ensures ∙ c.if-holds.false in
    from_view c.args.self.now p.objects p.capacity p.requests c.saturating_add-requests.result (queues_at p.queues) (queues_at c.enter.new.self) c.args.object c.args.size Miss c.self.view_is c.saturating_add-requests.ensures
    (miss-answers p.objects p.capacity p.requests (queues_at p.queues) c.args.object c.args.size (answer_is p.objects p.capacity p.used p.queues c.self.invariant c.args.object false none) c.if-size-self.false
    (queues_at c.enter.new.self) (queues_at c.make_room-self-inside.new.self) (c.make_room-self-inside.ensures.queues ∙ ap (with_space p.capacity c.args.size) c.reach.ensures.queues) c.enter.ensures.queues)

pub returns-clause-fits : goal.returns-clause-fits
returns-clause-fits c =
    let p = c.self.inside in
    fit-sound p.capacity (queue_entries (queues_at c.enter.new.self)) (s3fifo-fit p.objects p.capacity (c.make_room-self-inside.result + c.args.size) c.enter.new.self (invariant_of-self-2 c))

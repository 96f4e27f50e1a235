use Rattle.std.proofs.Common.{◌≡◌, ℕ, ◌+◌, ◌<◌, ◌∙◌, sym, ap, subst, Bool, true, false, length, get_or}
use Rattle.policy_model.specs.States.{has_entry}
use Rattle.policy_model.proofs.SieveSound.{cut_entries}
use Rattle.replay_core.specs.declared.policy.Outcome.TheVariants.{Hit, Miss}
use Rattle.replay_core.proofs.Kept.{fit-sound}
use Rattle.replay_queues.specs.SieveQueues.{is_held, behind_items, ahead_items, cut_at, with_room, IsCounted}
use Rattle.replay_queues.specs.declared.hand.Hand.{Hand}
use Rattle.replay_queues.proofs.SieveAnswers.{held-entry, hit-answers, large-answers, miss-answers, cut-fit, marked-behind, marked-ahead, marked-counted, still_absent, from_view, came-ahead}
use Rattle.replay_queues.proofs.HandLemmas.{held-within}
use Rattle.replay_queues.proofs.RoomLemmas.{reached-counted, reached-absent}
use Rattle.replay_queues.proofs.sieve.Sieve.ask.Goals as goal

-- whether it has an entry
answer_is : (objects capacity in_use : ℕ) (h : Hand) → IsCounted objects capacity in_use h → (k : ℕ) (b : Bool) → is_held (get_or h.table k 0) ≡ b → has_entry (cut_entries (cut_at h)) k ≡ b
answer_is objects capacity in_use h is k b held = sym (held-entry h.table (behind_items h) (ahead_items h) is.held.are k) ∙ held

pub invariant_of-self : goal.invariant_of-self
invariant_of-self c =
    let p = c.self.inside in
    subst (IsCounted p.objects p.capacity p.used) (sym c.mark.ensures)
    (marked-counted p.objects p.capacity p.requests p.used p.hand c.self.invariant c.args.object
    (held-within p.hand c.self.invariant.held c.args.object (sym c.holds.ensures ∙ c.if-holds.true)) (sym c.holds.ensures ∙ c.if-holds.true))

pub returns-then-holds-clause-answers : goal.returns-then-holds-clause-answers
returns-then-holds-clause-answers c =
    let p = c.self.inside in
    let there : is_held (get_or p.hand.table c.args.object 0) ≡ true = sym c.holds.ensures ∙ c.if-holds.true in
    let within : c.args.object < length p.hand.table = held-within p.hand c.self.invariant.held c.args.object there in
    from_view c.args.self.now p.objects p.capacity p.requests c.saturating_add-requests.result (cut_at p.hand) (cut_at c.mark.new.self) c.args.object c.args.size Hit c.self.view_is c.saturating_add-requests.ensures
    (hit-answers p.objects p.capacity p.requests (cut_at p.hand) c.args.object c.args.size (cut_at c.mark.new.self) (answer_is p.objects p.capacity p.used p.hand c.self.invariant c.args.object true there)
    (ap (λ (h : Hand). (cut_at h).behind) c.mark.ensures ∙ marked-behind p.objects p.capacity p.requests p.used p.hand c.self.invariant c.args.object within there)
    (ap (λ (h : Hand). (cut_at h).ahead) c.mark.ensures ∙ marked-ahead p.objects p.capacity p.requests p.used p.hand c.self.invariant c.args.object within there))

pub returns-then-holds-clause-fits : goal.returns-then-holds-clause-fits
returns-then-holds-clause-fits c =
    let p = c.self.inside in
    fit-sound p.capacity (cut_entries (cut_at c.mark.new.self)) (cut-fit p.objects p.capacity p.used c.mark.new.self (invariant_of-self c))

pub returns-then-size-self-clause-answers : goal.returns-then-size-self-clause-answers
returns-then-size-self-clause-answers c =
    let p = c.self.inside in
    let none : is_held (get_or p.hand.table c.args.object 0) ≡ false = sym c.holds.ensures ∙ c.if-holds.false in
    from_view c.args.self.now p.objects p.capacity p.requests c.saturating_add-requests.result (cut_at p.hand) (cut_at p.hand) c.args.object c.args.size Miss c.self.view_is c.saturating_add-requests.ensures
    (large-answers p.objects p.capacity p.requests (cut_at p.hand) c.args.object c.args.size (answer_is p.objects p.capacity p.used p.hand c.self.invariant c.args.object false none) c.if-size-self.true)

pub returns-then-size-self-clause-fits : goal.returns-then-size-self-clause-fits
returns-then-size-self-clause-fits c =
    let p = c.self.inside in
    fit-sound p.capacity (cut_entries (cut_at p.hand)) (cut-fit p.objects p.capacity p.used p.hand c.self.invariant)

pub returns-in_err-reach-clause-fits : goal.returns-in_err-reach-clause-fits
returns-in_err-reach-clause-fits c =
    let p = c.self.inside in
    fit-sound p.capacity (cut_entries (cut_at c.reach.new.self)) (cut-fit p.objects p.capacity p.used c.reach.new.self
    (reached-counted p.objects p.capacity p.used p.hand c.reach.new.self c.self.invariant c.reach.ensures.cut c.reach.ensures.within c.reach.ensures.held))

pub come_in-requires-clause-absent : goal.come_in-requires-clause-absent
come_in-requires-clause-absent c =
    let p = c.self.inside in
    still_absent c.reach.new.self c.make_room-self-inside.new.self p.capacity c.args.size c.reach.ensures.held.are c.make_room-self-inside.ensures.held.are
    c.make_room-self-inside.ensures.cut
    c.args.object (reached-absent p.hand c.reach.new.self c.self.invariant.held c.reach.ensures.held c.reach.ensures.cut c.args.object (sym c.holds.ensures ∙ c.if-holds.false))

pub invariant_of-self-2 : goal.invariant_of-self-2
invariant_of-self-2 c =
    let p = c.self.inside in
    came-ahead p.objects p.capacity p.used c.make_room-self-inside.result c.args.size c.reach.new.self c.make_room-self-inside.new.self c.come_in.new.self
    (reached-counted p.objects p.capacity p.used p.hand c.reach.new.self c.self.invariant c.reach.ensures.cut c.reach.ensures.within c.reach.ensures.held)
    (c.come_in.ensures.table ∙ c.make_room-self-inside.ensures.table) c.come_in.ensures.held c.args.object c.come_in.ensures.cut c.make_room-self-inside.ensures.in_use c.make_room-self-inside.ensures.fits

pub returns-clause-answers : goal.returns-clause-answers
returns-clause-answers c =
    let p = c.self.inside in
    let none : is_held (get_or p.hand.table c.args.object 0) ≡ false = sym c.holds.ensures ∙ c.if-holds.false in
    from_view c.args.self.now p.objects p.capacity p.requests c.saturating_add-requests.result (cut_at p.hand) (cut_at c.come_in.new.self) c.args.object c.args.size Miss c.self.view_is c.saturating_add-requests.ensures
    (miss-answers p.objects p.capacity p.requests (cut_at p.hand) c.args.object c.args.size (answer_is p.objects p.capacity p.used p.hand c.self.invariant c.args.object false none) c.if-size-self.false
    (cut_at c.come_in.new.self) (cut_at c.make_room-self-inside.new.self)
    (c.make_room-self-inside.ensures.cut ∙ ap (with_room p.capacity c.args.size) c.reach.ensures.cut) c.come_in.ensures.cut)

pub returns-clause-fits : goal.returns-clause-fits
returns-clause-fits c =
    let p = c.self.inside in
    fit-sound p.capacity (cut_entries (cut_at c.come_in.new.self)) (cut-fit p.objects p.capacity (c.make_room-self-inside.result + c.args.size) c.come_in.new.self (invariant_of-self-2 c))

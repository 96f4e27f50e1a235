use Rattle.std.proofs.Common.{◌≡◌, suc, ◌+◌, ◌-◌, ◌<◌, ◌≤◌, ◌∙◌, ap, max, refl, subst, sym, arith, length}
use Rattle.ttl_sums.specs.Walked.{HasWalked}
use Rattle.ttl_sums.specs.Worths.{Worths, most}
use Rattle.ttl_sums.specs.contracts.worths.TtlWorths.{the_view}
use Rattle.ttl_sums.proofs.Next.{asked-walked}
use Rattle.ttl_sums.proofs.Places.{length-with_entry}
use Rattle.ttl_sums.proofs.Ranges.{after-within, can-ask, small, was-within}
use Rattle.ttl_sums.proofs.worths.TtlWorths.request.Goals as goal

-- what was kept before
abbrev old : goal.After-self-3-1 → Worths
old c = the_view c.self.inside

pub ask_object-requires : goal.ask_object-requires
ask_object-requires c =
    let before : Worths = the_view c.self.inside in
    let number = subst (λ (w : Worths). c.args.request.now.number ≤ length w.objects) (sym c.self.view_is) c.requires.number in
    let clock = subst (λ (w : Worths). w.clock ≤ c.args.request.now.clock) (sym c.self.view_is) c.requires.clock in
    let weight = subst (λ (w : Worths). c.args.request.now.weight ≤ w.units) (sym c.self.view_is) c.requires.weight in
    let gain = subst (λ (w : Worths). w.gains + c.args.request.now.gain < most) (sym c.self.view_is) c.requires.gain in
    record {
      number = number;
      can_ask = λ e was.
          can-ask before c.self.invariant c.args.request.now number clock weight gain e
          (was-within before c.args.request.now.number e c.self.invariant was);
      small = small before c.self.invariant c.args.request.now number clock weight gain;
    }

number : (c : goal.After-self-3-1) → c.args.request.now.number ≤ length (old c).objects
number c = subst (λ (w : Worths). c.args.request.now.number ≤ length w.objects) (sym c.self.view_is) c.requires.number

pub invariant_of-self-2 : goal.invariant_of-self-2
invariant_of-self-2 c =
    after-within (old c) c.self.invariant c.args.request.now (number c)
    (subst (λ (w : Worths). w.clock ≤ c.args.request.now.clock) (sym c.self.view_is) c.requires.clock)
    (subst (λ (w : Worths). c.args.request.now.weight ≤ w.units) (sym c.self.view_is) c.requires.weight)
    (subst (λ (w : Worths). w.gains + c.args.request.now.gain < most) (sym c.self.view_is) c.requires.gain)
    c.ask_object.new.objects.items c.in_ok-tops.tops c.in_ok-tops.ensures.asked

pub returns-clause-walked : goal.returns-clause-walked
returns-clause-walked c = λ p n next h.
    let more : suc n ≡ n + 1 = omega arith in
    let new : Worths = record (old c) {
      clock = c.args.request.now.clock;
      gains = c.self.inside.gains + c.args.request.now.gain;
      total = (c.self.inside.total - c.in_ok-tops.tops.before) + c.in_ok-tops.tops.after;
      objects = c.ask_object.new.objects.items;
    } in
    subst (λ m. HasWalked p m n new) more
    (asked-walked p n c.args.request.now (old c) new c.in_ok-tops.tops next (subst (HasWalked p n n) (sym c.self.view_is) h) (number c)
    c.in_ok-tops.ensures.asked refl refl refl)

pub returns-clause-objects : goal.returns-clause-objects
returns-clause-objects c =
    let asks = c.in_ok-tops.ensures.asked in
    subst (λ (w : Worths). length c.ask_object.new.objects.items ≡ max (length w.objects) (c.args.request.now.number + 1)) c.self.view_is
    (ap length asks.entries ∙ length-with_entry (old c).objects c.args.request.now.number asks.after (number c))

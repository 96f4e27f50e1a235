use Rattle.std.proofs.Common.{◌≡◌, suc, ◌+◌, ◌≤◌, refl, subst, sym, arith, length}
use Rattle.ttl_sums.specs.Walked.{HasWalked}
use Rattle.ttl_sums.specs.Worths.{IsWithin, Worths}
use Rattle.ttl_sums.specs.contracts.worths.TtlWorths.{the_view}
use Rattle.ttl_sums.proofs.Next.{known-above, new-above}
use Rattle.ttl_sums.proofs.Ranges.{begun-joins}
use Rattle.ttl_sums.proofs.worths.TtlWorths.skip.Goals as goal

pub invariant_of-self : goal.invariant_of-self
invariant_of-self c =
    let old : Worths = the_view c.self.inside in
    subst (λ objects. IsWithin (record old { objects = objects })) (sym c.in_ok-push.ensures.items) (begun-joins old c.new.result c.self.invariant c.new.ensures)

pub returns-in_ok-push-clause-walked : goal.returns-in_ok-push-clause-walked
returns-in_ok-push-clause-walked c = λ p n next h.
    let more : suc n ≡ n + 1 = omega arith in
    let old : Worths = the_view c.self.inside in
    let new : Worths = record old { objects = c.push.new.self.items } in
    let number : c.args.number ≤ length old.objects =
    subst (λ (w : Worths). c.args.number ≤ length w.objects) (sym c.self.view_is) c.requires.number in
    subst (λ m. HasWalked p m n new) more
    (new-above p n c.args.number old (subst (HasWalked p n n) (sym c.self.view_is) h) next.within next.numbered number new c.new.result
    refl refl refl (omega (arith, c.if-number-len.true, c.len.ensures)) c.new.ensures c.in_ok-push.ensures.items next.above)

pub returns-else-number-len-clause-walked : goal.returns-else-number-len-clause-walked
returns-else-number-len-clause-walked c = λ p n next h.
    let more : suc n ≡ n + 1 = omega arith in
    let old : Worths = the_view c.self.inside in
    let number : c.args.number ≤ length old.objects =
    subst (λ (w : Worths). c.args.number ≤ length w.objects) (sym c.self.view_is) c.requires.number in
    subst (HasWalked p (n + 1) n) c.self.view_is
    (subst (λ m. HasWalked p m n old) more
    (known-above p n c.args.number old (subst (HasWalked p n n) (sym c.self.view_is) h) next.within next.numbered number
    (omega (arith, c.if-number-len.false, c.len.ensures, number)) next.above))

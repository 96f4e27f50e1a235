use Rattle.std.proofs.Common.{◌≡◌, ℕ, ◌+◌, ◌<◌, min, ◌∙◌, sym, ap, subst, List, length, get_or, set, arith}
use Rattle.std.proofs.lemmas.List.{length-set}
use Rattle.policy_model.specs.WTinyLfu.{one_more}
use Rattle.replay_tinylfu.specs.Counts.{Counted, count_at, counts_at, with_frequencies, AreCounts}
use Rattle.replay_tinylfu.proofs.CountLemmas.{counts-read, count-small, raised-are, raised-counts}
use Rattle.replay_tinylfu.proofs.counts.Counts.raise.Goals as goal

pub overflow_add-count : goal.overflow_add-count
overflow_add-count c =
    let r = c.self.inside in
    let same : c.count-count.result ≡ count_at r.counts.items r.seen.items r.halvings c.args.object =
    c.count-count.ensures ∙ ap (λ (q : Counted). get_or q.frequencies.counts c.args.object 0) (sym c.self.view_is) ∙ counts-read r.counts.items r.seen.items r.known r.halvings c.self.invariant c.args.object in
    omega (arith, same, count-small r.counts.items r.seen.items r.known r.halvings c.self.invariant c.args.object)

pub invariant_of-self : goal.invariant_of-self
invariant_of-self c =
    let r = c.self.inside in
    let low : c.args.object < length r.counts.items = subst (λ (q : Counted). c.args.object < q.objects) (sym c.self.view_is) c.requires.known in
    let same : c.count-count.result ≡ count_at r.counts.items r.seen.items r.halvings c.args.object =
    c.count-count.ensures ∙ ap (λ (q : Counted). get_or q.frequencies.counts c.args.object 0) (sym c.self.view_is) ∙ counts-read r.counts.items r.seen.items r.known r.halvings c.self.invariant c.args.object in
    subst (λ (n : ℕ). AreCounts (set r.counts.items c.args.object c.min.result) (set r.seen.items c.args.object r.halvings) n r.halvings) (sym c.max-self-inside.ensures)
    (raised-are r.counts.items r.seen.items r.known r.halvings c.self.invariant c.args.object c.min.result low (c.min.ensures ∙ ap (λ n. min (n + 1) 15) same))

pub returns : goal.returns
returns c =
    let r = c.self.inside in
    let low : c.args.object < length r.counts.items = subst (λ (q : Counted). c.args.object < q.objects) (sym c.self.view_is) c.requires.known in
    let same : c.count-count.result ≡ count_at r.counts.items r.seen.items r.halvings c.args.object =
    c.count-count.ensures ∙ ap (λ (q : Counted). get_or q.frequencies.counts c.args.object 0) (sym c.self.view_is) ∙ counts-read r.counts.items r.seen.items r.known r.halvings c.self.invariant c.args.object in
    let of : ℕ → List ℕ → Counted = λ n counts. record { objects = n; frequencies = record { counts = counts; asked = r.asked + 1 } } in
    ap (λ n. of n (counts_at (set r.counts.items c.args.object c.min.result) (set r.seen.items c.args.object r.halvings) c.max-self-inside.result r.halvings)) (length-set r.counts.items c.args.object c.min.result)
    ∙ ap (λ n. of (length r.counts.items) (counts_at (set r.counts.items c.args.object c.min.result) (set r.seen.items c.args.object r.halvings) n r.halvings)) c.max-self-inside.ensures
    ∙ ap (of (length r.counts.items)) (raised-counts r.counts.items r.seen.items r.known r.halvings c.self.invariant c.args.object c.min.result low (c.min.ensures ∙ ap (λ n. min (n + 1) 15) same))
    ∙ ap (λ (q : Counted). with_frequencies (record { counts = one_more c.args.object q.frequencies.counts; asked = q.frequencies.asked + 1 }) q) c.self.view_is

use Rattle.std.proofs.Common.{ℕ, ◌≤◌, ◌∙◌, sym, ap, subst, List, length, arith}
use Rattle.replay_queues.proofs.RoomLemmas.{grown-long}
use Rattle.replay_tinylfu.specs.Counts.{Counted, counts_at, frequencies_at, AreCounts}
use Rattle.replay_tinylfu.proofs.CountLemmas.{longer, grown-counts, grown-are}
use Rattle.replay_tinylfu.proofs.counts.Counts.grow.Goals as goal

pub longer_seen-requires : goal.longer_seen-requires
longer_seen-requires c =
    let r = c.self.inside in
    let more : length r.counts.items ≤ c.args.objects = subst (λ (q : Counted). q.objects ≤ c.args.objects) (sym c.self.view_is) c.requires.more in
    omega (arith, c.self.invariant.each_seen)

pub invariant_of-self : goal.invariant_of-self
invariant_of-self c =
    let r = c.self.inside in
    let more : length r.counts.items ≤ c.args.objects = subst (λ (q : Counted). q.objects ≤ c.args.objects) (sym c.self.view_is) c.requires.more in
    subst (λ ks. AreCounts ks c.in_ok-seen.seen.items r.known r.halvings) (sym c.in_ok-counts.ensures)
    (subst (λ ks. AreCounts (longer c.args.objects r.counts.items) ks r.known r.halvings) (sym c.in_ok-seen.ensures)
    (grown-are r.counts.items r.seen.items r.known r.halvings c.self.invariant c.args.objects more c.requires.few))

pub returns-clause-grown : goal.returns-clause-grown
returns-clause-grown c =
    let r = c.self.inside in
    let more : length r.counts.items ≤ c.args.objects = subst (λ (q : Counted). q.objects ≤ c.args.objects) (sym c.self.view_is) c.requires.more in
    let of : List ℕ → List ℕ → Counted = λ counts seen. record { objects = length counts; frequencies = frequencies_at counts seen r.known r.halvings r.asked } in
    let by : ℕ → List ℕ → Counted = λ n counts. record { objects = n; frequencies = record { counts = counts; asked = r.asked } } in
    ap (λ ks. of ks c.in_ok-seen.seen.items) c.in_ok-counts.ensures
    ∙ ap (of (longer c.args.objects r.counts.items)) c.in_ok-seen.ensures
    ∙ ap (by (length (longer c.args.objects r.counts.items))) (grown-counts r.counts.items r.seen.items r.known r.halvings c.self.invariant c.args.objects more)
    ∙ ap (λ n. by n (counts_at r.counts.items r.seen.items r.known r.halvings)) (grown-long r.counts.items c.args.objects more)
    ∙ ap (λ (q : Counted). record q { objects = c.args.objects }) c.self.view_is

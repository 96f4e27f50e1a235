use Rattle.std.proofs.Common.{◌≡◌, ℕ, ◌+◌, ◌/◌, ◌∙◌, ap, List, length, map}
use Rattle.replay_tinylfu.specs.declared.counts.Counts.TheInside.{Inside}
use Rattle.replay_tinylfu.specs.Counts.{Counted, counts_at, frequencies_at, halve, with_frequencies, AreCounts, AreSettled}
use Rattle.replay_tinylfu.proofs.CountLemmas.{halved-counts, settled-counts, settled-are}
use Rattle.replay_tinylfu.proofs.counts.Counts.halve.Goals as goal
use Rattle.replay_tinylfu.proofs.counts.Counts.halve.Goals.{then-self, else-self}

abbrev seen_as : ℕ → List ℕ → ℕ → Counted
seen_as objects counts asked = record { objects = objects; frequencies = record { counts = counts; asked = asked } }

-- one halving more
halved : (counts seen : List ℕ) (known halvings asked : ℕ) → AreCounts counts seen known halvings
    → seen_as (length counts) (counts_at counts seen known (halvings + 1)) (asked / 2) ≡ with_frequencies (halve (frequencies_at counts seen known halvings asked)) (seen_as (length counts) (counts_at counts seen known halvings) asked)
halved counts seen known halvings asked are = ap (λ ns. seen_as (length counts) ns (asked / 2)) (halved-counts counts seen known halvings are)

pub returns : goal.returns
returns c =
    let r = c.self.inside in
    let first : Counted = record { objects = length r.counts.items; frequencies = frequencies_at r.counts.items r.seen.items r.known r.halvings r.asked } in
    let view : Inside → Counted = λ x. record { objects = length x.counts.items; frequencies = frequencies_at x.counts.items x.seen.items x.known (x.halvings + 1) (x.asked / 2) } in
    let then : with_frequencies (halve first.frequencies) first ≡ with_frequencies (halve c.args.self.now.frequencies) c.args.self.now = ap (λ (q : Counted). with_frequencies (halve q.frequencies) q) c.self.view_is in
    elim c.if-self.branch [
      | then-self w ↦
          let counts : List ℕ = w.settle.new.counts.items in
          let seen : List ℕ = w.settle.new.seen.items in
          let are : AreSettled r.counts.items r.seen.items counts seen r.halvings = w.settle.ensures in
          ap view w.self-inside-is ∙ halved counts seen r.known 0 r.asked (settled-are r.counts.items r.seen.items counts seen r.known r.halvings c.self.invariant are)
          ∙ ap (λ ns. seen_as (length counts) (map (λ count. count / 2) ns) (r.asked / 2)) (settled-counts r.counts.items r.seen.items counts seen r.known r.halvings c.self.invariant are)
          ∙ ap (λ n. seen_as n (map (λ count. count / 2) (counts_at r.counts.items r.seen.items r.known r.halvings)) (r.asked / 2)) are.counts_stay ∙ then
      | else-self w ↦ ap view w.self-inside-is ∙ halved r.counts.items r.seen.items r.known r.halvings r.asked c.self.invariant ∙ then
    ]

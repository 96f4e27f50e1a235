use Rattle.std.proofs.Common.{◌≡◌, ◌-◌, ◌/◌, ◌^◌, ◌<◌, ◌∙◌, sym, ap, subst, length, get_or, arith}
use Rattle.std.proofs.lemmas.List.{get_or_read}
use Rattle.replay_tinylfu.specs.Counts.{Counted}
use Rattle.replay_tinylfu.proofs.CountLemmas.{counts-read}
use Rattle.replay_tinylfu.proofs.counts.Counts.count.Goals as goal

pub returns : goal.returns
returns c =
    let r = c.self.inside in
    let low : c.args.object < length r.counts.items = subst (λ (q : Counted). c.args.object < q.objects) (sym c.self.view_is) c.requires in
    let count : c.index.result.now ≡ get_or r.counts.items c.args.object 0 = get_or_read r.counts.items c.args.object c.index.result.now low c.index.ensures 0 in
    let seen : c.index-2.result.now ≡ get_or r.seen.items c.args.object 0 = get_or_read r.seen.items c.args.object c.index-2.result.now (omega (arith, c.self.invariant.each_seen)) c.index-2.ensures 0 in
    c.faded.ensures ∙ ap (λ n. n / 2 ^ (r.halvings - c.index-2.result.now)) count ∙ ap (λ s. get_or r.counts.items c.args.object 0 / 2 ^ (r.halvings - s)) seen
    ∙ sym (counts-read r.counts.items r.seen.items r.known r.halvings c.self.invariant c.args.object) ∙ ap (λ (q : Counted). get_or q.frequencies.counts c.args.object 0) c.self.view_is

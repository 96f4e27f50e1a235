use Rattle.std.proofs.Common.{◌≡◌, ℕ, ◌-◌, ◌/◌, ◌^◌, ◌<◌, ◌≤◌, ◌∙◌, refl, ap, length, get_or, arith}
use Rattle.std.proofs.lemmas.List.{length-set, get_or_read}
use Rattle.replay_tinylfu.specs.Counts.{count_at}
use Rattle.replay_tinylfu.proofs.CountLemmas.{settled, fill-more, fill-rest}
use Rattle.replay_tinylfu.proofs.counts.settle.Goals as goal

pub loop-object-init : goal.loop-object-init
loop-object-init c = record {
  counts_stay = refl;
  seen_stay = refl;
  counts_done = λ k low. absurd (omega arith);
  seen_done = λ k low. absurd (omega arith);
  counts_rest = λ k high. refl;
  seen_rest = λ k high. refl;
}

pub overflow_sub-halvings : goal.overflow_sub-halvings
overflow_sub-halvings c =
    let i : ℕ = c.loop-object.object in
    let low : i < length c.loop-object.seen.items = omega (arith, c.len-object-end.ensures, c.args.counts.now.ok.0, c.loop-object.invariant.seen_stay, c.requires.each_seen) in
    let read : c.index-in-loop-object.result.now ≡ get_or c.loop-object.seen.items i 0 = get_or_read c.loop-object.seen.items i c.index-in-loop-object.result.now low c.index-in-loop-object.ensures 0 in
    let most : get_or c.args.seen.now.items i 0 ≤ c.args.halvings = c.requires.past i in
    let same : get_or c.loop-object.seen.items i 0 ≡ get_or c.args.seen.now.items i 0 = c.loop-object.invariant.seen_rest i (omega arith) in
    omega arith

pub faded-count-requires : goal.faded-count-requires
faded-count-requires c =
    let i : ℕ = c.loop-object.object in
    let low : i < length c.loop-object.counts.items = omega (arith, c.len-object-end.ensures, c.args.counts.now.ok.0, c.loop-object.invariant.counts_stay) in
    let read : c.index.result.now ≡ get_or c.loop-object.counts.items i 0 = get_or_read c.loop-object.counts.items i c.index.result.now low c.index.ensures 0 in
    let most : get_or c.args.counts.now.items i 0 ≤ 15 = c.requires.small i in
    let same : get_or c.loop-object.counts.items i 0 ≡ get_or c.args.counts.now.items i 0 = c.loop-object.invariant.counts_rest i (omega arith) in
    omega arith

pub loop-object-preserved : goal.loop-object-preserved
loop-object-preserved c =
    let i : ℕ = c.loop-object.object in
    let low_counts : i < length c.loop-object.counts.items = omega (arith, c.len-object-end.ensures, c.args.counts.now.ok.0, c.loop-object.invariant.counts_stay) in
    let low_seen : i < length c.loop-object.seen.items = omega (arith, c.len-object-end.ensures, c.args.counts.now.ok.0, c.loop-object.invariant.seen_stay, c.requires.each_seen) in
    let count : c.index.result.now ≡ get_or c.args.counts.now.items i 0 =
    get_or_read c.loop-object.counts.items i c.index.result.now low_counts c.index.ensures 0 ∙ c.loop-object.invariant.counts_rest i (omega arith) in
    let seen : c.index-in-loop-object.result.now ≡ get_or c.args.seen.now.items i 0 =
    get_or_read c.loop-object.seen.items i c.index-in-loop-object.result.now low_seen c.index-in-loop-object.ensures 0 ∙ c.loop-object.invariant.seen_rest i (omega arith) in
    record {
      counts_stay = length-set c.loop-object.counts.items i c.faded-count.result ∙ c.loop-object.invariant.counts_stay;
      seen_stay = length-set c.loop-object.seen.items i 0 ∙ c.loop-object.invariant.seen_stay;
      counts_done = fill-more c.loop-object.counts.items i c.faded-count.result (count_at c.args.counts.now.items c.args.seen.now.items c.args.halvings) low_counts
          (c.faded-count.ensures ∙ ap (λ n. n / 2 ^ (c.args.halvings - c.index-in-loop-object.result.now)) count ∙ ap (λ s. get_or c.args.counts.now.items i 0 / 2 ^ (c.args.halvings - s)) seen)
          c.loop-object.invariant.counts_done;
      seen_done = fill-more c.loop-object.seen.items i 0 (λ k. 0) low_seen refl c.loop-object.invariant.seen_done;
      counts_rest = fill-rest c.loop-object.counts.items i c.faded-count.result (λ k. get_or c.args.counts.now.items k 0) c.loop-object.invariant.counts_rest;
      seen_rest = fill-rest c.loop-object.seen.items i 0 (λ k. get_or c.args.seen.now.items k 0) c.loop-object.invariant.seen_rest;
    }

pub returns : goal.returns
returns c =
    let i : ℕ = c.loop-object.object in
    let all : length c.args.counts.now.items ≤ i = omega (arith, c.len-object-end.ensures, c.args.counts.now.ok.0, c.loop-object-test.false) in
    settled c.args.counts.now.items c.args.seen.now.items c.loop-object.counts.items c.loop-object.seen.items c.args.halvings i all (omega (arith, c.requires.each_seen))
    c.loop-object.invariant.counts_stay c.loop-object.invariant.seen_stay c.loop-object.invariant.counts_done c.loop-object.invariant.seen_done c.loop-object.invariant.counts_rest c.loop-object.invariant.seen_rest

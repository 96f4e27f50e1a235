use Rattle.std.proofs.Common.{◌≡◌, ◌∙◌, ℕ, List, ap, length}
use Rattle.std.proofs.lemmas.List.{length-replicate}
use Rattle.flow_parts.specs.Queues.{Waiting}
use Rattle.flow_parts.proofs.RankSteps.{fresh_ranks}
use Rattle.flow_parts.proofs.heap.Heap.new.Goals as goal

pub returns : goal.returns
returns c =
    let distances : List ℕ = c.in_ok-ranks.ranks.items in
    let w : Waiting = c.in_ok-queue.queue in
    let many : length distances ≡ c.args.keys = ap length (c.in_ok-ranks.ensures.items_if_clones_equal (λ y h. h)) ∙ length-replicate {A = ℕ} c.args.keys 0 in
    rw c.in_ok-queue.ensures.places (fresh_ranks c.args.keys distances many)

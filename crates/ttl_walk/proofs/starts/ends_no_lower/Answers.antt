use Rattle.std.proofs.Common.{◌≡◌, suc, ◌-◌, ◌<◌, ◌∙◌, sym, refl, ap, arith, length, nat_le}
use Rattle.std.specs.VecDeque.{deque_len}
use Rattle.ttl_walk.proofs.Queues.{ends-at}
use Rattle.ttl_walk.proofs.starts.ends_no_lower.Goals as goal

pub returns-in-Some : goal.returns-in-Some
returns-in-Some c =
    let kept = c.args.starts.now in
    let many : length kept.items ≡ suc (deque_len kept - 1) = let some : 0 < deque_len kept = c.in-Some.ensures.variant.0 refl in omega (arith, kept.ok.0, some) in
    sym
    (ends-at c.args.floor kept.items (deque_len kept - 1) c.in-Some.start.now many
    ∙ ap (λ s. nat_le c.args.floor s.floor) (sym c.in-Some.ensures.lookup))

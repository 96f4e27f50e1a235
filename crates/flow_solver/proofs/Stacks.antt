-- A node that goes to the queue or on the stack of a search.
use Rattle.std.proofs.Common.{inl, inr, ◌≡◌, ◌≢◌, ℕ, ◌+◌, ◌<◌, ◌≤◌, ◌∙◌, sym, refl, List, length, arith, ⊎_elim, get_or, set, length-set}
use Rattle.std.proofs.lemmas.Bool.{cases_eq, cases_lt}
use Rattle.flow_model.specs.declared.edges.Edge.{Edge}
use Rattle.flow_model.proofs.Lists.{set_at}
use Rattle.flow_parts.specs.Queues.{Waiting, Joins, Withdraws}
use Rattle.flow_solver.specs.Searches.{Enters, WaitsNowhere}

-- the node waits in the queue, and the stack is as it was
pub queue_enters : (distances : List ℕ) (parents : List Edge) (queue more : Waiting) (stack : List ℕ) (depth node : ℕ) → depth ≤ length stack → Joins queue more node
    → Enters (record { distances = distances; parents = parents; waiting = queue; stack = stack; depth = depth })
    (record { distances = distances; parents = parents; waiting = more; stack = stack; depth = depth }) node
queue_enters distances parents queue more stack depth node fits joins =
    record {
      distances = refl;
      parents = refl;
      places = joins.places;
      stack = refl;
      fits = fits;
      more = omega (arith, joins.few);
      stacked = λ p low. inr (low, refl);
      waits = λ rests. omega (arith, rests.unqueued, joins.joined);
      rests = λ other rests. record {
        unqueued =
            ⊎_elim (λ (waits : 0 < get_or queue.places other 0). absurd (omega (arith, joins.stays other waits, rests.unqueued))) (λ (none : get_or queue.places other 0 ≤ 0). omega arith)
            (cases_lt 0 (get_or queue.places other 0));
        unstacked = rests.unstacked;
      };
    }

-- the node is withdrawn from the queue, and then stands on the stack
pub stack_enters : (distances : List ℕ) (parents : List Edge) (queue left : Waiting) (stack : List ℕ) (depth node : ℕ) → depth < length stack → Withdraws queue left node
    → Enters (record { distances = distances; parents = parents; waiting = queue; stack = stack; depth = depth })
    (record { distances = distances; parents = parents; waiting = left; stack = set stack depth node; depth = depth + 1 }) node
stack_enters distances parents queue left stack depth node within withdraws =
    record {
      distances = refl;
      parents = refl;
      places = withdraws.places;
      stack = length-set stack depth node;
      fits = omega arith;
      more = omega (arith, withdraws.count);
      stacked = λ p low. ⊎_elim (λ (e : p ≡ depth). inl ((read p).0 e)) (λ (n : p ≡ depth → ⊥). inr (omega arith, (read p).1 n)) (cases_eq p depth);
      waits = λ rests. rests.unstacked depth (omega arith) ((read depth).0 refl);
      rests = λ other rests. record {
        unqueued = unqueued other rests;
        unstacked = λ p low at. rests.unstacked p (omega arith) ((read p).1 (λ e. omega arith) ∙ at);
      };
    }
  where
    read : (p : ℕ) → (p ≡ depth → get_or (set stack depth node) p 0 ≡ node) × (p ≢ depth → get_or (set stack depth node) p 0 ≡ get_or stack p 0)
    read p = set_at stack depth p node within

    unqueued : (other : ℕ) → WaitsNowhere (record { distances = distances; parents = parents; waiting = left; stack = set stack depth node; depth = depth + 1 }) other → get_or queue.places other 0 ≡ 0
    unqueued other rests =
        ⊎_elim
        (λ (waits : 0 < get_or queue.places other 0).
        ⊎_elim
        (λ (e : other ≡ node). absurd (rests.unstacked depth (omega arith) ((read depth).0 refl ∙ sym e)))
        (λ (n : other ≡ node → ⊥). absurd (omega (arith, withdraws.stays other waits n, rests.unqueued)))
        (cases_eq other node))
        (λ (none : get_or queue.places other 0 ≤ 0). omega arith)
        (cases_lt 0 (get_or queue.places other 0))

-- A ring whose nodes are counted, as an object is put in or taken out.
use Rattle.std.proofs.Common.{◌≡◌, ℕ, ◌+◌, ◌-◌, ◌<◌, ◌≤◌, ◌∙◌, sym, ap, true, List, ◌++◌, length, length-append, arith}
use Rattle.std.proofs.lemmas.List.{length-map}
use Rattle.policy_model.specs.WTinyLfu.{segment_entries}
use Rattle.linked_nodes.specs.declared.nodes.Node.{Node}
use Rattle.linked_nodes.specs.Nodes.{Noded, node_at}
use Rattle.replay_queues.specs.Rings.{is_among, Distinct}
use Rattle.replay_queues.proofs.GhostAnswers.{ones, sum-without}
use Rattle.replay_queues.proofs.RingLemmas.{without}
use Rattle.replay_tinylfu.specs.declared.ring.Load.{Load}
use Rattle.replay_tinylfu.specs.Queues.{Queues, plain_entry, entries_at, window_of, probation_of, protected_of, queues_at}
use Rattle.replay_tinylfu.specs.Loads.{numbers_of, IsLoad, IsKept, IsHeld}
use Rattle.replay_tinylfu.proofs.KeptLemmas.{kept-again}

length-at : (nodes : List Node) (numbers : List ℕ) → length (entries_at nodes numbers) ≡ length numbers
length-at nodes numbers = length-map numbers (λ k. plain_entry k (node_at nodes k).size)

-- how many entries there are
pub length-entries : (nodes : List Node) (places : List ℕ) (none : ℕ) (w p t : Load) (numbers : List ℕ) → IsKept nodes places none w p t numbers
    → length (segment_entries (queues_at nodes none numbers).segments) ≡ w.entries + p.entries + t.entries
length-entries nodes places none w p t numbers kept =
    omega (
      arith,
      length-append (entries_at nodes (window_of none numbers)) (entries_at nodes (probation_of none numbers) ++ entries_at nodes (protected_of none numbers)),
      length-append (entries_at nodes (probation_of none numbers)) (entries_at nodes (protected_of none numbers)),
      length-at nodes (window_of none numbers),
      length-at nodes (probation_of none numbers),
      length-at nodes (protected_of none numbers),
      kept.window_is.entries_are,
      kept.probation_is.entries_are,
      kept.protected_is.entries_are,
    )

-- a part of which a number is one has an entry
pub load-some : (nodes : List Node) (part : List ℕ) (load : Load) (k : ℕ) → Distinct part → is_among part k ≡ true → IsLoad nodes part load → 0 < load.entries
load-some nodes part load k apart there is = omega (arith, sum-without (λ (j : ℕ). 1) k part apart there, ones part, ones (without k part), is.entries_are)

module _ (nodes : Noded) (places : List ℕ) (none : ℕ) (w p t : Load) (held : IsHeld nodes places none w p t) where
  -- as many as its loads count
  pub held-length : (q : Queues) → record (queues_at nodes.list none (numbers_of nodes.list none w p t)) { room = nodes.room - 3 } ≡ q → length (segment_entries q.segments) ≡ w.entries + p.entries + t.entries
  held-length q view = ap (λ (r : Queues). length (segment_entries r.segments)) (sym view) ∙ length-entries nodes.list places none w p t (numbers_of nodes.list none w p t) held.kept

  module _ (new : Noded) (places_after : List ℕ) (wn pn tn : Load) (numbers : List ℕ) (kept : IsKept new.list places_after none wn pn tn numbers) (room : new.room ≡ nodes.room) where
    pub held-less : new.count + 1 ≡ nodes.count → wn.entries + pn.entries + tn.entries + 1 ≡ w.entries + p.entries + t.entries → IsHeld new places_after none wn pn tn
    held-less count entries = record {
      kept = kept-again new.list places_after none wn pn tn numbers kept;
      counted = omega (arith, held.counted, count, entries);
      fits = omega (arith, held.fits, room, entries);
    }

    -- there is room where one has left
    pub space-less : wn.entries + pn.entries + tn.entries + 1 ≡ w.entries + p.entries + t.entries → length (segment_entries (queues_at new.list none (numbers_of new.list none wn pn tn)).segments) < new.room - 3
    space-less entries =
        omega (
          arith,
          length-entries new.list places_after none wn pn tn (numbers_of new.list none wn pn tn) (kept-again new.list places_after none wn pn tn numbers kept),
          held.fits,
          room,
          entries,
        )

    pub held-more : (q : Queues) → record (queues_at nodes.list none (numbers_of nodes.list none w p t)) { room = nodes.room - 3 } ≡ q → length (segment_entries q.segments) < q.room → new.count ≤ nodes.count + 1
        → wn.entries + pn.entries + tn.entries ≡ w.entries + p.entries + t.entries + 1 → IsHeld new places_after none wn pn tn
    held-more q view space count entries = record {
      kept = kept-again new.list places_after none wn pn tn numbers kept;
      counted = omega (arith, held.counted, count, entries);
      fits = omega (arith, held-length q view, ap (λ (r : Queues). r.room) view, space, room, entries);
    }

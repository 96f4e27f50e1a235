use Rattle.std.proofs.Common.{◌≡◌, ℕ, ◌+◌, ◌<◌, ◌≤◌, ◌∙◌, sym, ap, subst, length, arith}
use Rattle.std.proofs.lemmas.List.{length-map}
use Rattle.policy_model.specs.States.{used}
use Rattle.policy_model.specs.WTinyLfu.{main_used, first_with, count_of}
use Rattle.linked_nodes.specs.declared.nodes.Node.{Node}
use Rattle.replay_queues.proofs.GhostAnswers.{size_at}
use Rattle.replay_tinylfu.specs.Marks.{follow}
use Rattle.replay_tinylfu.specs.Queues.{Queues, plain_entry, entries_at, main_entries}
use Rattle.replay_tinylfu.specs.Loads.{numbers_of}
use Rattle.replay_tinylfu.proofs.WalkLemmas.{IsWalk, IsNext, walk-next, walk-done, main_of_ring, main-entries, main-low, main-many, main-bytes, walk-begin}
use Rattle.replay_tinylfu.proofs.ring.Ring.victims.Goals as goal

pub loop-freed-init : goal.loop-freed-init
loop-freed-init c =
    let r = c.self.inside in
    record {
      walk = subst (λ (i : ℕ). IsWalk r.nodes.list (r.objects + 2) (main_of_ring r.nodes.list r.places.items r.objects r.window r.probation r.protected (numbers_of r.nodes.list r.objects r.window r.probation r.protected) c.self.invariant.kept) c.args.counts.now.frequencies.counts c.args.bytes i 0 0 0) (sym c.next_but-object.ensures)
          (walk-begin r.nodes.list r.places.items r.objects r.window r.probation r.protected (numbers_of r.nodes.list r.objects r.window r.probation r.protected) c.self.invariant.kept c.args.counts.now.frequencies.counts c.args.bytes (subst (λ (q : Queues). c.args.bytes ≤ main_used q.segments.main) (sym c.self.view_is) c.requires.enough));
      small = omega arith;
      less = λ some. absurd (omega arith);
    }

pub count-requires : goal.count-requires
count-requires c =
    let r = c.self.inside in
    let l = c.loop-freed in
    let next : IsNext r.nodes.list (r.objects + 2) (main_of_ring r.nodes.list r.places.items r.objects r.window r.probation r.protected (numbers_of r.nodes.list r.objects r.window r.probation r.protected) c.self.invariant.kept) c.args.counts.now.frequencies.counts c.args.bytes l.object l.freed l.sum l.entries =
    walk-next r.nodes.list (r.objects + 2) (main_of_ring r.nodes.list r.places.items r.objects r.window r.probation r.protected (numbers_of r.nodes.list r.objects r.window r.probation r.protected) c.self.invariant.kept) c.args.counts.now.frequencies.counts c.args.bytes l.object l.freed l.sum l.entries c.loop-freed-test.true l.invariant.walk in
    let low : l.object < r.objects = main-low r.nodes.list r.places.items r.objects r.window r.probation r.protected (numbers_of r.nodes.list r.objects r.window r.probation r.protected) c.self.invariant.kept l.object next.there in
    let same : r.objects ≡ c.args.self.now.objects = ap (λ (q : Queues). q.objects) c.self.view_is in
    omega (arith, c.requires.counted)

pub returns-then-sum-count : goal.returns-then-sum-count
returns-then-sum-count c =
    let r = c.self.inside in
    let l = c.loop-freed in
    let next : IsNext r.nodes.list (r.objects + 2) (main_of_ring r.nodes.list r.places.items r.objects r.window r.probation r.protected (numbers_of r.nodes.list r.objects r.window r.probation r.protected) c.self.invariant.kept) c.args.counts.now.frequencies.counts c.args.bytes l.object l.freed l.sum l.entries =
    walk-next r.nodes.list (r.objects + 2) (main_of_ring r.nodes.list r.places.items r.objects r.window r.probation r.protected (numbers_of r.nodes.list r.objects r.window r.probation r.protected) c.self.invariant.kept) c.args.counts.now.frequencies.counts c.args.bytes l.object l.freed l.sum l.entries c.loop-freed-test.true l.invariant.walk in
    let low : l.object < r.objects = main-low r.nodes.list r.places.items r.objects r.window r.probation r.protected (numbers_of r.nodes.list r.objects r.window r.probation r.protected) c.self.invariant.kept l.object next.there in
    omega (arith, next.counted, c.count.ensures, c.if-sum-count.true, ap (count_of c.args.counts.now.frequencies.counts) (ap (first_with c.args.bytes) (main-entries r.nodes.list r.places.items r.objects r.window r.probation r.protected (numbers_of r.nodes.list r.objects r.window r.probation r.protected) c.self.invariant.kept ∙ ap main_entries c.self.view_is)))

pub get-freed-requires : goal.get-freed-requires
get-freed-requires c =
    let r = c.self.inside in
    let l = c.loop-freed in
    let next : IsNext r.nodes.list (r.objects + 2) (main_of_ring r.nodes.list r.places.items r.objects r.window r.probation r.protected (numbers_of r.nodes.list r.objects r.window r.probation r.protected) c.self.invariant.kept) c.args.counts.now.frequencies.counts c.args.bytes l.object l.freed l.sum l.entries =
    walk-next r.nodes.list (r.objects + 2) (main_of_ring r.nodes.list r.places.items r.objects r.window r.probation r.protected (numbers_of r.nodes.list r.objects r.window r.probation r.protected) c.self.invariant.kept) c.args.counts.now.frequencies.counts c.args.bytes l.object l.freed l.sum l.entries c.loop-freed-test.true l.invariant.walk in
    let low : l.object < r.objects = main-low r.nodes.list r.places.items r.objects r.window r.probation r.protected (numbers_of r.nodes.list r.objects r.window r.probation r.protected) c.self.invariant.kept l.object next.there in
    let each : length r.nodes.list ≡ r.objects + 3 = c.self.invariant.kept.ring.each_node in
    record { known = omega arith }

pub overflow_add-freed : goal.overflow_add-freed
overflow_add-freed c =
    let r = c.self.inside in
    let l = c.loop-freed in
    let next : IsNext r.nodes.list (r.objects + 2) (main_of_ring r.nodes.list r.places.items r.objects r.window r.probation r.protected (numbers_of r.nodes.list r.objects r.window r.probation r.protected) c.self.invariant.kept) c.args.counts.now.frequencies.counts c.args.bytes l.object l.freed l.sum l.entries =
    walk-next r.nodes.list (r.objects + 2) (main_of_ring r.nodes.list r.places.items r.objects r.window r.probation r.protected (numbers_of r.nodes.list r.objects r.window r.probation r.protected) c.self.invariant.kept) c.args.counts.now.frequencies.counts c.args.bytes l.object l.freed l.sum l.entries c.loop-freed-test.true l.invariant.walk in
    let low : l.object < r.objects = main-low r.nodes.list r.places.items r.objects r.window r.probation r.protected (numbers_of r.nodes.list r.objects r.window r.probation r.protected) c.self.invariant.kept l.object next.there in
    let each : length r.nodes.list ≡ r.objects + 3 = c.self.invariant.kept.ring.each_node in
    let read : c.get-freed.result.size ≡ size_at r.nodes.list l.object = ap (λ (n : Node). n.size) c.get-freed.ensures in
    let bytes : used (entries_at r.nodes.list (main_of_ring r.nodes.list r.places.items r.objects r.window r.probation r.protected (numbers_of r.nodes.list r.objects r.window r.probation r.protected) c.self.invariant.kept)) ≡ main_used c.args.self.now.segments.main = main-bytes r.nodes.list r.places.items r.objects r.window r.probation r.protected (numbers_of r.nodes.list r.objects r.window r.probation r.protected) c.self.invariant.kept ∙ ap (λ (q : Queues). main_used q.segments.main) c.self.view_is in
    omega (arith, next.size, c.requires.range, c.requires.enough)

pub overflow_add-entries : goal.overflow_add-entries
overflow_add-entries c =
    let r = c.self.inside in
    let l = c.loop-freed in
    let next : IsNext r.nodes.list (r.objects + 2) (main_of_ring r.nodes.list r.places.items r.objects r.window r.probation r.protected (numbers_of r.nodes.list r.objects r.window r.probation r.protected) c.self.invariant.kept) c.args.counts.now.frequencies.counts c.args.bytes l.object l.freed l.sum l.entries =
    walk-next r.nodes.list (r.objects + 2) (main_of_ring r.nodes.list r.places.items r.objects r.window r.probation r.protected (numbers_of r.nodes.list r.objects r.window r.probation r.protected) c.self.invariant.kept) c.args.counts.now.frequencies.counts c.args.bytes l.object l.freed l.sum l.entries c.loop-freed-test.true l.invariant.walk in
    let low : l.object < r.objects = main-low r.nodes.list r.places.items r.objects r.window r.probation r.protected (numbers_of r.nodes.list r.objects r.window r.probation r.protected) c.self.invariant.kept l.object next.there in
    let few : r.objects ≤ 2147483648 = c.self.invariant.kept.ring.few in
    omega (arith, next.more, main-many r.nodes.list r.places.items r.objects r.window r.probation r.protected (numbers_of r.nodes.list r.objects r.window r.probation r.protected) c.self.invariant.kept)

pub next_but-object-requires-in-loop-freed-clause-node : goal.next_but-object-requires-in-loop-freed-clause-node
next_but-object-requires-in-loop-freed-clause-node c =
    let r = c.self.inside in
    let l = c.loop-freed in
    let next : IsNext r.nodes.list (r.objects + 2) (main_of_ring r.nodes.list r.places.items r.objects r.window r.probation r.protected (numbers_of r.nodes.list r.objects r.window r.probation r.protected) c.self.invariant.kept) c.args.counts.now.frequencies.counts c.args.bytes l.object l.freed l.sum l.entries =
    walk-next r.nodes.list (r.objects + 2) (main_of_ring r.nodes.list r.places.items r.objects r.window r.probation r.protected (numbers_of r.nodes.list r.objects r.window r.probation r.protected) c.self.invariant.kept) c.args.counts.now.frequencies.counts c.args.bytes l.object l.freed l.sum l.entries c.loop-freed-test.true l.invariant.walk in
    let low : l.object < r.objects = main-low r.nodes.list r.places.items r.objects r.window r.probation r.protected (numbers_of r.nodes.list r.objects r.window r.probation r.protected) c.self.invariant.kept l.object next.there in
    let each : length r.nodes.list ≡ r.objects + 3 = c.self.invariant.kept.ring.each_node in
    omega arith

pub loop-freed-smaller : goal.loop-freed-smaller
loop-freed-smaller c =
    let r = c.self.inside in
    let l = c.loop-freed in
    let next : IsNext r.nodes.list (r.objects + 2) (main_of_ring r.nodes.list r.places.items r.objects r.window r.probation r.protected (numbers_of r.nodes.list r.objects r.window r.probation r.protected) c.self.invariant.kept) c.args.counts.now.frequencies.counts c.args.bytes l.object l.freed l.sum l.entries =
    walk-next r.nodes.list (r.objects + 2) (main_of_ring r.nodes.list r.places.items r.objects r.window r.probation r.protected (numbers_of r.nodes.list r.objects r.window r.probation r.protected) c.self.invariant.kept) c.args.counts.now.frequencies.counts c.args.bytes l.object l.freed l.sum l.entries c.loop-freed-test.true l.invariant.walk in
    let low : l.object < r.objects = main-low r.nodes.list r.places.items r.objects r.window r.probation r.protected (numbers_of r.nodes.list r.objects r.window r.probation r.protected) c.self.invariant.kept l.object next.there in
    omega (arith, next.more, ap length (main-entries r.nodes.list r.places.items r.objects r.window r.probation r.protected (numbers_of r.nodes.list r.objects r.window r.probation r.protected) c.self.invariant.kept ∙ ap main_entries c.self.view_is), length-map (main_of_ring r.nodes.list r.places.items r.objects r.window r.probation r.protected (numbers_of r.nodes.list r.objects r.window r.probation r.protected) c.self.invariant.kept) (λ k. plain_entry k (size_at r.nodes.list k)))

pub loop-freed-preserved : goal.loop-freed-preserved
loop-freed-preserved c =
    let r = c.self.inside in
    let l = c.loop-freed in
    let next : IsNext r.nodes.list (r.objects + 2) (main_of_ring r.nodes.list r.places.items r.objects r.window r.probation r.protected (numbers_of r.nodes.list r.objects r.window r.probation r.protected) c.self.invariant.kept) c.args.counts.now.frequencies.counts c.args.bytes l.object l.freed l.sum l.entries =
    walk-next r.nodes.list (r.objects + 2) (main_of_ring r.nodes.list r.places.items r.objects r.window r.probation r.protected (numbers_of r.nodes.list r.objects r.window r.probation r.protected) c.self.invariant.kept) c.args.counts.now.frequencies.counts c.args.bytes l.object l.freed l.sum l.entries c.loop-freed-test.true l.invariant.walk in
    let low : l.object < r.objects = main-low r.nodes.list r.places.items r.objects r.window r.probation r.protected (numbers_of r.nodes.list r.objects r.window r.probation r.protected) c.self.invariant.kept l.object next.there in
    let each : length r.nodes.list ≡ r.objects + 3 = c.self.invariant.kept.ring.each_node in
    let read : c.get-freed.result.size ≡ size_at r.nodes.list l.object = ap (λ (n : Node). n.size) c.get-freed.ensures in
    let of : ℕ → ℕ → ℕ → Type 0 = λ i f s. IsWalk r.nodes.list (r.objects + 2) (main_of_ring r.nodes.list r.places.items r.objects r.window r.probation r.protected (numbers_of r.nodes.list r.objects r.window r.probation r.protected) c.self.invariant.kept) c.args.counts.now.frequencies.counts c.args.bytes i f s (l.entries + 1) in
    record {
      walk = subst (λ i. of i (l.freed + c.get-freed.result.size) (l.sum + c.count.result)) (sym c.next_but-object-in-loop-freed.ensures)
          (subst (λ f. of (follow r.nodes.list (r.objects + 2) l.object) (l.freed + f) (l.sum + c.count.result)) (sym read)
          (subst (λ s. of (follow r.nodes.list (r.objects + 2) l.object) (l.freed + size_at r.nodes.list l.object) (l.sum + s)) (sym c.count.ensures) next.walk));
      small = omega (arith, c.if-sum-count.false, c.ranges.count.fits);
      less = λ some. omega (arith, c.if-sum-count.false);
    }

pub returns : goal.returns
returns c =
    let r = c.self.inside in
    let l = c.loop-freed in
    let done = walk-done r.nodes.list (r.objects + 2) (main_of_ring r.nodes.list r.places.items r.objects r.window r.probation r.protected (numbers_of r.nodes.list r.objects r.window r.probation r.protected) c.self.invariant.kept) c.args.counts.now.frequencies.counts c.args.bytes l.object l.freed l.sum l.entries c.loop-freed-test.false l.invariant.walk in
    let less : l.sum < c.args.count = l.invariant.less (omega (arith, c.requires.some, c.loop-freed-test.false)) in
    let view = ap (first_with c.args.bytes) (main-entries r.nodes.list r.places.items r.objects r.window r.probation r.protected (numbers_of r.nodes.list r.objects r.window r.probation r.protected) c.self.invariant.kept ∙ ap main_entries c.self.view_is) in
    record {
      many = done.0 ∙ ap length view;
      less = omega (arith, done.1, ap (count_of c.args.counts.now.frequencies.counts) view);
    }

use Rattle.std.proofs.Common.{◌≡◌, ℕ, ◌+◌, ◌-◌, ◌<◌, ◌≤◌, ◌^◌, ◌∙◌, sym, ap, subst, List, [], ◌∷◌, ◌++◌, length, get_or, slice_set, arith}
use Rattle.std.proofs.lemmas.Bool.{le-leb, lt-leb}
use Rattle.std.proofs.lemmas.List.{length-set}
use Rattle.std.proofs.lemmas.List.Sums.{sum_by-cons, sum_by_push}
use Rattle.policy_model.specs.States.{Member, member, members_size}
use Rattle.policy_model.specs.S3Fifo.{Queues, fade, shrink_small, queues_used}
use Rattle.replay_queues.specs.Items.{items_of}
use Rattle.replay_queues.specs.ThreeParts.{Parted, parts_count}
use Rattle.replay_queues.proofs.PartLemmas.{count-main}
use Rattle.replay_queues.specs.SmallAndMain.{queues_by, AreQueued, IsQueued}
use Rattle.replay_queues.proofs.ItemLemmas.{item_bytes}
use Rattle.replay_queues.proofs.LineLemmas.{items_of-append}
use Rattle.replay_queues.proofs.QueueLemmas.{counted, queue-bytes, left-queued, left-shrunk, promoted-queued, promoted-small}
use Rattle.replay_queues.proofs.QueueAnswers.{is_fading, small-bytes, queued-as, same-small}
use Rattle.replay_queues.proofs.three_queues.ThreeQueues.shrink_small.Goals as goal

pub fade-requires-clause-queued : goal.fade-requires-clause-queued
fade-requires-clause-queued c =
    let t = c.loop-object.self in
    let p : ℕ × ℕ = (c.in-Some.object, c.in-Some.size) in
    let q : Parted = c.pop_small.new.self in
    let rest : List (ℕ × ℕ) = items_of q.small in
    let main : List (ℕ × ℕ) = items_of t.parts.main in
    let ghosts : List Member = t.parts.ghosts in
    let items : items_of t.parts.small ≡ p ∷ rest = ap items_of c.in-Some.ensures.first in
    let main_is : q.main ≡ t.parts.main = ap (λ (x : Parted). x.main) c.pop_small.ensures.rest in
    let ghosts_are : q.ghosts ≡ ghosts = ap (λ (x : Parted). x.ghosts) c.pop_small.ensures.rest in
    let objects_are : q.objects ≡ t.parts.objects = ap (λ (x : Parted). x.objects) c.pop_small.ensures.rest in
    let queued : AreQueued t.table (p ∷ rest) main ghosts = subst (λ xs. AreQueued t.table xs main ghosts) items c.loop-object.invariant.queued.fading.are in
    let n : Parted = c.push_ghost.new.self in
    let small_now : items_of n.small ≡ rest = ap (λ (x : Parted). items_of x.small) c.push_ghost.ensures in
    let ghosts_now : n.ghosts ≡ ghosts ++ member p.0 p.1 ∷ [] = ap (λ (x : Parted). x.ghosts) c.push_ghost.ensures ∙ ap (λ ms. ms ++ member p.0 p.1 ∷ []) ghosts_are in
    is_fading (record { parts = n; table = c.set.new.self; small_used = t.small_used - c.in-Some.size; ghosts_used = t.ghosts_used + c.in-Some.size })
    (queued-as (slice_set t.table p.0 1) c.set.new.self rest main (items_of n.small) (items_of n.main) (ghosts ++ member p.0 p.1 ∷ []) n.ghosts c.set.ensures small_now
    (ap (λ (x : Parted). items_of x.main) c.push_ghost.ensures ∙ ap items_of main_is) ghosts_now (left-queued t.table p rest main ghosts queued))
    (omega (arith, small-bytes t c.loop-object.invariant.queued.fading, ap item_bytes items, sum_by-cons (λ (x : ℕ × ℕ). x.1) p rest, ap item_bytes small_now))
    (omega (arith, c.loop-object.invariant.queued.fading.ghosts_are, ap members_size ghosts_now, sum_by_push (λ (m : Member). m.size) ghosts (member p.0 p.1)))
    (ap length c.set.ensures ∙ length-set t.table p.0 1 ∙ c.loop-object.invariant.queued.fading.each_object ∙ sym (ap (λ (x : Parted). x.objects) c.push_ghost.ensures ∙ objects_are))

pub returns-then-get-lt-HIT_TWICE-clause-queues : goal.returns-then-get-lt-HIT_TWICE-clause-queues
returns-then-get-lt-HIT_TWICE-clause-queues c =
    let t = c.loop-object.self in
    let p : ℕ × ℕ = (c.in-Some.object, c.in-Some.size) in
    let q : Parted = c.pop_small.new.self in
    let rest : List (ℕ × ℕ) = items_of q.small in
    let main : List (ℕ × ℕ) = items_of t.parts.main in
    let ghosts : List Member = t.parts.ghosts in
    let items : items_of t.parts.small ≡ p ∷ rest = ap items_of c.in-Some.ensures.first in
    let main_is : q.main ≡ t.parts.main = ap (λ (x : Parted). x.main) c.pop_small.ensures.rest in
    let ghosts_are : q.ghosts ≡ ghosts = ap (λ (x : Parted). x.ghosts) c.pop_small.ensures.rest in
    let objects_are : q.objects ≡ t.parts.objects = ap (λ (x : Parted). x.objects) c.pop_small.ensures.rest in
    let queued : AreQueued t.table (p ∷ rest) main ghosts = subst (λ xs. AreQueued t.table xs main ghosts) items c.loop-object.invariant.queued.fading.are in
    let n : Parted = c.push_ghost.new.self in
    let of : List ℕ → List (ℕ × ℕ) → List (ℕ × ℕ) → List Member → Queues = λ cells xs ys g. queues_by cells xs ys (fade c.args.most g) in
    let low : get_or t.table p.0 0 < 4 = omega (arith, c.get.ensures, c.if-get-lt-HIT_TWICE.true) in
    c.fade.ensures.queues
    ∙ ap (λ cells. of cells (items_of n.small) (items_of n.main) n.ghosts) c.set.ensures
    ∙ ap (λ (x : Parted). of (slice_set t.table p.0 1) (items_of x.small) (items_of x.main) x.ghosts) c.push_ghost.ensures
    ∙ ap (λ ms. of (slice_set t.table p.0 1) rest (items_of ms) (q.ghosts ++ member p.0 p.1 ∷ [])) main_is ∙ ap (λ ms. of (slice_set t.table p.0 1) rest main (ms ++ member p.0 p.1 ∷ [])) ghosts_are
    ∙ left-shrunk t.table p rest main ghosts queued c.args.most (lt-leb 2 (get_or t.table p.0 0 - 2) (omega arith))
    ∙ ap (λ xs. shrink_small c.args.most (counted t.table xs) (counted t.table main) ghosts) (sym items)
    ∙ c.loop-object.invariant.shrinks

pub returns-then-get-lt-HIT_TWICE-clause-freed : goal.returns-then-get-lt-HIT_TWICE-clause-freed
returns-then-get-lt-HIT_TWICE-clause-freed c =
    let t = c.loop-object.self in
    let p : ℕ × ℕ = (c.in-Some.object, c.in-Some.size) in
    let q : Parted = c.pop_small.new.self in
    let rest : List (ℕ × ℕ) = items_of q.small in
    let main : List (ℕ × ℕ) = items_of t.parts.main in
    let ghosts : List Member = t.parts.ghosts in
    let items : items_of t.parts.small ≡ p ∷ rest = ap items_of c.in-Some.ensures.first in
    let main_is : q.main ≡ t.parts.main = ap (λ (x : Parted). x.main) c.pop_small.ensures.rest in
    let ghosts_are : q.ghosts ≡ ghosts = ap (λ (x : Parted). x.ghosts) c.pop_small.ensures.rest in
    let objects_are : q.objects ≡ t.parts.objects = ap (λ (x : Parted). x.objects) c.pop_small.ensures.rest in
    let queued : AreQueued t.table (p ∷ rest) main ghosts = subst (λ xs. AreQueued t.table xs main ghosts) items c.loop-object.invariant.queued.fading.are in
    let n : Parted = c.push_ghost.new.self in
    omega (
      arith,
      ap queues_used c.fade.ensures.queues,
      queue-bytes c.set.new.self (items_of n.small) (items_of n.main) (fade c.args.most n.ghosts),
      queue-bytes t.table (items_of t.parts.small) main ghosts,
      ap (λ (x : Parted). item_bytes (items_of x.small)) c.push_ghost.ensures,
      ap (λ (x : Parted). item_bytes (items_of x.main)) c.push_ghost.ensures,
      ap (λ ms. item_bytes (items_of ms)) main_is,
      c.loop-object.invariant.used,
      ap item_bytes items,
      sum_by-cons (λ (x : ℕ × ℕ). x.1) p rest,
    )

-- what an object of the small queue has is among its bytes
pub overflow_sub-self : goal.overflow_sub-self
overflow_sub-self c =
    let t = c.loop-object.self in
    let p : ℕ × ℕ = (c.in-Some.object, c.in-Some.size) in
    let q : Parted = c.pop_small.new.self in
    let rest : List (ℕ × ℕ) = items_of q.small in
    let main : List (ℕ × ℕ) = items_of t.parts.main in
    let ghosts : List Member = t.parts.ghosts in
    let items : items_of t.parts.small ≡ p ∷ rest = ap items_of c.in-Some.ensures.first in
    let main_is : q.main ≡ t.parts.main = ap (λ (x : Parted). x.main) c.pop_small.ensures.rest in
    let ghosts_are : q.ghosts ≡ ghosts = ap (λ (x : Parted). x.ghosts) c.pop_small.ensures.rest in
    let objects_are : q.objects ≡ t.parts.objects = ap (λ (x : Parted). x.objects) c.pop_small.ensures.rest in
    let queued : AreQueued t.table (p ∷ rest) main ghosts = subst (λ xs. AreQueued t.table xs main ghosts) items c.loop-object.invariant.queued.fading.are in
    omega (arith, small-bytes t c.loop-object.invariant.queued.fading, ap item_bytes items, sum_by-cons (λ (x : ℕ × ℕ). x.1) p rest)

pub overflow_add-self : goal.overflow_add-self
overflow_add-self c =
    let t = c.loop-object.self in
    let p : ℕ × ℕ = (c.in-Some.object, c.in-Some.size) in
    let q : Parted = c.pop_small.new.self in
    let rest : List (ℕ × ℕ) = items_of q.small in
    let main : List (ℕ × ℕ) = items_of t.parts.main in
    let ghosts : List Member = t.parts.ghosts in
    let items : items_of t.parts.small ≡ p ∷ rest = ap items_of c.in-Some.ensures.first in
    let main_is : q.main ≡ t.parts.main = ap (λ (x : Parted). x.main) c.pop_small.ensures.rest in
    let ghosts_are : q.ghosts ≡ ghosts = ap (λ (x : Parted). x.ghosts) c.pop_small.ensures.rest in
    let objects_are : q.objects ≡ t.parts.objects = ap (λ (x : Parted). x.objects) c.pop_small.ensures.rest in
    let queued : AreQueued t.table (p ∷ rest) main ghosts = subst (λ xs. AreQueued t.table xs main ghosts) items c.loop-object.invariant.queued.fading.are in
    let few : members_size ghosts ≤ 2 ^ 56 = c.loop-object.invariant.queued.few in
    omega (
      arith,
      c.requires.range.1,
      c.loop-object.invariant.queued.fading.ghosts_are,
      queue-bytes t.table (items_of t.parts.small) main ghosts,
      c.loop-object.invariant.used,
      ap item_bytes items,
      sum_by-cons (λ (x : ℕ × ℕ). x.1) p rest,
    )

pub loop-object-smaller : goal.loop-object-smaller
loop-object-smaller c = omega (arith, ap length c.in-Some.ensures.first, ap (λ (x : Parted). length x.small) c.push_main.ensures)

pub loop-object-preserved : goal.loop-object-preserved
loop-object-preserved c =
    let t = c.loop-object.self in
    let p : ℕ × ℕ = (c.in-Some.object, c.in-Some.size) in
    let q : Parted = c.pop_small.new.self in
    let rest : List (ℕ × ℕ) = items_of q.small in
    let main : List (ℕ × ℕ) = items_of t.parts.main in
    let ghosts : List Member = t.parts.ghosts in
    let items : items_of t.parts.small ≡ p ∷ rest = ap items_of c.in-Some.ensures.first in
    let main_is : q.main ≡ t.parts.main = ap (λ (x : Parted). x.main) c.pop_small.ensures.rest in
    let ghosts_are : q.ghosts ≡ ghosts = ap (λ (x : Parted). x.ghosts) c.pop_small.ensures.rest in
    let objects_are : q.objects ≡ t.parts.objects = ap (λ (x : Parted). x.objects) c.pop_small.ensures.rest in
    let queued : AreQueued t.table (p ∷ rest) main ghosts = subst (λ xs. AreQueued t.table xs main ghosts) items c.loop-object.invariant.queued.fading.are in
    let n : Parted = c.push_main.new.self in
    let cells : List ℕ = slice_set t.table p.0 2 in
    let high : 4 ≤ get_or t.table p.0 0 = omega (arith, c.get.ensures, c.if-get-lt-HIT_TWICE.false) in
    let small_now : items_of n.small ≡ rest = ap (λ (x : Parted). items_of x.small) c.push_main.ensures in
    let main_now : items_of n.main ≡ main ++ p ∷ [] = ap (λ (x : Parted). items_of x.main) c.push_main.ensures ∙ items_of-append q.main (member p.0 p.1 ∷ []) ∙ ap (λ ms. items_of ms ++ p ∷ []) main_is in
    let ghosts_now : n.ghosts ≡ ghosts = ap (λ (x : Parted). x.ghosts) c.push_main.ensures ∙ ghosts_are in
    record {
      queued = record {
        fading = is_fading (record { parts = n; table = c.set-in-Some.new.self; small_used = t.small_used - c.in-Some.size; ghosts_used = t.ghosts_used })
            (queued-as cells c.set-in-Some.new.self rest (main ++ p ∷ []) (items_of n.small) (items_of n.main) ghosts n.ghosts c.set-in-Some.ensures small_now main_now ghosts_now (promoted-queued t.table p rest main ghosts queued))
            (omega (arith, small-bytes t c.loop-object.invariant.queued.fading, ap item_bytes items, sum_by-cons (λ (x : ℕ × ℕ). x.1) p rest, ap item_bytes small_now))
            (c.loop-object.invariant.queued.fading.ghosts_are ∙ ap members_size (sym ghosts_now))
            (ap length c.set-in-Some.ensures ∙ length-set t.table p.0 2 ∙ c.loop-object.invariant.queued.fading.each_object ∙ sym (ap (λ (x : Parted). x.objects) c.push_main.ensures ∙ objects_are));
        few = subst (λ ms. members_size ms ≤ 2 ^ 56) (sym ghosts_now) c.loop-object.invariant.queued.few;
      };
      shrinks = ap (λ x. shrink_small c.args.most (counted x (items_of n.small)) (counted x (items_of n.main)) n.ghosts) c.set-in-Some.ensures
          ∙ ap (λ xs. shrink_small c.args.most (counted cells xs) (counted cells (items_of n.main)) n.ghosts) small_now
          ∙ ap (λ xs. shrink_small c.args.most (counted cells rest) (counted cells xs) n.ghosts) main_now
          ∙ ap (shrink_small c.args.most (counted cells rest) (counted cells (main ++ p ∷ []))) ghosts_now
          ∙ promoted-small t.table p rest main ghosts queued c.args.most (le-leb 2 (get_or t.table p.0 0 - 2) (omega arith))
          ∙ ap (λ xs. shrink_small c.args.most (counted t.table xs) (counted t.table main) ghosts) (sym items) ∙ c.loop-object.invariant.shrinks;
      used = omega (
        arith,
        queue-bytes c.set-in-Some.new.self (items_of n.small) (items_of n.main) n.ghosts,
        queue-bytes t.table (items_of t.parts.small) main ghosts,
        ap item_bytes small_now,
        ap item_bytes main_now,
        sum_by_push (λ (x : ℕ × ℕ). x.1) main p,
        c.loop-object.invariant.used,
        ap item_bytes items,
        sum_by-cons (λ (x : ℕ × ℕ). x.1) p rest,
      );
      table = ap length c.set-in-Some.ensures ∙ length-set t.table p.0 2 ∙ c.loop-object.invariant.table;
      few = omega (arith, ap (λ (x : Parted). parts_count x) c.push_main.ensures, count-main q (member p.0 p.1), c.in-Some.ensures.count, c.loop-object.invariant.few);
      room = ap (λ (x : Parted). x.room) c.push_main.ensures ∙ ap (λ (x : Parted). x.room) c.pop_small.ensures.rest ∙ c.loop-object.invariant.room;
    }

-- none is left
pub returns-clause-queues : goal.returns-clause-queues
returns-clause-queues c =
    let t = c.loop-object.self in
    let none : t.parts.small ≡ [] = c.in_default.ensures.first in
    ap (λ (x : Parted). queues_by t.table (items_of x.small) (items_of x.main) x.ghosts) (same-small t.parts c.pop_small.new.self c.pop_small.ensures.rest none)
    ∙ ap (λ ms. queues_by t.table (items_of ms) (items_of t.parts.main) t.parts.ghosts) none
    ∙ ap (λ ms. shrink_small c.args.most (counted t.table (items_of ms)) (counted t.table (items_of t.parts.main)) t.parts.ghosts) (sym none) ∙ c.loop-object.invariant.shrinks

pub returns-clause-freed : goal.returns-clause-freed
returns-clause-freed c =
    let t = c.loop-object.self in
    let same = same-small t.parts c.pop_small.new.self c.pop_small.ensures.rest c.in_default.ensures.first in
    omega (arith, c.loop-object.invariant.used, ap (λ (x : Parted). queues_used (queues_by t.table (items_of x.small) (items_of x.main) x.ghosts)) same)

pub returns-clause-queued : goal.returns-clause-queued
returns-clause-queued c =
    let t = c.loop-object.self in
    let same = same-small t.parts c.pop_small.new.self c.pop_small.ensures.rest c.in_default.ensures.first in
    subst (λ (x : Parted). IsQueued (record { parts = x; table = t.table; small_used = t.small_used; ghosts_used = t.ghosts_used })) (sym same) c.loop-object.invariant.queued

use Rattle.std.proofs.Common.{◌≡◌, ℕ, ◌-◌, ◌<◌, ◌≤◌, ◌^◌, ◌∙◌, sym, refl, ap, subst, List, [], ◌∷◌, ◌++◌, length, get_or, slice_set, arith}
use Rattle.std.proofs.lemmas.List.{length-set}
use Rattle.std.proofs.lemmas.List.Sums.{sum_by-cons, sum_by_push}
use Rattle.policy_model.specs.States.{Member, Entry, member, members_size}
use Rattle.policy_model.specs.S3Fifo.{Queues, shrink_main, turns_of, queues_used}
use Rattle.replay_queues.specs.Items.{items_of}
use Rattle.replay_queues.specs.ThreeParts.{Parted, parts_count}
use Rattle.replay_queues.proofs.PartLemmas.{count-main}
use Rattle.replay_queues.specs.SmallAndMain.{queues_by, queues_at, AreQueued, IsQueued}
use Rattle.replay_queues.proofs.ItemLemmas.{item_bytes}
use Rattle.replay_queues.proofs.LineLemmas.{items_of-append}
use Rattle.replay_queues.proofs.QueueLemmas.{counted, queue-bytes, main-small, backed-queued, dropped-queued}
use Rattle.replay_queues.proofs.QueueAnswers.{is_fading, small-bytes, queued-as, same-main, main-next, main-last, main-less, main-end}
use Rattle.replay_queues.proofs.three_queues.ThreeQueues.shrink_main.Goals as goal

-- the first of the main queue is given up
pub returns-then-cell-le-HELD-clause-queues : goal.returns-then-cell-le-HELD-clause-queues
returns-then-cell-le-HELD-clause-queues c =
    let t = c.loop-object.self in
    let p : ℕ × ℕ = (c.in-Some.object, c.in-Some.size) in
    let q : Parted = c.pop_main.new.self in
    let small : List (ℕ × ℕ) = items_of t.parts.small in
    let rest : List (ℕ × ℕ) = items_of q.main in
    let ghosts : List Member = t.parts.ghosts in
    let items : items_of t.parts.main ≡ p ∷ rest = ap items_of c.in-Some.ensures.first in
    let small_is : q.small ≡ t.parts.small = ap (λ (x : Parted). x.small) c.pop_main.ensures.rest in
    let ghosts_are : q.ghosts ≡ ghosts = ap (λ (x : Parted). x.ghosts) c.pop_main.ensures.rest in
    let objects_are : q.objects ≡ t.parts.objects = ap (λ (x : Parted). x.objects) c.pop_main.ensures.rest in
    let queued : AreQueued t.table small (p ∷ rest) ghosts = subst (λ xs. AreQueued t.table small xs ghosts) items c.loop-object.invariant.queued.fading.are in
    let low : get_or t.table p.0 0 ≤ 2 = omega (arith, c.get-cell.ensures, c.if-cell-le-HELD.true) in
    let of : List Entry → List Entry → List Member → Queues = λ s m g. record { small = s; main = m; ghosts = g } in
    let start = c.args.self.now in
    let last : counted (slice_set t.table p.0 0) rest ≡ shrink_main (turns_of (queues_at start).main) (queues_at start).main =
    main-last t.table small p rest ghosts queued (queues_at t).main c.loop-object.invariant.turns.0 (shrink_main (turns_of (queues_at start).main) (queues_at start).main)
    (ap (counted t.table) items) low c.loop-object.invariant.turns.1 c.loop-object.invariant.turns.2 in
    ap (λ cells. of (counted cells (items_of q.small)) (counted cells rest) q.ghosts) c.set.ensures
    ∙ ap (λ ms. of (counted (slice_set t.table p.0 0) (items_of ms)) (counted (slice_set t.table p.0 0) rest) q.ghosts) small_is
    ∙ ap (λ s. of s (counted (slice_set t.table p.0 0) rest) q.ghosts) (main-small t.table small p rest ghosts queued 0 ∙ c.loop-object.invariant.small)
    ∙ ap (λ m. of (queues_at start).small m q.ghosts) last ∙ ap (of (queues_at start).small (shrink_main (turns_of (queues_at start).main) (queues_at start).main)) (ghosts_are ∙ c.loop-object.invariant.ghosts)

pub returns-then-cell-le-HELD-clause-freed : goal.returns-then-cell-le-HELD-clause-freed
returns-then-cell-le-HELD-clause-freed c =
    let t = c.loop-object.self in
    let p : ℕ × ℕ = (c.in-Some.object, c.in-Some.size) in
    let q : Parted = c.pop_main.new.self in
    let small : List (ℕ × ℕ) = items_of t.parts.small in
    let rest : List (ℕ × ℕ) = items_of q.main in
    let ghosts : List Member = t.parts.ghosts in
    let items : items_of t.parts.main ≡ p ∷ rest = ap items_of c.in-Some.ensures.first in
    let small_is : q.small ≡ t.parts.small = ap (λ (x : Parted). x.small) c.pop_main.ensures.rest in
    let ghosts_are : q.ghosts ≡ ghosts = ap (λ (x : Parted). x.ghosts) c.pop_main.ensures.rest in
    let objects_are : q.objects ≡ t.parts.objects = ap (λ (x : Parted). x.objects) c.pop_main.ensures.rest in
    let queued : AreQueued t.table small (p ∷ rest) ghosts = subst (λ xs. AreQueued t.table small xs ghosts) items c.loop-object.invariant.queued.fading.are in
    omega (
      arith,
      queue-bytes c.set.new.self (items_of q.small) rest q.ghosts,
      queue-bytes t.table small (items_of t.parts.main) ghosts,
      ap (λ ms. item_bytes (items_of ms)) small_is,
      c.loop-object.invariant.used,
      ap item_bytes items,
      sum_by-cons (λ (x : ℕ × ℕ). x.1) p rest,
    )

pub returns-then-cell-le-HELD-clause-queued : goal.returns-then-cell-le-HELD-clause-queued
returns-then-cell-le-HELD-clause-queued c =
    let t = c.loop-object.self in
    let p : ℕ × ℕ = (c.in-Some.object, c.in-Some.size) in
    let q : Parted = c.pop_main.new.self in
    let small : List (ℕ × ℕ) = items_of t.parts.small in
    let rest : List (ℕ × ℕ) = items_of q.main in
    let ghosts : List Member = t.parts.ghosts in
    let items : items_of t.parts.main ≡ p ∷ rest = ap items_of c.in-Some.ensures.first in
    let small_is : q.small ≡ t.parts.small = ap (λ (x : Parted). x.small) c.pop_main.ensures.rest in
    let ghosts_are : q.ghosts ≡ ghosts = ap (λ (x : Parted). x.ghosts) c.pop_main.ensures.rest in
    let objects_are : q.objects ≡ t.parts.objects = ap (λ (x : Parted). x.objects) c.pop_main.ensures.rest in
    let queued : AreQueued t.table small (p ∷ rest) ghosts = subst (λ xs. AreQueued t.table small xs ghosts) items c.loop-object.invariant.queued.fading.are in
    record {
      fading = is_fading (record { parts = q; table = c.set.new.self; small_used = t.small_used; ghosts_used = t.ghosts_used })
          (queued-as (slice_set t.table p.0 0) c.set.new.self small rest (items_of q.small) rest ghosts q.ghosts c.set.ensures (ap items_of small_is) refl ghosts_are (dropped-queued t.table small p rest ghosts queued))
          (small-bytes t c.loop-object.invariant.queued.fading ∙ ap (λ ms. item_bytes (items_of ms)) (sym small_is))
          (c.loop-object.invariant.queued.fading.ghosts_are ∙ ap members_size (sym ghosts_are))
          (ap length c.set.ensures ∙ length-set t.table p.0 0 ∙ c.loop-object.invariant.queued.fading.each_object ∙ sym objects_are);
      few = subst (λ ms. members_size ms ≤ 2 ^ 56) (sym ghosts_are) c.loop-object.invariant.queued.few;
    }

-- the first of the main queue goes to its back
pub loop-object-smaller : goal.loop-object-smaller
loop-object-smaller c =
    let t = c.loop-object.self in
    let p : ℕ × ℕ = (c.in-Some.object, c.in-Some.size) in
    let q : Parted = c.pop_main.new.self in
    let small : List (ℕ × ℕ) = items_of t.parts.small in
    let rest : List (ℕ × ℕ) = items_of q.main in
    let ghosts : List Member = t.parts.ghosts in
    let items : items_of t.parts.main ≡ p ∷ rest = ap items_of c.in-Some.ensures.first in
    let small_is : q.small ≡ t.parts.small = ap (λ (x : Parted). x.small) c.pop_main.ensures.rest in
    let ghosts_are : q.ghosts ≡ ghosts = ap (λ (x : Parted). x.ghosts) c.pop_main.ensures.rest in
    let objects_are : q.objects ≡ t.parts.objects = ap (λ (x : Parted). x.objects) c.pop_main.ensures.rest in
    let queued : AreQueued t.table small (p ∷ rest) ghosts = subst (λ xs. AreQueued t.table small xs ghosts) items c.loop-object.invariant.queued.fading.are in
    let n : Parted = c.push_main.new.self in
    let high : 2 < get_or t.table p.0 0 = omega (arith, c.get-cell.ensures, c.if-cell-le-HELD.false) in
    main-less t.table small p rest ghosts queued high (items_of t.parts.main) items (items_of n.main) c.set-in-Some.new.self
    (c.set-in-Some.ensures ∙ ap (λ n. slice_set t.table p.0 (n - 1)) c.get-cell.ensures) (ap (λ (x : Parted). items_of x.main) c.push_main.ensures ∙ items_of-append q.main (member p.0 p.1 ∷ []))

pub loop-object-preserved : goal.loop-object-preserved
loop-object-preserved c =
    let t = c.loop-object.self in
    let p : ℕ × ℕ = (c.in-Some.object, c.in-Some.size) in
    let q : Parted = c.pop_main.new.self in
    let small : List (ℕ × ℕ) = items_of t.parts.small in
    let rest : List (ℕ × ℕ) = items_of q.main in
    let ghosts : List Member = t.parts.ghosts in
    let items : items_of t.parts.main ≡ p ∷ rest = ap items_of c.in-Some.ensures.first in
    let small_is : q.small ≡ t.parts.small = ap (λ (x : Parted). x.small) c.pop_main.ensures.rest in
    let ghosts_are : q.ghosts ≡ ghosts = ap (λ (x : Parted). x.ghosts) c.pop_main.ensures.rest in
    let objects_are : q.objects ≡ t.parts.objects = ap (λ (x : Parted). x.objects) c.pop_main.ensures.rest in
    let queued : AreQueued t.table small (p ∷ rest) ghosts = subst (λ xs. AreQueued t.table small xs ghosts) items c.loop-object.invariant.queued.fading.are in
    let n : Parted = c.push_main.new.self in
    let cell : ℕ = get_or t.table p.0 0 in
    let high : 2 < get_or t.table p.0 0 = omega (arith, c.get-cell.ensures, c.if-cell-le-HELD.false) in
    let set_is : c.set-in-Some.new.self ≡ slice_set t.table p.0 (get_or t.table p.0 0 - 1) = c.set-in-Some.ensures ∙ ap (λ n. slice_set t.table p.0 (n - 1)) c.get-cell.ensures in
    let small_now : items_of n.small ≡ small = ap (λ (x : Parted). items_of x.small) c.push_main.ensures ∙ ap items_of small_is in
    let main_now : items_of n.main ≡ rest ++ p ∷ [] = ap (λ (x : Parted). items_of x.main) c.push_main.ensures ∙ items_of-append q.main (member p.0 p.1 ∷ []) in
    let ghosts_now : n.ghosts ≡ ghosts = ap (λ (x : Parted). x.ghosts) c.push_main.ensures ∙ ghosts_are in
    let start = c.args.self.now in
    record {
      queued = record {
        fading = is_fading (record { parts = n; table = c.set-in-Some.new.self; small_used = t.small_used; ghosts_used = t.ghosts_used })
            (queued-as (slice_set t.table p.0 (get_or t.table p.0 0 - 1)) c.set-in-Some.new.self small (rest ++ p ∷ []) (items_of n.small) (items_of n.main) ghosts n.ghosts
            set_is small_now main_now ghosts_now (backed-queued t.table small p rest ghosts queued (get_or t.table p.0 0 - 1) (omega arith)))
            (small-bytes t c.loop-object.invariant.queued.fading ∙ ap item_bytes (sym small_now))
            (c.loop-object.invariant.queued.fading.ghosts_are ∙ ap members_size (sym ghosts_now))
            (ap length set_is ∙ length-set t.table p.0 (get_or t.table p.0 0 - 1) ∙ c.loop-object.invariant.queued.fading.each_object ∙ sym (ap (λ (x : Parted). x.objects) c.push_main.ensures ∙ objects_are));
        few = subst (λ ms. members_size ms ≤ 2 ^ 56) (sym ghosts_now) c.loop-object.invariant.queued.few;
      };
      small = ap (λ cells. counted cells (items_of n.small)) set_is ∙ ap (counted (slice_set t.table p.0 (get_or t.table p.0 0 - 1))) small_now ∙ main-small t.table small p rest ghosts queued (get_or t.table p.0 0 - 1) ∙ c.loop-object.invariant.small;
      ghosts = ghosts_now ∙ c.loop-object.invariant.ghosts;
      turns = main-next t.table small p rest ghosts queued high (items_of t.parts.main) items (items_of n.main) c.set-in-Some.new.self set_is main_now
          c.loop-object.invariant.turns.0 (shrink_main (turns_of (queues_at start).main) (queues_at start).main) c.loop-object.invariant.turns.1 c.loop-object.invariant.turns.2;
      used = omega (
        arith,
        queue-bytes c.set-in-Some.new.self (items_of n.small) (items_of n.main) n.ghosts,
        queue-bytes t.table small (items_of t.parts.main) ghosts,
        ap item_bytes small_now,
        ap item_bytes main_now,
        sum_by_push (λ (x : ℕ × ℕ). x.1) rest p,
        c.loop-object.invariant.used,
        ap item_bytes items,
        sum_by-cons (λ (x : ℕ × ℕ). x.1) p rest,
      );
      table = ap length set_is ∙ length-set t.table p.0 (get_or t.table p.0 0 - 1) ∙ c.loop-object.invariant.table;
      few = omega (arith, ap (λ (x : Parted). parts_count x) c.push_main.ensures, count-main q (member p.0 p.1), c.in-Some.ensures.count, c.loop-object.invariant.few);
      room = ap (λ (x : Parted). x.room) c.push_main.ensures ∙ ap (λ (x : Parted). x.room) c.pop_main.ensures.rest ∙ c.loop-object.invariant.room;
    }

-- none is left
pub returns-clause-queues : goal.returns-clause-queues
returns-clause-queues c =
    let t = c.loop-object.self in
    let none : t.parts.main ≡ [] = c.in_default.ensures.first in
    let of : List Entry → List Entry → List Member → Queues = λ s m g. record { small = s; main = m; ghosts = g } in
    let start = c.args.self.now in
    ap (λ (x : Parted). queues_by t.table (items_of x.small) (items_of x.main) x.ghosts) (same-main t.parts c.pop_main.new.self c.pop_main.ensures.rest none)
    ∙ ap (λ ms. queues_by t.table (items_of t.parts.small) (items_of ms) t.parts.ghosts) none
    ∙ ap (λ s. of s [] t.parts.ghosts) c.loop-object.invariant.small
    ∙ ap (λ m. of (queues_at start).small m t.parts.ghosts)
    (main-end c.loop-object.invariant.turns.0 (queues_at t).main (shrink_main (turns_of (queues_at start).main) (queues_at start).main) (ap (λ ms. counted t.table (items_of ms)) none) c.loop-object.invariant.turns.2)
    ∙ ap (of (queues_at start).small (shrink_main (turns_of (queues_at start).main) (queues_at start).main)) c.loop-object.invariant.ghosts

pub returns-clause-freed : goal.returns-clause-freed
returns-clause-freed c =
    let t = c.loop-object.self in
    let same = same-main t.parts c.pop_main.new.self c.pop_main.ensures.rest c.in_default.ensures.first in
    omega (arith, c.loop-object.invariant.used, ap (λ (x : Parted). queues_used (queues_by t.table (items_of x.small) (items_of x.main) x.ghosts)) same)

pub returns-clause-queued : goal.returns-clause-queued
returns-clause-queued c =
    let t = c.loop-object.self in
    let same = same-main t.parts c.pop_main.new.self c.pop_main.ensures.rest c.in_default.ensures.first in
    subst (λ (x : Parted). IsQueued (record { parts = x; table = t.table; small_used = t.small_used; ghosts_used = t.ghosts_used })) (sym same) c.loop-object.invariant.queued

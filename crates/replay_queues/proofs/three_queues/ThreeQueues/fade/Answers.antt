use Rattle.std.proofs.Common.{◌≡◌, ℕ, ◌-◌, ◌<◌, ◌≤◌, ◌∙◌, sym, ap, false, ◌||◌, List, length, drop, get_or, slice_set, arith}
use Rattle.std.proofs.lemmas.Bool.{or_parts}
use Rattle.std.proofs.lemmas.List.{length-set}
use Rattle.std.proofs.lemmas.List.Sums.{sum_by-cons}
use Rattle.policy_model.specs.States.{Member, Entry, member, members_size, has_member}
use Rattle.policy_model.specs.S3Fifo.{Queues, fade}
use Rattle.replay_queues.specs.Items.{items_of}
use Rattle.replay_queues.specs.ThreeParts.{Parted}
use Rattle.replay_queues.specs.SmallAndMain.{queues_at}
use Rattle.replay_queues.proofs.ItemLemmas.{item_bytes}
use Rattle.replay_queues.proofs.QueueLemmas.{counted, fade-done}
use Rattle.replay_queues.proofs.QueueAnswers.{is_fading, small-bytes, queued-as, fade-queued, fade-small, fade-main, fade-turn, some-ghost}
use Rattle.replay_queues.proofs.three_queues.ThreeQueues.fade.Goals as goal

pub pop_ghost-object-requires : goal.pop_ghost-object-requires
pop_ghost-object-requires c =
    let t = c.loop-self.self in
    record { some = some-ghost c.args.most t.parts.ghosts (omega (arith, c.loop-self.invariant.fading.ghosts_are, c.loop-self-test.true)) }

-- the bytes that leave are among those of the ghosts
pub overflow_sub-self : goal.overflow_sub-self
overflow_sub-self c =
    let t = c.loop-self.self in
    omega (arith, c.loop-self.invariant.fading.ghosts_are, ap members_size c.pop_ghost-object.ensures.first, sum_by-cons (λ (m : Member). m.size) (member c.pop_ghost-object.result.0 c.pop_ghost-object.result.1) c.pop_ghost-object.new.self.ghosts)

pub loop-self-preserved : goal.loop-self-preserved
loop-self-preserved c =
    let t = c.loop-self.self in
    let k : ℕ = c.pop_ghost-object.result.0 in
    let n : Parted = c.pop_ghost-object.new.self in
    let old : List Member = t.parts.ghosts in
    let small : List (ℕ × ℕ) = items_of t.parts.small in
    let main : List (ℕ × ℕ) = items_of t.parts.main in
    let many : c.args.most < members_size old = omega (arith, c.loop-self.invariant.fading.ghosts_are, c.loop-self-test.true) in
    let some : 0 < length old = some-ghost c.args.most old many in
    let rest : n.ghosts ≡ drop 1 old = ap (λ (q : Parted). q.ghosts) c.pop_ghost-object.ensures.rest in
    let small_is : items_of n.small ≡ small = ap (λ (q : Parted). items_of q.small) c.pop_ghost-object.ensures.rest in
    let main_is : items_of n.main ≡ main = ap (λ (q : Parted). items_of q.main) c.pop_ghost-object.ensures.rest in
    let first : k ≡ (get_or old 0 (member 0 0)).object = sym (ap (λ ms. (get_or ms 0 (member 0 0)).object) c.pop_ghost-object.ensures.first) in
    let later : (has_member n.main k || has_member n.ghosts k) ≡ false = (or_parts (has_member n.small k) (has_member n.main k || has_member n.ghosts k) c.pop_ghost-object.ensures.absent).1 in
    let alone : has_member (drop 1 old) k ≡ false = ap (λ ms. has_member ms k) (sym rest) ∙ (or_parts (has_member n.main k) (has_member n.ghosts k) later).1 in
    record {
      entries_small = ap (λ cells. counted cells (items_of n.small)) c.set.ensures ∙ ap (counted (slice_set t.table k 0)) small_is ∙ fade-small t.table small main old k c.loop-self.invariant.fading.are some first ∙ c.loop-self.invariant.entries_small;
      entries_main = ap (λ cells. counted cells (items_of n.main)) c.set.ensures ∙ ap (counted (slice_set t.table k 0)) main_is ∙ fade-main t.table small main old k c.loop-self.invariant.fading.are some first ∙ c.loop-self.invariant.entries_main;
      fading = is_fading (record { parts = n; table = c.set.new.self; small_used = t.small_used; ghosts_used = t.ghosts_used - c.pop_ghost-object.result.1 })
          (queued-as (slice_set t.table k 0) c.set.new.self small main (items_of n.small) (items_of n.main) (drop 1 old) n.ghosts c.set.ensures small_is main_is rest
          (fade-queued t.table small main old k c.loop-self.invariant.fading.are some first alone))
          (small-bytes t c.loop-self.invariant.fading ∙ ap item_bytes (sym small_is))
          (omega (arith, c.loop-self.invariant.fading.ghosts_are, ap members_size c.pop_ghost-object.ensures.first, sum_by-cons (λ (m : Member). m.size) (member k c.pop_ghost-object.result.1) n.ghosts))
          (ap length c.set.ensures ∙ length-set t.table k 0 ∙ c.loop-self.invariant.fading.each_object ∙ sym (ap (λ (q : Parted). q.objects) c.pop_ghost-object.ensures.rest));
      fades = ap (fade c.args.most) rest ∙ fade-turn c.args.most old many ∙ c.loop-self.invariant.fades;
      table = ap length c.set.ensures ∙ length-set t.table k 0 ∙ c.loop-self.invariant.table;
      few = omega (arith, c.pop_ghost-object.ensures.count, c.loop-self.invariant.few);
      room = ap (λ (q : Parted). q.room) c.pop_ghost-object.ensures.rest ∙ c.loop-self.invariant.room;
    }

pub returns-clause-queues : goal.returns-clause-queues
returns-clause-queues c =
    let t = c.loop-self.self in
    let old : List Member = t.parts.ghosts in
    let few : members_size old ≤ c.args.most = omega (arith, c.loop-self.invariant.fading.ghosts_are, c.loop-self-test.false) in
    let of : List Entry → List Entry → List Member → Queues = λ s m g. record { small = s; main = m; ghosts = g } in
    let start = c.args.self.now in
    ap (λ es. of es (queues_at t).main old) c.loop-self.invariant.entries_small ∙ ap (λ es. of (queues_at start).small es old) c.loop-self.invariant.entries_main
    ∙ ap (of (queues_at start).small (queues_at start).main) (sym (fade-done c.args.most old few) ∙ c.loop-self.invariant.fades)

pub returns-clause-queued : goal.returns-clause-queued
returns-clause-queued c =
    let few : members_size c.loop-self.self.parts.ghosts ≤ c.args.most = omega (arith, c.loop-self.invariant.fading.ghosts_are, c.loop-self-test.false) in
    record { fading = c.loop-self.invariant.fading; few = omega (arith, c.requires.range) }

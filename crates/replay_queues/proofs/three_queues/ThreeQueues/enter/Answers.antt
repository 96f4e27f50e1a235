use Rattle.std.proofs.Common.{◌≡◌, ℕ, ◌+◌, ◌-◌, ◌≤◌, ◌^◌, ◌∙◌, sym, ap, subst, true, false, ◌||◌, List, [], ◌∷◌, ◌++◌, length, slice_set, arith}
use Rattle.std.proofs.lemmas.Bool.{eq-eqb, ne_eqb, or_from, or_right}
use Rattle.std.proofs.lemmas.List.{length-set}
use Rattle.std.proofs.lemmas.List.Sums.{sum_by_push}
use Rattle.policy_model.specs.States.{member, members_size, has_member}
use Rattle.policy_model.specs.Leaving.{without_member}
use Rattle.replay_queues.specs.Items.{items_of}
use Rattle.replay_queues.specs.ThreeParts.{Parted, has_part}
use Rattle.replay_queues.specs.SmallAndMain.{is_ghost, queues_by}
use Rattle.replay_queues.proofs.ItemLemmas.{item_bytes}
use Rattle.replay_queues.proofs.LineLemmas.{items_of-append, members-but-none, has_member-gone}
use Rattle.replay_queues.proofs.QueueLemmas.{ghost-queued, ghost-entered, other-queued, other-entered, filtered-size}
use Rattle.replay_queues.proofs.QueueAnswers.{is_fading, small-bytes, queued-as, not-in}
use Rattle.replay_queues.proofs.three_queues.ThreeQueues.enter.Goals as goal

pub remove-requires : goal.remove-requires
remove-requires c =
    let t = c.args.self.now in
    let k : ℕ = c.args.object in
    let small : List (ℕ × ℕ) = items_of t.parts.small in
    let main : List (ℕ × ℕ) = items_of t.parts.main in
    let none : (has_member t.parts.small k ≡ false) × (has_member t.parts.main k ≡ false) = not-in t c.requires.queued k c.requires.absent in
    let there : has_member t.parts.ghosts k ≡ true = sym (c.requires.queued.fading.are.gone k) ∙ ap is_ghost (sym c.get-is_ghost.ensures) ∙ eq-eqb c.get-is_ghost.result 1 c.if-is_ghost.true in
    record { there = or_right (has_member t.parts.small k) (has_member t.parts.main k || has_member t.parts.ghosts k) (or_right (has_member t.parts.main k) (has_member t.parts.ghosts k) there) }

-- what a ghost has is among the bytes of the ghosts
pub overflow_sub-self : goal.overflow_sub-self
overflow_sub-self c =
    let t = c.args.self.now in
    let k : ℕ = c.args.object in
    let small : List (ℕ × ℕ) = items_of t.parts.small in
    let main : List (ℕ × ℕ) = items_of t.parts.main in
    let none : (has_member t.parts.small k ≡ false) × (has_member t.parts.main k ≡ false) = not-in t c.requires.queued k c.requires.absent in
    let there : has_member t.parts.ghosts k ≡ true = sym (c.requires.queued.fading.are.gone k) ∙ ap is_ghost (sym c.get-is_ghost.ensures) ∙ eq-eqb c.get-is_ghost.result 1 c.if-is_ghost.true in
    let q : Parted = c.remove.new.self in
    let small_is : q.small ≡ t.parts.small = ap (λ (x : Parted). x.small) c.remove.ensures.rest ∙ members-but-none k t.parts.small none.0 in
    let main_is : q.main ≡ t.parts.main = ap (λ (x : Parted). x.main) c.remove.ensures.rest ∙ members-but-none k t.parts.main none.1 in
    let ghosts_are : q.ghosts ≡ without_member k t.parts.ghosts = ap (λ (x : Parted). x.ghosts) c.remove.ensures.rest in
    let objects_are : q.objects ≡ t.parts.objects = ap (λ (x : Parted). x.objects) c.remove.ensures.rest in
    omega (arith, c.requires.queued.fading.ghosts_are, c.remove.ensures.size, ap members_size small_is, ap members_size main_is)

pub push_main-requires-clause-absent : goal.push_main-requires-clause-absent
push_main-requires-clause-absent c =
    let t = c.args.self.now in
    let k : ℕ = c.args.object in
    ap (λ (x : Parted). has_part x k) c.remove.ensures.rest ∙ or_from _ _ (has_member-gone k t.parts.small) (or_from _ _ (has_member-gone k t.parts.main) (has_member-gone k t.parts.ghosts))

pub returns-then-is_ghost-clause-queues : goal.returns-then-is_ghost-clause-queues
returns-then-is_ghost-clause-queues c =
    let t = c.args.self.now in
    let k : ℕ = c.args.object in
    let small : List (ℕ × ℕ) = items_of t.parts.small in
    let main : List (ℕ × ℕ) = items_of t.parts.main in
    let none : (has_member t.parts.small k ≡ false) × (has_member t.parts.main k ≡ false) = not-in t c.requires.queued k c.requires.absent in
    let there : has_member t.parts.ghosts k ≡ true = sym (c.requires.queued.fading.are.gone k) ∙ ap is_ghost (sym c.get-is_ghost.ensures) ∙ eq-eqb c.get-is_ghost.result 1 c.if-is_ghost.true in
    let q : Parted = c.remove.new.self in
    let small_is : q.small ≡ t.parts.small = ap (λ (x : Parted). x.small) c.remove.ensures.rest ∙ members-but-none k t.parts.small none.0 in
    let main_is : q.main ≡ t.parts.main = ap (λ (x : Parted). x.main) c.remove.ensures.rest ∙ members-but-none k t.parts.main none.1 in
    let ghosts_are : q.ghosts ≡ without_member k t.parts.ghosts = ap (λ (x : Parted). x.ghosts) c.remove.ensures.rest in
    let objects_are : q.objects ≡ t.parts.objects = ap (λ (x : Parted). x.objects) c.remove.ensures.rest in
    let n : Parted = c.push_main.new.self in
    let cells : List ℕ = slice_set t.table k 2 in
    ap (λ cs. queues_by cs (items_of n.small) (items_of n.main) n.ghosts) c.set.ensures
    ∙ ap (λ (x : Parted). queues_by cells (items_of x.small) (items_of x.main) x.ghosts) c.push_main.ensures
    ∙ ap (λ xs. queues_by cells (items_of q.small) xs q.ghosts) (items_of-append q.main (member k c.args.size ∷ []))
    ∙ ap (λ ms. queues_by cells (items_of ms) (items_of q.main ++ (k, c.args.size) ∷ []) q.ghosts) small_is
    ∙ ap (λ ms. queues_by cells small (items_of ms ++ (k, c.args.size) ∷ []) q.ghosts) main_is
    ∙ ap (queues_by cells small (main ++ (k, c.args.size) ∷ [])) ghosts_are
    ∙ ghost-entered t.table small main t.parts.ghosts c.requires.queued.fading.are k c.args.size c.requires.known c.requires.absent there

pub returns-then-is_ghost-clause-queued : goal.returns-then-is_ghost-clause-queued
returns-then-is_ghost-clause-queued c =
    let t = c.args.self.now in
    let k : ℕ = c.args.object in
    let small : List (ℕ × ℕ) = items_of t.parts.small in
    let main : List (ℕ × ℕ) = items_of t.parts.main in
    let none : (has_member t.parts.small k ≡ false) × (has_member t.parts.main k ≡ false) = not-in t c.requires.queued k c.requires.absent in
    let there : has_member t.parts.ghosts k ≡ true = sym (c.requires.queued.fading.are.gone k) ∙ ap is_ghost (sym c.get-is_ghost.ensures) ∙ eq-eqb c.get-is_ghost.result 1 c.if-is_ghost.true in
    let q : Parted = c.remove.new.self in
    let small_is : q.small ≡ t.parts.small = ap (λ (x : Parted). x.small) c.remove.ensures.rest ∙ members-but-none k t.parts.small none.0 in
    let main_is : q.main ≡ t.parts.main = ap (λ (x : Parted). x.main) c.remove.ensures.rest ∙ members-but-none k t.parts.main none.1 in
    let ghosts_are : q.ghosts ≡ without_member k t.parts.ghosts = ap (λ (x : Parted). x.ghosts) c.remove.ensures.rest in
    let objects_are : q.objects ≡ t.parts.objects = ap (λ (x : Parted). x.objects) c.remove.ensures.rest in
    let n : Parted = c.push_main.new.self in
    let small_now : items_of n.small ≡ small = ap (λ (x : Parted). items_of x.small) c.push_main.ensures ∙ ap items_of small_is in
    let main_now : items_of n.main ≡ main ++ (k, c.args.size) ∷ [] = ap (λ (x : Parted). items_of x.main) c.push_main.ensures ∙ items_of-append q.main (member k c.args.size ∷ []) ∙ ap (λ ms. items_of ms ++ (k, c.args.size) ∷ []) main_is in
    let ghosts_now : n.ghosts ≡ without_member k t.parts.ghosts = ap (λ (x : Parted). x.ghosts) c.push_main.ensures ∙ ghosts_are in
    record {
      fading = is_fading (record { parts = n; table = c.set.new.self; small_used = t.small_used; ghosts_used = t.ghosts_used - c.remove.result })
          (queued-as (slice_set t.table k 2) c.set.new.self small (main ++ (k, c.args.size) ∷ []) (items_of n.small) (items_of n.main) (without_member k t.parts.ghosts) n.ghosts
          c.set.ensures small_now main_now ghosts_now (ghost-queued t.table small main t.parts.ghosts c.requires.queued.fading.are k c.args.size c.requires.known c.requires.absent))
          (small-bytes t c.requires.queued.fading ∙ ap item_bytes (sym small_now))
          (omega (arith, c.requires.queued.fading.ghosts_are, c.remove.ensures.size, ap members_size small_is, ap members_size main_is, ap (λ (x : Parted). members_size x.ghosts) c.push_main.ensures))
          (ap length c.set.ensures ∙ length-set t.table k 2 ∙ c.requires.queued.fading.each_object ∙ sym (ap (λ (x : Parted). x.objects) c.push_main.ensures ∙ objects_are));
      few = (let few : members_size t.parts.ghosts ≤ 2 ^ 56 = c.requires.queued.few in omega (arith, ap members_size ghosts_now, filtered-size t.parts.ghosts k));
    }

pub push_small-requires-clause-absent : goal.push_small-requires-clause-absent
push_small-requires-clause-absent c =
    let t = c.args.self.now in
    let k : ℕ = c.args.object in
    let small : List (ℕ × ℕ) = items_of t.parts.small in
    let main : List (ℕ × ℕ) = items_of t.parts.main in
    let none : (has_member t.parts.small k ≡ false) × (has_member t.parts.main k ≡ false) = not-in t c.requires.queued k c.requires.absent in
    let alone : has_member t.parts.ghosts k ≡ false = sym (c.requires.queued.fading.are.gone k) ∙ ap is_ghost (sym c.get-is_ghost.ensures) ∙ ne_eqb c.get-is_ghost.result 1 c.if-is_ghost.false in
    or_from _ _ none.0 (or_from _ _ none.1 alone)

pub returns-clause-queues : goal.returns-clause-queues
returns-clause-queues c =
    let t = c.args.self.now in
    let k : ℕ = c.args.object in
    let small : List (ℕ × ℕ) = items_of t.parts.small in
    let main : List (ℕ × ℕ) = items_of t.parts.main in
    let none : (has_member t.parts.small k ≡ false) × (has_member t.parts.main k ≡ false) = not-in t c.requires.queued k c.requires.absent in
    let alone : has_member t.parts.ghosts k ≡ false = sym (c.requires.queued.fading.are.gone k) ∙ ap is_ghost (sym c.get-is_ghost.ensures) ∙ ne_eqb c.get-is_ghost.result 1 c.if-is_ghost.false in
    let n : Parted = c.push_small.new.self in
    let cells : List ℕ = slice_set t.table k 2 in
    ap (λ cs. queues_by cs (items_of n.small) (items_of n.main) n.ghosts) c.set.ensures
    ∙ ap (λ (x : Parted). queues_by cells (items_of x.small) (items_of x.main) x.ghosts) c.push_small.ensures
    ∙ ap (λ xs. queues_by cells xs main t.parts.ghosts) (items_of-append t.parts.small (member k c.args.size ∷ []))
    ∙ other-entered t.table small main t.parts.ghosts c.requires.queued.fading.are k c.args.size c.requires.known c.requires.absent alone

pub returns-clause-queued : goal.returns-clause-queued
returns-clause-queued c =
    let t = c.args.self.now in
    let k : ℕ = c.args.object in
    let small : List (ℕ × ℕ) = items_of t.parts.small in
    let main : List (ℕ × ℕ) = items_of t.parts.main in
    let none : (has_member t.parts.small k ≡ false) × (has_member t.parts.main k ≡ false) = not-in t c.requires.queued k c.requires.absent in
    let alone : has_member t.parts.ghosts k ≡ false = sym (c.requires.queued.fading.are.gone k) ∙ ap is_ghost (sym c.get-is_ghost.ensures) ∙ ne_eqb c.get-is_ghost.result 1 c.if-is_ghost.false in
    let n : Parted = c.push_small.new.self in
    let small_now : items_of n.small ≡ small ++ (k, c.args.size) ∷ [] = ap (λ (x : Parted). items_of x.small) c.push_small.ensures ∙ items_of-append t.parts.small (member k c.args.size ∷ []) in
    let ghosts_now : n.ghosts ≡ t.parts.ghosts = ap (λ (x : Parted). x.ghosts) c.push_small.ensures in
    record {
      fading = is_fading (record { parts = n; table = c.set.new.self; small_used = t.small_used + c.args.size; ghosts_used = t.ghosts_used })
          (queued-as (slice_set t.table k 2) c.set.new.self (small ++ (k, c.args.size) ∷ []) main (items_of n.small) (items_of n.main) t.parts.ghosts n.ghosts
          c.set.ensures small_now (ap (λ (x : Parted). items_of x.main) c.push_small.ensures) ghosts_now (other-queued t.table small main t.parts.ghosts c.requires.queued.fading.are k c.args.size c.requires.known c.requires.absent alone))
          (omega (arith, small-bytes t c.requires.queued.fading, ap item_bytes small_now, sum_by_push (λ (x : ℕ × ℕ). x.1) small (k, c.args.size)))
          (c.requires.queued.fading.ghosts_are ∙ ap members_size (sym ghosts_now))
          (ap length c.set.ensures ∙ length-set t.table k 2 ∙ c.requires.queued.fading.each_object ∙ sym (ap (λ (x : Parted). x.objects) c.push_small.ensures));
      few = subst (λ ms. members_size ms ≤ 2 ^ 56) (sym ghosts_now) c.requires.queued.few;
    }

-- The queues of S3-FIFO, as room is made for more objects.
use Rattle.std.proofs.Common.{◌≡◌, ℕ, ◌≤◌, ◌∙◌, sym, ap, subst, false, cond, eqb, List, [], ◌∷◌, ◌++◌, length, get_or, replicate}
use Rattle.std.proofs.lemmas.Bool.{eq-eqb, or_parts}
use Rattle.policy_model.specs.States.{Member, Entry, Apart, has_entry, has_member, used}
use Rattle.policy_model.specs.S3Fifo.{Queues, queues_used}
use Rattle.policy_model.proofs.S3FifoSound.{queue_entries}
use Rattle.replay_queues.specs.Items.{items_of}
use Rattle.replay_queues.specs.Lines.{Lined, first_of}
use Rattle.replay_queues.specs.ThreeParts.{Parted, parts_of, IsParts}
use Rattle.replay_queues.specs.SmallAndMain.{is_ghost, is_kept, counted_entry, queues_at, AreQueued, IsQueued, IsS3Fifo}
use Rattle.replay_queues.specs.declared.three_queues.ThreeQueues.{ThreeQueues}
use Rattle.replay_queues.proofs.LineLemmas.{has_member-append}
use Rattle.replay_queues.proofs.PartLemmas.{cut-parts, are-parts, line-parts, main-first}
use Rattle.replay_queues.proofs.QueueLemmas.{counted}
use Rattle.replay_queues.proofs.RoomLemmas.{grown-cell, grown-entries}
use Rattle.replay_queues.proofs.S3FifoAnswers.{kept-entry}

-- ---- three parts
-- how much room there is changes none of them
pub parts-roomy : (l : Lined) (main ghosts room : ℕ) (places : List ℕ) → IsParts l main ghosts places → IsParts (record l { room = room }) main ghosts places
parts-roomy l main ghosts room places is = record {
  once = is.once;
  none_apart = is.none_apart;
  main_is = is.main_is;
  ghosts_is = is.ghosts_is;
  each_object = is.each_object;
  small_is = is.small_is;
}

-- where a part begins, once another number is that for none
renumbered : (none objects first : ℕ) (ms : List Member) → first ≡ first_of none ms → has_member ms none ≡ false → cond (eqb first none) objects first ≡ first_of objects ms
renumbered none objects first [] is apart = ap (λ t. cond t objects first) (eq-eqb first none is)
renumbered none objects first (m ∷ rest) is apart = ap (λ t. cond t objects first) (ap (λ j. eqb j none) is ∙ (or_parts _ _ apart).0) ∙ is

module _ (l : Lined) (main ghosts : ℕ) (places : List ℕ) (is : IsParts l main ghosts places) (objects n room : ℕ) (past : has_member l.members objects ≡ false) (main_after ghosts_after : ℕ) (main_is : main_after ≡ cond (eqb main l.objects) objects main) (ghosts_is : ghosts_after ≡ cond (eqb ghosts l.objects) objects ghosts) where
  abbrev q : Parted
  q = parts_of l main ghosts

  abbrev more : Lined
  more = record { objects = objects; members = l.members; room = room }

  no_later : (has_member q.small l.objects ≡ false) × (has_member (q.main ++ q.ghosts) l.objects ≡ false)
  no_later = or_parts _ _ (sym (has_member-append q.small (q.main ++ q.ghosts) l.objects) ∙ ap (λ ms. has_member ms l.objects) (sym (line-parts l main ghosts places is)) ∙ is.none_apart)

  no_ghost : has_member q.ghosts l.objects ≡ false
  no_ghost = (or_parts _ _ (sym (has_member-append q.main q.ghosts l.objects) ∙ no_later.1)).1

  main_first : main_after ≡ first_of objects (q.main ++ q.ghosts)
  main_first = main_is ∙ renumbered l.objects objects main (q.main ++ q.ghosts) (main-first l main ghosts places is) no_later.1

  ghosts_first : ghosts_after ≡ first_of objects q.ghosts
  ghosts_first = ghosts_is ∙ renumbered l.objects objects ghosts q.ghosts is.ghosts_is no_ghost

  pub grown-parts : (new : Lined) → new ≡ more → parts_of new main_after ghosts_after ≡ record q { objects = objects; room = room }
  grown-parts new line =
      ap (λ (g : Lined). parts_of g main_after ghosts_after) line
      ∙ cut-parts more main_after ghosts_after q.small q.main q.ghosts (line-parts l main ghosts places is) is.once past main_first ghosts_first

  pub grown-parts-are : (new : Lined) → new ≡ more → length (places ++ replicate n 0) ≡ objects → IsParts new main_after ghosts_after (places ++ replicate n 0)
  grown-parts-are new line long =
      subst (λ (g : Lined). IsParts g main_after ghosts_after (places ++ replicate n 0)) (sym line)
      (are-parts more main_after ghosts_after q.small q.main q.ghosts (line-parts l main ghosts places is) is.once past main_first ghosts_first (places ++ replicate n 0) long
      (λ k. ap (λ c. eqb c 1) (grown-cell places n k) ∙ is.small_is k))

-- ---- the queues
grown-queued : (cells : List ℕ) (n : ℕ) (small main : List (ℕ × ℕ)) (ghosts : List Member) → AreQueued cells small main ghosts → AreQueued (cells ++ replicate n 0) small main ghosts
grown-queued cells n small main ghosts queued = record {
  apart = subst Apart
      (ap (λ es. es ++ counted cells main) (sym (grown-entries counted_entry cells n small)) ∙ ap (λ es. counted (cells ++ replicate n 0) small ++ es) (sym (grown-entries counted_entry cells n main)))
      queued.apart;
  known = λ k. ap is_kept (grown-cell cells n k) ∙ queued.known k;
  gone = λ k. ap is_ghost (grown-cell cells n k) ∙ queued.gone k;
}

module _ (t : ThreeQueues) (is : IsQueued t) (objects n room : ℕ) (long : length (t.table ++ replicate n 0) ≡ objects) where
  abbrev with_room : ThreeQueues
  with_room = record { parts = record t.parts { objects = objects; room = room }; table = t.table ++ replicate n 0; small_used = t.small_used; ghosts_used = t.ghosts_used }

  room-queues : queues_at with_room ≡ queues_at t
  room-queues =
      let of : List Entry → List Entry → Queues = λ small main. record { small = small; main = main; ghosts = t.parts.ghosts } in
      ap (λ es. of es (counted (t.table ++ replicate n 0) (items_of t.parts.main))) (grown-entries counted_entry t.table n (items_of t.parts.small))
      ∙ ap (of (counted t.table (items_of t.parts.small))) (grown-entries counted_entry t.table n (items_of t.parts.main))

  room-is : IsQueued with_room
  room-is = record {
    fading = record {
      are = grown-queued t.table n (items_of t.parts.small) (items_of t.parts.main) t.parts.ghosts is.fading.are;
      small_is = is.fading.small_is ∙ ap used (sym (grown-entries counted_entry t.table n (items_of t.parts.small)));
      ghosts_are = is.fading.ghosts_are;
      each_object = long;
    };
    few = is.few;
  }

  module _ (parts : Parted) (table : List ℕ) (parts_is : parts ≡ record t.parts { objects = objects; room = room }) (table_is : table ≡ t.table ++ replicate n 0) where
    abbrev new : ThreeQueues
    new = record { parts = parts; table = table; small_used = t.small_used; ghosts_used = t.ghosts_used }

    new_is : new ≡ with_room
    new_is =
        let of : Parted → List ℕ → ThreeQueues = λ p cells. record { parts = p; table = cells; small_used = t.small_used; ghosts_used = t.ghosts_used } in
        ap (λ p. of p table) parts_is ∙ ap (of (record t.parts { objects = objects; room = room })) table_is

    pub grown-queues : queues_at new ≡ queues_at t
    grown-queues = ap queues_at new_is ∙ room-queues

    pub grown-is : IsQueued new
    grown-is = subst IsQueued (sym new_is) room-is

-- what was counted is so with more room
pub reached-s3fifo : (objects capacity in_use : ℕ) (t larger : ThreeQueues) → IsS3Fifo objects capacity in_use t → queues_at larger ≡ queues_at t → length larger.table ≤ objects → IsQueued larger → IsS3Fifo objects capacity in_use larger
reached-s3fifo objects capacity in_use t larger is queues within queued = record {
  range = is.range;
  within = within;
  in_use_is = is.in_use_is ∙ ap (λ (q : Queues). queues_used q) (sym queues);
  fits = is.fits;
  queued = queued;
}

-- an object that is not held isn't with more room
pub reached-out : (t larger : ThreeQueues) → IsQueued t → IsQueued larger → queues_at larger ≡ queues_at t → (k : ℕ) → is_kept (get_or t.table k 0) ≡ false → is_kept (get_or larger.table k 0) ≡ false
reached-out t larger is queued queues k absent =
    kept-entry larger.table (items_of larger.parts.small) (items_of larger.parts.main) larger.parts.ghosts queued.fading.are k ∙ ap (λ q. has_entry (queue_entries q) k) queues
    ∙ sym (kept-entry t.table (items_of t.parts.small) (items_of t.parts.main) t.parts.ghosts is.fading.are k) ∙ absent

-- The queues of S3-FIFO once an object has left that the rule did not give up.
use Rattle.std.proofs.Common.{◌≡◌, ℕ, ◌≤◌, ◌∙◌, sym, refl, ap, subst, true, false, ◌||◌, eqb, List, ◌++◌, get_or, set, arith}
use Rattle.std.proofs.lemmas.Bool.{or_from, or_parts, leb-true}
use Rattle.policy_model.specs.States.{Member, Entry, Apart}
use Rattle.policy_model.specs.S3Fifo.{Queues}
use Rattle.policy_model.specs.Steps.{without_entry}
use Rattle.policy_model.specs.Leaving.{without_member, queues_without}
use Rattle.policy_model.proofs.Entries.{Apart-without, without-none}
use Rattle.policy_model.proofs.Leavings.{without-append}
use Rattle.replay_queues.specs.Items.{has_item, items_of}
use Rattle.replay_queues.specs.SmallAndMain.{is_kept, counted_entry, queues_by, AreQueued}
use Rattle.replay_queues.proofs.LineLemmas.{has_item-of, has_member-gone, has_member-others, entries-but}
use Rattle.replay_queues.proofs.ItemLemmas.{within_cells}
use Rattle.replay_queues.proofs.QueueLemmas.{counted, counted-items, queued-set, not_ghost}

module _ (cells : List ℕ) (small main ghosts : List Member) (queued : AreQueued cells (items_of small) (items_of main) ghosts) (k : ℕ) (there : is_kept (get_or cells k 0) ≡ true) where
  gone-other : (ms : List Member) (j : ℕ) → eqb j k ≡ false → has_item (items_of ms) j ≡ has_item (items_of (without_member k ms)) j
  gone-other ms j differs = has_item-of ms j ∙ sym (has_member-others k j ms differs) ∙ sym (has_item-of (without_member k ms) j)

  gone-here : (ms : List Member) → has_item (items_of (without_member k ms)) k ≡ false
  gone-here ms = has_item-of (without_member k ms) k ∙ has_member-gone k ms

  pub gone-queued : AreQueued (set cells k 0) (items_of (without_member k small)) (items_of (without_member k main)) ghosts
  gone-queued =
      let kept : 2 ≤ get_or cells k 0 = leb-true 2 (get_or cells k 0) there in
      queued-set cells (items_of small) (items_of main) ghosts queued k 0 (within_cells cells k (omega arith)) (items_of (without_member k small)) (items_of (without_member k main)) ghosts
      (sym (or_from _ _ (gone-here small) (gone-here main)))
      (sym (not_ghost (get_or cells k 0) kept) ∙ queued.gone k)
      (λ j differs. ap (λ b. b || has_item (items_of main) j) (gone-other small j differs) ∙ ap (λ b. has_item (items_of (without_member k small)) j || b) (gone-other main j differs))
      (λ j differs. refl)
      (subst Apart
      (without-append k (counted cells (items_of small)) (counted cells (items_of main))
      ∙ ap (λ es. es ++ without_entry k (counted cells (items_of main))) (sym (entries-but counted_entry (λ c p. refl) cells k 0 small))
      ∙ ap (λ es. counted (set cells k 0) (items_of (without_member k small)) ++ es) (sym (entries-but counted_entry (λ c p. refl) cells k 0 main)))
      (Apart-without k (counted cells (items_of small) ++ counted cells (items_of main)) queued.apart))

  pub gone-queues : queues_by (set cells k 0) (items_of (without_member k small)) (items_of (without_member k main)) ghosts ≡ queues_without k (queues_by cells (items_of small) (items_of main) ghosts)
  gone-queues =
      let of : List Entry → List Entry → Queues = λ s m. record { small = s; main = m; ghosts = ghosts } in
      ap (λ es. of es (counted (set cells k 0) (items_of (without_member k main)))) (entries-but counted_entry (λ c p. refl) cells k 0 small)
      ∙ ap (of (without_entry k (counted cells (items_of small)))) (entries-but counted_entry (λ c p. refl) cells k 0 main)

pub none-gone : (k : ℕ) (cells : List ℕ) (small main ghosts : List Member) → AreQueued cells (items_of small) (items_of main) ghosts → is_kept (get_or cells k 0) ≡ false → queues_by cells (items_of small) (items_of main) ghosts ≡ queues_without k (queues_by cells (items_of small) (items_of main) ghosts)
none-gone k cells small main ghosts queued absent =
    let parts : (has_item (items_of small) k ≡ false) × (has_item (items_of main) k ≡ false) = or_parts _ _ (sym (queued.known k) ∙ absent) in
    let of : List Entry → List Entry → Queues = λ s m. record { small = s; main = m; ghosts = ghosts } in
    let s : List Entry = counted cells (items_of small) in
    let m : List Entry = counted cells (items_of main) in
    ap (λ es. of es m) (sym (without-none k s (counted-items cells (items_of small) k ∙ parts.0))) ∙ ap (of (without_entry k s)) (sym (without-none k m (counted-items cells (items_of main) k ∙ parts.1)))

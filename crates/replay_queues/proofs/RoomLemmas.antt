-- Bytes and entries, as room is made for more objects.
use Rattle.std.proofs.Common.{◌≡◌, ℕ, zero, suc, ◌-◌, ◌<◌, ◌≤◌, ◌∙◌, sym, refl, ap, subst, ⊎_elim, false, List, [], ◌∷◌, ◌++◌, length, get_or, replicate, Ok, Err, None, IfOk, OnErr, Contains, arith}
use Rattle.std.specs.declared.option.Option.{Option}
use Rattle.std.specs.declared.result.Result.{Result}
use Rattle.std.proofs.lemmas.Bool.{cases_lt}
use Rattle.std.proofs.lemmas.List.{get_or-replicate, get_or_past, length-append, length-replicate}
use Rattle.policy_model.specs.declared.names.PolicyName.{PolicyName}
use Rattle.policy_model.specs.States.{Member, Entry, Apart, has_entry}
use Rattle.policy_model.specs.Sieve.{Cut, cut_used}
use Rattle.policy_model.proofs.SieveSound.{cut_entries}
use Rattle.replay_core.specs.declared.policy.Outcome.{Outcome}
use Rattle.replay_core.specs.Keeping.{Kept, Answers, contents_of}
use Rattle.replay_core.proofs.Kept.{answers-capacity}
use Rattle.replay_queues.specs.Items.{items_of, entries_by}
use Rattle.replay_queues.specs.Lines.{Lined, before_object, from_object, first_of}
use Rattle.replay_queues.specs.SieveQueues.{is_held, marked_entry, behind_items, ahead_items, cut_at, AreHeld, IsHand, IsCounted}
use Rattle.replay_queues.specs.declared.hand.Hand.{Hand}
use Rattle.replay_queues.proofs.LineLemmas.{parts-are}
use Rattle.replay_queues.proofs.SieveLemmas.{marked}
use Rattle.replay_queues.proofs.HandLemmas.{hand-cut, hand-is}
use Rattle.replay_queues.proofs.SieveAnswers.{held-entry}

-- ---- the bytes
zeros : (n k : ℕ) → get_or (replicate {A = ℕ} n 0) k 0 ≡ 0
zeros n k = ⊎_elim (λ (within : k < n). get_or-replicate {A = ℕ} n k 0 0 within) (λ (past : n ≤ k). get_or_past (replicate {A = ℕ} n 0) k 0 (omega (arith, length-replicate {A = ℕ} n 0))) (cases_lt k n)

-- a byte that was not there was 0 already
pub grown-cell : (cells : List ℕ) (n k : ℕ) → get_or (cells ++ replicate n 0) k 0 ≡ get_or cells k 0
grown-cell [] n k = zeros n k
grown-cell (c ∷ cells) n zero = refl
grown-cell (c ∷ cells) n (suc k) = grown-cell cells n k

pub grown-entries : (entry : ℕ → ℕ × ℕ → Entry) (cells : List ℕ) (n : ℕ) (items : List (ℕ × ℕ)) → entries_by entry (cells ++ replicate n 0) items ≡ entries_by entry cells items
grown-entries entry cells n [] = refl
grown-entries entry cells n (p ∷ rest) =
    ap (λ c. entry c p ∷ entries_by entry (cells ++ replicate n 0) rest) (grown-cell cells n p.0) ∙ ap (λ es. entry (get_or cells p.0 0) p ∷ es) (grown-entries entry cells n rest)

-- there are as many as there is room for
pub grown-long : (cells : List ℕ) (objects : ℕ) → length cells ≤ objects → length (cells ++ replicate (objects - length cells) 0) ≡ objects
grown-long cells objects more = omega (arith, length-append cells (replicate (objects - length cells) 0), length-replicate {A = ℕ} (objects - length cells) 0)

-- ---- a hand
grown-held : (cells : List ℕ) (n : ℕ) (behind ahead : List (ℕ × ℕ)) → AreHeld cells behind ahead → AreHeld (cells ++ replicate n 0) behind ahead
grown-held cells n behind ahead held = record {
  apart = subst Apart
      (ap (λ es. es ++ marked cells ahead) (sym (grown-entries marked_entry cells n behind)) ∙ ap (λ es. marked (cells ++ replicate n 0) behind ++ es) (sym (grown-entries marked_entry cells n ahead)))
      held.apart;
  known = λ k. ap is_held (grown-cell cells n k) ∙ held.known k;
}

module _ (h : Hand) (is : IsHand h) (objects n room : ℕ) (new : Hand) (table : new.table ≡ h.table ++ replicate n 0) (long : length (h.table ++ replicate n 0) ≡ objects)
    (line : new.line ≡ record { objects = objects; members = h.line.members; room = room }) (next : new.next ≡ first_of objects (from_object h.next h.line.members)) where
  abbrev b : List Member
  b = before_object h.next h.line.members

  abbrev a : List Member
  a = from_object h.next h.line.members

  abbrev more : List ℕ
  more = h.table ++ replicate n 0

  grown-line : new.line.members ≡ b ++ a
  grown-line = ap (λ (l : Lined). l.members) line ∙ sym (parts-are h.next h.line.members)

  grown-each : length more ≡ new.line.objects
  grown-each = long ∙ sym (ap (λ (l : Lined). l.objects) line)

  grown-next : new.next ≡ first_of new.line.objects a
  grown-next = next ∙ ap (λ (l : Lined). first_of l.objects a) (sym line)

  pub grown-hand : IsHand new
  grown-hand = hand-is new more b a table grown-line grown-each (grown-held h.table n (items_of b) (items_of a) is.are) grown-next

  pub grown-cut : cut_at new ≡ cut_at h
  grown-cut =
      let of : List Entry → List Entry → Cut = λ behind ahead. record { behind = behind; ahead = ahead } in
      hand-cut new more b a table grown-line grown-each (grown-held h.table n (items_of b) (items_of a) is.are) grown-next
      ∙ ap (λ es. of es (marked more (items_of a))) (grown-entries marked_entry h.table n (items_of b)) ∙ ap (of (marked h.table (items_of b))) (grown-entries marked_entry h.table n (items_of a))

-- what was counted is so with more room
pub reached-counted : (objects capacity in_use : ℕ) (h new : Hand) → IsCounted objects capacity in_use h → cut_at new ≡ cut_at h → length new.table ≤ objects → IsHand new → IsCounted objects capacity in_use new
reached-counted objects capacity in_use h new is cut within held = record {
  range = is.range;
  within = within;
  in_use_is = is.in_use_is ∙ ap (λ (c : Cut). cut_used c) (sym cut);
  fits = is.fits;
  held = held;
}

-- an object that is not held isn't with more room
pub reached-absent : (h new : Hand) → IsHand h → IsHand new → cut_at new ≡ cut_at h → (k : ℕ) → is_held (get_or h.table k 0) ≡ false → is_held (get_or new.table k 0) ≡ false
reached-absent h new is held cut k absent =
    held-entry new.table (behind_items new) (ahead_items new) held.are k ∙ ap (λ c. has_entry (cut_entries c) k) cut
    ∙ sym (held-entry h.table (behind_items h) (ahead_items h) is.are k) ∙ absent

-- ---- a request that may find no memory
module _ {E : Type 0} (name : PolicyName) (old new : Kept) (k size : ℕ) (r : Result Outcome E) (answers : IfOk r (λ outcome. (next : Option ℕ) → Answers name old new k size next outcome)) where
  pub answers-at : (next : Option ℕ) → IfOk r (λ outcome. Answers name old new k size next outcome)
  answers-at next = at r answers
    where
      at : (q : Result Outcome E) → IfOk q (λ outcome. (next : Option ℕ) → Answers name old new k size next outcome) → IfOk q (λ outcome. Answers name old new k size next outcome)
      at (Ok outcome) a = a next
      at (Err e) a = a

  module _ (kept : OnErr r (new ≡ old)) where
    pub kept-capacity : new.capacity ≡ old.capacity
    kept-capacity = at r answers kept
      where
        at : (q : Result Outcome E) → IfOk q (λ outcome. (next : Option ℕ) → Answers name old new k size next outcome) → OnErr q (new ≡ old) → new.capacity ≡ old.capacity
        at (Ok outcome) a same = answers-capacity name old new k size None outcome (a None)
        at (Err e) a same = ap (λ (p : Kept). p.capacity) same

    pub kept-objects : new.objects ≡ old.objects
    kept-objects = at r answers kept
      where
        at : (q : Result Outcome E) → IfOk q (λ outcome. (next : Option ℕ) → Answers name old new k size next outcome) → OnErr q (new ≡ old) → new.objects ≡ old.objects
        at (Ok outcome) a same = (a None).objects_stay
        at (Err e) a same = ap (λ (p : Kept). p.objects) same

pub kept-former : {T E : Type 0} (old new : Kept) (r : Result T E) → OnErr r (new ≡ old) → OnErr r ((m : Member) → Contains (contents_of new) m → Contains (contents_of old) m)
kept-former old new (Ok x) same = same
kept-former old new (Err e) same = λ m there. subst (λ (p : Kept). Contains (contents_of p) m) same there

-- The circle of CLOCK, as the hand of a line goes around it.
use Rattle.std.proofs.Common.{◌≡◌, ℕ, zero, suc, ◌+◌, ◌*◌, ◌<◌, ◌≤◌, ◌⊎◌, inl, inr, ◌∙◌, sym, refl, ap, subst, ⊎_elim, Bool, true, false, ◌||◌, cond, eqb, leb, List, [], ◌∷◌, ◌++◌, length, get_or, set, append_assoc, arith}
use Rattle.std.proofs.lemmas.Bool.{leb-false, lt-leb, or_parts}
use Rattle.std.proofs.lemmas.List.{append-nil, length-set}
use Rattle.std.proofs.lemmas.List.Sums.{sum_by-append}
use Rattle.policy_model.specs.States.{Member, Entry, member, used, has_entry, Apart, IsFit}
use Rattle.policy_model.specs.Steps.{make_room, turn_hand, until_fits, without_entry}
use Rattle.policy_model.specs.Sieve.{Cut, begin_again, look_at, look, cut_used}
use Rattle.policy_model.specs.Leaving.{cut_without}
use Rattle.policy_model.proofs.Entries.{make_room-fits, make_room-over}
use Rattle.policy_model.proofs.Leavings.{without-append}
use Rattle.policy_model.proofs.Parts.{weight, weight-append, weight-push, part-apart, until-fits, until-over}
use Rattle.policy_model.proofs.Removals.{Shrinks-turn, turns_left, marks-le, unmarked}
use Rattle.policy_model.proofs.SieveSound.{cut_entries, looks_left, look-ends}
use Rattle.replay_queues.specs.Circles.{circle_of}
use Rattle.replay_queues.specs.Items.{has_item, items_of}
use Rattle.replay_queues.specs.Lines.{Lined, before_object, from_object, first_of}
use Rattle.replay_queues.specs.SieveQueues.{is_held, marked_entry, cut_by, cut_at, AreHeld, IsHand, with_room}
use Rattle.replay_queues.specs.declared.hand.Hand.{Hand}
use Rattle.replay_queues.proofs.ItemLemmas.{here, or_swap, or_assoc, has_item-push, has_entry-append, agree, entries-push}
use Rattle.replay_queues.proofs.LineLemmas.{items_of-append}
use Rattle.replay_queues.proofs.HandLemmas.{hand-cut, hand-is}
use Rattle.replay_queues.proofs.SieveLemmas.{marked, came-held, enough_looks}

-- ---- the circle of a cut
pub circle-used : (c : Cut) → used (circle_of c) ≡ cut_used c
circle-used c = omega (arith, sum_by-append (λ (e : Entry). e.size) c.ahead c.behind)

pub circle-has : (c : Cut) (k : ℕ) → has_entry (circle_of c) k ≡ has_entry (cut_entries c) k
circle-has c k = has_entry-append c.ahead c.behind k ∙ or_swap (has_entry c.ahead k) (has_entry c.behind k) ∙ sym (has_entry-append c.behind c.ahead k)

pub circle-fit : (capacity : ℕ) (c : Cut) → IsFit capacity (cut_entries c) → IsFit capacity (circle_of c)
circle-fit capacity c fit = record {
  room = (let low : used (cut_entries c) ≤ capacity = fit.room in omega (arith, circle-used c, sum_by-append (λ (e : Entry). e.size) c.behind c.ahead));
  apart = part-apart (circle_of c) (cut_entries c) (λ f. omega (arith, weight-append f c.ahead c.behind, weight-append f c.behind c.ahead)) fit.apart;
}

-- it is the same if the hand begins again
pub circle-again : (behind ahead : List Entry) → circle_of (begin_again behind ahead) ≡ ahead ++ behind
circle-again behind [] = append-nil behind
circle-again behind (e ∷ ahead) = refl

-- an entry that leaves
pub circle-without : (k : ℕ) (c : Cut) → circle_of (cut_without k c) ≡ without_entry k (circle_of c)
circle-without k c = circle-again (without_entry k c.behind) (without_entry k c.ahead) ∙ sym (without-append k c.ahead c.behind)

-- ---- a look is a turn, but for one that only begins again
turned : (behind : List Entry) (e : Entry) (ahead : List Entry) → circle_of (look_at behind (e ∷ ahead)) ≡ turn_hand (e ∷ ahead ++ behind)
turned behind e ahead = circle-again (cond e.mark (behind ++ unmarked e ∷ []) behind) ahead ∙ at e.mark
  where
    at : (t : Bool) → ahead ++ cond t (behind ++ unmarked e ∷ []) behind ≡ cond t ((ahead ++ behind) ++ unmarked e ∷ []) (ahead ++ behind)
    at true = sym (append_assoc ahead behind (unmarked e ∷ []))
    at false = refl

turn-of : (behind ahead : List Entry) → (circle_of (look_at behind ahead) ≡ turn_hand (ahead ++ behind)) ⊎ (circle_of (look_at behind ahead) ≡ ahead ++ behind)
turn-of behind [] = inr (circle-again behind [])
turn-of behind (e ∷ ahead) = inl (turned behind e ahead)

turn_step : (n c size : ℕ) (entries after : List Entry) → after ≡ turn_hand entries → c < used entries + size → 0 < used entries → turns_left entries ≤ n
    → (m : ℕ) × (turns_left after ≤ m) × (make_room m turn_hand c size after ≡ make_room n turn_hand c size entries)
turn_step zero c size entries after is full some few = absurd (omega (arith, Shrinks-turn.ends entries some))
turn_step (suc m) c size entries after is full some few = (
  m,
  omega (arith, Shrinks-turn.ends entries some, ap turns_left is),
  ap (make_room m turn_hand c size) is ∙ sym (make_room-over m turn_hand c size entries (lt-leb (used entries + size) c full)),
)

module _ (capacity size : ℕ) (small : size ≤ capacity) where
  looks-fit : (n m : ℕ) (c : Cut) → leb (cut_used c + size) capacity ≡ true → circle_of (until_fits look cut_used capacity size n c) ≡ make_room m turn_hand capacity size (circle_of c)
  looks-fit n m c fits =
      ap circle_of (until-fits look cut_used capacity size n c fits)
      ∙ sym (make_room-fits m turn_hand capacity size (circle_of c) (ap (λ u. leb (u + size) capacity) (circle-used c) ∙ fits))

  circle-looks : (n m : ℕ) (c : Cut) → looks_left c ≤ n → turns_left (circle_of c) ≤ m → circle_of (until_fits look cut_used capacity size n c) ≡ make_room m turn_hand capacity size (circle_of c)
  circle-looks zero m c few turns = at (leb (cut_used c + size) capacity) refl
    where
      at : (b : Bool) → leb (cut_used c + size) capacity ≡ b → circle_of c ≡ make_room m turn_hand capacity size (circle_of c)
      at true fits = looks-fit zero m c fits
      at false over =
          let full : capacity < cut_used c + size = leb-false (cut_used c + size) capacity over in
          absurd (let less : looks_left (look c) < looks_left c = look-ends c (omega arith) in omega arith)
  circle-looks (suc n) m c few turns =
      at (leb (cut_used c + size) capacity) refl (circle-looks n)
    where
      at : (b : Bool) → leb (cut_used c + size) capacity ≡ b
          → ((k : ℕ) (d : Cut) → looks_left d ≤ n → turns_left (circle_of d) ≤ k → circle_of (until_fits look cut_used capacity size n d) ≡ make_room k turn_hand capacity size (circle_of d))
          → circle_of (until_fits look cut_used capacity size (suc n) c) ≡ make_room m turn_hand capacity size (circle_of c)
      at true fits more = looks-fit (suc n) m c fits
      at false over more =
          let full : capacity < cut_used c + size = leb-false (cut_used c + size) capacity over in
          let less : looks_left (look c) < looks_left c = look-ends c (omega arith) in
          let left : looks_left (look c) ≤ n = omega arith in
          ap circle_of (until-over look cut_used capacity size n c over)
          ∙ ⊎_elim
          (λ (is : circle_of (look c) ≡ turn_hand (circle_of c)).
          let next : (k : ℕ) × (turns_left (circle_of (look c)) ≤ k) × (make_room k turn_hand capacity size (circle_of (look c)) ≡ make_room m turn_hand capacity size (circle_of c)) =
          turn_step m capacity size (circle_of c) (circle_of (look c)) is (omega (arith, circle-used c)) (omega (arith, circle-used c)) turns in
          more next.0 (look c) left next.1 ∙ next.2)
          (λ (same : circle_of (look c) ≡ circle_of c).
          more m (look c) left (omega (arith, ap turns_left same)) ∙ ap (make_room m turn_hand capacity size) same)
          (turn-of c.behind c.ahead)

  -- the looks that make room are the turns that do
  pub circle-room : (c : Cut) → circle_of (with_room capacity size c) ≡ make_room (2 * length (circle_of c)) turn_hand capacity size (circle_of c)
  circle-room c =
      circle-looks (2 * length (cut_entries c) + 1) (2 * length (circle_of c)) c (enough_looks c) (omega (arith, marks-le (circle_of c)))

-- ---- an object that comes in behind the hand
module _ (cells : List ℕ) (behind ahead : List (ℕ × ℕ)) (p : ℕ × ℕ) where
  moved-apart : Apart (marked cells behind ++ marked cells (ahead ++ p ∷ [])) → Apart (marked cells (behind ++ p ∷ []) ++ marked cells ahead)
  moved-apart apart =
      let e : Entry = marked_entry (get_or cells p.0 0) p in
      part-apart (marked cells (behind ++ p ∷ []) ++ marked cells ahead) (marked cells behind ++ marked cells (ahead ++ p ∷ []))
      (λ f. omega (
        arith,
        weight-append f (marked cells (behind ++ p ∷ [])) (marked cells ahead),
        weight-append f (marked cells behind) (marked cells (ahead ++ p ∷ [])),
        ap (weight f) (entries-push marked_entry (λ c q. refl) cells behind p),
        ap (weight f) (entries-push marked_entry (λ c q. refl) cells ahead p),
        weight-push f (marked cells behind) e,
        weight-push f (marked cells ahead) e,
      ))
      apart

  -- the last of those ahead may stand behind the hand as well
  moved-held : AreHeld cells behind (ahead ++ p ∷ []) → AreHeld cells (behind ++ p ∷ []) ahead
  moved-held held = record {
    apart = moved-apart held.apart;
    known = λ q.
        held.known q ∙ ap (λ b. has_item behind q || b) (has_item-push ahead p q ∙ or_swap (has_item ahead q) (eqb p.0 q)) ∙ or_assoc (has_item behind q) (eqb p.0 q) (has_item ahead q)
        ∙ ap (λ b. b || has_item ahead q) (sym (has_item-push behind p q));
  }

module _ (h : Hand) (is : IsHand h) (k size : ℕ) (within : k < length h.table) (absent : is_held (get_or h.table k 0) ≡ false) where
  abbrev b : List Member
  b = before_object h.next h.line.members

  abbrev a : List Member
  a = from_object h.next h.line.members

  none_of : (has_item (items_of b) k ≡ false) × (has_item (items_of a) k ≡ false)
  none_of = or_parts _ _ (sym (is.are.known k) ∙ absent)

  behind-held : AreHeld (set h.table k 1) (items_of (b ++ member k size ∷ [])) (items_of a)
  behind-held =
      subst (λ items. AreHeld (set h.table k 1) items (items_of a)) (sym (items_of-append b (member k size ∷ [])))
      (moved-held (set h.table k 1) (items_of b) (items_of a) (k, size) (came-held h.table (items_of b) (items_of a) is.are k size within absent))

  module _ (new : Hand) (table : new.table ≡ set h.table k 1) (line : new.line ≡ record h.line { members = b ++ member k size ∷ a }) (next : new.next ≡ h.next) where
    behind-line : new.line.members ≡ (b ++ member k size ∷ []) ++ a
    behind-line = ap (λ (l : Lined). l.members) line ∙ sym (append_assoc b (member k size ∷ []) a)

    behind-each : length (set h.table k 1) ≡ new.line.objects
    behind-each = length-set h.table k 1 ∙ is.each_object ∙ sym (ap (λ (l : Lined). l.objects) line)

    behind-next : new.next ≡ first_of new.line.objects a
    behind-next = next ∙ is.next_is ∙ sym (ap (λ (l : Lined). first_of l.objects a) line)

    pub behind-hand : IsHand new
    behind-hand = hand-is new (set h.table k 1) (b ++ member k size ∷ []) a table behind-line behind-each behind-held behind-next

    behind-cut : cut_at new ≡ cut_by (set h.table k 1) (items_of (b ++ member k size ∷ [])) (items_of a)
    behind-cut = hand-cut new (set h.table k 1) (b ++ member k size ∷ []) a table behind-line behind-each behind-held behind-next

    pub behind-last : (cut_at new).behind ≡ (cut_at h).behind ++ marked_entry 1 (k, size) ∷ []
    behind-last =
        ap (λ (c : Cut). c.behind) behind-cut
        ∙ ap (marked (set h.table k 1)) (items_of-append b (member k size ∷ []))
        ∙ entries-push marked_entry (λ c q. refl) (set h.table k 1) (items_of b) (k, size)
        ∙ ap (λ es. es ++ marked_entry (get_or (set h.table k 1) k 0) (k, size) ∷ []) (agree marked_entry (λ c q. refl) h.table k 1 (items_of b) none_of.0)
        ∙ ap (λ c. marked h.table (items_of b) ++ marked_entry c (k, size) ∷ []) (here h.table k 1 within)

    pub behind-ahead : (cut_at new).ahead ≡ (cut_at h).ahead
    behind-ahead = ap (λ (c : Cut). c.ahead) behind-cut ∙ agree marked_entry (λ c q. refl) h.table k 1 (items_of a) none_of.1

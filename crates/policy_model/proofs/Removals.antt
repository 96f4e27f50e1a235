-- What the removals of the rules keep, and that turns of them make room.
use Rattle.std.proofs.Common.{◌≡◌, ℕ, zero, suc, ◌+◌, ◌<◌, ◌≤◌, ◌∙◌, sym, refl, ap, ⊎_elim, Bool, true, false, not, ◌||◌, cond, eqb, leb, List, [], ◌∷◌, ◌++◌, length, drop, arith, sum_by}
use Rattle.std.specs.List.{AllByRecursion}
use Rattle.std.proofs.lemmas.Bool.{eq-eqb, leb-true, leb-false, or_left, or_right, cond_both, cases_lt}
use Rattle.std.proofs.lemmas.List.{length-append}
use Rattle.std.proofs.lemmas.List.Sums.{sum_by-cons, sum_by_push}
use Rattle.policy_model.specs.States.{Entry, used, has_entry}
use Rattle.policy_model.specs.Steps.{make_room, without_entry, ahead_of, foremost, remove_foremost, turn_hand}
use Rattle.policy_model.proofs.Entries.{Apart, Apart-push, Apart-without}

-- ---- what a removal keeps
-- the entries after are no more, apart, and each of the entries before
pub record Shrinks (remove : List Entry → List Entry) (most : List Entry → ℕ) : Type 0 where
  pub fewer : (entries : List Entry) → used (remove entries) ≤ used entries
  pub apart : (entries : List Entry) → Apart entries → Apart (remove entries)
  pub ends : (entries : List Entry) → 0 < used entries → most (remove entries) < most entries

pub Shrinks-drop : Shrinks (drop 1) length
Shrinks-drop = record {
  fewer = fewer;
  apart = apart;
  ends = ends;
}
  where
    fewer : (entries : List Entry) → used (drop 1 entries) ≤ used entries
    fewer [] = omega arith
    fewer (e ∷ rest) = omega (arith, sum_by-cons (λ (f : Entry). f.size) e rest)

    apart : (entries : List Entry) → Apart entries → Apart (drop 1 entries)
    apart [] h = tt
    apart (e ∷ rest) h = h.1

    ends : (entries : List Entry) → 0 < used entries → length (drop 1 entries) < length entries
    ends [] some = absurd (omega arith)
    ends (e ∷ rest) some = omega arith

-- the entries with a mark
abbrev pub marks : List Entry → ℕ
marks entries = sum_by (λ e. cond e.mark 1 0) entries

-- turns of the hand until every entry is gone
abbrev pub turns_left : List Entry → ℕ
turns_left entries = length entries + marks entries

pub marks-le : (entries : List Entry) → marks entries ≤ length entries
marks-le [] = omega arith
marks-le (e ∷ rest) = omega (arith, marks-le rest, at e.mark, sum_by-cons (λ (f : Entry). cond f.mark 1 0) e rest)
  where
    at : (b : Bool) → cond b 1 0 ≤ 1
    at true = omega arith
    at false = omega arith

abbrev pub unmarked : Entry → Entry
unmarked e = record e { mark = false }

pub Shrinks-turn : Shrinks turn_hand turns_left
Shrinks-turn = record {
  fewer = fewer;
  apart = apart;
  ends = ends;
}
  where
    fewer : (entries : List Entry) → used (turn_hand entries) ≤ used entries
    fewer [] = omega arith
    fewer (e ∷ rest) =
        cond_both e.mark (rest ++ unmarked e ∷ []) rest (λ es. used es ≤ used (e ∷ rest))
        (λ _. omega (arith, sum_by_push (λ (f : Entry). f.size) rest (unmarked e), sum_by-cons (λ (f : Entry). f.size) e rest))
        (λ _. omega (arith, sum_by-cons (λ (f : Entry). f.size) e rest))

    apart : (entries : List Entry) → Apart entries → Apart (turn_hand entries)
    apart [] h = tt
    apart (e ∷ rest) h = cond_both e.mark (rest ++ unmarked e ∷ []) rest Apart (λ _. Apart-push rest (unmarked e) h.1 h.0) (λ _. h.1)

    ends : (entries : List Entry) → 0 < used entries → turns_left (turn_hand entries) < turns_left entries
    ends [] some = absurd (omega arith)
    ends (e ∷ rest) some =
        cond_both e.mark (rest ++ unmarked e ∷ []) rest (λ es. turns_left es < turns_left (e ∷ rest))
        (λ marked. omega (
          arith,
          length-append rest (unmarked e ∷ []),
          sum_by_push (λ (f : Entry). cond f.mark 1 0) rest (unmarked e),
          sum_by-cons (λ (f : Entry). cond f.mark 1 0) e rest,
          ap (λ b. cond {A = ℕ} b 1 0) marked,
        ))
        (λ _. omega (arith, sum_by-cons (λ (f : Entry). cond f.mark 1 0) e rest))

-- ---- a filter
used-without : (k : ℕ) (entries : List Entry) → used (without_entry k entries) ≤ used entries
used-without k [] = omega arith
used-without k (e ∷ rest) =
    cond_both (not (eqb e.object k)) (e ∷ without_entry k rest) (without_entry k rest) (λ es. used es ≤ used (e ∷ rest))
    (λ _. omega (arith, used-without k rest, sum_by-cons (λ (f : Entry). f.size) e rest, sum_by-cons (λ (f : Entry). f.size) e (without_entry k rest)))
    (λ _. omega (arith, used-without k rest, sum_by-cons (λ (f : Entry). f.size) e rest))

length-without-le : (k : ℕ) (entries : List Entry) → length (without_entry k entries) ≤ length entries
length-without-le k [] = omega arith
length-without-le k (e ∷ rest) =
    cond_both (not (eqb e.object k)) (e ∷ without_entry k rest) (without_entry k rest) (λ es. length es ≤ length (e ∷ rest))
    (λ _. omega (arith, length-without-le k rest)) (λ _. omega (arith, length-without-le k rest))

length-without-lt : (k : ℕ) (entries : List Entry) → has_entry entries k ≡ true → length (without_entry k entries) < length entries
length-without-lt k [] there = cc
length-without-lt k (e ∷ rest) there = at (eqb e.object k) refl (length-without-lt k rest)
  where
    at : (t : Bool) → eqb e.object k ≡ t → (has_entry rest k ≡ true → length (without_entry k rest) < length rest) → length (cond (not (eqb e.object k)) (e ∷ without_entry k rest) (without_entry k rest)) < length (e ∷ rest)
    at true h more = omega (arith, length-without-le k rest, ap (λ b. length (cond (not b) (e ∷ without_entry k rest) (without_entry k rest))) h)
    at false h more =
        let later : has_entry rest k ≡ true = ap (λ b. b || has_entry rest k) (sym h) ∙ there in
        omega (arith, more later, ap (λ b. length (cond (not b) (e ∷ without_entry k rest) (without_entry k rest))) h)

-- the foremost entry is one of the entries
pub foremost-is : (ahead : Entry → Entry → Bool) (P : Entry → Type 0) (e : Entry) (rest : List Entry) → AllByRecursion P (e ∷ rest) → P (foremost ahead e rest)
foremost-is ahead P e [] each = each.0
foremost-is ahead P e (f ∷ rest) each = foremost-is ahead P (ahead_of ahead e f) rest (at (ahead f e), each.1.1)
  where
    at : (t : Bool) → P (cond t f e)
    at true = each.1.0
    at false = each.0

has_itself : (entries all : List Entry) → ((k : ℕ) → has_entry entries k ≡ true → has_entry all k ≡ true) → AllByRecursion (λ e. has_entry all e.object ≡ true) entries
has_itself [] all more = tt
has_itself (e ∷ rest) all more =
    (more e.object (or_left _ _ (eq-eqb e.object e.object refl)), has_itself rest all (λ k h. more k (or_right (eqb e.object k) _ h)))

pub foremost-there : (ahead : Entry → Entry → Bool) (e : Entry) (rest : List Entry) → has_entry (e ∷ rest) (foremost ahead e rest).object ≡ true
foremost-there ahead e rest = foremost-is ahead (λ f. has_entry (e ∷ rest) f.object ≡ true) e rest (has_itself (e ∷ rest) (e ∷ rest) (λ k h. h))

pub Shrinks-foremost : (ahead : Entry → Entry → Bool) → Shrinks (remove_foremost ahead) length
Shrinks-foremost ahead = record {
  fewer = fewer;
  apart = apart;
  ends = ends;
}
  where
    fewer : (entries : List Entry) → used (remove_foremost ahead entries) ≤ used entries
    fewer [] = omega arith
    fewer (e ∷ rest) = used-without (foremost ahead e rest).object (e ∷ rest)

    apart : (entries : List Entry) → Apart entries → Apart (remove_foremost ahead entries)
    apart [] h = tt
    apart (e ∷ rest) h = Apart-without (foremost ahead e rest).object (e ∷ rest) h

    ends : (entries : List Entry) → 0 < used entries → length (remove_foremost ahead entries) < length entries
    ends [] some = absurd (omega arith)
    ends (e ∷ rest) some = length-without-lt (foremost ahead e rest).object (e ∷ rest) (foremost-there ahead e rest)

-- ---- room is made
module _ (remove : List Entry → List Entry) (most : List Entry → ℕ) (shrinks : Shrinks remove most) (c size : ℕ) where
  made : (n : ℕ) (entries : List Entry) (P : List Entry → Type 0) → (leb (used entries + size) c ≡ true → P entries) → (leb (used entries + size) c ≡ false → P (make_room n remove c size (remove entries))) → P (make_room (suc n) remove c size entries)
  made n entries P fits full = cond_both (leb (used entries + size) c) entries (make_room n remove c size (remove entries)) P fits full

  pub make_room-fewer : (n : ℕ) (entries : List Entry) → used (make_room n remove c size entries) ≤ used entries
  make_room-fewer zero entries = omega arith
  make_room-fewer (suc n) entries = made n entries (λ es. used es ≤ used entries) (λ _. omega arith) (λ _. omega (arith, make_room-fewer n (remove entries), shrinks.fewer entries))

  pub make_room-apart : (n : ℕ) (entries : List Entry) → Apart entries → Apart (make_room n remove c size entries)
  make_room-apart zero entries apart = apart
  make_room-apart (suc n) entries apart = made n entries Apart (λ _. apart) (λ _. make_room-apart n (remove entries) (shrinks.apart entries apart))

  pub make_room-each : (P : List Entry → Type 0) → ((entries : List Entry) → P entries → P (remove entries)) → (n : ℕ) (entries : List Entry) → P entries → P (make_room n remove c size entries)
  make_room-each P each zero entries here = here
  make_room-each P each (suc n) entries here = made n entries P (λ _. here) (λ _. make_room-each P each n (remove entries) (each entries here))

  pub make_room-room : (n : ℕ) (entries : List Entry) → most entries ≤ n → size ≤ c → used (make_room n remove c size entries) + size ≤ c
  make_room-room zero entries few small =
      ⊎_elim
      (λ (some : 0 < used entries). absurd (omega (arith, shrinks.ends entries some)))
      (λ (none : used entries ≤ 0). omega arith)
      (cases_lt 0 (used entries))
  make_room-room (suc n) entries few small =
      made n entries (λ es. used es + size ≤ c)
      (λ fits. leb-true (used entries + size) c fits)
      (λ full. let over : c < used entries + size = leb-false (used entries + size) c full in make_room-room n (remove entries) (omega (arith, shrinks.ends entries (omega arith))) small)

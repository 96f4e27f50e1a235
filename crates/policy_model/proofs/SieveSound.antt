-- The cut of SIEVE, as the hand looks.
use Rattle.std.proofs.Common.{◌≡◌, ℕ, ◌+◌, ◌*◌, ◌<◌, ◌≤◌, sym, refl, ap, Bool, true, false, cond, List, [], ◌∷◌, ◌++◌, length, take, drop, arith, None}
use Rattle.std.proofs.lemmas.List.{append-nil, length-append, take-append-drop}
use Rattle.std.proofs.lemmas.List.Sums.{sum_by-cons, sum_by-append, sum_by_push}
use Rattle.policy_model.specs.declared.names.PolicyName.TheVariants.{Sieve}
use Rattle.policy_model.specs.States.{Entry, State, used}
use Rattle.policy_model.specs.Steps.{until_fits, fresh_entry}
use Rattle.policy_model.specs.Sieve.{Cut, begin_again, look_at, look, cut_used, cut_of, come_in, stock_of_cut}
use Rattle.policy_model.proofs.Removals.{marks, marks-le, unmarked}
use Rattle.policy_model.proofs.Parts.{weight, weight-cons, weight-append, weight-push, IsPart, until-part, until-room}

-- the entries, those that the hand has passed first
abbrev pub cut_entries : Cut → List Entry
cut_entries c = c.behind ++ c.ahead

pub cut-used : (c : Cut) → used (cut_entries c) ≡ cut_used c
cut-used c = sum_by-append (λ (e : Entry). e.size) c.behind c.ahead

-- whether the hand stands at the end, with entries behind it
abbrev idle : List Entry → List Entry → ℕ
idle [] [] = 0
idle (e ∷ behind) [] = 1
idle behind (e ∷ ahead) = 0

-- looks until every entry is gone
abbrev looks_at : List Entry → List Entry → ℕ
looks_at behind ahead = length behind + length ahead + marks behind + marks ahead + idle behind ahead

abbrev pub looks_left : Cut → ℕ
looks_left c = looks_at c.behind c.ahead

pub again-entries : (behind ahead : List Entry) → cut_entries (begin_again behind ahead) ≡ behind ++ ahead
again-entries behind [] = sym (append-nil behind)
again-entries behind (e ∷ ahead) = refl

again-left : (behind ahead : List Entry) → looks_left (begin_again behind ahead) ≡ length behind + length ahead + marks behind + marks ahead
again-left [] [] = refl
again-left (e ∷ behind) [] = omega arith
again-left [] (e ∷ ahead) = omega arith
again-left (d ∷ behind) (e ∷ ahead) = omega arith

passed-weight : (f : ℕ → ℕ → ℕ) (behind : List Entry) (e : Entry) (b : Bool) → weight f (cond b (behind ++ unmarked e ∷ []) behind) ≤ weight f behind + f e.object e.size
passed-weight f behind e true = omega (arith, weight-push f behind (unmarked e))
passed-weight f behind e false = omega arith

look-part-at : (behind ahead : List Entry) → IsPart (cut_entries (look_at behind ahead)) (behind ++ ahead)
look-part-at behind [] f = omega (arith, ap (weight f) (again-entries behind []))
look-part-at behind (e ∷ ahead) f =
    let left : List Entry = cond e.mark (behind ++ unmarked e ∷ []) behind in
    omega (
      arith,
      ap (weight f) (again-entries left ahead),
      weight-append f left ahead,
      passed-weight f behind e e.mark,
      weight-append f behind (e ∷ ahead),
      weight-cons f e ahead,
    )

pub look-part : (c : Cut) → IsPart (cut_entries (look c)) (cut_entries c)
look-part c = look-part-at c.behind c.ahead

passed-left : (behind : List Entry) (e : Entry) (b : Bool) → e.mark ≡ b → length (cond b (behind ++ unmarked e ∷ []) behind) + marks (cond b (behind ++ unmarked e ∷ []) behind) ≤ length behind + marks behind + cond b 1 0
passed-left behind e true is = omega (arith, length-append behind (unmarked e ∷ []), sum_by_push (λ (f : Entry). cond f.mark 1 0) behind (unmarked e))
passed-left behind e false is = omega arith

look-ends-at : (behind ahead : List Entry) → 0 < used behind + used ahead → looks_left (look_at behind ahead) < looks_at behind ahead
look-ends-at [] [] some = absurd (omega arith)
look-ends-at (d ∷ behind) [] some = omega (arith, again-left (d ∷ behind) [])
look-ends-at behind (e ∷ ahead) some =
    let left : List Entry = cond e.mark (behind ++ unmarked e ∷ []) behind in
    omega (arith, again-left left ahead, passed-left behind e e.mark refl, sum_by-cons (λ (f : Entry). cond f.mark 1 0) e ahead, least behind)
  where
    least : (before : List Entry) → looks_at before (e ∷ ahead) ≡ length before + length (e ∷ ahead) + marks before + marks (e ∷ ahead)
    least [] = omega arith
    least (d ∷ before) = omega arith

pub look-ends : (c : Cut) → 0 < cut_used c → looks_left (look c) < looks_left c
look-ends c some = look-ends-at c.behind c.ahead some

idle-le : (behind ahead : List Entry) → idle behind ahead ≤ 1
idle-le [] [] = omega arith
idle-le (e ∷ behind) [] = omega arith
idle-le [] (e ∷ ahead) = omega arith
idle-le (d ∷ behind) (e ∷ ahead) = omega arith

pub few-looks : (behind ahead : List Entry) → looks_at behind ahead ≤ 2 * (length behind + length ahead) + 1
few-looks behind ahead = omega (arith, marks-le behind, marks-le ahead, idle-le behind ahead)

-- ---- the cut of a state
pub cut-entries : (s : State) → cut_entries (cut_of s) ≡ s.entries
cut-entries s = take-append-drop s.beside.first s.entries

module _ (s : State) (object size : ℕ) where
  abbrev left : Cut
  left = until_fits look cut_used s.capacity size (2 * length s.entries + 1) (cut_of s)

  abbrev pub sieve_missed : List Entry
  sieve_missed = (stock_of_cut (come_in (fresh_entry Sieve s.now object size None) left)).entries

  weight-missed : (f : ℕ → ℕ → ℕ) → weight f sieve_missed ≡ weight f (cut_entries left) + f object size
  weight-missed f =
      omega (
        arith,
        weight-append f left.behind (left.ahead ++ fresh_entry Sieve s.now object size None ∷ []),
        weight-push f left.ahead (fresh_entry Sieve s.now object size None),
        weight-append f left.behind left.ahead,
      )

  pub sieve-part : IsPart sieve_missed (fresh_entry Sieve s.now object size None ∷ s.entries)
  sieve-part f =
      omega (
        arith,
        weight-missed f,
        until-part look cut_used s.capacity size cut_entries look-part (2 * length s.entries + 1) (cut_of s) f,
        ap (weight f) (cut-entries s),
        weight-cons f (fresh_entry Sieve s.now object size None) s.entries,
      )

  pub sieve-room : size ≤ s.capacity → used sieve_missed ≤ s.capacity
  sieve-room small =
      omega (
        arith,
        weight-missed (λ o n. n),
        cut-used left,
        until-room look cut_used s.capacity size looks_left look-ends (2 * length s.entries + 1) (cut_of s)
            (omega (arith, few-looks (take s.beside.first s.entries) (drop s.beside.first s.entries), length-append (take s.beside.first s.entries) (drop s.beside.first s.entries), ap length (cut-entries s))) small,
      )

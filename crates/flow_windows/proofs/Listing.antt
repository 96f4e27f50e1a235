-- Lists of numbers that are linked by the number that comes next.
use Rattle.std.proofs.Common.{◌≡◌, ◌≢◌, ◌∙◌, ℕ, zero, suc, ◌+◌, ◌<◌, ap, sym, subst, Bool, true, false, cond, eqb, arith, List, [], ◌∷◌, length, get_or, set, ⊎_elim}
use Rattle.std.proofs.lemmas.Bool.{cases_eq, eq-eqb, ne_eqb}
use Rattle.std.proofs.lemmas.List.{get_or-set_other, get_or-set_same}
use Rattle.flow_windows.specs.Cuts.{IsListed}
use Rattle.flow_windows.proofs.Gathering.{passing, head_or}

-- a list begins with its first number
pub head_of_list : (past from : ℕ) (next xs : List ℕ) → IsListed past next from xs → from ≡ head_or past xs
head_of_list past from next [] listed = listed
head_of_list past from next (x ∷ xs) listed = listed.0

-- a list stays as it is where what follows a number before all of its own is changed
listed_kept : (past : ℕ) (next : List ℕ) (p : ℕ → Bool) (b v a n from : ℕ) → b < a → IsListed past next from (passing p a n) → IsListed past (set next b v) from (passing p a n)
listed_kept past next p b v a zero from before listed = listed
listed_kept past next p b v a (suc n) from before listed = at (λ f is. listed_kept past next p b v (a + 1) n f (omega arith) is) (p a) listed
  where
    at : ((f : ℕ) → IsListed past next f (passing p (a + 1) n) → IsListed past (set next b v) f (passing p (a + 1) n)) → (t : Bool) → IsListed past next from (cond t (a ∷ passing p (a + 1) n) (passing p (a + 1) n)) → IsListed past (set next b v) from (cond t (a ∷ passing p (a + 1) n) (passing p (a + 1) n))
    at later true is =
        let other : a ≢ b = omega arith in (
          is.0,
          subst (λ f. IsListed past (set next b v) f (passing p (a + 1) n)) (sym (get_or-set_other next b a v 0 other)) (later (get_or next a 0) is.1),
        )
    at later false is = later from is

-- with the number b at the beginning of the list w, each list has its numbers from b on
pub listed_more : (past : ℕ) (q : ℕ → ℕ → Bool) (first next : List ℕ) (b n w : ℕ) → b < length next → w < length first → ((k : ℕ) → q k b ≡ eqb w k)
    → ((k : ℕ) → k < length first → IsListed past next (get_or first k 0) (passing (q k) (b + 1) n))
    → (k : ℕ) → k < length first → IsListed past (set next b (get_or first w 0)) (get_or (set first w b) k 0) (passing (q k) b (suc n))
listed_more past q first next b n w in_next in_first tests before k within =
    ⊎_elim
    (λ (is : w ≡ k).
    let passes : q k b ≡ true = tests k ∙ eq-eqb w k is in
    let stands : get_or (set first w b) k 0 ≡ b = ap (λ j. get_or (set first w b) j 0) (sym is) ∙ get_or-set_same first w b 0 in_first in
    let follows : get_or (set next b (get_or first w 0)) b 0 ≡ get_or first k 0 = get_or-set_same next b (get_or first w 0) 0 in_next ∙ ap (λ j. get_or first j 0) is in
    subst (λ t. IsListed past (set next b (get_or first w 0)) (get_or (set first w b) k 0) (cond t (b ∷ passing (q k) (b + 1) n) (passing (q k) (b + 1) n))) (sym passes) (
      stands,
      subst (λ f. IsListed past (set next b (get_or first w 0)) f (passing (q k) (b + 1) n)) (sym follows)
          (listed_kept past next (q k) b (get_or first w 0) (b + 1) n (get_or first k 0) (omega arith) (before k within)),
    ))
    (λ (other : w ≢ k).
    let fails : q k b ≡ false = tests k ∙ ne_eqb w k other in
    let differs : k ≢ w = λ e. other (sym e) in
    let stays : get_or (set first w b) k 0 ≡ get_or first k 0 = get_or-set_other first w k b 0 differs in
    subst (λ t. IsListed past (set next b (get_or first w 0)) (get_or (set first w b) k 0) (cond t (b ∷ passing (q k) (b + 1) n) (passing (q k) (b + 1) n))) (sym fails)
    (subst (λ f. IsListed past (set next b (get_or first w 0)) f (passing (q k) (b + 1) n)) (sym stays)
    (listed_kept past next (q k) b (get_or first w 0) (b + 1) n (get_or first k 0) (omega arith) (before k within))))
    (cases_eq w k)

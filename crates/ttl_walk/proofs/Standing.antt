-- What is kept stands for the walk, over the price of a step and over a request.
use Rattle.std.proofs.Common.{◌≡◌, ℕ, ◌+◌, ◌-◌, ◌≤◌, inl, inr, ◌∙◌, sym, refl, ap, max, nat_le, Bool, true, false, not, List, [], ◌∷◌, ◌++◌, arith, fold, map, filter, le_antisymm}
use Rattle.std.specs.List.{AllByRecursion}
use Rattle.std.proofs.Math.Nat.{le-max_left, le-max_right, max-le}
use Rattle.std.proofs.lemmas.Bool.{leb-true, le-leb}
use Rattle.ttl_laws.specs.Runs.{HasOne, Start, new_start, worth, with_gain, with_price, going_on as walk_going_on}
use Rattle.ttl_walk.specs.declared.starts.Candidate.{Candidate}
use Rattle.ttl_walk.specs.Queue.{IsQueue, first_worth, going_on, is_fresh, with_candidate}
use Rattle.ttl_walk.specs.Kept.{IsSameStart, IsNoWorse}
use Rattle.ttl_laws.proofs.Objects.{all-map, all-pass}
use Rattle.ttl_laws.proofs.Starts.{one-map, one-filter, greatest-any, greatest-le}
use Rattle.ttl_walk.proofs.Lists.{all-more, all-append, one-more, one-last, one-joined, from-one}
use Rattle.ttl_walk.proofs.Queues.{le-of, first-most}

-- each start that is kept is one of these, and for each of these one is kept that is no worse
abbrev pub Known : ℕ → List Candidate → List Start → Type 0
Known level kept starts = AllByRecursion (λ c. HasOne (IsSameStart level c) starts) kept

abbrev pub Enough : ℕ → List Candidate → List Start → Type 0
Enough level kept starts = AllByRecursion (λ s. HasOne (λ c. IsNoWorse level c s) kept) starts

-- what stands over the price of a step
pub known-step : (level price : ℕ) (kept : List Candidate) (starts : List Start) → price ≤ level
    → Known level kept starts → Known (level - price) kept (map (with_price price) starts)
known-step level price kept starts low known =
    all-more (λ c. HasOne (IsSameStart level c) starts) (λ c. HasOne (IsSameStart (level - price) c) (map (with_price price) starts)) kept
    (λ c one.
    one-map (IsSameStart level c) (IsSameStart (level - price) c) (with_price price) starts
    (λ s is. (is.0, omega (arith, low, is.1))) one)
    known

pub enough-step : (level price : ℕ) (kept : List Candidate) (starts : List Start) → price ≤ level
    → Enough level kept starts → Enough (level - price) kept (map (with_price price) starts)
enough-step level price kept starts low enough =
    all-map (λ s. HasOne (λ c. IsNoWorse level c s) kept) (λ s. HasOne (λ c. IsNoWorse (level - price) c s) kept) (with_price price) starts
    (λ s one.
    one-more (λ c. IsNoWorse level c s) (λ c. IsNoWorse (level - price) c (with_price price s)) kept
    (λ c is. (is.0, omega (arith, low, is.1))) one)
    enough

-- and what goes on past a request
pub known-going_on : (fills : Bool) (ttl now gain level : ℕ) (kept : List Candidate) (starts : List Start) → Known level kept starts
    → Known (level + gain) (going_on fills ttl now kept) (walk_going_on fills now ttl gain starts)
known-going_on true ttl now gain level kept starts known = tt
known-going_on false ttl now gain level kept starts known =
    all-pass (λ c. HasOne (IsSameStart level c) starts)
    (λ c. HasOne (IsSameStart (level + gain) c) (map (with_gain gain) (filter (λ s. nat_le now (s.clock + ttl)) starts)))
    (is_fresh ttl now) kept
    (λ c one fresh.
    one-map (IsSameStart level c) (IsSameStart (level + gain) c) (with_gain gain) (filter (λ s. nat_le now (s.clock + ttl)) starts)
    (λ s is. (is.0, omega (arith, is.1)))
    (one-filter (IsSameStart level c) (λ s. nat_le now (s.clock + ttl)) starts
    (λ s is. ap (λ t. nat_le now (t + ttl)) (sym is.0) ∙ fresh) one))
    known

-- what is fresh has one that is no older, so that is fresh as well
pub enough-going_on : (fills : Bool) (ttl now gain level : ℕ) (kept : List Candidate) (starts : List Start) → Enough level kept starts
    → Enough (level + gain) (going_on fills ttl now kept) (walk_going_on fills now ttl gain starts)
enough-going_on true ttl now gain level kept starts enough = tt
enough-going_on false ttl now gain level kept starts enough =
    all-map (λ s. HasOne (λ c. IsNoWorse level c s) (filter (is_fresh ttl now) kept))
    (λ s. HasOne (λ c. IsNoWorse (level + gain) c s) (filter (is_fresh ttl now) kept)) (with_gain gain)
    (filter (λ s. nat_le now (s.clock + ttl)) starts)
    (λ s one.
    one-more (λ c. IsNoWorse level c s) (λ c. IsNoWorse (level + gain) c (with_gain gain s)) (filter (is_fresh ttl now) kept)
    (λ c is. (is.0, omega (arith, is.1))) one)
    (all-pass (λ s. HasOne (λ c. IsNoWorse level c s) kept) (λ s. HasOne (λ c. IsNoWorse level c s) (filter (is_fresh ttl now) kept))
    (λ s. nat_le now (s.clock + ttl)) starts
    (λ s one fresh.
    let low : now ≤ s.clock + ttl = leb-true now (s.clock + ttl) fresh in
    one-filter (λ c. IsNoWorse level c s) (is_fresh ttl now) kept
    (λ c is. le-leb now (c.clock + ttl) (omega (arith, is.0, low))) one)
    enough)

module _ (level top now : ℕ) (kept : List Candidate) (starts : List Start) (queue : IsQueue kept)
    (known : Known level kept starts) (enough : Enough level kept starts) where
  abbrev greatest : ℕ
  greatest = fold max 0 (map worth (new_start now top ∷ starts))

  top-le : greatest ≤ max top (first_worth level kept)
  top-le =
      greatest-le 0 (max top (first_worth level kept)) (map worth (new_start now top ∷ starts)) (omega arith) (
        omega (arith, le-max_left top (first_worth level kept)),
        all-map (λ s. HasOne (λ c. IsNoWorse level c s) kept) (λ n. n ≤ max top (first_worth level kept)) worth starts
            (λ s one.
            from-one (λ c. level - c.floor ≤ first_worth level kept) (λ c. IsNoWorse level c s) (worth s ≤ max top (first_worth level kept)) kept
            (λ c low is. omega (arith, low, is.1, le-max_right top (first_worth level kept))) (first-most level kept queue) one)
            enough,
      )

  first-le : first_worth level kept ≤ greatest
  first-le = at kept known
    where
      at : (kept : List Candidate) → Known level kept starts → first_worth level kept ≤ greatest
      at [] known = omega arith
      at (c ∷ later) known =
          greatest-any 0 (level - c.floor) (map worth (new_start now top ∷ starts))
          (inr (one-map (IsSameStart level c) (λ n. level - c.floor ≤ n) worth starts (λ s is. omega (arith, is.1)) known.0))

  own-le : top ≤ greatest
  own-le = greatest-any 0 top (map worth (new_start now top ∷ starts)) (inl (omega arith))

  pub top-is : max top (first_worth level kept) ≡ greatest
  top-is = le_antisymm (max-le own-le first-le) top-le

-- the request's own start
abbrev pub own : ℕ → ℕ → ℕ → Candidate
own now level top = record { clock = now; floor = level - top }

pub known-joined : (level top now : ℕ) (kept : List Candidate) (starts : List Start) → top ≤ level → Known level kept starts
    → Known level (with_candidate (own now level top) kept) (new_start now top ∷ starts)
known-joined level top now kept starts within known =
    let passes : Candidate → Bool = λ d. not (nat_le (level - top) d.floor) in
    all-append (λ c. HasOne (IsSameStart level c) (new_start now top ∷ starts)) (filter passes kept) (own now level top)
    (all-pass (λ c. HasOne (IsSameStart level c) starts) (λ c. HasOne (IsSameStart level c) (new_start now top ∷ starts)) passes kept
    (λ c one e. inr one) known)
    (inl (refl, omega (arith, within)))

-- those that left are no fresher and worth no more
pub enough-joined : (level top now : ℕ) (kept : List Candidate) (starts : List Start) → top ≤ level
    → AllByRecursion (λ c. c.clock ≤ now) kept → Enough level kept starts
    → Enough level (with_candidate (own now level top) kept) (new_start now top ∷ starts)
enough-joined level top now kept starts within early enough =
    let passes : Candidate → Bool = λ d. not (nat_le (level - top) d.floor) in (
      one-last (λ c. IsNoWorse level c (new_start now top)) (filter passes kept) (own now level top) (omega arith, omega (arith, within)),
      all-more (λ s. HasOne (λ c. IsNoWorse level c s) kept)
          (λ s. HasOne (λ c. IsNoWorse level c s) (filter passes kept ++ own now level top ∷ [])) starts
          (λ s one.
          one-joined (λ c. IsNoWorse level c s) (λ c. c.clock ≤ now) passes kept (own now level top) early
          (λ c low is e.
          let above : level - top ≤ c.floor = le-of (level - top) c.floor e in
          (omega (arith, low, is.0), omega (arith, above, is.1))) one)
          enough,
    )

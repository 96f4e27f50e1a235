-- The greatest score: request by request, the best of all parts of what may be held that fit.
use Rattle.std.proofs.Common.{◌≡◌, ◌≢◌, ℕ, suc, ◌<◌, ◌≤◌, ◌⊎◌, inl, inr, ⊎_elim, ◌∙◌, sym, refl, ap, Bool, true, false, cond, not, ◌&&◌, nat_le, List, [], ◌∷◌, arith, filter, All, AllPairs, Contains}
use Rattle.std.proofs.lemmas.Bool.{cases_Bool, cond_both, le-leb, leb-true, leb-false, or_left, or_right, not-true, both_ways}
use Rattle.std.proofs.lemmas.List.Elements.{All-head, All-tail, All-cons, All-filter, All-contains, All-contains_itself, All-weaker, filter_passes, recursion_from_All}
use Rattle.std.proofs.lemmas.List.Kept.{AllPairs-cons, AllPairs-filter}
use Rattle.std.proofs.lemmas.Map.Made.{IsDistinct-from_AllPairs}
use Rattle.cache_model.specs.declared.objects.Object.{Object}
use Rattle.cache_model.specs.Claim.{Terms, counts, same_object, gain_of, total_size, holds, IsAllowed, contents_of, score}
use Rattle.cache_model.specs.Certificates.{keeps_of}
use Rattle.cache_model.proofs.Duality.{after, earned, same_object-true, without, holds-without, sum_by-subset}
use Rattle.cache_model.proofs.Headline.{valid_bounds}
use Rattle.cache_model.proofs.Pairs.{same_object-sym}
use Rattle.cache_model.proofs.Steps.{same_object-from, score-earned}
use Rattle.part_laws.proofs.Moves.{IsMove, Moves, Contains-from_holds, moves_of_allowed, allowed_of_moves}
use Rattle.cache_model.proofs.Steps.{holds-from_Contains}
use Rattle.part_laws.proofs.Filters.{holds-filter}
use Rattle.bound_laws.specs.Laws.{GreatestScoreExists, GreatestScoreIsWithin}

-- no two members are the same
abbrev IsApart : List Object → Type 0
IsApart xs = AllPairs (λ x y. x ≢ y) xs

-- ---- the best part of a list
-- of all lists that a filter leaves of this one, one of the greatest worth
best_part : (List Object → ℕ) → List Object → List Object
best_part g [] = []
best_part g (x ∷ xs) =
    let less : List Object = best_part g xs in
    let more : List Object = x ∷ best_part (λ ys. g (x ∷ ys)) xs in
    cond (nat_le (g less) (g more)) more less

-- the better of two is worth no less than either
better : (g : List Object → ℕ) (a b : List Object) → (g a ≤ g (cond (nat_le (g a) (g b)) b a)) × (g b ≤ g (cond (nat_le (g a) (g b)) b a))
better g a b =
    cond_both (nat_le (g a) (g b)) b a (λ c. (g a ≤ g c) × (g b ≤ g c)) (λ e. (leb-true (g a) (g b) e, omega arith))
    (λ e. (omega arith, omega (arith, leb-false (g a) (g b) e)))

-- no filter leaves more
best_part-most : (g : List Object → ℕ) (xs : List Object) (p : Object → Bool) → g (filter p xs) ≤ g (best_part g xs)
unfolding best_part
best_part-most g [] p = omega arith
best_part-most g (x ∷ xs) p =
    let more : List Object = x ∷ best_part (λ ys. g (x ∷ ys)) xs in
    let both = better g (best_part g xs) more in
    cond_both (p x) (x ∷ filter p xs) (filter p xs) (λ ys. g ys ≤ g (cond (nat_le (g (best_part g xs)) (g more)) more (best_part g xs)))
    (λ _. omega (arith, both.1, best_part-most (λ ys. g (x ∷ ys)) xs p)) (λ _. omega (arith, both.0, best_part-most g xs p))

-- what holds of each member of the list holds of those of its part
best_part-all : (P : Object → Type 0) (g : List Object → ℕ) (xs : List Object) → All P xs → All P (best_part g xs)
unfolding best_part
best_part-all P g [] all = all
best_part-all P g (x ∷ xs) all =
    let rest : All P xs = All-tail P x xs all in
    let more : List Object = best_part (λ ys. g (x ∷ ys)) xs in
    cond_both (nat_le (g (best_part g xs)) (g (x ∷ more))) (x ∷ more) (best_part g xs) (All P)
    (λ _. All-cons P x more (All-head P x xs all) (best_part-all P (λ ys. g (x ∷ ys)) xs rest)) (λ _. best_part-all P g xs rest)

-- a part of a list without repeats has none
best_part-apart : (g : List Object → ℕ) (xs : List Object) → IsApart xs → IsApart (best_part g xs)
unfolding best_part
best_part-apart g [] apart = apart
best_part-apart g (x ∷ xs) apart =
    let first : All (λ y. x ≢ y) xs = λ k d low. apart 0 (suc k) d (omega arith) (omega arith) in
    let rest : IsApart xs = λ i j d low within. apart (suc i) (suc j) d (omega arith) (omega arith) in
    let more : List Object = best_part (λ ys. g (x ∷ ys)) xs in
    cond_both (nat_le (g (best_part g xs)) (g (x ∷ more))) (x ∷ more) (best_part g xs) IsApart
    (λ _. AllPairs-cons (λ x y. x ≢ y) x more (best_part-all (λ y. x ≢ y) (λ ys. g (x ∷ ys)) xs first) (best_part-apart (λ ys. g (x ∷ ys)) xs rest)) (λ _. best_part-apart g xs rest)

-- the filter that leaves nothing
filter-none : (xs : List Object) → filter (λ x. false) xs ≡ []
filter-none [] = refl
filter-none (x ∷ xs) = filter-none xs

-- ---- the best part that fits
module _ (c : ℕ) (f : List Object → ℕ) where
  -- what does not fit is worth nothing
  worth : List Object → ℕ
  worth ys = cond (nat_le (total_size ys) c) (suc (f ys)) 0

  -- what fits is worth something
  worth-fits : (ys : List Object) → total_size ys ≤ c → worth ys ≡ suc (f ys)
  unfolding worth
  worth-fits ys fits = ap (λ b. cond b (suc (f ys)) 0) (le-leb (total_size ys) c fits)

  -- and what is worth something fits
  fits-worth : (ys : List Object) → 0 < worth ys → (total_size ys ≤ c) × (worth ys ≡ suc (f ys))
  unfolding worth
  fits-worth ys some = at (nat_le (total_size ys) c) refl some
    where
      at : (t : Bool) → nat_le (total_size ys) c ≡ t → 0 < cond t (suc (f ys)) 0 → (total_size ys ≤ c) × (cond t (suc (f ys)) 0 ≡ suc (f ys))
      at true e more = (leb-true (total_size ys) c e, refl)
      at false e more = absurd (omega arith)

  module _ (xs : List Object) where
    -- of all lists that a filter leaves and that fit, one of the greatest worth
    best_fit : List Object
    best_fit = best_part worth xs

    -- nothing at all fits
    some-worth : 0 < worth best_fit
    unfolding best_fit
    some-worth = omega (arith, best_part-most worth xs (λ x. false), ap worth (filter-none xs), worth-fits [] (omega arith))

    -- so the best part does
    best_fit-fits : total_size best_fit ≤ c
    best_fit-fits = (fits-worth best_fit some-worth).0

    -- no filter that leaves what fits leaves more
    best_fit-most : (p : Object → Bool) → total_size (filter p xs) ≤ c → f (filter p xs) ≤ f best_fit
    unfolding best_fit
    best_fit-most p fits = omega (arith, best_part-most worth xs p, worth-fits (filter p xs) fits, (fits-worth best_fit some-worth).1)

-- ---- request by request
-- the contents after each request
best_from : ℕ → (ℕ → Bool) → (Object → ℕ) → List Object → List Object → List (List Object)
best_from c counted earns held [] = []
best_from c counted earns held (r ∷ later) =
    let next : List Object = best_fit c (λ ys. earned (after counted) earns later (ys ∷ best_from c (after counted) earns ys later)) (r ∷ without r held) in
    next ∷ best_from c (after counted) earns next later

-- the object asked for is not among the others
apart-with : (r : Object) (held : List Object) → IsApart held → IsApart (r ∷ without r held)
apart-with r held apart =
    AllPairs-cons (λ x y. x ≢ y) r (without r held)
    (All-weaker (λ y. not (same_object r y) ≡ true) (λ y. r ≢ y) (λ y differs e. both_ways (same_object r y) (not-true (same_object r y) differs) (same_object-from r y e)) (without r held)
    (filter_passes (λ y. not (same_object r y)) held))
    (AllPairs-filter (λ x y. x ≢ y) (λ y. not (same_object r y)) held apart)

-- a member of what may be held was held, or is the object asked for
may-enter : (r : Object) (held : List Object) → All (λ x. (holds held x ≡ true) ⊎ (r ≡ x)) (r ∷ without r held)
may-enter r held =
    let P : Object → Type 0 = λ x. (holds held x ≡ true) ⊎ (r ≡ x) in
    All-cons P r (without r held) (inr refl)
    (All-filter (λ y. not (same_object r y)) P held (All-weaker (Contains held) P (λ x m. inl (holds-from_Contains held x m)) held (All-contains_itself held)))

-- and the other way
holds-with : (r : Object) (held : List Object) (x : Object) → (holds held x ≡ true) ⊎ (r ≡ x) → holds (r ∷ without r held) x ≡ true
holds-with r held x (inl was) =
    ⊎_elim (λ (same : same_object r x ≡ true). or_left (same_object x r) (holds (without r held) x) (same_object-sym x r ∙ same))
    (λ (differs : same_object r x ≡ false). or_right (same_object x r) (holds (without r held) x) (holds-without r x held differs was))
    (cases_Bool (same_object r x))
holds-with r held x (inr e) = or_left (same_object x r) (holds (without r held) x) (same_object-from x r (sym e))

-- one request, from contents to the best part of what may be held then
best-move : (c : ℕ) (f : List Object → ℕ) (held : List Object) (r : Object) → IsApart held → IsMove c held r (best_fit c f (r ∷ without r held))
unfolding best_fit
best-move c f held r apart =
    let P : Object → Type 0 = λ x. (holds held x ≡ true) ⊎ (r ≡ x) in
    let next : List Object = best_part (worth c f) (r ∷ without r held) in
    record {
      enters = λ x h. All-contains P next x (best_part-all P (worth c f) (r ∷ without r held) (may-enter r held)) (Contains-from_holds next x h);
      room = best_fit-fits c f (r ∷ without r held);
      apart = best_part-apart (worth c f) (r ∷ without r held) (apart-with r held apart);
    }

-- what other contents hold of it fits with them
others-fit : (c : ℕ) (xs next : List Object) → IsApart xs → total_size next ≤ c → total_size (filter (holds next) xs) ≤ c
others-fit c xs next apart room =
    let part : List Object = filter (holds next) xs in
    omega (
      arith,
      sum_by-subset (λ (x : Object). x.size) part next
          (IsDistinct-from_AllPairs (λ a b. (same_object-true a b, same_object-from a b)) part (AllPairs-filter (λ x y. x ≢ y) (holds next) xs apart))
          (recursion_from_All (λ x. holds next x ≡ true) part (filter_passes (holds next) xs)),
    )

-- a hit of other contents, all of whose members are held, is one of those held
hit-inside : (counted other held : Bool) (n : ℕ) → (other ≡ true → held ≡ true) → cond (counted && other) n 0 ≤ cond (counted && held) n 0
hit-inside false other held n inside = omega arith
hit-inside true true held n inside = omega (arith, ap (λ b. cond b n 0) (inside refl))
hit-inside true false held n inside = omega arith

-- all requests are moves
moves-best : (c : ℕ) (counted : ℕ → Bool) (earns : Object → ℕ) (trace held : List Object) → IsApart held → Moves c held trace (best_from c counted earns held trace)
unfolding best_from
moves-best c counted earns [] held apart = tt
moves-best c counted earns (r ∷ later) held apart =
    let f : List Object → ℕ = λ ys. earned (after counted) earns later (ys ∷ best_from c (after counted) earns ys later) in
    let next : List Object = best_fit c f (r ∷ without r held) in
    let move : IsMove c held r next = best-move c f held r apart in
    (move, moves-best c (after counted) earns later next move.apart)

-- other moves, from contents all of whose members are held, earn no more
earned-best : (c : ℕ) (counted : ℕ → Bool) (earns : Object → ℕ) (trace held other : List Object) (others : List (List Object)) → IsApart held
    → ((x : Object) → holds other x ≡ true → holds held x ≡ true) → Moves c other trace others
    → earned counted earns trace (other ∷ others) ≤ earned counted earns trace (held ∷ best_from c counted earns held trace)
unfolding best_from
earned-best c counted earns [] held other others apart inside moves = omega arith
earned-best c counted earns (r ∷ later) held other [] apart inside moves = absurd moves
earned-best c counted earns (r ∷ later) held other (next ∷ nexts) apart inside moves =
    let f : List Object → ℕ = λ ys. earned (after counted) earns later (ys ∷ best_from c (after counted) earns ys later) in
    let xs : List Object = r ∷ without r held in
    let part : List Object = filter (holds next) xs in
    let move : IsMove c other r next = moves.0 in
    let there : (x : Object) → holds next x ≡ true → holds part x ≡ true = λ x h.
    holds-filter (holds next) xs x (holds-with r held x (⊎_elim (λ (was : holds other x ≡ true). inl (inside x was)) (λ (e : r ≡ x). inr e) (move.enters x h))) h in
    let rest : earned (after counted) earns later (next ∷ nexts) ≤ f part =
    earned-best c (after counted) earns later part next nexts (AllPairs-filter (λ x y. x ≢ y) (holds next) xs (apart-with r held apart)) there moves.1 in
    let most : f part ≤ f (best_fit c f xs) = best_fit-most c f xs (holds next) (others-fit c xs next (apart-with r held apart) move.room) in
    omega (arith, hit-inside (counted 0) (holds other r) (holds held r) (earns r) (inside r), rest, most)

-- ---- from the first request on
-- the contents of the greatest score
best_contents : Terms → List Object → List (List Object)
best_contents terms trace = [] ∷ best_from terms.capacity (counts terms) (gain_of terms.objective) [] trace

-- nothing is without repeats
none-apart : IsApart []
none-apart = λ i j d low high. absurd (omega arith)

-- they are allowed
best-allowed : (terms : Terms) (trace : List Object) → IsAllowed terms.capacity trace (best_contents terms trace)
unfolding best_contents
best-allowed terms trace =
    allowed_of_moves terms.capacity trace [] (best_from terms.capacity (counts terms) (gain_of terms.objective) [] trace) refl
    (moves-best terms.capacity (counts terms) (gain_of terms.objective) trace [] none-apart)

-- and none score more
best-greatest : (terms : Terms) (trace : List Object) (others : List (List Object)) → IsAllowed terms.capacity trace others → score terms trace others ≤ score terms trace (best_contents terms trace)
unfolding best_contents
best-greatest terms trace [] allowed = absurd (omega (arith, allowed.one_more_than_requests))
best-greatest terms trace (held ∷ nexts) allowed =
    let c : ℕ = terms.capacity in
    let earns : Object → ℕ = gain_of terms.objective in
    let empty : held ≡ [] = allowed.empty_at_first in
    omega (
      arith,
      score-earned (counts terms) earns trace (held ∷ nexts),
      score-earned (counts terms) earns trace ([] ∷ best_from c (counts terms) earns [] trace),
      earned-best c (counts terms) earns trace [] held nexts none-apart (λ x h. ap (λ xs. holds xs x) (sym empty) ∙ h) (moves_of_allowed c trace held nexts allowed),
    )

pub greatest_score_exists : GreatestScoreExists
greatest_score_exists terms trace = (
  score terms trace (best_contents terms trace),
  record { contents = best_contents terms trace; allowed = best-allowed terms trace; scored = refl; greatest = best-greatest terms trace },
)

pub greatest_score_is_within : GreatestScoreIsWithin
greatest_score_is_within trace fills h records valid best is = (
  omega (arith, valid.lower, is.greatest (contents_of trace (keeps_of records)) valid.keeps),
  omega (arith, is.scored, (valid_bounds trace fills h records valid).no_policy_passes_the_floor is.contents is.allowed),
)

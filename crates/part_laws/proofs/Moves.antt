-- Allowed contents, move by move.
use Rattle.std.proofs.Common.{◌≡◌, ◌≢◌, ℕ, zero, suc, ◌+◌, ◌<◌, ◌≤◌, ◌⊎◌, inl, inr, ⊎_elim, ◌∙◌, sym, refl, ap, subst, true, List, [], ◌∷◌, length, arith, Some, slice_get, All, AllPairs, Contains}
use Rattle.std.specs.List.{Any}
use Rattle.std.proofs.lemmas.List.Folds.{Any-from_list_any}
use Rattle.std.proofs.lemmas.List.Elements.{All-head, All-tail, All-cons, All-nil}
use Rattle.cache_model.specs.declared.objects.Object.{Object}
use Rattle.cache_model.specs.Claim.{same_object, total_size, holds, before_request, IsAllowed}
use Rattle.cache_model.proofs.Duality.{same_object-true}
use Rattle.cache_model.proofs.Steps.{holds-from_Contains}

-- one request: nothing comes in but its object, and what is held fits
pub record IsMove (c : ℕ) (held : List Object) (r : Object) (next : List Object) : Type 0 where
  pub enters : (x : Object) → holds next x ≡ true → (holds held x ≡ true) ⊎ (r ≡ x)
  pub room : total_size next ≤ c
  pub apart : AllPairs (λ x y. x ≢ y) next

-- the contents after each request
abbrev pub Moves : ℕ → List Object → List Object → List (List Object) → Type 0
Moves c held [] [] = Unit {0}
Moves c held [] (next ∷ nexts) = ⊥
Moves c held (r ∷ later) [] = ⊥
Moves c held (r ∷ later) (next ∷ nexts) = IsMove c held r next × Moves c next later nexts

pub Contains-from_holds : (xs : List Object) (x : Object) → holds xs x ≡ true → Contains xs x
Contains-from_holds xs x h = at (Any-from_list_any (same_object x) xs h)
  where
    at : Any (λ y. same_object x y ≡ true) xs → Contains xs x
    at (k, y, low, e, same) =
        let here : y ≡ x = sym (same_object-true x y same) in
        subst (Contains xs) here (k, low, e)

asked : (r x : Object) → Some r ≡ Some x → r ≡ x
asked r x e = cc

moves_from_steps : (c : ℕ) (trace : List Object) (held : List Object) (nexts : List (List Object))
    → length nexts ≡ length trace
    → ((t : ℕ) → t < length trace → (x : Object) → Contains (before_request (held ∷ nexts) (t + 1)) x → Contains (before_request (held ∷ nexts) t) x ⊎ (slice_get trace t ≡ Some x))
    → All (λ xs. total_size xs ≤ c) nexts → All (AllPairs (λ x y. x ≢ y)) nexts
    → Moves c held trace nexts
moves_from_steps c [] held [] same enter fits apart = tt
moves_from_steps c [] held (next ∷ nexts) same enter fits apart = absurd (omega arith)
moves_from_steps c (r ∷ trace) held [] same enter fits apart = absurd (omega arith)
moves_from_steps c (r ∷ trace) held (next ∷ nexts) same enter fits apart = (
  record {
    enters = λ x h.
        ⊎_elim (λ (m : Contains held x). inl (holds-from_Contains held x m)) (λ (e : Some r ≡ Some x). inr (asked r x e))
        (enter 0 (omega arith) x (Contains-from_holds next x h));
    room = All-head (λ xs. total_size xs ≤ c) next nexts fits;
    apart = All-head (AllPairs (λ x y. x ≢ y)) next nexts apart;
  },
  moves_from_steps c trace next nexts (omega arith)
      (λ t lt x m. let e : suc (t + 1) ≡ suc t + 1 = omega arith in enter (suc t) (omega arith) x (subst (λ k. Contains (before_request (held ∷ next ∷ nexts) k) x) e m))
      (All-tail (λ xs. total_size xs ≤ c) next nexts fits) (All-tail (AllPairs (λ x y. x ≢ y)) next nexts apart),
)

-- allowed contents are moves
pub moves_of_allowed : (c : ℕ) (trace : List Object) (held : List Object) (nexts : List (List Object)) → IsAllowed c trace (held ∷ nexts) → Moves c held trace nexts
moves_of_allowed c trace held nexts allowed =
    moves_from_steps c trace held nexts (omega (arith, allowed.one_more_than_requests)) allowed.only_requests_enter
    (All-tail (λ xs. total_size xs ≤ c) held nexts allowed.within_capacity) (All-tail (AllPairs (λ x y. x ≢ y)) held nexts allowed.without_repeats)

length-moves : (c : ℕ) (trace : List Object) (held : List Object) (nexts : List (List Object)) → Moves c held trace nexts → length nexts ≡ length trace
length-moves c [] held [] moves = refl
length-moves c [] held (next ∷ nexts) moves = absurd moves
length-moves c (r ∷ trace) held [] moves = absurd moves
length-moves c (r ∷ trace) held (next ∷ nexts) moves = omega (arith, length-moves c trace next nexts moves.1)

steps-moves : (c : ℕ) (trace : List Object) (held : List Object) (nexts : List (List Object)) → Moves c held trace nexts
    → (t : ℕ) → t < length trace → (x : Object) → Contains (before_request (held ∷ nexts) (t + 1)) x → Contains (before_request (held ∷ nexts) t) x ⊎ (slice_get trace t ≡ Some x)
steps-moves c [] held nexts moves t within x m = absurd (omega arith)
steps-moves c (r ∷ trace) held [] moves t within x m = absurd moves
steps-moves c (r ∷ trace) held (next ∷ nexts) moves zero within x m =
    ⊎_elim (λ (h : holds held x ≡ true). inl (Contains-from_holds held x h)) (λ (e : r ≡ x). inr (ap Some e))
    (moves.0.enters x (holds-from_Contains next x m))
steps-moves c (r ∷ trace) held (next ∷ nexts) moves (suc t) within x m =
    let e : suc t + 1 ≡ suc (t + 1) = omega arith in
    steps-moves c trace next nexts moves.1 t (omega arith) x (subst (λ k. Contains (before_request (held ∷ next ∷ nexts) k) x) e m)

fits-moves : (c : ℕ) (trace : List Object) (held : List Object) (nexts : List (List Object)) → Moves c held trace nexts → All (λ xs. total_size xs ≤ c) nexts
fits-moves c [] held [] moves = All-nil (λ xs. total_size xs ≤ c)
fits-moves c [] held (next ∷ nexts) moves = absurd moves
fits-moves c (r ∷ trace) held [] moves = absurd moves
fits-moves c (r ∷ trace) held (next ∷ nexts) moves = All-cons (λ xs. total_size xs ≤ c) next nexts moves.0.room (fits-moves c trace next nexts moves.1)

apart-moves : (c : ℕ) (trace : List Object) (held : List Object) (nexts : List (List Object)) → Moves c held trace nexts → All (AllPairs (λ x y. x ≢ y)) nexts
apart-moves c [] held [] moves = All-nil (AllPairs (λ (x y : Object). x ≢ y))
apart-moves c [] held (next ∷ nexts) moves = absurd moves
apart-moves c (r ∷ trace) held [] moves = absurd moves
apart-moves c (r ∷ trace) held (next ∷ nexts) moves = All-cons (AllPairs (λ x y. x ≢ y)) next nexts moves.0.apart (apart-moves c trace next nexts moves.1)

nothing_apart : (held : List Object) → held ≡ [] → AllPairs (λ x y. x ≢ y) held
nothing_apart held empty = subst (AllPairs (λ x y. x ≢ y)) (sym empty) (λ i j d low high. absurd (omega arith))

-- an empty list of objects is a move from any contents
pub emptied : (c : ℕ) (held : List Object) (r : Object) (next : List Object) → next ≡ [] → IsMove c held r next
emptied c held r next empty = record {
  enters = λ x h. let none : holds next x ≡ holds [] x = ap (λ xs. holds xs x) empty in cc;
  room = omega (arith, ap total_size empty);
  apart = nothing_apart next empty;
}

-- moves from no contents are allowed
pub allowed_of_moves : (c : ℕ) (trace : List Object) (held : List Object) (nexts : List (List Object)) → held ≡ [] → Moves c held trace nexts → IsAllowed c trace (held ∷ nexts)
allowed_of_moves c trace held nexts empty moves = record {
  one_more_than_requests = omega (arith, length-moves c trace held nexts moves);
  empty_at_first = empty;
  only_requests_enter = steps-moves c trace held nexts moves;
  within_capacity = All-cons (λ xs. total_size xs ≤ c) held nexts (omega (arith, ap total_size empty)) (fits-moves c trace held nexts moves);
  without_repeats = All-cons (AllPairs (λ x y. x ≢ y)) held nexts (nothing_apart held empty) (apart-moves c trace held nexts moves);
}

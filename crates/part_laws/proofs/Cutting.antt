-- A bound of a part behind a prelude bounds the part within the whole.
use Rattle.std.proofs.Common.{◌≡◌, ◌≢◌, ℕ, zero, suc, ◌+◌, ◌-◌, ◌<◌, ◌≤◌, ◌⊎◌, inl, inr, ⊎_elim, ◌∙◌, sym, refl, ap, subst, Bool, true, false, not, ◌&&◌, cond, List, [], ◌∷◌, ◌++◌, append_assoc, length, arith, sum_by, filter, AllPairs}
use Rattle.std.specs.List.{range_with_len}
use Rattle.std.proofs.lemmas.Bool.{or_cases, or_left, or_right}
use Rattle.std.proofs.lemmas.List.{get_or_append_left, get_or-append-add, length-append}
use Rattle.std.proofs.lemmas.List.Kept.{AllPairs-filter}
use Rattle.cache_model.specs.declared.objects.Object.{Object}
use Rattle.cache_model.specs.declared.objects.Objective.{Objective}
use Rattle.cache_model.specs.Claim.{same_object, gain_of, total_size, holds, before_request, request_at, no_object, only_fills, IsAllowed}
use Rattle.cache_model.proofs.Duality.{same_object-true, same_object-refl}
use Rattle.part_laws.specs.Laws.{earned_at, IsPrelude, CutIsBounded}
use Rattle.part_laws.proofs.Moves.{IsMove, Moves, Contains-from_holds, moves_of_allowed, allowed_of_moves}
use Rattle.cache_model.proofs.Steps.{holds-from_Contains}
use Rattle.part_laws.proofs.Ranges.{sum_by-range_below}
use Rattle.part_laws.proofs.Adding.{adds, scores_add_up}
use Rattle.part_laws.proofs.Filters.{holds-filter, held_and_passed, total_size-filter}

-- what is kept of contents: what was brought
abbrev kept : List Object → List Object → List Object
kept brought held = filter (holds brought) held

kept-nothing : (held : List Object) → kept [] held ≡ []
kept-nothing [] = refl
kept-nothing (x ∷ held) = kept-nothing held

same_object-from : (r x : Object) → r ≡ x → same_object x r ≡ true
same_object-from r x e = ap (same_object x) e ∙ same_object-refl x

-- a move is one of what is kept too
keeps_move : (c : ℕ) (brought held : List Object) (r : Object) (next : List Object) → IsMove c held r next → IsMove c (kept brought held) r (kept (r ∷ brought) next)
keeps_move c brought held r next move = record {
  enters = λ x h.
      let parts = held_and_passed (holds (r ∷ brought)) next x h in
      ⊎_elim
      (λ (was : holds held x ≡ true).
      ⊎_elim (λ (same : same_object x r ≡ true). inr (sym (same_object-true x r same))) (λ (is : holds brought x ≡ true). inl (holds-filter (holds brought) held x was is))
      (or_cases (same_object x r) (holds brought x) parts.1))
      (λ (e : r ≡ x). inr e)
      (move.enters x parts.0);
  room = omega (arith, total_size-filter (holds (r ∷ brought)) next, move.room);
  apart = AllPairs-filter (λ x y. x ≢ y) (holds (r ∷ brought)) next move.apart;
}

-- a request of the prelude brings one more of what is held
brings_one : (c : ℕ) (brought held : List Object) (r : Object) → total_size held ≤ c → AllPairs (λ x y. x ≢ y) held → IsMove c (kept brought held) r (kept (r ∷ brought) held)
brings_one c brought held r fits apart = record {
  enters = λ x h.
      let parts = held_and_passed (holds (r ∷ brought)) held x h in
      ⊎_elim (λ (same : same_object x r ≡ true). inr (sym (same_object-true x r same))) (λ (is : holds brought x ≡ true). inl (holds-filter (holds brought) held x parts.0 is))
      (or_cases (same_object x r) (holds brought x) parts.1);
  room = omega (arith, total_size-filter (holds (r ∷ brought)) held);
  apart = AllPairs-filter (λ x y. x ≢ y) (holds (r ∷ brought)) held apart;
}

-- the part
-- after each request of the part, what is kept of the contents
abbrev kept_after : List Object → List Object → List (List Object) → List (List Object)
kept_after brought [] nexts = []
kept_after brought (r ∷ part) [] = []
kept_after brought (r ∷ part) (next ∷ nexts) = kept (r ∷ brought) next ∷ kept_after (r ∷ brought) part nexts

moves-kept : (c : ℕ) (brought part after held : List Object) (nexts : List (List Object)) → Moves c held (part ++ after) nexts → Moves c (kept brought held) part (kept_after brought part nexts)
moves-kept c brought [] after held nexts moves = tt
moves-kept c brought (r ∷ part) after held [] moves = absurd moves
moves-kept c brought (r ∷ part) after held (next ∷ nexts) moves = (keeps_move c brought held r next moves.0, moves-kept c (r ∷ brought) part after next nexts moves.1)

-- each object of the part that is held was brought
abbrev IsBrought : List Object → List Object → List Object → Type 0
IsBrought brought part held = (x : Object) → holds held x ≡ true → holds part x ≡ true → holds brought x ≡ true

brought-next : (c : ℕ) (brought : List Object) (r : Object) (part held next : List Object) → IsMove c held r next → IsBrought brought (r ∷ part) held → IsBrought (r ∷ brought) part next
brought-next c brought r part held next move all = λ x h there.
    ⊎_elim (λ (was : holds held x ≡ true). or_right (same_object x r) (holds brought x) (all x was (or_right (same_object x r) (holds part x) there)))
    (λ (e : r ≡ x). or_left (same_object x r) (holds brought x) (same_object-from r x e))
    (move.enters x h)

-- a hit of the part stays one
hit-kept : (c : ℕ) (brought part after held : List Object) (nexts : List (List Object)) (j : ℕ) → Moves c held (part ++ after) nexts → IsBrought brought part held → j < length part
    → holds (before_request (held ∷ nexts) j) (request_at part j) ≡ true
    → holds (before_request (kept brought held ∷ kept_after brought part nexts) j) (request_at part j) ≡ true
hit-kept c brought [] after held nexts j moves all low hit = absurd (omega arith)
hit-kept c brought (r ∷ part) after held [] j moves all low hit = absurd moves
hit-kept c brought (r ∷ part) after held (next ∷ nexts) zero moves all low hit =
    holds-filter (holds brought) held r hit (all r hit (or_left (same_object r r) (holds part r) (same_object-refl r)))
hit-kept c brought (r ∷ part) after held (next ∷ nexts) (suc j) moves all low hit =
    hit-kept c (r ∷ brought) part after next nexts j moves.1 (brought-next c brought r part held next moves.0 all) (omega arith) hit

-- the prelude, and then the part
abbrev made : List Object → List Object → List Object → List Object → List (List Object) → List (List Object)
made brought held [] part nexts = kept_after brought part nexts
made brought held (r ∷ prelude) part nexts = kept (r ∷ brought) held ∷ made (r ∷ brought) held prelude part nexts

moves-made : (c : ℕ) (brought prelude part after held : List Object) (nexts : List (List Object)) → total_size held ≤ c → AllPairs (λ x y. x ≢ y) held → Moves c held (part ++ after) nexts
    → Moves c (kept brought held) (prelude ++ part) (made brought held prelude part nexts)
moves-made c brought [] part after held nexts fits apart moves = moves-kept c brought part after held nexts moves
moves-made c brought (r ∷ prelude) part after held nexts fits apart moves =
    (brings_one c brought held r fits apart, moves-made c (r ∷ brought) prelude part after held nexts fits apart moves)

-- each object of the part that is held was brought, or is still to come
abbrev WillBeBrought : List Object → List Object → List Object → List Object → Type 0
WillBeBrought brought prelude part held = (x : Object) → holds held x ≡ true → holds part x ≡ true → (holds brought x ≡ true) ⊎ (holds prelude x ≡ true)

will-next : (brought : List Object) (r : Object) (prelude part held : List Object) → WillBeBrought brought (r ∷ prelude) part held → WillBeBrought (r ∷ brought) prelude part held
will-next brought r prelude part held all = λ x h there.
    ⊎_elim (λ (is : holds brought x ≡ true). inl (or_right (same_object x r) (holds brought x) is))
    (λ (later : holds (r ∷ prelude) x ≡ true).
    ⊎_elim (λ (same : same_object x r ≡ true). inl (or_left (same_object x r) (holds brought x) same)) (λ (rest : holds prelude x ≡ true). inr rest)
    (or_cases (same_object x r) (holds prelude x) later))
    (all x h there)

will-none : (brought part held : List Object) → WillBeBrought brought [] part held → IsBrought brought part held
will-none brought part held all = λ x h there. ⊎_elim (λ (is : holds brought x ≡ true). is) (λ (no : holds [] x ≡ true). cc) (all x h there)

-- and behind the prelude
hit-made : (c : ℕ) (brought prelude part after held : List Object) (nexts : List (List Object)) (j : ℕ) → Moves c held (part ++ after) nexts → WillBeBrought brought prelude part held → j < length part
    → holds (before_request (held ∷ nexts) j) (request_at part j) ≡ true
    → holds (before_request (kept brought held ∷ made brought held prelude part nexts) (length prelude + j)) (request_at part j) ≡ true
hit-made c brought [] part after held nexts j moves all low hit =
    let same : 0 + j ≡ j = omega arith in
    ap (λ n. holds (before_request (kept brought held ∷ kept_after brought part nexts) n) (request_at part j)) same
    ∙ hit-kept c brought part after held nexts j moves (will-none brought part held all) low hit
hit-made c brought (r ∷ prelude) part after held nexts j moves all low hit =
    let one : suc (length prelude) + j ≡ suc (length prelude + j) = omega arith in
    ap (λ n. holds (before_request (kept brought held ∷ kept (r ∷ brought) held ∷ made (r ∷ brought) held prelude part nexts) n) (request_at part j)) one
    ∙ hit-made c (r ∷ brought) prelude part after held nexts j moves (will-next brought r prelude part held all) low hit

-- what goes before
-- after the requests `before`: what is held, and what comes then
record Reached (c : ℕ) (before later held : List Object) (nexts : List (List Object)) : Type 0 where
  now : List Object
  rest : List (List Object)
  moves : Moves c now later rest
  fits : total_size now ≤ c
  apart : AllPairs (λ x y. x ≢ y) now
  asked : (x : Object) → holds now x ≡ true → (holds held x ≡ true) ⊎ (holds before x ≡ true)
  stands : (j : ℕ) → before_request (held ∷ nexts) (length before + j) ≡ before_request (now ∷ rest) j

reached : (c : ℕ) (before later held : List Object) (nexts : List (List Object)) → total_size held ≤ c → AllPairs (λ x y. x ≢ y) held → Moves c held (before ++ later) nexts → Reached c before later held nexts
reached c [] later held nexts fits apart moves = record {
  now = held;
  rest = nexts;
  moves = moves;
  fits = fits;
  apart = apart;
  asked = λ x h. inl h;
  stands = λ j. let same : 0 + j ≡ j = omega arith in ap (before_request (held ∷ nexts)) same;
}
reached c (r ∷ before) later held [] fits apart moves = absurd moves
reached c (r ∷ before) later held (next ∷ nexts) fits apart moves =
    let move : IsMove c held r next = moves.0 in
    let then : Reached c before later next nexts = reached c before later next nexts move.room move.apart moves.1 in
    record {
      now = then.now;
      rest = then.rest;
      moves = then.moves;
      fits = then.fits;
      apart = then.apart;
      asked = λ x h.
          ⊎_elim
          (λ (was : holds next x ≡ true).
          ⊎_elim (λ (old : holds held x ≡ true). inl old) (λ (e : r ≡ x). inr (or_left (same_object x r) (holds before x) (same_object-from r x e))) (move.enters x was))
          (λ (is : holds before x ≡ true). inr (or_right (same_object x r) (holds before x) is))
          (then.asked x h);
      stands = λ j.
          let one : suc (length before) + j ≡ suc (length before + j) = omega arith in
          ap (before_request (held ∷ next ∷ nexts)) one ∙ then.stands j;
    }

-- contents of the prelude and the part that hit wherever those of the whole do
record HitsAsMuch (c : ℕ) (before part prelude : List Object) (contents : List (List Object)) : Type 0 where
  behind : List (List Object)
  allowed : IsAllowed c (prelude ++ part) behind
  hits : (j : ℕ) → j < length part → holds (before_request contents (length before + j)) (request_at part j) ≡ true → holds (before_request behind (length prelude + j)) (request_at part j) ≡ true

-- all allowed contents of the whole have such ones
hits_as_much : (c : ℕ) (before part after prelude held : List Object) (nexts : List (List Object)) → IsPrelude before part prelude → IsAllowed c (before ++ (part ++ after)) (held ∷ nexts)
    → HitsAsMuch c before part prelude (held ∷ nexts)
hits_as_much c before part after prelude held nexts has allowed =
    let empty : held ≡ [] = allowed.empty_at_first in
    let r : Reached c before (part ++ after) held nexts =
    reached c before (part ++ after) held nexts (omega (arith, ap total_size empty)) (subst (AllPairs (λ x y. x ≢ y)) (sym empty) (λ i j d low high. absurd (omega arith)))
    (moves_of_allowed c (before ++ (part ++ after)) held nexts allowed) in
    let asked : (x : Object) → holds r.now x ≡ true → holds before x ≡ true = λ x h.
    ⊎_elim (λ (old : holds held x ≡ true). let no : holds held x ≡ holds [] x = ap (λ xs. holds xs x) empty in cc) (λ (is : holds before x ≡ true). is) (r.asked x h) in
    let will : WillBeBrought [] prelude part r.now = λ x h there.
    inr (holds-from_Contains prelude x (has x (Contains-from_holds before x (asked x h)) (Contains-from_holds part x there))) in
    let start : List Object = kept [] r.now in
    record {
      behind = start ∷ made [] r.now prelude part r.rest;
      allowed =
          allowed_of_moves c (prelude ++ part) start (made [] r.now prelude part r.rest) (kept-nothing r.now) (moves-made c [] prelude part after r.now r.rest r.fits r.apart r.moves);
      hits = λ j low hit. hit-made c [] prelude part after r.now r.rest j r.moves will low (ap (λ xs. holds xs (request_at part j)) (sym (r.stands j)) ∙ hit);
    }

-- the same request, marked alike, adds no less if it still hits
adds-le : (o : Objective) (fills fills' : Bool) (held held' : List Object) (x y : Object) → fills ≡ fills' → x ≡ y → (holds held y ≡ true → holds held' y ≡ true)
    → adds o true fills held x ≤ adds o true fills' held' y
adds-le o fills fills' held held' x y marks same hit =
    omega (arith, ap (λ m. adds o true m held x) marks, ap (adds o true fills' held) same, at fills' (holds held y) (holds held' y) hit)
  where
    at : (m t u : Bool) → (t ≡ true → u ≡ true) → cond (not m && t) (gain_of o y) 0 ≤ cond (not m && u) (gain_of o y) 0
    at true t u more = omega arith
    at false true true more = omega arith
    at false true false more = let no : false ≡ true = more refl in cc
    at false false u more = omega arith

pub cut_is_bounded : CutIsBounded
cut_is_bounded o c k most before part after prelude fills marks has alike none [] allowed = absurd (omega (arith, allowed.one_more_than_requests))
cut_is_bounded o c k most before part after prelude fills marks has alike none (held ∷ nexts) allowed =
    let trace : List Object = before ++ part ++ after in
    let same : trace ≡ before ++ (part ++ after) = append_assoc before part after in
    let made_here : HitsAsMuch c before part prelude (held ∷ nexts) = hits_as_much c before part after prelude held nexts has (subst (λ xs. IsAllowed c xs (held ∷ nexts)) same allowed) in
    let whole : ℕ → ℕ = earned_at o trace fills (held ∷ nexts) in
    let alone : ℕ → ℕ = earned_at o (prelude ++ part) marks made_here.behind in
    let long : (length before + length part) - (length before + k) ≡ length part - k = omega arith in
    let far : length (prelude ++ part) - (length prelude + k) ≡ length part - k = omega (arith, length-append prelude part) in
    let one : (j : ℕ) → j < length part → whole (length before + j) ≤ alone (length prelude + j) = λ j low.
    let here : request_at trace (length before + j) ≡ request_at part j =
    ap (λ xs. request_at xs (length before + j)) same ∙ get_or-append-add before (part ++ after) j no_object ∙ get_or_append_left part after no_object j low in
    let there : request_at (prelude ++ part) (length prelude + j) ≡ request_at part j = get_or-append-add prelude part j no_object in
    adds-le o (only_fills fills (length before + j)) (only_fills marks (length prelude + j)) (before_request (held ∷ nexts) (length before + j)) (before_request made_here.behind (length prelude + j))
    (request_at trace (length before + j)) (request_at (prelude ++ part) (length prelude + j)) (sym (alike j low)) (here ∙ sym there)
    (λ h. ap (holds (before_request made_here.behind (length prelude + j))) there ∙ made_here.hits j low (ap (holds (before_request (held ∷ nexts) (length before + j))) (sym there) ∙ h)) in
    omega (
      arith,
      ap (λ n. sum_by whole (range_with_len (length before + k) n)) long,
      ap (λ n. sum_by alone (range_with_len (length prelude + k) n)) far,
      sum_by-range_below whole alone (length before + k) (length prelude + k) (length part - k)
          (λ i low.
          let left : length before + k + i ≡ length before + (k + i) = omega arith in
          let right : length prelude + k + i ≡ length prelude + (k + i) = omega arith in
          omega (arith, ap whole left, ap alone right, one (k + i) (omega arith))),
      (scores_add_up o (prelude ++ part) marks made_here.behind).from_the_warmup c (length prelude + k),
      none made_here.behind made_here.allowed,
    )

-- The segments of W-TinyLFU: what a request makes of them is a part of them and of the object requested, and each has no more than its part of the capacity.
use Rattle.std.proofs.Common.{◌≡◌, ℕ, zero, suc, ◌+◌, ◌-◌, ◌≤◌, ◌∙◌, refl, ap, Bool, true, false, not, ◌||◌, ◌&&◌, cond, eqb, leb, ltb, List, [], ◌∷◌, ◌++◌, length, get_or, take, drop, arith, None}
use Rattle.std.proofs.lemmas.Bool.{cond_both, leb-true, eqb-true, and_parts}
use Rattle.std.proofs.lemmas.List.{take-append-drop}
use Rattle.std.proofs.lemmas.List.Sums.{sum_by-cons}
use Rattle.std.proofs.Math.Seq.{take-append_seam, drop-append_seam}
use Rattle.policy_model.specs.declared.names.PolicyName.{PolicyName}
use Rattle.policy_model.specs.declared.names.PolicyName.TheVariants.{WTinyLfu}
use Rattle.policy_model.specs.States.{Entry, Beside, Stock, State, used, has_entry}
use Rattle.policy_model.specs.Steps.{without_entry, fresh_entry, served}
use Rattle.policy_model.specs.WTinyLfu.{Main, Segments, Frequencies, window_part, main_part, protected_part, with_request, entry_of, to_back, demote, hit_main, hit_in, main_used, first_with, victims, without_first, on_probation, count_of, admit, spill, missed_in, main_of, segments_of, frequencies_of, segment_entries, stock_of_segments}
use Rattle.policy_model.proofs.Parts.{weight, weight-cons, weight-append, weight-push, IsPart}

-- what the main part weighs
abbrev pub main_weight : (ℕ → ℕ → ℕ) → Main → ℕ
main_weight f m = weight f m.probation + weight f m.protected

pub weight-segments : (f : ℕ → ℕ → ℕ) (q : Segments) → weight f (segment_entries q) ≡ weight f q.window + main_weight f q.main
weight-segments f q = omega (arith, weight-append f q.window (q.main.probation ++ q.main.protected), weight-append f q.main.probation q.main.protected)

-- ---- a hit
pub weight-apart : (f : ℕ → ℕ → ℕ) (k : ℕ) (entries : List Entry) → weight f (without_entry k entries) + weight f (entry_of k entries) ≡ weight f entries
weight-apart f k [] = refl
weight-apart f k (e ∷ rest) = at (eqb e.object k) (weight-apart f k rest)
  where
    at : (b : Bool) → weight f (without_entry k rest) + weight f (entry_of k rest) ≡ weight f rest
        → weight f (cond (not b) (e ∷ without_entry k rest) (without_entry k rest)) + weight f (cond b (e ∷ entry_of k rest) (entry_of k rest)) ≡ weight f (e ∷ rest)
    at true more = omega (arith, more, weight-cons f e rest, weight-cons f e (entry_of k rest))
    at false more = omega (arith, more, weight-cons f e rest, weight-cons f e (without_entry k rest))

weight-back : (f : ℕ → ℕ → ℕ) (k : ℕ) (entries : List Entry) → weight f (to_back k entries) ≡ weight f entries
weight-back f k entries = omega (arith, weight-append f (without_entry k entries) (entry_of k entries), weight-apart f k entries)

pub weight-demote : (f : ℕ → ℕ → ℕ) (most : ℕ) (probation protected : List Entry) → main_weight f (demote most probation protected) ≡ weight f probation + weight f protected
weight-demote f most probation [] = refl
weight-demote f most probation (e ∷ protected) =
    cond_both (leb (used (e ∷ protected)) most || eqb (length protected) 0) (record { probation = probation; protected = e ∷ protected }) (demote most (probation ++ e ∷ []) protected)
    (λ (m : Main). main_weight f m ≡ weight f probation + weight f (e ∷ protected))
    (λ _. refl)
    (λ _. omega (arith, weight-demote f most (probation ++ e ∷ []) protected, weight-push f probation e, weight-cons f e protected))

weight-hit_main : (f : ℕ → ℕ → ℕ) (most k : ℕ) (m : Main) → main_weight f (hit_main most k m) ≡ main_weight f m
weight-hit_main f most k m =
    cond_both (has_entry m.protected k) (record { probation = m.probation; protected = to_back k m.protected }) (demote most (without_entry k m.probation) (m.protected ++ entry_of k m.probation))
    (λ (n : Main). main_weight f n ≡ main_weight f m)
    (λ _. omega (arith, weight-back f k m.protected))
    (λ _.
    omega (
      arith,
      weight-demote f most (without_entry k m.probation) (m.protected ++ entry_of k m.probation),
      weight-append f m.protected (entry_of k m.probation),
      weight-apart f k m.probation,
    ))

pub weight-hit_window : (f : ℕ → ℕ → ℕ) (most k : ℕ) (q : Segments) → weight f (hit_in most k q).window ≡ weight f q.window
weight-hit_window f most k q =
    cond_both (has_entry q.window k) (record { window = to_back k q.window; main = q.main }) (record { window = q.window; main = hit_main most k q.main })
    (λ (r : Segments). weight f r.window ≡ weight f q.window) (λ _. weight-back f k q.window) (λ _. refl)

weight-hit_of : (f : ℕ → ℕ → ℕ) (most k : ℕ) (q : Segments) → main_weight f (hit_in most k q).main ≡ main_weight f q.main
weight-hit_of f most k q =
    cond_both (has_entry q.window k) (record { window = to_back k q.window; main = q.main }) (record { window = q.window; main = hit_main most k q.main })
    (λ (r : Segments). main_weight f r.main ≡ main_weight f q.main) (λ _. refl) (λ _. weight-hit_main f most k q.main)

-- ---- a candidate
pub weight-drop : (f : ℕ → ℕ → ℕ) (n : ℕ) (entries : List Entry) → weight f (drop n entries) ≤ weight f entries
weight-drop f zero entries = omega arith
weight-drop f (suc n) [] = omega arith
weight-drop f (suc n) (e ∷ rest) = omega (arith, weight-drop f n rest, weight-cons f e rest)

admit-weight : (f : ℕ → ℕ → ℕ) (most : ℕ) (counts : List ℕ) (e : Entry) (m : Main) → main_weight f (admit most counts e m) ≤ main_weight f m + f e.object e.size
admit-weight f most counts e m =
    let leaving : List Entry = victims most e.size m in
    cond_both (leb e.size most && (leb (main_used m + e.size) most || ltb (count_of counts leaving) (get_or counts e.object 0))) (on_probation e (without_first (length leaving) m)) m
    (λ (n : Main). main_weight f n ≤ main_weight f m + f e.object e.size)
    (λ _.
    omega (
      arith,
      weight-push f (drop (length leaving) m.probation) e,
      weight-drop f (length leaving) m.probation,
      weight-drop f (length leaving - length m.probation) m.protected,
    ))
    (λ _. omega arith)

-- the bytes without the first entries are those without the first of all
drop-both : (n : ℕ) (xs ys : List Entry) → used (drop n xs) + used (drop (n - length xs) ys) ≡ used (drop n (xs ++ ys))
drop-both zero xs ys = let none : zero - length xs ≡ zero = omega arith in omega (arith, ap (λ i. used (drop i ys)) none, weight-append (λ o s. s) xs ys)
drop-both (suc n) [] ys = let all : suc n - 0 ≡ suc n = omega arith in omega (arith, ap (λ i. used (drop i ys)) all)
drop-both (suc n) (e ∷ xs) ys = let less : suc n - length (e ∷ xs) ≡ n - length xs = omega arith in ap (λ i. used (drop n xs) + used (drop i ys)) less ∙ drop-both n xs ys

-- the first with as many bytes have them
first-frees : (bytes : ℕ) (entries : List Entry) → bytes ≤ used entries → used (drop (length (first_with bytes entries)) entries) + bytes ≤ used entries
first-frees bytes [] few = omega (arith, few)
first-frees bytes (e ∷ rest) few =
    cond_both (eqb bytes 0) [] (e ∷ first_with (bytes - e.size) rest) (λ es. used (drop (length es) (e ∷ rest)) + bytes ≤ used (e ∷ rest))
    (λ is. omega (arith, eqb-true bytes 0 is))
    (λ _. omega (arith, first-frees (bytes - e.size) rest (omega (arith, sum_by-cons (λ (g : Entry). g.size) e rest)), sum_by-cons (λ (g : Entry). g.size) e rest))

pub admit-room : (most : ℕ) (counts : List ℕ) (e : Entry) (m : Main) → main_used m ≤ most → main_used (admit most counts e m) ≤ most
admit-room most counts e m fits =
    let leaving : List Entry = victims most e.size m in
    cond_both (leb e.size most && (leb (main_used m + e.size) most || ltb (count_of counts leaving) (get_or counts e.object 0))) (on_probation e (without_first (length leaving) m)) m
    (λ (n : Main). main_used n ≤ most)
    (λ is.
    let small : e.size ≤ most = leb-true e.size most (and_parts (leb e.size most) (leb (main_used m + e.size) most || ltb (count_of counts leaving) (get_or counts e.object 0)) is).0 in
    omega (
      arith,
      weight-push (λ o s. s) (drop (length leaving) m.probation) e,
      drop-both (length leaving) m.probation m.protected,
      first-frees (main_used m + e.size - most) (m.probation ++ m.protected) (omega (arith, weight-append (λ o s. s) m.probation m.protected)),
      weight-append (λ o s. s) m.probation m.protected,
    ))
    (λ _. fits)

-- ---- the window
module _ (part most : ℕ) (counts : List ℕ) where
  made : (e : Entry) (window : List Entry) (m : Main) (P : Segments → Type 0)
      → (leb (used (e ∷ window)) part ≡ true → P (record { window = e ∷ window; main = m }))
      → P (spill part most counts window (admit most counts e m)) → P (spill part most counts (e ∷ window) m)
  made e window m P fits full =
      cond_both (leb (used (e ∷ window)) part) (record { window = e ∷ window; main = m }) (spill part most counts window (admit most counts e m)) P fits (λ _. full)

  spill-weight : (f : ℕ → ℕ → ℕ) (window : List Entry) (m : Main) → weight f (spill part most counts window m).window + main_weight f (spill part most counts window m).main ≤ weight f window + main_weight f m
  spill-weight f [] m = omega arith
  spill-weight f (e ∷ window) m =
      made e window m (λ (q : Segments). weight f q.window + main_weight f q.main ≤ weight f (e ∷ window) + main_weight f m)
      (λ _. omega arith)
      (omega (arith, spill-weight f window (admit most counts e m), admit-weight f most counts e m, weight-cons f e window))

  spill-window : (window : List Entry) (m : Main) → used (spill part most counts window m).window ≤ part
  spill-window [] m = omega arith
  spill-window (e ∷ window) m =
      made e window m (λ (q : Segments). used q.window ≤ part) (λ is. leb-true (used (e ∷ window)) part is) (spill-window window (admit most counts e m))

  spill-main : (window : List Entry) (m : Main) → main_used m ≤ most → main_used (spill part most counts window m).main ≤ most
  spill-main [] m fits = fits
  spill-main (e ∷ window) m fits =
      made e window m (λ (q : Segments). main_used q.main ≤ most) (λ _. fits)
      (spill-main window (admit most counts e m) (admit-room most counts e m fits))

  module _ (e : Entry) (q : Segments) where
    missed : (P : Segments → Type 0) → P (record { window = q.window; main = admit most counts e q.main }) → P (spill part most counts (q.window ++ e ∷ []) q.main) → P (missed_in part most counts e q)
    missed P large small =
        cond_both (ltb part e.size) (record { window = q.window; main = admit most counts e q.main }) (spill part most counts (q.window ++ e ∷ []) q.main) P (λ _. large) (λ _. small)

    missed-weight : (f : ℕ → ℕ → ℕ) → weight f (missed_in part most counts e q).window + main_weight f (missed_in part most counts e q).main ≤ weight f q.window + main_weight f q.main + f e.object e.size
    missed-weight f =
        missed (λ (r : Segments). weight f r.window + main_weight f r.main ≤ weight f q.window + main_weight f q.main + f e.object e.size)
        (omega (arith, admit-weight f most counts e q.main))
        (omega (arith, spill-weight f (q.window ++ e ∷ []) q.main, weight-push f q.window e))

    missed-window : used q.window ≤ part → used (missed_in part most counts e q).window ≤ part
    missed-window fits = missed (λ (r : Segments). used r.window ≤ part) fits (spill-window (q.window ++ e ∷ []) q.main)

    missed-main : main_used q.main ≤ most → main_used (missed_in part most counts e q).main ≤ most
    missed-main fits = missed (λ (r : Segments). main_used r.main ≤ most) (admit-room most counts e q.main fits) (spill-main (q.window ++ e ∷ []) q.main fits)

-- ---- the shares of a state
-- the window and the main part have no more than their parts of the capacity
pub record IsShared (capacity : ℕ) (entries : List Entry) (beside : Beside) : Type 0 where
  pub window : used (take beside.first entries) ≤ window_part capacity
  pub main : main_used (main_of beside.second (drop beside.first entries)) ≤ main_part capacity

-- what the entries of W-TinyLFU keep beside their sum
abbrev pub KeepsShares : PolicyName → ℕ → List Entry → Beside → Type 0
KeepsShares WTinyLfu capacity entries beside = IsShared capacity entries beside
KeepsShares name capacity entries beside = Unit {0}

-- those of segments
pub shared_segments : (capacity : ℕ) (f : Frequencies) (q : Segments) → used q.window ≤ window_part capacity → main_used q.main ≤ main_part capacity
    → IsShared capacity (stock_of_segments f q).entries (stock_of_segments f q).beside
shared_segments capacity f q window main =
    let rest : List Entry = q.main.probation ++ q.main.protected in
    let of : List Entry → List Entry → ℕ = λ xs ys. used xs + used ys in
    let same : main_used (main_of (length q.main.probation) (drop (length q.window) (q.window ++ rest))) ≡ main_used q.main =
    ap (λ es. main_used (main_of (length q.main.probation) es)) (drop-append_seam q.window rest)
    ∙ ap (λ es. of es (drop (length q.main.probation) rest)) (take-append_seam q.main.probation q.main.protected)
    ∙ ap (of q.main.probation) (drop-append_seam q.main.probation q.main.protected) in
    record {
      window = omega (arith, ap used (take-append_seam q.window rest));
      main = omega (arith, same);
    }

-- ---- a state
module _ (s : State) where
  weight-state : (f : ℕ → ℕ → ℕ) → weight f (segments_of s).window + main_weight f (segments_of s).main ≡ weight f s.entries
  weight-state f =
      let rest : List Entry = drop s.beside.first s.entries in
      omega (
        arith,
        weight-append f (take s.beside.first s.entries) rest,
        ap (weight f) (take-append-drop s.beside.first s.entries),
        weight-append f (take s.beside.second rest) (drop s.beside.second rest),
        ap (weight f) (take-append-drop s.beside.second rest),
      )

  module _ (object size : ℕ) where
    abbrev then : Frequencies
    then = with_request (length s.entries) object (frequencies_of s)

    abbrev pub tinylfu_hit : Stock
    tinylfu_hit = stock_of_segments then (hit_in (protected_part s.capacity) object (segments_of s))

    abbrev pub tinylfu_missed : Stock
    tinylfu_missed = stock_of_segments then (missed_in (window_part s.capacity) (main_part s.capacity) then.counts (fresh_entry WTinyLfu s.now object size None) (segments_of s))

    pub tinylfu_hit-part : IsPart tinylfu_hit.entries s.entries
    tinylfu_hit-part f =
        let q : Segments = segments_of s in
        omega (
          arith,
          weight-segments f (hit_in (protected_part s.capacity) object q),
          weight-hit_window f (protected_part s.capacity) object q,
          weight-hit_of f (protected_part s.capacity) object q,
          weight-state f,
        )

    pub tinylfu-part : IsPart tinylfu_missed.entries (fresh_entry WTinyLfu s.now object size None ∷ s.entries)
    tinylfu-part f =
        let e : Entry = fresh_entry WTinyLfu s.now object size None in
        omega (
          arith,
          weight-segments f (missed_in (window_part s.capacity) (main_part s.capacity) then.counts e (segments_of s)),
          missed-weight (window_part s.capacity) (main_part s.capacity) then.counts e (segments_of s) f,
          weight-state f,
          weight-cons f e s.entries,
        )

    module _ (shared : IsShared s.capacity s.entries s.beside) where
      hit_shared : IsShared s.capacity tinylfu_hit.entries tinylfu_hit.beside
      hit_shared =
          let q : Segments = segments_of s in
          let window : used q.window ≤ window_part s.capacity = shared.window in
          let main : main_used q.main ≤ main_part s.capacity = shared.main in
          shared_segments s.capacity then (hit_in (protected_part s.capacity) object q)
          (omega (arith, weight-hit_window (λ o n. n) (protected_part s.capacity) object q)) (omega (arith, weight-hit_of (λ o n. n) (protected_part s.capacity) object q))

      missed_shared : IsShared s.capacity tinylfu_missed.entries tinylfu_missed.beside
      missed_shared =
          let e : Entry = fresh_entry WTinyLfu s.now object size None in
          shared_segments s.capacity then (missed_in (window_part s.capacity) (main_part s.capacity) then.counts e (segments_of s))
          (missed-window (window_part s.capacity) (main_part s.capacity) then.counts e (segments_of s) shared.window) (missed-main (window_part s.capacity) (main_part s.capacity) then.counts e (segments_of s) shared.main)

      pub tinylfu-shared : IsShared s.capacity (served s object size tinylfu_hit tinylfu_missed).entries (served s object size tinylfu_hit tinylfu_missed).beside
      tinylfu-shared = at (has_entry s.entries object) (leb size s.capacity)
        where
          at : (there small : Bool) → (λ (k : Stock). IsShared s.capacity k.entries k.beside) (cond there tinylfu_hit (cond small tinylfu_missed (record { entries = s.entries; beside = s.beside })))
          at true small = hit_shared
          at false true = missed_shared
          at false false = shared

      -- the parts make the capacity, if it has a byte; else nothing has one
      pub tinylfu-room : used s.entries ≤ s.capacity → size ≤ s.capacity → used tinylfu_missed.entries ≤ s.capacity
      tinylfu-room fits small = at s.capacity refl
        where
          at : (c : ℕ) → s.capacity ≡ c → used tinylfu_missed.entries ≤ s.capacity
          at zero is =
              let low : used tinylfu_missed.entries ≤ used (fresh_entry WTinyLfu s.now object size None ∷ s.entries) = tinylfu-part (λ o n. n) in
              omega (arith, sum_by-cons (λ (g : Entry). g.size) (fresh_entry WTinyLfu s.now object size None) s.entries)
          at (suc c) is =
              let q : Segments = missed_in (window_part s.capacity) (main_part s.capacity) then.counts (fresh_entry WTinyLfu s.now object size None) (segments_of s) in
              let window : used q.window ≤ window_part s.capacity = missed-window (window_part s.capacity) (main_part s.capacity) then.counts (fresh_entry WTinyLfu s.now object size None) (segments_of s) shared.window in
              let main : main_used q.main ≤ main_part s.capacity = missed-main (window_part s.capacity) (main_part s.capacity) then.counts (fresh_entry WTinyLfu s.now object size None) (segments_of s) shared.main in
              omega (arith, weight-segments (λ o n. n) q)

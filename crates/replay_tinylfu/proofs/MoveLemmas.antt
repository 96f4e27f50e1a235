-- What a hit and a miss change in the queues, step by step.
use Rattle.std.proofs.Common.{◌≡◌, ℕ, zero, suc, ◌+◌, ◌-◌, ◌<◌, ◌≤◌, ◌∙◌, sym, refl, ap, subst, true, false, ◌||◌, cond, eqb, leb, List, [], ◌∷◌, ◌++◌, length, drop, arith}
use Rattle.std.proofs.lemmas.Bool.{eq-eqb, or_parts, or_from, lt-leb, le-leb, cond_both}
use Rattle.std.proofs.lemmas.List.{length-drop, drop-drop}
use Rattle.std.proofs.Math.ListN.{drop_of_length-le}
use Rattle.std.proofs.lemmas.List.Sums.{sum_by-cons}
use Rattle.policy_model.specs.States.{Entry, used, has_entry}
use Rattle.policy_model.specs.Steps.{without_entry}
use Rattle.policy_model.specs.WTinyLfu.{Main, Segments, entry_of, demote, without_first, first_with, admit, spill, segment_entries}
use Rattle.policy_model.proofs.WTinyLfuSound.{weight-apart}
use Rattle.replay_queues.proofs.ItemLemmas.{has_entry-append}
use Rattle.policy_model.specs.Leaving.{segments_without}
use Rattle.policy_model.proofs.Entries.{without-none}
use Rattle.policy_model.proofs.Leavings.{absent-left, absent-right}
use Rattle.replay_tinylfu.specs.Queues.{Queues, plain_entry, with_segments, with_window, with_probation, with_protected}

-- ---- entries that are dropped
pub none-drop : (k n : ℕ) (entries : List Entry) → has_entry entries k ≡ false → has_entry (drop n entries) k ≡ false
none-drop k zero entries none = none
none-drop k (suc n) [] none = none
none-drop k (suc n) (e ∷ rest) none =
    let parts : (eqb e.object k ≡ false) × (has_entry rest k ≡ false) = or_parts _ _ none in
    none-drop k n rest parts.1

-- an object in no queue isn't in one after the first of the main part left
pub none-left : (k n : ℕ) (q : Segments) → has_entry (segment_entries q) k ≡ false → has_entry (segment_entries (record { window = q.window; main = without_first n q.main })) k ≡ false
none-left k n q none =
    let first : (has_entry q.window k ≡ false) × (has_entry (q.main.probation ++ q.main.protected) k ≡ false) = or_parts _ _ (sym (has_entry-append q.window (q.main.probation ++ q.main.protected) k) ∙ none) in
    let second : (has_entry q.main.probation k ≡ false) × (has_entry q.main.protected k ≡ false) = or_parts _ _ (sym (has_entry-append q.main.probation q.main.protected k) ∙ first.1) in
    has_entry-append q.window (drop n q.main.probation ++ drop (n - length q.main.probation) q.main.protected) k
    ∙ or_from _ _ first.0
    (has_entry-append (drop n q.main.probation) (drop (n - length q.main.probation) q.main.protected) k
    ∙ or_from _ _ (none-drop k n q.main.probation second.0) (none-drop k (n - length q.main.probation) q.main.protected second.1))

-- ---- the first of the main part, one by one
module _ (m : Main) (n : ℕ) where
  abbrev of : List Entry → List Entry → Main
  of p t = record { probation = p; protected = t }

  pub first-probation : 0 < length (drop n m.probation) → record { probation = drop 1 (drop n m.probation); protected = drop (n - length m.probation) m.protected } ≡ without_first (n + 1) m
  first-probation some =
      let low : n < length m.probation = omega (arith, length-drop n m.probation) in
      let same : n - length m.probation ≡ n + 1 - length m.probation = omega arith in
      ap (λ p. of p (drop (n - length m.probation) m.protected)) (drop-drop 1 n m.probation) ∙ ap (λ i. of (drop (n + 1) m.probation) (drop i m.protected)) same

  pub first-protected : length (drop n m.probation) ≤ 0 → record { probation = drop n m.probation; protected = drop 1 (drop (n - length m.probation) m.protected) } ≡ without_first (n + 1) m
  first-protected none =
      let high : length m.probation ≤ n = omega (arith, length-drop n m.probation) in
      let more : n - length m.probation + 1 ≡ n + 1 - length m.probation = omega arith in
      let gone : drop n m.probation ≡ drop (n + 1) m.probation = drop_of_length-le m.probation {i = n} high ∙ sym (drop_of_length-le m.probation {i = n + 1} (omega arith)) in
      ap (λ p. of p (drop 1 (drop (n - length m.probation) m.protected))) gone
      ∙ ap (of (drop (n + 1) m.probation)) (drop-drop 1 (n - length m.probation) m.protected ∙ ap (λ i. drop i m.protected) more)

-- ---- the window
pub spill-over : (part most : ℕ) (counts : List ℕ) (e : Entry) (window : List Entry) (m : Main) → part < used (e ∷ window) → spill part most counts (e ∷ window) m ≡ spill part most counts window (admit most counts e m)
spill-over part most counts e window m over =
    ap (λ b. cond b (record { window = e ∷ window; main = m }) (spill part most counts window (admit most counts e m))) (lt-leb (used (e ∷ window)) part over)

pub spill-fits : (part most : ℕ) (counts : List ℕ) (window : List Entry) (m : Main) → used window ≤ part → spill part most counts window m ≡ record { window = window; main = m }
spill-fits part most counts [] m fits = refl
spill-fits part most counts (e ∷ window) m fits =
    ap (λ b. cond b (record { window = e ∷ window; main = m }) (spill part most counts window (admit most counts e m))) (le-leb (used (e ∷ window)) part fits)

-- ---- protected entries
pub demote-fits : (most : ℕ) (probation protected : List Entry) → used protected ≤ most → demote most probation protected ≡ record { probation = probation; protected = protected }
demote-fits most probation [] fits = refl
demote-fits most probation (e ∷ protected) fits =
    ap (λ b. cond (b || eqb (length protected) 0) (record { probation = probation; protected = e ∷ protected }) (demote most (probation ++ e ∷ []) protected)) (le-leb (used (e ∷ protected)) most fits)

pub demote-one : (most : ℕ) (probation protected : List Entry) → length protected ≤ 1 → demote most probation protected ≡ record { probation = probation; protected = protected }
demote-one most probation [] one = refl
demote-one most probation (e ∷ protected) one =
    cond_both (leb (used (e ∷ protected)) most || eqb (length protected) 0) (record { probation = probation; protected = e ∷ protected }) (demote most (probation ++ e ∷ []) protected)
    (λ (m : Main). m ≡ record { probation = probation; protected = e ∷ protected }) (λ _. refl)
    (λ neither. absurd (clash (or_parts (leb (used (e ∷ protected)) most) (eqb (length protected) 0) neither).1))
  where
    clash : eqb (length protected) 0 ≡ false → ⊥
    clash differs = let same : true ≡ false = sym (eq-eqb (length protected) 0 (omega arith)) ∙ differs in cc

pub first_with-few : (bytes : ℕ) (entries : List Entry) → length (first_with bytes entries) ≤ length entries
first_with-few bytes [] = omega arith
first_with-few bytes (e ∷ rest) =
    cond_both (eqb bytes 0) [] (e ∷ first_with (bytes - e.size) rest) (λ es. length es ≤ length (e ∷ rest)) (λ _. omega arith) (λ _. omega (arith, first_with-few (bytes - e.size) rest))

-- queues by their parts
pub queues-as : (q : Queues) (objects room : ℕ) (window : List Entry) (m : Main) → q.objects ≡ objects → q.room ≡ room → q.segments.window ≡ window → q.segments.main ≡ m
    → q ≡ record { objects = objects; segments = record { window = window; main = m }; room = room }
queues-as q objects room window m of_objects of_room of_window of_main =
    let of : ℕ → ℕ → List Entry → Main → Queues = λ o r w n. record { objects = o; segments = record { window = w; main = n }; room = r } in
    ap (λ o. of o q.room q.segments.window q.segments.main) of_objects ∙ ap (λ r. of objects r q.segments.window q.segments.main) of_room
    ∙ ap (λ w. of objects room w q.segments.main) of_window ∙ ap (of objects room window) of_main

-- the bytes of an object that is taken out
pub taken-bytes : (k size : ℕ) (entries : List Entry) → entry_of k entries ≡ plain_entry k size ∷ [] → used (without_entry k entries) + size ≡ used entries
taken-bytes k size entries one = omega (arith, weight-apart (λ o n. n) k entries, ap used one, sum_by-cons (λ (e : Entry). e.size) (plain_entry k size) [])

-- ---- an object that leaves
module _ (k : ℕ) (old new : Queues) where
  abbrev with_three : List Entry → List Entry → List Entry → Queues
  with_three w p t = with_segments (record { window = w; main = record { probation = p; protected = t } }) old

  abbrev here : Segments
  here = old.segments

  -- from the window, and stands nowhere else
  pub window-leaves : new ≡ with_window (without_entry k here.window) old → has_entry (segment_entries new.segments) k ≡ false → new ≡ with_segments (segments_without k here) old
  window-leaves is absent =
      let rest : has_entry (here.main.probation ++ here.main.protected) k ≡ false =
      absent-right k (without_entry k here.window) (here.main.probation ++ here.main.protected) (subst (λ (r : Queues). has_entry (segment_entries r.segments) k ≡ false) is absent) in
      is
      ∙ sym (ap (λ es. with_three (without_entry k here.window) es here.main.protected) (without-none k here.main.probation (absent-left k here.main.probation here.main.protected rest)))
      ∙ sym (ap (with_three (without_entry k here.window) (without_entry k here.main.probation)) (without-none k here.main.protected (absent-right k here.main.probation here.main.protected rest)))

  -- from those on probation
  pub probation-leaves : has_entry here.window k ≡ false → new ≡ with_probation (without_entry k here.main.probation) old → has_entry (segment_entries new.segments) k ≡ false
      → new ≡ with_segments (segments_without k here) old
  probation-leaves first is absent =
      let rest : has_entry (without_entry k here.main.probation ++ here.main.protected) k ≡ false =
      absent-right k here.window (without_entry k here.main.probation ++ here.main.protected) (subst (λ (r : Queues). has_entry (segment_entries r.segments) k ≡ false) is absent) in
      is
      ∙ sym (ap (λ es. with_three es (without_entry k here.main.probation) here.main.protected) (without-none k here.window first))
      ∙ sym (ap (with_three (without_entry k here.window) (without_entry k here.main.probation)) (without-none k here.main.protected (absent-right k (without_entry k here.main.probation) here.main.protected rest)))

  -- from the protected ones
  pub protected-leaves : has_entry here.window k ≡ false → has_entry here.main.probation k ≡ false → new ≡ with_protected (without_entry k here.main.protected) old
      → new ≡ with_segments (segments_without k here) old
  protected-leaves first second is =
      is
      ∙ sym (ap (λ es. with_three es here.main.probation (without_entry k here.main.protected)) (without-none k here.window first))
      ∙ sym (ap (λ es. with_three (without_entry k here.window) es (without_entry k here.main.protected)) (without-none k here.main.probation second))

-- one that stands nowhere
pub none-leaves : (k : ℕ) (old : Queues) → has_entry old.segments.window k ≡ false → has_entry old.segments.main.probation k ≡ false → has_entry old.segments.main.protected k ≡ false
    → old ≡ with_segments (segments_without k old.segments) old
none-leaves k old first second third =
    protected-leaves k old old first second (ap (λ es. with_protected es old) (sym (without-none k old.segments.main.protected third)))

-- The walk over the first entries of the main part.
use Rattle.std.proofs.Common.{◌≡◌, ℕ, ◌+◌, ◌-◌, ◌<◌, ◌≤◌, ◌⊎◌, inl, inr, ⊎_elim, ◌∙◌, sym, refl, ap, subst, Bool, true, false, ◌||◌, cond, eqb, List, [], ◌∷◌, ◌++◌, length, get_or, arith}
use Rattle.std.proofs.lemmas.Bool.{eqb-true, eq-eqb, ne_eqb, or_parts, or_left, or_right}
use Rattle.std.proofs.lemmas.List.{map-append, length-append}
use Rattle.std.proofs.lemmas.List.Sums.{sum_by-cons, sum_by-append}
use Rattle.policy_model.specs.States.{Entry, used}
use Rattle.policy_model.specs.WTinyLfu.{first_with, count_of, main_used}
use Rattle.linked_nodes.specs.declared.nodes.Node.{Node}
use Rattle.replay_queues.specs.Rings.{is_among, Distinct, Links}
use Rattle.replay_queues.proofs.RingLemmas.{after}
use Rattle.replay_queues.proofs.GhostAnswers.{size_at}
use Rattle.replay_tinylfu.specs.Marks.{up_to, past, follow}
use Rattle.replay_tinylfu.specs.declared.ring.Load.{Load}
use Rattle.replay_tinylfu.specs.Queues.{plain_entry, entries_at, main_numbers, probation_of, protected_of, queues_at, main_entries}
use Rattle.replay_tinylfu.specs.Loads.{IsKept}
use Rattle.replay_tinylfu.proofs.MarkLemmas.{distinct-past}
use Rattle.replay_tinylfu.proofs.KeptLemmas.{probation-low, protected-low, few-numbers}
use Rattle.replay_tinylfu.proofs.TakenLemmas.{links_main}

-- from this node on, the numbers follow each other, but for the mark
abbrev pub Reaches : List Node → ℕ → ℕ → List ℕ → Type 0
Reaches nodes mark object [] = Unit {0}
Reaches nodes mark object (k ∷ rest) = (object ≡ k) × Reaches nodes mark (follow nodes mark k) rest

follow-other : (nodes : List Node) (mark k : ℕ) → eqb (after nodes k) mark ≡ false → follow nodes mark k ≡ after nodes k
follow-other nodes mark k differs = ap (λ b. cond b (after nodes mark) (after nodes k)) differs

reach-plain : (nodes : List Node) (mark first : ℕ) (numbers : List ℕ) (last : ℕ) → Links nodes first numbers last → is_among numbers mark ≡ false → eqb last mark ≡ false → Reaches nodes mark (after nodes first) numbers
reach-plain nodes mark first [] last l none other = tt
reach-plain nodes mark first (k ∷ []) last l none other = (l.0, tt)
reach-plain nodes mark first (k ∷ j ∷ rest) last l none other =
    let parts : (eqb k mark ≡ false) × (is_among (j ∷ rest) mark ≡ false) = or_parts _ _ none in
    let next : (eqb j mark ≡ false) × (is_among rest mark ≡ false) = or_parts _ _ parts.1 in
    (l.0, subst (λ i. Reaches nodes mark i (j ∷ rest)) (sym (follow-other nodes mark k (ap (λ i. eqb i mark) l.2.0 ∙ next.0))) (reach-plain nodes mark k (j ∷ rest) last l.2 parts.1 other))

-- over the mark
pub reach : (nodes : List Node) (mark first : ℕ) (numbers : List ℕ) (last : ℕ) → Links nodes first numbers last → is_among numbers mark ≡ true → Distinct numbers → eqb last mark ≡ false
    → Reaches nodes mark (follow nodes mark first) (up_to mark numbers ++ past mark numbers)
reach nodes mark first [] last l there apart other = cc
reach nodes mark first (k ∷ rest) last l there apart other = at (eqb k mark) refl (reach nodes mark k rest last l.2)
  where
    at : (t : Bool) → eqb k mark ≡ t → (is_among rest mark ≡ true → Distinct rest → eqb last mark ≡ false → Reaches nodes mark (follow nodes mark k) (up_to mark rest ++ past mark rest))
        → Reaches nodes mark (follow nodes mark first) (cond (eqb k mark) [] (k ∷ up_to mark rest) ++ cond (eqb k mark) rest (past mark rest))
    at true is more =
        let same : k ≡ mark = eqb-true k mark is in
        let over : follow nodes mark first ≡ after nodes k = ap (λ b. cond b (after nodes mark) (after nodes first)) (ap (λ i. eqb i mark) l.0 ∙ is) ∙ ap (after nodes) (sym same) in
        subst (λ b. Reaches nodes mark (follow nodes mark first) (cond b [] (k ∷ up_to mark rest) ++ cond b rest (past mark rest))) (sym is)
        (subst (λ i. Reaches nodes mark i rest) (sym over) (reach-plain nodes mark k rest last l.2 (ap (is_among rest) (sym same) ∙ apart.0) other))
    at false is more =
        subst (λ b. Reaches nodes mark (follow nodes mark first) (cond b [] (k ∷ up_to mark rest) ++ cond b rest (past mark rest))) (sym is)
        (follow-other nodes mark first (ap (λ i. eqb i mark) l.0 ∙ is) ∙ l.0, more (ap (λ b. b || is_among rest mark) (sym is) ∙ there) apart.1 other)

-- ---- the victims so far
pub record IsWalk (nodes : List Node) (mark : ℕ) (main counts : List ℕ) (bytes object freed sum entries : ℕ) : Type 0 where
  pub rest : List ℕ
  pub reaches : Reaches nodes mark object rest
  pub among : (k : ℕ) → is_among rest k ≡ true → is_among main k ≡ true
  pub many : length main ≡ entries + length rest
  pub victims_are : length (first_with bytes (entries_at nodes main)) ≡ entries + length (first_with (bytes - freed) (entries_at nodes rest))
  pub counts_are : count_of counts (first_with bytes (entries_at nodes main)) ≡ sum + count_of counts (first_with (bytes - freed) (entries_at nodes rest))
  pub enough : bytes ≤ freed + used (entries_at nodes rest)
  pub within : used (entries_at nodes rest) ≤ used (entries_at nodes main)

-- what holds of the next one
pub record IsNext (nodes : List Node) (mark : ℕ) (main counts : List ℕ) (bytes object freed sum entries : ℕ) : Type 0 where
  pub there : is_among main object ≡ true
  pub size : size_at nodes object ≤ used (entries_at nodes main)
  pub more : entries < length main
  pub counted : sum + get_or counts object 0 ≤ count_of counts (first_with bytes (entries_at nodes main))
  pub walk : IsWalk nodes mark main counts bytes (follow nodes mark object) (freed + size_at nodes object) (sum + get_or counts object 0) (entries + 1)

module _ (nodes : List Node) (mark : ℕ) (main counts : List ℕ) (bytes : ℕ) where
  pub walk-start : (first : ℕ) → Reaches nodes mark first main → bytes ≤ used (entries_at nodes main) → IsWalk nodes mark main counts bytes first 0 0 0
  walk-start first reaches enough = record {
    rest = main;
    reaches = reaches;
    among = λ k there. there;
    many = omega arith;
    victims_are = (let same : bytes - 0 ≡ bytes = omega arith in omega (arith, ap (λ n. length (first_with n (entries_at nodes main))) same));
    counts_are = (let same : bytes - 0 ≡ bytes = omega arith in omega (arith, ap (λ n. count_of counts (first_with n (entries_at nodes main))) same));
    enough = omega (arith, enough);
    within = omega arith;
  }

  pub walk-next : (object freed sum entries : ℕ) → freed < bytes → IsWalk nodes mark main counts bytes object freed sum entries → IsNext nodes mark main counts bytes object freed sum entries
  walk-next object freed sum entries less w = at w.rest w.reaches w.among w.many w.victims_are w.counts_are w.enough w.within
    where
      at : (rest : List ℕ) → Reaches nodes mark object rest → ((k : ℕ) → is_among rest k ≡ true → is_among main k ≡ true) → length main ≡ entries + length rest
          → length (first_with bytes (entries_at nodes main)) ≡ entries + length (first_with (bytes - freed) (entries_at nodes rest))
          → count_of counts (first_with bytes (entries_at nodes main)) ≡ sum + count_of counts (first_with (bytes - freed) (entries_at nodes rest))
          → bytes ≤ freed + used (entries_at nodes rest) → used (entries_at nodes rest) ≤ used (entries_at nodes main) → IsNext nodes mark main counts bytes object freed sum entries
      at [] reaches among many victims_are counts_are enough within = absurd (omega arith)
      at (k ∷ rest) reaches among many victims_are counts_are enough within =
          let e : Entry = plain_entry k (size_at nodes k) in
          let es : List Entry = entries_at nodes rest in
          let some : eqb (bytes - freed) 0 ≡ false = ne_eqb (bytes - freed) 0 (λ none. absurd (omega arith)) in
          let less_bytes : bytes - freed - size_at nodes k ≡ bytes - (freed + size_at nodes k) = omega arith in
          let first : first_with (bytes - freed) (e ∷ es) ≡ e ∷ first_with (bytes - (freed + size_at nodes k)) es =
          ap (λ b. cond b [] (e ∷ first_with (bytes - freed - size_at nodes k) es)) some ∙ ap (λ n. e ∷ first_with n es) less_bytes in
          let total : used (e ∷ es) ≡ size_at nodes k + used es = sum_by-cons (λ (f : Entry). f.size) e es in
          let counted : count_of counts (e ∷ first_with (bytes - (freed + size_at nodes k)) es) ≡ get_or counts k 0 + count_of counts (first_with (bytes - (freed + size_at nodes k)) es) =
          sum_by-cons (λ (f : Entry). get_or counts f.object 0) e (first_with (bytes - (freed + size_at nodes k)) es) in
          subst (λ i. IsNext nodes mark main counts bytes i freed sum entries) (sym reaches.0) (record {
            there = among k (or_left (eqb k k) (is_among rest k) (eq-eqb k k refl));
            size = omega (arith, total);
            more = omega arith;
            counted = omega (arith, counted, ap (count_of counts) first);
            walk = record {
              rest = rest;
              reaches = reaches.1;
              among = λ j there. among j (or_right (eqb k j) (is_among rest j) there);
              many = omega arith;
              victims_are = omega (arith, ap length first);
              counts_are = omega (arith, counted, ap (count_of counts) first);
              enough = omega (arith, total);
              within = omega (arith, total);
            };
          })

  first-none : (entries : List Entry) (n : ℕ) → n ≡ 0 → first_with n entries ≡ []
  first-none [] n none = refl
  first-none (e ∷ rest) n none = ap (λ b. cond b [] (e ∷ first_with (n - e.size) rest)) (eq-eqb n 0 none)

  pub walk-done : (object freed sum entries : ℕ) → bytes ≤ freed → IsWalk nodes mark main counts bytes object freed sum entries
      → (entries ≡ length (first_with bytes (entries_at nodes main))) × (count_of counts (first_with bytes (entries_at nodes main)) ≡ sum)
  walk-done object freed sum entries done w =
      let none : first_with (bytes - freed) (entries_at nodes w.rest) ≡ [] = first-none (entries_at nodes w.rest) (bytes - freed) (omega arith) in
      (omega (arith, w.victims_are, ap length none), omega (arith, w.counts_are, ap (count_of counts) none))

-- ---- of a ring
module _ (nodes : List Node) (places : List ℕ) (none : ℕ) (w p t : Load) (numbers : List ℕ) (kept : IsKept nodes places none w p t numbers) where
  abbrev pub main_of_ring : List ℕ
  main_of_ring = probation_of none numbers ++ protected_of none numbers

  pub main-entries : entries_at nodes main_of_ring ≡ main_entries (queues_at nodes none numbers)
  main-entries = map-append (λ (k : ℕ). plain_entry k (size_at nodes k)) (probation_of none numbers) (protected_of none numbers)

  among-both : (xs ys : List ℕ) (k : ℕ) → is_among (xs ++ ys) k ≡ true → (is_among xs k ≡ true) ⊎ (is_among ys k ≡ true)
  among-both [] ys k there = inr there
  among-both (x ∷ xs) ys k there = at (eqb x k) refl (among-both xs ys k)
    where
      at : (b : Bool) → eqb x k ≡ b → (is_among (xs ++ ys) k ≡ true → (is_among xs k ≡ true) ⊎ (is_among ys k ≡ true)) → (is_among (x ∷ xs) k ≡ true) ⊎ (is_among ys k ≡ true)
      at true is more = inl (or_left (eqb x k) (is_among xs k) is)
      at false is more = ⊎_elim (λ h. inl (or_right (eqb x k) (is_among xs k) h)) (λ h. inr h) (more (ap (λ b. b || is_among (xs ++ ys) k) (sym is) ∙ there))

  pub main-low : (k : ℕ) → is_among main_of_ring k ≡ true → k < none
  main-low k there =
      ⊎_elim (λ (h : is_among (probation_of none numbers) k ≡ true). probation-low nodes places none w p t numbers kept k h)
      (λ (h : is_among (protected_of none numbers) k ≡ true). protected-low nodes places none w p t numbers kept k h) (among-both (probation_of none numbers) (protected_of none numbers) k there)

  pub main-many : length main_of_ring ≤ none + 1
  main-many =
      let of_p : p.entries ≡ length (probation_of none numbers) = kept.probation_is.entries_are in
      let of_t : t.entries ≡ length (protected_of none numbers) = kept.protected_is.entries_are in
      omega (arith, few-numbers nodes places none w p t numbers kept, length-append (probation_of none numbers) (protected_of none numbers))

  pub main-bytes : used (entries_at nodes main_of_ring) ≡ main_used (queues_at nodes none numbers).segments.main
  main-bytes = ap used main-entries ∙ sum_by-append (λ (e : Entry). e.size) (entries_at nodes (probation_of none numbers)) (entries_at nodes (protected_of none numbers))

  pub walk-begin : (counts : List ℕ) (bytes : ℕ) → bytes ≤ main_used (queues_at nodes none numbers).segments.main → IsWalk nodes (none + 2) main_of_ring counts bytes (follow nodes (none + 2) (none + 1)) 0 0 0
  walk-begin counts bytes enough =
      walk-start nodes (none + 2) main_of_ring counts bytes (follow nodes (none + 2) (none + 1))
      (reach nodes (none + 2) (none + 1) (main_numbers none numbers) none (links_main nodes none numbers kept.ring) kept.ring.third_mark (distinct-past (none + 1) numbers kept.ring.apart)
      (ne_eqb none (none + 2) (λ same. absurd (omega arith)))) (omega (arith, main-bytes))

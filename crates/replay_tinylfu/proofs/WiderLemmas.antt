-- The ring of marks and objects, as more objects have a place.
use Rattle.std.proofs.Common.{◌≡◌, ℕ, ◌+◌, ◌<◌, ◌≤◌, ◌∙◌, sym, refl, ap, subst, inl, inr, Bool, true, false, ◌||◌, cond, eqb, List, [], ◌∷◌, ◌++◌, length, map, get_or, replicate, arith}
use Rattle.std.proofs.lemmas.Bool.{cases_eq, eq-eqb, eqb-true, ne_eqb, or_left, or_right}
use Rattle.policy_model.specs.States.{Entry}
use Rattle.linked_nodes.specs.declared.nodes.Node.{Node}
use Rattle.linked_nodes.specs.Nodes.{Grows, renumbered}
use Rattle.linked_nodes.proofs.NumberLemmas.{renumbered-mark, renumbered-object, renumbered-same, renumbered-within}
use Rattle.replay_queues.specs.Rings.{is_among, Distinct, Links}
use Rattle.replay_queues.proofs.GhostAnswers.{size_at}
use Rattle.replay_queues.proofs.GrowLemmas.{links-named, named-none}
use Rattle.replay_queues.proofs.RoomLemmas.{grown-cell}
use Rattle.replay_tinylfu.specs.declared.ring.Load.{Load}
use Rattle.replay_tinylfu.specs.Marks.{up_to, past}
use Rattle.replay_tinylfu.specs.Queues.{Queues, plain_entry, entries_at, window_of, main_numbers, probation_of, protected_of, queues_at, queues_by}
use Rattle.replay_tinylfu.specs.Loads.{IsRing, IsLoad, IsKept}
use Rattle.replay_tinylfu.proofs.KeptLemmas.{load-same, probation-low, protected-low, window-low}
use Rattle.replay_tinylfu.proofs.LinkLemmas.{among-there, first-there}

-- ---- numbers that are renumbered
module _ (none more : ℕ) (wider : none ≤ more) where
  abbrev named : ℕ → ℕ
  named = renumbered none more

  named-eqb : (j k : ℕ) → eqb (named j) (named k) ≡ eqb j k
  named-eqb j k = elim (cases_eq j k) [
    | inl same ↦ eq-eqb (named j) (named k) (ap named same) ∙ sym (eq-eqb j k same)
    | inr apart ↦ ne_eqb (named j) (named k) (λ e. apart (renumbered-same none more j k wider e)) ∙ sym (ne_eqb j k apart)
  ]

  among-named : (numbers : List ℕ) (k : ℕ) → is_among (map named numbers) (named k) ≡ is_among numbers k
  among-named [] k = refl
  among-named (j ∷ rest) k = ap (λ b. b || is_among (map named rest) (named k)) (named-eqb j k) ∙ ap (λ b. eqb j k || b) (among-named rest k)

  distinct-named : (numbers : List ℕ) → Distinct numbers → Distinct (map named numbers)
  distinct-named [] apart = tt
  distinct-named (k ∷ rest) apart = (among-named rest k ∙ apart.0, distinct-named rest apart.1)

  below-named : (numbers : List ℕ) → ((k : ℕ) → is_among numbers k ≡ true → k < none + 3) → (q : ℕ) → is_among (map named numbers) q ≡ true → q < more + 3
  below-named [] below q there = cc
  below-named (k ∷ rest) below q there = at (eqb (named k) q) refl (below-named rest (λ j among. below j (or_right (eqb k j) (is_among rest j) among)) q)
    where
      at : (t : Bool) → eqb (named k) q ≡ t → (is_among (map named rest) q ≡ true → q < more + 3) → q < more + 3
      at true e later = subst (λ i. i < more + 3) (eqb-true (named k) q e) (renumbered-within none more k wider (below k (or_left (eqb k k) (is_among rest k) (eq-eqb k k refl))))
      at false e later = later (ap (λ b. b || is_among (map named rest) q) (sym e) ∙ there)

  up_to-named : (mark : ℕ) (numbers : List ℕ) → up_to (named mark) (map named numbers) ≡ map named (up_to mark numbers)
  up_to-named mark [] = refl
  up_to-named mark (k ∷ rest) =
      ap (λ b. cond b [] (named k ∷ up_to (named mark) (map named rest))) (named-eqb k mark) ∙ at (eqb k mark) (up_to-named mark rest)
    where
      at : (t : Bool) → up_to (named mark) (map named rest) ≡ map named (up_to mark rest) → cond t [] (named k ∷ up_to (named mark) (map named rest)) ≡ map named (cond t [] (k ∷ up_to mark rest))
      at true later = refl
      at false later = ap (λ ks. named k ∷ ks) later

  past-named : (mark : ℕ) (numbers : List ℕ) → past (named mark) (map named numbers) ≡ map named (past mark numbers)
  past-named mark [] = refl
  past-named mark (k ∷ rest) = ap (λ b. cond b (map named rest) (past (named mark) (map named rest))) (named-eqb k mark) ∙ at (eqb k mark) (past-named mark rest)
    where
      at : (t : Bool) → past (named mark) (map named rest) ≡ map named (past mark rest) → cond t (map named rest) (past (named mark) (map named rest)) ≡ map named (cond t rest (past mark rest))
      at true later = refl
      at false later = later

  -- objects keep their numbers, and the marks are those above more objects
  objects-named : (numbers : List ℕ) → ((k : ℕ) → is_among numbers k ≡ true → k < none) → map named numbers ≡ numbers
  objects-named [] below = refl
  objects-named (k ∷ rest) below =
      ap (λ j. j ∷ map named rest) (renumbered-object none more k (below k (or_left (eqb k k) (is_among rest k) (eq-eqb k k refl))))
      ∙ ap (λ js. k ∷ js) (objects-named rest (λ j among. below j (or_right (eqb k j) (is_among rest j) among)))

  mark-named : (i : ℕ) → named (none + i) ≡ more + i
  mark-named i = renumbered-mark none more (none + i) (omega arith) ∙ omega arith

-- ---- the ring
module _ (old new : List Node) (none more : ℕ) (grows : Grows old new none more) (wider : none ≤ more) (few : more ≤ 2147483648) (places : List ℕ) (w p t : Load) (numbers : List ℕ) (kept : IsKept old places none w p t numbers) where
  abbrev named_all : List ℕ
  named_all = map (renumbered none more) numbers

  main-named : main_numbers more named_all ≡ map (renumbered none more) (main_numbers none numbers)
  main-named = ap (λ m. past m named_all) (sym (mark-named none more wider 1)) ∙ past-named none more wider (none + 1) numbers

  window-same : window_of more named_all ≡ window_of none numbers
  window-same =
      ap (λ m. up_to m named_all) (sym (mark-named none more wider 1)) ∙ up_to-named none more wider (none + 1) numbers
      ∙ objects-named none more wider (window_of none numbers) (window-low old places none w p t numbers kept)

  probation-same : probation_of more named_all ≡ probation_of none numbers
  probation-same =
      ap (up_to (more + 2)) main-named ∙ ap (λ m. up_to m (map (renumbered none more) (main_numbers none numbers))) (sym (mark-named none more wider 2)) ∙ up_to-named none more wider (none + 2) (main_numbers none numbers)
      ∙ objects-named none more wider (probation_of none numbers) (probation-low old places none w p t numbers kept)

  protected-same : protected_of more named_all ≡ protected_of none numbers
  protected-same =
      ap (past (more + 2)) main-named ∙ ap (λ m. past m (map (renumbered none more) (main_numbers none numbers))) (sym (mark-named none more wider 2)) ∙ past-named none more wider (none + 2) (main_numbers none numbers)
      ∙ objects-named none more wider (protected_of none numbers) (protected-low old places none w p t numbers kept)

  linked : Links new more named_all more
  linked =
      subst (λ n. Links new n named_all n) (named-none old new none more grows)
      (links-named old new none more grows none numbers none (first-there old none numbers kept.ring) (first-there old none numbers kept.ring) (among-there old none numbers kept.ring) kept.ring.linked)

  wider-ring : IsRing new more named_all
  wider-ring = record {
    few = few;
    each_node = grows.are;
    linked = linked;
    apart = distinct-named none more wider numbers kept.ring.apart;
    first_apart = ap (is_among named_all) (sym (named-none old new none more grows)) ∙ among-named none more wider numbers none ∙ kept.ring.first_apart;
    below = below-named none more wider numbers kept.ring.below;
    second_mark = ap (is_among named_all) (sym (mark-named none more wider 1)) ∙ among-named none more wider numbers (none + 1) ∙ kept.ring.second_mark;
    third_mark = ap (λ ks. is_among ks (more + 2)) main-named ∙ ap (is_among (map (renumbered none more) (main_numbers none numbers))) (sym (mark-named none more wider 2))
        ∙ among-named none more wider (main_numbers none numbers) (none + 2) ∙ kept.ring.third_mark;
  }

  -- ---- what is counted
  entries-named : (part : List ℕ) → ((k : ℕ) → is_among part k ≡ true → k < none) → entries_at new part ≡ entries_at old part
  entries-named [] below = refl
  entries-named (k ∷ rest) below =
      let low : k < none = below k (or_left (eqb k k) (is_among rest k) (eq-eqb k k refl)) in
      let same : size_at new k ≡ size_at old k = ap (size_at new) (sym (renumbered-object none more k low)) ∙ grows.sizes_stay k (omega (arith, low, grows.were)) in
      ap (λ s. plain_entry k s ∷ entries_at new rest) same ∙ ap (λ es. plain_entry k (size_at old k) ∷ es) (entries-named rest (λ j among. below j (or_right (eqb k j) (is_among rest j) among)))

  load-named : (part after_part : List ℕ) (load : Load) → after_part ≡ part → ((k : ℕ) → is_among part k ≡ true → k < none) → IsLoad old part load → IsLoad new after_part load
  load-named part after_part load same below is = subst (λ ks. IsLoad new ks load) (sym same) (load-same old new part load (entries-named part below) is)

  place-same : (n i : ℕ) (part after_part : List ℕ) → after_part ≡ part → ((q : ℕ) → eqb (get_or places q 0) i ≡ is_among part q) → (q : ℕ) → eqb (get_or (places ++ replicate n 0) q 0) i ≡ is_among after_part q
  place-same n i part after_part same are q = ap (λ v. eqb v i) (grown-cell places n q) ∙ are q ∙ ap (λ ks. is_among ks q) (sym same)

  pub wider-kept : (n : ℕ) → length (places ++ replicate n 0) ≡ more → IsKept new (places ++ replicate n 0) more w p t named_all
  wider-kept n long = record {
    ring = wider-ring;
    each_object = long;
    places_are = record {
      in_window = place-same n 1 (window_of none numbers) (window_of more named_all) window-same kept.places_are.in_window;
      on_probation = place-same n 2 (probation_of none numbers) (probation_of more named_all) probation-same kept.places_are.on_probation;
      is_protected = place-same n 3 (protected_of none numbers) (protected_of more named_all) protected-same kept.places_are.is_protected;
    };
    window_is = load-named (window_of none numbers) (window_of more named_all) w window-same (window-low old places none w p t numbers kept) kept.window_is;
    probation_is = load-named (probation_of none numbers) (probation_of more named_all) p probation-same (probation-low old places none w p t numbers kept) kept.probation_is;
    protected_is = load-named (protected_of none numbers) (protected_of more named_all) t protected-same (protected-low old places none w p t numbers kept) kept.protected_is;
  }

  pub wider-queues : queues_at new more named_all ≡ record (queues_at old none numbers) { objects = more }
  wider-queues =
      let of : List Entry → List Entry → List Entry → Queues = λ a b c. record { objects = more; segments = record { window = a; main = record { probation = b; protected = c } }; room = 0 } in
      ap (λ ks. queues_by new more ks (probation_of more named_all) (protected_of more named_all)) window-same
      ∙ ap (λ ks. queues_by new more (window_of none numbers) ks (protected_of more named_all)) probation-same
      ∙ ap (queues_by new more (window_of none numbers) (probation_of none numbers)) protected-same
      ∙ ap (λ a. of a (entries_at new (probation_of none numbers)) (entries_at new (protected_of none numbers))) (entries-named (window_of none numbers) (window-low old places none w p t numbers kept))
      ∙ ap (λ b. of (entries_at old (window_of none numbers)) b (entries_at new (protected_of none numbers))) (entries-named (probation_of none numbers) (probation-low old places none w p t numbers kept))
      ∙ ap (of (entries_at old (window_of none numbers)) (entries_at old (probation_of none numbers))) (entries-named (protected_of none numbers) (protected-low old places none w p t numbers kept))

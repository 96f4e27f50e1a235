-- The queues of a ring, with what is counted of them, as an object is put in or taken out.
use Rattle.std.proofs.Common.{◌≡◌, ℕ, ◌+◌, ◌-◌, ◌<◌, ◌≤◌, ◌∙◌, sym, refl, ap, subst, Bool, true, false, not, ◌||◌, cond, eqb, List, [], ◌∷◌, ◌++◌, length, get_or, set, sum_by, arith}
use Rattle.std.proofs.lemmas.Bool.{eqb-true, eq-eqb, ne_eqb, or_parts, or_from, or_right}
use Rattle.std.proofs.lemmas.List.{length-append, map-append, length-set}
use Rattle.std.proofs.lemmas.List.Sums.{sum_by-cons, sum_by_push}
use Rattle.cache_model.proofs.Eligible.{or_false}
use Rattle.policy_model.proofs.Comparisons.{eqb-sym}
use Rattle.policy_model.specs.States.{Entry, used, has_entry}
use Rattle.policy_model.specs.Steps.{without_entry}
use Rattle.policy_model.specs.WTinyLfu.{entry_of, segment_entries}
use Rattle.linked_nodes.specs.declared.nodes.Node.{Node}
use Rattle.linked_nodes.specs.Nodes.{Enters}
use Rattle.replay_queues.specs.Rings.{is_among, Distinct, walk}
use Rattle.replay_queues.proofs.RingLemmas.{after, without, walked}
use Rattle.replay_queues.proofs.GhostAnswers.{size_at, few, sum-without, ones, among-push, without-gone}
use Rattle.replay_queues.proofs.ItemLemmas.{here, other, within_cells, has_entry-append}
use Rattle.replay_tinylfu.specs.declared.ring.Load.{Load}
use Rattle.replay_tinylfu.specs.Marks.{up_to, past, put_in, PutsBefore}
use Rattle.replay_tinylfu.specs.Queues.{Queues, plain_entry, entries_at, window_of, main_numbers, probation_of, protected_of, queues_by, queues_at, with_window, with_probation, with_protected}
use Rattle.replay_tinylfu.specs.Loads.{numbers_of, IsRing, ArePlaces, IsLoad, IsKept}
use Rattle.replay_tinylfu.proofs.LinkLemmas.{ring-but, window-window, window-probation, window-protected, probation-window, probation-probation, probation-protected, protected-window, protected-probation, protected-protected, ring-window, ring-probation, ring-protected}
use Rattle.replay_tinylfu.proofs.MarkLemmas.{distinct-up_to, distinct-past, length-parts}

-- ---- the entries of numbers
pub entries-among : (nodes : List Node) (numbers : List ℕ) (k : ℕ) → has_entry (entries_at nodes numbers) k ≡ is_among numbers k
entries-among nodes [] k = refl
entries-among nodes (j ∷ rest) k = ap (λ b. eqb j k || b) (entries-among nodes rest k)

pub entries-same : (old new : List Node) → ((j : ℕ) → size_at new j ≡ size_at old j) → (numbers : List ℕ) → entries_at new numbers ≡ entries_at old numbers
entries-same old new same [] = refl
entries-same old new same (j ∷ rest) = ap (λ s. plain_entry j s ∷ entries_at new rest) (same j) ∙ ap (λ es. plain_entry j (size_at old j) ∷ es) (entries-same old new same rest)

pub entries-but : (old new : List Node) (k : ℕ) → ((j : ℕ) → eqb j k ≡ false → size_at new j ≡ size_at old j) → (numbers : List ℕ) → is_among numbers k ≡ false → entries_at new numbers ≡ entries_at old numbers
entries-but old new k same [] none = refl
entries-but old new k same (j ∷ rest) none =
    let parts : (eqb j k ≡ false) × (is_among rest k ≡ false) = or_parts _ _ none in
    ap (λ s. plain_entry j s ∷ entries_at new rest) (same j parts.0) ∙ ap (λ es. plain_entry j (size_at old j) ∷ es) (entries-but old new k same rest parts.1)

pub entries-without : (nodes : List Node) (k : ℕ) (numbers : List ℕ) → without_entry k (entries_at nodes numbers) ≡ entries_at nodes (without k numbers)
entries-without nodes k [] = refl
entries-without nodes k (j ∷ rest) = at (eqb j k) (entries-without nodes k rest)
  where
    at : (t : Bool) → without_entry k (entries_at nodes rest) ≡ entries_at nodes (without k rest)
        → cond (not t) (plain_entry j (size_at nodes j) ∷ without_entry k (entries_at nodes rest)) (without_entry k (entries_at nodes rest)) ≡ entries_at nodes (cond (not t) (j ∷ without k rest) (without k rest))
    at true later = later
    at false later = ap (λ es. plain_entry j (size_at nodes j) ∷ es) later

entry-none : (nodes : List Node) (k : ℕ) (numbers : List ℕ) → is_among numbers k ≡ false → entry_of k (entries_at nodes numbers) ≡ []
entry-none nodes k [] none = refl
entry-none nodes k (j ∷ rest) none =
    let parts : (eqb j k ≡ false) × (is_among rest k ≡ false) = or_parts _ _ none in
    ap (λ b. cond b (plain_entry j (size_at nodes j) ∷ entry_of k (entries_at nodes rest)) (entry_of k (entries_at nodes rest))) parts.0 ∙ entry-none nodes k rest parts.1

pub entry-one : (nodes : List Node) (k : ℕ) (numbers : List ℕ) → Distinct numbers → is_among numbers k ≡ true → entry_of k (entries_at nodes numbers) ≡ plain_entry k (size_at nodes k) ∷ []
entry-one nodes k [] apart there = cc
entry-one nodes k (j ∷ rest) apart there = at (eqb j k) refl (entry-one nodes k rest apart.1)
  where
    at : (t : Bool) → eqb j k ≡ t → (is_among rest k ≡ true → entry_of k (entries_at nodes rest) ≡ plain_entry k (size_at nodes k) ∷ [])
        → cond (eqb j k) (plain_entry j (size_at nodes j) ∷ entry_of k (entries_at nodes rest)) (entry_of k (entries_at nodes rest)) ≡ plain_entry k (size_at nodes k) ∷ []
    at true is more =
        ap (λ b. cond b (plain_entry j (size_at nodes j) ∷ entry_of k (entries_at nodes rest)) (entry_of k (entries_at nodes rest))) is
        ∙ ap (λ es. plain_entry j (size_at nodes j) ∷ es) (entry-none nodes k rest (ap (is_among rest) (sym (eqb-true j k is)) ∙ apart.0))
        ∙ ap (λ i. plain_entry i (size_at nodes i) ∷ []) (eqb-true j k is)
    at false is more =
        ap (λ b. cond b (plain_entry j (size_at nodes j) ∷ entry_of k (entries_at nodes rest)) (entry_of k (entries_at nodes rest))) is
        ∙ more (ap (λ b. b || is_among rest k) (sym is) ∙ there)

pub entries-used : (nodes : List Node) (numbers : List ℕ) → used (entries_at nodes numbers) ≡ sum_by (size_at nodes) numbers
entries-used nodes [] = refl
entries-used nodes (j ∷ rest) = omega (arith, entries-used nodes rest, sum_by-cons (size_at nodes) j rest, sum_by-cons (λ (e : Entry). e.size) (plain_entry j (size_at nodes j)) (entries_at nodes rest))

-- ---- what is in no part isn't in the whole
parts-none : (mark q : ℕ) (numbers : List ℕ) → is_among (up_to mark numbers) q ≡ false → eqb mark q ≡ false → is_among (past mark numbers) q ≡ false → is_among numbers q ≡ false
parts-none mark q [] low no_mark high = refl
parts-none mark q (j ∷ rest) low no_mark high = at (eqb j mark) refl (λ l h. parts-none mark q rest l no_mark h)
  where
    at : (t : Bool) → eqb j mark ≡ t → (is_among (up_to mark rest) q ≡ false → is_among (past mark rest) q ≡ false → is_among rest q ≡ false) → is_among (j ∷ rest) q ≡ false
    at true is more = or_from (eqb j q) (is_among rest q) (ap (λ i. eqb i q) (eqb-true j mark is) ∙ no_mark) (ap (λ b. is_among (cond b rest (past mark rest)) q) (sym is) ∙ high)
    at false is more =
        let parts : (eqb j q ≡ false) × (is_among (up_to mark rest) q ≡ false) = or_parts _ _ (ap (λ b. is_among (cond b [] (j ∷ up_to mark rest)) q) (sym is) ∙ low) in
        or_from (eqb j q) (is_among rest q) parts.0 (more parts.1 (ap (λ b. is_among (cond b rest (past mark rest)) q) (sym is) ∙ high))

-- ---- places
module _ (places : List ℕ) (k v : ℕ) (within : k < length places) where
  pub place-set : (i : ℕ) (old new : List ℕ) → ((q : ℕ) → eqb (get_or places q 0) i ≡ is_among old q) → ((q : ℕ) → eqb k q ≡ false → is_among new q ≡ is_among old q) → eqb v i ≡ is_among new k
      → (q : ℕ) → eqb (get_or (set places k v) q 0) i ≡ is_among new q
  place-set i old new are others is q = at (eqb k q) refl
    where
      at : (t : Bool) → eqb k q ≡ t → eqb (get_or (set places k v) q 0) i ≡ is_among new q
      at true e =
          let same : k ≡ q = eqb-true k q e in
          ap (λ j. eqb (get_or (set places k v) j 0) i) (sym same) ∙ ap (λ n. eqb n i) (here places k v within) ∙ is ∙ ap (is_among new) same
      at false e = ap (λ n. eqb n i) (other places k v q (eqb-sym q k ∙ e)) ∙ are q ∙ sym (others q e)

pub among-pushed : (numbers : List ℕ) (k q : ℕ) → eqb k q ≡ false → is_among (numbers ++ k ∷ []) q ≡ is_among numbers q
among-pushed numbers k q differs = among-push numbers k q ∙ ap (λ b. is_among numbers q || b) differs ∙ or_false (is_among numbers q)

pub among-itself : (numbers : List ℕ) (k : ℕ) → is_among (numbers ++ k ∷ []) k ≡ true
among-itself numbers k = among-push numbers k k ∙ or_right (is_among numbers k) (eqb k k) (eq-eqb k k refl)

-- ---- loads
pub load-same : (old new : List Node) (numbers : List ℕ) (load : Load) → entries_at new numbers ≡ entries_at old numbers → IsLoad old numbers load → IsLoad new numbers load
load-same old new numbers load same is = record { entries_are = is.entries_are; bytes_are = is.bytes_are ∙ ap used (sym same) }

pub load-push : (old new : List Node) (numbers : List ℕ) (load : Load) (k size : ℕ) → entries_at new (numbers ++ k ∷ []) ≡ entries_at old numbers ++ plain_entry k size ∷ [] → IsLoad old numbers load
    → IsLoad new (numbers ++ k ∷ []) (record { entries = load.entries + 1; bytes = load.bytes + size })
load-push old new numbers load k size same is =
    let many : load.entries ≡ length numbers = is.entries_are in
    let bytes : load.bytes ≡ used (entries_at old numbers) = is.bytes_are in
    record {
      entries_are = omega (arith, length-append numbers (k ∷ []));
      bytes_are = omega (arith, ap used same, sum_by_push (λ (e : Entry). e.size) (entries_at old numbers) (plain_entry k size));
    }

pub load-less : (old new : List Node) (numbers : List ℕ) (load : Load) (k : ℕ) → Distinct numbers → is_among numbers k ≡ true → ((j : ℕ) → eqb j k ≡ false → size_at new j ≡ size_at old j) → IsLoad old numbers load
    → IsLoad new (without k numbers) (record { entries = load.entries - 1; bytes = load.bytes - size_at old k })
load-less old new numbers load k apart there same is =
    let many : load.entries ≡ length numbers = is.entries_are in
    let bytes : load.bytes ≡ used (entries_at old numbers) = is.bytes_are in
    record {
      entries_are = omega (arith, sum-without (λ (j : ℕ). 1) k numbers apart there, ones numbers, ones (without k numbers));
      bytes_are = omega (
        arith,
        ap used (entries-but old new k same (without k numbers) (without-gone k numbers)),
        entries-used old numbers,
        entries-used old (without k numbers),
        sum-without (size_at old) k numbers apart there,
      );
    }

pub load-has : (nodes : List Node) (numbers : List ℕ) (load : Load) (k : ℕ) → Distinct numbers → is_among numbers k ≡ true → IsLoad nodes numbers load → size_at nodes k ≤ load.bytes
load-has nodes numbers load k apart there is =
    let bytes : load.bytes ≡ used (entries_at nodes numbers) = is.bytes_are in
    omega (arith, entries-used nodes numbers, sum-without (size_at nodes) k numbers apart there)

-- ---- all of it
pub length-numbers : (nodes : List Node) (none : ℕ) (numbers : List ℕ) → IsRing nodes none numbers → length numbers ≡ length (window_of none numbers) + length (probation_of none numbers) + length (protected_of none numbers) + 2
length-numbers nodes none numbers ring =
    omega (arith, length-parts (none + 1) numbers ring.second_mark, length-parts (none + 2) (main_numbers none numbers) ring.third_mark)

-- the numbers of a ring that is kept
pub numbers-are : (nodes : List Node) (places : List ℕ) (none : ℕ) (w p t : Load) (numbers : List ℕ) → IsKept nodes places none w p t numbers → numbers_of nodes none w p t ≡ numbers
numbers-are nodes places none w p t numbers kept =
    let of_w : w.entries ≡ length (window_of none numbers) = kept.window_is.entries_are in
    let of_p : p.entries ≡ length (probation_of none numbers) = kept.probation_is.entries_are in
    let of_t : t.entries ≡ length (protected_of none numbers) = kept.protected_is.entries_are in
    let counted : w.entries + p.entries + t.entries + 2 ≡ length numbers = omega (arith, length-numbers nodes none numbers kept.ring) in
    ap (λ n. walk nodes n (after nodes none)) counted ∙ walked nodes none numbers none kept.ring.linked

pub kept-again : (nodes : List Node) (places : List ℕ) (none : ℕ) (w p t : Load) (numbers : List ℕ) → IsKept nodes places none w p t numbers → IsKept nodes places none w p t (numbers_of nodes none w p t)
kept-again nodes places none w p t numbers kept = subst (IsKept nodes places none w p t) (sym (numbers-are nodes places none w p t numbers kept)) kept

module _ (nodes : List Node) (places : List ℕ) (none : ℕ) (w p t : Load) (numbers : List ℕ) (kept : IsKept nodes places none w p t numbers) where
  pub apart-window : Distinct (window_of none numbers)
  apart-window = distinct-up_to (none + 1) numbers kept.ring.apart

  apart-main : Distinct (main_numbers none numbers)
  apart-main = distinct-past (none + 1) numbers kept.ring.apart

  pub apart-probation : Distinct (probation_of none numbers)
  apart-probation = distinct-up_to (none + 2) (main_numbers none numbers) apart-main

  pub apart-protected : Distinct (protected_of none numbers)
  apart-protected = distinct-past (none + 2) (main_numbers none numbers) apart-main

  pub few-numbers : w.entries + p.entries + t.entries ≤ none + 1
  few-numbers =
      let of_w : w.entries ≡ length (window_of none numbers) = kept.window_is.entries_are in
      let of_p : p.entries ≡ length (probation_of none numbers) = kept.probation_is.entries_are in
      let of_t : t.entries ≡ length (protected_of none numbers) = kept.protected_is.entries_are in
      omega (arith, length-numbers nodes none numbers kept.ring, few numbers (none + 3) kept.ring.apart kept.ring.below)

  -- an object that has a place
  placed : (k i : ℕ) → 0 < i → eqb (get_or places k 0) i ≡ true → k < none
  placed k i some is = let at : get_or places k 0 ≡ i = eqb-true (get_or places k 0) i is in let low : k < length places = within_cells places k (omega arith) in omega (arith, kept.each_object)

  pub window-low : (k : ℕ) → is_among (window_of none numbers) k ≡ true → k < none
  window-low k there = placed k 1 (omega arith) (kept.places_are.in_window k ∙ there)

  pub probation-low : (k : ℕ) → is_among (probation_of none numbers) k ≡ true → k < none
  probation-low k there = placed k 2 (omega arith) (kept.places_are.on_probation k ∙ there)

  pub protected-low : (k : ℕ) → is_among (protected_of none numbers) k ≡ true → k < none
  protected-low k there = placed k 3 (omega arith) (kept.places_are.is_protected k ∙ there)

  -- one place is not another
  pub apart-place : (k i j : ℕ) → eqb (get_or places k 0) i ≡ true → eqb i j ≡ false → eqb (get_or places k 0) j ≡ false
  apart-place k i j is differ = ap (λ n. eqb n j) (eqb-true (get_or places k 0) i is) ∙ differ

  -- an object in no queue isn't in the ring
  pub no_number : (k : ℕ) → k < none → has_entry (segment_entries (queues_at nodes none numbers).segments) k ≡ false
      → (is_among (window_of none numbers) k ≡ false) × (is_among (probation_of none numbers) k ≡ false) × (is_among (protected_of none numbers) k ≡ false) × (is_among numbers k ≡ false)
  no_number k low absent =
      let es : List ℕ → List Entry = entries_at nodes in
      let first : (has_entry (es (window_of none numbers)) k ≡ false) × (has_entry (es (probation_of none numbers) ++ es (protected_of none numbers)) k ≡ false) =
      or_parts _ _ (sym (has_entry-append (es (window_of none numbers)) (es (probation_of none numbers) ++ es (protected_of none numbers)) k) ∙ absent) in
      let second : (has_entry (es (probation_of none numbers)) k ≡ false) × (has_entry (es (protected_of none numbers)) k ≡ false) =
      or_parts _ _ (sym (has_entry-append (es (probation_of none numbers)) (es (protected_of none numbers)) k) ∙ first.1) in
      let a : is_among (window_of none numbers) k ≡ false = sym (entries-among nodes (window_of none numbers) k) ∙ first.0 in
      let b : is_among (probation_of none numbers) k ≡ false = sym (entries-among nodes (probation_of none numbers) k) ∙ second.0 in
      let c : is_among (protected_of none numbers) k ≡ false = sym (entries-among nodes (protected_of none numbers) k) ∙ second.1 in
      let main : is_among (main_numbers none numbers) k ≡ false = parts-none (none + 2) k (main_numbers none numbers) b (ne_eqb (none + 2) k (λ same. absurd (omega arith))) c in
      (a, b, c, parts-none (none + 1) k numbers a (ne_eqb (none + 1) k (λ same. absurd (omega arith))) main)

  -- the other way round
  pub no_entry : (k : ℕ) → is_among (window_of none numbers) k ≡ false → is_among (probation_of none numbers) k ≡ false → is_among (protected_of none numbers) k ≡ false
      → has_entry (segment_entries (queues_at nodes none numbers).segments) k ≡ false
  no_entry k a b c =
      let es : List ℕ → List Entry = entries_at nodes in
      has_entry-append (es (window_of none numbers)) (es (probation_of none numbers) ++ es (protected_of none numbers)) k
      ∙ or_from _ _ (entries-among nodes (window_of none numbers) k ∙ a)
      (has_entry-append (es (probation_of none numbers)) (es (protected_of none numbers)) k ∙ or_from _ _ (entries-among nodes (probation_of none numbers) k ∙ b) (entries-among nodes (protected_of none numbers) k ∙ c))

  -- what is no object is in no queue
  beyond : (k : ℕ) (part : List ℕ) → none ≤ k → (is_among part k ≡ true → k < none) → is_among part k ≡ false
  beyond k part high low = at (is_among part k) refl
    where
      at : (b : Bool) → is_among part k ≡ b → is_among part k ≡ false
      at true is = absurd (let less : k < none = low is in omega arith)
      at false is = is

  pub none-beyond : (k : ℕ) → none ≤ k → has_entry (segment_entries (queues_at nodes none numbers).segments) k ≡ false
  none-beyond k high =
      no_entry k (beyond k (window_of none numbers) high (window-low k)) (beyond k (probation_of none numbers) high (probation-low k)) (beyond k (protected_of none numbers) high (protected-low k))

-- ---- one is put in
module _ (old noted new : List Node) (places : List ℕ) (none : ℕ) (w p t : Load) (numbers : List ℕ) (kept : IsKept old places none w p t numbers) (k size : ℕ) (low : k < none)
    (absent : has_entry (segment_entries (queues_at old none numbers).segments) k ≡ false) (enters : Enters old noted k size) where
  no_numbers : (is_among (window_of none numbers) k ≡ false) × (is_among (probation_of none numbers) k ≡ false) × (is_among (protected_of none numbers) k ≡ false) × (is_among numbers k ≡ false)
  no_numbers = no_number old places none w p t numbers kept k low absent

  noted_ring : IsRing noted none numbers
  noted_ring = ring-but old none numbers kept.ring noted k low no_numbers.3 enters.nodes_stay enters.others_stay

  within : k < length places
  within = let each : length places ≡ none = kept.each_object in omega arith

  module _ (next : ℕ) (puts : PutsBefore noted new k next) where
    size-new : size_at new k ≡ size
    size-new = puts.second_join.sizes_stay k ∙ puts.first_join.sizes_stay k ∙ enters.size_is

    size-other : (j : ℕ) → eqb j k ≡ false → size_at new j ≡ size_at old j
    size-other j differs = puts.second_join.sizes_stay j ∙ puts.first_join.sizes_stay j ∙ ap (λ (n : Node). n.size) (enters.others_stay j differs)

    stays : (part : List ℕ) → is_among part k ≡ false → entries_at new part ≡ entries_at old part
    stays part none_there = entries-but old new k size-other part none_there

    grows : (part : List ℕ) → is_among part k ≡ false → entries_at new (part ++ k ∷ []) ≡ entries_at old part ++ plain_entry k size ∷ []
    grows part none_there =
        map-append (λ (j : ℕ). plain_entry j (size_at new j)) part (k ∷ [])
        ∙ ap (λ es. es ++ plain_entry k (size_at new k) ∷ []) (stays part none_there)
        ∙ ap (λ s. entries_at old part ++ plain_entry k s ∷ []) size-new

    -- which lists the parts are then
    module _ (after_numbers : List ℕ) (ring : IsRing new none after_numbers) where
      module _ (wa pa ta : List ℕ) (w-is : window_of none after_numbers ≡ wa) (p-is : probation_of none after_numbers ≡ pa) (t-is : protected_of none after_numbers ≡ ta) where
        kept-of : (v : ℕ) (wl pl tl : Load) → ArePlaces (set places k v) wa pa ta → IsLoad new wa wl → IsLoad new pa pl → IsLoad new ta tl → IsKept new (set places k v) none wl pl tl after_numbers
        kept-of v wl pl tl are of_w of_p of_t = record {
          ring = ring;
          each_object = length-set places k v ∙ kept.each_object;
          places_are = subst (λ a. ArePlaces (set places k v) a (probation_of none after_numbers) (protected_of none after_numbers)) (sym w-is)
              (subst (λ b. ArePlaces (set places k v) wa b (protected_of none after_numbers)) (sym p-is) (subst (λ c. ArePlaces (set places k v) wa pa c) (sym t-is) are));
          window_is = subst (λ a. IsLoad new a wl) (sym w-is) of_w;
          probation_is = subst (λ a. IsLoad new a pl) (sym p-is) of_p;
          protected_is = subst (λ a. IsLoad new a tl) (sym t-is) of_t;
        }

        queues-of : queues_at new none after_numbers ≡ queues_by new none wa pa ta
        queues-of = ap (λ a. queues_by new none a (probation_of none after_numbers) (protected_of none after_numbers)) w-is
            ∙ ap (λ b. queues_by new none wa b (protected_of none after_numbers)) p-is ∙ ap (queues_by new none wa pa) t-is

    unset : (i : ℕ) (part : List ℕ) → ((q : ℕ) → eqb (get_or places q 0) i ≡ is_among part q) → (v : ℕ) → eqb v i ≡ false → is_among part k ≡ false → (q : ℕ) → eqb (get_or (set places k v) q 0) i ≡ is_among part q
    unset i part are v differs none_there = place-set places k v within i part part are (λ q h. refl) (differs ∙ sym none_there)

    set_to : (i : ℕ) (part : List ℕ) → ((q : ℕ) → eqb (get_or places q 0) i ≡ is_among part q) → (q : ℕ) → eqb (get_or (set places k i) q 0) i ≡ is_among (part ++ k ∷ []) q
    set_to i part are = place-set places k i within i part (part ++ k ∷ []) are (λ q h. among-pushed part k q h) (eq-eqb i i refl ∙ sym (among-itself part k))

    abbrev of : List Entry → List Entry → List Entry → Queues
    of a b c = record { objects = none; segments = record { window = a; main = record { probation = b; protected = c } }; room = 0 }

    same-queues : (wa pa ta : List ℕ) (a b c : List Entry) → entries_at new wa ≡ a → entries_at new pa ≡ b → entries_at new ta ≡ c → queues_by new none wa pa ta ≡ of a b c
    same-queues wa pa ta a b c of_a of_b of_c = ap (λ es. of es (entries_at new pa) (entries_at new ta)) of_a ∙ ap (λ es. of a es (entries_at new ta)) of_b ∙ ap (of a b) of_c

  module _ (puts : PutsBefore noted new k (none + 1)) where
    w-parts : (window_of none (put_in (none + 1) k numbers) ≡ window_of none numbers ++ k ∷ []) × (probation_of none (put_in (none + 1) k numbers) ≡ probation_of none numbers) × (protected_of none (put_in (none + 1) k numbers) ≡ protected_of none numbers)
    w-parts = (
      window-window noted none numbers noted_ring k low no_numbers.3,
      window-probation noted none numbers noted_ring k low no_numbers.3,
      window-protected noted none numbers noted_ring k low no_numbers.3,
    )

    pub kept-window : IsKept new (set places k 1) none (record { entries = w.entries + 1; bytes = w.bytes + size }) p t (put_in (none + 1) k numbers)
    kept-window =
        kept-of (none + 1) puts (put_in (none + 1) k numbers) (ring-window noted none numbers noted_ring k low no_numbers.3 new puts)
        (window_of none numbers ++ k ∷ []) (probation_of none numbers) (protected_of none numbers) w-parts.0 w-parts.1 w-parts.2 1
        (record { entries = w.entries + 1; bytes = w.bytes + size }) p t
        (record {
          in_window = set_to (none + 1) puts 1 (window_of none numbers) kept.places_are.in_window;
          on_probation = unset (none + 1) puts 2 (probation_of none numbers) kept.places_are.on_probation 1 refl no_numbers.1;
          is_protected = unset (none + 1) puts 3 (protected_of none numbers) kept.places_are.is_protected 1 refl no_numbers.2;
        })
        (load-push old new (window_of none numbers) w k size (grows (none + 1) puts (window_of none numbers) no_numbers.0) kept.window_is)
        (load-same old new (probation_of none numbers) p (stays (none + 1) puts (probation_of none numbers) no_numbers.1) kept.probation_is)
        (load-same old new (protected_of none numbers) t (stays (none + 1) puts (protected_of none numbers) no_numbers.2) kept.protected_is)

    pub queues-window : queues_at new none (put_in (none + 1) k numbers) ≡ with_window ((queues_at old none numbers).segments.window ++ plain_entry k size ∷ []) (queues_at old none numbers)
    queues-window =
        queues-of (none + 1) puts (put_in (none + 1) k numbers) (ring-window noted none numbers noted_ring k low no_numbers.3 new puts)
        (window_of none numbers ++ k ∷ []) (probation_of none numbers) (protected_of none numbers) w-parts.0 w-parts.1 w-parts.2
        ∙ same-queues (none + 1) puts (window_of none numbers ++ k ∷ []) (probation_of none numbers) (protected_of none numbers)
        (entries_at old (window_of none numbers) ++ plain_entry k size ∷ []) (entries_at old (probation_of none numbers)) (entries_at old (protected_of none numbers))
        (grows (none + 1) puts (window_of none numbers) no_numbers.0) (stays (none + 1) puts (probation_of none numbers) no_numbers.1) (stays (none + 1) puts (protected_of none numbers) no_numbers.2)

  module _ (puts : PutsBefore noted new k (none + 2)) where
    p-parts : (window_of none (put_in (none + 2) k numbers) ≡ window_of none numbers) × (probation_of none (put_in (none + 2) k numbers) ≡ probation_of none numbers ++ k ∷ []) × (protected_of none (put_in (none + 2) k numbers) ≡ protected_of none numbers)
    p-parts = (
      probation-window noted none numbers noted_ring k low no_numbers.3,
      probation-probation noted none numbers noted_ring k low no_numbers.3,
      probation-protected noted none numbers noted_ring k low no_numbers.3,
    )

    pub kept-probation : IsKept new (set places k 2) none w (record { entries = p.entries + 1; bytes = p.bytes + size }) t (put_in (none + 2) k numbers)
    kept-probation =
        kept-of (none + 2) puts (put_in (none + 2) k numbers) (ring-probation noted none numbers noted_ring k low no_numbers.3 new puts)
        (window_of none numbers) (probation_of none numbers ++ k ∷ []) (protected_of none numbers) p-parts.0 p-parts.1 p-parts.2 2
        w (record { entries = p.entries + 1; bytes = p.bytes + size }) t
        (record {
          in_window = unset (none + 2) puts 1 (window_of none numbers) kept.places_are.in_window 2 refl no_numbers.0;
          on_probation = set_to (none + 2) puts 2 (probation_of none numbers) kept.places_are.on_probation;
          is_protected = unset (none + 2) puts 3 (protected_of none numbers) kept.places_are.is_protected 2 refl no_numbers.2;
        })
        (load-same old new (window_of none numbers) w (stays (none + 2) puts (window_of none numbers) no_numbers.0) kept.window_is)
        (load-push old new (probation_of none numbers) p k size (grows (none + 2) puts (probation_of none numbers) no_numbers.1) kept.probation_is)
        (load-same old new (protected_of none numbers) t (stays (none + 2) puts (protected_of none numbers) no_numbers.2) kept.protected_is)

    pub queues-probation : queues_at new none (put_in (none + 2) k numbers) ≡ with_probation ((queues_at old none numbers).segments.main.probation ++ plain_entry k size ∷ []) (queues_at old none numbers)
    queues-probation =
        queues-of (none + 2) puts (put_in (none + 2) k numbers) (ring-probation noted none numbers noted_ring k low no_numbers.3 new puts)
        (window_of none numbers) (probation_of none numbers ++ k ∷ []) (protected_of none numbers) p-parts.0 p-parts.1 p-parts.2
        ∙ same-queues (none + 2) puts (window_of none numbers) (probation_of none numbers ++ k ∷ []) (protected_of none numbers)
        (entries_at old (window_of none numbers)) (entries_at old (probation_of none numbers) ++ plain_entry k size ∷ []) (entries_at old (protected_of none numbers))
        (stays (none + 2) puts (window_of none numbers) no_numbers.0) (grows (none + 2) puts (probation_of none numbers) no_numbers.1) (stays (none + 2) puts (protected_of none numbers) no_numbers.2)

  module _ (puts : PutsBefore noted new k none) where
    t-parts : (window_of none (put_in none k numbers) ≡ window_of none numbers) × (probation_of none (put_in none k numbers) ≡ probation_of none numbers) × (protected_of none (put_in none k numbers) ≡ protected_of none numbers ++ k ∷ [])
    t-parts = (
      protected-window noted none numbers noted_ring k low no_numbers.3,
      protected-probation noted none numbers noted_ring k low no_numbers.3,
      protected-protected noted none numbers noted_ring k low no_numbers.3,
    )

    pub kept-protected : IsKept new (set places k 3) none w p (record { entries = t.entries + 1; bytes = t.bytes + size }) (put_in none k numbers)
    kept-protected =
        kept-of none puts (put_in none k numbers) (ring-protected noted none numbers noted_ring k low no_numbers.3 new puts)
        (window_of none numbers) (probation_of none numbers) (protected_of none numbers ++ k ∷ []) t-parts.0 t-parts.1 t-parts.2 3
        w p (record { entries = t.entries + 1; bytes = t.bytes + size })
        (record {
          in_window = unset none puts 1 (window_of none numbers) kept.places_are.in_window 3 refl no_numbers.0;
          on_probation = unset none puts 2 (probation_of none numbers) kept.places_are.on_probation 3 refl no_numbers.1;
          is_protected = set_to none puts 3 (protected_of none numbers) kept.places_are.is_protected;
        })
        (load-same old new (window_of none numbers) w (stays none puts (window_of none numbers) no_numbers.0) kept.window_is)
        (load-same old new (probation_of none numbers) p (stays none puts (probation_of none numbers) no_numbers.1) kept.probation_is)
        (load-push old new (protected_of none numbers) t k size (grows none puts (protected_of none numbers) no_numbers.2) kept.protected_is)

    pub queues-protected : queues_at new none (put_in none k numbers) ≡ with_protected ((queues_at old none numbers).segments.main.protected ++ plain_entry k size ∷ []) (queues_at old none numbers)
    queues-protected =
        queues-of none puts (put_in none k numbers) (ring-protected noted none numbers noted_ring k low no_numbers.3 new puts)
        (window_of none numbers) (probation_of none numbers) (protected_of none numbers ++ k ∷ []) t-parts.0 t-parts.1 t-parts.2
        ∙ same-queues none puts (window_of none numbers) (probation_of none numbers) (protected_of none numbers ++ k ∷ [])
        (entries_at old (window_of none numbers)) (entries_at old (probation_of none numbers)) (entries_at old (protected_of none numbers) ++ plain_entry k size ∷ [])
        (stays none puts (window_of none numbers) no_numbers.0) (stays none puts (probation_of none numbers) no_numbers.1) (grows none puts (protected_of none numbers) no_numbers.2)

-- The queues of a ring, as an object is taken out.
use Rattle.std.proofs.Common.{◌≡◌, ℕ, ◌+◌, ◌-◌, ◌<◌, ◌≤◌, ◌∙◌, sym, refl, ap, subst, Bool, true, false, not, ◌||◌, cond, eqb, List, [], ◌∷◌, length, drop, get_or, set, arith}
use Rattle.std.proofs.lemmas.Bool.{eqb-true, eq-eqb, or_left}
use Rattle.std.proofs.lemmas.List.{length-set}
use Rattle.policy_model.specs.States.{Entry, has_entry}
use Rattle.policy_model.specs.Steps.{without_entry}
use Rattle.policy_model.specs.WTinyLfu.{entry_of, segment_entries}
use Rattle.linked_nodes.specs.declared.nodes.Node.{Node}
use Rattle.replay_queues.specs.Rings.{is_among, Distinct, Links}
use Rattle.replay_queues.proofs.RingLemmas.{after, without, without-none}
use Rattle.replay_queues.proofs.GhostAnswers.{size_at, without-gone}
use Rattle.replay_tinylfu.specs.declared.ring.Load.{Load}
use Rattle.replay_tinylfu.specs.Marks.{up_to, past, TakesOut}
use Rattle.replay_tinylfu.specs.Queues.{Queues, plain_entry, entries_at, window_of, main_numbers, probation_of, protected_of, queues_at, with_window, with_probation, with_protected}
use Rattle.replay_tinylfu.specs.Loads.{IsRing, IsLoad, IsKept}
use Rattle.replay_tinylfu.proofs.MarkLemmas.{whole-up_to, whole-past, among-without, gone-without}
use Rattle.replay_tinylfu.proofs.LinkLemmas.{window-less, probation-less, protected-less, ring-less}
use Rattle.replay_tinylfu.proofs.KeptLemmas.{entries-but, entries-without, entry-one, place-set, load-same, load-less, load-has, apart-window, apart-probation, apart-protected, window-low, probation-low, protected-low, apart-place, no_entry}

-- what follows a mark
pub Links-past : (nodes : List Node) (mark first : ℕ) (numbers : List ℕ) (last : ℕ) → Links nodes first numbers last → is_among numbers mark ≡ true → Links nodes mark (past mark numbers) last
Links-past nodes mark first [] last l there = cc
Links-past nodes mark first (k ∷ rest) last l there = at (eqb k mark) refl (Links-past nodes mark k rest last l.2)
  where
    at : (t : Bool) → eqb k mark ≡ t → (is_among rest mark ≡ true → Links nodes mark (past mark rest) last) → Links nodes mark (cond (eqb k mark) rest (past mark rest)) last
    at true is more = subst (λ b. Links nodes mark (cond b rest (past mark rest)) last) (sym is) (subst (λ i. Links nodes i rest last) (eqb-true k mark is) l.2)
    at false is more = subst (λ b. Links nodes mark (cond b rest (past mark rest)) last) (sym is) (more (ap (λ b. b || is_among rest mark) (sym is) ∙ there))

-- the first of a part
pub first-up_to : (nodes : List Node) (mark first : ℕ) (numbers : List ℕ) (last : ℕ) → Links nodes first numbers last → 0 < length (up_to mark numbers) → up_to mark numbers ≡ after nodes first ∷ drop 1 (up_to mark numbers)
first-up_to nodes mark first [] last l some = absurd (omega arith)
first-up_to nodes mark first (k ∷ rest) last l some = at (eqb k mark) refl
  where
    at : (t : Bool) → eqb k mark ≡ t → cond (eqb k mark) [] (k ∷ up_to mark rest) ≡ after nodes first ∷ drop 1 (cond (eqb k mark) [] (k ∷ up_to mark rest))
    at true is = absurd (omega (arith, ap (λ b. length (cond b [] (k ∷ up_to mark rest))) is))
    at false is = ap (λ b. cond b [] (k ∷ up_to mark rest)) is ∙ ap (λ i. i ∷ up_to mark rest) (sym l.0) ∙ ap (λ b. after nodes first ∷ drop 1 (cond b [] (k ∷ up_to mark rest))) (sym is)

pub first-links : (nodes : List Node) (first : ℕ) (numbers : List ℕ) (last : ℕ) → Links nodes first numbers last → 0 < length numbers → numbers ≡ after nodes first ∷ drop 1 numbers
first-links nodes first [] last l some = absurd (omega arith)
first-links nodes first (k ∷ rest) last l some = ap (λ i. i ∷ rest) (sym l.0)

module _ (old : List Node) (places : List ℕ) (none : ℕ) (w p t : Load) (numbers : List ℕ) (kept : IsKept old places none w p t numbers) (k : ℕ) where
  -- a place that is another
  elsewhere : (i j : ℕ) (part : List ℕ) → eqb (get_or places k 0) i ≡ true → eqb i j ≡ false → ((q : ℕ) → eqb (get_or places q 0) j ≡ is_among part q) → is_among part k ≡ false
  elsewhere i j part is differ are = sym (are k) ∙ apart-place old places none w p t numbers kept k i j is differ

  -- the others have their sizes
  sizes-stay : (new : List Node) → TakesOut old new k → (j : ℕ) → eqb j k ≡ false → size_at new j ≡ size_at old j
  sizes-stay new takes j apart = ap (λ (n : Node). n.size) (takes.leaves.others_stay j apart) ∙ takes.joins.sizes_stay j

  module _ (low : k < none) where
    within : k < length places
    within = let each : length places ≡ none = kept.each_object in omega arith

    gone : (i : ℕ) (part : List ℕ) → eqb 0 i ≡ false → ((q : ℕ) → eqb (get_or places q 0) i ≡ is_among part q) → (q : ℕ) → eqb (get_or (set places k 0) q 0) i ≡ is_among (without k part) q
    gone i part differs are = place-set places k 0 within i part (without k part) are (λ q h. among-without k q part h) (differs ∙ sym (gone-without k part))

    -- all three lists without it
    module _ (new : List Node) (takes : TakesOut old new k) (there : is_among numbers k ≡ true) where
      ring : IsRing new none (without k numbers)
      ring = ring-less old none numbers kept.ring k low new there takes

      wl : window_of none (without k numbers) ≡ without k (window_of none numbers)
      wl = window-less old none numbers kept.ring k low

      pl : probation_of none (without k numbers) ≡ without k (probation_of none numbers)
      pl = probation-less old none numbers kept.ring k low

      tl : protected_of none (without k numbers) ≡ without k (protected_of none numbers)
      tl = protected-less old none numbers kept.ring k low

      kept-less : (wn pn tn : Load) → IsLoad new (without k (window_of none numbers)) wn → IsLoad new (without k (probation_of none numbers)) pn → IsLoad new (without k (protected_of none numbers)) tn
          → IsKept new (set places k 0) none wn pn tn (without k numbers)
      kept-less wn pn tn of_w of_p of_t = record {
        ring = ring;
        each_object = length-set places k 0 ∙ kept.each_object;
        places_are = record {
          in_window = λ q. gone 1 (window_of none numbers) refl kept.places_are.in_window q ∙ ap (λ ks. is_among ks q) (sym wl);
          on_probation = λ q. gone 2 (probation_of none numbers) refl kept.places_are.on_probation q ∙ ap (λ ks. is_among ks q) (sym pl);
          is_protected = λ q. gone 3 (protected_of none numbers) refl kept.places_are.is_protected q ∙ ap (λ ks. is_among ks q) (sym tl);
        };
        window_is = subst (λ ks. IsLoad new ks wn) (sym wl) of_w;
        probation_is = subst (λ ks. IsLoad new ks pn) (sym pl) of_p;
        protected_is = subst (λ ks. IsLoad new ks tn) (sym tl) of_t;
      }

      -- a list that it isn't in
      pub load-stays : (part : List ℕ) (load : Load) → is_among part k ≡ false → IsLoad old part load → IsLoad new (without k part) load
      load-stays part load absent is = subst (λ ks. IsLoad new ks load) (sym (without-none k part absent)) (load-same old new part load (entries-but old new k (sizes-stay new takes) part absent) is)

      stays : (part : List ℕ) → is_among part k ≡ false → entries_at new (without k part) ≡ entries_at old part
      stays part absent = ap (entries_at new) (without-none k part absent) ∙ entries-but old new k (sizes-stay new takes) part absent

      goes : (part : List ℕ) → entries_at new (without k part) ≡ without_entry k (entries_at old part)
      goes part = entries-but old new k (sizes-stay new takes) (without k part) (without-gone k part) ∙ sym (entries-without old k part)

      queues-less : (a b c : List Entry) → entries_at new (without k (window_of none numbers)) ≡ a → entries_at new (without k (probation_of none numbers)) ≡ b → entries_at new (without k (protected_of none numbers)) ≡ c
          → queues_at new none (without k numbers) ≡ record { objects = none; segments = record { window = a; main = record { probation = b; protected = c } }; room = 0 }
      queues-less a b c of_a of_b of_c =
          let of : List Entry → List Entry → List Entry → Queues = λ x y z. record { objects = none; segments = record { window = x; main = record { probation = y; protected = z } }; room = 0 } in
          let es : List ℕ → List Entry = entries_at new in
          ap (λ ks. of (es ks) (es (probation_of none (without k numbers))) (es (protected_of none (without k numbers)))) wl
          ∙ ap (λ ks. of (es (without k (window_of none numbers))) (es ks) (es (protected_of none (without k numbers)))) pl
          ∙ ap (λ ks. of (es (without k (window_of none numbers))) (es (without k (probation_of none numbers))) (es ks)) tl
          ∙ ap (λ x. of x (es (without k (probation_of none numbers))) (es (without k (protected_of none numbers)))) of_a
          ∙ ap (λ y. of a y (es (without k (protected_of none numbers)))) of_b ∙ ap (of a b) of_c

      nowhere : (wn pn tn : Load) → IsKept new (set places k 0) none wn pn tn (without k numbers) → has_entry (segment_entries (queues_at new none (without k numbers)).segments) k ≡ false
      nowhere wn pn tn then =
          no_entry new (set places k 0) none wn pn tn (without k numbers) then k
          (ap (λ ks. is_among ks k) wl ∙ gone-without k (window_of none numbers)) (ap (λ ks. is_among ks k) pl ∙ gone-without k (probation_of none numbers)) (ap (λ ks. is_among ks k) tl ∙ gone-without k (protected_of none numbers))

  -- ---- out of window
  module _ (there : is_among (window_of none numbers) k ≡ true) where
    pub low_window : k < none
    low_window = window-low old places none w p t numbers kept k there

    pub whole_window : is_among numbers k ≡ true
    whole_window = whole-up_to (none + 1) k numbers there

    is_window : eqb (get_or places k 0) 1 ≡ true
    is_window = kept.places_are.in_window k ∙ there

    not_probation_window : is_among (probation_of none numbers) k ≡ false
    not_probation_window = elsewhere 1 2 (probation_of none numbers) is_window refl kept.places_are.on_probation

    not_protected_window : is_among (protected_of none numbers) k ≡ false
    not_protected_window = elsewhere 1 3 (protected_of none numbers) is_window refl kept.places_are.is_protected

    pub size_window : entry_of k (entries_at old (window_of none numbers)) ≡ plain_entry k (size_at old k) ∷ []
    size_window = entry-one old k (window_of none numbers) (apart-window old places none w p t numbers kept) there

    pub fits_window : size_at old k ≤ w.bytes
    fits_window = load-has old (window_of none numbers) w k (apart-window old places none w p t numbers kept) there kept.window_is

    module _ (new : List Node) (takes : TakesOut old new k) where
      pub kept_window : IsKept new (set places k 0) none (record { entries = w.entries - 1; bytes = w.bytes - size_at old k }) p t (without k numbers)
      kept_window =
          kept-less low_window new takes whole_window (record { entries = w.entries - 1; bytes = w.bytes - size_at old k }) p t
          (load-less old new (window_of none numbers) w k (apart-window old places none w p t numbers kept) there (sizes-stay new takes) kept.window_is)
          (load-stays low_window new takes whole_window (probation_of none numbers) p not_probation_window kept.probation_is)
          (load-stays low_window new takes whole_window (protected_of none numbers) t not_protected_window kept.protected_is)

      pub queues_window : queues_at new none (without k numbers) ≡ with_window (without_entry k (queues_at old none numbers).segments.window) (queues_at old none numbers)
      queues_window =
          queues-less low_window new takes whole_window (without_entry k (entries_at old (window_of none numbers))) (entries_at old (probation_of none numbers)) (entries_at old (protected_of none numbers))
          (goes low_window new takes whole_window (window_of none numbers)) (stays low_window new takes whole_window (probation_of none numbers) not_probation_window) (stays low_window new takes whole_window (protected_of none numbers) not_protected_window)

      pub nowhere_window : has_entry (segment_entries (queues_at new none (without k numbers)).segments) k ≡ false
      nowhere_window = nowhere low_window new takes whole_window (record { entries = w.entries - 1; bytes = w.bytes - size_at old k }) p t kept_window

  -- ---- out of probation
  module _ (there : is_among (probation_of none numbers) k ≡ true) where
    pub low_probation : k < none
    low_probation = probation-low old places none w p t numbers kept k there

    pub whole_probation : is_among numbers k ≡ true
    whole_probation = whole-past (none + 1) k numbers (whole-up_to (none + 2) k (main_numbers none numbers) there)

    is_probation : eqb (get_or places k 0) 2 ≡ true
    is_probation = kept.places_are.on_probation k ∙ there

    not_window_probation : is_among (window_of none numbers) k ≡ false
    not_window_probation = elsewhere 2 1 (window_of none numbers) is_probation refl kept.places_are.in_window

    not_protected_probation : is_among (protected_of none numbers) k ≡ false
    not_protected_probation = elsewhere 2 3 (protected_of none numbers) is_probation refl kept.places_are.is_protected

    pub size_probation : entry_of k (entries_at old (probation_of none numbers)) ≡ plain_entry k (size_at old k) ∷ []
    size_probation = entry-one old k (probation_of none numbers) (apart-probation old places none w p t numbers kept) there

    pub fits_probation : size_at old k ≤ p.bytes
    fits_probation = load-has old (probation_of none numbers) p k (apart-probation old places none w p t numbers kept) there kept.probation_is

    module _ (new : List Node) (takes : TakesOut old new k) where
      pub kept_probation : IsKept new (set places k 0) none w (record { entries = p.entries - 1; bytes = p.bytes - size_at old k }) t (without k numbers)
      kept_probation =
          kept-less low_probation new takes whole_probation w (record { entries = p.entries - 1; bytes = p.bytes - size_at old k }) t
          (load-stays low_probation new takes whole_probation (window_of none numbers) w not_window_probation kept.window_is)
          (load-less old new (probation_of none numbers) p k (apart-probation old places none w p t numbers kept) there (sizes-stay new takes) kept.probation_is)
          (load-stays low_probation new takes whole_probation (protected_of none numbers) t not_protected_probation kept.protected_is)

      pub queues_probation : queues_at new none (without k numbers) ≡ with_probation (without_entry k (queues_at old none numbers).segments.main.probation) (queues_at old none numbers)
      queues_probation =
          queues-less low_probation new takes whole_probation (entries_at old (window_of none numbers)) (without_entry k (entries_at old (probation_of none numbers))) (entries_at old (protected_of none numbers))
          (stays low_probation new takes whole_probation (window_of none numbers) not_window_probation) (goes low_probation new takes whole_probation (probation_of none numbers)) (stays low_probation new takes whole_probation (protected_of none numbers) not_protected_probation)

      pub nowhere_probation : has_entry (segment_entries (queues_at new none (without k numbers)).segments) k ≡ false
      nowhere_probation = nowhere low_probation new takes whole_probation w (record { entries = p.entries - 1; bytes = p.bytes - size_at old k }) t kept_probation

  -- ---- out of protected
  module _ (there : is_among (protected_of none numbers) k ≡ true) where
    pub low_protected : k < none
    low_protected = protected-low old places none w p t numbers kept k there

    pub whole_protected : is_among numbers k ≡ true
    whole_protected = whole-past (none + 1) k numbers (whole-past (none + 2) k (main_numbers none numbers) there)

    is_protected : eqb (get_or places k 0) 3 ≡ true
    is_protected = kept.places_are.is_protected k ∙ there

    not_window_protected : is_among (window_of none numbers) k ≡ false
    not_window_protected = elsewhere 3 1 (window_of none numbers) is_protected refl kept.places_are.in_window

    not_probation_protected : is_among (probation_of none numbers) k ≡ false
    not_probation_protected = elsewhere 3 2 (probation_of none numbers) is_protected refl kept.places_are.on_probation

    pub size_protected : entry_of k (entries_at old (protected_of none numbers)) ≡ plain_entry k (size_at old k) ∷ []
    size_protected = entry-one old k (protected_of none numbers) (apart-protected old places none w p t numbers kept) there

    pub fits_protected : size_at old k ≤ t.bytes
    fits_protected = load-has old (protected_of none numbers) t k (apart-protected old places none w p t numbers kept) there kept.protected_is

    module _ (new : List Node) (takes : TakesOut old new k) where
      pub kept_protected : IsKept new (set places k 0) none w p (record { entries = t.entries - 1; bytes = t.bytes - size_at old k }) (without k numbers)
      kept_protected =
          kept-less low_protected new takes whole_protected w p (record { entries = t.entries - 1; bytes = t.bytes - size_at old k })
          (load-stays low_protected new takes whole_protected (window_of none numbers) w not_window_protected kept.window_is)
          (load-stays low_protected new takes whole_protected (probation_of none numbers) p not_probation_protected kept.probation_is)
          (load-less old new (protected_of none numbers) t k (apart-protected old places none w p t numbers kept) there (sizes-stay new takes) kept.protected_is)

      pub queues_protected : queues_at new none (without k numbers) ≡ with_protected (without_entry k (queues_at old none numbers).segments.main.protected) (queues_at old none numbers)
      queues_protected =
          queues-less low_protected new takes whole_protected (entries_at old (window_of none numbers)) (entries_at old (probation_of none numbers)) (without_entry k (entries_at old (protected_of none numbers)))
          (stays low_protected new takes whole_protected (window_of none numbers) not_window_protected) (stays low_protected new takes whole_protected (probation_of none numbers) not_probation_protected) (goes low_protected new takes whole_protected (protected_of none numbers))

      pub nowhere_protected : has_entry (segment_entries (queues_at new none (without k numbers)).segments) k ≡ false
      nowhere_protected = nowhere low_protected new takes whole_protected w p (record { entries = t.entries - 1; bytes = t.bytes - size_at old k }) kept_protected

-- ---- the first of each part
module _ (nodes : List Node) (none : ℕ) (numbers : List ℕ) (ring : IsRing nodes none numbers) where
  pub first_window : 0 < length (window_of none numbers) → window_of none numbers ≡ after nodes none ∷ drop 1 (window_of none numbers)
  first_window some = first-up_to nodes (none + 1) none numbers none ring.linked some

  pub links_main : Links nodes (none + 1) (main_numbers none numbers) none
  links_main = Links-past nodes (none + 1) none numbers none ring.linked ring.second_mark

  pub links_protected : Links nodes (none + 2) (protected_of none numbers) none
  links_protected = Links-past nodes (none + 2) (none + 1) (main_numbers none numbers) none links_main ring.third_mark

  pub first_probation : 0 < length (probation_of none numbers) → probation_of none numbers ≡ after nodes (none + 1) ∷ drop 1 (probation_of none numbers)
  first_probation some = first-up_to nodes (none + 2) (none + 1) (main_numbers none numbers) none links_main some

  pub first_protected : 0 < length (protected_of none numbers) → protected_of none numbers ≡ after nodes (none + 2) ∷ drop 1 (protected_of none numbers)
  first_protected some = first-links nodes (none + 2) (protected_of none numbers) none links_protected some

pub first-there : (x : ℕ) (part : List ℕ) → part ≡ x ∷ drop 1 part → is_among part x ≡ true
first-there x part is = ap (λ ks. is_among ks x) is ∙ or_left (eqb x x) (is_among (drop 1 part) x) (eq-eqb x x refl)

popped_at : (nodes : List Node) (x : ℕ) (rest : List ℕ) (size : ℕ) → Distinct (x ∷ rest) → entry_of x (entries_at nodes (x ∷ rest)) ≡ plain_entry x size ∷ []
    → (entries_at nodes (x ∷ rest) ≡ plain_entry x size ∷ without_entry x (entries_at nodes (x ∷ rest))) × (without_entry x (entries_at nodes (x ∷ rest)) ≡ drop 1 (entries_at nodes (x ∷ rest)))
popped_at nodes x rest size apart one =
    let es : List Entry = entries_at nodes rest in
    let e : Entry = plain_entry x (size_at nodes x) in
    let less : without_entry x (e ∷ es) ≡ es =
    ap (λ b. cond (not b) (e ∷ without_entry x es) (without_entry x es)) (eq-eqb x x refl) ∙ entries-without nodes x rest ∙ ap (entries_at nodes) (without-none x rest apart.0) in
    let found : e ∷ entry_of x es ≡ plain_entry x size ∷ [] = sym (ap (λ b. cond b (e ∷ entry_of x es) (entry_of x es)) (eq-eqb x x refl)) ∙ one in
    let same : size_at nodes x ≡ size = ap (λ (fs : List Entry). (get_or fs 0 e).size) found in
    (ap (λ s. plain_entry x s ∷ es) same ∙ ap (λ fs. plain_entry x size ∷ fs) (sym less), less)

pub popped : (nodes : List Node) (x : ℕ) (part : List ℕ) (size : ℕ) → Distinct part → part ≡ x ∷ drop 1 part → entry_of x (entries_at nodes part) ≡ plain_entry x size ∷ []
    → (entries_at nodes part ≡ plain_entry x size ∷ without_entry x (entries_at nodes part)) × (without_entry x (entries_at nodes part) ≡ drop 1 (entries_at nodes part))
popped nodes x part size apart is one =
    subst (λ ks. (entries_at nodes ks ≡ plain_entry x size ∷ without_entry x (entries_at nodes ks)) × (without_entry x (entries_at nodes ks) ≡ drop 1 (entries_at nodes ks))) (sym is)
    (popped_at nodes x (drop 1 part) size (subst Distinct is apart) (subst (λ ks. entry_of x (entries_at nodes ks) ≡ plain_entry x size ∷ []) is one))

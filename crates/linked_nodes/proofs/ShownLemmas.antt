-- Nodes by number, as what stands in slots changes.
use Rattle.std.proofs.Common.{◌≡◌, ℕ, ◌+◌, ◌-◌, ◌<◌, ◌≤◌, ◌≢◌, ◌∙◌, sym, ap, subst, inl, inr, arith, cond, eqb, false, true, List, ◌++◌, drop, length, slice_set, slice_index_or, take, length-append, length-set, length-take}
use Rattle.std.proofs.lemmas.Bool.{cases_eq, cases_lt, eq-eqb, ne_eqb}
use Rattle.std.proofs.lemmas.List.{get_or-append_right, get_or-drop, get_or-map, get_or-set_other, get_or-set_same, get_or-take, get_or_append_left, get_or_past, length-drop, length-map}
use Rattle.sparse_list.specs.Slots.{Slots, slot_at}
use Rattle.linked_nodes.specs.declared.nodes.Node.{Node}
use Rattle.linked_nodes.specs.Nodes.{node_at, renumbered, Enters, Grows, IsThere, Joins, Leaves}
use Rattle.linked_nodes.specs.Slotted.{nodes_by, no_node, number_at, shown, slot_of, AreSlotted}
use Rattle.linked_nodes.proofs.NumberLemmas.{number-past, number-renumbered, number-slot, renumbered-within, slot-mark, slot-object, slot-renumbered, slot-same, slot-within}

abbrev blank : Node
blank = record { before = 0; after = 0; size = 0 }

-- ---- the node of a number is what its slot shows
module _ (objects : ℕ) (items : List Node) (each : length items ≡ objects + 3) where
  turned : List Node
  turned = drop 3 items ++ take 3 items

  pub length-turned : length (drop 3 items ++ take 3 items) ≡ objects + 3
  length-turned = omega (arith, length-append (drop 3 items) (take 3 items), length-drop 3 items, length-take 3 items, each)

  pub length-nodes : length (nodes_by objects items) ≡ objects + 3
  length-nodes = length-map (drop 3 items ++ take 3 items) (shown objects) ∙ length-turned

  in-slot : (k : ℕ) → k < objects + 3 → (d : Node) → slice_index_or (drop 3 items ++ take 3 items) k d ≡ slice_index_or items (slot_of objects k) d
  in-slot k within d = elim (cases_lt k objects) [
    | inl low ↦
        get_or_append_left (drop 3 items) (take 3 items) d k (omega (arith, low, length-drop 3 items, each))
        ∙ get_or-drop 3 items k d ∙ ap (λ i. slice_index_or items i d) (omega (arith, slot-object objects k low))
    | inr high ↦
        get_or-append_right (drop 3 items) (take 3 items) objects k d (omega (arith, length-drop 3 items, each)) high
        ∙ get_or-take 3 items (k - objects) d (omega (arith, high, within)) ∙ ap (λ i. slice_index_or items i d) (sym (slot-mark objects k high))
  ]

  pub shown-at : (k : ℕ) → k < objects + 3 → (d : Node) → node_at (nodes_by objects items) k ≡ shown objects (slice_index_or items (slot_of objects k) d)
  shown-at k within d =
      get_or-map (shown objects) (drop 3 items ++ take 3 items) k d blank (omega (arith, within, length-turned)) ∙ ap (shown objects) (in-slot k within d)

  pub shown-past : (k : ℕ) → objects + 3 ≤ k → node_at (nodes_by objects items) k ≡ blank
  shown-past k high = get_or_past (nodes_by objects items) k blank (omega (arith, high, length-nodes))

-- a number that isn't past the last shows what its slot does, also in other items
pub same-shown : (objects : ℕ) (old new : List Node) → length old ≡ objects + 3 → length new ≡ objects + 3 → (k : ℕ) (d : Node) → (k < objects + 3 → slice_index_or new (slot_of objects k) d ≡ slice_index_or old (slot_of objects k) d)
    → node_at (nodes_by objects new) k ≡ node_at (nodes_by objects old) k
same-shown objects old new old_each new_each k d same = elim (cases_lt k (objects + 3)) [
  | inl within ↦ shown-at objects new new_each k within d ∙ ap (shown objects) (same within) ∙ sym (shown-at objects old old_each k within d)
  | inr past ↦ shown-past objects new new_each k past ∙ sym (shown-past objects old old_each k past)
]

-- slots are equal where numbers are
pub slots-eqb : (objects j k : ℕ) → j < objects + 3 → k < objects + 3 → eqb (slot_of objects j) (slot_of objects k) ≡ eqb j k
slots-eqb objects j k j_within k_within = elim (cases_eq j k) [
  | inl same ↦ eq-eqb (slot_of objects j) (slot_of objects k) (ap (slot_of objects) same) ∙ sym (eq-eqb j k same)
  | inr apart ↦ ne_eqb (slot_of objects j) (slot_of objects k) (λ e. apart (slot-same objects j k j_within k_within e)) ∙ sym (ne_eqb j k apart)
]

-- ---- what is there has a value in its slot
pub there-slot : (objects : ℕ) (s : Slots Node) → AreSlotted objects s → (k : ℕ) → IsThere (nodes_by objects s.items) k → slot_at s (slot_of objects k) ≢ s.none
there-slot objects s are k there none =
    let long : length (nodes_by objects s.items) ≡ objects + 3 = length-nodes objects s.items are.each in
    let within : k < objects + 3 = omega (arith, there.0, long) in
    let after : (node_at (nodes_by objects s.items) k).after ≡ 4294967295 =
    ap (λ (n : Node). n.after) (shown-at objects s.items are.each k within s.none)
    ∙ ap (λ (n : Node). number_at objects n.after) (none ∙ are.vacant)
    ∙ number-past objects 4294967295 (omega (arith, are.few)) in
    absurd (omega (arith, after, there.1, long, are.few))

-- and still has one where the node after another is changed
pub still-there : (objects : ℕ) (s : Slots Node) → AreSlotted objects s → (first second : ℕ) (v : Node) → first < length s.items → v.after < objects + 3 → slot_at s second ≢ s.none
    → slice_index_or (slice_set s.items first v) second s.none ≢ s.none
still-there objects s are first second v low after some none = elim (cases_eq second first) [
  | inl same ↦
      let is : v ≡ no_node = sym (ap (λ i. slice_index_or (slice_set s.items first v) i s.none) same ∙ get_or-set_same s.items first v s.none low) ∙ none ∙ are.vacant in
      absurd (omega (arith, ap (λ (n : Node). n.after) is, after, are.few))
  | inr apart ↦ some (sym (get_or-set_other s.items first second v s.none apart) ∙ none)
]

-- ---- a join
module _ (items : List Node) (s t : ℕ) (d first second : Node) (s_within : s < length items) (t_within : t < length items)
    (first_is : first ≡ slice_index_or items s d) (second_is : second ≡ slice_index_or (slice_set items s (record first { after = t })) t d) where
  abbrev one : List Node
  one = slice_set items s (record first { after = t })

  abbrev two : List Node
  two = slice_set one t (record second { before = s })

  t_in-one : t < length one
  t_in-one = omega (arith, t_within, length-set items s (record first { after = t }))

  one-after : (i : ℕ) → (slice_index_or one i d).after ≡ cond (eqb i s) t (slice_index_or items i d).after
  one-after i = elim (cases_eq i s) [
    | inl same ↦
        ap (λ j. (slice_index_or one j d).after) same ∙ ap (λ (n : Node). n.after) (get_or-set_same items s (record first { after = t }) d s_within)
        ∙ sym (ap (λ b. cond b t (slice_index_or items i d).after) (eq-eqb i s same))
    | inr apart ↦
        ap (λ (n : Node). n.after) (get_or-set_other items s i (record first { after = t }) d apart)
        ∙ sym (ap (λ b. cond b t (slice_index_or items i d).after) (ne_eqb i s apart))
  ]

  one-rest : (i : ℕ) → ((slice_index_or one i d).before ≡ (slice_index_or items i d).before) × ((slice_index_or one i d).size ≡ (slice_index_or items i d).size)
  one-rest i = elim (cases_eq i s) [
    | inl same ↦
        let is : slice_index_or one i d ≡ record first { after = t } = ap (λ j. slice_index_or one j d) same ∙ get_or-set_same items s (record first { after = t }) d s_within in
        let was : first ≡ slice_index_or items i d = first_is ∙ ap (λ j. slice_index_or items j d) (sym same) in
        (ap (λ (n : Node). n.before) is ∙ ap (λ (n : Node). n.before) was, ap (λ (n : Node). n.size) is ∙ ap (λ (n : Node). n.size) was)
    | inr apart ↦
        let is : slice_index_or one i d ≡ slice_index_or items i d = get_or-set_other items s i (record first { after = t }) d apart in
        (ap (λ (n : Node). n.before) is, ap (λ (n : Node). n.size) is)
  ]

  two-rest : (i : ℕ) → ((slice_index_or two i d).after ≡ (slice_index_or one i d).after) × ((slice_index_or two i d).size ≡ (slice_index_or one i d).size)
  two-rest i = elim (cases_eq i t) [
    | inl same ↦
        let is : slice_index_or two i d ≡ record second { before = s } = ap (λ j. slice_index_or two j d) same ∙ get_or-set_same one t (record second { before = s }) d t_in-one in
        let was : second ≡ slice_index_or one i d = second_is ∙ ap (λ j. slice_index_or one j d) (sym same) in
        (ap (λ (n : Node). n.after) is ∙ ap (λ (n : Node). n.after) was, ap (λ (n : Node). n.size) is ∙ ap (λ (n : Node). n.size) was)
    | inr apart ↦
        let is : slice_index_or two i d ≡ slice_index_or one i d = get_or-set_other one t i (record second { before = s }) d apart in
        (ap (λ (n : Node). n.after) is, ap (λ (n : Node). n.size) is)
  ]

  pub two-after : (i : ℕ) → (slice_index_or two i d).after ≡ cond (eqb i s) t (slice_index_or items i d).after
  two-after i = (two-rest i).0 ∙ one-after i

  pub two-before : (i : ℕ) → (slice_index_or two i d).before ≡ cond (eqb i t) s (slice_index_or items i d).before
  two-before i = elim (cases_eq i t) [
    | inl same ↦
        ap (λ j. (slice_index_or two j d).before) same ∙ ap (λ (n : Node). n.before) (get_or-set_same one t (record second { before = s }) d t_in-one)
        ∙ sym (ap (λ b. cond b s (slice_index_or items i d).before) (eq-eqb i t same))
    | inr apart ↦
        ap (λ (n : Node). n.before) (get_or-set_other one t i (record second { before = s }) d apart) ∙ (one-rest i).0
        ∙ sym (ap (λ b. cond b s (slice_index_or items i d).before) (ne_eqb i t apart))
  ]

  pub two-size : (i : ℕ) → (slice_index_or two i d).size ≡ (slice_index_or items i d).size
  two-size i = (two-rest i).1 ∙ (one-rest i).1

  pub length-two : length two ≡ length items
  length-two = length-set one t (record second { before = s }) ∙ length-set items s (record first { after = t })

-- by numbers
module _ (objects : ℕ) (items : List Node) (each : length items ≡ objects + 3) (b a : ℕ) (b_within : b < objects + 3) (a_within : a < objects + 3) (d first second : Node)
    (first_is : first ≡ slice_index_or items (slot_of objects b) d) (second_is : second ≡ slice_index_or (slice_set items (slot_of objects b) (record first { after = slot_of objects a })) (slot_of objects a) d) where
  abbrev s : ℕ
  s = slot_of objects b

  abbrev t : ℕ
  t = slot_of objects a

  abbrev s_low : s < length items
  s_low = omega (arith, slot-within objects b b_within, each)

  abbrev t_low : t < length items
  t_low = omega (arith, slot-within objects a a_within, each)

  abbrev joined_items : List Node
  joined_items = two items s t d first second s_low t_low first_is second_is

  joined-each : length joined_items ≡ objects + 3
  joined-each = length-two items s t d first second s_low t_low first_is second_is ∙ each

  number-cond : (k at n : ℕ) (x : ℕ) → k < objects + 3 → at < objects + 3 → n < objects + 3 → number_at objects (cond (eqb (slot_of objects k) (slot_of objects at)) (slot_of objects n) x) ≡ cond (eqb k at) n (number_at objects x)
  number-cond k at n x k_within at_within n_within = elim (cases_eq k at) [
    | inl same ↦
        ap (λ q. number_at objects (cond q (slot_of objects n) x)) (slots-eqb objects k at k_within at_within ∙ eq-eqb k at same)
        ∙ number-slot objects n n_within ∙ sym (ap (λ q. cond q n (number_at objects x)) (eq-eqb k at same))
    | inr apart ↦
        ap (λ q. number_at objects (cond q (slot_of objects n) x)) (slots-eqb objects k at k_within at_within ∙ ne_eqb k at apart)
        ∙ sym (ap (λ q. cond q n (number_at objects x)) (ne_eqb k at apart))
  ]

  not-here : (k at x y : ℕ) → objects + 3 ≤ k → at < objects + 3 → cond (eqb k at) x y ≡ y
  not-here k at x y past within = ap (λ q. cond q x y) (ne_eqb k at (λ e. absurd (omega (arith, e, past, within))))

  pub joined : Joins (nodes_by objects items) (nodes_by objects joined_items) b a
  joined = record {
    nodes_stay = length-nodes objects joined_items joined-each ∙ sym (length-nodes objects items each);
    follows = λ k. elim (cases_lt k (objects + 3)) [
      | inl within ↦
          ap (λ (n : Node). n.after) (shown-at objects joined_items joined-each k within d)
          ∙ ap (number_at objects) (two-after items s t d first second s_low t_low first_is second_is (slot_of objects k))
          ∙ number-cond k b a (slice_index_or items (slot_of objects k) d).after within b_within a_within
          ∙ ap (λ (n : Node). cond (eqb k b) a n.after) (sym (shown-at objects items each k within d))
      | inr past ↦
          ap (λ (n : Node). n.after) (shown-past objects joined_items joined-each k past ∙ sym (shown-past objects items each k past))
          ∙ sym (not-here k b a (node_at (nodes_by objects items) k).after past b_within)
    ];
    goes_before = λ k. elim (cases_lt k (objects + 3)) [
      | inl within ↦
          ap (λ (n : Node). n.before) (shown-at objects joined_items joined-each k within d)
          ∙ ap (number_at objects) (two-before items s t d first second s_low t_low first_is second_is (slot_of objects k))
          ∙ number-cond k a b (slice_index_or items (slot_of objects k) d).before within a_within b_within
          ∙ ap (λ (n : Node). cond (eqb k a) b n.before) (sym (shown-at objects items each k within d))
      | inr past ↦
          ap (λ (n : Node). n.before) (shown-past objects joined_items joined-each k past ∙ sym (shown-past objects items each k past))
          ∙ sym (not-here k a b (node_at (nodes_by objects items) k).before past a_within)
    ];
    sizes_stay = λ k. elim (cases_lt k (objects + 3)) [
      | inl within ↦
          ap (λ (n : Node). n.size) (shown-at objects joined_items joined-each k within d)
          ∙ two-size items s t d first second s_low t_low first_is second_is (slot_of objects k)
          ∙ ap (λ (n : Node). n.size) (sym (shown-at objects items each k within d))
      | inr past ↦ ap (λ (n : Node). n.size) (shown-past objects joined_items joined-each k past ∙ sym (shown-past objects items each k past))
    ];
  }

-- by slots, as they are read and changed one after another
abbrev pub JoinsBySlots : ℕ → List Node → ℕ → ℕ → Node → ℕ → ℕ → Type 0
JoinsBySlots objects items b a d s t =
    (first second : Node) (changed new : List Node) → first ≡ slice_index_or items s d → changed ≡ slice_set items s (record first { after = t })
    → second ≡ slice_index_or changed t d → new ≡ slice_set changed t (record second { before = s }) → Joins (nodes_by objects items) (nodes_by objects new) b a

pub joined-by : (objects : ℕ) (items : List Node) → length items ≡ objects + 3 → (b a : ℕ) → b < objects + 3 → a < objects + 3 → (d : Node) (s t : ℕ) → s ≡ slot_of objects b → t ≡ slot_of objects a → JoinsBySlots objects items b a d s t
joined-by objects items each b a b_within a_within d s t s_is t_is =
    subst (λ i. JoinsBySlots objects items b a d i t) (sym s_is) (subst (λ j. JoinsBySlots objects items b a d (slot_of objects b) j) (sym t_is) at)
  where
    at : JoinsBySlots objects items b a d (slot_of objects b) (slot_of objects a)
    at first second changed new first_is changed_is second_is new_is =
        subst (λ xs. Joins (nodes_by objects items) (nodes_by objects xs) b a)
        (sym (new_is ∙ ap (λ xs. slice_set xs (slot_of objects a) (record second { before = slot_of objects b })) changed_is))
        (joined objects items each b a b_within a_within d first second first_is (second_is ∙ ap (λ xs. slice_index_or xs (slot_of objects a) d) changed_is))

-- ---- the node of an object is set
module _ (objects : ℕ) (items : List Node) (each : length items ≡ objects + 3) (object : ℕ) (low : object < objects + 3) (slot : ℕ) (slot_is : slot ≡ slot_of objects object) (value d : Node) where
  abbrev with_value : List Node
  with_value = slice_set items slot value

  value-each : length with_value ≡ objects + 3
  value-each = length-set items slot value ∙ each

  others : (k : ℕ) → eqb k object ≡ false → node_at (nodes_by objects with_value) k ≡ node_at (nodes_by objects items) k
  others k apart =
      same-shown objects items with_value each value-each k d
      (λ within.
      get_or-set_other items slot (slot_of objects k) value d
      (λ e.
      let same : k ≡ object = slot-same objects k object within low (e ∙ slot_is) in
      let clash : true ≡ false = sym (eq-eqb k object same) ∙ apart in
      cc))

  value-at : node_at (nodes_by objects with_value) object ≡ shown objects value
  value-at =
      shown-at objects with_value value-each object low d
      ∙ ap (λ i. shown objects (slice_index_or with_value i d)) (sym slot_is)
      ∙ ap (shown objects) (get_or-set_same items slot value d (omega (arith, slot_is, slot-within objects object low, each)))

  pub set-stays : length (nodes_by objects with_value) ≡ length (nodes_by objects items)
  set-stays = length-nodes objects with_value value-each ∙ sym (length-nodes objects items each)

  pub left : Leaves (nodes_by objects items) (nodes_by objects with_value) object
  left = record { nodes_stay = set-stays; others_stay = others }

  pub entered : (size : ℕ) → value ≡ record { before = slot; after = slot; size = size } → Enters (nodes_by objects items) (nodes_by objects with_value) object size
  entered size is =
      let after : (node_at (nodes_by objects with_value) object).after ≡ object =
      ap (λ (n : Node). n.after) value-at ∙ ap (λ (n : Node). number_at objects n.after) is ∙ ap (number_at objects) slot_is ∙ number-slot objects object low in
      let long : length (nodes_by objects with_value) ≡ objects + 3 = length-nodes objects with_value value-each in
      record {
        nodes_stay = set-stays;
        others_stay = others;
        there = (omega (arith, low, long), omega (arith, low, after, long));
        size_is = ap (λ (n : Node). n.size) value-at ∙ ap (λ (n : Node). n.size) is;
      }

-- ---- there is room for more objects
module _ (objects more : ℕ) (items : List Node) (each : length items ≡ objects + 3) (wider : objects ≤ more) (longer : List Node) (longer_each : length longer ≡ more + 3) (d : Node)
    (same : (i : ℕ) → i < length items → slice_index_or longer i d ≡ slice_index_or items i d) where
  grown-at : (k : ℕ) → k < objects + 3 → node_at (nodes_by more longer) (renumbered objects more k) ≡ shown more (slice_index_or items (slot_of objects k) d)
  grown-at k within =
      shown-at more longer longer_each (renumbered objects more k) (renumbered-within objects more k wider within) d
      ∙ ap (λ i. shown more (slice_index_or longer i d)) (slot-renumbered objects more k wider)
      ∙ ap (shown more) (same (slot_of objects k) (omega (arith, slot-within objects k within, each)))

  pub grown : Grows (nodes_by objects items) (nodes_by more longer) objects more
  grown = record {
    were = length-nodes objects items each;
    are = length-nodes more longer longer_each;
    follow = λ k there.
        let long : length (nodes_by objects items) ≡ objects + 3 = length-nodes objects items each in
        let within : k < objects + 3 = omega (arith, there.0, long) in
        let was : (node_at (nodes_by objects items) k).after ≡ number_at objects (slice_index_or items (slot_of objects k) d).after = ap (λ (n : Node). n.after) (shown-at objects items each k within d) in
        ap (λ (n : Node). n.after) (grown-at k within)
        ∙ number-renumbered objects more (slice_index_or items (slot_of objects k) d).after wider (omega (arith, was, there.1, long))
        ∙ ap (renumbered objects more) (sym was);
    go_before = λ k there before.
        let long : length (nodes_by objects items) ≡ objects + 3 = length-nodes objects items each in
        let within : k < objects + 3 = omega (arith, there.0, long) in
        let was : (node_at (nodes_by objects items) k).before ≡ number_at objects (slice_index_or items (slot_of objects k) d).before = ap (λ (n : Node). n.before) (shown-at objects items each k within d) in
        ap (λ (n : Node). n.before) (grown-at k within)
        ∙ number-renumbered objects more (slice_index_or items (slot_of objects k) d).before wider (omega (arith, was, before, long))
        ∙ ap (renumbered objects more) (sym was);
    sizes_stay = λ k low.
        let within : k < objects + 3 = omega (arith, low, length-nodes objects items each) in
        ap (λ (n : Node). n.size) (grown-at k within) ∙ ap (λ (n : Node). n.size) (sym (shown-at objects items each k within d));
  }

-- A ring as a number is put into it before another.
use Rattle.std.proofs.Common.{◌≡◌, ℕ, ◌+◌, ◌<◌, ◌∙◌, sym, refl, ap, subst, Bool, true, false, ◌||◌, cond, eqb, List, [], ◌∷◌, ◌++◌, length, append_assoc, arith}
use Rattle.std.proofs.lemmas.Bool.{eqb-true, eq-eqb, ne_eqb, or_parts, or_from, or_left, or_right}
use Rattle.std.proofs.lemmas.List.{length-append, map-append, append-nil}
use Rattle.policy_model.specs.States.{Member, member, has_member}
use Rattle.policy_model.proofs.Comparisons.{eqb-sym}
use Rattle.linked_nodes.specs.declared.nodes.Node.{Node}
use Rattle.replay_queues.specs.Lines.{Lined, before_object, from_object, first_of}
use Rattle.linked_nodes.specs.Nodes.{node_at, Enters, IsThere, Joins}
use Rattle.replay_queues.specs.Rings.{is_among, Distinct, Links, ring_of, members_at, ring_members, IsRing}
use Rattle.replay_queues.proofs.RingLemmas.{after, before, before-among, differs, Links-but, Links-other, last-beside, takes_last, goes_on, length-walk}
use Rattle.replay_queues.proofs.GhostAnswers.{size_at, members-but, ring-is, ring-made, none_apart, enters-there, ring-there}

-- ---- the numbers before one, and those from it on
abbrev pub numbers_before : ℕ → List ℕ → List ℕ
numbers_before k [] = []
numbers_before k (j ∷ rest) = cond (eqb j k) [] (j ∷ numbers_before k rest)

abbrev pub numbers_from : ℕ → List ℕ → List ℕ
numbers_from k [] = []
numbers_from k (j ∷ rest) = cond (eqb j k) (j ∷ rest) (numbers_from k rest)

numbers-are : (k : ℕ) (numbers : List ℕ) → numbers_before k numbers ++ numbers_from k numbers ≡ numbers
numbers-are k [] = refl
numbers-are k (j ∷ rest) = at (eqb j k) (numbers-are k rest)
  where
    at : (t : Bool) → numbers_before k rest ++ numbers_from k rest ≡ rest → cond t [] (j ∷ numbers_before k rest) ++ cond t (j ∷ rest) (numbers_from k rest) ≡ j ∷ rest
    at true more = refl
    at false more = ap (λ js. j ∷ js) more

pub members-before : (nodes : List Node) (k : ℕ) (numbers : List ℕ) → before_object k (members_at nodes numbers) ≡ members_at nodes (numbers_before k numbers)
members-before nodes k [] = refl
members-before nodes k (j ∷ rest) = at (eqb j k) (members-before nodes k rest)
  where
    at : (t : Bool) → before_object k (members_at nodes rest) ≡ members_at nodes (numbers_before k rest)
        → cond t [] (member j (size_at nodes j) ∷ before_object k (members_at nodes rest)) ≡ members_at nodes (cond t [] (j ∷ numbers_before k rest))
    at true more = refl
    at false more = ap (λ ms. member j (size_at nodes j) ∷ ms) more

pub members-from : (nodes : List Node) (k : ℕ) (numbers : List ℕ) → from_object k (members_at nodes numbers) ≡ members_at nodes (numbers_from k numbers)
members-from nodes k [] = refl
members-from nodes k (j ∷ rest) = at (eqb j k) (members-from nodes k rest)
  where
    at : (t : Bool) → from_object k (members_at nodes rest) ≡ members_at nodes (numbers_from k rest)
        → cond t (members_at nodes (j ∷ rest)) (from_object k (members_at nodes rest)) ≡ members_at nodes (cond t (j ∷ rest) (numbers_from k rest))
    at true more = refl
    at false more = more

-- ---- numbers in two parts
among-append : (xs ys : List ℕ) (q : ℕ) → is_among (xs ++ ys) q ≡ (is_among xs q || is_among ys q)
among-append [] ys q = refl
among-append (x ∷ xs) ys q = ap (λ b. eqb x q || b) (among-append xs ys q) ∙ assoc (eqb x q) (is_among xs q) (is_among ys q)
  where
    assoc : (a b c : Bool) → (a || (b || c)) ≡ (a || b || c)
    assoc true b c = refl
    assoc false b c = refl

among-insert : (xs ys : List ℕ) (k q : ℕ) → is_among (xs ++ k ∷ ys) q ≡ (eqb k q || is_among (xs ++ ys) q)
among-insert [] ys k q = refl
among-insert (x ∷ xs) ys k q = ap (λ b. eqb x q || b) (among-insert xs ys k q) ∙ swap (eqb x q) (eqb k q) (is_among (xs ++ ys) q)
  where
    swap : (a b c : Bool) → (a || (b || c)) ≡ (b || (a || c))
    swap true true c = refl
    swap true false c = refl
    swap false b c = refl

distinct-front : (xs ys : List ℕ) → Distinct (xs ++ ys) → Distinct xs
distinct-front [] ys apart = tt
distinct-front (x ∷ xs) ys apart = ((or_parts _ _ (sym (among-append xs ys x) ∙ apart.0)).0, distinct-front xs ys apart.1)

distinct-insert : (xs ys : List ℕ) (k : ℕ) → Distinct (xs ++ ys) → is_among (xs ++ ys) k ≡ false → Distinct (xs ++ k ∷ ys)
distinct-insert [] ys k apart absent = (absent, apart)
distinct-insert (x ∷ xs) ys k apart absent =
    let parts : (eqb x k ≡ false) × (is_among (xs ++ ys) k ≡ false) = or_parts _ _ absent in
    (among-insert xs ys k x ∙ or_from (eqb k x) (is_among (xs ++ ys) x) (eqb-sym k x ∙ parts.0) apart.0, distinct-insert xs ys k apart.1 parts.1)

-- one of the first part is not in the second
apart-parts : (xs ys : List ℕ) (q : ℕ) → Distinct (xs ++ ys) → is_among xs q ≡ true → is_among ys q ≡ false
apart-parts [] ys q apart there = cc
apart-parts (x ∷ xs) ys q apart there = at (eqb x q) refl (apart-parts xs ys q apart.1)
  where
    at : (t : Bool) → eqb x q ≡ t → (is_among xs q ≡ true → is_among ys q ≡ false) → is_among ys q ≡ false
    at true is more = ap (is_among ys) (sym (eqb-true x q is)) ∙ (or_parts _ _ (sym (among-append xs ys x) ∙ apart.0)).1
    at false is more = more (ap (λ t. t || is_among xs q) (sym is) ∙ there)

apart-middle : (xs ys : List ℕ) (y : ℕ) → Distinct (xs ++ y ∷ ys) → is_among xs y ≡ false
apart-middle xs ys y apart = at (is_among xs y) refl
  where
    at : (t : Bool) → is_among xs y ≡ t → is_among xs y ≡ false
    at true is = let clash : true ≡ false = sym (or_left (eqb y y) (is_among ys y) (eq-eqb y y refl)) ∙ apart-parts xs (y ∷ ys) y apart is in cc
    at false is = is

-- ---- links in two parts
split-links : (nodes : List Node) (first : ℕ) (xs : List ℕ) (y : ℕ) (ys : List ℕ) (last : ℕ) → Links nodes first (xs ++ y ∷ ys) last → Links nodes first xs y × Links nodes y ys last
split-links nodes first [] y ys last l = ((l.0, l.1), l.2)
split-links nodes first (x ∷ xs) y ys last l = let later : Links nodes x xs y × Links nodes y ys last = split-links nodes x xs y ys last l.2 in ((l.0, l.1, later.0), later.1)

join-links : (nodes : List Node) (first : ℕ) (xs : List ℕ) (y : ℕ) (ys : List ℕ) (last : ℕ) → Links nodes first xs y → Links nodes y ys last → Links nodes first (xs ++ y ∷ ys) last
join-links nodes first [] y ys last front back = (front.0, front.1, back)
join-links nodes first (x ∷ xs) y ys last front back = (front.0, front.1, join-links nodes x xs y ys last front.2 back)

module _ (old noted mid new : List Node) (none k size : ℕ) (enters : Enters old noted k size) (other : eqb none k ≡ false) where
  -- between the first part and a number
  put-front : (x : ℕ) (xs : List ℕ) → Joins noted mid (before noted x) k → Joins mid new k x → Links noted none xs x → Distinct xs → is_among xs none ≡ false → is_among xs k ≡ false → is_among xs x ≡ false → eqb x k ≡ false
      → Links new none (xs ++ k ∷ []) x
  put-front x xs first_join second_join linked apart no_none no_k no_x differ =
      goes_on mid new k x none xs second_join other differ no_k no_x (takes_last noted mid k x none xs first_join apart no_none no_k linked)

  put-links : (x : ℕ) (xs ys : List ℕ) → x ≡ first_of none (members_at old ys) → Joins noted mid (before noted x) k → Joins mid new k x → Links old none (xs ++ ys) none → Distinct (xs ++ ys) → is_among (xs ++ ys) none ≡ false → is_among (xs ++ ys) k ≡ false
      → Links new none (xs ++ k ∷ ys) none
  put-links x xs [] is first_join second_join linked apart no_none no_k =
      let all : xs ++ [] ≡ xs = append-nil xs in
      put-front none xs (subst (λ j. Joins noted mid (before noted j) k) is first_join) (subst (Joins mid new k) is second_join)
      (Links-but old noted k enters.others_stay none xs none other (ap (λ js. is_among js k) (sym all) ∙ no_k) other (subst (λ js. Links old none js none) all linked)) (subst Distinct all apart)
      (ap (λ js. is_among js none) (sym all) ∙ no_none) (ap (λ js. is_among js k) (sym all) ∙ no_k) (ap (λ js. is_among js none) (sym all) ∙ no_none) other
  put-links x xs (y ∷ ys) is first_join second_join linked apart no_none no_k =
      let noted_links : Links noted none (xs ++ y ∷ ys) none = Links-but old noted k enters.others_stay none (xs ++ y ∷ ys) none other no_k other linked in
      let parts : Links noted none xs y × Links noted y ys none = split-links noted none xs y ys none noted_links in
      let first : Joins noted mid (before noted y) k = subst (λ j. Joins noted mid (before noted j) k) is first_join in
      let second : Joins mid new k y = subst (Joins mid new k) is second_join in
      let nones : (is_among xs none ≡ false) × ((eqb y none || is_among ys none) ≡ false) = or_parts _ _ (sym (among-append xs (y ∷ ys) none) ∙ no_none) in
      let none_later : (eqb y none ≡ false) × (is_among ys none ≡ false) = or_parts _ _ nones.1 in
      let ks : (is_among xs k ≡ false) × ((eqb y k || is_among ys k) ≡ false) = or_parts _ _ (sym (among-append xs (y ∷ ys) k) ∙ no_k) in
      let k_later : (eqb y k ≡ false) × (is_among ys k ≡ false) = or_parts _ _ ks.1 in
      let no_y : is_among xs y ≡ false = apart-middle xs ys y apart in
      let beside : is_among (none ∷ xs) (before noted y) ≡ true = last-beside noted none xs y parts.0 in
      let back : Links mid y ys none =
      Links-other noted mid (before noted y) k first y ys none (differs y (before noted y) (none ∷ xs) (or_from (eqb none y) (is_among xs y) (eqb-sym none y ∙ none_later.0) no_y) beside)
      (past (before noted y) none_later.1 beside) k_later.1 other parts.1 in
      let last : Links new y ys none = Links-other mid new k y second y ys none k_later.0 k_later.1 (distinct-back xs apart) (eqb-sym none y ∙ none_later.0) back in
      subst (λ js. Links new none js none) (append_assoc xs (k ∷ []) (y ∷ ys))
      (join-links new none (xs ++ k ∷ []) y ys none (put-front y xs first second parts.0 (distinct-front xs (y ∷ ys) apart) nones.0 ks.0 no_y k_later.0) last)
    where
      past : (q : ℕ) → is_among ys none ≡ false → is_among (none ∷ xs) q ≡ true → is_among ys q ≡ false
      past q no_later there = at (eqb none q) refl
        where
          at : (t : Bool) → eqb none q ≡ t → is_among ys q ≡ false
          at true e = ap (is_among ys) (sym (eqb-true none q e)) ∙ no_later
          at false e = (or_parts _ _ (apart-parts xs (y ∷ ys) q apart (ap (λ t. t || is_among xs q) (sym e) ∙ there))).1

      distinct-back : (zs : List ℕ) → Distinct (zs ++ y ∷ ys) → is_among ys y ≡ false
      distinct-back [] d = d.0
      distinct-back (z ∷ zs) d = distinct-back zs d.1

-- ---- the number that it is put before
module _ (nodes : List Node) (none count x : ℕ) (ring : IsRing nodes none count) (is : x ≡ first_of none (from_object x (ring_members nodes none count))) where
  abbrev ring_all : List ℕ
  ring_all = ring_of nodes none count

  pub next-among : is_among (none ∷ ring_all) x ≡ true
  next-among = at (numbers_from x ring_all) refl
    where
      first_is : x ≡ first_of none (members_at nodes (numbers_from x ring_all))
      first_is = is ∙ ap (first_of none) (members-from nodes x ring_all)

      at : (js : List ℕ) → numbers_from x ring_all ≡ js → is_among (none ∷ ring_all) x ≡ true
      at [] e = or_left (eqb none x) (is_among ring_all x) (eq-eqb none x (sym (first_is ∙ ap (λ is. first_of none (members_at nodes is)) e)))
      at (y ∷ js) e =
          or_right (eqb none x) (is_among ring_all x)
          (ap (λ l. is_among l x) (sym (numbers-are x ring_all)) ∙ among-append (numbers_before x ring_all) (numbers_from x ring_all) x
          ∙ or_right (is_among (numbers_before x ring_all) x) (is_among (numbers_from x ring_all) x)
          (ap (λ l. is_among l x) e ∙ or_left (eqb y x) (is_among js x) (eq-eqb y x (sym (first_is ∙ ap (λ is. first_of none (members_at nodes is)) e)))))

  pub before-there : IsThere nodes (before nodes x)
  before-there = at (eqb none x) refl
    where
      at : (t : Bool) → eqb none x ≡ t → IsThere nodes (before nodes x)
      at true e = subst (λ j. IsThere nodes (before nodes j)) (eqb-true none x e) (ring-there nodes none count ring (before nodes none) (last-beside nodes none ring_all none ring.linked))
      at false e =
          ring-there nodes none count ring (before nodes x)
          (before-among nodes none ring_all none x ring.linked (ap (λ t. t || is_among ring_all x) (sym e) ∙ next-among))

  -- it is another than one that is absent
  pub next-other : (k : ℕ) → k < none → is_among ring_all k ≡ false → eqb x k ≡ false
  next-other k low absent = at (eqb x k) refl
    where
      at : (t : Bool) → eqb x k ≡ t → eqb x k ≡ false
      at true e =
          let same : x ≡ k = eqb-true x k e in
          let there : is_among (none ∷ ring_all) k ≡ true = ap (is_among (none ∷ ring_all)) (sym same) ∙ next-among in
          let apart : is_among (none ∷ ring_all) k ≡ false = or_from (eqb none k) (is_among ring_all k) (ne_eqb none k (λ (s : none ≡ k). absurd (omega arith))) absent in
          let clash : true ≡ false = sym there ∙ apart in
          cc
      at false e = e

-- ---- the nodes beside it, once it has one itself
module _ (old entered : List Node) (none count k size x : ℕ) (ring : IsRing old none count) (low : k < none) (absent : is_among (ring_of old none count) k ≡ false) (is : x ≡ first_of none (from_object x (ring_members old none count)))
    (enters : Enters old entered k size) where
  pub next-there : IsThere entered x
  next-there = enters-there old entered k size enters x (ring-there old none count ring x (next-among old none count x ring is))

  module _ (n : Node) (read : n ≡ node_at entered x) where
    pub last-is : n.before ≡ before entered x
    last-is = ap (λ (m : Node). m.before) read

    pub last-there : IsThere entered n.before
    last-there =
        enters-there old entered k size enters n.before
        (subst (IsThere old) (sym (ap (λ (m : Node). m.before) (read ∙ enters.others_stay x (next-other old none count x ring is k low absent)))) (before-there old none count x ring is))

-- ---- one is put in
module _ (old noted mid new : List Node) (none count k size x : ℕ) (ring : IsRing old none count) (within : k < none) (absent : is_among (ring_of old none count) k ≡ false) (is : x ≡ first_of none (from_object x (ring_members old none count)))
    (enters : Enters old noted k size) (first_join : Joins noted mid (before noted x) k) (second_join : Joins mid new k x) where
  abbrev all : List ℕ
  all = ring_of old none count

  abbrev xs : List ℕ
  xs = numbers_before x all

  abbrev ys : List ℕ
  ys = numbers_from x all

  not_none : eqb none k ≡ false
  not_none = ne_eqb none k (λ (same : none ≡ k). absurd (omega arith))

  put-linked : Links new none (xs ++ k ∷ ys) none
  put-linked =
      put-links old noted mid new none k size enters not_none x xs ys (is ∙ ap (first_of none) (members-from old x all)) first_join second_join
      (subst (λ js. Links old none js none) (sym (numbers-are x all)) ring.linked) (subst Distinct (sym (numbers-are x all)) ring.apart)
      (ap (λ js. is_among js none) (numbers-are x all) ∙ none_apart old none count ring) (ap (λ js. is_among js k) (numbers-are x all) ∙ absent)

  put-size : size_at new k ≡ size
  put-size = second_join.sizes_stay k ∙ first_join.sizes_stay k ∙ enters.size_is

  other-size : (j : ℕ) → eqb j k ≡ false → size_at new j ≡ size_at old j
  other-size j differ = second_join.sizes_stay j ∙ first_join.sizes_stay j ∙ ap (λ (n : Node). n.size) (enters.others_stay j differ)

  put-others : (numbers : List ℕ) → is_among numbers k ≡ false → members_at new numbers ≡ members_at old numbers
  put-others numbers none_there = members-but old new k other-size numbers none_there

  no_k : (is_among xs k ≡ false) × (is_among ys k ≡ false)
  no_k = or_parts _ _ (sym (among-append xs ys k) ∙ ap (λ js. is_among js k) (numbers-are x all) ∙ absent)

  put-members : members_at new (xs ++ k ∷ ys) ≡ members_at old xs ++ member k size ∷ members_at old ys
  put-members =
      map-append (λ (j : ℕ). member j (size_at new j)) xs (k ∷ ys)
      ∙ ap (λ ms. ms ++ member k (size_at new k) ∷ members_at new ys) (put-others xs no_k.0)
      ∙ ap (λ ms. members_at old xs ++ member k (size_at new k) ∷ ms) (put-others ys no_k.1)
      ∙ ap (λ s. members_at old xs ++ member k s ∷ members_at old ys) put-size

  put-counted : length (xs ++ k ∷ ys) ≡ count + 1
  put-counted = omega (arith, length-append xs (k ∷ ys), length-append xs ys, ap length (numbers-are x all), length-walk old count (after old none))

  put-below : (q : ℕ) → is_among (xs ++ k ∷ ys) q ≡ true → q < none
  put-below q there = at (eqb k q) refl
    where
      at : (t : Bool) → eqb k q ≡ t → q < none
      at true e = let same : k ≡ q = eqb-true k q e in omega arith
      at false e = ring.below q (ap (λ js. is_among js q) (sym (numbers-are x all)) ∙ ap (λ t. t || is_among (xs ++ ys) q) (sym e) ∙ sym (among-insert xs ys k q) ∙ there)

  pub put-ring : IsRing new none (count + 1)
  put-ring =
      ring-made new none (count + 1) (xs ++ k ∷ ys) put-linked put-counted
      (second_join.nodes_stay ∙ first_join.nodes_stay ∙ enters.nodes_stay ∙ ring.each_node)
      (distinct-insert xs ys k (subst Distinct (sym (numbers-are x all)) ring.apart) (ap (λ js. is_among js k) (numbers-are x all) ∙ absent)) put-below

  pub put-at : ring_members new none (count + 1) ≡ before_object x (ring_members old none count) ++ member k size ∷ from_object x (ring_members old none count)
  put-at =
      ap (members_at new) (ring-is new none (count + 1) (xs ++ k ∷ ys) put-linked put-counted) ∙ put-members
      ∙ ap (λ ms. ms ++ member k size ∷ members_at old ys) (sym (members-before old x all))
      ∙ ap (λ ms. before_object x (ring_members old none count) ++ member k size ∷ ms) (sym (members-from old x all))

-- ---- at the number for none, nothing follows
pub all-before : (k : ℕ) (ms : List Member) → has_member ms k ≡ false → (before_object k ms ≡ ms) × (from_object k ms ≡ [])
all-before k [] absent = (refl, refl)
all-before k (m ∷ rest) absent =
    let parts : (eqb m.object k ≡ false) × (has_member rest k ≡ false) = or_parts _ _ absent in
    let later : (before_object k rest ≡ rest) × (from_object k rest ≡ []) = all-before k rest parts.1 in
    (ap (λ t. cond t [] (m ∷ before_object k rest)) parts.0 ∙ ap (λ ms. m ∷ ms) later.0, ap (λ t. cond t (m ∷ rest) (from_object k rest)) parts.0 ∙ later.1)

pub none-begins : (l : Lined) (none : ℕ) → none ≡ l.objects → has_member l.members l.objects ≡ false → none ≡ first_of l.objects (from_object none l.members)
none-begins l none is absent = is ∙ ap (first_of l.objects) (sym ((all-before l.objects l.members absent).1) ∙ ap (λ k. from_object k l.members) (sym is))

pub put-last : (l : Lined) (none : ℕ) → none ≡ l.objects → has_member l.members l.objects ≡ false → (m : Member) → before_object none l.members ++ m ∷ from_object none l.members ≡ l.members ++ m ∷ []
put-last l none is absent m =
    ap (λ k. before_object k l.members ++ m ∷ from_object k l.members) is
    ∙ ap (λ ms. ms ++ m ∷ from_object l.objects l.members) (all-before l.objects l.members absent).0 ∙ ap (λ ms. l.members ++ m ∷ ms) (all-before l.objects l.members absent).1

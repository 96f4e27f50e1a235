-- A ring of linked nodes, as one is taken out, and what is known of it by the value of its line.
use Rattle.std.proofs.Common.{◌≡◌, ℕ, ◌+◌, ◌-◌, ◌<◌, ◌≤◌, ◌∙◌, sym, refl, ap, subst, Bool, true, false, not, ◌||◌, cond, eqb, List, [], ◌∷◌, ◌++◌, length, filter, arith, sum_by}
use Rattle.std.specs.List.{AllByRecursion, IsDistinct, list_any}
use Rattle.std.proofs.lemmas.Bool.{eqb-true, eq-eqb, or_left, or_right, or_parts, or_from, cond_both}
use Rattle.std.proofs.lemmas.Map.Steps.{length-le_from_distinct_below}
use Rattle.std.proofs.lemmas.List.{length-map}
use Rattle.std.proofs.lemmas.List.Sums.{sum_by-cons}
use Rattle.policy_model.specs.States.{Member, member, members_size, has_member}
use Rattle.policy_model.proofs.Comparisons.{eqb-sym}
use Rattle.cache_model.proofs.Eligible.{or_false}
use Rattle.linked_nodes.specs.declared.nodes.Node.{Node}
use Rattle.replay_queues.specs.Lines.{Lined}
use Rattle.linked_nodes.specs.Nodes.{node_at, Enters, IsThere, Joins, Leaves}
use Rattle.replay_queues.specs.Rings.{is_among, Distinct, Links, walk, ring_of, members_at, ring_members, IsRing}
use Rattle.replay_queues.proofs.RingLemmas.{after, before, without, without-none, last-beside, before-among, after-among, taken_out, walked, length-walk, Links-but}

abbrev pub size_at : List Node → ℕ → ℕ
size_at nodes k = (node_at nodes k).size

-- ---- the members of numbers
pub members-among : (nodes : List Node) (numbers : List ℕ) (k : ℕ) → has_member (members_at nodes numbers) k ≡ is_among numbers k
members-among nodes [] k = refl
members-among nodes (j ∷ rest) k = ap (λ b. eqb j k || b) (members-among nodes rest k)

pub members-but : (old new : List Node) (k : ℕ) → ((j : ℕ) → eqb j k ≡ false → size_at new j ≡ size_at old j) → (numbers : List ℕ) → is_among numbers k ≡ false → members_at new numbers ≡ members_at old numbers
members-but old new k same [] none = refl
members-but old new k same (j ∷ rest) none =
    let parts : (eqb j k ≡ false) × (is_among rest k ≡ false) = or_parts _ _ none in
    ap (λ s. member j s ∷ members_at new rest) (same j parts.0) ∙ ap (λ ms. member j (size_at old j) ∷ ms) (members-but old new k same rest parts.1)

members-same : (old new : List Node) → ((j : ℕ) → size_at new j ≡ size_at old j) → (numbers : List ℕ) → members_at new numbers ≡ members_at old numbers
members-same old new same [] = refl
members-same old new same (j ∷ rest) = ap (λ s. member j s ∷ members_at new rest) (same j) ∙ ap (λ ms. member j (size_at old j) ∷ ms) (members-same old new same rest)

pub members-without : (nodes : List Node) (k : ℕ) (numbers : List ℕ) → filter (λ m. not (eqb m.object k)) (members_at nodes numbers) ≡ members_at nodes (without k numbers)
members-without nodes k [] = refl
members-without nodes k (j ∷ rest) = at (eqb j k) (members-without nodes k rest)
  where
    at : (t : Bool) → filter (λ m. not (eqb m.object k)) (members_at nodes rest) ≡ members_at nodes (without k rest)
        → cond (not t) (member j (size_at nodes j) ∷ filter (λ m. not (eqb m.object k)) (members_at nodes rest)) (filter (λ m. not (eqb m.object k)) (members_at nodes rest)) ≡ members_at nodes (cond (not t) (j ∷ without k rest) (without k rest))
    at true later = later
    at false later = ap (λ ms. member j (size_at nodes j) ∷ ms) later

-- ---- without a number
pub less-among : (k q : ℕ) (numbers : List ℕ) → is_among numbers q ≡ false → is_among (without k numbers) q ≡ false
less-among k q [] none = none
less-among k q (j ∷ rest) none =
    let parts : (eqb j q ≡ false) × (is_among rest q ≡ false) = or_parts _ _ none in
    cond_both (not (eqb j k)) (j ∷ without k rest) (without k rest) (λ js. is_among js q ≡ false) (λ _. or_from (eqb j q) (is_among (without k rest) q) parts.0 (less-among k q rest parts.1)) (λ _. less-among k q rest parts.1)

pub more-among : (k q : ℕ) (numbers : List ℕ) → is_among (without k numbers) q ≡ true → is_among numbers q ≡ true
more-among k q numbers there = at (is_among numbers q) refl
  where
    at : (t : Bool) → is_among numbers q ≡ t → is_among numbers q ≡ true
    at true is = is
    at false is = let clash : true ≡ false = sym there ∙ less-among k q numbers is in cc

pub distinct-without : (k : ℕ) (numbers : List ℕ) → Distinct numbers → Distinct (without k numbers)
distinct-without k [] apart = tt
distinct-without k (j ∷ rest) apart =
    cond_both (not (eqb j k)) (j ∷ without k rest) (without k rest) Distinct (λ _. (less-among k j rest apart.0, distinct-without k rest apart.1)) (λ _. distinct-without k rest apart.1)

pub without-gone : (k : ℕ) (numbers : List ℕ) → is_among (without k numbers) k ≡ false
without-gone k [] = refl
without-gone k (j ∷ rest) = at (eqb j k) refl (without-gone k rest)
  where
    at : (t : Bool) → eqb j k ≡ t → is_among (without k rest) k ≡ false → is_among (cond (not (eqb j k)) (j ∷ without k rest) (without k rest)) k ≡ false
    at true e more = ap (λ t. is_among (cond (not t) (j ∷ without k rest) (without k rest)) k) e ∙ more
    at false e more = ap (λ t. is_among (cond (not t) (j ∷ without k rest) (without k rest)) k) e ∙ or_from (eqb j k) (is_among (without k rest) k) e more

-- a sum loses its part
pub sum-without : (f : ℕ → ℕ) (k : ℕ) (numbers : List ℕ) → Distinct numbers → is_among numbers k ≡ true → sum_by f (without k numbers) + f k ≡ sum_by f numbers
sum-without f k [] apart there = cc
sum-without f k (j ∷ rest) apart there = at (eqb j k) refl (sum-without f k rest apart.1)
  where
    at : (t : Bool) → eqb j k ≡ t → (is_among rest k ≡ true → sum_by f (without k rest) + f k ≡ sum_by f rest) → sum_by f (cond (not (eqb j k)) (j ∷ without k rest) (without k rest)) + f k ≡ sum_by f (j ∷ rest)
    at true e more =
        let same : j ≡ k = eqb-true j k e in
        omega (
          arith,
          ap (λ b. sum_by f (cond (not b) (j ∷ without k rest) (without k rest))) e,
          ap (sum_by f) (without-none k rest (ap (is_among rest) (sym same) ∙ apart.0)),
          ap f same,
          sum_by-cons f j rest,
        )
    at false e more =
        omega (
          arith,
          ap (λ b. sum_by f (cond (not b) (j ∷ without k rest) (without k rest))) e,
          more (ap (λ t. t || is_among rest k) (sym e) ∙ there),
          sum_by-cons f j rest,
          sum_by-cons f j (without k rest),
        )

pub ones : (numbers : List ℕ) → sum_by (λ j. 1) numbers ≡ length numbers
ones [] = refl
ones (j ∷ rest) = omega (arith, ones rest, sum_by-cons (λ (i : ℕ). 1) j rest)

sizes : (nodes : List Node) (numbers : List ℕ) → members_size (members_at nodes numbers) ≡ sum_by (size_at nodes) numbers
sizes nodes [] = refl
sizes nodes (j ∷ rest) = omega (arith, sizes nodes rest, sum_by-cons (size_at nodes) j rest, sum_by-cons (λ (m : Member). m.size) (member j (size_at nodes j)) (members_at nodes rest))

-- ---- with one more
pub among-push : (numbers : List ℕ) (k q : ℕ) → is_among (numbers ++ k ∷ []) q ≡ (is_among numbers q || eqb k q)
among-push [] k q = or_false (eqb k q)
among-push (j ∷ rest) k q = ap (λ b. eqb j q || b) (among-push rest k q) ∙ assoc (eqb j q) (is_among rest q) (eqb k q)
  where
    assoc : (a b c : Bool) → (a || (b || c)) ≡ (a || b || c)
    assoc true b c = refl
    assoc false b c = refl

pub distinct-push : (numbers : List ℕ) (k : ℕ) → Distinct numbers → is_among numbers k ≡ false → Distinct (numbers ++ k ∷ [])
distinct-push [] k apart none = (refl, tt)
distinct-push (j ∷ rest) k apart none =
    let parts : (eqb j k ≡ false) × (is_among rest k ≡ false) = or_parts _ _ none in
    (among-push rest k j ∙ or_from (is_among rest j) (eqb k j) apart.0 (eqb-sym k j ∙ parts.0), distinct-push rest k apart.1 parts.1)

-- ---- how many there can be
distinct-others : (k : ℕ) (rest : List ℕ) → is_among rest k ≡ false → AllByRecursion (λ y. eqb k y ≡ false) rest
distinct-others k [] none = tt
distinct-others k (j ∷ rest) none =
    let parts : (eqb j k ≡ false) × (is_among rest k ≡ false) = or_parts _ _ none in
    (eqb-sym k j ∙ parts.0, distinct-others k rest parts.1)

is_distinct : (numbers : List ℕ) → Distinct numbers → IsDistinct eqb numbers
unfolding IsDistinct
is_distinct [] apart = tt
is_distinct (j ∷ rest) apart = (distinct-others j rest apart.0, is_distinct rest apart.1)

any-among : (numbers : List ℕ) (q : ℕ) → list_any (eqb q) numbers ≡ is_among numbers q
any-among [] q = refl
any-among (j ∷ rest) q = ap (λ b. b || list_any (eqb q) rest) (eqb-sym q j) ∙ ap (λ b. eqb j q || b) (any-among rest q)

pub few : (numbers : List ℕ) (none : ℕ) → Distinct numbers → ((k : ℕ) → is_among numbers k ≡ true → k < none) → length numbers ≤ none
few numbers none apart below = length-le_from_distinct_below numbers none (is_distinct numbers apart) (λ q there. below q (sym (any-among numbers q) ∙ there))

-- ---- a ring of these numbers
module _ (nodes : List Node) (none count : ℕ) (numbers : List ℕ) (linked : Links nodes none numbers none) (counted : length numbers ≡ count) where
  pub ring-is : ring_of nodes none count ≡ numbers
  ring-is = ap (λ n. walk nodes n (after nodes none)) (sym counted) ∙ walked nodes none numbers none linked

  pub ring-made : length nodes ≡ none + 3 → Distinct numbers → ((k : ℕ) → is_among numbers k ≡ true → k < none) → IsRing nodes none count
  ring-made each apart below = record {
    each_node = each;
    linked = subst (λ js. Links nodes none js none) (sym ring-is) linked;
    apart = subst Distinct (sym ring-is) apart;
    below = λ k there. below k (ap (λ js. is_among js k) (sym ring-is) ∙ there);
  }

-- ---- what holds of a ring
module _ (nodes : List Node) (none count : ℕ) (ring : IsRing nodes none count) where
  abbrev numbers : List ℕ
  numbers = ring_of nodes none count

  pub none_apart : is_among numbers none ≡ false
  none_apart = at (is_among numbers none) refl
    where
      at : (t : Bool) → is_among numbers none ≡ t → t ≡ false
      at true is = absurd (let low : none < none = ring.below none is in omega arith)
      at false is = refl

  pub member-among : (k : ℕ) → has_member (ring_members nodes none count) k ≡ is_among numbers k
  member-among k = members-among nodes numbers k

  pub beside : (k : ℕ) → is_among (none ∷ numbers) k ≡ true → k < none + 1
  beside k there = at (eqb none k) refl
    where
      at : (t : Bool) → eqb none k ≡ t → k < none + 1
      at true is = let same : none ≡ k = eqb-true none k is in omega arith
      at false is = let low : k < none = ring.below k (ap (λ t. t || is_among numbers k) (sym is) ∙ there) in omega arith

  pub last-within : before nodes none < none + 1
  last-within = beside (before nodes none) (last-beside nodes none numbers none ring.linked)

  pub before-within : (k : ℕ) → is_among numbers k ≡ true → before nodes k < none + 1
  before-within k there = beside (before nodes k) (before-among nodes none numbers none k ring.linked there)

  pub after-within : (k : ℕ) → is_among numbers k ≡ true → after nodes k < none + 1
  after-within k there = beside (after nodes k) (after-among nodes none numbers none k ring.linked there)

  pub count-few : count ≤ none
  count-few = omega (arith, few numbers none ring.apart ring.below, length-walk nodes count (after nodes none))

-- ---- one is taken out
module _ (old : List Node) (none count k : ℕ) (ring : IsRing old none count) (there : is_among (ring_of old none count) k ≡ true) where
  abbrev all_of : List ℕ
  all_of = ring_of old none count

  pub less-bytes : members_size (members_at old (without k all_of)) + size_at old k ≡ members_size (members_at old all_of)
  less-bytes = omega (arith, sum-without (size_at old) k all_of ring.apart there, sizes old all_of, sizes old (without k all_of))

  pub less-count : length (without k all_of) + 1 ≡ count
  less-count = omega (arith, sum-without (λ (j : ℕ). 1) k all_of ring.apart there, ones all_of, ones (without k all_of), length-walk old count (after old none))

  module _ (joined new : List Node) (joins : Joins old joined (before old k) (after old k)) (leaves : Leaves joined new k) where
    none_other : eqb none k ≡ false
    none_other = at (eqb none k) refl
      where
        at : (t : Bool) → eqb none k ≡ t → eqb none k ≡ false
        at true e = let clash : true ≡ false = sym there ∙ ap (is_among all_of) (sym (eqb-true none k e)) ∙ none_apart old none count ring in cc
        at false e = e

    less-links : Links new none (without k all_of) none
    less-links =
        Links-but joined new k leaves.others_stay none (without k all_of) none none_other (without-gone k all_of) none_other
        (taken_out old joined k none all_of none joins ring.apart there (none_apart old none count ring) (none_apart old none count ring) ring.linked)

    less-members : members_at new (without k all_of) ≡ filter (λ m. not (eqb m.object k)) (members_at old all_of)
    less-members =
        members-but joined new k (λ j apart. ap (λ (n : Node). n.size) (leaves.others_stay j apart)) (without k all_of) (without-gone k all_of)
        ∙ members-same old joined joins.sizes_stay (without k all_of) ∙ sym (members-without old k all_of)

    less-counted : length (without k all_of) ≡ count - 1
    less-counted = omega (arith, less-count)

    pub less-ring : IsRing new none (count - 1)
    less-ring =
        ring-made new none (count - 1) (without k all_of) less-links less-counted (leaves.nodes_stay ∙ joins.nodes_stay ∙ ring.each_node) (distinct-without k all_of ring.apart)
        (λ q h. ring.below q (more-among k q all_of h))

    pub less-members-are : ring_members new none (count - 1) ≡ filter (λ m. not (eqb m.object k)) (ring_members old none count)
    less-members-are = ap (members_at new) (ring-is new none (count - 1) (without k all_of) less-links less-counted) ∙ less-members

pub members-length : (nodes : List Node) (none count : ℕ) → length (ring_members nodes none count) ≡ count
members-length nodes none count = length-map (ring_of nodes none count) (λ j. member j (node_at nodes j).size) ∙ length-walk nodes count (after nodes none)

-- ---- what is known of a line by its value
module _ (nodes : List Node) (none count room : ℕ) (old : Lined) (ring : IsRing nodes none count) (view : record { objects = none; members = ring_members nodes none count; room = room } ≡ old) (k : ℕ) where
  pub view-below : k < old.objects → k < none
  view-below low = subst (λ (g : Lined). k < g.objects) (sym view) low

  pub view-among : (t : Bool) → has_member old.members k ≡ t → is_among (ring_of nodes none count) k ≡ t
  view-among t is = sym (member-among nodes none count ring k) ∙ ap (λ (g : Lined). has_member g.members k) view ∙ is

  -- as many members as the ring has
  pub view-length : length old.members ≡ count
  view-length = ap (λ (g : Lined). length g.members) (sym view) ∙ members-length nodes none count

-- ---- which nodes are there
module _ (nodes : List Node) (none count : ℕ) (ring : IsRing nodes none count) where
  first-within : after nodes none < none + 1
  first-within = at (ring_of nodes none count) ring.linked ring.below
    where
      at : (numbers : List ℕ) → Links nodes none numbers none → ((k : ℕ) → is_among numbers k ≡ true → k < none) → after nodes none < none + 1
      at [] linked below = let is : after nodes none ≡ none = linked.0 in omega arith
      at (j ∷ rest) linked below =
          let is : after nodes none ≡ j = linked.0 in
          let low : j < none = below j (or_left (eqb j j) (is_among rest j) (eq-eqb j j refl)) in
          omega arith

  -- those of the ring and the one for none
  pub ring-there : (k : ℕ) → is_among (none ∷ ring_of nodes none count) k ≡ true → IsThere nodes k
  ring-there k there = (let each : length nodes ≡ none + 3 = ring.each_node in let low : k < none + 1 = beside nodes none count ring k there in omega arith, at (eqb none k) refl)
    where
      at : (t : Bool) → eqb none k ≡ t → after nodes k < length nodes
      at true e =
          let each : length nodes ≡ none + 3 = ring.each_node in
          let low : after nodes k < none + 1 = subst (λ j. after nodes j < none + 1) (eqb-true none k e) first-within in
          omega arith
      at false e =
          let each : length nodes ≡ none + 3 = ring.each_node in
          let low : after nodes k < none + 1 = after-within nodes none count ring k (ap (λ t. t || is_among (ring_of nodes none count) k) (sym e) ∙ there) in
          omega arith

  pub among-there : (k : ℕ) → is_among (ring_of nodes none count) k ≡ true → IsThere nodes k
  among-there k there = ring-there k (or_right (eqb none k) (is_among (ring_of nodes none count) k) there)

-- a join leaves them there
pub joins-there : (old new : List Node) (b a : ℕ) → Joins old new b a → a < length old → (k : ℕ) → IsThere old k → IsThere new k
joins-there old new b a joins low k there = (
  let same : length new ≡ length old = joins.nodes_stay in let within : k < length old = there.0 in omega arith,
  let same : length new ≡ length old = joins.nodes_stay in
      let is : after new k ≡ cond (eqb k b) a (after old k) = joins.follows k in
      let within : cond (eqb k b) a (after old k) < length old = cond_both (eqb k b) a (after old k) (λ x. x < length old) (λ _. low) (λ _. there.1) in
      omega arith,
)

-- and so does one that comes
pub enters-there : (old new : List Node) (object size : ℕ) → Enters old new object size → (k : ℕ) → IsThere old k → IsThere new k
enters-there old new object size enters k there = at (eqb k object) refl
  where
    at : (t : Bool) → eqb k object ≡ t → IsThere new k
    at true e = subst (IsThere new) (sym (eqb-true k object e)) enters.there
    at false e =
        let same : length new ≡ length old = enters.nodes_stay in
        let is : after new k ≡ after old k = ap (λ (n : Node). n.after) (enters.others_stay k e) in
        let within : k < length old = there.0 in
        let low : after old k < length old = there.1 in
        (omega arith, omega arith)

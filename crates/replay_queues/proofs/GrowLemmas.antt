-- Rings and lines, as more objects have a place.
use Rattle.std.proofs.Common.{◌≡◌, ℕ, ◌<◌, ◌≤◌, ◌∙◌, sym, refl, ap, subst, Bool, true, false, eqb, List, [], ◌∷◌, length, map, arith}
use Rattle.std.proofs.lemmas.Bool.{eq-eqb, or_left, or_right}
use Rattle.policy_model.specs.States.{member, has_member}
use Rattle.linked_nodes.specs.declared.nodes.Node.{Node}
use Rattle.linked_nodes.specs.Nodes.{Grows, IsThere, renumbered}
use Rattle.linked_nodes.proofs.NumberLemmas.{renumbered-mark, renumbered-object}
use Rattle.replay_queues.specs.Lines.{Lined}
use Rattle.replay_queues.specs.Rings.{is_among, Links, members_at, ring_members, ring_of, IsRing}
use Rattle.replay_queues.proofs.RingLemmas.{length-walk, after}
use Rattle.replay_queues.proofs.GhostAnswers.{size_at, among-there, member-among, ring-is, ring-made, ring-there}

-- a number that is not below that for none is not in a line
module _ (nodes : List Node) (none count room : ℕ) (old : Lined) (ring : IsRing nodes none count) (view : record { objects = none; members = ring_members nodes none count; room = room } ≡ old) where
  pub line-past : (k : ℕ) → old.objects ≤ k → has_member old.members k ≡ false
  line-past k high = subst (λ (l : Lined). has_member l.members k ≡ false) view (member-among nodes none count ring k ∙ at (is_among (ring_of nodes none count) k) refl)
    where
      at : (t : Bool) → is_among (ring_of nodes none count) k ≡ t → is_among (ring_of nodes none count) k ≡ false
      at true is =
          let low : k < none = ring.below k is in
          let past : none ≤ k = subst (λ (l : Lined). l.objects ≤ k) (sym view) high in
          absurd (omega arith)
      at false is = is

-- ---- a ring whose nodes grow
module _ (old new : List Node) (none more : ℕ) (grows : Grows old new none more) where
  abbrev named : ℕ → ℕ
  named = renumbered none more

  pub links-named : (first : ℕ) (numbers : List ℕ) (last : ℕ) → IsThere old first → IsThere old last → ((k : ℕ) → is_among numbers k ≡ true → IsThere old k) → Links old first numbers last → Links new (named first) (map named numbers) (named last)
  links-named first [] last first_there last_there there l = (
    grows.follow first first_there ∙ ap named l.0,
    grows.go_before last last_there (subst (λ n. n < length old) (sym l.1) first_there.0) ∙ ap named l.1,
  )
  links-named first (k ∷ rest) last first_there last_there there l =
      let here : IsThere old k = there k (or_left (eqb k k) (is_among rest k) (eq-eqb k k refl)) in (
        grows.follow first first_there ∙ ap named l.0,
        grows.go_before k here (subst (λ n. n < length old) (sym l.1) first_there.0) ∙ ap named l.1,
        links-named k rest last here last_there (λ j among. there j (or_right (eqb k j) (is_among rest j) among)) l.2,
      )

  named-same : (numbers : List ℕ) → ((k : ℕ) → is_among numbers k ≡ true → k < none) → map named numbers ≡ numbers
  named-same [] below = refl
  named-same (k ∷ rest) below =
      ap (λ j. j ∷ map named rest) (renumbered-object none more k (below k (or_left (eqb k k) (is_among rest k) (eq-eqb k k refl))))
      ∙ ap (λ js. k ∷ js) (named-same rest (λ j among. below j (or_right (eqb k j) (is_among rest j) among)))

  pub named-none : named none ≡ more
  named-none = renumbered-mark none more none (omega arith) ∙ omega arith

  members-named : (numbers : List ℕ) → ((k : ℕ) → is_among numbers k ≡ true → k < none) → members_at new numbers ≡ members_at old numbers
  members-named [] below = refl
  members-named (k ∷ rest) below =
      let low : k < none = below k (or_left (eqb k k) (is_among rest k) (eq-eqb k k refl)) in
      let same : size_at new k ≡ size_at old k = ap (size_at new) (sym (renumbered-object none more k low)) ∙ grows.sizes_stay k (omega (arith, low, grows.were)) in
      ap (λ s. member k s ∷ members_at new rest) same ∙ ap (λ ms. member k (size_at old k) ∷ ms) (members-named rest (λ j among. below j (or_right (eqb k j) (is_among rest j) among)))

  module _ (count : ℕ) (ring : IsRing old none count) (wider : none ≤ more) where
    abbrev numbers : List ℕ
    numbers = ring_of old none count

    linked : Links new more numbers more
    linked =
        let none_there : IsThere old none = ring-there old none count ring none (or_left (eqb none none) (is_among numbers none) (eq-eqb none none refl)) in
        subst (λ n. Links new n numbers n) named-none
        (subst (λ js. Links new (named none) js (named none)) (named-same numbers ring.below)
        (links-named none numbers none none_there none_there (among-there old none count ring) ring.linked))

    counted : length numbers ≡ count
    counted = length-walk old count (after old none)

    pub grown-ring : IsRing new more count
    grown-ring = ring-made new more count numbers linked counted grows.are ring.apart (λ k there. let low : k < none = ring.below k there in omega arith)

    pub grown-members : ring_members new more count ≡ ring_members old none count
    grown-members = ap (members_at new) (ring-is new more count numbers linked counted) ∙ members-named numbers ring.below

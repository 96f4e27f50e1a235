-- The hand of SIEVE or of CLOCK over its line.
use Rattle.std.proofs.Common.{◌≡◌, ℕ, ◌<◌, ◌∙◌, sym, refl, ap, subst, Bool, true, false, not, ◌||◌, cond, eqb, leb, List, [], ◌∷◌, ◌++◌, length, drop, get_or, set, append_assoc, arith}
use Rattle.std.proofs.lemmas.Bool.{eqb-true, eq-eqb, or_parts, or_from, ltb-true}
use Rattle.std.proofs.lemmas.List.{append-nil, get_or_past, length-set}
use Rattle.std.proofs.lemmas.List.Sums.{sum_by-append}
use Rattle.cache_model.proofs.Eligible.{or_false}
use Rattle.policy_model.specs.States.{Member, Entry, member, has_member, members_size, Apart}
use Rattle.policy_model.specs.Steps.{without_entry}
use Rattle.policy_model.specs.Sieve.{Cut, begin_again, look, cut_used, come_in}
use Rattle.policy_model.specs.Leaving.{without_member}
use Rattle.policy_model.proofs.Entries.{Apart-without, without-none}
use Rattle.policy_model.proofs.Leavings.{without-append}
use Rattle.policy_model.proofs.Removals.{unmarked}
use Rattle.replay_queues.specs.Items.{has_item, items_of}
use Rattle.replay_queues.specs.Lines.{Lined, before_object, from_object, first_of}
use Rattle.replay_queues.specs.SieveQueues.{is_held, marked_entry, cut_by, behind_items, ahead_items, cut_at, AreHeld, IsHand}
use Rattle.replay_queues.specs.declared.hand.Hand.{Hand}
use Rattle.replay_queues.proofs.ItemLemmas.{here, other, within_cells}
use Rattle.replay_queues.proofs.LineLemmas.{parts-are, cuts-here, members-but-none, members-but-append, has_item-of, items_of-append, entries-but, has_member-gone, has_member-others, item_bytes-of, has_member-append}
use Rattle.replay_queues.proofs.SieveLemmas.{marked, marked-items, cut-bytes, is_there, next-within, next-alone, passed-cut, passed-held, comes_in, came-held}

-- ---- a hand at the first of what is ahead
-- none behind it is that object
next-apart : (cells : List ℕ) (none : ℕ) (b a : List Member) → length cells ≡ none → AreHeld cells (items_of b) (items_of a) → has_member b (first_of none a) ≡ false
next-apart cells none b [] each held =
    sym (has_item-of b none) ∙ sym (or_false (has_item (items_of b) none)) ∙ sym (held.known none) ∙ ap is_held (get_or_past cells none 0 (omega arith))
next-apart cells none b (m ∷ rest) each held = sym (has_item-of b m.object) ∙ (next-alone cells (items_of b) (m.object, m.size) (items_of rest) held).0

module _ (h : Hand) (cells : List ℕ) (b a : List Member) (table : h.table ≡ cells) (line : h.line.members ≡ b ++ a) (each : length cells ≡ h.line.objects) (held : AreHeld cells (items_of b) (items_of a)) (next : h.next ≡ first_of h.line.objects a) where
  cuts : (before_object h.next h.line.members ≡ b) × (from_object h.next h.line.members ≡ a)
  cuts =
      let both : (before_object h.next (b ++ a) ≡ b) × (from_object h.next (b ++ a) ≡ a) =
      cuts-here h.line.objects h.next a (sym next) b (ap (has_member b) next ∙ next-apart cells h.line.objects b a each held) in
      (ap (before_object h.next) line ∙ both.0, ap (from_object h.next) line ∙ both.1)

  pub hand-cut : cut_at h ≡ cut_by cells (items_of b) (items_of a)
  hand-cut =
      ap (λ cs. cut_by cs (behind_items h) (ahead_items h)) table ∙ ap (λ ms. cut_by cells (items_of ms) (ahead_items h)) cuts.0 ∙ ap (λ ms. cut_by cells (items_of b) (items_of ms)) cuts.1

  pub hand-is : IsHand h
  hand-is = record {
    are = subst (λ cs. AreHeld cs (behind_items h) (ahead_items h)) (sym table)
        (subst (λ ms. AreHeld cells (items_of ms) (ahead_items h)) (sym cuts.0) (subst (λ ms. AreHeld cells (items_of b) (items_of ms)) (sym cuts.1) held));
    next_is = next ∙ ap (first_of h.line.objects) (sym cuts.1);
    each_object = ap length table ∙ each;
  }

-- the bytes of the cut are those of the line
pub cut-size : (h : Hand) → cut_used (cut_at h) ≡ members_size h.line.members
cut-size h =
    let b : List Member = before_object h.next h.line.members in
    let a : List Member = from_object h.next h.line.members in
    omega (
      arith,
      cut-bytes h.table (items_of b) (items_of a),
      item_bytes-of b,
      item_bytes-of a,
      sum_by-append (λ (m : Member). m.size) b a,
      ap members_size (parts-are h.next h.line.members),
    )

-- ---- what holds of a hand
module _ (h : Hand) (is : IsHand h) where
  abbrev b : List Member
  b = before_object h.next h.line.members

  abbrev a : List Member
  a = from_object h.next h.line.members

  -- the bytes tell which objects are in the line
  pub held-line : (k : ℕ) → is_held (get_or h.table k 0) ≡ has_member h.line.members k
  held-line k =
      is.are.known k ∙ ap (λ t. t || has_item (items_of a) k) (has_item-of b k) ∙ ap (λ t. has_member b k || t) (has_item-of a k) ∙ sym (has_member-append b a k)
      ∙ ap (λ ms. has_member ms k) (parts-are h.next h.line.members)

  pub held-within : (k : ℕ) → is_held (get_or h.table k 0) ≡ true → k < length h.table
  held-within k there = within_cells h.table k (ltb-true 0 (get_or h.table k 0) there)

  -- the number for none is not in it
  pub none-held : has_member h.line.members h.line.objects ≡ false
  none-held = let each : length h.table ≡ h.line.objects = is.each_object in sym (held-line h.line.objects) ∙ ap is_held (get_or_past h.table h.line.objects 0 (omega arith))

  -- at the number for none, nothing is ahead
  pub none-ahead : h.next ≡ h.line.objects → a ≡ []
  none-ahead none = at a refl
    where
      at : (ms : List Member) → a ≡ ms → ms ≡ []
      at [] same = refl
      at (m ∷ rest) same =
          let held : AreHeld h.table (items_of b) (items_of (m ∷ rest)) = subst (λ ms. AreHeld h.table (items_of b) (items_of ms)) same is.are in
          let low : m.object < length h.table = next-within h.table (items_of b) (m.object, m.size) (items_of rest) held in
          let next : h.next ≡ m.object = is.next_is ∙ ap (first_of h.line.objects) same in
          let each : length h.table ≡ h.line.objects = is.each_object in
          absurd (omega arith)

  -- and elsewhere the object there is
  pub some-ahead : eqb h.next h.line.objects ≡ false → (size : ℕ) × (a ≡ member h.next size ∷ drop 1 a)
  some-ahead other = at a refl
    where
      at : (ms : List Member) → a ≡ ms → (size : ℕ) × (ms ≡ member h.next size ∷ drop 1 ms)
      at [] same = let clash : true ≡ false = sym (eq-eqb h.next h.line.objects (is.next_is ∙ ap (first_of h.line.objects) same)) ∙ other in cc
      at (m ∷ rest) same = (m.size, ap (λ k. member k m.size ∷ rest) (sym (is.next_is ∙ ap (first_of h.line.objects) same)))

  -- ---- one is taken out
  module _ (k : ℕ) (there : is_held (get_or h.table k 0) ≡ true) where
    out-held : AreHeld (set h.table k 0) (items_of (without_member k b)) (items_of (without_member k a))
    out-held = record {
      apart = subst Apart
          (without-append k (marked h.table (items_of b)) (marked h.table (items_of a))
          ∙ ap (λ es. es ++ without_entry k (marked h.table (items_of a))) (sym (entries-but marked_entry (λ c p. refl) h.table k 0 b))
          ∙ ap (λ es. marked (set h.table k 0) (items_of (without_member k b)) ++ es) (sym (entries-but marked_entry (λ c p. refl) h.table k 0 a)))
          (Apart-without k (marked h.table (items_of b) ++ marked h.table (items_of a)) is.are.apart);
      known = λ q. at q (eqb q k) refl;
    }
      where
        at : (q : ℕ) (t : Bool) → eqb q k ≡ t → is_held (get_or (set h.table k 0) q 0) ≡ (has_item (items_of (without_member k b)) q || has_item (items_of (without_member k a)) q)
        at q true e =
            let same : q ≡ k = eqb-true q k e in
            ap (λ j. is_held (get_or (set h.table k 0) j 0)) same ∙ ap is_held (here h.table k 0 (held-within k there))
            ∙ sym (or_from (has_item (items_of (without_member k b)) k) (has_item (items_of (without_member k a)) k) (has_item-of (without_member k b) k ∙ has_member-gone k b) (has_item-of (without_member k a) k ∙ has_member-gone k a))
            ∙ ap (λ j. has_item (items_of (without_member k b)) j || has_item (items_of (without_member k a)) j) (sym same)
        at q false e =
            ap is_held (other h.table k 0 q e) ∙ is.are.known q
            ∙ ap (λ t. t || has_item (items_of a) q) (has_item-of b q ∙ sym (has_member-others k q b e) ∙ sym (has_item-of (without_member k b) q))
            ∙ ap (λ t. has_item (items_of (without_member k b)) q || t) (has_item-of a q ∙ sym (has_member-others k q a e) ∙ sym (has_item-of (without_member k a) q))

    module _ (new : Hand) (table : new.table ≡ set h.table k 0) (members : new.line.members ≡ without_member k h.line.members) (objects : new.line.objects ≡ h.line.objects) (next : new.next ≡ first_of h.line.objects (without_member k a)) where
      out-line : new.line.members ≡ without_member k b ++ without_member k a
      out-line = members ∙ ap (without_member k) (sym (parts-are h.next h.line.members)) ∙ members-but-append k b a

      out-each : length (set h.table k 0) ≡ new.line.objects
      out-each = length-set h.table k 0 ∙ is.each_object ∙ sym objects

      out-next : new.next ≡ first_of new.line.objects (without_member k a)
      out-next = next ∙ ap (λ n. first_of n (without_member k a)) (sym objects)

      pub out-hand : IsHand new
      out-hand = hand-is new (set h.table k 0) (without_member k b) (without_member k a) table out-line out-each out-held out-next

      out-cut : cut_at new ≡ cut_by (set h.table k 0) (items_of (without_member k b)) (items_of (without_member k a))
      out-cut = hand-cut new (set h.table k 0) (without_member k b) (without_member k a) table out-line out-each out-held out-next

      pub out-behind : (cut_at new).behind ≡ without_entry k (cut_at h).behind
      out-behind = ap (λ (c : Cut). c.behind) out-cut ∙ entries-but marked_entry (λ c p. refl) h.table k 0 b

      pub out-ahead : (cut_at new).ahead ≡ without_entry k (cut_at h).ahead
      out-ahead = ap (λ (c : Cut). c.ahead) out-cut ∙ entries-but marked_entry (λ c p. refl) h.table k 0 a

  -- the hand goes on from an object that leaves, if it was there
  pub goes-on-here : (k : ℕ) → h.next ≡ k → is_held (get_or h.table k 0) ≡ true → first_of h.line.objects (drop 1 a) ≡ first_of h.line.objects (without_member k a)
  goes-on-here k same there = at a refl
    where
      at : (ms : List Member) → a ≡ ms → first_of h.line.objects (drop 1 ms) ≡ first_of h.line.objects (without_member k ms)
      at [] e = refl
      at (m ∷ rest) e =
          let held : AreHeld h.table (items_of b) (items_of (m ∷ rest)) = subst (λ ms. AreHeld h.table (items_of b) (items_of ms)) e is.are in
          let here_is : m.object ≡ k = sym (is.next_is ∙ ap (first_of h.line.objects) e) ∙ same in
          let alone : has_member rest k ≡ false =
          ap (has_member rest) (sym here_is) ∙ sym (has_item-of rest m.object) ∙ (next-alone h.table (items_of b) (m.object, m.size) (items_of rest) held).1 in
          ap (first_of h.line.objects)
          (sym (members-but-none k rest alone) ∙ ap (λ t. cond (not t) (m ∷ without_member k rest) (without_member k rest)) (sym (eq-eqb m.object k here_is)))

  pub goes-on-there : (k : ℕ) → eqb h.next k ≡ false → h.next ≡ first_of h.line.objects (without_member k a)
  goes-on-there k other = is.next_is ∙ at a refl
    where
      at : (ms : List Member) → a ≡ ms → first_of h.line.objects ms ≡ first_of h.line.objects (without_member k ms)
      at [] e = refl
      at (m ∷ rest) e =
          let apart : eqb m.object k ≡ false = ap (λ j. eqb j k) (sym (is.next_is ∙ ap (first_of h.line.objects) e)) ∙ other in
          ap (λ t. first_of h.line.objects (cond (not t) (m ∷ without_member k rest) (without_member k rest))) (sym apart)

  -- ---- the hand begins again
  module _ (new : Hand) (table : new.table ≡ h.table) (line : new.line ≡ h.line) where
    again-all : a ≡ [] → h.line.members ≡ b
    again-all none = sym (parts-are h.next h.line.members) ∙ ap (λ ms. b ++ ms) none ∙ append-nil b

    again-held : a ≡ [] → AreHeld h.table [] (items_of b)
    again-held none =
        let held : AreHeld h.table (items_of b) [] = subst (λ ms. AreHeld h.table (items_of b) (items_of ms)) none is.are in
        record { apart = subst Apart (append-nil (marked h.table (items_of b))) held.apart; known = λ q. held.known q ∙ or_false (has_item (items_of b) q) }

    module _ (none : h.next ≡ h.line.objects) (next : new.next ≡ first_of h.line.objects h.line.members) where
      again-line : new.line.members ≡ [] ++ b
      again-line = ap (λ (l : Lined). l.members) line ∙ again-all (none-ahead none)

      again-each : length h.table ≡ new.line.objects
      again-each = is.each_object ∙ ap (λ (l : Lined). l.objects) (sym line)

      again-next : new.next ≡ first_of new.line.objects b
      again-next = next ∙ ap (first_of h.line.objects) (again-all (none-ahead none)) ∙ ap (λ (l : Lined). first_of l.objects b) (sym line)

      pub again-hand : IsHand new
      again-hand = hand-is new h.table [] b table again-line again-each (again-held (none-ahead none)) again-next

      pub again-cut : cut_at new ≡ begin_again (cut_at h).behind (cut_at h).ahead
      again-cut =
          hand-cut new h.table [] b table again-line again-each (again-held (none-ahead none)) again-next
          ∙ ap (λ ms. begin_again (cut_at h).behind (marked h.table (items_of ms))) (sym (none-ahead none))

  -- ---- a look
  pub none-look : h.next ≡ h.line.objects → begin_again (cut_at h).behind (cut_at h).ahead ≡ look (cut_at h)
  none-look none =
      ap (λ ms. begin_again (cut_at h).behind (marked h.table (items_of ms))) (none-ahead none) ∙ ap (λ ms. look (cut_by h.table (items_of b) (items_of ms))) (sym (none-ahead none))

  module _ (size : ℕ) (some : a ≡ member h.next size ∷ drop 1 a) where
    abbrev p : ℕ × ℕ
    p = (h.next, size)

    abbrev rest : List Member
    rest = drop 1 a

    some-held : AreHeld h.table (items_of b) (p ∷ items_of rest)
    some-held = subst (λ ms. AreHeld h.table (items_of b) (items_of ms)) some is.are

    pub there : is_held (get_or h.table h.next 0) ≡ true
    there = is_there h.table (items_of b) p (items_of rest) some-held

    -- a marked one is passed
    module _ (high : leb 2 (get_or h.table h.next 0) ≡ true) (new : Hand) (table : new.table ≡ set h.table h.next 1) (line : new.line ≡ h.line) (next : new.next ≡ first_of h.line.objects rest) where
      pass-line : new.line.members ≡ (b ++ member h.next size ∷ []) ++ rest
      pass-line =
          ap (λ (l : Lined). l.members) line ∙ sym (parts-are h.next h.line.members) ∙ ap (λ ms. b ++ ms) some ∙ sym (append_assoc b (member h.next size ∷ []) rest)

      pass-held : AreHeld (set h.table h.next 1) (items_of (b ++ member h.next size ∷ [])) (items_of rest)
      pass-held =
          subst (λ items. AreHeld (set h.table h.next 1) items (items_of rest)) (sym (items_of-append b (member h.next size ∷ [])))
          (passed-held h.table (items_of b) p (items_of rest) some-held high)

      pass-each : length (set h.table h.next 1) ≡ new.line.objects
      pass-each = length-set h.table h.next 1 ∙ is.each_object ∙ ap (λ (l : Lined). l.objects) (sym line)

      pass-next : new.next ≡ first_of new.line.objects rest
      pass-next = next ∙ ap (λ (l : Lined). first_of l.objects rest) (sym line)

      pub pass-hand : IsHand new
      pass-hand = hand-is new (set h.table h.next 1) (b ++ member h.next size ∷ []) rest table pass-line pass-each pass-held pass-next

      pub pass-cut : begin_again (cut_at new).behind (cut_at new).ahead ≡ look (cut_at h)
      pass-cut =
          ap (λ (c : Cut). begin_again c.behind c.ahead) (hand-cut new (set h.table h.next 1) (b ++ member h.next size ∷ []) rest table pass-line pass-each pass-held pass-next)
          ∙ ap (λ items. begin_again (marked (set h.table h.next 1) items) (marked (set h.table h.next 1) (items_of rest))) (items_of-append b (member h.next size ∷ []))
          ∙ passed-cut h.table (items_of b) p (items_of rest) some-held high
          ∙ ap (λ ms. look (cut_by h.table (items_of b) (items_of ms))) (sym some)

    -- another is given up
    pub dropped-cut : leb 2 (get_or h.table h.next 0) ≡ false → (new : Cut) → new.behind ≡ without_entry h.next (cut_at h).behind → new.ahead ≡ without_entry h.next (cut_at h).ahead → begin_again new.behind new.ahead ≡ look (cut_at h)
    dropped-cut low new behind ahead =
        let e : Entry = marked_entry (get_or h.table h.next 0) p in
        let alone : (has_item (items_of b) h.next ≡ false) × (has_item (items_of rest) h.next ≡ false) = next-alone h.table (items_of b) p (items_of rest) some-held in
        let first : List Entry = marked h.table (items_of b) in
        let later : List Entry = marked h.table (items_of rest) in
        ap (λ es. begin_again es new.ahead) (behind ∙ without-none h.next first (marked-items h.table (items_of b) h.next ∙ alone.0))
        ∙ ap (begin_again first)
        (ahead ∙ ap (λ ms. without_entry h.next (marked h.table (items_of ms))) some ∙ ap (λ t. cond (not t) (e ∷ without_entry h.next later) (without_entry h.next later)) (eq-eqb h.next h.next refl)
        ∙ without-none h.next later (marked-items h.table (items_of rest) h.next ∙ alone.1))
        ∙ ap (λ t. begin_again (cond t (first ++ unmarked e ∷ []) first) later) (sym low)
        ∙ ap (λ ms. look (cut_by h.table (items_of b) (items_of ms))) (sym some)

  -- ---- one comes in
  first-with : (none k size : ℕ) (ms : List Member) → first_of k ms ≡ first_of none (ms ++ member k size ∷ [])
  first-with none k size [] = refl
  first-with none k size (m ∷ more) = refl

  module _ (k size : ℕ) (within : k < length h.table) (absent : is_held (get_or h.table k 0) ≡ false) (new : Hand) (table : new.table ≡ set h.table k 1) (members : new.line.members ≡ h.line.members ++ member k size ∷ [])
      (objects : new.line.objects ≡ h.line.objects) (next : new.next ≡ first_of k a) where
    in-line : new.line.members ≡ b ++ (a ++ member k size ∷ [])
    in-line = members ∙ ap (λ ms. ms ++ member k size ∷ []) (sym (parts-are h.next h.line.members)) ∙ append_assoc b a (member k size ∷ [])

    in-held : AreHeld (set h.table k 1) (items_of b) (items_of (a ++ member k size ∷ []))
    in-held =
        subst (AreHeld (set h.table k 1) (items_of b)) (sym (items_of-append a (member k size ∷ []))) (came-held h.table (items_of b) (items_of a) is.are k size within absent)

    in-each : length (set h.table k 1) ≡ new.line.objects
    in-each = length-set h.table k 1 ∙ is.each_object ∙ sym objects

    in-next : new.next ≡ first_of new.line.objects (a ++ member k size ∷ [])
    in-next = next ∙ first-with new.line.objects k size a

    pub in-hand : IsHand new
    in-hand = hand-is new (set h.table k 1) b (a ++ member k size ∷ []) table in-line in-each in-held in-next

    pub in-cut : cut_at new ≡ come_in (marked_entry 1 (k, size)) (cut_at h)
    in-cut =
        hand-cut new (set h.table k 1) b (a ++ member k size ∷ []) table in-line in-each in-held in-next
        ∙ ap (cut_by (set h.table k 1) (items_of b)) (items_of-append a (member k size ∷ []))
        ∙ comes_in h.table (items_of b) (items_of a) is.are k size within absent

  -- an object that is not there leaves nothing
  pub none-leaves : (k : ℕ) → is_held (get_or h.table k 0) ≡ false → cut_at h ≡ record { behind = without_entry k (cut_at h).behind; ahead = without_entry k (cut_at h).ahead }
  none-leaves k none =
      let parts : (has_item (items_of b) k ≡ false) × (has_item (items_of a) k ≡ false) = or_parts _ _ (sym (is.are.known k) ∙ none) in
      let of : List Entry → List Entry → Cut = λ first rest. record { behind = first; ahead = rest } in
      ap (λ es. of es (cut_at h).ahead) (sym (without-none k (cut_at h).behind (marked-items h.table (items_of b) k ∙ parts.0)))
      ∙ ap (of (without_entry k (cut_at h).behind)) (sym (without-none k (cut_at h).ahead (marked-items h.table (items_of a) k ∙ parts.1)))

-- The three parts of a line, as objects come and leave.
use Rattle.std.proofs.Common.{◌≡◌, ℕ, ◌+◌, ◌<◌, ◌∙◌, sym, refl, ap, subst, Bool, true, false, not, ◌||◌, cond, eqb, List, [], ◌∷◌, ◌++◌, length, length-append, drop, get_or, set, append_assoc, arith}
use Rattle.std.proofs.lemmas.Bool.{eqb-true, eq-eqb, ne_eqb, or_parts, or_from, or_right, cond_both}
use Rattle.std.proofs.lemmas.List.{append-nil, length-set, length_push}
use Rattle.std.proofs.lemmas.List.Sums.{sum_by-append}
use Rattle.policy_model.specs.States.{Member, member, has_member, members_size}
use Rattle.policy_model.specs.Leaving.{without_member}
use Rattle.policy_model.proofs.Comparisons.{eqb-sym}
use Rattle.cache_model.proofs.Eligible.{or_false}
use Rattle.replay_queues.specs.Lines.{Lined, before_object, from_object, first_of}
use Rattle.replay_queues.specs.ThreeParts.{Parted, has_part, parts_without, parts_size, parts_count, parts_of, Once, begin_but, IsParts}
use Rattle.replay_queues.proofs.ItemLemmas.{here, other}
use Rattle.replay_queues.proofs.LineLemmas.{parts-are, cuts-here, members-but-none, members-but-append, has_member-append, has_member-gone, has_member-others}

-- ---- no object twice
pub once-back : (b a : List Member) → Once (b ++ a) → Once a
once-back [] a once = once
once-back (m ∷ b) a once = once-back b a once.1

pub once-middle : (b : List Member) (m : Member) (a : List Member) → Once (b ++ m ∷ a) → has_member b m.object ≡ false
once-middle [] m a once = refl
once-middle (x ∷ b) m a once =
    let parts : (has_member b x.object ≡ false) × ((eqb m.object x.object || has_member a x.object) ≡ false) = or_parts _ _ (sym (has_member-append b (m ∷ a) x.object) ∙ once.0) in
    or_from (eqb x.object m.object) (has_member b m.object) (eqb-sym x.object m.object ∙ (or_parts _ _ parts.1).0) (once-middle b m a once.1)

none-without : (k j : ℕ) (ms : List Member) → has_member ms j ≡ false → has_member (without_member k ms) j ≡ false
none-without k j [] none = none
none-without k j (m ∷ rest) none =
    let parts : (eqb m.object j ≡ false) × (has_member rest j ≡ false) = or_parts _ _ none in
    cond_both (not (eqb m.object k)) (m ∷ without_member k rest) (without_member k rest) (λ ms. has_member ms j ≡ false)
    (λ _. or_from (eqb m.object j) (has_member (without_member k rest) j) parts.0 (none-without k j rest parts.1)) (λ _. none-without k j rest parts.1)

once-without : (k : ℕ) (ms : List Member) → Once ms → Once (without_member k ms)
once-without k [] once = tt
once-without k (m ∷ rest) once =
    cond_both (not (eqb m.object k)) (m ∷ without_member k rest) (without_member k rest) Once
    (λ _. (none-without k m.object rest once.0, once-without k rest once.1)) (λ _. once-without k rest once.1)

has_member-insert : (b : List Member) (m : Member) (a : List Member) (q : ℕ) → has_member (b ++ m ∷ a) q ≡ (eqb m.object q || has_member (b ++ a) q)
has_member-insert [] m a q = refl
has_member-insert (x ∷ b) m a q = ap (λ t. eqb x.object q || t) (has_member-insert b m a q) ∙ swap (eqb x.object q) (eqb m.object q) (has_member (b ++ a) q)
  where
    swap : (r s t : Bool) → (r || (s || t)) ≡ (s || (r || t))
    swap true true t = refl
    swap true false t = refl
    swap false s t = refl

once-insert : (b : List Member) (m : Member) (a : List Member) → Once (b ++ a) → has_member (b ++ a) m.object ≡ false → Once (b ++ m ∷ a)
once-insert [] m a once absent = (absent, once)
once-insert (x ∷ b) m a once absent =
    let parts : (eqb x.object m.object ≡ false) × (has_member (b ++ a) m.object ≡ false) = or_parts _ _ absent in (
      has_member-insert b m a x.object ∙ or_from (eqb m.object x.object) (has_member (b ++ a) x.object) (eqb-sym m.object x.object ∙ parts.0) once.0,
      once-insert b m a once.1 parts.1,
    )

-- what the second part begins with is not in the first
pub begins-apart : (none : ℕ) (b a : List Member) → Once (b ++ a) → has_member (b ++ a) none ≡ false → has_member b (first_of none a) ≡ false
begins-apart none b [] once absent = (or_parts _ _ (sym (has_member-append b [] none) ∙ absent)).0
begins-apart none b (m ∷ a) once absent = once-middle b m a once

-- ---- a line of three parts
module _ (l : Lined) (main ghosts : ℕ) (s m g : List Member) (line : l.members ≡ s ++ (m ++ g)) (once : Once l.members) (none : has_member l.members l.objects ≡ false) (main_is : main ≡ first_of l.objects (m ++ g)) (ghosts_is : ghosts ≡ first_of l.objects g) where
  first-cut : (before_object main l.members ≡ s) × (from_object main l.members ≡ m ++ g)
  first-cut =
      let both : (before_object main (s ++ (m ++ g)) ≡ s) × (from_object main (s ++ (m ++ g)) ≡ m ++ g) =
      cuts-here l.objects main (m ++ g) (sym main_is) s (ap (has_member s) main_is ∙ begins-apart l.objects s (m ++ g) (subst Once line once) (ap (λ ms. has_member ms l.objects) (sym line) ∙ none)) in
      (ap (before_object main) line ∙ both.0, ap (from_object main) line ∙ both.1)

  later-none : has_member (m ++ g) l.objects ≡ false
  later-none = (or_parts _ _ (sym (has_member-append s (m ++ g) l.objects) ∙ ap (λ ms. has_member ms l.objects) (sym line) ∙ none)).1

  pub main-apart : has_member m ghosts ≡ false
  main-apart = ap (has_member m) ghosts_is ∙ begins-apart l.objects m g (once-back s (m ++ g) (subst Once line once)) later-none

  second-cut : (before_object ghosts (m ++ g) ≡ m) × (from_object ghosts (m ++ g) ≡ g)
  second-cut = cuts-here l.objects ghosts g (sym ghosts_is) m main-apart

  pub cut-parts : parts_of l main ghosts ≡ record { objects = l.objects; small = s; main = m; ghosts = g; room = l.room }
  cut-parts =
      let of : List Member → List Member → List Member → Parted = λ x y z. record { objects = l.objects; small = x; main = y; ghosts = z; room = l.room } in
      ap (λ x. of x (before_object ghosts (from_object main l.members)) (from_object ghosts (from_object main l.members))) first-cut.0
      ∙ ap (λ ms. of s (before_object ghosts ms) (from_object ghosts ms)) first-cut.1
      ∙ ap (λ y. of s y (from_object ghosts (m ++ g))) second-cut.0 ∙ ap (of s m) second-cut.1

  pub are-parts : (places : List ℕ) → length places ≡ l.objects → ((k : ℕ) → eqb (get_or places k 0) 1 ≡ has_member s k) → IsParts l main ghosts places
  are-parts places each small_is = record {
    once = once;
    none_apart = none;
    main_is = main_is ∙ ap (first_of l.objects) (sym first-cut.1);
    ghosts_is = ghosts_is ∙ ap (first_of l.objects) (sym second-cut.1) ∙ ap (λ ms. first_of l.objects (from_object ghosts ms)) (sym first-cut.1);
    each_object = each;
    small_is = λ k. small_is k ∙ ap (λ ms. has_member ms k) (sym first-cut.0);
  }

-- where a part begins once an object has left
begins-but : (l : Lined) (first k : ℕ) (b a : List Member) → l.members ≡ b ++ a → Once l.members → has_member l.members l.objects ≡ false → first ≡ first_of l.objects a → begin_but l first k ≡ first_of l.objects (without_member k a)
begins-but l first k b a line once none is = at (eqb first k) refl
  where
    cut : from_object first l.members ≡ a
    cut =
        ap (from_object first) line
        ∙ (cuts-here l.objects first a (sym is) b (ap (has_member b) is ∙ begins-apart l.objects b a (subst Once line once) (ap (λ ms. has_member ms l.objects) (sym line) ∙ none))).1

    here_is : (ms : List Member) → Once ms → k ≡ first_of l.objects ms → first_of l.objects (drop 1 ms) ≡ first_of l.objects (without_member k ms)
    here_is [] o e = refl
    here_is (m ∷ rest) o e =
        ap (first_of l.objects)
        (sym (members-but-none k rest (ap (has_member rest) e ∙ o.0)) ∙ ap (λ t. cond (not t) (m ∷ without_member k rest) (without_member k rest)) (sym (eq-eqb m.object k (sym e))))

    there_is : (ms : List Member) → first ≡ first_of l.objects ms → eqb first k ≡ false → first ≡ first_of l.objects (without_member k ms)
    there_is [] e differ = e
    there_is (m ∷ rest) e differ = e ∙ ap (λ t. first_of l.objects (cond (not t) (m ∷ without_member k rest) (without_member k rest))) (sym (ap (λ j. eqb j k) (sym e) ∙ differ))

    at : (t : Bool) → eqb first k ≡ t → begin_but l first k ≡ first_of l.objects (without_member k a)
    at true e =
        let same : first ≡ k = eqb-true first k e in
        ap (λ t. cond t (first_of l.objects (drop 1 (from_object k l.members))) first) e
        ∙ ap (λ j. first_of l.objects (drop 1 (from_object j l.members))) (sym same) ∙ ap (λ ms. first_of l.objects (drop 1 ms)) cut
        ∙ here_is a (once-back b a (subst Once line once)) (sym same ∙ is)
    at false e = ap (λ t. cond t (first_of l.objects (drop 1 (from_object k l.members))) first) e ∙ there_is a is e

-- ---- what holds of three parts
module _ (l : Lined) (main ghosts : ℕ) (places : List ℕ) (is : IsParts l main ghosts places) where
  abbrev q : Parted
  q = parts_of l main ghosts

  pub line-parts : l.members ≡ q.small ++ (q.main ++ q.ghosts)
  line-parts = sym (parts-are main l.members) ∙ ap (λ ms. q.small ++ ms) (sym (parts-are ghosts (from_object main l.members)))

  later-parts : from_object main l.members ≡ q.main ++ q.ghosts
  later-parts = sym (parts-are ghosts (from_object main l.members))

  pub main-first : main ≡ first_of l.objects (q.main ++ q.ghosts)
  main-first = is.main_is ∙ ap (first_of l.objects) later-parts

  pub has-parts : (k : ℕ) → has_part q k ≡ has_member l.members k
  has-parts k =
      ap (λ t. has_member q.small k || t) (sym (has_member-append q.main q.ghosts k)) ∙ sym (has_member-append q.small (q.main ++ q.ghosts) k) ∙ ap (λ ms. has_member ms k) (sym line-parts)

  pub size-parts : parts_size q ≡ members_size l.members
  size-parts =
      omega (
        arith,
        ap members_size line-parts,
        sum_by-append (λ (m : Member). m.size) q.small (q.main ++ q.ghosts),
        sum_by-append (λ (m : Member). m.size) q.main q.ghosts,
      )

  -- where the ghosts begin
  ghosts-cut : (before_object ghosts l.members ≡ q.small ++ q.main) × (from_object ghosts l.members ≡ q.ghosts)
  ghosts-cut =
      let parts : l.members ≡ (q.small ++ q.main) ++ q.ghosts = line-parts ∙ sym (append_assoc q.small q.main q.ghosts) in
      let both : (before_object ghosts ((q.small ++ q.main) ++ q.ghosts) ≡ q.small ++ q.main) × (from_object ghosts ((q.small ++ q.main) ++ q.ghosts) ≡ q.ghosts) =
      cuts-here l.objects ghosts q.ghosts (sym is.ghosts_is) (q.small ++ q.main)
      (ap (has_member (q.small ++ q.main)) is.ghosts_is ∙ begins-apart l.objects (q.small ++ q.main) q.ghosts (subst Once parts is.once) (ap (λ ms. has_member ms l.objects) (sym parts) ∙ is.none_apart)) in
      (ap (before_object ghosts) parts ∙ both.0, ap (from_object ghosts) parts ∙ both.1)

  pub ghosts-begin : ghosts ≡ first_of l.objects (from_object ghosts l.members)
  ghosts-begin = is.ghosts_is ∙ ap (first_of l.objects) (sym ghosts-cut.1)

  -- ---- one leaves
  module _ (k : ℕ) (new : Lined) (members : new.members ≡ without_member k l.members) (objects : new.objects ≡ l.objects) (room : new.room ≡ l.room) (main_after ghosts_after : ℕ) (main_is : main_after ≡ begin_but l main k) (ghosts_is : ghosts_after ≡ begin_but l ghosts k) where
    left-line : new.members ≡ without_member k q.small ++ (without_member k q.main ++ without_member k q.ghosts)
    left-line =
        members ∙ ap (without_member k) line-parts ∙ members-but-append k q.small (q.main ++ q.ghosts) ∙ ap (λ ms. without_member k q.small ++ ms) (members-but-append k q.main q.ghosts)

    left-once : Once new.members
    left-once = subst Once (sym members) (once-without k l.members is.once)

    left-none : has_member new.members new.objects ≡ false
    left-none = ap (has_member new.members) objects ∙ ap (λ ms. has_member ms l.objects) members ∙ none-without k l.objects l.members is.none_apart

    left-main : main_after ≡ first_of new.objects (without_member k q.main ++ without_member k q.ghosts)
    left-main =
        main_is ∙ begins-but l main k q.small (q.main ++ q.ghosts) line-parts is.once is.none_apart main-first ∙ ap (first_of l.objects) (members-but-append k q.main q.ghosts)
        ∙ ap (λ n. first_of n (without_member k q.main ++ without_member k q.ghosts)) (sym objects)

    left-ghosts : ghosts_after ≡ first_of new.objects (without_member k q.ghosts)
    left-ghosts =
        ghosts_is ∙ begins-but l ghosts k (q.small ++ q.main) q.ghosts (line-parts ∙ sym (append_assoc q.small q.main q.ghosts)) is.once is.none_apart is.ghosts_is
        ∙ ap (λ n. first_of n (without_member k q.ghosts)) (sym objects)

    pub left-parts : parts_of new main_after ghosts_after ≡ parts_without k q
    left-parts =
        cut-parts new main_after ghosts_after (without_member k q.small) (without_member k q.main) (without_member k q.ghosts) left-line left-once left-none left-main left-ghosts
        ∙ ap (λ n. record { objects = n; small = without_member k q.small; main = without_member k q.main; ghosts = without_member k q.ghosts; room = new.room }) objects
        ∙ ap (λ r. record { objects = l.objects; small = without_member k q.small; main = without_member k q.main; ghosts = without_member k q.ghosts; room = r }) room

    pub left-are : k < length places → IsParts new main_after ghosts_after (set places k 0)
    left-are within =
        are-parts new main_after ghosts_after (without_member k q.small) (without_member k q.main) (without_member k q.ghosts) left-line left-once left-none left-main left-ghosts (set places k 0)
        (length-set places k 0 ∙ is.each_object ∙ sym objects) (λ j. at j (eqb j k) refl)
      where
        at : (j : ℕ) (t : Bool) → eqb j k ≡ t → eqb (get_or (set places k 0) j 0) 1 ≡ has_member (without_member k q.small) j
        at j true e =
            let same : j ≡ k = eqb-true j k e in
            ap (λ i. eqb (get_or (set places k 0) i 0) 1) same ∙ ap (λ c. eqb c 1) (here places k 0 within) ∙ sym (has_member-gone k q.small) ∙ ap (has_member (without_member k q.small)) (sym same)
        at j false e = ap (λ c. eqb c 1) (other places k 0 j e) ∙ is.small_is j ∙ sym (has_member-others k j q.small e)

  -- ---- one comes in
  module _ (k size : ℕ) (absent : has_member l.members k ≡ false) (within : k < l.objects) where
    abbrev x : Member
    x = member k size

    not_none : eqb k l.objects ≡ false
    not_none = ne_eqb k l.objects (λ same. absurd (omega arith))

    module _ (new : Lined) (objects : new.objects ≡ l.objects) (b a : List Member) (parts : l.members ≡ b ++ a) (members : new.members ≡ b ++ x ∷ a) where
      in-once : Once new.members
      in-once = subst Once (sym members) (once-insert b x a (subst Once parts is.once) (ap (λ ms. has_member ms k) (sym parts) ∙ absent))

      in-none : has_member new.members new.objects ≡ false
      in-none =
          ap (has_member new.members) objects ∙ ap (λ ms. has_member ms l.objects) members ∙ has_member-insert b x a l.objects
          ∙ or_from (eqb k l.objects) (has_member (b ++ a) l.objects) not_none (ap (λ ms. has_member ms l.objects) (sym parts) ∙ is.none_apart)

    -- at the back of the small queue
    module _ (new : Lined) (objects : new.objects ≡ l.objects) (room : new.room ≡ l.room) (members : new.members ≡ before_object main l.members ++ x ∷ from_object main l.members) where
      small-line : new.members ≡ (q.small ++ x ∷ []) ++ (q.main ++ q.ghosts)
      small-line = members ∙ ap (λ ms. q.small ++ x ∷ ms) later-parts ∙ sym (append_assoc q.small (x ∷ []) (q.main ++ q.ghosts))

      small-main : main ≡ first_of new.objects (q.main ++ q.ghosts)
      small-main = main-first ∙ ap (λ n. first_of n (q.main ++ q.ghosts)) (sym objects)

      small-ghosts : ghosts ≡ first_of new.objects q.ghosts
      small-ghosts = is.ghosts_is ∙ ap (λ n. first_of n q.ghosts) (sym objects)

      small-once : Once new.members
      small-once = in-once new objects (before_object main l.members) (from_object main l.members) (sym (parts-are main l.members)) members

      small-none : has_member new.members new.objects ≡ false
      small-none = in-none new objects (before_object main l.members) (from_object main l.members) (sym (parts-are main l.members)) members

      pub pushed-small : parts_of new main ghosts ≡ record q { small = q.small ++ x ∷ [] }
      pushed-small =
          cut-parts new main ghosts (q.small ++ x ∷ []) q.main q.ghosts small-line small-once small-none small-main small-ghosts
          ∙ ap (λ n. record { objects = n; small = q.small ++ x ∷ []; main = q.main; ghosts = q.ghosts; room = new.room }) objects
          ∙ ap (λ r. record { objects = l.objects; small = q.small ++ x ∷ []; main = q.main; ghosts = q.ghosts; room = r }) room

      pub pushed-small-are : IsParts new main ghosts (set places k 1)
      pushed-small-are =
          are-parts new main ghosts (q.small ++ x ∷ []) q.main q.ghosts small-line small-once small-none small-main small-ghosts (set places k 1)
          (length-set places k 1 ∙ is.each_object ∙ sym objects) (λ j. at j (eqb j k) refl)
        where
          pushed : (j : ℕ) → has_member (q.small ++ x ∷ []) j ≡ (has_member q.small j || eqb k j)
          pushed j = has_member-append q.small (x ∷ []) j ∙ ap (λ t. has_member q.small j || t) (or_false (eqb k j))

          in_places : k < length places
          in_places = let each : length places ≡ l.objects = is.each_object in omega arith

          at : (j : ℕ) (t : Bool) → eqb j k ≡ t → eqb (get_or (set places k 1) j 0) 1 ≡ has_member (q.small ++ x ∷ []) j
          at j true e =
              let same : j ≡ k = eqb-true j k e in
              ap (λ i. eqb (get_or (set places k 1) i 0) 1) same ∙ ap (λ c. eqb c 1) (here places k 1 in_places)
              ∙ sym (pushed j ∙ or_right (has_member q.small j) (eqb k j) (eq-eqb k j (sym same)))
          at j false e =
              ap (λ c. eqb c 1) (other places k 1 j e) ∙ is.small_is j ∙ sym (or_false (has_member q.small j)) ∙ ap (λ t. has_member q.small j || t) (sym (eqb-sym k j ∙ e)) ∙ sym (pushed j)

    -- the places stay
    same_places : (new : Lined) → new.objects ≡ l.objects → length places ≡ new.objects
    same_places new objects = is.each_object ∙ sym objects

    -- at the back of the main queue
    module _ (new : Lined) (objects : new.objects ≡ l.objects) (room : new.room ≡ l.room) (members : new.members ≡ before_object ghosts l.members ++ x ∷ from_object ghosts l.members) (main_after : ℕ) (main_is : main_after ≡ cond (eqb main ghosts) k main) where
      main-line : new.members ≡ q.small ++ ((q.main ++ x ∷ []) ++ q.ghosts)
      main-line =
          members ∙ ap (λ ms. ms ++ x ∷ from_object ghosts l.members) ghosts-cut.0 ∙ ap (λ ms. (q.small ++ q.main) ++ x ∷ ms) ghosts-cut.1
          ∙ append_assoc q.small q.main (x ∷ q.ghosts) ∙ ap (λ ms. q.small ++ ms) (sym (append_assoc q.main (x ∷ []) q.ghosts))

      main-begins : main_after ≡ first_of new.objects ((q.main ++ x ∷ []) ++ q.ghosts)
      main-begins = main_is ∙ at q.main main-first (main-apart l main ghosts q.small q.main q.ghosts line-parts is.once is.none_apart main-first is.ghosts_is) ∙ ap (λ n. first_of n ((q.main ++ x ∷ []) ++ q.ghosts)) (sym objects)
        where
          at : (ms : List Member) → main ≡ first_of l.objects (ms ++ q.ghosts) → has_member ms ghosts ≡ false → cond (eqb main ghosts) k main ≡ first_of l.objects ((ms ++ x ∷ []) ++ q.ghosts)
          at [] first apart = ap (λ t. cond t k main) (eq-eqb main ghosts (first ∙ sym is.ghosts_is))
          at (m ∷ rest) first apart =
              ap (λ t. cond t k main) (ap (λ j. eqb j ghosts) first ∙ (or_parts _ _ apart).0) ∙ first

      main-ghosts : ghosts ≡ first_of new.objects q.ghosts
      main-ghosts = is.ghosts_is ∙ ap (λ n. first_of n q.ghosts) (sym objects)

      main-once : Once new.members
      main-once = in-once new objects (before_object ghosts l.members) (from_object ghosts l.members) (sym (parts-are ghosts l.members)) members

      main-none : has_member new.members new.objects ≡ false
      main-none = in-none new objects (before_object ghosts l.members) (from_object ghosts l.members) (sym (parts-are ghosts l.members)) members

      pub pushed-main : parts_of new main_after ghosts ≡ record q { main = q.main ++ x ∷ [] }
      pushed-main =
          cut-parts new main_after ghosts q.small (q.main ++ x ∷ []) q.ghosts main-line main-once main-none main-begins main-ghosts
          ∙ ap (λ n. record { objects = n; small = q.small; main = q.main ++ x ∷ []; ghosts = q.ghosts; room = new.room }) objects
          ∙ ap (λ r. record { objects = l.objects; small = q.small; main = q.main ++ x ∷ []; ghosts = q.ghosts; room = r }) room

      pub pushed-main-are : IsParts new main_after ghosts places
      pushed-main-are =
          are-parts new main_after ghosts q.small (q.main ++ x ∷ []) q.ghosts main-line main-once main-none main-begins main-ghosts places (same_places new objects) is.small_is

    -- at the back of the ghosts
    module _ (new : Lined) (objects : new.objects ≡ l.objects) (room : new.room ≡ l.room) (members : new.members ≡ l.members ++ x ∷ []) (main_after ghosts_after : ℕ) (main_is : main_after ≡ cond (eqb main l.objects) k main) (ghosts_is : ghosts_after ≡ cond (eqb ghosts l.objects) k ghosts) where
      ghost-line : new.members ≡ q.small ++ (q.main ++ (q.ghosts ++ x ∷ []))
      ghost-line =
          members ∙ ap (λ ms. ms ++ x ∷ []) line-parts ∙ append_assoc q.small (q.main ++ q.ghosts) (x ∷ []) ∙ ap (λ ms. q.small ++ ms) (append_assoc q.main q.ghosts (x ∷ []))

      -- the first of what comes to end with it
      begins-with : (first : ℕ) (ms : List Member) → first ≡ first_of l.objects ms → has_member ms l.objects ≡ false → cond (eqb first l.objects) k first ≡ first_of l.objects (ms ++ x ∷ [])
      begins-with first [] e apart = ap (λ t. cond t k first) (eq-eqb first l.objects e)
      begins-with first (m ∷ rest) e apart = ap (λ t. cond t k first) (ap (λ j. eqb j l.objects) e ∙ (or_parts _ _ apart).0) ∙ e

      no_later : (has_member q.small l.objects ≡ false) × (has_member (q.main ++ q.ghosts) l.objects ≡ false)
      no_later = or_parts _ _ (sym (has_member-append q.small (q.main ++ q.ghosts) l.objects) ∙ ap (λ ms. has_member ms l.objects) (sym line-parts) ∙ is.none_apart)

      ghost-main : main_after ≡ first_of new.objects (q.main ++ (q.ghosts ++ x ∷ []))
      ghost-main =
          main_is ∙ begins-with main (q.main ++ q.ghosts) main-first no_later.1 ∙ ap (first_of l.objects) (append_assoc q.main q.ghosts (x ∷ []))
          ∙ ap (λ n. first_of n (q.main ++ (q.ghosts ++ x ∷ []))) (sym objects)

      ghost-ghosts : ghosts_after ≡ first_of new.objects (q.ghosts ++ x ∷ [])
      ghost-ghosts =
          ghosts_is ∙ begins-with ghosts q.ghosts is.ghosts_is (or_parts _ _ (sym (has_member-append q.main q.ghosts l.objects) ∙ no_later.1)).1 ∙ ap (λ n. first_of n (q.ghosts ++ x ∷ [])) (sym objects)

      ghost-once : Once new.members
      ghost-once = in-once new objects l.members [] (sym (append-nil l.members)) members

      ghost-none : has_member new.members new.objects ≡ false
      ghost-none = in-none new objects l.members [] (sym (append-nil l.members)) members

      pub pushed-ghost : parts_of new main_after ghosts_after ≡ record q { ghosts = q.ghosts ++ x ∷ [] }
      pushed-ghost =
          cut-parts new main_after ghosts_after q.small q.main (q.ghosts ++ x ∷ []) ghost-line ghost-once ghost-none ghost-main ghost-ghosts
          ∙ ap (λ n. record { objects = n; small = q.small; main = q.main; ghosts = q.ghosts ++ x ∷ []; room = new.room }) objects
          ∙ ap (λ r. record { objects = l.objects; small = q.small; main = q.main; ghosts = q.ghosts ++ x ∷ []; room = r }) room

      pub pushed-ghost-are : IsParts new main_after ghosts_after places
      pushed-ghost-are =
          are-parts new main_after ghosts_after q.small q.main (q.ghosts ++ x ∷ []) ghost-line ghost-once ghost-none ghost-main ghost-ghosts places (same_places new objects) is.small_is

-- ---- how many members there are
pub count-cut : (l : Lined) (main ghosts : ℕ) → parts_count (parts_of l main ghosts) ≡ length l.members
count-cut l main ghosts =
    omega (
      arith,
      ap length (parts-are main l.members),
      length-append (before_object main l.members) (from_object main l.members),
      ap length (parts-are ghosts (from_object main l.members)),
      length-append (before_object ghosts (from_object main l.members)) (from_object ghosts (from_object main l.members)),
    )

pub count-main : (q : Parted) (m : Member) → parts_count (record q { main = q.main ++ m ∷ [] }) ≡ parts_count q + 1
count-main q m = omega (arith, length_push q.main m)

pub count-ghosts : (q : Parted) (m : Member) → parts_count (record q { ghosts = q.ghosts ++ m ∷ [] }) ≡ parts_count q + 1
count-ghosts q m = omega (arith, length_push q.ghosts m)

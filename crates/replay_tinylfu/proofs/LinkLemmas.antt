-- The ring of marks and objects, as one is put in or taken out.
use Rattle.std.proofs.Common.{◌≡◌, ℕ, ◌+◌, ◌<◌, ◌∙◌, sym, refl, ap, subst, Bool, true, false, ◌||◌, cond, eqb, List, [], ◌∷◌, ◌++◌, length, arith}
use Rattle.std.proofs.lemmas.Bool.{eqb-true, eq-eqb, ne_eqb, or_left, or_parts, or_right}
use Rattle.policy_model.proofs.Comparisons.{eqb-sym}
use Rattle.linked_nodes.specs.declared.nodes.Node.{Node}
use Rattle.linked_nodes.specs.Nodes.{node_at, IsThere, Joins}
use Rattle.replay_queues.specs.Rings.{is_among, Distinct, Links}
use Rattle.replay_queues.proofs.RingLemmas.{after, before, without, differs, Links-but, Links-other, after-here, after-other, before-here, before-other, before-among, after-among, last-beside, takes_last, goes_on, taken_out}
use Rattle.replay_queues.proofs.GhostAnswers.{distinct-without, more-among, without-gone}
use Rattle.replay_tinylfu.specs.Marks.{up_to, past, put_in, PutsBefore, TakesOut}
use Rattle.replay_tinylfu.specs.Queues.{window_of, main_numbers, probation_of, protected_of}
use Rattle.replay_tinylfu.specs.Loads.{IsRing}
use Rattle.replay_tinylfu.proofs.MarkLemmas.{among-up_to, among-past, whole-past, past-up_to, among-put, among-kept, distinct-put, put-last, up_to-put, past-put, up_to-later, past-later, up_to-without, past-without, among-without}

-- a node is put before a mark that is there
pub Links-put : (old new : List Node) (k mark : ℕ) (puts : PutsBefore old new k mark) (first : ℕ) (numbers : List ℕ) (last : ℕ)
    → Distinct numbers → is_among numbers mark ≡ true → is_among numbers k ≡ false → is_among numbers first ≡ false → eqb first k ≡ false → eqb last k ≡ false → is_among numbers last ≡ false
    → Links old first numbers last → Links new first (put_in mark k numbers) last
Links-put old new k mark puts first [] last apart there no_k no_first of_first of_last no_last l = cc
Links-put old new k mark puts first (j ∷ rest) last apart there no_k no_first of_first of_last no_last l = at (eqb j mark) refl (Links-put old new k mark puts j rest last apart.1)
  where
    ks : (eqb j k ≡ false) × (is_among rest k ≡ false)
    ks = or_parts _ _ no_k

    firsts : (eqb j first ≡ false) × (is_among rest first ≡ false)
    firsts = or_parts _ _ no_first

    lasts : (eqb j last ≡ false) × (is_among rest last ≡ false)
    lasts = or_parts _ _ no_last

    at : (t : Bool) → eqb j mark ≡ t
        → (is_among rest mark ≡ true → is_among rest k ≡ false → is_among rest j ≡ false → eqb j k ≡ false → eqb last k ≡ false → is_among rest last ≡ false → Links old j rest last → Links new j (put_in mark k rest) last)
        → Links new first (cond (eqb j mark) (k ∷ j ∷ rest) (j ∷ put_in mark k rest)) last
    at true is more =
        let same : j ≡ mark = eqb-true j mark is in
        let here : before old mark ≡ first = ap (before old) (sym same) ∙ l.1 in
        let join : Joins old puts.mid first k = subst (λ b. Joins old puts.mid b k) here puts.first_join in
        let then : Joins puts.mid new k j = subst (Joins puts.mid new k) (sym same) puts.second_join in
        subst (λ b. Links new first (cond b (k ∷ j ∷ rest) (j ∷ put_in mark k rest)) last) (sym is) (
          after-other puts.mid new k j then first of_first ∙ after-here old puts.mid first k join first refl,
          before-other puts.mid new k j then k (eqb-sym k j ∙ ks.0) ∙ before-here old puts.mid first k join k refl,
          (
            after-here puts.mid new k j then k refl,
            before-here puts.mid new k j then j refl,
            Links-other puts.mid new k j then j rest last ks.0 ks.1 apart.0 (eqb-sym last j ∙ lasts.0)
                (Links-other old puts.mid first k join j rest last firsts.0 firsts.1 ks.1 of_last l.2),
          ),
        )
    at false is more =
        let later : is_among rest mark ≡ true = ap (λ b. b || is_among rest mark) (sym is) ∙ there in
        let not_first : eqb first (before old mark) ≡ false = differs first (before old mark) (j ∷ rest) no_first (before-among old j rest last mark l.2 later) in
        subst (λ b. Links new first (cond b (k ∷ j ∷ rest) (j ∷ put_in mark k rest)) last) (sym is) (
          after-other puts.mid new k mark puts.second_join first of_first ∙ after-other old puts.mid (before old mark) k puts.first_join first not_first ∙ l.0,
          before-other puts.mid new k mark puts.second_join j is ∙ before-other old puts.mid (before old mark) k puts.first_join j ks.0 ∙ l.1,
          more later ks.1 apart.0 ks.0 of_last lasts.1 l.2,
        )

-- what is not in a ring isn't a mark
module _ (nodes : List Node) (none : ℕ) (numbers : List ℕ) (ring : IsRing nodes none numbers) where
  pub not_second : (k : ℕ) → k < none → eqb k (none + 1) ≡ false
  not_second k low = ne_eqb k (none + 1) (λ same. absurd (omega arith))

  pub not_third : (k : ℕ) → k < none → eqb k (none + 2) ≡ false
  not_third k low = ne_eqb k (none + 2) (λ same. absurd (omega arith))

  pub not_first : (k : ℕ) → k < none → eqb none k ≡ false
  not_first k low = ne_eqb none k (λ same. absurd (omega arith))

  beside : (k : ℕ) → is_among (none ∷ numbers) k ≡ true → k < none + 3
  beside k there = at (eqb none k) refl
    where
      at : (t : Bool) → eqb none k ≡ t → k < none + 3
      at true is = let same : none ≡ k = eqb-true none k is in omega arith
      at false is = ring.below k (ap (λ t. t || is_among numbers k) (sym is) ∙ there)

  pub before-within : (k : ℕ) → is_among numbers k ≡ true → before nodes k < length nodes
  before-within k there = let low : before nodes k < none + 3 = beside (before nodes k) (before-among nodes none numbers none k ring.linked there) in omega (arith, ring.each_node)

  pub after-within : (k : ℕ) → is_among numbers k ≡ true → after nodes k < length nodes
  after-within k there = let low : after nodes k < none + 3 = beside (after nodes k) (after-among nodes none numbers none k ring.linked there) in omega (arith, ring.each_node)

  pub last-within : before nodes none < length nodes
  last-within = let low : before nodes none < none + 3 = beside (before nodes none) (last-beside nodes none numbers none ring.linked) in omega (arith, ring.each_node)

  pub third-there : is_among numbers (none + 2) ≡ true
  third-there = whole-past (none + 1) (none + 2) numbers ring.third_mark

  -- where all nodes but one are as they were, which is not in it
  pub ring-but : (new : List Node) (k : ℕ) → k < none → is_among numbers k ≡ false → length new ≡ length nodes → ((q : ℕ) → eqb q k ≡ false → node_at new q ≡ node_at nodes q) → IsRing new none numbers
  ring-but new k low absent long same = record {
    few = ring.few;
    each_node = long ∙ ring.each_node;
    linked = Links-but nodes new k same none numbers none (not_first k low) absent (not_first k low) ring.linked;
    apart = ring.apart;
    first_apart = ring.first_apart;
    below = ring.below;
    second_mark = ring.second_mark;
    third_mark = ring.third_mark;
  }

  -- which nodes are there
  after-first : after nodes none < none + 3
  after-first = at numbers ring.linked ring.below
    where
      at : (ks : List ℕ) → Links nodes none ks none → ((k : ℕ) → is_among ks k ≡ true → k < none + 3) → after nodes none < none + 3
      at [] linked below = let is : after nodes none ≡ none = linked.0 in omega arith
      at (j ∷ rest) linked below =
          let is : after nodes none ≡ j = linked.0 in
          let low : j < none + 3 = below j (or_left (eqb j j) (is_among rest j) (eq-eqb j j refl)) in
          omega arith

  pub ring-there : (k : ℕ) → is_among (none ∷ numbers) k ≡ true → IsThere nodes k
  ring-there k there =
      (let low : k < none + 3 = beside k there in omega (arith, ring.each_node), at (eqb none k) refl)
    where
      at : (t : Bool) → eqb none k ≡ t → after nodes k < length nodes
      at true e = let low : after nodes k < none + 3 = subst (λ j. after nodes j < none + 3) (eqb-true none k e) after-first in omega (arith, ring.each_node)
      at false e = after-within k (ap (λ t. t || is_among numbers k) (sym e) ∙ there)

  pub among-there : (k : ℕ) → is_among numbers k ≡ true → IsThere nodes k
  among-there k there = ring-there k (or_right (eqb none k) (is_among numbers k) there)

  pub first-there : IsThere nodes none
  first-there = ring-there none (or_left (eqb none none) (is_among numbers none) (eq-eqb none none refl))

  pub before-there : (k : ℕ) → is_among numbers k ≡ true → IsThere nodes (before nodes k)
  before-there k there = ring-there (before nodes k) (before-among nodes none numbers none k ring.linked there)

  pub after-there : (k : ℕ) → is_among numbers k ≡ true → IsThere nodes (after nodes k)
  after-there k there = ring-there (after nodes k) (after-among nodes none numbers none k ring.linked there)

  pub last-there : IsThere nodes (before nodes none)
  last-there = ring-there (before nodes none) (last-beside nodes none numbers none ring.linked)

  -- ---- one is taken out
  module _ (k : ℕ) (low : k < none) where
    pub window-less : window_of none (without k numbers) ≡ without k (window_of none numbers)
    window-less = up_to-without (none + 1) k (not_second k low) numbers

    main-less : main_numbers none (without k numbers) ≡ without k (main_numbers none numbers)
    main-less = past-without (none + 1) k (not_second k low) numbers

    pub probation-less : probation_of none (without k numbers) ≡ without k (probation_of none numbers)
    probation-less = ap (up_to (none + 2)) main-less ∙ up_to-without (none + 2) k (not_third k low) (main_numbers none numbers)

    pub protected-less : protected_of none (without k numbers) ≡ without k (protected_of none numbers)
    protected-less = ap (past (none + 2)) main-less ∙ past-without (none + 2) k (not_third k low) (main_numbers none numbers)

    pub ring-less : (new : List Node) → is_among numbers k ≡ true → TakesOut nodes new k → IsRing new none (without k numbers)
    ring-less new there takes = record {
      few = ring.few;
      each_node = takes.leaves.nodes_stay ∙ takes.joins.nodes_stay ∙ ring.each_node;
      linked = Links-but takes.mid new k takes.leaves.others_stay none (without k numbers) none (not_first k low) (without-gone k numbers) (not_first k low)
          (taken_out nodes takes.mid k none numbers none takes.joins ring.apart there ring.first_apart ring.first_apart ring.linked);
      apart = distinct-without k numbers ring.apart;
      first_apart = among-without k none numbers (eqb-sym k none ∙ not_first k low) ∙ ring.first_apart;
      below = λ q h. ring.below q (more-among k q numbers h);
      second_mark = among-without k (none + 1) numbers (not_second k low) ∙ ring.second_mark;
      third_mark = ap (λ ks. is_among ks (none + 2)) main-less ∙ among-without k (none + 2) (main_numbers none numbers) (not_third k low) ∙ ring.third_mark;
    }

  -- ---- one is put in
  module _ (k : ℕ) (low : k < none) (absent : is_among numbers k ≡ false) where
    put-below : (mark q : ℕ) → is_among (put_in mark k numbers) q ≡ true → q < none + 3
    put-below mark q there = at (eqb k q) refl (is_among numbers q) refl
      where
        at : (t : Bool) → eqb k q ≡ t → (u : Bool) → is_among numbers q ≡ u → q < none + 3
        at true is u _ = let same : k ≡ q = eqb-true k q is in omega arith
        at false is true h = ring.below q h
        at false is false h = let clash : true ≡ false = sym there ∙ among-put mark k q numbers h is in cc

    third_after : is_among (window_of none numbers) (none + 2) ≡ false
    third_after = past-up_to (none + 1) (none + 2) numbers ring.apart ring.third_mark

    first_after : is_among (window_of none numbers) none ≡ false
    first_after = among-up_to (none + 1) none numbers ring.first_apart

    differ : (a b : ℕ) → a < b → eqb a b ≡ false
    differ a b less = ne_eqb a b (λ same. absurd (omega arith))

    -- at the back of the window
    pub window-window : window_of none (put_in (none + 1) k numbers) ≡ window_of none numbers ++ k ∷ []
    window-window = up_to-put (none + 1) k numbers (not_second k low)

    window-main : main_numbers none (put_in (none + 1) k numbers) ≡ main_numbers none numbers
    window-main = past-put (none + 1) k numbers (not_second k low)

    pub window-probation : probation_of none (put_in (none + 1) k numbers) ≡ probation_of none numbers
    window-probation = ap (up_to (none + 2)) window-main

    pub window-protected : protected_of none (put_in (none + 1) k numbers) ≡ protected_of none numbers
    window-protected = ap (past (none + 2)) window-main

    -- at the back of those on probation
    third_differs : eqb (none + 1) (none + 2) ≡ false
    third_differs = differ (none + 1) (none + 2) (omega arith)

    pub probation-window : window_of none (put_in (none + 2) k numbers) ≡ window_of none numbers
    probation-window = up_to-later (none + 1) (none + 2) k third_differs numbers ring.second_mark third_after

    probation-main : main_numbers none (put_in (none + 2) k numbers) ≡ put_in (none + 2) k (main_numbers none numbers)
    probation-main = past-later (none + 1) (none + 2) k third_differs numbers ring.second_mark third_after

    pub probation-probation : probation_of none (put_in (none + 2) k numbers) ≡ probation_of none numbers ++ k ∷ []
    probation-probation = ap (up_to (none + 2)) probation-main ∙ up_to-put (none + 2) k (main_numbers none numbers) (not_third k low)

    pub probation-protected : protected_of none (put_in (none + 2) k numbers) ≡ protected_of none numbers
    probation-protected = ap (past (none + 2)) probation-main ∙ past-put (none + 2) k (main_numbers none numbers) (not_third k low)

    -- at the back of the protected ones
    second_first : eqb (none + 1) none ≡ false
    second_first = ne_eqb (none + 1) none (λ same. absurd (omega arith))

    third_first : eqb (none + 2) none ≡ false
    third_first = ne_eqb (none + 2) none (λ same. absurd (omega arith))

    pub protected-window : window_of none (put_in none k numbers) ≡ window_of none numbers
    protected-window = up_to-later (none + 1) none k second_first numbers ring.second_mark first_after

    protected-main : main_numbers none (put_in none k numbers) ≡ put_in none k (main_numbers none numbers)
    protected-main = past-later (none + 1) none k second_first numbers ring.second_mark first_after

    main_first : is_among (main_numbers none numbers) none ≡ false
    main_first = among-past (none + 1) none numbers ring.first_apart

    pub protected-probation : probation_of none (put_in none k numbers) ≡ probation_of none numbers
    protected-probation = ap (up_to (none + 2)) protected-main ∙ up_to-later (none + 2) none k third_first (main_numbers none numbers) ring.third_mark (among-up_to (none + 2) none (main_numbers none numbers) main_first)

    pub protected-protected : protected_of none (put_in none k numbers) ≡ protected_of none numbers ++ k ∷ []
    protected-protected =
        ap (past (none + 2)) protected-main ∙ past-later (none + 2) none k third_first (main_numbers none numbers) ring.third_mark (among-up_to (none + 2) none (main_numbers none numbers) main_first)
        ∙ put-last none k (protected_of none numbers) (among-past (none + 2) none (main_numbers none numbers) main_first)

    module _ (new : List Node) where
      put-first_apart : (mark : ℕ) → is_among (put_in mark k numbers) none ≡ false
      put-first_apart mark = among-put mark k none numbers ring.first_apart (eqb-sym k none ∙ not_first k low)

      nodes-stay : (mark : ℕ) → PutsBefore nodes new k mark → length new ≡ none + 3
      nodes-stay mark puts = puts.second_join.nodes_stay ∙ puts.first_join.nodes_stay ∙ ring.each_node

      links-at : (mark : ℕ) → is_among numbers mark ≡ true → PutsBefore nodes new k mark → Links new none (put_in mark k numbers) none
      links-at mark there puts = Links-put nodes new k mark puts none numbers none ring.apart there absent ring.first_apart (not_first k low) (not_first k low) ring.first_apart ring.linked

      pub ring-window : PutsBefore nodes new k (none + 1) → IsRing new none (put_in (none + 1) k numbers)
      ring-window puts = record {
        few = ring.few;
        each_node = nodes-stay (none + 1) puts;
        linked = links-at (none + 1) ring.second_mark puts;
        apart = distinct-put (none + 1) k numbers ring.apart absent;
        first_apart = put-first_apart (none + 1);
        below = put-below (none + 1);
        second_mark = among-kept (none + 1) k (none + 1) numbers ring.second_mark;
        third_mark = ap (λ ks. is_among ks (none + 2)) window-main ∙ ring.third_mark;
      }

      pub ring-probation : PutsBefore nodes new k (none + 2) → IsRing new none (put_in (none + 2) k numbers)
      ring-probation puts = record {
        few = ring.few;
        each_node = nodes-stay (none + 2) puts;
        linked = links-at (none + 2) third-there puts;
        apart = distinct-put (none + 2) k numbers ring.apart absent;
        first_apart = put-first_apart (none + 2);
        below = put-below (none + 2);
        second_mark = among-kept (none + 2) k (none + 1) numbers ring.second_mark;
        third_mark = ap (λ ks. is_among ks (none + 2)) probation-main ∙ among-kept (none + 2) k (none + 2) (main_numbers none numbers) ring.third_mark;
      }

      pub ring-protected : PutsBefore nodes new k none → IsRing new none (put_in none k numbers)
      ring-protected puts = record {
        few = ring.few;
        each_node = nodes-stay none puts;
        linked = subst (λ ks. Links new none ks none) (sym (put-last none k numbers ring.first_apart))
            (goes_on puts.mid new k none none numbers puts.second_join (not_first k low) (not_first k low) absent ring.first_apart
            (takes_last nodes puts.mid k none none numbers puts.first_join ring.apart ring.first_apart absent ring.linked));
        apart = distinct-put none k numbers ring.apart absent;
        first_apart = put-first_apart none;
        below = put-below none;
        second_mark = among-kept none k (none + 1) numbers ring.second_mark;
        third_mark = ap (λ ks. is_among ks (none + 2)) protected-main ∙ among-kept none k (none + 2) (main_numbers none numbers) ring.third_mark;
      }

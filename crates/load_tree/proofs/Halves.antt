-- What an addition makes of a tree: to two halves, one after the other.
use Rattle.std.proofs.Common.{◌≡◌, ◌≢◌, ℕ, suc, ◌+◌, ◌-◌, ◌/◌, ◌<◌, ◌≤◌, ◌^◌, ◌∙◌, sym, refl, ap, subst, List, [], ◌∷◌, ◌++◌, length, set, take, drop, arith, All}
use Rattle.std.specs.Prelude.{min, max, slice_range}
use Rattle.std.proofs.lemmas.List.{append-nil, append_assoc, length-append, length-take, length-drop, take_at, drop_at, take_all, drop_all}
use Rattle.std.proofs.lemmas.Slice.{take-put_mid, drop-put_mid}
use borrow.Rule.Slice.PartMut.{put_mid}
use Rattle.load_tree.specs.declared.tree.Node.{Node}
use Rattle.load_tree.specs.Ranges.{AddsOver, HasRoom, IsGreatest}
use Rattle.load_tree.specs.Trees.{IsMostOver, IsTree, loads_of, lower, upper, left, right, root, raised, nodes_of}
use Rattle.load_tree.proofs.Joining
use Rattle.load_tree.proofs.Adding.{small_after}

root_first : (nodes zs : List Node) → 0 < length nodes → root (take 1 nodes ++ zs) ≡ root nodes
root_first [] zs some = absurd (omega arith)
root_first (x ∷ nodes) zs some = refl

-- both halves of a list are written anew, behind its first element
put_both : {X : Type 0} (xs ls rs : List X) (h : ℕ) → 0 < length xs → length ls ≡ 1 + h - 1
    → put_mid (1 + h) (length (put_mid 1 (1 + h - 1) xs ls) - (1 + h)) (put_mid 1 (1 + h - 1) xs ls) rs ≡ take 1 xs ++ (ls ++ rs)
put_both xs ls rs h some each =
    let first = put_mid 1 (1 + h - 1) xs ls in
    let rest : drop (length first - (1 + h)) (drop (1 + h) first) ≡ [] = drop_all (length first - (1 + h)) (drop (1 + h) first) (omega (arith, length-drop (1 + h) first)) in
    ap (λ zs. take (1 + h) first ++ (rs ++ zs)) rest
    ∙ ap (λ zs. take (1 + h) first ++ zs) (append-nil rs)
    ∙ ap (λ zs. zs ++ rs) (take-put_mid 1 (1 + h - 1) xs ls (1 + h) (omega arith) (omega arith))
    ∙ append_assoc (take 1 xs) ls rs

set_first : {X : Type 0} (xs zs : List X) (y : X) → 0 < length xs → set (take 1 xs ++ zs) 0 y ≡ y ∷ zs
set_first [] zs y some = absurd (omega arith)
set_first (x ∷ xs) zs y some = refl

module _ (height : ℕ) (nodes : List Node) (loads : List ℕ) (high : height ≢ 0) (tree : IsTree height nodes loads) (from to amount from1 to1 from2 to2 : ℕ)
    (from1_is : from1 ≡ min from (length loads / 2)) (to1_is : to1 ≡ min to (length loads / 2)) (from2_is : from2 ≡ from - length loads / 2) (to2_is : to2 ≡ to - length loads / 2) where
  abbrev low : List ℕ
  low = loads_of (height - 1) (left nodes) (lower loads)

  abbrev up : List ℕ
  up = loads_of (height - 1) (right nodes) (upper loads)

  fork : Joining.IsFork height nodes loads
  fork = Joining.fork_from_tree height nodes loads high tree

  length-low : length low ≡ length loads / 2
  length-low = Joining.length-loads_of (height - 1) (left nodes) (lower loads) ∙ Joining.length-lower loads

  length-up : length up ≡ length loads - length loads / 2
  length-up = Joining.length-loads_of (height - 1) (right nodes) (upper loads) ∙ Joining.length-upper loads

  half_is : length nodes / 2 ≡ nodes_of (height - 1)
  half_is = omega (arith, fork.nodes_are)

  -- what a call on the left half asks
  pub left_ready : All (λ load. load ≤ 2 ^ 100) (loads_of height nodes loads) → HasRoom (loads_of height nodes loads) from to amount
      → IsTree (height - 1) (left nodes) (lower loads) × (All (λ load. load ≤ 2 ^ 100) low × ((to1 ≤ length (lower loads)) × HasRoom low from1 to1 amount))
  left_ready small room = (
    fork.first,
    (
      Joining.small_lower height nodes loads high small,
      (
        omega (arith, to1_is, Joining.length-lower loads),
        λ t after before. Joining.room_lower height nodes loads high from to amount room t (omega (arith, from1_is)) (omega (arith, to1_is)),
      ),
    ),
  )

  module _ (ls : List Node) (bottom : List ℕ) (ls_tree : IsTree (height - 1) ls bottom) (ls_adds : AddsOver low (loads_of (height - 1) ls bottom) from1 to1 amount) where
    abbrev first_nodes : List Node
    first_nodes = put_mid 1 (1 + length nodes / 2 - 1) nodes ls

    abbrev first_loads : List ℕ
    first_loads = bottom ++ drop (length loads / 2) loads

    length-ls : length ls ≡ length nodes / 2
    length-ls = Joining.length-tree (height - 1) ls bottom ls_tree ∙ sym half_is

    length-bottom : length bottom ≡ length loads / 2
    length-bottom = sym (Joining.length-loads_of (height - 1) ls bottom) ∙ ls_adds.steps ∙ length-low

    length-first_nodes : length first_nodes ≡ length nodes
    length-first_nodes =
        omega (
          arith,
          fork.nodes_are,
          half_is,
          length-append (take 1 nodes) (ls ++ drop (1 + length nodes / 2 - 1) (drop 1 nodes)),
          length-append ls (drop (1 + length nodes / 2 - 1) (drop 1 nodes)),
          length-take 1 nodes,
          length-drop (1 + length nodes / 2 - 1) (drop 1 nodes),
          length-drop 1 nodes,
          length-ls,
        )

    -- the right half is as it was
    right_kept : slice_range first_nodes (1 + length nodes / 2) (length first_nodes) ≡ right nodes
    right_kept =
        ap (λ n. take (n - (1 + length nodes / 2)) (drop (1 + length nodes / 2) first_nodes)) length-first_nodes
        ∙ ap (take (length nodes - (1 + length nodes / 2))) (drop-put_mid 1 (1 + length nodes / 2 - 1) nodes ls (1 + length nodes / 2) (omega arith) (omega (arith, fork.nodes_are)) (omega (arith, length-ls)))

    upper_kept : slice_range first_loads (length loads / 2) (length first_loads) ≡ upper loads
    upper_kept =
        ap (λ n. take (n - length loads / 2) (drop (length loads / 2) first_loads)) (omega (arith, length-append bottom (drop (length loads / 2) loads), length-drop (length loads / 2) loads, length-bottom))
        ∙ ap (take (length loads - length loads / 2)) (drop_at bottom (drop (length loads / 2) loads) (length loads / 2) length-bottom)

    -- what a call on it asks
    pub right_ready : All (λ load. load ≤ 2 ^ 100) (loads_of height nodes loads) → HasRoom (loads_of height nodes loads) from to amount → to ≤ length loads
        → IsTree (height - 1) (slice_range first_nodes (1 + length nodes / 2) (length first_nodes)) (slice_range first_loads (length loads / 2) (length first_loads))
        × (All (λ load. load ≤ 2 ^ 100) (loads_of (height - 1) (slice_range first_nodes (1 + length nodes / 2) (length first_nodes)) (slice_range first_loads (length loads / 2) (length first_loads)))
        × ((to2 ≤ length (slice_range first_loads (length loads / 2) (length first_loads)))
        × HasRoom (loads_of (height - 1) (slice_range first_nodes (1 + length nodes / 2) (length first_nodes)) (slice_range first_loads (length loads / 2) (length first_loads))) from2 to2 amount))
    right_ready small room within =
        subst (λ ns. IsTree (height - 1) ns (slice_range first_loads (length loads / 2) (length first_loads))
        × (All (λ load. load ≤ 2 ^ 100) (loads_of (height - 1) ns (slice_range first_loads (length loads / 2) (length first_loads)))
        × ((to2 ≤ length (slice_range first_loads (length loads / 2) (length first_loads))) × HasRoom (loads_of (height - 1) ns (slice_range first_loads (length loads / 2) (length first_loads))) from2 to2 amount)))
        (sym right_kept)
        (subst (λ xs. IsTree (height - 1) (right nodes) xs
        × (All (λ load. load ≤ 2 ^ 100) (loads_of (height - 1) (right nodes) xs) × ((to2 ≤ length xs) × HasRoom (loads_of (height - 1) (right nodes) xs) from2 to2 amount)))
        (sym upper_kept) (
          fork.second,
          (
            Joining.small_upper height nodes loads high small,
            (
              omega (arith, to2_is, Joining.length-upper loads),
              λ t after before. Joining.room_upper height nodes loads high from to amount within room t (omega (arith, from2_is)) (omega (arith, to2_is)),
            ),
          ),
        ))

    module _ (rs : List Node) (top : List ℕ) (rs_tree : IsTree (height - 1) rs top)
        (rs_adds : AddsOver (loads_of (height - 1) (slice_range first_nodes (1 + length nodes / 2) (length first_nodes)) (slice_range first_loads (length loads / 2) (length first_loads))) (loads_of (height - 1) rs top) from2 to2 amount) where
      abbrev last_nodes : List Node
      last_nodes = put_mid (1 + length nodes / 2) (length first_nodes - (1 + length nodes / 2)) first_nodes rs

      abbrev last_loads : List ℕ
      last_loads = put_mid (length loads / 2) (length first_loads - length loads / 2) first_loads top

      abbrev a : List ℕ
      a = loads_of (height - 1) ls bottom

      abbrev b : List ℕ
      b = loads_of (height - 1) rs top

      up_adds : AddsOver up b from2 to2 amount
      up_adds = subst (λ ns. AddsOver (loads_of (height - 1) ns (upper loads)) b from2 to2 amount) right_kept (subst (λ xs. AddsOver (loads_of (height - 1) (slice_range first_nodes (1 + length nodes / 2) (length first_nodes)) xs) b from2 to2 amount) upper_kept rs_adds)

      length-rs : length rs ≡ length nodes / 2
      length-rs = Joining.length-tree (height - 1) rs top rs_tree ∙ sym half_is

      length-top : length top ≡ length loads - length loads / 2
      length-top = sym (Joining.length-loads_of (height - 1) rs top) ∙ up_adds.steps ∙ length-up

      nodes_put : last_nodes ≡ take 1 nodes ++ (ls ++ rs)
      nodes_put = put_both nodes ls rs (length nodes / 2) (omega (arith, fork.nodes_are)) (omega (arith, length-ls))

      pub last_some : 0 < length last_nodes
      last_some = omega (arith, ap length nodes_put, length-append (take 1 nodes) (ls ++ rs), length-take 1 nodes, fork.nodes_are)

      loads_put : last_loads ≡ bottom ++ top
      loads_put =
          let rest : drop (length first_loads - length loads / 2) (drop (length loads / 2) first_loads) ≡ [] = drop_all (length first_loads - length loads / 2) (drop (length loads / 2) first_loads) (omega (arith, length-drop (length loads / 2) first_loads)) in
          ap (λ zs. take (length loads / 2) first_loads ++ (top ++ zs)) rest
          ∙ ap (λ zs. take (length loads / 2) first_loads ++ zs) (append-nil top)
          ∙ ap (λ zs. zs ++ top) (take_at bottom (drop (length loads / 2) loads) (length loads / 2) length-bottom)

      both_added : to ≤ length loads → AddsOver (low ++ up) (a ++ b) from to amount
      both_added within =
          Joining.joined_over low a up b from to amount
          (subst (λ n. AddsOver low a n (min to (length low)) amount) (from1_is ∙ ap (min from) (sym length-low)) (subst (λ n. AddsOver low a from1 n amount) (to1_is ∙ ap (min to) (sym length-low)) ls_adds))
          (subst (λ n. AddsOver up b n (to - length low) amount) (from2_is ∙ ap (λ n. from - n) (sym length-low)) (subst (λ n. AddsOver up b from2 n amount) (to2_is ∙ ap (λ n. to - n) (sym length-low)) up_adds))
          (omega (arith, length-append low up, length-low, length-up))

      module _ (both : ℕ) (both_is : both ≡ max (root ls).most (root rs).most) (some : from < to) (within : to ≤ length loads) where
        abbrev top_node : Node
        top_node = record { added = (root nodes).added; most = (root nodes).added + both }

        abbrev joined : List Node
        joined = top_node ∷ (ls ++ rs)

        abbrev stored : List ℕ
        stored = bottom ++ top

        left_joined : left joined ≡ ls
        left_joined = take_at ls rs (1 + length joined / 2 - 1) (omega (arith, length-append ls rs, length-ls, length-rs))

        right_joined : right joined ≡ rs
        right_joined =
            let next : 1 + length joined / 2 ≡ suc (length joined / 2) = omega arith in
            ap (λ k. take (length joined - k) (drop k joined)) next
            ∙ ap (take (length joined - suc (length joined / 2))) (drop_at ls rs (length joined / 2) (omega (arith, length-append ls rs, length-ls, length-rs)))
            ∙ take_all (length joined - suc (length joined / 2)) rs (omega (arith, length-append ls rs, length-ls, length-rs))

        half_stored : length bottom ≡ length stored / 2
        half_stored = omega (arith, length-append bottom top, length-bottom, length-top)

        lower_stored : lower stored ≡ bottom
        lower_stored = take_at bottom top (length stored / 2) half_stored

        upper_stored : upper stored ≡ top
        upper_stored =
            ap (take (length stored - length stored / 2)) (drop_at bottom top (length stored / 2) half_stored)
            ∙ take_all (length stored - length stored / 2) top (omega (arith, length-append bottom top, length-bottom, length-top))

        loads_joined : loads_of height joined stored ≡ raised (root nodes).added (a ++ b)
        loads_joined =
            Joining.loads_of-fork height joined stored high
            ∙ ap (λ ns. raised (root nodes).added (loads_of (height - 1) ns (lower stored) ++ loads_of (height - 1) (right joined) (upper stored))) left_joined
            ∙ ap (λ xs. raised (root nodes).added (loads_of (height - 1) ls xs ++ loads_of (height - 1) (right joined) (upper stored))) lower_stored
            ∙ ap (λ ns. raised (root nodes).added (a ++ loads_of (height - 1) ns (upper stored))) right_joined
            ∙ ap (λ xs. raised (root nodes).added (a ++ loads_of (height - 1) rs xs)) upper_stored

        joined_added : AddsOver (loads_of height nodes loads) (loads_of height joined stored) from to amount
        joined_added =
            subst (λ xs. AddsOver (loads_of height nodes loads) xs from to amount) (sym loads_joined)
            (subst (λ xs. AddsOver xs (raised (root nodes).added (a ++ b)) from to amount) (sym (Joining.loads_of-fork height nodes loads high))
            (Joining.raised_over (root nodes).added (low ++ up) (a ++ b) from to amount (omega (arith, length-append low up, length-low, length-up)) (both_added within)))

        length-a : length a ≡ length loads / 2
        length-a = ls_adds.steps ∙ length-low

        length-b : length b ≡ length loads - length loads / 2
        length-b = up_adds.steps ∙ length-up

        joined_best : IsGreatest (loads_of height joined stored) 0 (length stored) ((root nodes).added + both)
        joined_best =
            let none : 0 ≡ min 0 (length a) = omega arith in
            let ends : length a ≡ min (length stored) (length a) = omega (arith, length-append bottom top, length-bottom, length-top, length-a) in
            let starts : 0 ≡ 0 - length a = omega arith in
            let remains : length b ≡ length stored - length a = omega (arith, length-append bottom top, length-bottom, length-top, length-a, length-b) in
            subst (λ n. IsGreatest (loads_of height joined stored) 0 (length stored) ((root nodes).added + n)) (sym both_is)
            (subst (λ xs. IsGreatest xs 0 (length stored) ((root nodes).added + max (root ls).most (root rs).most)) (sym loads_joined)
            (Joining.joined_most a b (root nodes).added 0 (length stored) (root ls).most (root rs).most
            (omega (arith, length-append bottom top, length-bottom, length-top))
            (omega (arith, length-append bottom top, length-append a b, length-bottom, length-top, length-a, length-b))
            (subst (λ n. IsMostOver a n (min (length stored) (length a)) (root ls).most) none (subst (λ n. IsMostOver a 0 n (root ls).most) ends (Joining.most-tree (height - 1) ls bottom ls_tree)))
            (subst (λ n. IsMostOver b n (length stored - length a) (root rs).most) starts (subst (λ n. IsMostOver b 0 n (root rs).most) remains (Joining.most-tree (height - 1) rs top rs_tree)))))

        joined_tree : IsTree height joined stored
        joined_tree =
            Joining.tree_from_fork height joined stored high (record {
              nodes_are = omega (arith, length-append ls rs, length-ls, length-rs, half_is);
              most = subst (λ n. IsMostOver (loads_of height joined stored) 0 n ((root nodes).added + both)) (sym (Joining.length-loads_of height joined stored))
                  (Joining.most_from_greatest (loads_of height joined stored) 0 (length stored) ((root nodes).added + both) joined_best);
              first = subst (λ ns. IsTree (height - 1) ns (lower stored)) (sym left_joined) (subst (λ xs. IsTree (height - 1) ls xs) (sym lower_stored) ls_tree);
              second = subst (λ ns. IsTree (height - 1) ns (upper stored)) (sym right_joined) (subst (λ xs. IsTree (height - 1) rs xs) (sym upper_stored) rs_tree);
            })

        -- the first node, which keeps what was added to the whole range
        abbrev last_top : Node
        last_top = record { added = (root last_nodes).added; most = (root nodes).added + both }

        last_root : root last_nodes ≡ root nodes
        last_root = ap root nodes_put ∙ root_first nodes (ls ++ rs) (omega (arith, fork.nodes_are))

        set_joined : set last_nodes 0 last_top ≡ joined
        set_joined =
            ap (λ (x : Node). set last_nodes 0 (record { added = x.added; most = (root nodes).added + both })) last_root
            ∙ ap (λ ns. set ns 0 top_node) nodes_put
            ∙ set_first nodes (ls ++ rs) top_node (omega (arith, fork.nodes_are))

        pub fork_tree : IsTree height (set last_nodes 0 last_top) last_loads
        fork_tree = subst (λ ns. IsTree height ns last_loads) (sym set_joined) (subst (λ xs. IsTree height joined xs) (sym loads_put) joined_tree)

        pub fork_added : AddsOver (loads_of height nodes loads) (loads_of height (set last_nodes 0 last_top) last_loads) from to amount
        fork_added =
            subst (λ ns. AddsOver (loads_of height nodes loads) (loads_of height ns last_loads) from to amount) (sym set_joined)
            (subst (λ xs. AddsOver (loads_of height nodes loads) (loads_of height joined xs) from to amount) (sym loads_put) joined_added)

        pub fork_small : All (λ load. load ≤ 2 ^ 100) (loads_of height nodes loads) → HasRoom (loads_of height nodes loads) from to amount → (root nodes).added + both ≤ 2 ^ 100
        fork_small small room =
            Joining.small_greatest (loads_of height joined stored) 0 (length stored) ((root nodes).added + both)
            (small_after (loads_of height nodes loads) (loads_of height joined stored) from to amount small room joined_added) (omega (arith, Joining.length-loads_of height joined stored)) joined_best

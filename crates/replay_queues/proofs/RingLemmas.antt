-- Rings of linked nodes, as one is put in or taken out.
use Rattle.std.proofs.Common.{◌≡◌, ℕ, zero, suc, ◌∙◌, sym, refl, ap, subst, Bool, true, false, not, ◌||◌, cond, eqb, List, [], ◌∷◌, ◌++◌, length, filter, arith}
use Rattle.std.proofs.lemmas.Bool.{eqb-true, eq-eqb, or_parts, or_from, or_left, or_right}
use Rattle.policy_model.proofs.Comparisons.{eqb-sym}
use Rattle.linked_nodes.specs.declared.nodes.Node.{Node}
use Rattle.linked_nodes.specs.Nodes.{node_at, Joins}
use Rattle.replay_queues.specs.Rings.{is_among, Distinct, Links, walk}

abbrev pub after : List Node → ℕ → ℕ
after nodes k = (node_at nodes k).after

abbrev pub before : List Node → ℕ → ℕ
before nodes k = (node_at nodes k).before

-- ---- numbers that are among others
pub differs : (a b : ℕ) (numbers : List ℕ) → is_among numbers a ≡ false → is_among numbers b ≡ true → eqb a b ≡ false
differs a b numbers none there = at (eqb a b) refl
  where
    at : (t : Bool) → eqb a b ≡ t → eqb a b ≡ false
    at true e = let clash : true ≡ false = sym there ∙ ap (is_among numbers) (sym (eqb-true a b e)) ∙ none in cc
    at false e = e

at-same : {X : Type 0} (a b : ℕ) (x y : X) → a ≡ b → cond (eqb a b) x y ≡ x
at-same a b x y same = ap (λ t. cond t x y) (eq-eqb a b same)

at-other : {X : Type 0} (a b : ℕ) (x y : X) → eqb a b ≡ false → cond (eqb a b) x y ≡ y
at-other a b x y other = ap (λ t. cond t x y) other

-- ---- links that do not change
pub Links-same : (old new : List Node) → ((k : ℕ) → after new k ≡ after old k) → ((k : ℕ) → before new k ≡ before old k) → (first : ℕ) (numbers : List ℕ) (last : ℕ) → Links old first numbers last → Links new first numbers last
Links-same old new same_after same_before first [] last l = (same_after first ∙ l.0, same_before last ∙ l.1)
Links-same old new same_after same_before first (k ∷ rest) last l = (same_after first ∙ l.0, same_before k ∙ l.1, Links-same old new same_after same_before k rest last l.2)

-- where all but one node are as they were, which is none of them
pub Links-but : (old new : List Node) (q : ℕ) → ((k : ℕ) → eqb k q ≡ false → node_at new k ≡ node_at old k) → (first : ℕ) (numbers : List ℕ) (last : ℕ) → eqb first q ≡ false → is_among numbers q ≡ false → eqb last q ≡ false
    → Links old first numbers last → Links new first numbers last
Links-but old new q same first [] last no_first no_q no_last l = (ap (λ (n : Node). n.after) (same first no_first) ∙ l.0, ap (λ (n : Node). n.before) (same last no_last) ∙ l.1)
Links-but old new q same first (k ∷ rest) last no_first no_q no_last l =
    let parts : (eqb k q ≡ false) × (is_among rest q ≡ false) = or_parts _ _ no_q in
    (ap (λ (n : Node). n.after) (same first no_first) ∙ l.0, ap (λ (n : Node). n.before) (same k parts.0) ∙ l.1, Links-but old new q same k rest last parts.0 parts.1 no_last l.2)

-- ---- after a join
module _ (old new : List Node) (p q : ℕ) (joins : Joins old new p q) where
  pub after-here : (k : ℕ) → k ≡ p → after new k ≡ q
  after-here k same = joins.follows k ∙ at-same k p q (after old k) same

  pub after-other : (k : ℕ) → eqb k p ≡ false → after new k ≡ after old k
  after-other k other = joins.follows k ∙ at-other k p q (after old k) other

  pub before-here : (k : ℕ) → k ≡ q → before new k ≡ p
  before-here k same = joins.goes_before k ∙ at-same k q p (before old k) same

  pub before-other : (k : ℕ) → eqb k q ≡ false → before new k ≡ before old k
  before-other k other = joins.goes_before k ∙ at-other k q p (before old k) other

  -- of others
  pub Links-other : (first : ℕ) (numbers : List ℕ) (last : ℕ) → eqb first p ≡ false → is_among numbers p ≡ false → is_among numbers q ≡ false → eqb last q ≡ false → Links old first numbers last → Links new first numbers last
  Links-other first [] last of_first no_p no_q of_last l = (after-other first of_first ∙ l.0, before-other last of_last ∙ l.1)
  Links-other first (k ∷ rest) last of_first no_p no_q of_last l =
      let p_parts : (eqb k p ≡ false) × (is_among rest p ≡ false) = or_parts _ _ no_p in
      let q_parts : (eqb k q ≡ false) × (is_among rest q ≡ false) = or_parts _ _ no_q in
      (after-other first of_first ∙ l.0, before-other k q_parts.0 ∙ l.1, Links-other k rest last p_parts.0 p_parts.1 q_parts.1 of_last l.2)

-- ---- who stands beside whom
pub last-among : (nodes : List Node) (first k : ℕ) (rest : List ℕ) (last : ℕ) → Links nodes first (k ∷ rest) last → is_among (k ∷ rest) (before nodes last) ≡ true
last-among nodes first k [] last l = or_left (eqb k (before nodes last)) false (eq-eqb k (before nodes last) (sym l.2.1))
last-among nodes first k (j ∷ rest) last l = or_right (eqb k (before nodes last)) (is_among (j ∷ rest) (before nodes last)) (last-among nodes k j rest last l.2)

pub last-beside : (nodes : List Node) (first : ℕ) (numbers : List ℕ) (last : ℕ) → Links nodes first numbers last → is_among (first ∷ numbers) (before nodes last) ≡ true
last-beside nodes first [] last l = or_left (eqb first (before nodes last)) false (eq-eqb first (before nodes last) (sym l.1))
last-beside nodes first (j ∷ rest) last l = or_right (eqb first (before nodes last)) (is_among (j ∷ rest) (before nodes last)) (last-among nodes first j rest last l)

pub before-among : (nodes : List Node) (first : ℕ) (numbers : List ℕ) (last k : ℕ) → Links nodes first numbers last → is_among numbers k ≡ true → is_among (first ∷ numbers) (before nodes k) ≡ true
before-among nodes first [] last k l there = cc
before-among nodes first (j ∷ rest) last k l there = at (eqb j k) refl (before-among nodes j rest last k l.2)
  where
    at : (t : Bool) → eqb j k ≡ t → (is_among rest k ≡ true → is_among (j ∷ rest) (before nodes k) ≡ true) → is_among (first ∷ j ∷ rest) (before nodes k) ≡ true
    at true e more = or_left (eqb first (before nodes k)) (is_among (j ∷ rest) (before nodes k)) (eq-eqb first (before nodes k) (sym (ap (before nodes) (sym (eqb-true j k e)) ∙ l.1)))
    at false e more = or_right (eqb first (before nodes k)) (is_among (j ∷ rest) (before nodes k)) (more (ap (λ t. t || is_among rest k) (sym e) ∙ there))

pub after-among : (nodes : List Node) (first : ℕ) (numbers : List ℕ) (last k : ℕ) → Links nodes first numbers last → is_among numbers k ≡ true → is_among (last ∷ numbers) (after nodes k) ≡ true
after-among nodes first [] last k l there = cc
after-among nodes first (j ∷ rest) last k l there = at (eqb j k) refl (after-among nodes j rest last k l.2)
  where
    next : (rest_of : List ℕ) → Links nodes j rest_of last → is_among (last ∷ j ∷ rest_of) (after nodes j) ≡ true
    next [] m = or_left (eqb last (after nodes j)) (is_among (j ∷ []) (after nodes j)) (eq-eqb last (after nodes j) (sym m.0))
    next (i ∷ more) m =
        or_right (eqb last (after nodes j)) (is_among (j ∷ i ∷ more) (after nodes j))
        (or_right (eqb j (after nodes j)) (is_among (i ∷ more) (after nodes j)) (or_left (eqb i (after nodes j)) (is_among more (after nodes j)) (eq-eqb i (after nodes j) (sym m.0))))

    wider : (x : ℕ) → is_among (last ∷ rest) x ≡ true → is_among (last ∷ j ∷ rest) x ≡ true
    wider x h = at_last (eqb last x) refl
      where
        at_last : (t : Bool) → eqb last x ≡ t → is_among (last ∷ j ∷ rest) x ≡ true
        at_last true e = or_left (eqb last x) (is_among (j ∷ rest) x) e
        at_last false e = or_right (eqb last x) (is_among (j ∷ rest) x) (or_right (eqb j x) (is_among rest x) (ap (λ t. t || is_among rest x) (sym e) ∙ h))

    at : (t : Bool) → eqb j k ≡ t → (is_among rest k ≡ true → is_among (last ∷ rest) (after nodes k) ≡ true) → is_among (last ∷ j ∷ rest) (after nodes k) ≡ true
    at true e more = ap (λ i. is_among (last ∷ j ∷ rest) (after nodes i)) (sym (eqb-true j k e)) ∙ next rest l.2
    at false e more = wider (after nodes k) (more (ap (λ t. t || is_among rest k) (sym e) ∙ there))

-- ---- a number that is put at the end
-- it takes the place of the node of none, after the last
pub takes_last : (old new : List Node) (k last : ℕ) (first : ℕ) (numbers : List ℕ) → Joins old new (before old last) k → Distinct numbers → is_among numbers first ≡ false → is_among numbers k ≡ false → Links old first numbers last → Links new first numbers k
takes_last old new k last first [] joins apart no_first no_k l = (after-here old new (before old last) k joins first (sym l.1), before-here old new (before old last) k joins k refl ∙ l.1)
takes_last old new k last first (j ∷ rest) joins apart no_first no_k l =
    let parts : (eqb j k ≡ false) × (is_among rest k ≡ false) = or_parts _ _ no_k in (
      after-other old new (before old last) k joins first (differs first (before old last) (j ∷ rest) no_first (last-among old first j rest last l)) ∙ l.0,
      before-other old new (before old last) k joins j parts.0 ∙ l.1,
      takes_last old new k last j rest joins apart.1 apart.0 parts.1 l.2,
    )

-- and goes before it
pub goes_on : (old new : List Node) (k last : ℕ) (first : ℕ) (numbers : List ℕ) → Joins old new k last → eqb first k ≡ false → eqb last k ≡ false → is_among numbers k ≡ false → is_among numbers last ≡ false → Links old first numbers k → Links new first (numbers ++ k ∷ []) last
goes_on old new k last first [] joins no_first no_last no_k none l = (
  after-other old new k last joins first no_first ∙ l.0,
  before-other old new k last joins k (eqb-sym k last ∙ no_last) ∙ l.1,
  (after-here old new k last joins k refl, before-here old new k last joins last refl),
)
goes_on old new k last first (j ∷ rest) joins no_first no_last no_k none l =
    let parts : (eqb j k ≡ false) × (is_among rest k ≡ false) = or_parts _ _ no_k in
    let lasts : (eqb j last ≡ false) × (is_among rest last ≡ false) = or_parts _ _ none in
    (after-other old new k last joins first no_first ∙ l.0, before-other old new k last joins j lasts.0 ∙ l.1, goes_on old new k last j rest joins parts.0 no_last parts.1 lasts.1 l.2)

-- ---- a number that is taken out
abbrev pub without : ℕ → List ℕ → List ℕ
without k numbers = filter (λ j. not (eqb j k)) numbers

pub without-none : (k : ℕ) (numbers : List ℕ) → is_among numbers k ≡ false → without k numbers ≡ numbers
without-none k [] none = refl
without-none k (j ∷ rest) none =
    let parts : (eqb j k ≡ false) × (is_among rest k ≡ false) = or_parts _ _ none in
    ap (λ b. cond (not b) (j ∷ without k rest) (without k rest)) parts.0 ∙ ap (λ js. j ∷ js) (without-none k rest parts.1)

pub without-head : (k j : ℕ) (rest : List ℕ) → eqb j k ≡ true → is_among rest j ≡ false → without k (j ∷ rest) ≡ rest
without-head k j rest same none = ap (λ b. cond (not b) (j ∷ without k rest) (without k rest)) same ∙ without-none k rest (ap (is_among rest) (sym (eqb-true j k same)) ∙ none)

without-other : (k j : ℕ) (rest : List ℕ) → eqb j k ≡ false → without k (j ∷ rest) ≡ j ∷ without k rest
without-other k j rest other = ap (λ b. cond (not b) (j ∷ without k rest) (without k rest)) other

-- what followed it follows the one before it
follows-first : (old new : List Node) (first k : ℕ) (rest : List ℕ) (last : ℕ) → Joins old new first (after old k) → Distinct rest → is_among rest first ≡ false → is_among rest last ≡ false → Links old k rest last → Links new first rest last
follows-first old new first k [] last joins apart no_first no_last l =
    (after-here old new first (after old k) joins first refl ∙ l.0, before-here old new first (after old k) joins last (sym l.0))
follows-first old new first k (j ∷ rest) last joins apart no_first no_last l =
    let firsts : (eqb j first ≡ false) × (is_among rest first ≡ false) = or_parts _ _ no_first in
    let lasts : (eqb j last ≡ false) × (is_among rest last ≡ false) = or_parts _ _ no_last in
    let next : after old k ≡ j = l.0 in (
      after-here old new first (after old k) joins first refl ∙ next,
      before-here old new first (after old k) joins j (sym next),
      Links-other old new first (after old k) joins j rest last firsts.0 firsts.1 (ap (is_among rest) next ∙ apart.0) (ap (eqb last) next ∙ eqb-sym last j ∙ lasts.0) l.2,
    )

pub taken_out : (old new : List Node) (k : ℕ) (first : ℕ) (numbers : List ℕ) (last : ℕ) → Joins old new (before old k) (after old k) → Distinct numbers → is_among numbers k ≡ true → is_among numbers first ≡ false → is_among numbers last ≡ false
    → Links old first numbers last → Links new first (without k numbers) last
taken_out old new k first [] last joins apart there no_first no_last l = cc
taken_out old new k first (j ∷ rest) last joins apart there no_first no_last l = at (eqb j k) refl (taken_out old new k j rest last joins apart.1)
  where
    firsts : (eqb j first ≡ false) × (is_among rest first ≡ false)
    firsts = or_parts _ _ no_first

    lasts : (eqb j last ≡ false) × (is_among rest last ≡ false)
    lasts = or_parts _ _ no_last

    at : (t : Bool) → eqb j k ≡ t → (is_among rest k ≡ true → is_among rest j ≡ false → is_among rest last ≡ false → Links old j rest last → Links new j (without k rest) last) → Links new first (without k (j ∷ rest)) last
    at true e more =
        let same : j ≡ k = eqb-true j k e in
        let here : before old k ≡ first = ap (before old) (sym same) ∙ l.1 in
        subst (λ js. Links new first js last) (sym (without-head k j rest e apart.0))
        (follows-first old new first k rest last (subst (λ b. Joins old new b (after old k)) here joins) apart.1 firsts.1 lasts.1 (subst (λ i. Links old i rest last) same l.2))
    at false e more =
        let later : is_among rest k ≡ true = ap (λ t. t || is_among rest k) (sym e) ∙ there in
        let not_next : is_among (last ∷ rest) (after old k) ≡ true = after-among old j rest last k l.2 later in
        subst (λ js. Links new first js last) (sym (without-other k j rest e)) (
          after-other old new (before old k) (after old k) joins first (differs first (before old k) (j ∷ rest) no_first (before-among old j rest last k l.2 later)) ∙ l.0,
          before-other old new (before old k) (after old k) joins j (differs j (after old k) (last ∷ rest) (or_from (eqb last j) (is_among rest j) (eqb-sym last j ∙ lasts.0) apart.0) not_next) ∙ l.1,
          more later apart.0 lasts.1 l.2,
        )

-- ---- the walk round a ring
pub walked : (nodes : List Node) (first : ℕ) (numbers : List ℕ) (last : ℕ) → Links nodes first numbers last → walk nodes (length numbers) (after nodes first) ≡ numbers
walked nodes first [] last l = refl
walked nodes first (k ∷ rest) last l = ap (walk nodes (suc (length rest))) l.0 ∙ ap (λ js. k ∷ js) (walked nodes k rest last l.2)

pub length-walk : (nodes : List Node) (count k : ℕ) → length (walk nodes count k) ≡ count
length-walk nodes zero k = refl
length-walk nodes (suc count) k = omega (arith, length-walk nodes count (after nodes k))

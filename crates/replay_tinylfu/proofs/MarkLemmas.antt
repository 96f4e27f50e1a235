-- Numbers that marks cut into parts, as one is put in or taken out.
use Rattle.std.proofs.Common.{◌≡◌, ℕ, ◌+◌, ◌∙◌, sym, refl, ap, Bool, true, false, not, ◌||◌, cond, eqb, List, [], ◌∷◌, ◌++◌, length, arith}
use Rattle.std.proofs.lemmas.Bool.{eqb-true, or_parts, or_from, or_left, or_right, cond_both}
use Rattle.policy_model.proofs.Comparisons.{eqb-sym}
use Rattle.replay_queues.specs.Rings.{is_among, Distinct}
use Rattle.replay_queues.proofs.RingLemmas.{without}
use Rattle.replay_tinylfu.specs.Marks.{up_to, past, put_in}

-- ---- what is among a part
pub among-up_to : (mark q : ℕ) (numbers : List ℕ) → is_among numbers q ≡ false → is_among (up_to mark numbers) q ≡ false
among-up_to mark q [] none = refl
among-up_to mark q (k ∷ rest) none =
    let parts : (eqb k q ≡ false) × (is_among rest q ≡ false) = or_parts _ _ none in
    cond_both (eqb k mark) [] (k ∷ up_to mark rest) (λ ks. is_among ks q ≡ false) (λ _. refl) (λ _. or_from (eqb k q) (is_among (up_to mark rest) q) parts.0 (among-up_to mark q rest parts.1))

pub among-past : (mark q : ℕ) (numbers : List ℕ) → is_among numbers q ≡ false → is_among (past mark numbers) q ≡ false
among-past mark q [] none = refl
among-past mark q (k ∷ rest) none =
    let parts : (eqb k q ≡ false) × (is_among rest q ≡ false) = or_parts _ _ none in
    cond_both (eqb k mark) rest (past mark rest) (λ ks. is_among ks q ≡ false) (λ _. parts.1) (λ _. among-past mark q rest parts.1)

pub mark-past : (mark : ℕ) (numbers : List ℕ) → Distinct numbers → is_among (past mark numbers) mark ≡ false
mark-past mark [] apart = refl
mark-past mark (k ∷ rest) apart =
    cond_both (eqb k mark) rest (past mark rest) (λ ks. is_among ks mark ≡ false) (λ same. ap (is_among rest) (sym (eqb-true k mark same)) ∙ apart.0) (λ _. mark-past mark rest apart.1)

-- what is in a part is there
pub whole-up_to : (mark q : ℕ) (numbers : List ℕ) → is_among (up_to mark numbers) q ≡ true → is_among numbers q ≡ true
whole-up_to mark q numbers there = at (is_among numbers q) refl
  where
    at : (t : Bool) → is_among numbers q ≡ t → is_among numbers q ≡ true
    at true is = is
    at false is = let clash : true ≡ false = sym there ∙ among-up_to mark q numbers is in cc

pub whole-past : (mark q : ℕ) (numbers : List ℕ) → is_among (past mark numbers) q ≡ true → is_among numbers q ≡ true
whole-past mark q numbers there = at (is_among numbers q) refl
  where
    at : (t : Bool) → is_among numbers q ≡ t → is_among numbers q ≡ true
    at true is = is
    at false is = let clash : true ≡ false = sym there ∙ among-past mark q numbers is in cc

-- what is after a mark isn't before it
pub past-up_to : (mark q : ℕ) (numbers : List ℕ) → Distinct numbers → is_among (past mark numbers) q ≡ true → is_among (up_to mark numbers) q ≡ false
past-up_to mark q [] apart there = refl
past-up_to mark q (k ∷ rest) apart there = at (eqb k mark) refl (past-up_to mark q rest apart.1)
  where
    at : (t : Bool) → eqb k mark ≡ t → (is_among (past mark rest) q ≡ true → is_among (up_to mark rest) q ≡ false) → is_among (up_to mark (k ∷ rest)) q ≡ false
    at true is more = ap (λ b. is_among (cond b [] (k ∷ up_to mark rest)) q) is
    at false is more =
        let later : is_among (past mark rest) q ≡ true = ap (λ b. is_among (cond b rest (past mark rest)) q) (sym is) ∙ there in
        ap (λ b. is_among (cond b [] (k ∷ up_to mark rest)) q) is ∙ or_from (eqb k q) (is_among (up_to mark rest) q) (apart_from (eqb k q) refl later) (more later)
      where
        apart_from : (t : Bool) → eqb k q ≡ t → is_among (past mark rest) q ≡ true → eqb k q ≡ false
        apart_from true e later = let clash : true ≡ false = sym (whole-past mark q rest later) ∙ ap (is_among rest) (sym (eqb-true k q e)) ∙ apart.0 in cc
        apart_from false e later = e

pub distinct-up_to : (mark : ℕ) (numbers : List ℕ) → Distinct numbers → Distinct (up_to mark numbers)
distinct-up_to mark [] apart = tt
distinct-up_to mark (k ∷ rest) apart = cond_both (eqb k mark) [] (k ∷ up_to mark rest) Distinct (λ _. tt) (λ _. (among-up_to mark k rest apart.0, distinct-up_to mark rest apart.1))

pub distinct-past : (mark : ℕ) (numbers : List ℕ) → Distinct numbers → Distinct (past mark numbers)
distinct-past mark [] apart = tt
distinct-past mark (k ∷ rest) apart = cond_both (eqb k mark) rest (past mark rest) Distinct (λ _. apart.1) (λ _. distinct-past mark rest apart.1)

-- the parts and the mark make the whole
pub length-parts : (mark : ℕ) (numbers : List ℕ) → is_among numbers mark ≡ true → length numbers ≡ length (up_to mark numbers) + 1 + length (past mark numbers)
length-parts mark [] there = cc
length-parts mark (k ∷ rest) there = at (eqb k mark) refl (length-parts mark rest)
  where
    at : (t : Bool) → eqb k mark ≡ t → (is_among rest mark ≡ true → length rest ≡ length (up_to mark rest) + 1 + length (past mark rest))
        → length (k ∷ rest) ≡ length (cond (eqb k mark) [] (k ∷ up_to mark rest)) + 1 + length (cond (eqb k mark) rest (past mark rest))
    at true is more = omega (arith, ap (λ b. length (cond b [] (k ∷ up_to mark rest)) + length (cond b rest (past mark rest))) is)
    at false is more = omega (arith, ap (λ b. length (cond b [] (k ∷ up_to mark rest)) + length (cond b rest (past mark rest))) is, more (ap (λ b. b || is_among rest mark) (sym is) ∙ there))

-- ---- one is put in
pub among-put : (mark k q : ℕ) (numbers : List ℕ) → is_among numbers q ≡ false → eqb k q ≡ false → is_among (put_in mark k numbers) q ≡ false
among-put mark k q [] none other = or_from (eqb k q) false other refl
among-put mark k q (j ∷ rest) none other =
    let parts : (eqb j q ≡ false) × (is_among rest q ≡ false) = or_parts _ _ none in
    cond_both (eqb j mark) (k ∷ j ∷ rest) (j ∷ put_in mark k rest) (λ js. is_among js q ≡ false)
    (λ _. or_from (eqb k q) (is_among (j ∷ rest) q) other none) (λ _. or_from (eqb j q) (is_among (put_in mark k rest) q) parts.0 (among-put mark k q rest parts.1 other))

pub among-kept : (mark k q : ℕ) (numbers : List ℕ) → is_among numbers q ≡ true → is_among (put_in mark k numbers) q ≡ true
among-kept mark k q [] there = cc
among-kept mark k q (j ∷ rest) there = at (eqb j q) refl (among-kept mark k q rest)
  where
    at : (t : Bool) → eqb j q ≡ t → (is_among rest q ≡ true → is_among (put_in mark k rest) q ≡ true) → is_among (put_in mark k (j ∷ rest)) q ≡ true
    at true is more =
        cond_both (eqb j mark) (k ∷ j ∷ rest) (j ∷ put_in mark k rest) (λ js. is_among js q ≡ true)
        (λ _. or_right (eqb k q) (is_among (j ∷ rest) q) there) (λ _. or_left (eqb j q) (is_among (put_in mark k rest) q) is)
    at false is more =
        cond_both (eqb j mark) (k ∷ j ∷ rest) (j ∷ put_in mark k rest) (λ js. is_among js q ≡ true)
        (λ _. or_right (eqb k q) (is_among (j ∷ rest) q) there)
        (λ _. or_right (eqb j q) (is_among (put_in mark k rest) q) (more (ap (λ b. b || is_among rest q) (sym is) ∙ there)))

pub distinct-put : (mark k : ℕ) (numbers : List ℕ) → Distinct numbers → is_among numbers k ≡ false → Distinct (put_in mark k numbers)
distinct-put mark k [] apart none = (refl, tt)
distinct-put mark k (j ∷ rest) apart none =
    let parts : (eqb j k ≡ false) × (is_among rest k ≡ false) = or_parts _ _ none in
    cond_both (eqb j mark) (k ∷ j ∷ rest) (j ∷ put_in mark k rest) Distinct (λ _. (none, apart))
    (λ _. (among-put mark k j rest apart.0 (eqb-sym k j ∙ parts.0), distinct-put mark k rest apart.1 parts.1))

-- at the end, if the mark isn't there
pub put-last : (mark k : ℕ) (numbers : List ℕ) → is_among numbers mark ≡ false → put_in mark k numbers ≡ numbers ++ k ∷ []
put-last mark k [] none = refl
put-last mark k (j ∷ rest) none =
    let parts : (eqb j mark ≡ false) × (is_among rest mark ≡ false) = or_parts _ _ none in
    ap (λ b. cond b (k ∷ j ∷ rest) (j ∷ put_in mark k rest)) parts.0 ∙ ap (λ js. j ∷ js) (put-last mark k rest parts.1)

-- at the end of what is before the mark
pub up_to-put : (mark k : ℕ) (numbers : List ℕ) → eqb k mark ≡ false → up_to mark (put_in mark k numbers) ≡ up_to mark numbers ++ k ∷ []
up_to-put mark k [] other = ap (λ b. cond b [] (k ∷ [])) other
up_to-put mark k (j ∷ rest) other = at (eqb j mark) refl (up_to-put mark k rest other)
  where
    at : (t : Bool) → eqb j mark ≡ t → up_to mark (put_in mark k rest) ≡ up_to mark rest ++ k ∷ [] → up_to mark (cond (eqb j mark) (k ∷ j ∷ rest) (j ∷ put_in mark k rest)) ≡ cond (eqb j mark) [] (j ∷ up_to mark rest) ++ k ∷ []
    at true is more =
        ap (λ b. up_to mark (cond b (k ∷ j ∷ rest) (j ∷ put_in mark k rest))) is ∙ ap (λ b. cond b [] (k ∷ up_to mark (j ∷ rest))) other ∙ ap (λ b. k ∷ cond b [] (j ∷ up_to mark rest)) is
        ∙ ap (λ b. cond b [] (j ∷ up_to mark rest) ++ k ∷ []) (sym is)
    at false is more =
        ap (λ b. up_to mark (cond b (k ∷ j ∷ rest) (j ∷ put_in mark k rest))) is ∙ ap (λ b. cond b [] (j ∷ up_to mark (put_in mark k rest))) is ∙ ap (λ js. j ∷ js) more
        ∙ ap (λ b. cond b [] (j ∷ up_to mark rest) ++ k ∷ []) (sym is)

pub past-put : (mark k : ℕ) (numbers : List ℕ) → eqb k mark ≡ false → past mark (put_in mark k numbers) ≡ past mark numbers
past-put mark k [] other = ap (λ b. cond b [] []) other
past-put mark k (j ∷ rest) other = at (eqb j mark) refl (past-put mark k rest other)
  where
    at : (t : Bool) → eqb j mark ≡ t → past mark (put_in mark k rest) ≡ past mark rest → past mark (cond (eqb j mark) (k ∷ j ∷ rest) (j ∷ put_in mark k rest)) ≡ cond (eqb j mark) rest (past mark rest)
    at true is more = ap (λ b. past mark (cond b (k ∷ j ∷ rest) (j ∷ put_in mark k rest))) is ∙ ap (λ b. cond b (j ∷ rest) (past mark (j ∷ rest))) other
    at false is more =
        ap (λ b. past mark (cond b (k ∷ j ∷ rest) (j ∷ put_in mark k rest))) is ∙ ap (λ b. cond b (put_in mark k rest) (past mark (put_in mark k rest))) is ∙ more
        ∙ ap (λ b. cond b rest (past mark rest)) (sym is)

-- before a later mark
module _ (mark later k : ℕ) (differ : eqb mark later ≡ false) where
  pub up_to-later : (numbers : List ℕ) → is_among numbers mark ≡ true → is_among (up_to mark numbers) later ≡ false → up_to mark (put_in later k numbers) ≡ up_to mark numbers
  up_to-later [] there none = cc
  up_to-later (j ∷ rest) there none = at (eqb j mark) refl (up_to-later rest)
    where
      at : (t : Bool) → eqb j mark ≡ t → (is_among rest mark ≡ true → is_among (up_to mark rest) later ≡ false → up_to mark (put_in later k rest) ≡ up_to mark rest) → up_to mark (cond (eqb j later) (k ∷ j ∷ rest) (j ∷ put_in later k rest)) ≡ cond (eqb j mark) [] (j ∷ up_to mark rest)
      at true is more =
          ap (λ b. up_to mark (cond b (k ∷ j ∷ rest) (j ∷ put_in later k rest))) (ap (λ i. eqb i later) (eqb-true j mark is) ∙ differ)
          ∙ ap (λ b. cond b [] (j ∷ up_to mark (put_in later k rest))) is ∙ ap (λ b. cond b [] (j ∷ up_to mark rest)) (sym is)
      at false is more =
          let parts : (eqb j later ≡ false) × (is_among (up_to mark rest) later ≡ false) = or_parts _ _ (ap (λ b. is_among (cond b [] (j ∷ up_to mark rest)) later) (sym is) ∙ none) in
          ap (λ b. up_to mark (cond b (k ∷ j ∷ rest) (j ∷ put_in later k rest))) parts.0 ∙ ap (λ b. cond b [] (j ∷ up_to mark (put_in later k rest))) is
          ∙ ap (λ js. j ∷ js) (more (ap (λ b. b || is_among rest mark) (sym is) ∙ there) parts.1) ∙ ap (λ b. cond b [] (j ∷ up_to mark rest)) (sym is)

  pub past-later : (numbers : List ℕ) → is_among numbers mark ≡ true → is_among (up_to mark numbers) later ≡ false → past mark (put_in later k numbers) ≡ put_in later k (past mark numbers)
  past-later [] there none = cc
  past-later (j ∷ rest) there none = at (eqb j mark) refl (past-later rest)
    where
      at : (t : Bool) → eqb j mark ≡ t → (is_among rest mark ≡ true → is_among (up_to mark rest) later ≡ false → past mark (put_in later k rest) ≡ put_in later k (past mark rest)) → past mark (cond (eqb j later) (k ∷ j ∷ rest) (j ∷ put_in later k rest)) ≡ put_in later k (cond (eqb j mark) rest (past mark rest))
      at true is more =
          ap (λ b. past mark (cond b (k ∷ j ∷ rest) (j ∷ put_in later k rest))) (ap (λ i. eqb i later) (eqb-true j mark is) ∙ differ)
          ∙ ap (λ b. cond b (put_in later k rest) (past mark (put_in later k rest))) is ∙ ap (λ b. put_in later k (cond b rest (past mark rest))) (sym is)
      at false is more =
          let parts : (eqb j later ≡ false) × (is_among (up_to mark rest) later ≡ false) = or_parts _ _ (ap (λ b. is_among (cond b [] (j ∷ up_to mark rest)) later) (sym is) ∙ none) in
          ap (λ b. past mark (cond b (k ∷ j ∷ rest) (j ∷ put_in later k rest))) parts.0 ∙ ap (λ b. cond b (put_in later k rest) (past mark (put_in later k rest))) is
          ∙ more (ap (λ b. b || is_among rest mark) (sym is) ∙ there) parts.1 ∙ ap (λ b. put_in later k (cond b rest (past mark rest))) (sym is)

-- ---- one is taken out
without-step : (k j : ℕ) (rest : List ℕ) (t : Bool) → eqb j k ≡ t → without k (j ∷ rest) ≡ cond (not t) (j ∷ without k rest) (without k rest)
without-step k j rest t is = ap (λ b. cond (not b) (j ∷ without k rest) (without k rest)) is

module _ (mark k : ℕ) (other : eqb k mark ≡ false) where
  not_it : (j : ℕ) → eqb j k ≡ true → eqb j mark ≡ false
  not_it j is = ap (λ i. eqb i mark) (eqb-true j k is) ∙ other

  pub up_to-without : (numbers : List ℕ) → up_to mark (without k numbers) ≡ without k (up_to mark numbers)
  up_to-without [] = refl
  up_to-without (j ∷ rest) = at (eqb j k) refl (eqb j mark) refl (up_to-without rest)
    where
      at : (t : Bool) → eqb j k ≡ t → (u : Bool) → eqb j mark ≡ u → up_to mark (without k rest) ≡ without k (up_to mark rest) → up_to mark (without k (j ∷ rest)) ≡ without k (up_to mark (j ∷ rest))
      at true is u _ more =
          ap (up_to mark) (without-step k j rest true is) ∙ more ∙ sym (without-step k j (up_to mark rest) true is) ∙ ap (λ b. without k (cond b [] (j ∷ up_to mark rest))) (sym (not_it j is))
      at false is true same more =
          ap (up_to mark) (without-step k j rest false is) ∙ ap (λ b. cond b [] (j ∷ up_to mark (without k rest))) same ∙ ap (λ b. without k (cond b [] (j ∷ up_to mark rest))) (sym same)
      at false is false same more =
          ap (up_to mark) (without-step k j rest false is) ∙ ap (λ b. cond b [] (j ∷ up_to mark (without k rest))) same ∙ ap (λ js. j ∷ js) more ∙ sym (without-step k j (up_to mark rest) false is)
          ∙ ap (λ b. without k (cond b [] (j ∷ up_to mark rest))) (sym same)

  pub past-without : (numbers : List ℕ) → past mark (without k numbers) ≡ without k (past mark numbers)
  past-without [] = refl
  past-without (j ∷ rest) = at (eqb j k) refl (eqb j mark) refl (past-without rest)
    where
      at : (t : Bool) → eqb j k ≡ t → (u : Bool) → eqb j mark ≡ u → past mark (without k rest) ≡ without k (past mark rest) → past mark (without k (j ∷ rest)) ≡ without k (past mark (j ∷ rest))
      at true is u _ more = ap (past mark) (without-step k j rest true is) ∙ more ∙ ap (λ b. without k (cond b rest (past mark rest))) (sym (not_it j is))
      at false is true same more =
          ap (past mark) (without-step k j rest false is) ∙ ap (λ b. cond b (without k rest) (past mark (without k rest))) same ∙ ap (λ b. without k (cond b rest (past mark rest))) (sym same)
      at false is false same more =
          ap (past mark) (without-step k j rest false is) ∙ ap (λ b. cond b (without k rest) (past mark (without k rest))) same ∙ more ∙ ap (λ b. without k (cond b rest (past mark rest))) (sym same)

pub among-without : (k q : ℕ) (numbers : List ℕ) → eqb k q ≡ false → is_among (without k numbers) q ≡ is_among numbers q
among-without k q [] other = refl
among-without k q (j ∷ rest) other = at (eqb j k) refl (among-without k q rest other)
  where
    at : (t : Bool) → eqb j k ≡ t → is_among (without k rest) q ≡ is_among rest q → is_among (without k (j ∷ rest)) q ≡ (eqb j q || is_among rest q)
    at true is more = ap (λ js. is_among js q) (without-step k j rest true is) ∙ more ∙ ap (λ b. b || is_among rest q) (sym (ap (λ i. eqb i q) (eqb-true j k is) ∙ other))
    at false is more = ap (λ js. is_among js q) (without-step k j rest false is) ∙ ap (λ b. eqb j q || b) more

pub gone-without : (k : ℕ) (numbers : List ℕ) → is_among (without k numbers) k ≡ false
gone-without k [] = refl
gone-without k (j ∷ rest) =
    cond_both (not (eqb j k)) (j ∷ without k rest) (without k rest) (λ js. is_among js k ≡ false) (λ is. or_from (eqb j k) (is_among (without k rest) k) (turned (eqb j k) is) (gone-without k rest)) (λ _. gone-without k rest)
  where
    turned : (t : Bool) → not t ≡ true → t ≡ false
    turned true is = sym is
    turned false is = refl

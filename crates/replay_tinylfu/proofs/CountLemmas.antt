-- Counts that are halved late.
use Rattle.std.proofs.Common.{◌≡◌, ℕ, zero, suc, ◌+◌, ◌-◌, ◌/◌, ◌^◌, ◌<◌, ◌≤◌, min, max, ⊎_elim, ◌∙◌, sym, refl, ap, Bool, true, false, eqb, List, [], ◌∷◌, ◌++◌, length, map, get_or, set, replicate, arith}
use Rattle.std.proofs.lemmas.Bool.{eqb-true, eqb-false, eq-eqb, ne_eqb, cases_lt}
use Rattle.std.proofs.lemmas.List.{get_or_past, length-set, length-map, ext_get_or, get_or-map}
use Rattle.std.proofs.lemmas.List.FromFn.{length-map-range_with_len, get_or-map-range_with_len}
use Rattle.std.proofs.lemmas.Nat.{pow-add}
use Rattle.std.proofs.Math.Nat.{div-eq_of_lt, pow-le-pow_right, div-one, div-le_self, div-div-eq-div-mul}
use Rattle.policy_model.specs.WTinyLfu.{one_more}
use Rattle.replay_queues.proofs.ItemLemmas.{here, other}
use Rattle.replay_queues.proofs.RoomLemmas.{grown-cell, grown-long}
use Rattle.replay_tinylfu.specs.Counts.{count_at, counts_at, AreCounts, AreSettled}

pos_pow : (n : ℕ) → 1 ≤ 2 ^ n
pos_pow n = pow-le-pow_right {n = 2} (omega arith) {i = 0} {j = n} (omega arith)

pub zero-shift : (n : ℕ) → 0 / 2 ^ n ≡ 0
zero-shift n = div-eq_of_lt {n = 0} {m = 2 ^ n} (omega (arith, pos_pow n))

-- four halvings leave nothing of a count
pub shift-most : (count n m : ℕ) → count ≤ 15 → m ≡ min n 4 → count / 2 ^ m ≡ count / 2 ^ n
shift-most count n m small is =
    ⊎_elim
    (λ (few : n < 4). let same : m ≡ n = omega arith in ap (λ i. count / 2 ^ i) same)
    (λ (many : 4 ≤ n).
    let four : m ≡ 4 = omega arith in
    let sixteen : 16 ≤ 2 ^ n = pow-le-pow_right {n = 2} (omega arith) {i = 4} {j = n} many in
    ap (λ i. count / 2 ^ i) four ∙ div-eq_of_lt {n = count} {m = 16} (omega arith) ∙ sym (div-eq_of_lt {n = count} {m = 2 ^ n} (omega arith)))
    (cases_lt n 4)

-- ---- a list that is filled in order
pub fill-more : (xs : List ℕ) (i v : ℕ) (f : ℕ → ℕ) → i < length xs → v ≡ f i → ((k : ℕ) → k < i → get_or xs k 0 ≡ f k) → (k : ℕ) → k < i + 1 → get_or (set xs i v) k 0 ≡ f k
fill-more xs i v f within is before k low = at (eqb k i) refl
  where
    at : (t : Bool) → eqb k i ≡ t → get_or (set xs i v) k 0 ≡ f k
    at true e = let same : k ≡ i = eqb-true k i e in ap (λ j. get_or (set xs i v) j 0) same ∙ here xs i v within ∙ is ∙ ap f (sym same)
    at false e = other xs i v k e ∙ before k (below k i low e)
      where
        below : (a b : ℕ) → a < b + 1 → eqb a b ≡ false → a < b
        below a b small differ =
            ⊎_elim (λ (less : a < b). less) (λ (more : b ≤ a). absurd (let same : a ≡ b = omega arith in let clash : true ≡ false = sym (eq-eqb a b same) ∙ differ in elim (false_true clash) [ ])) (cases_lt a b)
          where
            false_true : true ≡ false → ⊥
            false_true e = cc

pub fill-rest : (xs : List ℕ) (i v : ℕ) (g : ℕ → ℕ) → ((k : ℕ) → i ≤ k → get_or xs k 0 ≡ g k) → (k : ℕ) → i + 1 ≤ k → get_or (set xs i v) k 0 ≡ g k
fill-rest xs i v g before k high = other xs i v k (ne_eqb k i (λ same. absurd (omega arith))) ∙ before k (omega arith)

-- a list that was filled to its end
pub settled : (counts seen counts_after seen_after : List ℕ) (halvings i : ℕ) → length counts ≤ i → length seen ≤ i → length counts_after ≡ length counts → length seen_after ≡ length seen
    → ((k : ℕ) → k < i → get_or counts_after k 0 ≡ count_at counts seen halvings k) → ((k : ℕ) → k < i → get_or seen_after k 0 ≡ 0)
    → ((k : ℕ) → i ≤ k → get_or counts_after k 0 ≡ get_or counts k 0) → ((k : ℕ) → i ≤ k → get_or seen_after k 0 ≡ get_or seen k 0) → AreSettled counts seen counts_after seen_after halvings
settled counts seen counts_after seen_after halvings i all all_seen counts_stay seen_stay counts_done seen_done counts_rest seen_rest = record {
  counts_stay = counts_stay;
  seen_stay = seen_stay;
  counts_are = λ k.
      ⊎_elim (counts_done k)
      (λ (high : i ≤ k).
      let none : get_or counts k 0 ≡ 0 = get_or_past counts k 0 (omega arith) in
      counts_rest k high ∙ none ∙ sym (ap (λ n. n / 2 ^ (halvings - get_or seen k 0)) none ∙ zero-shift (halvings - get_or seen k 0)))
      (cases_lt k i);
  seen_are = λ k. ⊎_elim (seen_done k) (λ (high : i ≤ k). seen_rest k high ∙ get_or_past seen k 0 (omega arith)) (cases_lt k i);
}

-- ---- the counts of a list
module _ (counts seen : List ℕ) (known halvings : ℕ) (are : AreCounts counts seen known halvings) where
  pub counts-read : (k : ℕ) → get_or (counts_at counts seen known halvings) k 0 ≡ count_at counts seen halvings k
  counts-read k =
      ⊎_elim (λ (low : k < known). get_or-map-range_with_len (count_at counts seen halvings) 0 known k k 0 low (omega arith))
      (λ (high : known ≤ k).
      get_or_past (counts_at counts seen known halvings) k 0 (omega (arith, length-map-range_with_len (count_at counts seen halvings) 0 known))
      ∙ sym (ap (λ n. n / 2 ^ (halvings - get_or seen k 0)) (are.unknown k high) ∙ zero-shift (halvings - get_or seen k 0)))
      (cases_lt k known)

  pub count-small : (k : ℕ) → count_at counts seen halvings k ≤ 15
  count-small k =
      let small : get_or counts k 0 ≤ 15 = are.small k in
      omega (arith, div-le_self (get_or counts k 0) (2 ^ (halvings - get_or seen k 0)))

  -- one halving more
  pub halved-counts : counts_at counts seen known (halvings + 1) ≡ map (λ count. count / 2) (counts_at counts seen known halvings)
  halved-counts =
      ext_get_or 0 (counts_at counts seen known (halvings + 1)) (map (λ count. count / 2) (counts_at counts seen known halvings))
      (length-map-range_with_len (count_at counts seen (halvings + 1)) 0 known ∙ sym (length-map (counts_at counts seen known halvings) (λ count. count / 2) ∙ length-map-range_with_len (count_at counts seen halvings) 0 known))
      (λ k within.
      let low : k < known = omega (arith, length-map-range_with_len (count_at counts seen (halvings + 1)) 0 known) in
      get_or-map-range_with_len (count_at counts seen (halvings + 1)) 0 known k k 0 low (omega arith)
      ∙ step k
      ∙ ap (λ count. count / 2) (sym (get_or-map-range_with_len (count_at counts seen halvings) 0 known k k 0 low (omega arith)))
      ∙ sym (get_or-map (λ count. count / 2) (counts_at counts seen known halvings) k 0 0 (omega (arith, length-map-range_with_len (count_at counts seen halvings) 0 known))))
    where
      step : (k : ℕ) → count_at counts seen (halvings + 1) k ≡ count_at counts seen halvings k / 2
      step k =
          let most : get_or seen k 0 ≤ halvings = are.past k in
          let d : ℕ = halvings - get_or seen k 0 in
          let more : halvings + 1 - get_or seen k 0 ≡ d + 1 = omega arith in
          ap (λ n. get_or counts k 0 / 2 ^ n) more ∙ ap (λ n. get_or counts k 0 / n) (pow-add 2 d 1) ∙ sym (div-div-eq-div-mul (get_or counts k 0) (2 ^ d) 2)

-- ---- one more request
length-one_more : (k : ℕ) (xs : List ℕ) → length (one_more k xs) ≡ max (length xs) (k + 1)
length-one_more zero [] = refl
length-one_more zero (x ∷ xs) = omega arith
length-one_more (suc k) [] = omega (arith, length-one_more k [])
length-one_more (suc k) (x ∷ xs) = omega (arith, length-one_more k xs)

one_more-here : (k : ℕ) (xs : List ℕ) → get_or (one_more k xs) k 0 ≡ min (get_or xs k 0 + 1) 15
one_more-here zero [] = refl
one_more-here zero (x ∷ xs) = refl
one_more-here (suc k) [] = one_more-here k []
one_more-here (suc k) (x ∷ xs) = one_more-here k xs

one_more-other : (k : ℕ) (xs : List ℕ) (j : ℕ) → (j ≡ k → ⊥) → get_or (one_more k xs) j 0 ≡ get_or xs j 0
one_more-other zero [] zero differ = absurd (differ refl)
one_more-other zero [] (suc j) differ = refl
one_more-other zero (x ∷ xs) zero differ = absurd (differ refl)
one_more-other zero (x ∷ xs) (suc j) differ = refl
one_more-other (suc k) [] zero differ = refl
one_more-other (suc k) [] (suc j) differ = one_more-other k [] j (λ e. differ (ap suc e))
one_more-other (suc k) (x ∷ xs) zero differ = refl
one_more-other (suc k) (x ∷ xs) (suc j) differ = one_more-other k xs j (λ e. differ (ap suc e))

module _ (counts seen : List ℕ) (known halvings : ℕ) (are : AreCounts counts seen known halvings) (k v : ℕ) (within : k < length counts) (v-is : v ≡ min (count_at counts seen halvings k + 1) 15) where
  after_here : count_at (set counts k v) (set seen k halvings) halvings k ≡ v
  after_here =
      let low : k < length seen = omega (arith, are.each_seen) in
      let none : halvings - halvings ≡ 0 = omega arith in
      ap (λ n. n / 2 ^ (halvings - get_or (set seen k halvings) k 0)) (here counts k v within) ∙ ap (λ n. v / 2 ^ (halvings - n)) (here seen k halvings low) ∙ ap (λ n. v / 2 ^ n) none ∙ div-one v

  after_other : (j : ℕ) → (j ≡ k → ⊥) → count_at (set counts k v) (set seen k halvings) halvings j ≡ count_at counts seen halvings j
  after_other j differ =
      ap (λ n. n / 2 ^ (halvings - get_or (set seen k halvings) j 0)) (other counts k v j (ne_eqb j k differ)) ∙ ap (λ n. get_or counts j 0 / 2 ^ (halvings - n)) (other seen k halvings j (ne_eqb j k differ))

  pub raised-are : AreCounts (set counts k v) (set seen k halvings) (max known (k + 1)) halvings
  raised-are = record {
    each_seen = length-set seen k halvings ∙ are.each_seen ∙ sym (length-set counts k v);
    within = (let most : known ≤ length counts = are.within in omega (arith, length-set counts k v));
    few = (let few : length counts ≤ 2 ^ 31 = are.few in omega (arith, length-set counts k v));
    small = λ j. at_small j (eqb j k) refl;
    past = λ j. at_past j (eqb j k) refl;
    unknown = λ j high. other counts k v j (ne_eqb j k (λ e. absurd (omega arith))) ∙ are.unknown j (omega arith);
  }
    where
      at_small : (j : ℕ) (t : Bool) → eqb j k ≡ t → get_or (set counts k v) j 0 ≤ 15
      at_small j true e = let same : get_or (set counts k v) j 0 ≡ v = ap (λ i. get_or (set counts k v) i 0) (eqb-true j k e) ∙ here counts k v within in omega arith
      at_small j false e = let same : get_or (set counts k v) j 0 ≡ get_or counts j 0 = other counts k v j e in let small : get_or counts j 0 ≤ 15 = are.small j in omega arith

      at_past : (j : ℕ) (t : Bool) → eqb j k ≡ t → get_or (set seen k halvings) j 0 ≤ halvings
      at_past j true e =
          let same : get_or (set seen k halvings) j 0 ≡ halvings = ap (λ i. get_or (set seen k halvings) i 0) (eqb-true j k e) ∙ here seen k halvings (omega (arith, are.each_seen)) in omega arith
      at_past j false e = let same : get_or (set seen k halvings) j 0 ≡ get_or seen j 0 = other seen k halvings j e in let past : get_or seen j 0 ≤ halvings = are.past j in omega arith

  pub raised-counts : counts_at (set counts k v) (set seen k halvings) (max known (k + 1)) halvings ≡ one_more k (counts_at counts seen known halvings)
  raised-counts =
      ext_get_or 0 (counts_at (set counts k v) (set seen k halvings) (max known (k + 1)) halvings) (one_more k (counts_at counts seen known halvings))
      (omega (
        arith,
        length-map-range_with_len (count_at (set counts k v) (set seen k halvings) halvings) 0 (max known (k + 1)),
        length-map-range_with_len (count_at counts seen halvings) 0 known,
        length-one_more k (counts_at counts seen known halvings),
      ))
      (λ j _. counts-read (set counts k v) (set seen k halvings) (max known (k + 1)) halvings raised-are j ∙ at j (eqb j k) refl)
    where
      at : (j : ℕ) (t : Bool) → eqb j k ≡ t → count_at (set counts k v) (set seen k halvings) halvings j ≡ get_or (one_more k (counts_at counts seen known halvings)) j 0
      at j true e =
          let same : j ≡ k = eqb-true j k e in
          ap (count_at (set counts k v) (set seen k halvings) halvings) same ∙ after_here ∙ v-is ∙ ap (λ n. min (n + 1) 15) (sym (counts-read counts seen known halvings are k))
          ∙ sym (one_more-here k (counts_at counts seen known halvings)) ∙ ap (λ i. get_or (one_more k (counts_at counts seen known halvings)) i 0) (sym same)
      at j false e =
          after_other j (eqb-false j k e) ∙ sym (counts-read counts seen known halvings are j) ∙ sym (one_more-other k (counts_at counts seen known halvings) j (eqb-false j k e))

-- ---- all halvings are done
module _ (counts seen counts_after seen_after : List ℕ) (known halvings : ℕ) (are : AreCounts counts seen known halvings) (settled_are : AreSettled counts seen counts_after seen_after halvings) where
  pub settled-counts : counts_at counts_after seen_after known 0 ≡ counts_at counts seen known halvings
  settled-counts =
      ext_get_or 0 (counts_at counts_after seen_after known 0) (counts_at counts seen known halvings)
      (length-map-range_with_len (count_at counts_after seen_after 0) 0 known ∙ sym (length-map-range_with_len (count_at counts seen halvings) 0 known))
      (λ k within.
      let low : k < known = omega (arith, length-map-range_with_len (count_at counts_after seen_after 0) 0 known) in
      get_or-map-range_with_len (count_at counts_after seen_after 0) 0 known k k 0 low (omega arith)
      ∙ ap (λ n. get_or counts_after k 0 / 2 ^ (0 - n)) (settled_are.seen_are k) ∙ div-one (get_or counts_after k 0) ∙ settled_are.counts_are k
      ∙ sym (get_or-map-range_with_len (count_at counts seen halvings) 0 known k k 0 low (omega arith)))

  pub settled-are : AreCounts counts_after seen_after known 0
  settled-are = record {
    each_seen = settled_are.seen_stay ∙ are.each_seen ∙ sym settled_are.counts_stay;
    within = (let most : known ≤ length counts = are.within in omega (arith, settled_are.counts_stay));
    few = (let few : length counts ≤ 2 ^ 31 = are.few in omega (arith, settled_are.counts_stay));
    small = λ k. (let most : count_at counts seen halvings k ≤ 15 = count-small counts seen known halvings are k in omega (arith, settled_are.counts_are k));
    past = λ k. omega (arith, settled_are.seen_are k);
    unknown = λ k high. settled_are.counts_are k ∙ ap (λ n. n / 2 ^ (halvings - get_or seen k 0)) (are.unknown k high) ∙ zero-shift (halvings - get_or seen k 0);
  }

-- ---- room for more objects
-- with zeros up to this length
abbrev pub longer : ℕ → List ℕ → List ℕ
longer objects cells = cells ++ replicate (objects - length cells) 0

module _ (counts seen : List ℕ) (known halvings : ℕ) (are : AreCounts counts seen known halvings) (objects : ℕ) (more : length counts ≤ objects) where
  more-seen : length seen ≤ objects
  more-seen = omega (arith, are.each_seen)

  grown-count : (k : ℕ) → count_at (longer objects counts) (longer objects seen) halvings k ≡ count_at counts seen halvings k
  grown-count k =
      ap (λ n. n / 2 ^ (halvings - get_or (longer objects seen) k 0)) (grown-cell counts (objects - length counts) k)
      ∙ ap (λ n. get_or counts k 0 / 2 ^ (halvings - n)) (grown-cell seen (objects - length seen) k)

  pub grown-counts : counts_at (longer objects counts) (longer objects seen) known halvings ≡ counts_at counts seen known halvings
  grown-counts =
      ext_get_or 0 (counts_at (longer objects counts) (longer objects seen) known halvings) (counts_at counts seen known halvings)
      (length-map-range_with_len (count_at (longer objects counts) (longer objects seen) halvings) 0 known ∙ sym (length-map-range_with_len (count_at counts seen halvings) 0 known))
      (λ k within.
      let low : k < known = omega (arith, length-map-range_with_len (count_at (longer objects counts) (longer objects seen) halvings) 0 known) in
      get_or-map-range_with_len (count_at (longer objects counts) (longer objects seen) halvings) 0 known k k 0 low (omega arith)
      ∙ grown-count k ∙ sym (get_or-map-range_with_len (count_at counts seen halvings) 0 known k k 0 low (omega arith)))

  pub grown-are : objects ≤ 2 ^ 31 → AreCounts (longer objects counts) (longer objects seen) known halvings
  grown-are few = record {
    each_seen = grown-long seen objects more-seen ∙ sym (grown-long counts objects more);
    within = (let most : known ≤ length counts = are.within in omega (arith, grown-long counts objects more));
    few = omega (arith, grown-long counts objects more);
    small = λ k. (let small : get_or counts k 0 ≤ 15 = are.small k in omega (arith, grown-cell counts (objects - length counts) k));
    past = λ k. (let past : get_or seen k 0 ≤ halvings = are.past k in omega (arith, grown-cell seen (objects - length seen) k));
    unknown = λ k high. grown-cell counts (objects - length counts) k ∙ are.unknown k high;
  }

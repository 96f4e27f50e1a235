-- The prices: steps at which arcs lost flow, chosen from the last to the first.
use Rattle.std.proofs.Common.{◌≡◌, ◌≢◌, ℕ, suc, ◌+◌, ◌-◌, ◌<◌, ◌≤◌, ◌∙◌, inl, inr, sym, refl, ap, List, [], ◌∷◌, length, arith, ⊎_elim, get_or, set, sum, drop, slice_range, length-set, replicate}
use Rattle.std.proofs.lemmas.Bool.{cases_lt, cases_eq}
use Rattle.std.proofs.lemmas.List.{get_or_past, get_or-take, get_or-drop, length-take, get_or-replicate, length-replicate}
use Rattle.std.proofs.lemmas.List.Sums.{sum_by-cons, get_or-le-sum_by}
use Rattle.flow_uniform.specs.Cuts.{AreChosen}
use Rattle.flow_model.proofs.Lists.{set_at}

pub chosen_none : (cost steps : ℕ) (cuts : List ℕ) → length cuts ≡ steps → AreChosen cost cuts (replicate steps 0) steps steps
chosen_none cost steps cuts same =
    let zero_at : (s : ℕ) → get_or (replicate {A = ℕ} steps 0) s 0 ≡ 0 = λ s.
    ⊎_elim (λ (h : s < steps). get_or-replicate steps s 0 0 h) (λ (h : steps ≤ s). get_or_past (replicate steps 0) s 0 (omega (arith, length-replicate {A = ℕ} steps 0))) (cases_lt s steps) in
    record {
      each_step = length-replicate {A = ℕ} steps 0 ∙ sym same;
      zeros = λ s h. zero_at s;
      two = λ s. inl (zero_at s);
      cut = λ s h. absurd (omega (arith, zero_at s));
      passed = λ s h some none. absurd (omega (arith, get_or_past cuts s 0 (omega arith)));
      apart = λ s n h k l. absurd (omega (arith, zero_at s));
      next_after = omega arith;
      next_first = λ n h. absurd (omega (arith, zero_at n));
      next_is = λ h. absurd (omega arith);
    }

-- step t is chosen
pub chosen_yes : (cost : ℕ) (cuts prices : List ℕ) (t next : ℕ) → AreChosen cost cuts prices (t + 1) next → t < length cuts → 0 < cost → 0 < get_or cuts t 0 → get_or cuts t 0 ≤ next
    → AreChosen cost cuts (set prices t cost) t t
chosen_yes cost cuts prices t next before within dear some low =
    let new : List ℕ = set prices t cost in
    let at : (s : ℕ) → (s ≡ t → get_or new s 0 ≡ cost) × (s ≢ t → get_or new s 0 ≡ get_or prices s 0) = λ s. set_at prices t s cost (omega (arith, before.each_step)) in
    let at_t : get_or new t 0 ≡ cost = (at t).0 refl in
    let after : (n : ℕ) → 0 < get_or new n 0 → n ≢ t → next ≤ n = λ n h other. before.next_first n (omega (arith, (at n).1 other)) in
    let stays : (n : ℕ) → 0 < get_or prices n 0 → 0 < get_or new n 0 = λ n h. ⊎_elim (λ (e : n ≡ t). omega (arith, (at n).0 e)) (λ (o : n ≢ t). omega (arith, (at n).1 o)) (cases_eq n t) in
    record {
      each_step = length-set prices t cost ∙ before.each_step;
      zeros = λ s h. omega (arith, (at s).1 (λ e. omega arith), before.zeros s (omega arith));
      two = λ s. ⊎_elim (λ (e : s ≡ t). inr ((at s).0 e)) (λ (o : s ≢ t). ⊎_elim (λ (z : get_or prices s 0 ≡ 0). inl ((at s).1 o ∙ z)) (λ (k : get_or prices s 0 ≡ cost). inr ((at s).1 o ∙ k)) (before.two s)) (cases_eq s t);
      cut = λ s h. ⊎_elim (λ (e : s ≡ t). omega (arith, ap (λ k. get_or cuts k 0) e)) (λ (o : s ≢ t). before.cut s (omega (arith, (at s).1 o))) (cases_eq s t);
      passed = λ s h is_cut none.
          ⊎_elim
          (λ (e : s ≡ t). absurd (omega (arith, (at s).0 e)))
          (λ (o : s ≢ t).
          let found = before.passed s (omega arith) is_cut (omega (arith, (at s).1 o)) in
          (found.0, found.1, found.2, stays found.0 found.3))
          (cases_eq s t);
      apart = λ s n h first second.
          ⊎_elim
          (λ (e : s ≡ t). omega (arith, ap (λ k. get_or cuts k 0) e, after n second (λ f. omega arith)))
          (λ (o : s ≢ t).
          let late : t < s = ⊎_elim (λ (k : s < t). absurd (omega (arith, (at s).1 o, before.zeros s (omega arith)))) (λ (k : t ≤ s). omega arith) (cases_lt s t) in
          before.apart s n h (omega (arith, (at s).1 o)) (omega (arith, (at n).1 (λ f. omega arith))))
          (cases_eq s t);
      next_after = omega arith;
      next_first = λ n h. ⊎_elim (λ (e : n ≡ t). omega arith) (λ (o : n ≢ t). omega (arith, after n h o, before.next_after)) (cases_eq n t);
      next_is = λ h. omega (arith, at_t);
    }

-- step t is not chosen: no arc lost flow there, or a chosen step comes before the cut arc ends
pub chosen_no : (cost : ℕ) (cuts prices : List ℕ) (t next : ℕ) → AreChosen cost cuts prices (t + 1) next → (0 < get_or cuts t 0 → (next < get_or cuts t 0) × (get_or cuts t 0 ≤ length cuts)) → AreChosen cost cuts prices t next
chosen_no cost cuts prices t next before skip =
    record {
      each_step = before.each_step;
      zeros = λ s h. before.zeros s (omega arith);
      two = before.two;
      cut = before.cut;
      passed = λ s h is_cut none.
          ⊎_elim
          (λ (e : s ≡ t).
          let at : get_or cuts s 0 ≡ get_or cuts t 0 = ap (λ k. get_or cuts k 0) e in
          let both = skip (omega (arith, at)) in
          (next, omega (arith, before.next_after), omega (arith, at, both.0), before.next_is (omega (arith, both.0, both.1))))
          (λ (o : s ≢ t). before.passed s (omega arith) is_cut none)
          (cases_eq s t);
      apart = before.apart;
      next_after = omega (arith, before.next_after);
      next_first = before.next_first;
      next_is = before.next_is;
    }

-- numbers of which at most one is not 0
no_more : (xs : List ℕ) → ((i : ℕ) → get_or xs i 0 ≡ 0) → sum xs ≡ 0
no_more [] zeros = refl
no_more (x ∷ xs) zeros = omega (arith, sum_by-cons (λ (n : ℕ). n) x xs, zeros 0, no_more xs (λ i. zeros (suc i)))

at_most_one : (cost : ℕ) (xs : List ℕ) → ((i : ℕ) → get_or xs i 0 ≤ cost) → ((i j : ℕ) → i < j → 0 < get_or xs i 0 → 0 < get_or xs j 0 → ⊥) → sum xs ≤ cost
at_most_one cost [] low apart = omega arith
at_most_one cost (x ∷ xs) low apart =
    ⊎_elim
    (λ (h : 0 < x).
    let none : (i : ℕ) → get_or xs i 0 ≡ 0 = λ i. ⊎_elim (λ (k : 0 < get_or xs i 0). absurd (apart 0 (suc i) (omega arith) h k)) (λ (k : get_or xs i 0 ≤ 0). omega arith) (cases_lt 0 (get_or xs i 0)) in
    omega (arith, sum_by-cons (λ (n : ℕ). n) x xs, no_more xs none, low 0))
    (λ (h : x ≤ 0). omega (arith, sum_by-cons (λ (n : ℕ). n) x xs, at_most_one cost xs (λ i. low (suc i)) (λ i j l. apart (suc i) (suc j) (omega arith))))
    (cases_lt 0 x)

-- what stands in a range
slice_at : (xs : List ℕ) (a b i : ℕ) → i < b - a → get_or (slice_range xs a b) i 0 ≡ get_or xs (a + i) 0
slice_at xs a b i h = get_or-take (b - a) (drop a xs) i 0 h ∙ get_or-drop a xs i 0

slice_past : (xs : List ℕ) (a b i : ℕ) → b - a ≤ i → get_or (slice_range xs a b) i 0 ≡ 0
slice_past xs a b i h = get_or_past (slice_range xs a b) i 0 (omega (arith, length-take (b - a) (drop a xs)))

pub price_some : (prices : List ℕ) (a b n : ℕ) → a ≤ n → n < b → get_or prices n 0 ≤ sum (slice_range prices a b)
price_some prices a b n low high =
    let own : get_or (slice_range prices a b) (n - a) 0 ≡ get_or prices n 0 = slice_at prices a b (n - a) (omega arith) ∙ ap (λ k. get_or prices k 0) (omega arith) in
    ⊎_elim
    (λ (h : n - a < length (slice_range prices a b)). omega (arith, own, get_or-le-sum_by (λ (k : ℕ). k) (slice_range prices a b) (n - a) 0 h))
    (λ (h : length (slice_range prices a b) ≤ n - a). omega (arith, own, get_or_past (slice_range prices a b) (n - a) 0 h))
    (cases_lt (n - a) (length (slice_range prices a b)))

pub price_one : (cost : ℕ) (prices : List ℕ) (a b : ℕ) → ((n : ℕ) → get_or prices n 0 ≤ cost) → ((s n : ℕ) → a ≤ s → s < n → n < b → 0 < get_or prices s 0 → 0 < get_or prices n 0 → ⊥) → sum (slice_range prices a b) ≤ cost
price_one cost prices a b low apart =
    at_most_one cost (slice_range prices a b)
    (λ i. ⊎_elim (λ (h : i < b - a). omega (arith, slice_at prices a b i h, low (a + i))) (λ (h : b - a ≤ i). omega (arith, slice_past prices a b i h)) (cases_lt i (b - a)))
    (λ i j h first second.
    ⊎_elim
    (λ (k : j < b - a).
    apart (a + i) (a + j) (omega arith) (omega arith) (omega arith) (omega (arith, slice_at prices a b i (omega arith))) (omega (arith, slice_at prices a b j k)))
    (λ (k : b - a ≤ j). absurd (omega (arith, slice_past prices a b j k)))
    (cases_lt j (b - a)))

-- The node after one step more.
use Rattle.std.proofs.Common.{◌≡◌, ◌≢◌, ℕ, ◌+◌, ◌<◌, ◌≤◌, ◌∙◌, sym, refl, ap, Bool, true, false, List, length, arith, ⊎_elim, get_or, set, slice_index, slice_index_or}
use Rattle.std.proofs.lemmas.Bool.{cases_eq}
use Rattle.flow_model.proofs.Lists.{set_at}
use Rattle.flow_sparse.specs.Contractions.{IsNumbering, IsOpen}
use Rattle.flow_sparse.proofs.Numbered.{rises}

module _ (t : ℕ) (opens : List Bool) (nodes steps_of : List ℕ) (count : ℕ) (is : IsNumbering t opens nodes steps_of count) (within : t + 1 < length nodes) where
  read : (x v : ℕ) → (v ≡ t + 1 → get_or (set nodes (t + 1) x) v 0 ≡ x) × (v ≢ t + 1 → get_or (set nodes (t + 1) x) v 0 ≡ get_or nodes v 0)
  read x v = set_at nodes (t + 1) v x within

  kept : (x v : ℕ) → v ≤ t → get_or (set nodes (t + 1) x) v 0 ≡ get_or nodes v 0
  kept x v h = (read x v).1 (λ e. omega arith)

  pub numbered_shut : slice_index_or opens t false ≡ false → IsNumbering (t + 1) opens (set nodes (t + 1) count) steps_of count
  numbered_shut shut =
      record {
        first = omega (arith, kept count 0 (omega arith), is.first);
        over_open = λ s h is_open.
            ⊎_elim
            (λ (e : s ≡ t). absurd (true_false (sym is_open ∙ ap (λ k. slice_index_or opens k false) e ∙ shut)))
            (λ (n : s ≢ t). omega (arith, kept count (s + 1) (omega arith), kept count s (omega arith), is.over_open s (omega arith) is_open))
            (cases_eq s t);
        over_shut = λ s h is_shut.
            ⊎_elim
            (λ (e : s ≡ t). let e' : s + 1 ≡ t + 1 = omega arith in omega (arith, (read count (s + 1)).0 e', kept count s (omega arith), is.last, ap (slice_index nodes) e))
            (λ (n : s ≢ t). omega (arith, kept count (s + 1) (omega arith), kept count s (omega arith), is.over_shut s (omega arith) is_shut))
            (cases_eq s t);
        last = (read count (t + 1)).0 refl;
        step_of = λ s h is_open.
            ⊎_elim
            (λ (e : s ≡ t). absurd (true_false (sym is_open ∙ ap (λ k. slice_index_or opens k false) e ∙ shut)))
            (λ (n : s ≢ t). ap (slice_index steps_of) (kept count s (omega arith)) ∙ is.step_of s (omega arith) is_open)
            (cases_eq s t);
        within = λ k h. omega (arith, is.within k h);
        is_open = is.is_open;
        node_of = λ k h. kept count (slice_index steps_of k) (omega (arith, is.within k h)) ∙ is.node_of k h;
      }
    where
      true_false : true ≡ false → ⊥
      true_false e = absurd (cc)

  pub numbered_open : count < length steps_of → IsOpen opens t → IsNumbering (t + 1) opens (set nodes (t + 1) (count + 1)) (set steps_of count t) (count + 1)
  numbered_open room open_now =
      record {
        first = omega (arith, kept (count + 1) 0 (omega arith), is.first);
        over_open = λ s h is_open.
            ⊎_elim
            (λ (e : s ≡ t). let e' : s + 1 ≡ t + 1 = omega arith in omega (arith, (read (count + 1) (s + 1)).0 e', kept (count + 1) s (omega arith), is.last, ap (slice_index nodes) e))
            (λ (n : s ≢ t). omega (arith, kept (count + 1) (s + 1) (omega arith), kept (count + 1) s (omega arith), is.over_open s (omega arith) is_open))
            (cases_eq s t);
        over_shut = λ s h is_shut.
            ⊎_elim
            (λ (e : s ≡ t). absurd (true_false (sym open_now ∙ sym (ap (λ k. slice_index_or opens k false) e) ∙ is_shut)))
            (λ (n : s ≢ t). omega (arith, kept (count + 1) (s + 1) (omega arith), kept (count + 1) s (omega arith), is.over_shut s (omega arith) is_shut))
            (cases_eq s t);
        last = (read (count + 1) (t + 1)).0 refl;
        step_of = λ s h is_open.
            ap (slice_index (set steps_of count t)) (kept (count + 1) s (omega arith))
            ∙ ⊎_elim
            (λ (e : s ≡ t). (step (slice_index nodes s)).0 (ap (slice_index nodes) e ∙ is.last) ∙ sym e)
            (λ (n : s ≢ t). (step (slice_index nodes s)).1 (λ same. omega (arith, same, low s (omega arith) is_open)) ∙ is.step_of s (omega arith) is_open)
            (cases_eq s t);
        within = λ k h. ⊎_elim (λ (e : k ≡ count). omega (arith, (step k).0 e)) (λ (n : k ≢ count). omega (arith, (step k).1 n, is.within k (omega arith))) (cases_eq k count);
        is_open = λ k h.
            ⊎_elim
            (λ (e : k ≡ count). ap (λ n. slice_index_or opens n false) ((step k).0 e) ∙ open_now)
            (λ (n : k ≢ count). ap (λ n. slice_index_or opens n false) ((step k).1 n) ∙ is.is_open k (omega arith))
            (cases_eq k count);
        node_of = λ k h.
            ⊎_elim
            (λ (e : k ≡ count). ap (slice_index (set nodes (t + 1) (count + 1))) ((step k).0 e) ∙ kept (count + 1) t (omega arith) ∙ is.last ∙ sym e)
            (λ (n : k ≢ count).
            ap (slice_index (set nodes (t + 1) (count + 1))) ((step k).1 n) ∙ kept (count + 1) (slice_index steps_of k) (omega (arith, is.within k (omega arith))) ∙ is.node_of k (omega arith))
            (cases_eq k count);
      }
    where
      true_false : true ≡ false → ⊥
      true_false e = absurd (cc)

      step : (k : ℕ) → (k ≡ count → get_or (set steps_of count t) k 0 ≡ t) × (k ≢ count → get_or (set steps_of count t) k 0 ≡ get_or steps_of k 0)
      step k = set_at steps_of count k t room

      low : (s : ℕ) → s < t → IsOpen opens s → slice_index nodes s < count
      low s h is_open = omega (arith, is.over_open s h is_open, is.last, rises t opens nodes steps_of count is (s + 1) t (omega arith) (omega arith))

-- no step was numbered
pub none_numbered : (opens : List Bool) (nodes steps_of : List ℕ) → slice_index nodes 0 ≡ 0 → IsNumbering 0 opens nodes steps_of 0
none_numbered opens nodes steps_of first =
    record {
      first = first;
      over_open = λ s h is_open. absurd (omega arith);
      over_shut = λ s h is_shut. absurd (omega arith);
      last = first;
      step_of = λ s h is_open. absurd (omega arith);
      within = λ k h. absurd (omega arith);
      is_open = λ k h. absurd (omega arith);
      node_of = λ k h. absurd (omega arith);
    }

-- A ring with its marks alone.
use Rattle.std.proofs.Common.{◌≡◌, ⊎_elim, ℕ, ◌+◌, ◌<◌, ◌≤◌, ◌^◌, ◌∙◌, sym, refl, ap, subst, Bool, true, false, ◌||◌, cond, eqb, List, [], ◌∷◌, length, get_or, replicate, arith}
use Rattle.std.proofs.lemmas.Bool.{eqb-true, eq-eqb, ne_eqb, or_from, or_left, cases_lt}
use Rattle.std.proofs.lemmas.List.{length-replicate, get_or-replicate, get_or_past}
use Rattle.linked_nodes.specs.declared.nodes.Node.{Node}
use Rattle.linked_nodes.specs.Nodes.{Joins}
use Rattle.replay_queues.specs.Rings.{is_among}
use Rattle.replay_queues.proofs.RingLemmas.{after-here, after-other, before-here, before-other}
use Rattle.replay_tinylfu.specs.declared.ring.Load.{Load}
use Rattle.replay_tinylfu.specs.Marks.{up_to, past}
use Rattle.replay_tinylfu.specs.Queues.{window_of, main_numbers, probation_of, protected_of}
use Rattle.replay_tinylfu.specs.Loads.{IsRing, IsLoad, IsKept}

abbrev pub no_load : Load
no_load = record { entries = 0; bytes = 0 }

zeros : (n q : ℕ) → get_or {A = ℕ} (replicate n 0) q 0 ≡ 0
zeros n q =
    ⊎_elim (λ (within : q < n). get_or-replicate n q 0 0 within) (λ (past : n ≤ q). get_or_past (replicate n 0) q 0 (omega (arith, length-replicate {A = ℕ} n 0))) (cases_lt q n)

module _ (n : ℕ) (few : n ≤ 2 ^ 31) where
  abbrev pub marks : List ℕ
  marks = (n + 1) ∷ (n + 2) ∷ []

  differ : (a b : ℕ) → (a ≡ b → ⊥) → eqb a b ≡ false
  differ a b apart = ne_eqb a b apart

  pub no_window : window_of n marks ≡ []
  no_window = ap (λ b. cond b [] ((n + 1) ∷ up_to (n + 1) ((n + 2) ∷ []))) (eq-eqb (n + 1) (n + 1) refl)

  main_marks : main_numbers n marks ≡ (n + 2) ∷ []
  main_marks = ap (λ b. cond b ((n + 2) ∷ []) (past (n + 1) ((n + 2) ∷ []))) (eq-eqb (n + 1) (n + 1) refl)

  pub no_probation : probation_of n marks ≡ []
  no_probation = ap (up_to (n + 2)) main_marks ∙ ap (λ b. cond b [] ((n + 2) ∷ [])) (eq-eqb (n + 2) (n + 2) refl)

  pub no_protected : protected_of n marks ≡ []
  no_protected = ap (past (n + 2)) main_marks ∙ ap (λ b. cond b [] []) (eq-eqb (n + 2) (n + 2) refl)

  module _ (first second third last : List Node) (each : length first ≡ n + 3) (one : Joins first second n (n + 1)) (two : Joins second third (n + 1) (n + 2)) (three : Joins third last (n + 2) n) where
    pub empty-ring : IsRing last n marks
    empty-ring = record {
      few = few;
      each_node = three.nodes_stay ∙ two.nodes_stay ∙ one.nodes_stay ∙ each;
      linked = (
        after-other third last (n + 2) n three n (differ n (n + 2) (λ e. absurd (omega arith))) ∙ after-other second third (n + 1) (n + 2) two n (differ n (n + 1) (λ e. absurd (omega arith))) ∙ after-here first second n (n + 1) one n refl,
        before-other third last (n + 2) n three (n + 1) (differ (n + 1) n (λ e. absurd (omega arith))) ∙ before-other second third (n + 1) (n + 2) two (n + 1) (differ (n + 1) (n + 2) (λ e. absurd (omega arith))) ∙ before-here first second n (n + 1) one (n + 1) refl,
        (
          after-other third last (n + 2) n three (n + 1) (differ (n + 1) (n + 2) (λ e. absurd (omega arith))) ∙ after-here second third (n + 1) (n + 2) two (n + 1) refl,
          before-other third last (n + 2) n three (n + 2) (differ (n + 2) n (λ e. absurd (omega arith))) ∙ before-here second third (n + 1) (n + 2) two (n + 2) refl,
          (after-here third last (n + 2) n three (n + 2) refl, before-here third last (n + 2) n three n refl),
        ),
      );
      apart = (or_from (eqb (n + 2) (n + 1)) false (differ (n + 2) (n + 1) (λ e. absurd (omega arith))) refl, (refl, tt));
      first_apart = or_from (eqb (n + 1) n) (eqb (n + 2) n || false) (differ (n + 1) n (λ e. absurd (omega arith))) (or_from (eqb (n + 2) n) false (differ (n + 2) n (λ e. absurd (omega arith))) refl);
      below = λ k there. low k (eqb (n + 1) k) refl (eqb (n + 2) k) refl there;
      second_mark = or_left (eqb (n + 1) (n + 1)) (eqb (n + 2) (n + 1) || false) (eq-eqb (n + 1) (n + 1) refl);
      third_mark = ap (λ ks. is_among ks (n + 2)) main_marks ∙ or_left (eqb (n + 2) (n + 2)) false (eq-eqb (n + 2) (n + 2) refl);
    }
      where
        low : (k : ℕ) (a : Bool) → eqb (n + 1) k ≡ a → (b : Bool) → eqb (n + 2) k ≡ b → is_among marks k ≡ true → k < n + 3
        low k true is b _ there = let same : n + 1 ≡ k = eqb-true (n + 1) k is in omega arith
        low k false is true h there = let same : n + 2 ≡ k = eqb-true (n + 2) k h in omega arith
        low k false is false h there =
            let clash : true ≡ false = sym there ∙ or_from (eqb (n + 1) k) (eqb (n + 2) k || false) is (or_from (eqb (n + 2) k) false h refl) in cc

    pub empty-kept : IsKept last (replicate n 0) n no_load no_load no_load marks
    empty-kept = record {
      ring = empty-ring;
      each_object = length-replicate {A = ℕ} n 0;
      places_are = record {
        in_window = λ k. ap (λ v. eqb v 1) (zeros n k) ∙ ap (λ ks. is_among ks k) (sym no_window);
        on_probation = λ k. ap (λ v. eqb v 2) (zeros n k) ∙ ap (λ ks. is_among ks k) (sym no_probation);
        is_protected = λ k. ap (λ v. eqb v 3) (zeros n k) ∙ ap (λ ks. is_among ks k) (sym no_protected);
      };
      window_is = subst (λ ks. IsLoad last ks no_load) (sym no_window) (record { entries_are = refl; bytes_are = refl });
      probation_is = subst (λ ks. IsLoad last ks no_load) (sym no_probation) (record { entries_are = refl; bytes_are = refl });
      protected_is = subst (λ ks. IsLoad last ks no_load) (sym no_protected) (record { entries_are = refl; bytes_are = refl });
    }

-- What the report of a curve shows.
use Rattle.std.proofs.Common.{◌≡◌, ◌∙◌, ℕ, ◌-◌, ◌/◌, ◌==◌, ap, sym, refl, cond, nat_lt, List, [], ◌∷◌, map, filter, codes}
use Rattle.std.specs.List.{range_with_len}
use Rattle.std.proofs.lemmas.List.Elements.{filter_agree}
use Rattle.cache_rules.specs.Stored.{Requests}
use Rattle.cache_model.specs.Texts.{entry}
use Rattle.stack_curve.specs.Curves.{IsCurve, IsOfLru, Points, first_size, hits_with}
use Rattle.stack_curve.specs.Distances.{curve_hits}
use Rattle.stack_curve.specs.Laws.{HaveSize}
use Rattle.bound_report.specs.Reports.{trace_line}
use Rattle.bound_report.specs.declared.curves.CurveFacts.{CurveFacts}
use Rattle.bound_report.specs.Curves.{adds_hits, curve_lines, slots_line, slots_lines}
use Rattle.bound_report.specs.Rendering.{rendered}
use Rattle.trace_any.specs.declared.format.Format.{Format}
use Rattle.trace_any.specs.Readers.{Notes}
use Rattle.run_counts.specs.Countings.{counting_from}
use Rattle.bound_run.specs.Curves.{IsCurveText, curve_facts}

-- two functions that agree give the same list
map_agree : {A B : Type 0} (f g : A → B) → ((x : A) → f x ≡ g x) → (xs : List A) → map f xs ≡ map g xs
map_agree f g same [] = refl
map_agree f g same (x ∷ xs) = ap (λ y. y ∷ map f xs) (same x) ∙ ap (λ ys. g x ∷ ys) (map_agree f g same xs)

-- the lines are those of any function with the same hits
slots_lines-agree : (f g : ℕ → ℕ) → ((k : ℕ) → f k ≡ g k) → (most : ℕ) → slots_lines f most ≡ slots_lines g most
slots_lines-agree f g same most =
    map_agree (λ k. slots_line k (f k)) (λ k. slots_line k (g k)) (λ k. ap (slots_line k) (same k)) (filter (adds_hits f) (range_with_len 1 most))
    ∙ ap (map (λ k. slots_line k (g k)))
    (filter_agree (adds_hits f) (adds_hits g) (λ k. ap (λ n. nat_lt n (f k)) (same (k - 1)) ∙ ap (λ n. nat_lt (g (k - 1)) n) (same k)) (range_with_len 1 most))

-- the report of a curve, from what the curve is
pub curve_shown : (format : Format) (trace : Requests) (notes : Notes) (points : Points) (text : List ℕ) → HaveSize (first_size trace.objects) trace.objects → IsCurve trace.objects trace.fills points → IsOfLru trace.objects trace.fills points
    → text ≡ rendered (counting_from format 0 trace notes.noted) (curve_lines (curve_facts trace notes.dropped) points.size (hits_with points)) → IsCurveText format trace notes text
curve_shown format trace notes points text one_size of_trace of_lru is =
    let facts : CurveFacts = curve_facts trace notes.dropped in
    record {
      one_size = one_size;
      text_is = is ∙ ap (rendered (counting_from format 0 trace notes.noted)) (ap (λ s. curve_lines facts s (hits_with points)) of_trace.size_is
          ∙ ap (λ ls. record { front = trace_line facts.requests facts.objects facts.dropped ∷ []; head = entry (codes "size") (first_size trace.objects) ∷ []; back = ls }) (slots_lines-agree (hits_with points) (curve_hits trace.objects trace.fills) of_trace.hits_are facts.objects));
      of_lru = λ capacity positive.
          ap (λ n. cond (first_size trace.objects == 0) 0 n) (sym (of_trace.hits_are (capacity / first_size trace.objects)))
          ∙ ap (λ s. cond (s == 0) 0 (hits_with points (capacity / s))) (sym of_trace.size_is)
          ∙ of_lru capacity positive;
    }

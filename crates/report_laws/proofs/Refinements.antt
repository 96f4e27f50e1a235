-- The text of a refinement is read in one way.
use Rattle.std.proofs.Common.{◌≡◌, ℕ, ◌∙◌, sym, refl, ap, List, [], ◌∷◌, ◌++◌, get_or, codes}
use Rattle.std.proofs.lemmas.List.Elements.{recursion_from_All}
use Rattle.cache_model.specs.declared.certificates.Header.{Header}
use Rattle.cache_model.specs.Texts.{text_of}
use Rattle.cert_checker.specs.declared.verdict.Verdict.{Verdict}
use Rattle.bound_report.specs.declared.rendering.Counting.{Counting}
use Rattle.bound_report.specs.Refinements.{refined_line, refined_lines}
use Rattle.bound_report.specs.Rendering.{rendered}
use Rattle.bound_report.specs.Reports.{capacity_line}
use Rattle.report_laws.specs.Laws.{ArePrintable, IsPrintable, RefinementsHaveOneReading, header_numbers, verdict_numbers}
use Rattle.report_laws.proofs.Lines.{Lacks, Part, Small, line_lacks, numbers_apart}
use Rattle.report_laws.proofs.ReportLines.{IsReport, Report, after_body, body, lines_of, none_behind, rendered-lines, reports_apart}
use Rattle.report_laws.proofs.SharedLines.{ratio_parts}
use Rattle.report_laws.proofs.Verdicts.{SmallVerdict, other_lines, report_of, same_verdicts, small_verdict, verdict_lacks, verdict_otherwise, verdict_trace}

-- ---- the line of the two bounds
abbrev refined_parts : List Part
refined_parts = ratio_parts (codes "refined from") ++ ratio_parts (codes " to")

abbrev refined_numbers : ℕ → Header → List ℕ
refined_numbers read h = read ∷ h.denominator ∷ h.upper ∷ h.denominator ∷ []

refined_small : (read : ℕ) (h : Header) → IsPrintable read → Small (header_numbers h) → Small (refined_numbers read h)
refined_small read h small (requests, (capacity, (unit, (denominator, (upper, values))))) = (small, (denominator, (upper, (denominator, tt))))

-- ---- the report
-- the numbers of its lines
record SmallRefined (read : ℕ) (x : Verdict) (dropped : ℕ) : Type 0 where
  first : Small (refined_numbers read x.header)
  verdict : SmallVerdict x dropped

module _ (read : ℕ) (x : Verdict) (m : ℕ) (c : Counting) (printable : ArePrintable c (read ∷ verdict_numbers x m)) where
  small_all : SmallRefined read x m
  small_all =
      let all : Small (read ∷ verdict_numbers x m) = recursion_from_All IsPrintable (read ∷ verdict_numbers x m) printable.3 in
      let verdict = small_verdict x m all.1 in
      record { first = refined_small read x.header all.0 verdict.header; verdict = verdict }

  first_lacks : Lacks 10 (refined_line read x.header)
  first_lacks = line_lacks refined_parts (refined_numbers read x.header) refl small_all.first

  -- the report alone
  abbrev alone : Report
  alone = report_of x c (refined_line read x.header ∷ verdict_trace x m ∷ [])

  is_alone : IsReport alone
  is_alone =
      let lack = verdict_lacks x m small_all.verdict in
      record {
        before = (first_lacks, (lack.0, tt));
        counted = printable.0;
        body = lack.1;
        stale = printable.2;
        no_stale = verdict_otherwise x (after_body alone);
        written = tt;
        warmup = printable.1;
        behind = tt;
        no_warmup = none_behind (codes "warmup");
        no_writes = none_behind (codes "writes");
      }

  text_alone : rendered c (refined_lines read x m) ≡ text_of (lines_of alone)
  text_alone = rendered-lines c (refined_line read x.header ∷ verdict_trace x m ∷ []) (capacity_line x.header.capacity x.header.objective ∷ []) (other_lines x)

pub refinements_apart : RefinementsHaveOneReading
refinements_apart read other x y m n c d printable printable' e =
    let r = alone read x m c printable in
    let s = alone other y n d printable' in
    let small = small_all read x m c printable in
    let small' = small_all other y n d printable' in
    let same = reports_apart r s (is_alone read x m c printable) (is_alone other y n d printable') refl refl (sym (text_alone read x m c printable) ∙ e ∙ text_alone other y n d printable') in
    let before : refined_line read x.header ∷ verdict_trace x m ∷ [] ≡ refined_line other y.header ∷ verdict_trace y n ∷ [] = same.before in
    let rest : body r ≡ body s = same.body in
    let numbers : refined_numbers read x.header ≡ refined_numbers other y.header
    = numbers_apart refined_parts (refined_numbers read x.header) (refined_numbers other y.header) refl refl refl small.first small'.first (ap (λ ls. get_or ls 0 []) before) in
    (cc, same_verdicts x y m n small.verdict small'.verdict cc, same.counting)

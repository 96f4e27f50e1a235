-- What a check prints is read in one way.
use Rattle.std.proofs.Common.{◌≡◌, ℕ, ◌∙◌, sym, refl, ap, Bool, true, false, List, [], ◌∷◌, ◌++◌, drop, take, get_or, arith, codes, None}
use Rattle.std.specs.List.{AllByRecursion}
use Rattle.std.proofs.lemmas.List.{append_cancel_left}
use Rattle.std.proofs.lemmas.List.Elements.{recursion_from_All}
use Rattle.cache_model.specs.Texts.{form_word, text_of}
use Rattle.cert_checker.specs.declared.verdict.Verdict.{Verdict}
use Rattle.bound_report.specs.declared.rendering.Counting.{Counting}
use Rattle.bound_report.specs.Rendering.{rendered}
use Rattle.bound_report.specs.Reports.{capacity_line, trace_line, unit_line, value_lines}
use Rattle.bound_report.specs.Verdicts.{verdict_lines}
use Rattle.report_laws.specs.Laws.{ArePrintable, IsPrintable, SameVerdicts, VerdictsHaveOneReading, header_numbers, verdict_numbers}
use Rattle.report_laws.proofs.Lines.{Lacks, Small}
use Rattle.report_laws.proofs.OptionalLines.{NoneOfStale, none_of_stale}
use Rattle.report_laws.proofs.ReportLines.{IsReport, Report, after_body, all_of, body, lines_of, none_behind, rendered-lines, reports_apart}
use Rattle.report_laws.proofs.SharedLines.{form_apart, header_apart, header_capacity_lacks, trace_apart, trace_lacks, unit_lacks, values_lack}

-- the numbers of its lines
pub record SmallVerdict (x : Verdict) (dropped : ℕ) : Type 0 where
  pub trace : Small (x.header.requests ∷ x.objects ∷ dropped ∷ [])
  pub header : Small (header_numbers x.header)

pub small_verdict : (x : Verdict) (dropped : ℕ) → Small (verdict_numbers x dropped) → SmallVerdict x dropped
small_verdict x dropped (objects, (few, header)) = record { trace = (header.0, (objects, (few, tt))); header = header }

-- the line of the trace
abbrev pub verdict_trace : Verdict → ℕ → List ℕ
verdict_trace x dropped = trace_line x.header.requests x.objects dropped

-- the lines behind that of the capacity
abbrev pub other_lines : Verdict → List (List ℕ)
other_lines x = (codes "form " ++ form_word x.header.exact) ∷ unit_line x.header ∷ value_lines x.header ++ codes "valid" ∷ []

-- the report, with these lines up to that of the trace
abbrev pub report_of : Verdict → Counting → List (List ℕ) → Report
report_of x c before = record {
  before = before;
  counting = c;
  capacity = x.header.capacity;
  objective = x.header.objective;
  others = other_lines x;
  written = None;
  behind = [];
}

form_lacks : (exact : Bool) → Lacks 10 (codes "form " ++ form_word exact)
form_lacks true = refl
form_lacks false = refl

-- the first of the lines behind that of the capacity is none of stale requests
pub verdict_otherwise : (x : Verdict) (rest : List (List ℕ)) → NoneOfStale (other_lines x ++ rest)
verdict_otherwise x rest = none_of_stale (other_lines x ++ rest) 102 refl (λ e. omega arith) (λ e. omega arith) (λ e. omega arith) (λ e. omega arith)

pub verdict_lacks : (x : Verdict) (dropped : ℕ) → SmallVerdict x dropped → AllByRecursion (Lacks 10) (all_of (verdict_lines x dropped))
verdict_lacks x dropped small =
    let values = values_lack x.header small.header in (
      trace_lacks x.header.requests x.objects dropped small.trace,
      (header_capacity_lacks x.header small.header, (form_lacks x.header.exact, (unit_lacks x.header small.header, (values.0, (values.1.0, (values.1.1.0, (refl, tt))))))),
    )

-- what was printed is read from the lines
pub same_verdicts : (x y : Verdict) (m n : ℕ) → SmallVerdict x m → SmallVerdict y n → all_of (verdict_lines x m) ≡ all_of (verdict_lines y n) → SameVerdicts x y m n
same_verdicts x y m n small small' e =
    let trace : x.header.requests ∷ x.objects ∷ m ∷ [] ≡ y.header.requests ∷ y.objects ∷ n ∷ []
    = trace_apart x.header.requests x.objects m y.header.requests y.objects n small.trace small'.trace (line 0) in
    let form : form_word x.header.exact ≡ form_word y.header.exact = append_cancel_left (codes "form ") (form_word x.header.exact) (form_word y.header.exact) (line 2) in
    let header : (header_numbers x.header ≡ header_numbers y.header) × (x.header.objective ≡ y.header.objective)
    = header_apart x.header y.header small.header small'.header (cc) (line 1) (line 3) (ap (λ ls. take 3 (drop 4 ls)) e) in
    let headers : header_numbers x.header ≡ header_numbers y.header = header.0 in
    record { numbers = cc; objective = header.1; exact = form_apart x.header.exact y.header.exact form }
  where
    line : (i : ℕ) → get_or (all_of (verdict_lines x m)) i [] ≡ get_or (all_of (verdict_lines y n)) i []
    line i = ap (λ ls. get_or ls i []) e

module _ (x : Verdict) (m : ℕ) (c : Counting) (printable : ArePrintable c (verdict_numbers x m)) where
  small_all : SmallVerdict x m
  small_all = small_verdict x m (recursion_from_All IsPrintable (verdict_numbers x m) printable.3)

  -- the report alone
  abbrev alone : Report
  alone = report_of x c (verdict_trace x m ∷ [])

  is_alone : IsReport alone
  is_alone =
      let lack = verdict_lacks x m small_all in
      record {
        before = (lack.0, tt);
        counted = printable.0;
        body = lack.1;
        stale = printable.2;
        no_stale = verdict_otherwise x (after_body alone);
        written = tt;
        warmup = printable.1;
        behind = tt;
        no_warmup = none_behind (codes "warmup");
        no_writes = none_behind (codes "writes");
      }

  text_alone : rendered c (verdict_lines x m) ≡ text_of (lines_of alone)
  text_alone = rendered-lines c (verdict_trace x m ∷ []) (capacity_line x.header.capacity x.header.objective ∷ []) (other_lines x)

pub verdicts_apart : VerdictsHaveOneReading
verdicts_apart x y m n c d printable printable' e =
    let r = alone x m c printable in
    let s = alone y n d printable' in
    let same = reports_apart r s (is_alone x m c printable) (is_alone y n d printable') refl refl (sym (text_alone x m c printable) ∙ e ∙ text_alone y n d printable') in
    let trace : verdict_trace x m ∷ [] ≡ verdict_trace y n ∷ [] = same.before in
    let rest : body r ≡ body s = same.body in
    (same_verdicts x y m n (small_all x m c printable) (small_all y n d printable') cc, same.counting)

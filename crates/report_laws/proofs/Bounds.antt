-- A report of bounds is read in one way.
use Rattle.std.proofs.Common.{◌≡◌, ℕ, ◌∙◌, sym, refl, ap, List, [], ◌∷◌, ◌++◌, drop, get_or, codes, None, Some, Option, IfSome}
use Rattle.std.specs.List.{AllByRecursion}
use Rattle.std.proofs.lemmas.List.Elements.{recursion_from_All}
use Rattle.cache_model.specs.Texts.{entry, text_of}
use Rattle.bound_report.specs.declared.facts.BoundFacts.{BoundFacts}
use Rattle.bound_report.specs.declared.rendering.Counting.{Counting}
use Rattle.bound_report.specs.Rendering.{rendered}
use Rattle.bound_report.specs.Reports.{bound_lines, capacity_line, mode_line, trace_line, unit_line, value_lines}
use Rattle.report_laws.specs.Laws.{ArePrintable, BoundsHaveOneReading, IsPrintable, SameBounds, bound_numbers, header_numbers, mode_numbers, written_numbers}
use Rattle.report_laws.proofs.Lines.{Lacks, Small, line_lacks, named, numbers_apart}
use Rattle.report_laws.proofs.OptionalLines.{NoneOfStale}
use Rattle.report_laws.proofs.ReportLines.{IsReport, Report, after_body, body, lines_of, none_behind, rendered-written, reports_apart}
use Rattle.report_laws.proofs.SharedLines.{SameMode, header_apart, header_capacity_lacks, mode_apart, mode_lacks, mode_otherwise, trace_apart, trace_lacks, unit_lacks, values_lack}

-- the numbers of its lines
pub record SmallBounds (f : BoundFacts) : Type 0 where
  pub trace : Small (f.header.requests ∷ f.objects ∷ f.dropped ∷ [])
  pub intervals : Small (f.intervals ∷ [])
  pub header : Small (header_numbers f.header)
  pub mode : Small (mode_numbers f.mode f.price)
  pub written : IfSome f.written IsPrintable

-- both parts of small numbers are small
small_parts : (xs ys : List ℕ) → Small (xs ++ ys) → Small xs × Small ys
small_parts [] ys small = (tt, small)
small_parts (x ∷ xs) ys small = let rest = small_parts xs ys small.1 in ((small.0, rest.0), rest.1)

-- and so is a number of written bytes, if there is one
small_written : (w : Option ℕ) → Small (written_numbers w) → IfSome w IsPrintable
small_written None small = tt
small_written (Some n) small = small.0

pub small_bounds : (f : BoundFacts) → Small (bound_numbers f) → SmallBounds f
small_bounds f (objects, (dropped, (intervals, (requests, (capacity, (unit, (denominator, (upper, (flow, (lower, rest)))))))))) =
    let both = small_parts (mode_numbers f.mode f.price) (written_numbers f.written) rest in
    record {
      trace = (requests, (objects, (dropped, tt)));
      intervals = (intervals, tt);
      header = (requests, (capacity, (unit, (denominator, (upper, (flow, (lower, tt)))))));
      mode = both.0;
      written = small_written f.written both.1;
    }

-- the line of the trace
abbrev pub bound_trace : BoundFacts → List ℕ
bound_trace f = trace_line f.header.requests f.objects f.dropped

-- the lines behind that of the capacity
abbrev pub other_lines : BoundFacts → List (List ℕ)
other_lines f = mode_line f.mode f.price f.header.exact ∷ unit_line f.header ∷ entry (codes "intervals") f.intervals ∷ value_lines f.header

-- the lines that are always there
abbrev pub bound_body : BoundFacts → List (List ℕ)
bound_body f = bound_trace f ∷ capacity_line f.header.capacity f.header.objective ∷ other_lines f

-- the report among other lines
abbrev pub report_of : BoundFacts → Counting → List (List ℕ) → List (List ℕ) → Report
report_of f c before behind = record {
  before = before;
  counting = c;
  capacity = f.header.capacity;
  objective = f.header.objective;
  others = other_lines f;
  written = f.written;
  behind = behind;
}

-- the first of the lines behind that of the capacity is none of stale requests
pub bounds_otherwise : (f : BoundFacts) (rest : List (List ℕ)) → NoneOfStale (other_lines f ++ rest)
bounds_otherwise f rest = mode_otherwise f.mode f.price f.header.exact (unit_line f.header ∷ entry (codes "intervals") f.intervals ∷ value_lines f.header ++ rest)

pub bounds_lack : (f : BoundFacts) → SmallBounds f → AllByRecursion (Lacks 10) (bound_body f)
bounds_lack f small = (
  trace_lacks f.header.requests f.objects f.dropped small.trace,
  (
    header_capacity_lacks f.header small.header,
    (
      mode_lacks f.mode f.price f.header.exact small.mode,
      (unit_lacks f.header small.header, (line_lacks (named (codes "intervals")) (f.intervals ∷ []) refl small.intervals, values_lack f.header small.header)),
    ),
  ),
)

-- what was printed is read from the lines
pub same_bounds : (f g : BoundFacts) → SmallBounds f → SmallBounds g → bound_body f ≡ bound_body g → f.written ≡ g.written → SameBounds f g
same_bounds f g small small' e written =
    let trace : f.header.requests ∷ f.objects ∷ f.dropped ∷ [] ≡ g.header.requests ∷ g.objects ∷ g.dropped ∷ []
    = trace_apart f.header.requests f.objects f.dropped g.header.requests g.objects g.dropped small.trace small'.trace (line 0) in
    let mode : SameMode f.mode g.mode f.price g.price f.header.exact g.header.exact
    = mode_apart f.mode g.mode f.price g.price f.header.exact g.header.exact small.mode small'.mode (line 2) in
    let intervals : f.intervals ∷ [] ≡ g.intervals ∷ [] = numbers_apart (named (codes "intervals")) (f.intervals ∷ []) (g.intervals ∷ []) refl refl refl small.intervals small'.intervals (line 4) in
    let header : (header_numbers f.header ≡ header_numbers g.header) × (f.header.objective ≡ g.header.objective)
    = header_apart f.header g.header small.header small'.header (cc) (line 1) (line 3) (ap (λ ls. drop 5 ls) e) in
    let rest : mode_numbers f.mode f.price ++ written_numbers f.written ≡ mode_numbers g.mode g.price ++ written_numbers g.written
    = ap (λ ns. ns ++ written_numbers f.written) mode.numbers ∙ ap (λ w. mode_numbers g.mode g.price ++ written_numbers w) written in
    let headers : header_numbers f.header ≡ header_numbers g.header = header.0 in
    record { numbers = cc; objective = header.1; mode = mode.mode; exact = mode.exact; written = written }
  where
    line : (i : ℕ) → get_or (bound_body f) i [] ≡ get_or (bound_body g) i []
    line i = ap (λ ls. get_or ls i []) e

module _ (f : BoundFacts) (c : Counting) (printable : ArePrintable c (bound_numbers f)) where
  small_all : SmallBounds f
  small_all = small_bounds f (recursion_from_All IsPrintable (bound_numbers f) printable.3)

  -- the report alone
  abbrev alone : Report
  alone = report_of f c (bound_trace f ∷ []) []

  is_alone : IsReport alone
  is_alone =
      let lack = bounds_lack f small_all in
      record {
        before = (lack.0, tt);
        counted = printable.0;
        body = lack.1;
        stale = printable.2;
        no_stale = bounds_otherwise f (after_body alone);
        written = small_all.written;
        warmup = printable.1;
        behind = tt;
        no_warmup = none_behind (codes "warmup");
        no_writes = none_behind (codes "writes");
      }

  text_alone : rendered c (bound_lines f) ≡ text_of (lines_of alone)
  text_alone = rendered-written c (bound_trace f ∷ []) (capacity_line f.header.capacity f.header.objective ∷ []) (other_lines f) f.written

pub bounds_apart : BoundsHaveOneReading
bounds_apart f g c d printable printable' e =
    let r = alone f c printable in
    let s = alone g d printable' in
    let same = reports_apart r s (is_alone f c printable) (is_alone g d printable') refl refl (sym (text_alone f c printable) ∙ e ∙ text_alone g d printable') in
    let trace : bound_trace f ∷ [] ≡ bound_trace g ∷ [] = same.before in
    let rest : body r ≡ body s = same.body in
    let lines : bound_body f ≡ bound_body g = cc in
    (same_bounds f g (small_all f c printable) (small_all g d printable') lines same.written, same.counting)

-- The reports on a header.
use Rattle.std.specs.Prelude.{ℕ, Bool, if◌then◌else◌, List, length, None, Some}
use Rattle.std.specs.declared.option.Option.{Option}
use Rattle.cache_rules.specs.Stored.{Requests}
use Rattle.cache_model.specs.declared.certificates.Header.{Header}
use Rattle.cache_model.specs.declared.certificates.Record.{Record}
use Rattle.cache_model.specs.Certificates.{eligible_of, keeps_of}
use Rattle.cache_model.specs.Claim.{contents_of}
use Rattle.cache_model.specs.Written.{written_bytes}
use Rattle.cache_model.specs.Objects.{objects_of}
use Rattle.bound_report.specs.declared.facts.BoundFacts.{BoundFacts}
use Rattle.bound_report.specs.declared.rendering.Counting.{Counting}
use Rattle.bound_report.specs.Refinements.{refined_lines}
use Rattle.bound_report.specs.Rendering.{rendered}
use Rattle.bound_report.specs.Reports.{bound_lines}
use Rattle.bound_report.specs.Verdicts.{verdict_lines}
use Rattle.cert_checker.specs.declared.verdict.Verdict.{Verdict}
use Rattle.bound_words.specs.declared.plans.BoundSettings.{BoundSettings}

-- the bytes that a schedule writes from the warm-up on, if they are counted
abbrev pub written_by : BoundSettings → Requests → List Bool → Option ℕ
written_by asked trace keeps =
    if asked.writes then Some (written_bytes asked.terms.warmup trace.fills trace.objects (contents_of trace.objects keeps)) else None

-- what the report of bounds states beside the header
abbrev pub facts_of : BoundSettings → Requests → ℕ → ℕ → Header → List Record → BoundFacts
facts_of asked trace dropped price h records = record {
  header = h;
  objects = length (objects_of trace.objects);
  dropped = dropped;
  mode = asked.mode;
  price = price;
  intervals = length (eligible_of trace.objects trace.fills h);
  written = written_by asked trace (keeps_of records);
}

-- the report of bounds
abbrev pub bounds_report : Counting → BoundSettings → Requests → ℕ → ℕ → Header → List Record → List ℕ
bounds_report counting asked trace dropped price h records = rendered counting (bound_lines (facts_of asked trace dropped price h records))

-- the report of a yes
abbrev pub verdict_report : Counting → Verdict → ℕ → List ℕ
verdict_report counting verdict dropped = rendered counting (verdict_lines verdict dropped)

-- the report of a refinement: the bound that was read, and a yes of the certificate that is written
abbrev pub refined_report : Counting → ℕ → Verdict → ℕ → List ℕ
refined_report counting read_upper verdict dropped = rendered counting (refined_lines read_upper verdict dropped)

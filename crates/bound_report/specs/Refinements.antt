-- The lines of a refinement.
use Rattle.std.specs.Prelude.{ℕ, List, ◌∷◌, ◌++◌, codes}
use Rattle.cache_model.specs.declared.certificates.Header.{Header}
use Rattle.bound_report.specs.Rendering.{Lines}
use Rattle.bound_report.specs.Reports.{ratio}
use Rattle.bound_report.specs.Verdicts.{verdict_lines}
use Rattle.cert_checker.specs.declared.verdict.Verdict.{Verdict}

-- the bound that was read and the one that is written, over their denominator
abbrev pub refined_line : ℕ → Header → List ℕ
refined_line read_upper h = ratio (ratio (codes "refined from") read_upper h.denominator ++ codes " to") h.upper h.denominator

-- the two bounds, and the eight lines of a yes of the certificate that is written
abbrev pub refined_lines : ℕ → Verdict → ℕ → Lines
refined_lines read_upper verdict dropped =
    let yes = verdict_lines verdict dropped in
    record { front = refined_line read_upper verdict.header ∷ yes.front; head = yes.head; back = yes.back }

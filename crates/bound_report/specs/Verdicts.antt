-- What a check says if it says yes.
use Rattle.std.specs.Prelude.{ℕ, List, ◌∷◌, ◌++◌, [], codes}
use Rattle.cache_model.specs.Texts.{form_word}
use Rattle.bound_report.specs.Reports.{capacity_line, trace_line, unit_line, value_lines}
use Rattle.bound_report.specs.Rendering.{Lines, rendered, uncounted}
use Rattle.cert_checker.specs.declared.verdict.Verdict.{Verdict}

-- the eight lines of a yes
abbrev pub verdict_lines : Verdict → ℕ → Lines
verdict_lines v dropped =
    let h = v.header in
    record {
      front = trace_line h.requests v.objects dropped ∷ [];
      head = capacity_line h.capacity h.objective ∷ [];
      back = (codes "form " ++ form_word h.exact) ∷ unit_line h ∷ value_lines h ++ codes "valid" ∷ [];
    }

-- the text of a yes without warm-up, marks and stale requests
abbrev pub verdict_text : Verdict → ℕ → List ℕ
verdict_text v dropped = rendered uncounted (verdict_lines v dropped)

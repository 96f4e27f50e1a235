-- The text of a curve.
use Rattle.std.specs.Prelude.{ℕ, ◌-◌, Bool, nat_lt, List, [], ◌∷◌, ◌++◌, codes, map, filter}
use Rattle.std.specs.List.{range_with_len}
use Rattle.cache_model.specs.Texts.{entry}
use Rattle.bound_report.specs.Rendering.{Lines, rendered, uncounted}
use Rattle.bound_report.specs.Reports.{trace_line}
use Rattle.bound_report.specs.declared.curves.CurveFacts.{CurveFacts}

-- a number of slots and its hits
abbrev pub slots_line : ℕ → ℕ → List ℕ
slots_line slots hits = entry (entry (codes "slots") slots ++ codes " hits") hits

-- whether this many slots have more hits than one slot less
abbrev pub adds_hits : (ℕ → ℕ) → ℕ → Bool
adds_hits hits slots = nat_lt (hits (slots - 1)) (hits slots)

-- a line for each number of slots, from 1 to the most, that adds hits
abbrev pub slots_lines : (ℕ → ℕ) → ℕ → List (List ℕ)
slots_lines hits most = map (λ slots. slots_line slots (hits slots)) (filter (adds_hits hits) (range_with_len 1 most))

-- the lines of a curve: the counts of the trace, the size of all objects, and where hits are added
abbrev pub curve_lines : CurveFacts → ℕ → (ℕ → ℕ) → Lines
curve_lines facts size hits = record {
  front = trace_line facts.requests facts.objects facts.dropped ∷ [];
  head = entry (codes "size") size ∷ [];
  back = slots_lines hits facts.objects;
}

-- the text of a curve without marks and stale requests
abbrev pub curve_text : CurveFacts → ℕ → (ℕ → ℕ) → List ℕ
curve_text facts size hits = rendered uncounted (curve_lines facts size hits)

-- The report of bounds, and the lines that it shares with the verdict.
use Rattle.std.specs.Prelude.{ℕ, ◌/◌, Bool, List, [], ◌∷◌, ◌++◌, codes, decimal, None, Some}
use Rattle.std.specs.declared.option.Option.{Option}
use Rattle.cache_model.specs.declared.objects.Objective.{Objective}
use Rattle.cache_model.specs.declared.certificates.Header.{Header}
use Rattle.cache_model.specs.Certificates.{units_of}
use Rattle.cache_model.specs.Texts.{entry, form_word, objective_word}
use Rattle.bound_terms.specs.declared.modes.Window.{Window}
use Rattle.bound_terms.specs.declared.modes.Window.TheVariants.{All, Steps}
use Rattle.bound_terms.specs.declared.modes.Mode.{Mode}
use Rattle.bound_terms.specs.declared.modes.Mode.TheVariants.{Flow, Constant, Infinite}
use Rattle.bound_report.specs.declared.facts.BoundFacts.{BoundFacts}
use Rattle.bound_report.specs.Rendering.{Lines, rendered, uncounted}

-- the word of a window
abbrev pub window_word : Window → List ℕ
window_word All = codes "all"
window_word (Steps w) = decimal w

-- mode, window or price, and form
abbrev pub mode_line : Mode → ℕ → Bool → List ℕ
mode_line (Flow window) price exact = codes "mode flow window " ++ window_word window ++ codes " form " ++ form_word exact
mode_line Constant price exact = entry (codes "mode constant price") price ++ codes " form plain"
mode_line Infinite price exact = codes "mode infinite form plain"

-- the counts of a trace
abbrev pub trace_line : ℕ → ℕ → ℕ → List ℕ
trace_line requests objects dropped =
    entry (entry (entry (codes "trace requests") requests ++ codes " objects") objects ++ codes " dropped") dropped

-- capacity and objective
abbrev pub capacity_line : ℕ → Objective → List ℕ
capacity_line capacity objective = entry (codes "capacity") capacity ++ codes " objective " ++ objective_word objective

-- unit, units and denominator
abbrev pub unit_line : Header → List ℕ
unit_line h = entry (entry (entry (codes "unit") h.unit ++ codes " units") (units_of h) ++ codes " denominator") h.denominator

-- a word and a value over the denominator
abbrev pub ratio : List ℕ → ℕ → ℕ → List ℕ
ratio word value denominator = entry word value ++ codes "/" ++ decimal denominator

-- the upper bound and its floor
abbrev pub upper_line : Header → List ℕ
upper_line h = entry (ratio (codes "upper") h.upper h.denominator ++ codes " floor") (h.upper / h.denominator)

-- the value of the flows
abbrev pub flow_line : Header → List ℕ
flow_line h = ratio (codes "flow") h.flow h.denominator

-- the three lines of the values
abbrev pub value_lines : Header → List (List ℕ)
value_lines h = upper_line h ∷ flow_line h ∷ entry (codes "lower") h.lower ∷ []

-- a line of the bytes that are written, if they are counted
abbrev pub written_lines : Option ℕ → List (List ℕ)
written_lines None = []
written_lines (Some written) = entry (codes "writes") written ∷ []

-- the eight lines of a report of bounds, and that of the bytes that the schedule writes
abbrev pub bound_lines : BoundFacts → Lines
bound_lines facts =
    let h = facts.header in
    record {
      front = trace_line h.requests facts.objects facts.dropped ∷ [];
      head = capacity_line h.capacity h.objective ∷ [];
      back = mode_line facts.mode facts.price h.exact ∷ unit_line h ∷ entry (codes "intervals") facts.intervals ∷ value_lines h ++ written_lines facts.written;
    }

-- the text of a report of bounds without warm-up, marks and stale requests
abbrev pub report_text : BoundFacts → List ℕ
report_text facts = rendered uncounted (bound_lines facts)

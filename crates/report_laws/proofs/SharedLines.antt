-- The lines that reports share: each is one line, and its numbers and words are read in one way.
use Rattle.std.proofs.Common.{◌≡◌, ℕ, ◌/◌, sym, refl, ap, subst, Bool, true, false, List, [], ◌∷◌, ◌++◌, get_or, arith, codes, decimal}
use Rattle.std.specs.List.{AllByRecursion}
use Rattle.std.proofs.Math.Nat.{div-le_self}
use Rattle.std.proofs.lemmas.Bool.{true≢false}
use Rattle.std.proofs.lemmas.List.{append_cancel_left}
use Rattle.cache_model.specs.declared.objects.Objective.{Objective}
use Rattle.cache_model.specs.declared.objects.Objective.TheVariants.{Object as Hits, Bytes}
use Rattle.cache_model.specs.declared.certificates.Header.{Header}
use Rattle.cache_model.specs.Certificates.{units_of}
use Rattle.cache_model.specs.Texts.{entry, form_word, objective_word}
use Rattle.bound_terms.specs.declared.modes.Window.TheVariants.{All as Whole, Steps}
use Rattle.bound_terms.specs.declared.modes.Mode.{Mode}
use Rattle.bound_terms.specs.declared.modes.Mode.TheVariants.{Flow, Constant, Infinite}
use Rattle.bound_report.specs.Reports.{capacity_line, mode_line, trace_line, unit_line, value_lines}
use Rattle.report_laws.specs.Laws.{IsPrintable, header_numbers, mode_numbers, says_exact}
use Rattle.report_laws.proofs.Lines.{After, Lacks, Part, Small, Words, last_words, lacks-decimal, line_lacks, named, numbers_apart}
use Rattle.report_laws.proofs.OptionalLines.{NoneOfStale, bytes_at, none_of_stale}

-- ---- the line of the trace
abbrev trace_parts : List Part
trace_parts = named (codes "trace requests") ++ named (codes " objects") ++ named (codes " dropped")

pub trace_lacks : (r o d : ℕ) → Small (r ∷ o ∷ d ∷ []) → Lacks 10 (trace_line r o d)
trace_lacks r o d small = line_lacks trace_parts (r ∷ o ∷ d ∷ []) refl small

pub trace_apart : (r o d r' o' d' : ℕ) → Small (r ∷ o ∷ d ∷ []) → Small (r' ∷ o' ∷ d' ∷ []) → trace_line r o d ≡ trace_line r' o' d' → r ∷ o ∷ d ∷ [] ≡ r' ∷ o' ∷ d' ∷ []
trace_apart r o d r' o' d' small small' e = numbers_apart trace_parts (r ∷ o ∷ d ∷ []) (r' ∷ o' ∷ d' ∷ []) refl refl refl small small' e

-- ---- words
objective_apart : (o p : Objective) → objective_word o ≡ objective_word p → o ≡ p
objective_apart Hits Hits e = refl
objective_apart Bytes Bytes e = refl
objective_apart Hits Bytes e = absurd (omega (arith, bytes_at 0 _ _ e))
objective_apart Bytes Hits e = absurd (omega (arith, bytes_at 0 _ _ e))

objective_lacks : (o : Objective) → Lacks 32 (objective_word o)
objective_lacks Hits = refl
objective_lacks Bytes = refl

pub form_apart : (s t : Bool) → form_word s ≡ form_word t → s ≡ t
form_apart true true e = refl
form_apart false false e = refl
form_apart true false e = absurd (omega (arith, bytes_at 0 _ _ e))
form_apart false true e = absurd (omega (arith, bytes_at 0 _ _ e))

form_lacks : (s : Bool) → Lacks 32 (form_word s)
form_lacks true = refl
form_lacks false = refl

-- ---- capacity and objective
abbrev capacity_parts : Objective → List Part
capacity_parts objective = named (codes "capacity") ++ Words (codes " objective ") ∷ Words (objective_word objective) ∷ []

capacity_lacks : (c : ℕ) (o : Objective) → Small (c ∷ []) → Lacks 10 (capacity_line c o)
capacity_lacks c Hits small = line_lacks (capacity_parts Hits) (c ∷ []) refl small
capacity_lacks c Bytes small = line_lacks (capacity_parts Bytes) (c ∷ []) refl small

capacity_apart : (c d : ℕ) (o p : Objective) → Small (c ∷ []) → Small (d ∷ []) → capacity_line c o ≡ capacity_line d p → (c ≡ d) × (o ≡ p)
capacity_apart c d o p small small' e =
    let parts = last_words 32 (entry (codes "capacity") c) (entry (codes "capacity") d) (codes " objective") (objective_word o) (objective_word p) (objective_lacks o) (objective_lacks p) e in
    let numbers : c ∷ [] ≡ d ∷ [] = numbers_apart (named (codes "capacity")) (c ∷ []) (d ∷ []) refl refl refl small small' parts.0 in
    (cc, objective_apart o p parts.1)

-- ---- the mode
abbrev flow_parts : Bool → List Part
flow_parts exact = named (codes "mode flow window") ++ Words (codes " form ") ∷ Words (form_word exact) ∷ []

abbrev constant_parts : List Part
constant_parts = named (codes "mode constant price") ++ Words (codes " form plain") ∷ []

pub mode_lacks : (m : Mode) (price : ℕ) (exact : Bool) → Small (mode_numbers m price) → Lacks 10 (mode_line m price exact)
mode_lacks (Flow Whole) price true small = refl
mode_lacks (Flow Whole) price false small = refl
mode_lacks (Flow (Steps w)) price true small = line_lacks (flow_parts true) (w ∷ []) refl small
mode_lacks (Flow (Steps w)) price false small = line_lacks (flow_parts false) (w ∷ []) refl small
mode_lacks Constant price exact small = line_lacks constant_parts (price ∷ []) refl small
mode_lacks Infinite price exact small = refl

-- the line of the mode is none of stale requests
pub mode_otherwise : (m : Mode) (price : ℕ) (exact : Bool) (lines : List (List ℕ)) → NoneOfStale (mode_line m price exact ∷ lines)
mode_otherwise m price exact lines = none_of_stale (mode_line m price exact ∷ lines) 109 (first m) (λ e. omega arith) (λ e. omega arith) (λ e. omega arith) (λ e. omega arith)
  where
    first : (m : Mode) → get_or (mode_line m price exact) 0 0 ≡ 109
    first (Flow window) = refl
    first Constant = refl
    first Infinite = refl

-- what a line says of the mode
pub record SameMode (m n : Mode) (p q : ℕ) (x y : Bool) : Type 0 where
  pub mode : m ≡ n
  pub numbers : mode_numbers m p ≡ mode_numbers n q
  pub exact : says_exact m x ≡ says_exact n y

-- all steps are no number of them
not_all : (w : ℕ) → IsPrintable w → codes "all" ≡ decimal w → ⊥
not_all w small e = let lacks : Lacks 97 (codes "all") = subst (Lacks 97) (sym e) (lacks-decimal 97 w (λ d low same. omega arith) small) in true≢false (sym lacks)

flow_apart : (text text' : List ℕ) (exact exact' : Bool)
    → codes "mode flow window " ++ text ++ codes " form " ++ form_word exact ≡ codes "mode flow window " ++ text' ++ codes " form " ++ form_word exact' → (text ≡ text') × (exact ≡ exact')
flow_apart text text' exact exact' e =
    let parts = last_words 32 (codes "mode flow window " ++ text) (codes "mode flow window " ++ text') (codes " form") (form_word exact) (form_word exact') (form_lacks exact) (form_lacks exact') e in
    (append_cancel_left (codes "mode flow window ") text text' parts.0, form_apart exact exact' parts.1)

pub mode_apart : (m n : Mode) (p q : ℕ) (x y : Bool) → Small (mode_numbers m p) → Small (mode_numbers n q) → mode_line m p x ≡ mode_line n q y → SameMode m n p q x y
mode_apart (Flow Whole) (Flow Whole) p q x y small small' e = record { mode = refl; numbers = refl; exact = (flow_apart (codes "all") (codes "all") x y e).1 }
mode_apart (Flow Whole) (Flow (Steps w)) p q x y small small' e = absurd (not_all w small'.0 (flow_apart (codes "all") (decimal w) x y e).0)
mode_apart (Flow (Steps w)) (Flow Whole) p q x y small small' e = absurd (not_all w small.0 (sym (flow_apart (decimal w) (codes "all") x y e).0))
mode_apart (Flow (Steps w)) (Flow (Steps v)) p q x y small small' e =
    let both : (decimal w ≡ decimal v) × (x ≡ y) = flow_apart (decimal w) (decimal v) x y e in
    let numbers : w ∷ [] ≡ v ∷ [] = numbers_apart (After 32 ∷ []) (w ∷ []) (v ∷ []) refl refl refl small small' (ap (λ ds. 32 ∷ ds) both.0) in
    let same : w ≡ v = cc in
    record { mode = ap (λ k. Flow (Steps k)) same; numbers = numbers; exact = both.1 }
mode_apart Constant Constant p q x y small small' e = record { mode = refl; numbers = numbers_apart constant_parts (p ∷ []) (q ∷ []) refl refl refl small small' e; exact = refl }
mode_apart Infinite Infinite p q x y small small' e = record { mode = refl; numbers = refl; exact = refl }
mode_apart m n p q x y small small' e = absurd (omega (arith, bytes_at 5 _ _ e))

-- ---- the lines of a header
abbrev unit_parts : List Part
unit_parts = named (codes "unit") ++ named (codes " units") ++ named (codes " denominator")

-- a word and a value over the denominator
abbrev pub ratio_parts : List ℕ → List Part
ratio_parts word = named word ++ After 47 ∷ []

abbrev upper_parts : List Part
upper_parts = ratio_parts (codes "upper") ++ named (codes " floor")

abbrev unit_numbers : Header → List ℕ
unit_numbers h = h.unit ∷ units_of h ∷ h.denominator ∷ []

abbrev upper_numbers : Header → List ℕ
upper_numbers h = h.upper ∷ h.denominator ∷ h.upper / h.denominator ∷ []

pub div_small : (n d : ℕ) → IsPrintable n → IsPrintable (n / d)
div_small n d small = omega (arith, div-le_self n d)

-- the numbers of these lines
record SmallHeader (h : Header) : Type 0 where
  capacity : Small (h.capacity ∷ [])
  unit : Small (unit_numbers h)
  upper : Small (upper_numbers h)
  flow : Small (h.flow ∷ h.denominator ∷ [])
  lower : Small (h.lower ∷ [])

small_header : (h : Header) → Small (header_numbers h) → SmallHeader h
small_header h (requests, (capacity, (unit, (denominator, (upper, (flow, (lower, none))))))) = record {
  capacity = (capacity, tt);
  unit = (unit, (div_small h.capacity h.unit capacity, (denominator, tt)));
  upper = (upper, (denominator, (div_small h.upper h.denominator upper, tt)));
  flow = (flow, (denominator, tt));
  lower = (lower, tt);
}

pub header_capacity_lacks : (h : Header) → Small (header_numbers h) → Lacks 10 (capacity_line h.capacity h.objective)
header_capacity_lacks h small = capacity_lacks h.capacity h.objective (small_header h small).capacity

pub unit_lacks : (h : Header) → Small (header_numbers h) → Lacks 10 (unit_line h)
unit_lacks h small = line_lacks unit_parts (unit_numbers h) refl (small_header h small).unit

pub values_lack : (h : Header) → Small (header_numbers h) → AllByRecursion (Lacks 10) (value_lines h)
values_lack h small =
    let each = small_header h small in (
      line_lacks upper_parts (upper_numbers h) refl each.upper,
      (line_lacks (ratio_parts (codes "flow")) (h.flow ∷ h.denominator ∷ []) refl each.flow, (line_lacks (named (codes "lower")) (h.lower ∷ []) refl each.lower, tt)),
    )

-- the header's numbers and its objective are read from these lines, but for the requests
pub header_apart : (h k : Header) → Small (header_numbers h) → Small (header_numbers k) → h.requests ≡ k.requests
    → capacity_line h.capacity h.objective ≡ capacity_line k.capacity k.objective → unit_line h ≡ unit_line k → value_lines h ≡ value_lines k
    → (header_numbers h ≡ header_numbers k) × (h.objective ≡ k.objective)
header_apart h k small small' requests capacity unit values =
    let a = small_header h small in
    let b = small_header k small' in
    let both : (h.capacity ≡ k.capacity) × (h.objective ≡ k.objective) = capacity_apart h.capacity k.capacity h.objective k.objective a.capacity b.capacity capacity in
    let same : h.capacity ≡ k.capacity = both.0 in
    let units : unit_numbers h ≡ unit_numbers k = numbers_apart unit_parts (unit_numbers h) (unit_numbers k) refl refl refl a.unit b.unit unit in
    let uppers : upper_numbers h ≡ upper_numbers k = numbers_apart upper_parts (upper_numbers h) (upper_numbers k) refl refl refl a.upper b.upper (line 0) in
    let flows : h.flow ∷ h.denominator ∷ [] ≡ k.flow ∷ k.denominator ∷ []
    = numbers_apart (ratio_parts (codes "flow")) (h.flow ∷ h.denominator ∷ []) (k.flow ∷ k.denominator ∷ []) refl refl refl a.flow b.flow (line 1) in
    let lowers : h.lower ∷ [] ≡ k.lower ∷ [] = numbers_apart (named (codes "lower")) (h.lower ∷ []) (k.lower ∷ []) refl refl refl a.lower b.lower (line 2) in
    (cc, both.1)
  where
    line : (i : ℕ) → get_or (value_lines h) i [] ≡ get_or (value_lines k) i []
    line i = ap (λ ls. get_or ls i []) values

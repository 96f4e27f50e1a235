-- A header in its parts.
use Rattle.std.proofs.Common.{◌≡◌, ℕ, suc, ◌+◌, ◌^◌, ◌≤◌, ◌∙◌, sym, refl, ap, cond, Bool, true, false, List, [], ◌∷◌, ◌++◌, length, arith, codes, Some, None, Option, Ok, Result, subst, ◌==◌, ◌-◌}
use Rattle.std.specs.Option.{option_or}
use Rattle.std.specs.Prelude.{if◌then◌else◌}
use Rattle.std.specs.Str.{bytes_eq}
use Rattle.bound_io.specs.Devices.{Device}
use Rattle.bound_io.specs.Lines.{first_text, after_line}
use Rattle.bound_io.specs.Positions.{Position}
use Rattle.cache_model.specs.declared.objects.Objective.{Objective}
use Rattle.cache_model.specs.declared.objects.Objective.TheVariants.{Object as Hits, Bytes}
use Rattle.cert_format.specs.declared.fault.CertFault.{CertFault}
use Rattle.cert_format.specs.declared.header.Counts.{Counts}
use Rattle.cert_format.specs.Grammar.{Slot, choice_line, count_slots, fixed_line, number_at, number_line, word_at}
use Rattle.cert_format.specs.Lines.{Reads}
use Rattle.cert_format.specs.Parts.{counts_fault, counts_in}
use Rattle.cert_format.specs.Readings.{after_lines, first_fault, is_warmup, line_text, lines_fault, objective_in, warmup_in}
use Rattle.cert_format.proofs.Headers.{after_lines-suc, after_lines-zero}
use Rattle.cert_format.proofs.Taken.{after_lines-one}
use Rattle.cert_format.proofs.Chains.{after_lines-add}
use Rattle.cert_format.proofs.HeaderParts.{counts_of, counts_same}
use Rattle.budget_format.specs.declared.certificates.BudgetHeader.{BudgetHeader}
use Rattle.budget_format.specs.declared.header.Tail.{Tail}
use Rattle.cache_model.specs.Texts.{entry}
use Rattle.budget_format.specs.Texts.{budget_line, header_len}
use Rattle.budget_format.specs.Grammar.{budget_in}
use Rattle.budget_format.specs.Parts.{tail_fault, tail_in, tail_len, tail_slots}
use Rattle.budget_format.specs.Readings.{header_fault, header_in}

abbrev pub first : List Slot
first = fixed_line (codes "cache-bound-certificate 3")

abbrev pub objective : List Slot
objective = choice_line (codes "objective") (codes "object") (codes "bytes")

abbrev pub form : List Slot
form = fixed_line (codes "form plain")

abbrev pub upper : List Slot
upper = number_line (codes "upper") 0 (2 ^ 127 - 1)

or_assoc : {A : Type 0} (o p q : Option A) → option_or (option_or o p) q ≡ option_or o (option_or p q)
or_assoc None p q = refl
or_assoc (Some x) p q = refl

-- the first fault of some lines and others
lines_fault-append : (n : ℕ) (prefix more : List (List Slot)) (bytes : List ℕ) → lines_fault n (prefix ++ more) bytes ≡ option_or (lines_fault n prefix bytes) (lines_fault (n + length prefix) more (after_lines (length prefix) bytes))
unfolding after_lines
lines_fault-append n [] more bytes = let same : n ≡ n + 0 = omega arith in ap (λ m. lines_fault m more bytes) same
lines_fault-append n (slots ∷ prefix) more bytes =
    let same : n + 1 + length prefix ≡ n + suc (length prefix) = omega arith in
    ap (option_or (first_fault n slots bytes)) (lines_fault-append (n + 1) prefix more (after_line bytes))
    ∙ (ap (λ m. option_or (first_fault n slots bytes) (option_or (lines_fault (n + 1) prefix (after_line bytes)) (lines_fault m more (after_lines (length prefix) (after_line bytes))))) same
    ∙ sym (or_assoc (first_fault n slots bytes) (lines_fault (n + 1) prefix (after_line bytes)) (lines_fault (n + suc (length prefix)) more (after_lines (length prefix) (after_line bytes)))))

tail_parts : (bytes : List ℕ) → lines_fault 7 (form ∷ upper ∷ tail_slots (is_warmup (line_text 10 bytes))) (after_lines 6 bytes)
    ≡ option_or (first_fault 7 form (after_lines 6 bytes)) (option_or (first_fault 8 upper (after_lines 7 bytes)) (tail_fault (8 + 1) (after_lines 8 bytes)))
tail_parts bytes =
    let lasts = tail_slots (is_warmup (line_text 10 bytes)) in
    ap (λ b. option_or (first_fault 7 form (after_lines 6 bytes)) (lines_fault 8 (upper ∷ lasts) b)) (sym (after_lines-suc 6 bytes))
    ∙ ap (option_or (first_fault 7 form (after_lines 6 bytes)))
    (ap (λ b. option_or (first_fault 8 upper (after_lines 7 bytes)) (lines_fault (8 + 1) lasts b)) (sym (after_lines-suc 7 bytes))
    ∙ ap (λ b. option_or (first_fault 8 upper (after_lines 7 bytes)) (lines_fault (8 + 1) (tail_slots (is_warmup (first_text b))) (after_lines 8 bytes))) (after_lines-add 8 1 bytes))

-- the fault of a header is the first one of its parts
pub header_parts : (n : ℕ) (bytes : List ℕ) → n ≡ 0 → header_fault bytes
    ≡ option_or (first_fault (n + 0 + 1) first (after_lines 0 bytes)) (option_or (first_fault (n + 1 + 1) objective (after_lines 1 bytes)) (option_or (counts_fault (n + 2 + 1) (after_lines 2 bytes))
    (option_or (first_fault (n + 6 + 1) form (after_lines 6 bytes)) (option_or (first_fault (n + 7 + 1) upper (after_lines 7 bytes)) (tail_fault (n + 8 + 1) (after_lines 8 bytes))))))
header_parts n bytes zero' =
    let cap = number_at 1 (line_text 3 bytes) in
    let rest = form ∷ upper ∷ tail_slots (is_warmup (line_text 10 bytes)) in
    rw (zero', after_lines-zero bytes)
    (ap (λ b. option_or (first_fault 1 first bytes) (lines_fault 2 (objective ∷ (count_slots cap ++ rest)) b)) (sym (after_lines-one bytes))
    ∙ ap (option_or (first_fault 1 first bytes))
    (ap (λ b. option_or (first_fault 2 objective (after_lines 1 bytes)) (lines_fault 3 (count_slots cap ++ rest) b)) (sym (after_lines-suc 1 bytes))
    ∙ ap (option_or (first_fault 2 objective (after_lines 1 bytes)))
    (lines_fault-append 3 (count_slots cap) rest (after_lines 2 bytes)
    ∙ ap (option_or (counts_fault 3 (after_lines 2 bytes))) (ap (lines_fault 7 rest) (sym (after_lines-add 2 4 bytes)) ∙ tail_parts bytes))))

-- line k of the bytes after some lines
line_after : (j k : ℕ) (bytes : List ℕ) → first_text (after_lines k (after_lines j bytes)) ≡ first_text (after_lines (j + k) bytes)
line_after j k bytes = ap first_text (sym (after_lines-add j k bytes))

abbrev tail_by : ℕ → List ℕ → List ℕ → Tail
tail_by l tenth next = record { lower = l; warmup = warmup_in tenth; budget = budget_in (if is_warmup tenth then next else tenth) }

tail_texts : (l : ℕ) (t u t' u' : List ℕ) → t ≡ t' → u ≡ u' → tail_by l t u ≡ tail_by l t' u'
tail_texts l t u t' u' p q = rw (p, q) refl

abbrev header_of : Objective → Counts → ℕ → Tail → BudgetHeader
header_of o n v t = record {
  objective = o;
  capacity = n.capacity;
  requests = n.requests;
  unit = n.unit;
  denominator = n.denominator;
  upper = v;
  lower = t.lower;
  warmup = t.warmup;
  budget = t.budget.bytes;
  price = t.budget.price;
}

header_cong : (o o' : Objective) (n n' : Counts) (v v' : ℕ) (t t' : Tail) → o ≡ o' → n ≡ n' → v ≡ v' → t ≡ t' → header_of o n v t ≡ header_of o' n' v' t'
header_cong o o' n n' v v' t t' p q r s =
    ap (λ x. header_of x n v t) p ∙ (ap (λ x. header_of o' x v t) q ∙ (ap (λ x. header_of o' n' x t) r ∙ ap (λ x. header_of o' n' v' x) s))

-- the parts are those of the header that the bytes state
pub header_same : (o : Objective) (of_objects : Bool) (n : Counts) (v : ℕ) (t : Tail) (bytes : List ℕ)
    → o ≡ (if of_objects then Hits else Bytes)
    → of_objects ≡ bytes_eq (word_at 1 (first_text (after_lines 1 bytes))) (codes "object") → n ≡ counts_in (after_lines 2 bytes)
    → v ≡ number_at 1 (first_text (after_lines 7 bytes)) → t ≡ tail_in (after_lines 8 bytes) → header_of o n v t ≡ header_in bytes
unfolding header_in
header_same o of_objects n v t bytes is_o is_object is_n is_v is_t =
    let objective_is : o ≡ objective_in (line_text 2 bytes) = is_o ∙ ap (λ b. if b then Hits else Bytes) is_object in
    let counts_are : n ≡ counts_of (number_at 1 (line_text 3 bytes)) (number_at 1 (line_text 4 bytes)) (number_at 1 (line_text 5 bytes)) (number_at 1 (line_text 6 bytes))
    = is_n ∙ counts_same _ _ _ _ _ _ _ _ (ap (number_at 1) (line_after 2 0 bytes)) (ap (number_at 1) (line_after 2 1 bytes)) (ap (number_at 1) (line_after 2 2 bytes)) (ap (number_at 1) (line_after 2 3 bytes)) in
    let lower_is : number_at 1 (first_text (after_lines 8 bytes)) ≡ number_at 1 (line_text 9 bytes) = refl in
    let tail_is : t ≡ tail_by (number_at 1 (line_text 9 bytes)) (line_text 10 bytes) (line_text 11 bytes) = is_t ∙ tail_texts (number_at 1 (line_text 9 bytes)) _ _ _ _ (line_after 8 1 bytes) (line_after 8 2 bytes) in
    header_cong o _ n _ v _ t _ objective_is counts_are is_v tail_is

-- how many lines a header has
last_by : Bool → BudgetHeader → List (List ℕ)
last_by none h = cond none [] (entry (codes "warmup") h.warmup ∷ []) ++ budget_line h.budget h.price ∷ codes "records" ∷ []

header_count : (h : BudgetHeader) → 8 + cond (h.warmup == 0) 3 4 ≡ header_len h
unfolding header_len last_by
header_count h = omega (arith, by (h.warmup == 0))
  where
    by : (none : Bool) → 8 + cond none 3 4 ≡ 9 + length (last_by none h)
    by true = omega arith
    by false = omega arith

-- a header has few lines
pub few_lines : (h : BudgetHeader) → header_len h ≤ 12
few_lines h = omega (arith, header_count h, by (h.warmup == 0))
  where
    by : (none : Bool) → 8 + cond none 3 4 ≤ 12
    by true = omega arith
    by false = omega arith

-- the lines of a header, of which the last ones are read together
pub whole_header : (old now : Position) (source : Device) (h : BudgetHeader) (t : Tail) (r : Result Tail CertFault) → r ≡ Ok t → t.warmup ≡ h.warmup → Reads header_fault (8 + tail_len r) header_in old now source (Ok h) → Reads header_fault (header_len h) header_in old now source (Ok h)
whole_header old now source h t r is same reads =
    let count : 8 + tail_len r ≡ header_len h = ap (λ s. 8 + tail_len s) is ∙ (ap (λ w. 8 + cond (w == 0) 3 4) same ∙ header_count h) in
    subst (λ n. Reads header_fault n header_in old now source (Ok h)) count reads

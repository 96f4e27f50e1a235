-- A header in its parts.
use Rattle.std.proofs.Common.{◌≡◌, ℕ, suc, ◌+◌, ◌^◌, ◌∙◌, sym, refl, ap, cond, Bool, true, false, List, [], ◌∷◌, ◌++◌, length, arith, codes, Some, None, Option, Ok, Result, subst, ◌≤◌, not, ◌==◌}
use Rattle.std.specs.Option.{option_or}
use Rattle.bound_io.specs.Lines.{first_text, after_line}
use Rattle.cert_format.specs.declared.header.Counts.{Counts}
use Rattle.cert_format.specs.declared.header.Values.{Values}
use Rattle.cache_model.specs.declared.objects.Objective.{Objective}
use Rattle.cache_model.specs.declared.objects.Objective.TheVariants.{Object as Hits, Bytes}
use Rattle.std.specs.Prelude.{if◌then◌else◌}
use Rattle.std.specs.Str.{bytes_eq}
use Rattle.cert_format.specs.Parts.{counts_in, last_fault, last_len, values_in, warmup_fault, warmup_slots}
use Rattle.cache_model.specs.declared.certificates.Header.{Header}
use Rattle.cache_model.specs.declared.version.TheConstants.{CERT_VERSION, SHORT_VERSION}
use Rattle.cert_format.specs.declared.fault.CertFault.{CertFault}
use Rattle.bound_io.specs.Devices.{Device}
use Rattle.bound_io.specs.Positions.{Position}
use Rattle.cache_model.specs.Texts.{header_len}
use Rattle.cert_format.specs.Lines.{Reads}
use Rattle.cert_format.specs.Grammar.{Slot, fixed_line, choice_line, number_line, count_slots, value_slots, last_slots, number_at, word_at}
use Rattle.cert_format.specs.Readings.{first_fault, lines_fault, after_lines, header_fault, header_in, is_warmup, line_text, objective_in, version_in, warmup_in}
use Rattle.cert_format.proofs.Prefixes.{fits_first}
use Rattle.cert_format.proofs.Short.{warmup_range}
use Rattle.cert_format.proofs.Headers.{after_lines-suc, after_lines-zero}
use Rattle.cert_format.proofs.Taken.{after_lines-one}
use Rattle.cert_format.proofs.Chains.{after_lines-add}

-- the first of several faults
module _ {A : Type 0} (x : A) where
  pub stop2 : (o1 o2 rest : Option A) → o1 ≡ None → o2 ≡ Some x → option_or o1 (option_or o2 rest) ≡ Some x
  stop2 o1 o2 rest n1 is = rw (n1, is) refl

  pub stop3 : (o1 o2 o3 rest : Option A) → o1 ≡ None → o2 ≡ None → o3 ≡ Some x → option_or o1 (option_or o2 (option_or o3 rest)) ≡ Some x
  stop3 o1 o2 o3 rest n1 n2 is = rw (n1, n2, is) refl

  pub stop4 : (o1 o2 o3 o4 rest : Option A) → o1 ≡ None → o2 ≡ None → o3 ≡ None → o4 ≡ Some x → option_or o1 (option_or o2 (option_or o3 (option_or o4 rest))) ≡ Some x
  stop4 o1 o2 o3 o4 rest n1 n2 n3 is = rw (n1, n2, n3, is) refl

  pub stop5 : (o1 o2 o3 o4 o5 rest : Option A) → o1 ≡ None → o2 ≡ None → o3 ≡ None → o4 ≡ None → o5 ≡ Some x → option_or o1 (option_or o2 (option_or o3 (option_or o4 (option_or o5 rest)))) ≡ Some x
  stop5 o1 o2 o3 o4 o5 rest n1 n2 n3 n4 is = rw (n1, n2, n3, n4, is) refl

pub last6 : {A : Type 0} (o1 o2 o3 o4 o5 o6 : Option A) → o1 ≡ None → o2 ≡ None → o3 ≡ None → o4 ≡ None → o5 ≡ None → option_or o1 (option_or o2 (option_or o3 (option_or o4 (option_or o5 o6)))) ≡ o6
last6 o1 o2 o3 o4 o5 o6 n1 n2 n3 n4 n5 = rw (n1, n2, n3, n4, n5) refl

or_assoc : {A : Type 0} (o p q : Option A) → option_or (option_or o p) q ≡ option_or o (option_or p q)
or_assoc None p q = refl
or_assoc (Some x) p q = refl

-- the first fault of some lines and others
lines_fault-append : (n : ℕ) (prefix more : List (List Slot)) (bytes : List ℕ) → lines_fault n (prefix ++ more) bytes ≡ option_or (lines_fault n prefix bytes) (lines_fault (n + length prefix) more (after_lines (length prefix) bytes))
unfolding after_lines
lines_fault-append n [] more bytes = let same : n ≡ n + 0 = omega arith in ap (λ m. lines_fault m more bytes) same
lines_fault-append n (slots ∷ prefix) more bytes =
    let same : n + 1 + length prefix ≡ n + suc (length prefix) = omega arith in
    ap (option_or (first_fault n slots bytes)) (lines_fault-append (n + 1) prefix more (after_line bytes))
    ∙ (ap (λ m. option_or (first_fault n slots bytes) (option_or (lines_fault (n + 1) prefix (after_line bytes)) (lines_fault m more (after_lines (length prefix) (after_line bytes))))) same
    ∙ sym (or_assoc (first_fault n slots bytes) (lines_fault (n + 1) prefix (after_line bytes)) (lines_fault (n + suc (length prefix)) more (after_lines (length prefix) (after_line bytes)))))

-- one line at the end of the lines
last_line : (n : ℕ) (slots : List Slot) (bytes : List ℕ) → lines_fault n (slots ∷ []) bytes ≡ first_fault n slots bytes
last_line n slots bytes = by (first_fault n slots bytes)
  where
    by : (o : Option CertFault) → option_or o None ≡ o
    by None = refl
    by (Some fault) = refl

abbrev pub version : List Slot
version = choice_line (codes "cache-bound-certificate") (codes "1") (codes "2")

abbrev pub objective : List Slot
objective = choice_line (codes "objective") (codes "object") (codes "bytes")

abbrev pub form : List Slot
form = choice_line (codes "form") (codes "exact") (codes "plain")

abbrev pub last : List Slot
last = fixed_line (codes "records")

-- the fault of each part
abbrev pub counts_fault : ℕ → List ℕ → Option CertFault
counts_fault n bytes = lines_fault n (count_slots (number_at 1 (first_text bytes))) bytes

abbrev pub values_fault : ℕ → List ℕ → Option CertFault
values_fault n bytes = lines_fault n value_slots bytes

tail_parts : (bytes : List ℕ) → lines_fault 7 (form ∷ (value_slots ++ last_slots (is_warmup (line_text 11 bytes)))) (after_lines 6 bytes)
    ≡ option_or (first_fault 7 form (after_lines 6 bytes)) (option_or (values_fault 8 (after_lines 7 bytes)) (last_fault (10 + 1) (after_lines 10 bytes)))
tail_parts bytes =
    let lasts = last_slots (is_warmup (line_text 11 bytes)) in
    ap (λ b. option_or (first_fault 7 form (after_lines 6 bytes)) (lines_fault 8 (value_slots ++ lasts) b)) (sym (after_lines-suc 6 bytes))
    ∙ ap (option_or (first_fault 7 form (after_lines 6 bytes)))
    (lines_fault-append 8 value_slots lasts (after_lines 7 bytes)
    ∙ ap (λ b. option_or (values_fault 8 (after_lines 7 bytes)) (lines_fault (10 + 1) lasts b)) (sym (after_lines-add 7 3 bytes)))

-- the last lines, from line n on, if the first of them has a fault
pub last_stops : (n : ℕ) (bytes : List ℕ) (g : CertFault) → warmup_fault (n + 0 + 1) (after_lines 0 bytes) ≡ Some g → last_fault (n + 1) bytes ≡ Some g
last_stops n bytes g is =
    let same : n + 0 + 1 ≡ n + 1 = omega arith in
    let here : warmup_fault (n + 1) bytes ≡ Some g = ap (λ m. warmup_fault m bytes) (sym same) ∙ (ap (warmup_fault (n + 0 + 1)) (sym (after_lines-zero bytes)) ∙ is) in
    by (is_warmup (first_text bytes)) here
  where
    by : (warm : Bool) → first_fault (n + 1) (cond warm (number_line (codes "warmup") 1 (2 ^ 25)) (fixed_line (codes "records"))) bytes ≡ Some g → lines_fault (n + 1) (last_slots warm) bytes ≡ Some g
    by true at = ap (λ o. option_or o (lines_fault (n + 1 + 1) (last ∷ []) (after_line bytes))) at
    by false at = ap (λ o. option_or o None) at

-- where it has none, and states no warm-up, there is none
pub last_none : (n : ℕ) (bytes : List ℕ) → warmup_fault (n + 0 + 1) (after_lines 0 bytes) ≡ None → is_warmup (first_text (after_lines 0 bytes)) ≡ false → last_fault (n + 1) bytes ≡ None
last_none n bytes none other =
    let same : n + 0 + 1 ≡ n + 1 = omega arith in
    let here : warmup_fault (n + 1) bytes ≡ None = ap (λ m. warmup_fault m bytes) (sym same) ∙ (ap (warmup_fault (n + 0 + 1)) (sym (after_lines-zero bytes)) ∙ none) in
    let plain : is_warmup (first_text bytes) ≡ false = ap (λ b. is_warmup (first_text b)) (sym (after_lines-zero bytes)) ∙ other in
    by (is_warmup (first_text bytes)) plain here
  where
    by : (warm : Bool) → warm ≡ false → first_fault (n + 1) (cond warm (number_line (codes "warmup") 1 (2 ^ 25)) (fixed_line (codes "records"))) bytes ≡ None → lines_fault (n + 1) (last_slots warm) bytes ≡ None
    by true is at = cc
    by false is at = ap (λ o. option_or o None) at

-- where it states a warm-up, the fault is that of the line after it
pub last_more : (n : ℕ) (bytes : List ℕ) → warmup_fault (n + 0 + 1) (after_lines 0 bytes) ≡ None → is_warmup (first_text (after_lines 0 bytes)) ≡ true
    → last_fault (n + 1) bytes ≡ first_fault (n + 1 + 1) last (after_lines 1 bytes)
last_more n bytes none stated =
    let same : n + 0 + 1 ≡ n + 1 = omega arith in
    let here : warmup_fault (n + 1) bytes ≡ None = ap (λ m. warmup_fault m bytes) (sym same) ∙ (ap (warmup_fault (n + 0 + 1)) (sym (after_lines-zero bytes)) ∙ none) in
    let warm : is_warmup (first_text bytes) ≡ true = ap (λ b. is_warmup (first_text b)) (sym (after_lines-zero bytes)) ∙ stated in
    by (is_warmup (first_text bytes)) warm here
  where
    by : (warm : Bool) → warm ≡ true → first_fault (n + 1) (cond warm (number_line (codes "warmup") 1 (2 ^ 25)) (fixed_line (codes "records"))) bytes ≡ None
        → lines_fault (n + 1) (last_slots warm) bytes ≡ first_fault (n + 1 + 1) last (after_lines 1 bytes)
    by false is at = cc
    by true is at =
        ap (λ o. option_or o (lines_fault (n + 1 + 1) (last ∷ []) (after_line bytes))) at
        ∙ (last_line (n + 1 + 1) last (after_line bytes) ∙ ap (first_fault (n + 1 + 1) last) (sym (after_lines-one bytes)))

-- the fault of a header is the first one of its parts
pub header_parts : (n : ℕ) (bytes : List ℕ) → n ≡ 0 → header_fault bytes
    ≡ option_or (first_fault (n + 0 + 1) version (after_lines 0 bytes)) (option_or (first_fault (n + 1 + 1) objective (after_lines 1 bytes)) (option_or (counts_fault (n + 2 + 1) (after_lines 2 bytes))
    (option_or (first_fault (n + 6 + 1) form (after_lines 6 bytes)) (option_or (values_fault (n + 7 + 1) (after_lines 7 bytes)) (last_fault (n + 10 + 1) (after_lines 10 bytes))))))
header_parts n bytes zero' =
    let cap = number_at 1 (line_text 3 bytes) in
    let rest = form ∷ (value_slots ++ last_slots (is_warmup (line_text 11 bytes))) in
    rw (zero', after_lines-zero bytes)
    (ap (λ b. option_or (first_fault 1 version bytes) (lines_fault 2 (objective ∷ (count_slots cap ++ rest)) b)) (sym (after_lines-one bytes))
    ∙ ap (option_or (first_fault 1 version bytes))
    (ap (λ b. option_or (first_fault 2 objective (after_lines 1 bytes)) (lines_fault 3 (count_slots cap ++ rest) b)) (sym (after_lines-suc 1 bytes))
    ∙ ap (option_or (first_fault 2 objective (after_lines 1 bytes)))
    (lines_fault-append 3 (count_slots cap) rest (after_lines 2 bytes)
    ∙ ap (option_or (counts_fault 3 (after_lines 2 bytes))) (ap (lines_fault 7 rest) (sym (after_lines-add 2 4 bytes)) ∙ tail_parts bytes))))

-- the counts and the values, by their numbers
abbrev pub counts_of : ℕ → ℕ → ℕ → ℕ → Counts
counts_of a b d e = record { capacity = a; requests = b; unit = d; denominator = e }

pub counts_same : (a b d e a' b' d' e' : ℕ) → a ≡ a' → b ≡ b' → d ≡ d' → e ≡ e' → counts_of a b d e ≡ counts_of a' b' d' e'
counts_same a b d e a' b' d' e' p q r s = rw (p, q, r, s) refl

abbrev pub values_of : ℕ → ℕ → ℕ → Values
values_of a b d = record { upper = a; flow = b; lower = d }

pub values_same : (a b d a' b' d' : ℕ) → a ≡ a' → b ≡ b' → d ≡ d' → values_of a b d ≡ values_of a' b' d'
values_same a b d a' b' d' p q r = rw (p, q, r) refl

abbrev header_of : ℕ → ℕ → Objective → Counts → Bool → Values → Header
header_of ver w o n exact v = record { objective = o; capacity = n.capacity; requests = n.requests; unit = n.unit; denominator = n.denominator; exact = exact; upper = v.upper; flow = v.flow; lower = v.lower; warmup = w; version = ver }

-- line k of the bytes after some lines
line_after : (j k : ℕ) (bytes : List ℕ) → first_text (after_lines k (after_lines j bytes)) ≡ first_text (after_lines (j + k) bytes)
line_after j k bytes = ap first_text (sym (after_lines-add j k bytes))

-- the parts are those of the header that the bytes state
pub header_same : (ver : ℕ) (is_first : Bool) (w : ℕ) (o : Objective) (of_objects : Bool) (n : Counts) (exact : Bool) (v : Values) (bytes : List ℕ)
    → ver ≡ (if is_first then CERT_VERSION else SHORT_VERSION) → is_first ≡ bytes_eq (word_at 1 (first_text (after_lines 0 bytes))) (codes "1") → w ≡ warmup_in (first_text (after_lines 10 bytes))
    → o ≡ (if of_objects then Hits else Bytes)
    → of_objects ≡ bytes_eq (word_at 1 (first_text (after_lines 1 bytes))) (codes "object") → n ≡ counts_in (after_lines 2 bytes)
    → exact ≡ bytes_eq (word_at 1 (first_text (after_lines 6 bytes))) (codes "exact") → v ≡ values_in (after_lines 7 bytes) → header_of ver w o n exact v ≡ header_in bytes
unfolding header_in
header_same ver is_first w o of_objects n exact v bytes is_ver is_one is_w is_o is_object is_n is_exact is_v =
    let first : o ≡ objective_in (line_text 2 bytes) = is_o ∙ ap (λ b. if b then Hits else Bytes) is_object in
    let number : ver ≡ version_in (line_text 1 bytes) = is_ver ∙ ap (λ b. if b then CERT_VERSION else SHORT_VERSION) is_one in
    let counts : n ≡ counts_of (number_at 1 (line_text 3 bytes)) (number_at 1 (line_text 4 bytes)) (number_at 1 (line_text 5 bytes)) (number_at 1 (line_text 6 bytes))
    = is_n ∙ counts_same _ _ _ _ _ _ _ _ (ap (number_at 1) (line_after 2 0 bytes)) (ap (number_at 1) (line_after 2 1 bytes)) (ap (number_at 1) (line_after 2 2 bytes)) (ap (number_at 1) (line_after 2 3 bytes)) in
    let values : v ≡ values_of (number_at 1 (line_text 8 bytes)) (number_at 1 (line_text 9 bytes)) (number_at 1 (line_text 10 bytes))
    = is_v ∙ values_same _ _ _ _ _ _ (ap (number_at 1) (line_after 7 0 bytes)) (ap (number_at 1) (line_after 7 1 bytes)) (ap (number_at 1) (line_after 7 2 bytes)) in
    ap (λ p. header_of p w o n exact v) number
    ∙ (ap (λ p. header_of (version_in (line_text 1 bytes)) p o n exact v) is_w
    ∙ (ap (λ p. header_of (version_in (line_text 1 bytes)) (warmup_in (line_text 11 bytes)) p n exact v) first
    ∙ (ap (λ m. header_of (version_in (line_text 1 bytes)) (warmup_in (line_text 11 bytes)) (objective_in (line_text 2 bytes)) m exact v) counts
    ∙ (ap (λ b. header_of (version_in (line_text 1 bytes)) (warmup_in (line_text 11 bytes)) (objective_in (line_text 2 bytes)) (counts_of (number_at 1 (line_text 3 bytes)) (number_at 1 (line_text 4 bytes)) (number_at 1 (line_text 5 bytes)) (number_at 1 (line_text 6 bytes))) b v) is_exact
    ∙ ap (λ w. header_of (version_in (line_text 1 bytes)) (warmup_in (line_text 11 bytes)) (objective_in (line_text 2 bytes)) (counts_of (number_at 1 (line_text 3 bytes)) (number_at 1 (line_text 4 bytes)) (number_at 1 (line_text 5 bytes)) (number_at 1 (line_text 6 bytes)))
    (bytes_eq (word_at 1 (line_text 7 bytes)) (codes "exact")) w) values))))

-- a version is one of the two
pub version_range : (is_first : Bool) (n : ℕ) → n ≡ (if is_first then CERT_VERSION else SHORT_VERSION) → (CERT_VERSION ≤ n) × (n ≤ SHORT_VERSION)
version_range true n is = (omega (arith, is), omega (arith, is))
version_range false n is = (omega (arith, is), omega (arith, is))

-- the lines of a header, of which the last ones are read together
pub whole_header : (old now : Position) (source : Device) (h : Header) (r : Result ℕ CertFault) → r ≡ Ok h.warmup → Reads header_fault (10 + last_len r) header_in old now source (Ok h) → Reads header_fault (header_len h) header_in old now source (Ok h)
unfolding header_len
whole_header old now source h r is reads =
    let count : 10 + last_len r ≡ header_len h = omega (arith, ap last_len is) in
    subst (λ n. Reads header_fault n header_in old now source (Ok h)) count reads

-- a line without a fault states a warm-up where it is positive
pub warm_stated : (n w : ℕ) (bytes : List ℕ) → warmup_fault n bytes ≡ None → w ≡ warmup_in (first_text bytes) → is_warmup (first_text bytes) ≡ not (w == 0)
warm_stated n w bytes none is = (warmup_range (first_text bytes) (fits_first n (warmup_slots (first_text bytes)) bytes none).fits).1 ∙ ap (λ v. not (v == 0)) (sym is)

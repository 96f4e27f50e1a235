-- A text of a certificate can be read in one way only.
use Rattle.std.proofs.Common.{◌≡◌, ◌≢◌, ℕ, ◌+◌, ◌%◌, ◌^◌, ◌<◌, ◌≤◌, ◌∙◌, sym, refl, ap, subst, Bool, true, false, List, [], ◌∷◌, ◌++◌, append_assoc, length, get_or, drop, cond, ◌&&◌, arith, lit<, ◌==◌, codes, decimal}
use Rattle.std.specs.List.{AllByRecursion, list_any}
use Rattle.std.proofs.lemmas.Bool.{eqb-false, eqb-true, and_parts, or_parts}
use Rattle.std.specs.Str.Parse.{digits_value}
use Rattle.std.proofs.lemmas.List.Concat.{flat_map-append}
use Rattle.std.proofs.lemmas.List.Elements.{recursion_from_All}
use Rattle.std.proofs.lemmas.Fmt.{decimal_is_IsNumeral_wide, decimal_by_steps_wide}
use Rattle.cache_model.specs.declared.objects.Objective.{Objective}
use Rattle.cache_model.specs.declared.objects.Objective.TheVariants.{Object as Hits, Bytes}
use Rattle.cache_model.specs.declared.certificates.Header.{Header}
use Rattle.cache_model.specs.declared.certificates.Record.{Record}
use Rattle.cache_model.specs.declared.version.TheConstants.{SHORT_VERSION}
use Rattle.cache_model.specs.Certificates.{IsHeaderInRange, IsRecordInRange, IsCertificate}
use Rattle.cache_model.specs.Texts.{text_of, entry, objective_word, form_word, keep_digit, last_lines, header_lines, full_line, short_line, record_line, record_lines, cert_text}

-- no byte of the text is the separator
abbrev Lacks : ℕ → List ℕ → Type 0
Lacks sep xs = AllByRecursion (λ x. x ≢ sep) xs

lacks-append : (sep : ℕ) (xs ys : List ℕ) → Lacks sep xs → Lacks sep ys → Lacks sep (xs ++ ys)
lacks-append sep [] ys a b = b
lacks-append sep (x ∷ xs) ys a b = (a.0, lacks-append sep xs ys a.1 b)

split_first : (sep : ℕ) (a b xs ys : List ℕ) → Lacks sep a → Lacks sep b → a ++ sep ∷ xs ≡ b ++ sep ∷ ys → (a ≡ b) × (xs ≡ ys)
split_first sep [] [] xs ys la lb e = (refl, cc)
split_first sep [] (y ∷ b) xs ys la lb e = let h : sep ≡ y = cc in absurd (lb.0 (sym h))
split_first sep (x ∷ a) [] xs ys la lb e = let h : x ≡ sep = cc in absurd (la.0 h)
split_first sep (x ∷ a) (y ∷ b) xs ys la lb e =
    let h : x ≡ y = cc in
    let rest : a ++ sep ∷ xs ≡ b ++ sep ∷ ys = cc in
    let both : (a ≡ b) × (xs ≡ ys) = split_first sep a b xs ys la.1 lb.1 rest in
    let same : a ≡ b = both.0 in
    (cc, both.1)

cancel_prefix : (a xs ys : List ℕ) → a ++ xs ≡ a ++ ys → xs ≡ ys
cancel_prefix [] xs ys e = e
cancel_prefix (x ∷ a) xs ys e = let rest : a ++ xs ≡ a ++ ys = cc in cancel_prefix a xs ys rest

abbrev HasDigits : ℕ → List ℕ → Type 0
HasDigits n ds = AllByRecursion (λ d. 48 ≤ d) ds

digits_push : (ds : List ℕ) (d : ℕ) → AllByRecursion (λ c. 48 ≤ c) ds → 48 ≤ d → AllByRecursion (λ c. 48 ≤ c) (ds ++ d ∷ [])
digits_push [] d a b = (b, tt)
digits_push (c ∷ ds) d a b = (a.0, digits_push ds d a.1 b)

decimal_digits : (n : ℕ) → n < 10 ^ 64 → AllByRecursion (λ d. 48 ≤ d) (decimal n)
decimal_digits n small = decimal_by_steps_wide HasDigits (λ n low. (omega arith, tt)) (λ n ds high h. digits_push ds (48 + n % 10) h (omega arith)) n small

lacks-digits : (sep : ℕ) (ds : List ℕ) → sep < 48 → AllByRecursion (λ d. 48 ≤ d) ds → Lacks sep ds
lacks-digits sep [] low h = h
lacks-digits sep (d ∷ ds) low h = let high : 48 ≤ d = h.0 in ((λ e. omega arith), lacks-digits sep ds low h.1)

lacks-decimal : (sep n : ℕ) → sep < 48 → n < 10 ^ 64 → Lacks sep (decimal n)
lacks-decimal sep n low small = lacks-digits sep (decimal n) low (decimal_digits n small)

decimal_injective_wide : (m n : ℕ) → m < 10 ^ 64 → n < 10 ^ 64 → decimal m ≡ decimal n → m ≡ n
decimal_injective_wide m n a b e = sym (decimal_is_IsNumeral_wide m a).1 ∙ ap (digits_value 10) e ∙ (decimal_is_IsNumeral_wide n b).1

-- a number that is followed by a separator
number_first : (sep m n : ℕ) (xs ys : List ℕ) → sep < 48 → m < 10 ^ 64 → n < 10 ^ 64 → decimal m ++ sep ∷ xs ≡ decimal n ++ sep ∷ ys → (m ≡ n) × (xs ≡ ys)
number_first sep m n xs ys low a b e =
    let both : (decimal m ≡ decimal n) × (xs ≡ ys) = split_first sep (decimal m) (decimal n) xs ys (lacks-decimal sep m low a) (lacks-decimal sep n low b) e in
    (decimal_injective_wide m n a b both.0, both.1)

wide : (n : ℕ) → n < 2 ^ 127 → n < 10 ^ 64
wide n h = omega arith

Lacks-from_test : (sep : ℕ) (xs : List ℕ) → list_any (λ x. x == sep) xs ≡ false → Lacks sep xs
Lacks-from_test sep [] h = tt
Lacks-from_test sep (x ∷ xs) h =
    let parts : ((x == sep) ≡ false) × (list_any (λ x. x == sep) xs ≡ false) = or_parts _ _ h in
    ((λ e. eqb-false x sep parts.0 e), Lacks-from_test sep xs parts.1)

-- texts of as many lines
line_end : (a rest xs : List ℕ) → ((a ++ 10 ∷ []) ++ rest) ++ xs ≡ a ++ 10 ∷ (rest ++ xs)
line_end [] rest xs = refl
line_end (x ∷ a) rest xs = ap (λ zs. x ∷ zs) (line_end a rest xs)

-- the first lines of two texts
line_apart : (l m : List ℕ) (ls ms : List (List ℕ)) (xs ys : List ℕ) → Lacks 10 l → Lacks 10 m
    → text_of (l ∷ ls) ++ xs ≡ text_of (m ∷ ms) ++ ys → (l ≡ m) × (text_of ls ++ xs ≡ text_of ms ++ ys)
line_apart l m ls ms xs ys a b e =
    split_first 10 l m (text_of ls ++ xs) (text_of ms ++ ys) a b (sym (line_end l (text_of ls) xs) ∙ e ∙ line_end m (text_of ms) ys)

lines_apart : (ls ms : List (List ℕ)) (xs ys : List ℕ) → length ls ≡ length ms → AllByRecursion (Lacks 10) ls → AllByRecursion (Lacks 10) ms
    → text_of ls ++ xs ≡ text_of ms ++ ys → (ls ≡ ms) × (xs ≡ ys)
lines_apart [] [] xs ys same a b e = (refl, e)
lines_apart [] (m ∷ ms) xs ys same a b e = absurd (omega arith)
lines_apart (l ∷ ls) [] xs ys same a b e = absurd (omega arith)
lines_apart (l ∷ ls) (m ∷ ms) xs ys same a b e =
    let first : (l ≡ m) × (text_of ls ++ xs ≡ text_of ms ++ ys) = line_apart l m ls ms xs ys a.0 b.0 e in
    let rest : (ls ≡ ms) × (xs ≡ ys) = lines_apart ls ms xs ys (omega arith) a.1 b.1 first.1 in
    let here : l ≡ m = first.0 in
    let there : ls ≡ ms = rest.0 in
    (cc, rest.1)

entry_injective : (word : List ℕ) (m n : ℕ) → m < 10 ^ 64 → n < 10 ^ 64 → entry word m ≡ entry word n → m ≡ n
entry_injective word m n a b e = decimal_injective_wide m n a b (cancel_prefix (word ++ codes " ") (decimal m) (decimal n) e)

heads : (m n : ℕ) (xs ys : List ℕ) → m ∷ xs ≡ n ∷ ys → m ≡ n
heads m n xs ys e = cc

objective_word_injective : (o p : Objective) → objective_word o ≡ objective_word p → o ≡ p
objective_word_injective Hits Hits e = refl
objective_word_injective Bytes Bytes e = refl
objective_word_injective Hits Bytes e = absurd (omega (arith, heads 111 98 _ _ e))
objective_word_injective Bytes Hits e = absurd (omega (arith, heads 98 111 _ _ e))

form_word_injective : (s t : Bool) → form_word s ≡ form_word t → s ≡ t
form_word_injective true true e = refl
form_word_injective false false e = refl
form_word_injective true false e = absurd (omega (arith, heads 101 112 _ _ e))
form_word_injective false true e = absurd (omega (arith, heads 112 101 _ _ e))

keep_digit_injective : (s t : Bool) → keep_digit s ≡ keep_digit t → s ≡ t
keep_digit_injective true true e = refl
keep_digit_injective false false e = refl
keep_digit_injective true false e = absurd (omega arith)
keep_digit_injective false true e = absurd (omega arith)

lacks-entry : (word : List ℕ) (n : ℕ) → Lacks 10 word → n < 10 ^ 64 → Lacks 10 (entry word n)
lacks-entry word n a small =
    lacks-append 10 (word ++ codes " ") (decimal n) (lacks-append 10 word (codes " ") a (Lacks-from_test 10 (codes " ") refl)) (lacks-decimal 10 n (lit< tt) small)

lacks-objective : (o : Objective) → Lacks 10 (codes "objective " ++ objective_word o)
lacks-objective Hits = Lacks-from_test 10 (codes "objective object") refl
lacks-objective Bytes = Lacks-from_test 10 (codes "objective bytes") refl

lacks-form : (s : Bool) → Lacks 10 (codes "form " ++ form_word s)
lacks-form true = Lacks-from_test 10 (codes "form exact") refl
lacks-form false = Lacks-from_test 10 (codes "form plain") refl

pub keep_small : (s : Bool) → keep_digit s < 10 ^ 64
keep_small true = omega arith
keep_small false = omega arith

-- the lines before the warm-up
abbrev head_lines : Header → List (List ℕ)
head_lines h =
    entry (codes "cache-bound-certificate") h.version
    ∷ (codes "objective " ++ objective_word h.objective)
    ∷ entry (codes "capacity") h.capacity
    ∷ entry (codes "requests") h.requests
    ∷ entry (codes "unit") h.unit
    ∷ entry (codes "denominator") h.denominator
    ∷ (codes "form " ++ form_word h.exact)
    ∷ entry (codes "upper") h.upper
    ∷ entry (codes "flow") h.flow
    ∷ entry (codes "lower") h.lower
    ∷ []

head_lacks : (h : Header) → IsHeaderInRange h → AllByRecursion (Lacks 10) (head_lines h)
head_lacks h r = (
  lacks-entry (codes "cache-bound-certificate") h.version (Lacks-from_test 10 (codes "cache-bound-certificate") refl) (let b : h.version ≤ SHORT_VERSION = r.version.1 in omega arith),
  (
    lacks-objective h.objective,
    (
      lacks-entry (codes "capacity") h.capacity (Lacks-from_test 10 (codes "capacity") refl) (let b : h.capacity ≤ 2 ^ 56 = r.capacity.1 in omega arith),
      (
        lacks-entry (codes "requests") h.requests (Lacks-from_test 10 (codes "requests") refl) (let b : h.requests ≤ 2 ^ 25 = r.requests in omega arith),
        (
          lacks-entry (codes "unit") h.unit (Lacks-from_test 10 (codes "unit") refl) (let b : h.unit ≤ h.capacity = r.unit.1 in let d : h.capacity ≤ 2 ^ 56 = r.capacity.1 in omega arith),
          (
            lacks-entry (codes "denominator") h.denominator (Lacks-from_test 10 (codes "denominator") refl) (let b : h.denominator ≤ 2 ^ 48 = r.denominator.1 in omega arith),
            (
              lacks-form h.exact,
              (
                lacks-entry (codes "upper") h.upper (Lacks-from_test 10 (codes "upper") refl) (wide h.upper r.upper),
                (
                  lacks-entry (codes "flow") h.flow (Lacks-from_test 10 (codes "flow") refl) (wide h.flow r.flow),
                  (
                    lacks-entry (codes "lower") h.lower (Lacks-from_test 10 (codes "lower") refl) (wide h.lower r.lower),
                    tt,
                  ),
                ),
              ),
            ),
          ),
        ),
      ),
    ),
  ),
)

full_lacks : (r : Record) → IsRecordInRange r → Lacks 10 (full_line r)
full_lacks r h =
    lacks-entry (entry (decimal r.price) (keep_digit r.keep)) r.flow
    (lacks-entry (decimal r.price) (keep_digit r.keep) (lacks-decimal 10 r.price (lit< tt) (let b : r.price ≤ 2 ^ 126 = h.price in omega arith)) (keep_small r.keep))
    (let b : r.flow ≤ 2 ^ 48 = h.flow in omega arith)

short_lacks : (r : Record) → IsRecordInRange r → Lacks 10 (short_line r)
short_lacks r h = lacks-entry (decimal (keep_digit r.keep)) r.flow (lacks-decimal 10 (keep_digit r.keep) (lit< tt) (keep_small r.keep)) (let b : r.flow ≤ 2 ^ 48 = h.flow in omega arith)

-- the line of a record with its price or without it
line_by : Bool → Record → List ℕ
line_by short r = cond short (short_line r) (full_line r)

record_lacks : (version before : ℕ) (r : Record) → IsRecordInRange r → Lacks 10 (record_line version before r)
unfolding line_by
record_lacks version before r h = by ((version == SHORT_VERSION) && (r.price == before))
  where
    by : (short : Bool) → Lacks 10 (line_by short r)
    by true = short_lacks r h
    by false = full_lacks r h

unfoldable pub header_from : Objective → ℕ → ℕ → ℕ → ℕ → Bool → ℕ → ℕ → ℕ → ℕ → ℕ → Header
header_from o c n u d x v f l w ver = record { objective = o; capacity = c; requests = n; unit = u; denominator = d; exact = x; upper = v; flow = f; lower = l; warmup = w; version = ver }

record_from : ℕ → Bool → ℕ → Record
record_from p k f = record { price = p; keep = k; flow = f }

header_injective : (h k : Header) → IsHeaderInRange h → IsHeaderInRange k → head_lines h ≡ head_lines k → h.warmup ≡ k.warmup → h ≡ k
unfolding header_from
header_injective h k a b e w =
    let ver : h.version ≡ k.version = entry_injective (codes "cache-bound-certificate") _ _ (let x : h.version ≤ SHORT_VERSION = a.version.1 in omega arith) (let x : k.version ≤ SHORT_VERSION = b.version.1 in omega arith) (nth e 0) in
    let o : h.objective ≡ k.objective = objective_word_injective _ _ (cancel_prefix (codes "objective ") _ _ (nth e 1)) in
    let c : h.capacity ≡ k.capacity = entry_injective (codes "capacity") _ _ (let x : h.capacity ≤ 2 ^ 56 = a.capacity.1 in omega arith) (let x : k.capacity ≤ 2 ^ 56 = b.capacity.1 in omega arith) (nth e 2) in
    let n : h.requests ≡ k.requests = entry_injective (codes "requests") _ _ (let x : h.requests ≤ 2 ^ 25 = a.requests in omega arith) (let x : k.requests ≤ 2 ^ 25 = b.requests in omega arith) (nth e 3) in
    let u : h.unit ≡ k.unit = entry_injective (codes "unit") _ _
    (let x : h.unit ≤ h.capacity = a.unit.1 in let y : h.capacity ≤ 2 ^ 56 = a.capacity.1 in omega arith)
    (let x : k.unit ≤ k.capacity = b.unit.1 in let y : k.capacity ≤ 2 ^ 56 = b.capacity.1 in omega arith) (nth e 4) in
    let d : h.denominator ≡ k.denominator = entry_injective (codes "denominator") _ _
    (let x : h.denominator ≤ 2 ^ 48 = a.denominator.1 in omega arith) (let x : k.denominator ≤ 2 ^ 48 = b.denominator.1 in omega arith) (nth e 5) in
    let x : h.exact ≡ k.exact = form_word_injective _ _ (cancel_prefix (codes "form ") _ _ (nth e 6)) in
    let v : h.upper ≡ k.upper = entry_injective (codes "upper") _ _ (wide h.upper a.upper) (wide k.upper b.upper) (nth e 7) in
    let f : h.flow ≡ k.flow = entry_injective (codes "flow") _ _ (wide h.flow a.flow) (wide k.flow b.flow) (nth e 8) in
    let l : h.lower ≡ k.lower = entry_injective (codes "lower") _ _ (wide h.lower a.lower) (wide k.lower b.lower) (nth e 9) in
    let both : header_from h.objective h.capacity h.requests h.unit h.denominator h.exact h.upper h.flow h.lower h.warmup h.version
    ≡ header_from k.objective k.capacity k.requests k.unit k.denominator k.exact k.upper k.flow k.lower k.warmup k.version = cc in
    both
  where
    nth : head_lines h ≡ head_lines k → (i : ℕ) → get_or (head_lines h) i [] ≡ get_or (head_lines k) i []
    nth e i = ap (λ ls. get_or ls i []) e

two_ends : (a b c : List ℕ) (s : ℕ) → ((((a ++ s ∷ []) ++ b) ++ s ∷ []) ++ c) ≡ a ++ s ∷ (b ++ s ∷ c)
two_ends a b c s = simp append_assoc

-- the flow of a line of keep and flow
short_line_is : (r : Record) → short_line r ≡ decimal (keep_digit r.keep) ++ 32 ∷ decimal r.flow
short_line_is r = append_assoc (decimal (keep_digit r.keep)) (32 ∷ []) (decimal r.flow)

full_line_is : (r : Record) → full_line r ≡ decimal r.price ++ 32 ∷ (decimal (keep_digit r.keep) ++ 32 ∷ decimal r.flow)
full_line_is r = two_ends (decimal r.price) (decimal (keep_digit r.keep)) (decimal r.flow) 32

short_injective : (r s : Record) → IsRecordInRange r → IsRecordInRange s → r.price ≡ s.price → short_line r ≡ short_line s → r ≡ s
unfolding record_from
short_injective r s a b p e =
    let turned : decimal (keep_digit r.keep) ++ 32 ∷ decimal r.flow ≡ decimal (keep_digit s.keep) ++ 32 ∷ decimal s.flow = sym (short_line_is r) ∙ e ∙ short_line_is s in
    let first = number_first 32 (keep_digit r.keep) (keep_digit s.keep) _ _ (lit< tt) (keep_small r.keep) (keep_small s.keep) turned in
    let k : r.keep ≡ s.keep = keep_digit_injective r.keep s.keep first.0 in
    let f : r.flow ≡ s.flow = decimal_injective_wide r.flow s.flow (let x : r.flow ≤ 2 ^ 48 = a.flow in omega arith) (let x : s.flow ≤ 2 ^ 48 = b.flow in omega arith) first.1 in
    let both : record_from r.price r.keep r.flow ≡ record_from s.price s.keep s.flow = cc in
    both

-- a text with the separator in it does not lack it
has_separator : (sep : ℕ) (xs ys : List ℕ) → Lacks sep (xs ++ sep ∷ ys) → ⊥
has_separator sep [] ys lacks = lacks.0 refl
has_separator sep (x ∷ xs) ys lacks = has_separator sep xs ys lacks.1

-- a line of two words is none of three
lengths_apart : (r s : Record) → IsRecordInRange r → IsRecordInRange s → short_line r ≡ full_line s → ⊥
lengths_apart r s a b e =
    let turned : decimal (keep_digit r.keep) ++ 32 ∷ decimal r.flow ≡ decimal s.price ++ 32 ∷ (decimal (keep_digit s.keep) ++ 32 ∷ decimal s.flow) = sym (short_line_is r) ∙ e ∙ full_line_is s in
    let first = number_first 32 (keep_digit r.keep) s.price _ _ (lit< tt) (keep_small r.keep) (let x : s.price ≤ 2 ^ 126 = b.price in omega arith) turned in
    let lacks : Lacks 32 (decimal r.flow) = lacks-decimal 32 r.flow (lit< tt) (let x : r.flow ≤ 2 ^ 48 = a.flow in omega arith) in
    has_separator 32 (decimal (keep_digit s.keep)) (decimal s.flow) (subst (Lacks 32) first.1 lacks)

full_injective : (r s : Record) → IsRecordInRange r → IsRecordInRange s → full_line r ≡ full_line s → r ≡ s
unfolding record_from
full_injective r s a b e =
    let turned : decimal r.price ++ 32 ∷ (decimal (keep_digit r.keep) ++ 32 ∷ decimal r.flow) ≡ decimal s.price ++ 32 ∷ (decimal (keep_digit s.keep) ++ 32 ∷ decimal s.flow) =
    sym (full_line_is r) ∙ e ∙ full_line_is s in
    let first = number_first 32 r.price s.price _ _ (lit< tt) (let x : r.price ≤ 2 ^ 126 = a.price in omega arith) (let x : s.price ≤ 2 ^ 126 = b.price in omega arith) turned in
    let second = number_first 32 (keep_digit r.keep) (keep_digit s.keep) _ _ (lit< tt) (keep_small r.keep) (keep_small s.keep) first.1 in
    let p : r.price ≡ s.price = first.0 in
    let k : r.keep ≡ s.keep = keep_digit_injective r.keep s.keep second.0 in
    let f : r.flow ≡ s.flow = decimal_injective_wide r.flow s.flow (let x : r.flow ≤ 2 ^ 48 = a.flow in omega arith) (let x : s.flow ≤ 2 ^ 48 = b.flow in omega arith) second.1 in
    let both : record_from r.price r.keep r.flow ≡ record_from s.price s.keep s.flow = cc in
    both

record_injective : (version before : ℕ) (r s : Record) → IsRecordInRange r → IsRecordInRange s → record_line version before r ≡ record_line version before s → r ≡ s
unfolding line_by
record_injective version before r s a b e = by ((version == SHORT_VERSION) && (r.price == before)) ((version == SHORT_VERSION) && (s.price == before)) refl refl e
  where
    priced : (v : Bool) (p : ℕ) → (v && (p == before)) ≡ true → p ≡ before
    priced v p is = eqb-true p before (and_parts v (p == before) is).1

    by : (short other : Bool) → ((version == SHORT_VERSION) && (r.price == before)) ≡ short → ((version == SHORT_VERSION) && (s.price == before)) ≡ other → line_by short r ≡ line_by other s → r ≡ s
    by true true one two same = short_injective r s a b (priced (version == SHORT_VERSION) r.price one ∙ sym (priced (version == SHORT_VERSION) s.price two)) same
    by true false one two same = absurd (lengths_apart r s a b same)
    by false true one two same = absurd (lengths_apart s r b a (sym same))
    by false false one two same = full_injective r s a b same

-- the lines from the warm-up on
last_by : Bool → ℕ → List (List ℕ)
last_by none w = cond none (codes "records" ∷ []) (entry (codes "warmup") w ∷ codes "records" ∷ [])

last_apart : (w v : ℕ) (ls ms : List (List ℕ)) (xs ys : List ℕ) → w ≤ 2 ^ 25 → v ≤ 2 ^ 25 → text_of (last_lines w ++ ls) ++ xs ≡ text_of (last_lines v ++ ms) ++ ys → (w ≡ v) × (text_of ls ++ xs ≡ text_of ms ++ ys)
unfolding last_by
last_apart w v ls ms xs ys a b e = by (w == 0) (v == 0) refl refl e
  where
    records : Lacks 10 (codes "records")
    records = Lacks-from_test 10 (codes "records") refl

    warm : (n : ℕ) → n ≤ 2 ^ 25 → Lacks 10 (entry (codes "warmup") n)
    warm n small = lacks-entry (codes "warmup") n (Lacks-from_test 10 (codes "warmup") refl) (omega arith)

    by : (none other : Bool) → (w == 0) ≡ none → (v == 0) ≡ other → text_of (last_by none w ++ ls) ++ xs ≡ text_of (last_by other v ++ ms) ++ ys → (w ≡ v) × (text_of ls ++ xs ≡ text_of ms ++ ys)
    by true true one two same = (eqb-true w 0 one ∙ sym (eqb-true v 0 two), (line_apart (codes "records") (codes "records") ls ms xs ys records records same).1)
    by true false one two same =
        let lines = line_apart (codes "records") (entry (codes "warmup") v) ls (codes "records" ∷ ms) xs ys records (warm v b) same in
        absurd (omega (arith, heads 114 119 _ _ lines.0))
    by false true one two same =
        let lines = line_apart (entry (codes "warmup") w) (codes "records") (codes "records" ∷ ls) ms xs ys (warm w a) records same in
        absurd (omega (arith, heads 119 114 _ _ lines.0))
    by false false one two same =
        let lines = line_apart (entry (codes "warmup") w) (entry (codes "warmup") v) (codes "records" ∷ ls) (codes "records" ∷ ms) xs ys (warm w a) (warm v b) same in
        (entry_injective (codes "warmup") w v (omega arith) (omega arith) lines.0, (line_apart (codes "records") (codes "records") ls ms xs ys records records lines.1).1)

-- a text with some lines taken off its front
lines_first : (ks bs cs : List (List ℕ)) (xs : List ℕ) → text_of ((ks ++ bs) ++ cs) ++ xs ≡ text_of ks ++ (text_of (bs ++ cs) ++ xs)
lines_first ks bs cs xs =
    let regroup : (ks ++ bs) ++ cs ≡ ks ++ (bs ++ cs) = simp append_assoc in
    let ends : text_of (ks ++ (bs ++ cs)) ≡ text_of ks ++ text_of (bs ++ cs) = flat_map-append (λ words. words ++ 10 ∷ []) ks (bs ++ cs) in
    ap (λ ls. text_of ls ++ xs) regroup ∙ ap (λ zs. zs ++ xs) ends ∙ simp append_assoc

-- the lines of the records, and the end
abbrev tail_lines : ℕ → ℕ → List Record → List (List ℕ)
tail_lines version before records = record_lines version before records ++ codes "end" ∷ []

records_lack : (version before : ℕ) (rs : List Record) → AllByRecursion IsRecordInRange rs → AllByRecursion (Lacks 10) (tail_lines version before rs)
records_lack version before [] each = (Lacks-from_test 10 (codes "end") refl, tt)
records_lack version before (r ∷ rs) each = (record_lacks version before r each.0, records_lack version r.price rs each.1)

length-tail_lines : (version before : ℕ) (rs : List Record) → length (tail_lines version before rs) ≡ length rs + 1
length-tail_lines version before [] = refl
length-tail_lines version before (r ∷ rs) = omega (arith, length-tail_lines version r.price rs)

records_apart : (version before : ℕ) (rs ss : List Record) → length rs ≡ length ss → AllByRecursion IsRecordInRange rs → AllByRecursion IsRecordInRange ss
    → tail_lines version before rs ≡ tail_lines version before ss → rs ≡ ss
records_apart version before [] [] same a b e = refl
records_apart version before [] (s ∷ ss) same a b e = absurd (omega arith)
records_apart version before (r ∷ rs) [] same a b e = absurd (omega arith)
records_apart version before (r ∷ rs) (s ∷ ss) same a b e =
    let first : record_line version before r ≡ record_line version before s = ap (λ ls. get_or ls 0 []) e in
    let others : tail_lines version r.price rs ≡ tail_lines version s.price ss = ap (drop 1) e in
    let here : r ≡ s = record_injective version before r s a.0 b.0 first in
    let price : s.price ≡ r.price = ap (λ (z : Record). z.price) (sym here) in
    let there : rs ≡ ss = records_apart version r.price rs ss (omega arith) a.1 b.1 (others ∙ ap (λ p. tail_lines version p ss) price) in
    cc

-- the lines of a certificate, in three parts
parts_of : (h : Header) (records : List Record) (xs : List ℕ)
    → cert_text h records ++ xs ≡ text_of (head_lines h) ++ (text_of (last_lines h.warmup ++ tail_lines h.version 0 records) ++ xs)
parts_of h records xs =
    let regroup : (header_lines h ++ record_lines h.version 0 records) ++ codes "end" ∷ [] ≡ (head_lines h ++ last_lines h.warmup) ++ tail_lines h.version 0 records
    = append_assoc (header_lines h) (record_lines h.version 0 records) (codes "end" ∷ []) in
    ap (λ ls. text_of ls ++ xs) regroup ∙ lines_first (head_lines h) (last_lines h.warmup) (tail_lines h.version 0 records) xs

pub texts_apart : (h k : Header) (records entries : List Record) (xs ys : List ℕ)
    → IsCertificate h records → IsCertificate k entries
    → cert_text h records ++ xs ≡ cert_text k entries ++ ys
    → (h ≡ k) × (records ≡ entries) × (xs ≡ ys)
texts_apart h k records entries xs ys a b e =
    let rest = tail_lines h.version 0 records in
    let others = tail_lines k.version 0 entries in
    let heads : (head_lines h ≡ head_lines k) × (text_of (last_lines h.warmup ++ rest) ++ xs ≡ text_of (last_lines k.warmup ++ others) ++ ys)
    = lines_apart (head_lines h) (head_lines k) _ _ refl (head_lacks h a.header) (head_lacks k b.header) (sym (parts_of h records xs) ∙ e ∙ parts_of k entries ys) in
    let warm = last_apart h.warmup k.warmup rest others xs ys a.header.warmup b.header.warmup heads.1 in
    let header : h ≡ k = header_injective h k a.header b.header heads.0 warm.0 in
    let requests : h.requests ≡ k.requests = ap (λ z. z.requests) header in
    let count : length records ≡ length entries = a.count ∙ requests ∙ sym b.count in
    let version : k.version ≡ h.version = ap (λ (z : Header). z.version) (sym header) in
    let turned : text_of rest ++ xs ≡ text_of (tail_lines h.version 0 entries) ++ ys = warm.1 ∙ ap (λ v. text_of (tail_lines v 0 entries) ++ ys) version in
    let in_range : AllByRecursion IsRecordInRange records = recursion_from_All IsRecordInRange records a.each in
    let in_range' : AllByRecursion IsRecordInRange entries = recursion_from_All IsRecordInRange entries b.each in
    let size : length rest ≡ length (tail_lines h.version 0 entries) = omega (arith, count, length-tail_lines h.version 0 records, length-tail_lines h.version 0 entries) in
    let tails : (rest ≡ tail_lines h.version 0 entries) × (xs ≡ ys)
    = lines_apart rest (tail_lines h.version 0 entries) xs ys size (records_lack h.version 0 records in_range) (records_lack h.version 0 entries in_range') turned in
    (header, records_apart h.version 0 records entries count in_range in_range' tails.0, tails.1)

-- The line of a refusal has ASCII letters alone.
use Rattle.std.proofs.Common.{◌≡◌, ◌∙◌, ap, sym, refl, arith, ℕ, suc, zero, ◌/◌, ◌%◌, ◌<◌, List, [], ◌∷◌, ◌++◌, Bool, true, false, nat_lt, codes, ◌==◌, max, append_assoc}
use Rattle.std.specs.List.{list_all}
use Rattle.std.specs.Str.{IsAscii}
use Rattle.std.specs.Fmt.{decimal, digits, digits_onto, digit_glyph}
use Rattle.std.proofs.lemmas.Bool.{and_from, and_parts, cond_both}
use Rattle.std.proofs.lemmas.Bool.Decides.{nat_tests}
use Rattle.std.proofs.lemmas.Str.{IsAscii-append}
use Rattle.std.proofs.lemmas.Str.Ascii.{IsAscii-cons, IsAscii-nil}
use Rattle.cert_checker.specs.declared.invalid.InvalidKind.{InvalidKind}
use Rattle.cert_checker.specs.declared.invalid.InvalidKind.TheVariants as invalid
use Rattle.bound_report.specs.declared.Impossible.{Impossible}
use Rattle.bound_report.specs.declared.Impossible.TheVariants.{First, Size, Stale, Age, Load}
use Rattle.trace_lines.specs.declared.line.LineKind.{LineKind}
use Rattle.trace_lines.specs.declared.line.LineKind.TheVariants.{TooFewWords, BadNumber, SizeTooLarge, BadRange, BadType, QuoteByte, TooLong, PartRecord}
use Rattle.bound_terms.specs.declared.words.WordKind.{WordKind}
use Rattle.bound_terms.specs.declared.words.WordKind.TheVariants.{Missing, Unknown, Twice, BadValue}
use Rattle.bound_report.specs.declared.refusal.LimitName.{LimitName}
use Rattle.bound_report.specs.declared.refusal.LimitName.TheVariants.{Requests, TraceBytes, PassRequests, PassBytes, PassObjects, Denominator}
use Rattle.bound_report.specs.declared.refusal.Refusal.{Refusal}
use Rattle.bound_report.specs.declared.refusal.Refusal.TheVariants.{Invalid, NotFlag, FlagCount, Impossible as ImpossibleHits, Words, BadLine, Limit, Unequal, TraceFault, CertFault, MadeFault, PolicyMemory, NoMemory}
use Rattle.bound_report.specs.Refusals.{word_kind_text, line_kind_text, limit_text, invalid_kind_text, impossible_text, refusal_line}
use Rattle.bound_advice.specs.Advices.{IsAsciiLine}

abbrev is_low : ℕ → Bool
is_low b = nat_lt b 128

-- each byte is below 128, by a test that computes
abbrev IsLow : List ℕ → Type 0
IsLow text = list_all is_low text ≡ true

low-append : (xs ys : List ℕ) → IsLow xs → IsLow ys → IsLow (xs ++ ys)
low-append [] ys low more = more
low-append (b ∷ xs) ys low more =
    let parts = and_parts (is_low b) (list_all is_low xs) low in
    and_from (is_low b) (list_all is_low (xs ++ ys)) parts.0 (low-append xs ys parts.1 more)

below : (b : ℕ) → is_low b ≡ true → b < 128
below b low = grind (arith, nat_tests)

ascii-low : (text : List ℕ) → IsLow text → IsAscii text
ascii-low [] low = IsAscii-nil
ascii-low (b ∷ text) low =
    let parts = and_parts (is_low b) (list_all is_low text) low in
    IsAscii-cons b text (below b parts.0) (ascii-low text parts.1)

glyph-low : (d : ℕ) → d < 10 → is_low (digit_glyph false d) ≡ true
glyph-low d small = grind (arith, nat_tests)

digits-low : (k n : ℕ) (acc : List ℕ) → IsLow acc → IsLow (digits_onto k 10 false n acc)
digits-low zero n acc low = low
digits-low (suc k) n acc low =
    let glyph = digit_glyph false (n % 10) in
    let more : IsLow (glyph ∷ acc) = and_from (is_low glyph) (list_all is_low acc) (glyph-low (n % 10) (omega arith)) low in
    cond_both (n / 10 == 0) (glyph ∷ acc) (digits_onto k 10 false (n / 10) (glyph ∷ acc)) IsLow (λ last. more) (λ first. digits-low k (n / 10) (glyph ∷ acc) more)

-- a number in decimal digits
decimal-low : (n : ℕ) → IsLow (decimal n)
unfolding digits
decimal-low n = digits-low 64 n [] refl

-- a word and a number
abbrev entry : List ℕ → ℕ → List ℕ
entry word n = word ++ codes " " ++ decimal n

entry-low : (word : List ℕ) (n : ℕ) → IsLow word → IsLow (entry word n)
entry-low word n low = low-append (word ++ codes " ") (decimal n) (low-append word (codes " ") low refl) (decimal-low n)

pair-low : (word : List ℕ) (m n : ℕ) → IsLow word → IsLow (entry (entry word m) n)
pair-low word m n low = entry-low (entry word m) n (entry-low word m low)

-- a number between two words
between-low : (word : List ℕ) (n : ℕ) (last : List ℕ) → IsLow word → IsLow last → IsLow (word ++ decimal n ++ last)
between-low word n last low more = low-append (word ++ decimal n) last (low-append word (decimal n) low (decimal-low n)) more

-- a line with its end
line : (text : List ℕ) → IsLow text → IsAsciiLine (text ++ codes "\n")
line text low = (text, ascii-low text low, refl)

-- a line behind more
behind : (front text : List ℕ) → IsLow front → IsAsciiLine text → IsAsciiLine (front ++ text)
behind front text low (end, ascii, is) =
    (front ++ end, IsAscii-append front end (ascii-low front low) ascii, ap (λ t. front ++ t) is ∙ sym (append_assoc front end (codes "\n")))

word_kind-line : (kind : WordKind) → IsAsciiLine (word_kind_text kind)
word_kind-line Missing = line (codes "missing") refl
word_kind-line Unknown = line (codes "unknown") refl
word_kind-line Twice = line (codes "twice") refl
word_kind-line BadValue = line (codes "bad value") refl

line_kind-line : (kind : LineKind) → IsAsciiLine (line_kind_text kind)
line_kind-line TooFewWords = line (codes "too few words") refl
line_kind-line (BadNumber word) = line (codes "number in word " ++ decimal word) (low-append (codes "number in word ") (decimal word) refl (decimal-low word))
line_kind-line SizeTooLarge = line (codes "size too large") refl
line_kind-line BadRange = line (codes "block range") refl
line_kind-line BadType = line (codes "type") refl
line_kind-line QuoteByte = line (codes "quote") refl
line_kind-line TooLong = line (codes "line too long") refl
line_kind-line (PartRecord bytes) = line (codes "part record " ++ decimal bytes) (low-append (codes "part record ") (decimal bytes) refl (decimal-low bytes))

limit-line : (name : LimitName) → IsAsciiLine (limit_text name)
limit-line Requests = line (codes "requests 33554432") refl
limit-line TraceBytes = line (codes "trace bytes 68719476736") refl
limit-line PassRequests = line (codes "requests 4294967295") refl
limit-line PassBytes = line (codes "trace bytes 17592186044416") refl
limit-line PassObjects = line (codes "objects 2147483648") refl
limit-line Denominator = line (codes "denominator 281474976710656") refl

invalid_kind-low : (kind : InvalidKind) → IsLow (invalid_kind_text kind)
invalid_kind-low invalid.Shape = refl
invalid_kind-low invalid.Number = refl
invalid_kind-low invalid.Range = refl
invalid_kind-low invalid.TooLong = refl
invalid_kind-low invalid.Truncated = refl
invalid_kind-low invalid.Trailing = refl
invalid_kind-low (invalid.RequestCount written read) = pair-low (codes "request count") written read refl
invalid_kind-low invalid.SumLimit = refl
invalid_kind-low (invalid.LastPrice price) = entry-low (codes "last price") price refl
invalid_kind-low (invalid.UnitNotDivisor unit size) =
    entry-low (entry (codes "unit") unit ++ codes " size") size (low-append (entry (codes "unit") unit) (codes " size") (entry-low (codes "unit") unit refl) refl)
invalid_kind-low (invalid.NotDivisible weight) = entry-low (codes "not divisible") weight refl
invalid_kind-low (invalid.Overfull load capacity) = pair-low (codes "overfull") load capacity refl
invalid_kind-low (invalid.FlowAboveWeight flow weight) = pair-low (codes "flow above weight") flow weight refl
invalid_kind-low (invalid.FlowOverfull load units) = pair-low (codes "flow overfull") load units refl
invalid_kind-low (invalid.Unused number) = entry-low (codes "unused flow") number refl
invalid_kind-low (invalid.UpperDiffers written counted) = pair-low (codes "upper differs") written counted refl
invalid_kind-low (invalid.FlowDiffers written counted) = pair-low (codes "flow differs") written counted refl
invalid_kind-low (invalid.LowerDiffers written counted) = pair-low (codes "lower differs") written counted refl
invalid_kind-low (invalid.ExactGap upper flow) = pair-low (codes "exact gap") upper flow refl

-- a number in words, and another above a third
above-line : (word middle : List ℕ) (m n capacity : ℕ) → IsLow word → IsLow middle
    → IsAsciiLine (entry (entry (entry word m ++ middle) n ++ codes " above") capacity ++ codes "\n")
above-line word middle m n capacity low more =
    let first : IsLow (entry word m ++ middle) = low-append (entry word m) middle (entry-low word m low) more in
    let second = entry (entry word m ++ middle) n in
    line (entry (second ++ codes " above") capacity) (entry-low (second ++ codes " above") capacity (low-append second (codes " above") (entry-low (entry word m ++ middle) n first) refl))

impossible-line : (cause : Impossible) (capacity : ℕ) → IsAsciiLine (impossible_text cause capacity)
impossible-line (First request) capacity =
    behind (entry (codes "request") request) (codes ": first of its object\n") (entry-low (codes "request") request refl) (line (codes ": first of its object") refl)
impossible-line (Size request size) capacity = above-line (codes "request") (codes ": size") request size capacity refl refl
impossible-line (Stale request) capacity =
    behind (entry (codes "request") request) (codes ": stale\n") (entry-low (codes "request") request refl) (line (codes ": stale") refl)
impossible-line (Age request age ttl) capacity = above-line (codes "request") (codes ": age") request age ttl refl refl
impossible-line (Load step load) capacity = above-line (codes "step") (codes ": load") step load capacity refl refl

pub IsAsciiLine-refusal_line : (refusal : Refusal) → IsAsciiLine (refusal_line refusal)
IsAsciiLine-refusal_line (Invalid number kind) =
    let start = codes "invalid line " ++ decimal number ++ codes ": " in
    line (start ++ invalid_kind_text kind) (low-append start (invalid_kind_text kind) (between-low (codes "invalid line ") number (codes ": ") refl refl) (invalid_kind-low kind))
IsAsciiLine-refusal_line (NotFlag number) =
    behind (entry (codes "invalid line") number) (codes ": flag\n") (entry-low (codes "invalid line") number refl) (line (codes ": flag") refl)
IsAsciiLine-refusal_line (FlagCount flags requests) =
    let start = entry (codes "invalid line") (max flags requests) in
    let counts = entry (entry (codes ": request count") flags) requests in
    line (start ++ counts) (low-append start counts (entry-low (codes "invalid line") (max flags requests) refl) (pair-low (codes ": request count") flags requests refl))
IsAsciiLine-refusal_line (ImpossibleHits cause capacity) = behind (codes "impossible ") (impossible_text cause capacity) refl (impossible-line cause capacity)
IsAsciiLine-refusal_line (Words place kind) =
    behind (codes "words: place " ++ decimal place ++ codes ": ") (word_kind_text kind) (between-low (codes "words: place ") place (codes ": ") refl refl) (word_kind-line kind)
IsAsciiLine-refusal_line (BadLine number kind) =
    behind (codes "bad line " ++ decimal number ++ codes ": ") (line_kind_text kind) (between-low (codes "bad line ") number (codes ": ") refl refl) (line_kind-line kind)
IsAsciiLine-refusal_line (Limit name) = behind (codes "limit: ") (limit_text name) refl (limit-line name)
IsAsciiLine-refusal_line (Unequal first other) = line (entry (entry (codes "unequal sizes") first) other) (pair-low (codes "unequal sizes") first other refl)
IsAsciiLine-refusal_line TraceFault = line (codes "trace fault") refl
IsAsciiLine-refusal_line CertFault = line (codes "certificate fault") refl
IsAsciiLine-refusal_line MadeFault = line (codes "made fault") refl
IsAsciiLine-refusal_line (PolicyMemory policy capacity) = line (codes "no memory") refl
IsAsciiLine-refusal_line NoMemory = line (codes "no memory") refl

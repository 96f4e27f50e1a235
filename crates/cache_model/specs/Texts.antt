-- The text of a certificate, as bytes.
use Rattle.std.specs.Prelude.{ℕ, Bool, true, false, ◌&&◌, ◌==◌, if◌then◌else◌, List, [], ◌∷◌, ◌++◌, codes, decimal, length, flat_map}
use Rattle.cache_model.specs.declared.objects.Objective.{Objective}
use Rattle.cache_model.specs.declared.objects.Objective.TheVariants.{Object as Hits, Bytes}
use Rattle.cache_model.specs.declared.certificates.Header.{Header}
use Rattle.cache_model.specs.declared.certificates.Record.{Record}
use Rattle.cache_model.specs.declared.version.TheConstants.{SHORT_VERSION}

-- the words of a line and its end, LF
abbrev pub line : List ℕ → List ℕ
line words = words ++ 10 ∷ []

-- the lines, each followed by its end
abbrev pub text_of : List (List ℕ) → List ℕ
text_of lines = flat_map line lines

-- a word and a number
abbrev pub entry : List ℕ → ℕ → List ℕ
entry word n = word ++ codes " " ++ decimal n

-- the word of an objective
abbrev pub objective_word : Objective → List ℕ
objective_word Hits = codes "object"
objective_word Bytes = codes "bytes"

-- the word of a form
abbrev pub form_word : Bool → List ℕ
form_word true = codes "exact"
form_word false = codes "plain"

-- the digit of a keep
abbrev pub keep_digit : Bool → ℕ
keep_digit true = 1
keep_digit false = 0

-- the lines from the warm-up on, which is stated only if there is one
abbrev pub last_lines : ℕ → List (List ℕ)
last_lines warmup = if warmup == 0 then codes "records" ∷ [] else entry (codes "warmup") warmup ∷ codes "records" ∷ []

-- the lines before the records; the first says what the file is, and the version of its text
abbrev pub header_lines : Header → List (List ℕ)
header_lines h =
    entry (codes "cache-bound-certificate") h.version
    ∷ (codes "objective " ++ objective_word h.objective)
    ∷ entry (codes "capacity") h.capacity
    ∷ entry (codes "requests") h.requests
    ∷ entry (codes "unit") h.unit
    ∷ entry (codes "denominator") h.denominator
    ∷ (codes "form " ++ form_word h.exact)
    ∷ entry (codes "upper") h.upper
    ∷ entry (codes "flow") h.flow
    ∷ entry (codes "lower") h.lower
    ∷ last_lines h.warmup

-- how many lines stand before the records
unfoldable pub header_len : Header → ℕ
header_len h = length (header_lines h)

-- price, keep and flow
abbrev pub full_line : Record → List ℕ
full_line r = entry (entry (decimal r.price) (keep_digit r.keep)) r.flow

-- keep and flow
abbrev pub short_line : Record → List ℕ
short_line r = entry (decimal (keep_digit r.keep)) r.flow

-- the line of a record after one of the price `before`: the second version leaves out a price that is equal to it
abbrev pub record_line : ℕ → ℕ → Record → List ℕ
record_line version before r = if (version == SHORT_VERSION) && (r.price == before) then short_line r else full_line r

-- the lines of records, after one of the price `before`
abbrev pub record_lines : ℕ → ℕ → List Record → List (List ℕ)
record_lines version before [] = []
record_lines version before (r ∷ records) = record_line version before r ∷ record_lines version r.price records

-- the lines of a certificate; the first record comes after the price 0
abbrev pub cert_lines : Header → List Record → List (List ℕ)
cert_lines h records = header_lines h ++ record_lines h.version 0 records ++ codes "end" ∷ []

-- the text of a certificate
abbrev pub cert_text : Header → List Record → List ℕ
cert_text h records = text_of (cert_lines h records)

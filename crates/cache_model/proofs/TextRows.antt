-- Texts of certificates of both versions, computed.
use Rattle.std.proofs.Common.{◌≡◌, ℕ, Bool, true, false, List, [], ◌∷◌, codes, refl}
use Rattle.std.specs.Fmt.{digits}
use Rattle.cache_model.specs.declared.objects.Objective.TheVariants.{Object as Hits}
use Rattle.cache_model.specs.declared.certificates.Header.{Header}
use Rattle.cache_model.specs.declared.certificates.Record.{Record}
use Rattle.cache_model.specs.Texts.{cert_text, header_len, text_of}

abbrev entry : ℕ → Bool → ℕ → Record
entry p k f = record { price = p; keep = k; flow = f }

-- the header of six requests at capacity 2
abbrev cycle_header : ℕ → ℕ → ℕ → Header
cycle_header value warmup version = record { objective = Hits; capacity = 2; requests = 6; unit = 1; denominator = 1; exact = true; upper = value; flow = value; lower = value; warmup = warmup; version = version }

abbrev cycle_records : List Record
cycle_records = entry 0 true 1 ∷ entry 0 true 1 ∷ entry 1 false 0 ∷ entry 0 false 0 ∷ entry 0 false 0 ∷ entry 0 false 0 ∷ []

-- each price, in the first version
cycle_text : cert_text (cycle_header 2 0 1) cycle_records ≡ text_of (
    codes "cache-bound-certificate 1"
    ∷ codes "objective object"
    ∷ codes "capacity 2"
    ∷ codes "requests 6"
    ∷ codes "unit 1"
    ∷ codes "denominator 1"
    ∷ codes "form exact"
    ∷ codes "upper 2"
    ∷ codes "flow 2"
    ∷ codes "lower 2"
    ∷ codes "records"
    ∷ codes "0 1 1"
    ∷ codes "0 1 1"
    ∷ codes "1 0 0"
    ∷ codes "0 0 0"
    ∷ codes "0 0 0"
    ∷ codes "0 0 0"
    ∷ codes "end"
    ∷ [])
unfolding digits
cycle_text = refl

-- the prices that are not equal to the one before, in the second
cycle_short_text : cert_text (cycle_header 2 0 2) cycle_records ≡ text_of (
    codes "cache-bound-certificate 2"
    ∷ codes "objective object"
    ∷ codes "capacity 2"
    ∷ codes "requests 6"
    ∷ codes "unit 1"
    ∷ codes "denominator 1"
    ∷ codes "form exact"
    ∷ codes "upper 2"
    ∷ codes "flow 2"
    ∷ codes "lower 2"
    ∷ codes "records"
    ∷ codes "1 1"
    ∷ codes "1 1"
    ∷ codes "1 0 0"
    ∷ codes "0 0 0"
    ∷ codes "0 0"
    ∷ codes "0 0"
    ∷ codes "end"
    ∷ [])
unfolding digits
cycle_short_text = refl

-- a warm-up of five requests has a line of its own
cycle_warm_text : cert_text (cycle_header 1 5 1) (entry 0 false 0 ∷ entry 0 false 0 ∷ entry 0 true 1 ∷ entry 0 false 0 ∷ entry 0 false 0 ∷ entry 0 false 0 ∷ []) ≡ text_of (
    codes "cache-bound-certificate 1"
    ∷ codes "objective object"
    ∷ codes "capacity 2"
    ∷ codes "requests 6"
    ∷ codes "unit 1"
    ∷ codes "denominator 1"
    ∷ codes "form exact"
    ∷ codes "upper 1"
    ∷ codes "flow 1"
    ∷ codes "lower 1"
    ∷ codes "warmup 5"
    ∷ codes "records"
    ∷ codes "0 0 0"
    ∷ codes "0 0 0"
    ∷ codes "0 1 1"
    ∷ codes "0 0 0"
    ∷ codes "0 0 0"
    ∷ codes "0 0 0"
    ∷ codes "end"
    ∷ [])
unfolding digits
cycle_warm_text = refl

cycle_warm_lines : header_len (cycle_header 1 5 1) ≡ 12
unfolding header_len
cycle_warm_lines = refl

-- The lines of records, one record more.
use Rattle.std.proofs.Common.{◌≡◌, ℕ, refl, ap, List, [], ◌∷◌, ◌++◌}
use Rattle.cache_model.specs.declared.certificates.Record.{Record}
use Rattle.cache_model.specs.Texts.{record_line, record_lines}

-- the price of the last record, or the one before where there is none
abbrev pub last_price : ℕ → List Record → ℕ
last_price before [] = before
last_price before (r ∷ records) = last_price r.price records

pub last_price-append : (before : ℕ) (records : List Record) (r : Record) → last_price before (records ++ r ∷ []) ≡ r.price
last_price-append before [] r = refl
last_price-append before (first ∷ records) r = last_price-append first.price records r

-- one record more has the line of a record after the last price
pub record_lines-append : (version before : ℕ) (records : List Record) (r : Record)
    → record_lines version before (records ++ r ∷ []) ≡ record_lines version before records ++ record_line version (last_price before records) r ∷ []
record_lines-append version before [] r = refl
record_lines-append version before (first ∷ records) r = ap (λ lines. record_line version before first ∷ lines) (record_lines-append version first.price records r)

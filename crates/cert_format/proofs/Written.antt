-- The lines of a certificate, one record after another.
use Rattle.std.proofs.Common.{◌≡◌, ◌∙◌, ℕ, ◌+◌, ◌<◌, ◌≤◌, sym, ap, length, take, get_or, List, [], ◌∷◌, ◌++◌, codes, append-nil}
use Rattle.std.specs.declared.option.Option.{Option}
use Rattle.std.specs.Io.KnownBytes.{Appends}
use Rattle.std.proofs.KnownBytes.{Appends-trans}
use Rattle.std.proofs.lemmas.List.{take_more, take_all}
use Rattle.std.proofs.lemmas.List.Concat.{flat_map-append}
use Rattle.cache_model.specs.declared.certificates.Header.{Header}
use Rattle.cache_model.specs.declared.certificates.Record.{Record}
use Rattle.cache_model.specs.Texts.{line, text_of, header_lines, record_line, record_lines, cert_text}
use Rattle.cache_model.proofs.RecordLines.{last_price, last_price-append, record_lines-append}

-- some records, and then one more
module _ (records : List Record) (k : ℕ) (r d : Record) (within : k < length records) (is : r ≡ get_or records k d) where
  one_more : take (k + 1) records ≡ take k records ++ r ∷ []
  one_more = take_more records k d within ∙ ap (λ x. take k records ++ x ∷ []) (sym is)

  -- it has the last price
  pub price_after : last_price 0 (take (k + 1) records) ≡ r.price
  price_after = ap (last_price 0) one_more ∙ last_price-append 0 (take k records) r

  record_more : (version : ℕ) → text_of (record_lines version 0 (take k records)) ++ line (record_line version (last_price 0 (take k records)) r) ≡ text_of (record_lines version 0 (take (k + 1) records))
  record_more version =
      let last : List ℕ = record_line version (last_price 0 (take k records)) r in
      sym (
      ap (λ rs. text_of (record_lines version 0 rs)) one_more
      ∙ ap text_of (record_lines-append version 0 (take k records) r)
      ∙ flat_map-append line (record_lines version 0 (take k records)) (last ∷ [])
      ∙ ap (λ xs. text_of (record_lines version 0 (take k records)) ++ xs) (append-nil (line last))
      )

  -- some records were written, and then one more
  pub record_written : (version before : ℕ) (old mid new : Option (List ℕ)) → before ≡ last_price 0 (take k records)
      → Appends old mid (text_of (record_lines version 0 (take k records))) → Appends mid new (line (record_line version before r))
      → Appends old new (text_of (record_lines version 0 (take (k + 1) records)))
  record_written version before old mid new price so_far more =
      rw (record_more version) at (Appends-trans old mid new _ _ so_far (rw price at more))

-- the texts of three parts
pub three_parts : (a b : List (List ℕ)) (end : List ℕ) → (text_of a ++ text_of b) ++ line end ≡ text_of (a ++ b ++ end ∷ [])
three_parts a b end = rw (flat_map-append, flat_map-append) (simp append-nil)

-- the header, all records and the end
pub certificate_written : (old head mid new : Option (List ℕ)) (h : Header) (records : List Record) (k : ℕ) → length records ≤ k
    → Appends old head (text_of (header_lines h)) → Appends head mid (text_of (record_lines h.version 0 (take k records))) → Appends mid new (line (codes "end"))
    → Appends old new (cert_text h records)
certificate_written old head mid new h records k past first so_far end =
    rw (three_parts (header_lines h) (record_lines h.version 0 records) (codes "end"))
    at (Appends-trans old mid new _ _ (Appends-trans old head mid _ _ first (rw (take_all k records past) at so_far)) end)

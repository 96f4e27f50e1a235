-- The line of a record has one spelling.
use Rattle.std.proofs.Common.{◌≡◌, ℕ, ◌+◌, ◌^◌, ◌≤◌, ◌<◌, ◌∙◌, sym, refl, ap, subst, cond, Bool, Option, true, false, ◌&&◌, ◌==◌, List, [], ◌∷◌, ◌++◌, append_assoc, length, arith, decimal, Some, None}
use Rattle.std.specs.Option.{option_or}
use Rattle.std.specs.List.{list_any}
use Rattle.std.proofs.lemmas.Bool.{and_from, and_parts, eqb-true, eq-eqb}
use Rattle.std.proofs.lemmas.List.{length-append}
use Rattle.cache_model.specs.declared.certificates.Record.{Record}
use Rattle.cache_model.specs.Certificates.{IsRecordInRange}
use Rattle.cache_model.specs.declared.version.TheConstants.{SHORT_VERSION}
use Rattle.cache_model.specs.Texts.{keep_digit, full_line, short_line, record_line}
use Rattle.cert_format.specs.declared.fault.TextKind.{TextKind}
use Rattle.cert_format.specs.declared.fault.TextKind.TheVariants.{Range}
use Rattle.cert_format.specs.Grammar.{Slot, Within, WithinBut, words, words_fault, line_fault, is_short, full_slots, short_slots, price_slot, record_slots, number_fault, number_in, is_canonical}
use Rattle.cert_format.specs.Readings.{entry_of, full_in, record_in, short_in}
use Rattle.cert_format.proofs.Words.{words-append, text_of_two, text_of_three}
use Rattle.cert_format.proofs.RecordShapes.{text_full, text_short, full_text, short_text, full_of_text, kept, price_is_number}
use Rattle.cert_format.proofs.Decimals.{keep_text, number_in-decimal, digits-decimal, some-decimal, lacks-digits, decimal-number_in, length-decimal}
use Rattle.cert_format.proofs.Spellings.{fits_range, range_fits, words-decimal, space_between, IsLine, both_lack}

keep_lone : (keep : Bool) → words ((48 + keep_digit keep) ∷ []) ≡ ((48 + keep_digit keep) ∷ []) ∷ []
keep_lone true = refl
keep_lone false = refl

record_words_of : (p f : List ℕ) (keep : Bool) → words p ≡ p ∷ [] → words f ≡ f ∷ [] → words (p ++ 32 ∷ (((48 + keep_digit keep) ∷ []) ++ 32 ∷ f)) ≡ p ∷ ((48 + keep_digit keep) ∷ []) ∷ f ∷ []
record_words_of p f keep lone last =
    words-append p (((48 + keep_digit keep) ∷ []) ++ 32 ∷ f)
    ∙ (ap (λ ps. ps ++ words (((48 + keep_digit keep) ∷ []) ++ 32 ∷ f)) lone
    ∙ ap (λ ps. p ∷ ps) (words-append ((48 + keep_digit keep) ∷ []) f ∙ (ap (λ ps. ps ++ words f) (keep_lone keep) ∙ ap (λ ps. ((48 + keep_digit keep) ∷ []) ∷ ps) last)))

two_spaces : (a b d : List ℕ) → ((((a ++ 32 ∷ []) ++ b) ++ 32 ∷ []) ++ d) ≡ a ++ 32 ∷ (b ++ 32 ∷ d)
two_spaces a b d = simp append_assoc

full_line_is : (r : Record) → full_line r ≡ decimal r.price ++ 32 ∷ (((48 + keep_digit r.keep) ∷ []) ++ 32 ∷ decimal r.flow)
full_line_is r = two_spaces (decimal r.price) (decimal (keep_digit r.keep)) (decimal r.flow) ∙ ap (λ k. decimal r.price ++ 32 ∷ (k ++ 32 ∷ decimal r.flow)) (keep_text r.keep)

short_line_is : (r : Record) → short_line r ≡ ((48 + keep_digit r.keep) ∷ []) ++ 32 ∷ decimal r.flow
short_line_is r = space_between (decimal (keep_digit r.keep)) (decimal r.flow) ∙ ap (λ k. k ++ 32 ∷ decimal r.flow) (keep_text r.keep)

-- a price that is another one than before, or of the first version
abbrev MayStand : ℕ → ℕ → ℕ → Type 0
MayStand version before price = ((version == SHORT_VERSION) && (price == before)) ≡ false

price_by : Bool → ℕ → Slot
price_by short before = cond short (WithinBut 0 (2 ^ 126) before) (Within 0 (2 ^ 126))

-- the number of a price that may stand there
price_fits : (version before price : ℕ) → price ≤ 2 ^ 126 → MayStand version before price → number_fault (price_slot version before) (decimal price) ≡ None
unfolding price_by
price_fits version before price small may = by (version == SHORT_VERSION) may
  where
    within : number_fault (Within 0 (2 ^ 126)) (decimal price) ≡ None
    within = fits_range 0 (2 ^ 126) price (omega arith) small (omega arith)

    by : (short : Bool) → (short && (price == before)) ≡ false → number_fault (price_by short before) (decimal price) ≡ None
    by true other = rw (within, number_in-decimal price (omega arith), other) refl
    by false other = within

-- a number without a fault in the place of a price
fits_price : (version before : ℕ) (word : List ℕ) → number_fault (price_slot version before) word ≡ None
    → (is_canonical word ≡ true) × (number_in word ≤ 2 ^ 126) × MayStand version before (number_in word)
unfolding price_by
fits_price version before word fits = by (version == SHORT_VERSION) fits
  where
    both : (o p : Option TextKind) → option_or o p ≡ None → (o ≡ None) × (p ≡ None)
    both None p h = (refl, h)
    both (Some x) p h = let wrong : Some x ≡ None = h in cc

    other : (b : Bool) → cond b (Some Range) None ≡ None → b ≡ false
    other true h = let wrong : Some Range ≡ None = h in cc
    other false h = refl

    by : (short : Bool) → number_fault (price_by short before) word ≡ None → (is_canonical word ≡ true) × (number_in word ≤ 2 ^ 126) × ((short && (number_in word == before)) ≡ false)
    by true h =
        let parts = both (number_fault (Within 0 (2 ^ 126)) word) _ h in
        let range = range_fits 0 (2 ^ 126) word parts.0 in
        (range.0, range.2, other (number_in word == before) parts.1)
    by false h = let range = range_fits 0 (2 ^ 126) word h in (range.0, range.2, refl)

-- a line of three words is not short
long_words : (version : ℕ) (text p k f : List ℕ) → words text ≡ p ∷ k ∷ f ∷ [] → is_short version text ≡ false
long_words version text p k f are = by (version == SHORT_VERSION) (ap (λ ws. length ws == 2) are)
  where
    by : (short : Bool) → (length (words text) == 2) ≡ false → (short && (length (words text) == 2)) ≡ false
    by true h = h
    by false h = refl

entry_same : {p q f g : ℕ} (k : Bool) → p ≡ q → f ≡ g → entry_of p k f ≡ entry_of q k g
entry_same k same also = rw (same, also) refl

full_fits : (version before : ℕ) (r : Record) → IsRecordInRange r → MayStand version before r.price
    → (line_fault (record_slots version before (full_line r)) (full_line r) ≡ None) × (record_in version before (full_line r) ≡ r)
full_fits version before r range may =
    let price : r.price < 10 ^ 64 = omega (arith, range.price) in
    let flow : r.flow < 10 ^ 64 = omega (arith, range.flow) in
    let are : words (full_line r) ≡ decimal r.price ∷ ((48 + keep_digit r.keep) ∷ []) ∷ decimal r.flow ∷ []
    = ap words (full_line_is r) ∙ record_words_of (decimal r.price) (decimal r.flow) r.keep (words-decimal r.price price) (words-decimal r.flow flow) in
    let long = long_words version (full_line r) (decimal r.price) ((48 + keep_digit r.keep) ∷ []) (decimal r.flow) are in
    let read = full_text (price_slot version before) (price_is_number version before) (full_line r) (decimal r.price) (decimal r.flow) r.keep are (some-decimal r.price price) (some-decimal r.flow flow) in
    let fits = ap (λ o. option_or o (number_fault (Within 0 (2 ^ 48)) (decimal r.flow))) (price_fits version before r.price range.price may) ∙ fits_range 0 (2 ^ 48) r.flow (omega arith) range.flow flow in (
      ap (λ b. line_fault (cond b short_slots (full_slots (price_slot version before))) (full_line r)) long ∙ (read ∙ fits),
      ap (λ b. cond b (short_in before (full_line r)) (full_in (full_line r))) long
          ∙ (full_of_text (full_line r) (decimal r.price) (decimal r.flow) r.keep are ∙ entry_same r.keep (number_in-decimal r.price price) (number_in-decimal r.flow flow)),
    )

-- what a line of two words states
short_of_text : (before : ℕ) (text f : List ℕ) (keep : Bool) → words text ≡ ((48 + keep_digit keep) ∷ []) ∷ f ∷ [] → short_in before text ≡ entry_of before keep (number_in f)
short_of_text before text f keep are = rw are (ap (λ (k : Bool). entry_of before k (number_in f)) (kept keep))

-- a line of two words is short in the second version
short_words : (version : ℕ) (text k f : List ℕ) → (version == SHORT_VERSION) ≡ true → words text ≡ k ∷ f ∷ [] → is_short version text ≡ true
short_words version text k f second are = and_from (version == SHORT_VERSION) (length (words text) == 2) second (ap (λ ws. length ws == 2) are)

short_fits : (version before : ℕ) (r : Record) → IsRecordInRange r → (version == SHORT_VERSION) ≡ true → r.price ≡ before
    → (line_fault (record_slots version before (short_line r)) (short_line r) ≡ None) × (record_in version before (short_line r) ≡ r)
short_fits version before r range second same =
    let flow : r.flow < 10 ^ 64 = omega (arith, range.flow) in
    let are : words (short_line r) ≡ ((48 + keep_digit r.keep) ∷ []) ∷ decimal r.flow ∷ []
    = ap words (short_line_is r) ∙ (words-append ((48 + keep_digit r.keep) ∷ []) (decimal r.flow) ∙ (ap (λ ps. ps ++ words (decimal r.flow)) (keep_lone r.keep) ∙ ap (λ ps. ((48 + keep_digit r.keep) ∷ []) ∷ ps) (words-decimal r.flow flow))) in
    let short = short_words version (short_line r) ((48 + keep_digit r.keep) ∷ []) (decimal r.flow) second are in
    let read : line_fault short_slots (short_line r) ≡ number_fault (Within 0 (2 ^ 48)) (decimal r.flow) = ap (words_fault short_slots) are ∙ short_text (decimal r.flow) r.keep (some-decimal r.flow flow) in (
      ap (λ b. line_fault (cond b short_slots (full_slots (price_slot version before))) (short_line r)) short ∙ (read ∙ fits_range 0 (2 ^ 48) r.flow (omega arith) range.flow flow),
      ap (λ b. cond b (short_in before (short_line r)) (full_in (short_line r))) short
          ∙ (short_of_text before (short_line r) (decimal r.flow) r.keep are ∙ entry_same r.keep (sym same) (number_in-decimal r.flow flow)),
    )

-- the line of a record
pub record_fits : (version before : ℕ) (r : Record) → IsRecordInRange r
    → (line_fault (record_slots version before (record_line version before r)) (record_line version before r) ≡ None) × (record_in version before (record_line version before r) ≡ r)
record_fits version before r range = by ((version == SHORT_VERSION) && (r.price == before)) refl
  where
    by : (short : Bool) → ((version == SHORT_VERSION) && (r.price == before)) ≡ short
        → (line_fault (record_slots version before (cond short (short_line r) (full_line r))) (cond short (short_line r) (full_line r)) ≡ None) × (record_in version before (cond short (short_line r) (full_line r)) ≡ r)
    by true is = let parts = and_parts (version == SHORT_VERSION) (r.price == before) is in short_fits version before r range parts.0 (eqb-true r.price before parts.1)
    by false is = full_fits version before r range is

-- a text that is the line of a record, which is in range
record IsRecordLine (version before : ℕ) (text : List ℕ) (r : Record) : Type 0 where
  in_range : IsRecordInRange r
  text_is : text ≡ record_line version before r

full_spelled : (version before : ℕ) (text : List ℕ) → line_fault (full_slots (price_slot version before)) text ≡ None → IsRecordLine version before text (full_in text)
full_spelled version before text fits =
    let parts = text_full (price_slot version before) (price_is_number version before) text fits in
    let price = fits_price version before parts.0 parts.4 in
    let flow = range_fits 0 (2 ^ 48) parts.2 parts.5 in
    let is = full_of_text text parts.0 parts.2 parts.1 parts.3 in
    let r = entry_of (number_in parts.0) parts.1 (number_in parts.2) in
    let first : decimal (number_in parts.0) ≡ parts.0 = decimal-number_in parts.0 price.0 (omega (arith, price.1)) in
    let last : decimal (number_in parts.2) ≡ parts.2 = decimal-number_in parts.2 flow.0 (omega (arith, flow.2)) in
    let spelled : text ≡ full_line r = text_of_three text parts.0 ((48 + keep_digit parts.1) ∷ []) parts.2 parts.3
    ∙ (ap (λ p. p ++ 32 ∷ (((48 + keep_digit parts.1) ∷ []) ++ 32 ∷ parts.2)) (sym first)
    ∙ (ap (λ f. decimal (number_in parts.0) ++ 32 ∷ (((48 + keep_digit parts.1) ∷ []) ++ 32 ∷ f)) (sym last)
    ∙ sym (full_line_is r))) in
    let here : IsRecordLine version before text r = record {
      in_range = record { price = price.1; flow = flow.2 };
      text_is = spelled ∙ sym (ap (λ b. cond b (short_line r) (full_line r)) price.2);
    } in
    subst (IsRecordLine version before text) (sym is) here

short_spelled : (version before : ℕ) (text : List ℕ) → before ≤ 2 ^ 126 → (version == SHORT_VERSION) ≡ true → line_fault short_slots text ≡ None → IsRecordLine version before text (short_in before text)
short_spelled version before text small second fits =
    let parts = text_short text fits in
    let flow = range_fits 0 (2 ^ 48) parts.1 parts.3 in
    let is = short_of_text before text parts.1 parts.0 parts.2 in
    let r = entry_of before parts.0 (number_in parts.1) in
    let last : decimal (number_in parts.1) ≡ parts.1 = decimal-number_in parts.1 flow.0 (omega (arith, flow.2)) in
    let spelled : text ≡ short_line r = text_of_two text ((48 + keep_digit parts.0) ∷ []) parts.1 parts.2
    ∙ (ap (λ f. ((48 + keep_digit parts.0) ∷ []) ++ 32 ∷ f) (sym last) ∙ sym (short_line_is r)) in
    let same : ((version == SHORT_VERSION) && (before == before)) ≡ true = and_from (version == SHORT_VERSION) (before == before) second (eq-eqb before before refl) in
    let here : IsRecordLine version before text r = record {
      in_range = record { price = small; flow = flow.2 };
      text_is = spelled ∙ sym (ap (λ b. cond b (short_line r) (full_line r)) same);
    } in
    subst (IsRecordLine version before text) (sym is) here

pub record_spelled : (version before : ℕ) (text : List ℕ) → before ≤ 2 ^ 126 → line_fault (record_slots version before text) text ≡ None
    → IsRecordInRange (record_in version before text) × (text ≡ record_line version before (record_in version before text))
record_spelled version before text small fits = by (is_short version text) refl fits
  where
    both : {r : Record} → IsRecordLine version before text r → IsRecordInRange r × (text ≡ record_line version before r)
    both h = (h.in_range, h.text_is)

    by : (short : Bool) → is_short version text ≡ short → line_fault (cond short short_slots (full_slots (price_slot version before))) text ≡ None
        → IsRecordInRange (cond short (short_in before text) (full_in text)) × (text ≡ record_line version before (cond short (short_in before text) (full_in text)))
    by true is fit = both (short_spelled version before text small (and_parts (version == SHORT_VERSION) (length (words text) == 2) is).0 fit)
    by false is fit = both (full_spelled version before text fit)

keep_one : (keep : Bool) → IsLine ((48 + keep_digit keep) ∷ [])
keep_one true = (refl, omega arith)
keep_one false = (refl, omega arith)

full_is_line : (r : Record) → IsRecordInRange r → IsLine (full_line r)
full_is_line r range =
    let price : list_any (λ b. b == 10) (decimal r.price) ≡ false = lacks-digits 10 (decimal r.price) (omega arith) (digits-decimal r.price (omega (arith, range.price))) in
    let flow : list_any (λ b. b == 10) (decimal r.flow) ≡ false = lacks-digits 10 (decimal r.flow) (omega arith) (digits-decimal r.flow (omega (arith, range.flow))) in
    let rest = both_lack ((48 + keep_digit r.keep) ∷ []) (32 ∷ decimal r.flow) (keep_one r.keep).0 flow in (
      ap (list_any (λ b. b == 10)) (full_line_is r) ∙ both_lack (decimal r.price) (32 ∷ (((48 + keep_digit r.keep) ∷ []) ++ 32 ∷ decimal r.flow)) price rest,
      omega (
        arith,
        ap length (full_line_is r),
        length-append (decimal r.price) (32 ∷ (((48 + keep_digit r.keep) ∷ []) ++ 32 ∷ decimal r.flow)),
        length-decimal 38 r.price (omega arith) (omega (arith, range.price)) (omega (arith, range.price)),
        length-decimal 15 r.flow (omega arith) (omega (arith, range.flow)) (omega (arith, range.flow)),
      ),
    )

short_is_line : (r : Record) → IsRecordInRange r → IsLine (short_line r)
short_is_line r range =
    let flow : list_any (λ b. b == 10) (decimal r.flow) ≡ false = lacks-digits 10 (decimal r.flow) (omega arith) (digits-decimal r.flow (omega (arith, range.flow))) in (
      ap (list_any (λ b. b == 10)) (short_line_is r) ∙ both_lack ((48 + keep_digit r.keep) ∷ []) (32 ∷ decimal r.flow) (keep_one r.keep).0 flow,
      omega (arith, ap length (short_line_is r), length-decimal 15 r.flow (omega arith) (omega (arith, range.flow)) (omega (arith, range.flow))),
    )

pub record_is_line : (version before : ℕ) (r : Record) → IsRecordInRange r → IsLine (record_line version before r)
record_is_line version before r range = by ((version == SHORT_VERSION) && (r.price == before))
  where
    by : (short : Bool) → IsLine (cond short (short_line r) (full_line r))
    by true = short_is_line r range
    by false = full_is_line r range

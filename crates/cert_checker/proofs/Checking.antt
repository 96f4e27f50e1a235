-- What a checker may take for granted of what it keeps.
use Rattle.std.proofs.Common.{◌≡◌, ◌*◌, ◌/◌, ◌%◌, ◌^◌, ◌<◌, ◌≤◌, ◌∙◌, sym, refl, ap, subst, Bool, true, false, not, ◌&&◌, cond, nat_le, List, [], ◌∷◌, ◌++◌, length, arith, None, Some, ⊎_elim}
use Rattle.std.specs.Prelude.{IfSome}
use Rattle.std.specs.declared.option.Option.{Option}
use Rattle.std.specs.Option.{is_some}
use Rattle.std.specs.List.{IsDistinct}
use Rattle.std.specs.Map.{keys_of, lookup}
use Rattle.std.proofs.Math.Nat.{mul-le-mul_left}
use Rattle.std.proofs.lemmas.Bool.{le-leb, eqb-true, cases_Bool, cases_lt, both_ways}
use Rattle.indexmap.specs.IndexMap.{insert_entry}
use Rattle.cache_model.specs.declared.objects.Object.{Object}
use Rattle.cache_model.specs.declared.certificates.Header.{Header}
use Rattle.cache_model.specs.declared.certificates.Record.{Record}
use Rattle.cache_model.specs.Claim.{counts_past, only_fills, same_object, terms_of}
use Rattle.cache_model.proofs.Scores.{score-requests}
use Rattle.cache_model.specs.Objects.{objects_of}
use Rattle.cache_model.proofs.DifferentObjects.{length-objects_of}
use Rattle.std.proofs.lemmas.Map.Entries.{length-keys_of}
use Rattle.std.proofs.lemmas.List.Elements.{All-nil}
use Rattle.std.proofs.Common.{All}
use Rattle.cache_model.specs.Certificates.{units_of, IsHeaderInRange, IsRecordInRange}
use Rattle.cert_checker.specs.declared.rules.Figures.{Figures}
use Rattle.cert_checker.specs.declared.summary.Seen.{Seen}
use Rattle.cert_checker.specs.declared.summary.Sums.{Sums}
use Rattle.cert_checker.specs.Rules.{divides, ends_interval, first_some, record_fault, record_rules, weight_in}
use Rattle.cert_checker.specs.Steps.{added, AreNext, flow_before, seen_at, size_before, sums_after}
use Rattle.cert_checker.specs.Summaries.{AreSmall, IsChecker, IsSized, StandsFor, Summary}
use Rattle.cert_checker.proofs.Passing.{Passes, Passes-from_none}
use Rattle.cert_checker.proofs.Marks.{StandsFor-marks, with_last, with_last-before, with_last-last}
use Rattle.cert_checker.proofs.Standing.{AreWithin, within, size_before-le, flow_before-le, price_before-le, flow-le, record_fault-pushed, StandsFor-pushed}

-- a checker that was given nothing
pub StandsFor-new : (h : Header) → IsHeaderInRange h → (entries : List (Object × Seen)) → entries ≡ []
    → (fills : List Bool) → StandsFor h fills [] [] (record { header = h; entries = entries; sums = record { steps = 0; prices = 0; load = 0; flows = 0; surpluses = 0; values = 0; score = 0 } })
StandsFor-new h range entries none fills =
    subst (λ es. StandsFor h fills [] [] (record { header = h; entries = es; sums = record { steps = 0; prices = 0; load = 0; flows = 0; surpluses = 0; values = 0; score = 0 } })) (sym none)
    (record {
      header = refl;
      input = record { header_in_range = range; sizes_in_range = All-none IsSized; records_in_range = All-none IsRecordInRange; one_record_each = refl; within = omega arith };
      no_fault = λ t low. absurd (omega arith);
      objects = refl;
      seen = λ x k low. absurd (omega arith);
      sums = record { steps = refl; prices = refl; load = refl; flows = refl; surpluses = refl; values = refl; score = sym (score-requests (terms_of h fills) [] []) };
    })
  where
    All-none : {X : Type 0} (P : X → Type 0) → All P []
    All-none P = All-nil P

-- whether the next request counts, by what is kept
pub counted-is : (s : Summary) (h : Header) (fills : List Bool) (trace : List Object) (records : List Record) → StandsFor h fills trace records s → (only : Bool) → only_fills fills (length trace) ≡ only
    → (nat_le s.header.warmup s.sums.steps && not only) ≡ counts_past h.warmup fills (length trace)
counted-is s h fills trace records st only mark =
    ap (λ (g : Header). nat_le g.warmup s.sums.steps && not only) st.header
    ∙ ap (λ n. nat_le h.warmup n && not only) st.sums.steps
    ∙ ap (λ b. nat_le h.warmup (length trace) && not b) (sym mark)

module _ (s : Summary) (k : IsChecker s) where
  in_range : IsHeaderInRange s.header
  in_range = k.stands.input.header_in_range

  limits : AreWithin s.header k.fills k.trace k.records s k.stands
  limits = within s.header k.fills k.trace k.records s k.stands

  pub prices-le : s.sums.prices ≤ 2 ^ 126
  prices-le =
      let positive : 1 ≤ units_of s.header = units-positive in
      omega (arith, limits.paid, mul-le-mul_left s.sums.prices positive)
    where
      units-positive : 1 ≤ units_of s.header
      units-positive = grind (arith, in_range.unit)

  pub load-le : s.sums.load ≤ 2 ^ 56
  load-le = omega (arith, limits.load, in_range.capacity)

  pub flows-le : s.sums.flows ≤ 2 ^ 56
  flows-le = omega (arith, limits.flows, in_range.capacity, div-le)
    where
      div-le : units_of s.header ≤ s.header.capacity
      div-le = grind arith

  module _ (x : Object) (b : Option Seen) (is : b ≡ lookup (same_object x) s.entries) where
    pub in_load : size_before x b ≤ s.sums.load
    in_load = subst (λ o. size_before x o ≤ s.sums.load) (sym is) (size_before-le s.header k.fills k.trace k.records s k.stands x)

    pub in_flows : flow_before b ≤ s.sums.flows
    in_flows = subst (λ o. flow_before o ≤ s.sums.flows) (sym is) (flow_before-le s.header k.fills k.trace k.records s k.stands x)

    pub each_price : IfSome b (λ seen. seen.price_before ≤ s.sums.prices)
    each_price = at b is
      where
        at : (o : Option Seen) → o ≡ lookup (same_object x) s.entries → IfSome o (λ seen. seen.price_before ≤ s.sums.prices)
        at None e = tt
        at (Some seen) e = price_before-le s.header k.fills k.trace k.records s k.stands x seen (sym e)

    pub each_flow : IfSome b (λ seen. seen.flow ≤ weight_in s.header x)
    each_flow = at b is
      where
        at : (o : Option Seen) → o ≡ lookup (same_object x) s.entries → IfSome o (λ seen. seen.flow ≤ weight_in s.header x)
        at None e = tt
        at (Some seen) e = flow-le s.header k.fills k.trace k.records s k.stands x seen (sym e)

    module _ (r : Record) (now : Figures) (counts : Bool) (next : AreNext s.header counts s.sums x r b now) where
      same_next : AreNext s.header counts s.sums x r (lookup (same_object x) s.entries) now
      same_next = subst (λ o. AreNext s.header counts s.sums x r o now) is next

      -- an object that is requested again has a weight, if it fits
      pub each_weight : IsSized x → first_some (record_rules s.header x r now) ≡ None → counts ≡ true → IfSome b (λ seen. x.size ≤ s.header.capacity → 1 ≤ x.size / s.header.unit)
      each_weight sized passes over = at b refl
        where
          unit_divides : is_some b ≡ true → x.size ≤ s.header.capacity → x.size % s.header.unit ≡ 0
          unit_divides again fits =
              let p : Passes s.header x r now = Passes-from_none s.header x r now passes in
              let ends : ends_interval s.header x now ≡ true = ap (λ a. a && nat_le x.size s.header.capacity) (next.ends ∙ ap (λ e. e && counts) again ∙ over) ∙ le-leb x.size s.header.capacity fits in
              let test : not (divides s.header.unit x.size) ≡ false = ap (λ e. e && not (divides s.header.unit x.size)) (sym ends) ∙ p.unit in
              ⊎_elim
              (λ (yes : divides s.header.unit x.size ≡ true). eqb-true (x.size % s.header.unit) 0 yes)
              (λ (no : divides s.header.unit x.size ≡ false). absurd (both_ways (not (divides s.header.unit x.size)) test (ap not no)))
              (cases_Bool (divides s.header.unit x.size))

          at : (o : Option Seen) → b ≡ o → IfSome o (λ seen. x.size ≤ s.header.capacity → 1 ≤ x.size / s.header.unit)
          at None e = tt
          at (Some seen) e = λ fits.
              let whole : x.size % s.header.unit ≡ 0 = unit_divides (ap is_some e) fits in
              let unit : 1 ≤ s.header.unit = in_range.unit.0 in
              ⊎_elim
              (λ (some : 0 < x.size / s.header.unit). omega arith)
              (λ (none : x.size / s.header.unit ≤ 0).
              let e : x.size / s.header.unit ≡ 0 = omega arith in
              absurd (omega (arith, sized, ap (λ k. s.header.unit * k) e)))
              (cases_lt 0 (x.size / s.header.unit))

      -- the record is refused
      pub refused : (h : Header) (fills : List Bool) (trace : List Object) (records : List Record) → StandsFor h fills trace records s → counts ≡ counts_past h.warmup fills (length trace)
          → record_fault h fills (trace ++ x ∷ []) (records ++ r ∷ []) (length trace) ≡ first_some (record_rules s.header x r now)
      refused h fills trace records st is_counted =
          record_fault-pushed h fills trace records s st x r now counts is_counted (subst (λ g. AreNext g counts s.sums x r (lookup (same_object x) s.entries) now) st.header same_next)
          ∙ ap (λ g. first_some (record_rules g x r now)) (sym st.header)

      module _ (sized : IsSized x) (ranged : IsRecordInRange r) (room : s.sums.steps < s.header.requests) (passes : first_some (record_rules s.header x r now) ≡ None)
          (after : List (Object × Seen)) (entered : after ≡ insert_entry same_object s.entries x (seen_at s.sums r))
          (looked : (y : Object) → lookup (same_object y) after ≡ cond (same_object x y) (Some (seen_at s.sums r)) (lookup (same_object y) s.entries))
          (sums : Sums) (summed : sums ≡ sums_after s.sums now (added s.header counts x s.sums.prices b)) where
        -- the record is taken
        pub taken : (h : Header) (fills : List Bool) (trace : List Object) (records : List Record) → StandsFor h fills trace records s → counts ≡ counts_past h.warmup fills (length trace)
            → StandsFor h fills (trace ++ x ∷ []) (records ++ r ∷ []) (record { header = s.header; entries = after; sums = sums })
        taken h fills trace records st is_counted =
            StandsFor-pushed h fills trace records s st x r now counts is_counted (subst (λ g. AreNext g counts s.sums x r (lookup (same_object x) s.entries) now) st.header same_next)
            sized ranged (subst (λ g. s.sums.steps < g.requests) st.header room) (ap (λ g. first_some (record_rules g x r now)) (sym st.header) ∙ passes)
            after entered looked sums
            (summed ∙ ap (λ o. sums_after s.sums now (added s.header counts x s.sums.prices o)) is ∙ ap (λ g. sums_after s.sums now (added g counts x s.sums.prices (lookup (same_object x) s.entries))) st.header)

        -- whatever marks the requests so far have, and whether this one only fills
        pub IsChecker-taken : (only : Bool) → counts ≡ (nat_le s.header.warmup s.sums.steps && not only) → AreSmall sums → IsDistinct same_object (keys_of after)
            → IsChecker (record { header = s.header; entries = after; sums = sums })
        IsChecker-taken only counted small unique =
            let g : List Bool = with_last k.fills (length k.trace) only in
            let stands : StandsFor s.header g k.trace k.records s =
            StandsFor-marks s.header k.fills g k.trace k.records (λ t low. sym (with_last-before k.fills (length k.trace) only t low)) s k.stands in
            record {
              unique = unique;
              fills = g;
              trace = k.trace ++ x ∷ [];
              records = k.records ++ r ∷ [];
              stands = taken s.header g k.trace k.records stands
                  (counted ∙ counted-is s s.header g k.trace k.records stands only (with_last-last k.fills (length k.trace) only));
              small = small;
            }

  units-le : units_of s.header ≤ s.header.capacity
  units-le = grind arith

  -- the units and all the prices, with the surpluses, fit
  pub paid-le : units_of s.header * s.sums.prices ≤ 2 ^ 126
  paid-le = limits.paid

  pub steps-le : s.sums.steps ≤ 2 ^ 25
  steps-le =
      omega (arith, k.stands.sums.steps, k.stands.input.within, in_range.requests)

  pub surpluses-le : s.sums.surpluses ≤ 2 ^ 121
  surpluses-le = omega (arith, k.small.surpluses, steps-le)

  -- there are as many entries as objects
  pub entries-are : (h : Header) (fills : List Bool) (trace : List Object) (records : List Record) → StandsFor h fills trace records s → length s.entries ≡ length (objects_of trace)
  entries-are h fills trace records st = sym (length-keys_of s.entries) ∙ ap length st.objects

  pub entries-le : length s.entries ≤ 2 ^ 25
  entries-le =
      omega (arith, entries-are s.header k.fills k.trace k.records k.stands, length-objects_of k.trace, k.stands.input.within, in_range.requests)

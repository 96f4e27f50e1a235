-- A valid certificate with refined prices.
use Rattle.std.proofs.Common.{◌≡◌, ◌∙◌, ℕ, ◌-◌, ◌*◌, ◌<◌, ◌≤◌, ◌^◌, sym, ap, subst, refl, arith, zero, suc, List, [], ◌∷◌, length, map, get_or, sum, All, Ok, Err, IfOk}
use Rattle.std.specs.Prelude.{Result}
use Rattle.std.proofs.lemmas.List.Elements.{All-cons, All-head, All-nil, All-tail}
use Rattle.std.proofs.lemmas.List.Sums.{sum_by-cons}
use Rattle.std.proofs.Math.Nat.{le_of_mul-le-mul_left, mul-le-mul_right}
use Rattle.bound_io.specs.Devices.{Device}
use Rattle.cache_rules.specs.Stored.{Requests}
use Rattle.cache_model.specs.declared.intervals.Interval.{Interval}
use Rattle.cache_model.specs.declared.certificates.Header.{Header}
use Rattle.cache_model.specs.declared.certificates.Record.{Record}
use Rattle.cache_model.specs.Certificates.{IsCertificate, IsRecordInRange, IsValid, eligible_of, flow_of, flows_of, keeps_of, prices_of, units_of}
use Rattle.cache_model.specs.Claim.{score, terms_of, contents_of, IsAllowed}
use Rattle.cache_model.specs.Intervals.{bound_of}
use Rattle.cache_model.specs.Schedules.{IsFractionalSchedule, flow_value}
use Rattle.cache_model.specs.Texts.{cert_text}
use Rattle.cache_model.proofs.Flows.{flow_value-le}
use Rattle.cache_model.proofs.Headline.{valid_bounds}
use Rattle.price_refine.specs.Refinements.{Refinement}
use Rattle.trace_any.specs.declared.format.Format.{Format}
use Rattle.trace_any.specs.Readers.{Notes}
use Rattle.interval_maker.specs.Timelines.{Timeline, timeline_of}
use Rattle.price_refine.specs.Blocks.{AreSettled}
use Rattle.bound_report.specs.declared.refusal.Refusal.TheVariants as refusal
use Rattle.bound_run.specs.Refusals.{RefusesCheck}
use Rattle.bound_run.specs.Refined.{AreRefinedTexts, IsRefinable, IsRefined, IsRefinement, RefinesPrices, verdict_on, with_price, with_prices, with_upper}
use Rattle.run_counts.specs.Countings.{counting_of}
use Rattle.bound_run.specs.Reports.{refined_report}
use Rattle.bound_run.proofs.HeaderRanges.{still_in_range}
use Rattle.bound_run.proofs.MadeOf.{some_units}

-- the records

pub prices_of-with_prices : (records : List Record) (prices : List ℕ) → length prices ≡ length records → prices_of (with_prices records prices) ≡ prices
prices_of-with_prices [] [] same = refl
prices_of-with_prices [] (p ∷ prices) same = absurd (omega arith)
prices_of-with_prices (r ∷ records) [] same = absurd (omega arith)
prices_of-with_prices (r ∷ records) (p ∷ prices) same = ap (λ more. p ∷ more) (prices_of-with_prices records prices (omega arith))

-- what is no price stays
stays : {A : Type 0} (f : Record → A) → ((r : Record) (p : ℕ) → f (with_price r p) ≡ f r) → (records : List Record) (prices : List ℕ) → length prices ≡ length records → map f (with_prices records prices) ≡ map f records
stays f same [] [] each = refl
stays f same [] (p ∷ prices) each = absurd (omega arith)
stays f same (r ∷ records) [] each = absurd (omega arith)
stays f same (r ∷ records) (p ∷ prices) each = ap (λ x. x ∷ map f (with_prices records prices)) (same r p) ∙ ap (λ more. f r ∷ more) (stays f same records prices (omega arith))

pub length-with_prices : (records : List Record) (prices : List ℕ) → length prices ≡ length records → length (with_prices records prices) ≡ length records
length-with_prices [] [] same = refl
length-with_prices [] (p ∷ prices) same = refl
length-with_prices (r ∷ records) [] same = absurd (omega arith)
length-with_prices (r ∷ records) (p ∷ prices) same = ap suc (length-with_prices records prices (omega arith))

-- the record at a place has the price of that place
pub record_at-with_prices : (records : List Record) (prices : List ℕ) (t : ℕ) (d e : Record) → length prices ≡ length records → t < length records → get_or (with_prices records prices) t d ≡ with_price (get_or records t e) (get_or prices t 0)
record_at-with_prices [] prices t d e same within = absurd (omega arith)
record_at-with_prices (r ∷ records) [] t d e same within = absurd (omega arith)
record_at-with_prices (r ∷ records) (p ∷ prices) zero d e same within = refl
record_at-with_prices (r ∷ records) (p ∷ prices) (suc t) d e same within = record_at-with_prices records prices t d e (omega arith) (omega arith)

-- records stay in range with prices whose sum is
in_range : (records : List Record) (prices : List ℕ) → All IsRecordInRange records → sum prices ≤ 2 ^ 126 → All IsRecordInRange (with_prices records prices)
in_range [] prices each small = All-nil IsRecordInRange
in_range (r ∷ records) [] each small = All-nil IsRecordInRange
in_range (r ∷ records) (p ∷ prices) each small =
    All-cons IsRecordInRange (with_price r p) (with_prices records prices)
    (record { price = omega (arith, sum_by-cons (λ (n : ℕ). n) p prices); flow = (All-head IsRecordInRange r records each).flow })
    (in_range records prices (All-tail IsRecordInRange r records each) (omega (arith, sum_by-cons (λ (n : ℕ). n) p prices)))

-- the prices

module _ {E : Type 0} (width : ℕ) (trace : Requests) (h : Header) (records : List Record) (valid : IsValid trace.objects trace.fills h records) where
  -- prices that are refined for the intervals of the trace refine those of its certificate
  pub refines_ok : (line : Timeline) (given : List ℕ) (r : Result Refinement E) → line ≡ timeline_of (terms_of h trace.fills) trace.objects → given ≡ prices_of records
      → IfOk r (λ x. length x.prices ≡ line.steps) → IfOk r (λ x. get_or x.prices (line.steps - 1) 0 ≡ 0) → IfOk r (λ x. units_of h * sum x.prices ≤ 2 ^ 126)
      → IfOk r (λ x. x.upper ≡ bound_of line.items h.unit (units_of h) h.denominator x.prices)
      → IfOk r (λ x. x.upper ≤ bound_of line.items h.unit (units_of h) h.denominator given)
      → IfOk r (λ x. AreSettled line.items h.unit (units_of h) h.denominator width x.prices) → IfOk r (RefinesPrices width trace h)
  refines_ok line given (Err e) is same each last paid upper below settled = tt
  refines_ok line given (Ok x) is same each last paid upper below settled =
      let steps : line.steps ≡ length trace.objects = ap (λ l. l.steps) is in
      let items : line.items ≡ eligible_of trace.objects trace.fills h = ap (λ l. l.items) is in
      let bound : bound_of line.items h.unit (units_of h) h.denominator given ≡ h.upper
      = ap (λ xs. bound_of xs h.unit (units_of h) h.denominator given) items ∙ ap (bound_of (eligible_of trace.objects trace.fills h) h.unit (units_of h) h.denominator) same ∙ sym valid.upper in
      record {
        each_step = each ∙ steps;
        last = subst (λ n. get_or x.prices (n - 1) 0 ≡ 0) steps last;
        paid = paid;
        upper = upper ∙ ap (λ xs. bound_of xs h.unit (units_of h) h.denominator x.prices) items;
        not_greater = subst (λ n. x.upper ≤ n) bound below;
        settled = subst (λ xs. AreSettled xs h.unit (units_of h) h.denominator width x.prices) items settled;
      }

-- the certificate

module _ (width : ℕ) (trace : Requests) (h : Header) (records : List Record) (valid : IsValid trace.objects trace.fills h records) (to : Refinement) (refines : RefinesPrices width trace h to) where
  abbrev made : Header
  made = with_upper h to.upper

  abbrev refined : List Record
  refined = with_prices records to.prices

  abbrev intervals : List Interval
  intervals = eligible_of trace.objects trace.fills h

  each : length to.prices ≡ length records
  each = refines.each_step ∙ sym valid.requests ∙ sym valid.certificate.count

  priced : prices_of refined ≡ to.prices
  priced = prices_of-with_prices records to.prices each

  kept : keeps_of refined ≡ keeps_of records
  kept = stays (λ (r : Record). r.keep) (λ r p. refl) records to.prices each

  flowing : map (λ (r : Record). r.flow) refined ≡ map (λ (r : Record). r.flow) records
  flowing = stays (λ (r : Record). r.flow) (λ r p. refl) records to.prices each

  flows_stay : flows_of intervals refined ≡ flows_of intervals records
  flows_stay = ap (λ (flows : List ℕ). map (λ (i : Interval). get_or flows i.start 0) intervals) flowing

  some : 1 ≤ units_of h
  some = some_units h.capacity h.unit valid.certificate.header.unit.0 valid.certificate.header.unit.1

  -- the prices sum to no more than what the units pay for them
  small : sum to.prices ≤ 2 ^ 126
  small = omega (arith, refines.paid, mul-le-mul_right (sum to.prices) some)

  pub certificate : IsCertificate made refined
  certificate =
      let range = valid.certificate.header in
      record {
        header = still_in_range h to.upper h.version range (omega (arith, refines.not_greater, range.upper)) range.version;
        count = length-with_prices records to.prices each ∙ valid.certificate.count;
        each = in_range records to.prices valid.certificate.each small;
      }

  -- flows are worth no more than the bound of any prices
  above_flow : h.flow ≤ to.upper
  above_flow =
      let positive : 0 < h.denominator = omega (arith, valid.certificate.header.denominator.0) in
      let below : flow_of trace.objects trace.fills h records ≤ bound_of intervals h.unit (units_of h) h.denominator to.prices
      = le_of_mul-le-mul_left {k = h.denominator} (flow_value-le intervals h.unit (units_of h) h.denominator h.denominator (flows_of intervals records) to.prices valid.flows) positive in
      omega (arith, valid.flow, refines.upper, below)

  pub still_valid : IsValid trace.objects trace.fills made refined
  still_valid = record {
    certificate = certificate;
    requests = valid.requests;
    sum_limit = rw priced refines.paid;
    last_price = rw priced refines.last;
    unit = valid.unit;
    keeps = subst (λ keeps. IsAllowed h.capacity trace.objects (contents_of trace.objects keeps)) (sym kept) valid.keeps;
    lower = valid.lower ∙ ap (λ keeps. score (terms_of h trace.fills) trace.objects (contents_of trace.objects keeps)) (sym kept);
    unused_flows = λ t none. ap (λ flows. get_or flows t 0) flowing ∙ valid.unused_flows t none;
    flows = subst (λ flows. IsFractionalSchedule intervals h.unit (units_of h) flows) (sym flows_stay) valid.flows;
    flow = valid.flow ∙ ap (λ flows. flow_value intervals h.unit h.denominator flows) (sym flows_stay);
    upper = refines.upper ∙ ap (bound_of intervals h.unit (units_of h) h.denominator) (sym priced);
    whole_costs = valid.whole_costs;
    exact_values = λ exact. omega (arith, above_flow, refines.not_greater, valid.exact_values exact);
  }

  pub refinement : IsRefinement width trace h records made refined
  refinement = record {
    prices = to.prices;
    each_step = each;
    header_is = refl;
    records_are = refl;
    valid = still_valid;
    bounds = valid_bounds trace.objects trace.fills made refined still_valid;
    not_greater = refines.not_greater;
    settled = refines.settled;
  }

  -- the texts of the certificate and the report
  pub refined_texts : (format : Format) (notes : Notes) (cert report : List ℕ) → cert ≡ cert_text made refined → report ≡ refined_report (counting_of format h trace notes.noted) h.upper (verdict_on trace made) notes.dropped → AreRefinedTexts format width trace notes h records cert report
  refined_texts format notes cert report cert_is report_is = record { made = made; refined = refined; refinement = refinement; cert_is = cert_is; report_is = report_is }

-- what comes of a certificate that was kept
pub refined_all : (format : Format) (width : ℕ) (source cert : Device) (requests : Requests) (notes : Notes) (h : Header) (records : List Record) (written report : List ℕ)
    → IsRefinable format source cert requests notes h records → AreRefinedTexts format width requests notes h records written report → IsRefined format width source cert written report
refined_all format width source cert requests notes h records written report read texts =
    record { requests = requests; notes = notes; header = h; records = records; read = read; texts = texts }

-- running out of memory is free
pub memory_refuses : (format : Format) (source cert : Device) → RefusesCheck format source cert refusal.NoMemory
memory_refuses format source cert = tt

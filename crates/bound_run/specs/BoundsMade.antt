-- What bounds makes of a trace: the certificate and the report.
use Rattle.std.specs.Prelude.{◌≡◌, ◌↔◌, ℕ, ◌+◌, max, nat_le, ◌<◌, ◌≤◌, Bool, false, IsTrue, List, length, map, slice_index_or, sum, All}
use Rattle.std.specs.List.{range_with_len}
use Rattle.cache_rules.specs.Stored.{Requests}
use Rattle.cache_model.specs.declared.intervals.Interval.{Interval}
use Rattle.cache_model.specs.declared.certificates.Header.{Header}
use Rattle.cache_model.specs.declared.certificates.Record.{Record}
use Rattle.bound_terms.specs.declared.modes.Mode.{Mode}
use Rattle.bound_terms.specs.declared.modes.Mode.TheVariants.{Flow, Constant, Infinite}
use Rattle.bound_terms.specs.declared.modes.Window.{Window}
use Rattle.bound_terms.specs.declared.modes.Window.TheVariants.{Steps, All as Whole}
use Rattle.cache_model.specs.Intervals.{eligible_intervals}
use Rattle.cache_model.specs.Claim.{is_kept, marked, terms_of, BoundsEveryPolicy}
use Rattle.cache_model.specs.Units.{IsUnit, HasWholeCosts}
use Rattle.cache_model.specs.Certificates.{eligible_of, flows_of, keeps_of, prices_of, units_of, IsValid, IsLeastOverAll}
use Rattle.cache_model.specs.Rounding.{IsMaximal, IsRounded, by_rank}
use Rattle.cache_model.specs.Texts.{cert_text}
use Rattle.flow_model.specs.Instances.{IsLeast, IsSolution, total_cost, whole_instance}
use Rattle.flow_model.specs.Windows.{window_instance}
use Rattle.interval_maker.specs.Timelines.{Timeline, starting_at, timeline_of}
use Rattle.relaxation.specs.declared.denominators.DenominatorChoice.TheVariants.{Exact}
use Rattle.relaxation.specs.Denominators.{IsChosen, PassesMost}
use Rattle.relaxation.specs.Faults.{amount_of}
use Rattle.constant_price.specs.Constants.{IsLeastConstant, constant_prices}
use Rattle.schedule_round.specs.Laws.{IsBestSchedule, full_flags}
use Rattle.window_bounds.specs.Solutions.{AreSolutions, prices_in, value_of_windows, window_count}
use Rattle.bound_words.specs.declared.plans.BoundSettings.{BoundSettings}
use Rattle.trace_any.specs.declared.format.Format.{Format}
use Rattle.trace_any.specs.Readers.{Notes}
use Rattle.run_counts.specs.Countings.{counting_of}
use Rattle.bound_run.specs.Reports.{bounds_report}

-- how many steps a window has
abbrev pub width_of : Window → ℕ → ℕ
width_of Whole steps = max steps 1
width_of (Steps width) steps = width

-- the mode is flow, with one window for all steps
abbrev pub is_unwindowed : Mode → ℕ → Bool
is_unwindowed (Flow window) steps = nat_le steps (width_of window steps)
is_unwindowed Constant steps = false
is_unwindowed Infinite steps = false

-- the prices and the flows are those of the mode: in each window least prices and best flows of one value, or the least constant and no flow, or neither price nor flow
abbrev pub IsOfMode : Mode → Timeline → ℕ → ℕ → ℕ → List ℕ → List ℕ → ℕ → Type 0
IsOfMode (Flow window) line unit units denominator prices flows price =
    let whole = whole_instance line.items line.steps unit units denominator in
    let width = width_of window line.steps in
    (price ≡ 0) × AreSolutions whole width prices flows × (line.steps ≤ width → IsSolution whole prices flows)
IsOfMode Constant line unit units denominator prices flows price =
    IsLeastConstant line unit units denominator price × (prices ≡ constant_prices price line.steps) × All (λ f. f ≡ 0) flows
IsOfMode Infinite line unit units denominator prices flows price = (price ≡ 0) × (prices ≡ constant_prices 0 line.steps) × All (λ f. f ≡ 0) flows

-- no other prices of the steps of a window have a smaller value in it
abbrev pub HasLeastWindows : Mode → Timeline → ℕ → ℕ → ℕ → List ℕ → Type 0
HasLeastWindows (Flow window) line unit units denominator prices =
    let whole = whole_instance line.items line.steps unit units denominator in
    let width = width_of window line.steps in
    (k : ℕ) → k < window_count whole width → IsLeast (window_instance whole width k) (prices_in width k prices)
HasLeastWindows Constant line unit units denominator prices = Unit {0}
HasLeastWindows Infinite line unit units denominator prices = Unit {0}

-- the bound is at most what the windows are worth at their prices, summed
abbrev pub IsBelowWindows : Mode → Timeline → ℕ → ℕ → ℕ → List ℕ → ℕ → Type 0
IsBelowWindows (Flow window) line unit units denominator prices bound =
    bound ≤ value_of_windows (whole_instance line.items line.steps unit units denominator) (width_of window line.steps) prices
IsBelowWindows Constant line unit units denominator prices bound = Unit {0}
IsBelowWindows Infinite line unit units denominator prices bound = Unit {0}

-- the bound is at most what the flows earn, and so at most their value and one more for each unit of flow
pub record IsNear (trace : Requests) (h : Header) (flows : List ℕ) : Type 0 where
  pub earned : h.upper ≤ total_cost (whole_instance (eligible_of trace.objects trace.fills h) (length trace.objects) h.unit (units_of h) h.denominator).arcs flows
  pub value : h.upper ≤ h.flow + sum flows

-- a valid certificate of the trace as asked for: the greatest unit, the denominator that is chosen, the prices and flows of the mode, and the keeps that are rounded from the full flows
pub record IsMade (asked : BoundSettings) (trace : Requests) (price : ℕ) (h : Header) (records : List Record) : Type 0 where
  pub valid : IsValid trace.objects trace.fills h records
  pub terms : terms_of h trace.fills ≡ marked asked.terms trace.fills
  pub version : h.version ≡ asked.version
  pub unit : IsUnit (eligible_of trace.objects trace.fills h) h.unit
  pub denominator : IsChosen asked.denominator (eligible_of trace.objects trace.fills h) h.unit h.denominator
  pub form : IsTrue h.exact ↔ (IsTrue (is_unwindowed asked.mode (length trace.objects)) × HasWholeCosts (eligible_of trace.objects trace.fills h) h.unit h.denominator)
  pub of_mode : IsOfMode asked.mode (timeline_of (terms_of h trace.fills) trace.objects) h.unit (units_of h) h.denominator
      (prices_of records) (flows_of (eligible_of trace.objects trace.fills h) records) price
  pub least_windows : HasLeastWindows asked.mode (timeline_of (terms_of h trace.fills) trace.objects) h.unit (units_of h) h.denominator (prices_of records)
  pub below_windows : IsBelowWindows asked.mode (timeline_of (terms_of h trace.fills) trace.objects) h.unit (units_of h) h.denominator (prices_of records) h.upper
  pub rounded : IsRounded by_rank (eligible_of trace.objects trace.fills h) h.capacity (length trace.objects)
      (full_flags h.unit (eligible_of trace.objects trace.fills h) (flows_of (eligible_of trace.objects trace.fills h) records)) (keeps_of records)
  pub maximal : IsMaximal (eligible_of trace.objects trace.fills h) h.capacity (keeps_of records)
  pub bounds : BoundsEveryPolicy trace.objects trace.fills h
  pub least : IsTrue h.exact → IsLeastOverAll trace.objects trace.fills h records
  pub near : IsTrue (is_unwindowed asked.mode (length trace.objects)) → IsNear trace h (flows_of (eligible_of trace.objects trace.fills h) records)
  pub exact_if_equal : (size : ℕ) → IsTrue (is_unwindowed asked.mode (length trace.objects)) → All (λ i. i.size ≡ size) (eligible_of trace.objects trace.fills h) → IsTrue h.exact
  pub equal_sizes : (size : ℕ) → IsTrue (is_unwindowed asked.mode (length trace.objects)) → All (λ i. i.size ≡ size) (eligible_of trace.objects trace.fills h)
      → IsBestSchedule (terms_of h trace.fills) trace.objects h.denominator h.upper (keeps_of records)

-- the certificate and the report are the texts of what is made of the trace
pub record AreTexts (format : Format) (asked : BoundSettings) (trace : Requests) (notes : Notes) (cert report : List ℕ) : Type 0 where
  pub price : ℕ
  pub header : Header
  pub records : List Record
  pub made : IsMade asked trace price header records
  pub cert_is : cert ≡ cert_text header records
  pub report_is : report ≡ bounds_report (counting_of format header trace notes.noted) asked trace notes.dropped price header records

-- a denominator that rounds no cost is asked for, and the least one passes 2^48
pub record RefusesDenominator (asked : BoundSettings) (trace : Requests) : Type 0 where
  pub exact : asked.denominator ≡ Exact
  pub unit : ℕ
  pub unit_is : IsUnit (eligible_intervals (marked asked.terms trace.fills) trace.objects) unit
  pub past : PassesMost (eligible_intervals (marked asked.terms trace.fills) trace.objects) unit

-- the record of request t: the price of its step, its keep, and the flow of the interval that starts there
abbrev pub record_of : List ℕ → List Bool → List Interval → List ℕ → ℕ → Record
record_of prices keeps intervals flows t =
    record { price = slice_index_or prices t 0; keep = is_kept keeps t; flow = amount_of flows (starting_at intervals t) }

-- a record for each request
abbrev pub records_of : List ℕ → List Bool → List Interval → List ℕ → List Record
records_of prices keeps intervals flows = map (record_of prices keeps intervals flows) (range_with_len 0 (length keeps))

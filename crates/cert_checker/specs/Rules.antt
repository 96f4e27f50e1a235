-- The rules of a certificate, in their order: those of a record, and those of the end.
use Rattle.std.specs.Prelude.{ℕ, ◌+◌, ◌*◌, ◌/◌, ◌%◌, ◌^◌, Bool, false, not, ◌&&◌, ◌==◌, nat_lt, nat_le, if◌then◌else◌, List, [], ◌∷◌, ◌++◌, length, slice_index_or, take, find, sum, None, Some, Result, Ok, Err}
use Rattle.std.specs.declared.option.Option.{Option}
use Rattle.std.specs.Option.{option_map}
use Rattle.std.specs.List.{list_any, range_with_len}
use Rattle.cache_model.specs.declared.objects.Object.{Object}
use Rattle.cache_model.specs.declared.certificates.Header.{Header}
use Rattle.cache_model.specs.declared.certificates.Record.{Record}
use Rattle.cache_model.specs.Claim.{counts_past, same_object, gain_of, score, request_at, contents_of, is_latest, terms_of}
use Rattle.cache_model.specs.Objects.{numbers_of}
use Rattle.cache_model.specs.Keeps.{latest_sum, load_after}
use Rattle.cache_model.specs.Certificates.{flow_at, flow_of, keeps_of, prices_of, units_of, unpriced, upper_of}
use Rattle.cert_checker.specs.declared.rules.Figures.{Figures}
use Rattle.cert_checker.specs.declared.verdict.Counted.{Counted}
use Rattle.cert_checker.specs.declared.invalid.InvalidKind.{InvalidKind}
use Rattle.cert_checker.specs.declared.invalid.InvalidKind.TheVariants.{SumLimit, LastPrice, UnitNotDivisor, NotDivisible, Overfull, FlowAboveWeight, FlowOverfull, Unused, UpperDiffers, FlowDiffers, LowerDiffers, ExactGap}

-- a kind, if the test passes
abbrev pub found : Bool → InvalidKind → Option InvalidKind
found test kind = if test then Some kind else None

-- the first of these, if there is one
abbrev pub first_some : {A : Type 0} → List (Option A) → Option A
first_some [] = None
first_some (None ∷ others) = first_some others
first_some (Some a ∷ others) = Some a

-- the first number divides the second
abbrev pub divides : ℕ → ℕ → Bool
divides a b = b % a == 0

-- the weight of an object, which is 0 if it does not fit the capacity
abbrev pub weight_in : Header → Object → ℕ
weight_in h x = if nat_le x.size h.capacity then x.size / h.unit else 0

-- an interval that counts ends at a request of x
abbrev pub ends_interval : Header → Object → Figures → Bool
ends_interval h x now = now.counts && nat_le x.size h.capacity

-- the rules of the price
abbrev pub price_rules : Header → Record → Figures → List (Option InvalidKind)
price_rules h r now =
    found (nat_lt (2 ^ 126) (units_of h * now.prices)) SumLimit
    ∷ found (now.last && not (r.price == 0)) (LastPrice r.price)
    ∷ []

-- the rules of an interval that ends
abbrev pub interval_rules : Header → Object → Figures → List (Option InvalidKind)
interval_rules h x now =
    found (ends_interval h x now && not (divides h.unit x.size)) (UnitNotDivisor h.unit x.size)
    ∷ found (ends_interval h x now && h.exact && not (divides (x.size / h.unit) (h.denominator * gain_of h.objective x))) (NotDivisible (x.size / h.unit))
    ∷ []

-- the rules of the loads and of the flows
abbrev pub load_rules : Header → Object → Record → Figures → List (Option InvalidKind)
load_rules h x r now =
    found (nat_lt h.capacity now.load) (Overfull now.load h.capacity)
    ∷ found (nat_lt (weight_in h x) r.flow) (FlowAboveWeight r.flow (weight_in h x))
    ∷ found (nat_lt (units_of h) now.flows) (FlowOverfull now.flows (units_of h))
    ∷ option_map Unused now.unused
    ∷ []

-- the rules of a record of a request of x, in their order
abbrev pub record_rules : Header → Object → Record → Figures → List (Option InvalidKind)
record_rules h x r now = price_rules h r now ++ interval_rules h x now ++ load_rules h x r now

-- what record t states
abbrev pub record_at : List Record → ℕ → Record
record_at records t = slice_index_or records t (unpriced false)

-- whether an earlier request is of the object of request t
abbrev pub was_requested : List Object → ℕ → Bool
was_requested trace t = list_any (same_object (request_at trace t)) (take t trace)

-- request a is the latest before t of the same object, and has a flow
abbrev pub has_flow_until : List Object → List Record → ℕ → ℕ → Bool
has_flow_until trace records t a = same_object (request_at trace t) (request_at trace a) && is_latest trace t a && nat_lt 0 (flow_at records a)

-- if request t doesn't count, the request before it of the same object, if that has a flow
abbrev pub unused_before : Header → List Bool → List Object → List Record → ℕ → Option ℕ
unused_before h fills trace records t = if counts_past h.warmup fills t then None else find (has_flow_until trace records t) (range_with_len 0 t)

-- the figures after request t and its record
abbrev pub figures_at : Header → List Bool → List Object → List Record → ℕ → Figures
figures_at h fills trace records t = record {
  prices = sum (take (t + 1) (prices_of records));
  last = t + 1 == h.requests;
  counts = was_requested trace t && counts_past h.warmup fills t;
  unused = unused_before h fills trace records t;
  load = load_after trace (keeps_of records) t;
  flows = latest_sum trace (flow_at records) (t + 1);
}

-- the first rule that record t fails
abbrev pub record_fault : Header → List Bool → List Object → List Record → ℕ → Option InvalidKind
record_fault h fills trace records t = first_some (record_rules h (request_at trace t) (record_at records t) (figures_at h fills trace records t))

-- the first request that is the latest of its object and has a flow
abbrev pub first_unused : List Object → List Record → Option ℕ
first_unused trace records = find (λ a. is_latest trace (length trace) a && nat_lt 0 (flow_at records a)) (numbers_of trace)

-- the rules of the end, in their order
abbrev pub end_rules : Header → Option ℕ → Counted → List (Option InvalidKind)
end_rules h unused counted =
    option_map Unused unused
    ∷ found (not (h.upper == counted.upper)) (UpperDiffers h.upper counted.upper)
    ∷ found (not (h.flow == counted.flow)) (FlowDiffers h.flow counted.flow)
    ∷ found (not (h.lower == counted.lower)) (LowerDiffers h.lower counted.lower)
    ∷ found (h.exact && not (counted.upper == counted.flow)) (ExactGap counted.upper counted.flow)
    ∷ []

-- what the whole lists give
abbrev pub counted_of : Header → List Bool → List Object → List Record → Counted
counted_of h fills trace records = record {
  upper = upper_of trace fills h records;
  flow = flow_of trace fills h records;
  lower = score (terms_of h fills) trace (contents_of trace (keeps_of records));
}

-- the first rule that the end fails
abbrev pub end_fault : Header → List Bool → List Object → List Record → Option InvalidKind
end_fault h fills trace records = first_some (end_rules h (first_unused trace records) (counted_of h fills trace records))

-- the test passes, unless there is a fault
abbrev pub unless_fault : Option InvalidKind → Result (Unit {0}) InvalidKind
unless_fault None = Ok tt
unless_fault (Some kind) = Err kind

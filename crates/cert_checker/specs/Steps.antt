-- One step of a checker, over what it keeps.
use Rattle.std.specs.Prelude.{◌≡◌, ℕ, ◌+◌, ◌-◌, ◌*◌, ◌/◌, ◌==◌, ◌&&◌, Bool, not, if◌then◌else◌, nat_le, nat_lt, None, Some}
use Rattle.std.specs.declared.option.Option.{Option}
use Rattle.std.specs.Option.{is_some}
use Rattle.cache_model.specs.declared.objects.Object.{Object}
use Rattle.cache_model.specs.declared.certificates.Header.{Header}
use Rattle.cache_model.specs.declared.certificates.Record.{Record}
use Rattle.cache_model.specs.Claim.{gain_of}
use Rattle.cert_checker.specs.declared.rules.Figures.{Figures}
use Rattle.cert_checker.specs.declared.summary.Added.{Added}
use Rattle.cert_checker.specs.declared.summary.Seen.{Seen}
use Rattle.cert_checker.specs.declared.summary.Sums.{Sums}

-- the size that an object had in the load
abbrev pub size_before : Object → Option Seen → ℕ
size_before x None = 0
size_before x (Some seen) = if seen.keep then x.size else 0

-- the flow that an object had in the load of the flows
abbrev pub flow_before : Option Seen → ℕ
flow_before None = 0
flow_before (Some seen) = seen.flow

-- the latest request of an object, if it has a flow and this one doesn't count
abbrev pub unused_flow : Bool → Option Seen → Option ℕ
unused_flow counts None = None
unused_flow counts (Some seen) = if not counts && nat_lt 0 seen.flow then Some seen.latest else None

-- the figures after a request of x, which counts or not, and its record: what the object had before is taken off
pub record AreNext (h : Header) (counts : Bool) (sums : Sums) (x : Object) (r : Record) (before : Option Seen) (now : Figures) : Type 0 where
  pub prices : now.prices ≡ sums.prices + r.price
  pub last : now.last ≡ (sums.steps + 1 == h.requests)
  pub ends : now.counts ≡ (is_some before && counts)
  pub unused : now.unused ≡ unused_flow counts before
  pub load : now.load + size_before x before ≡ sums.load + (if r.keep then x.size else 0)
  pub flows : now.flows + flow_before before ≡ sums.flows + r.flow

-- what the interval that ends at a request of x adds, if the prices before it have this sum
abbrev pub added_by : Header → Object → ℕ → Seen → Added
added_by h x prices seen = record {
  surplus = if nat_le x.size h.capacity then h.denominator * gain_of h.objective x - (x.size / h.unit) * (prices - seen.price_before) else 0;
  value = if nat_le x.size h.capacity then (h.denominator * gain_of h.objective x / (x.size / h.unit)) * seen.flow else 0;
  gain = if seen.keep then gain_of h.objective x else 0;
}

-- what is added if it counts
abbrev pub added_if : Bool → Added → Added
added_if counts more = if counts then more else record { surplus = 0; value = 0; gain = 0 }

-- what a request of x adds, which is nothing if it is the first of its object or doesn't count
abbrev pub added : Header → Bool → Object → ℕ → Option Seen → Added
added h counts x prices None = record { surplus = 0; value = 0; gain = 0 }
added h counts x prices (Some seen) = added_if counts (added_by h x prices seen)

-- the sums after a request
abbrev pub sums_after : Sums → Figures → Added → Sums
sums_after sums now more = record {
  steps = sums.steps + 1;
  prices = now.prices;
  load = now.load;
  flows = now.flows;
  surpluses = sums.surpluses + more.surplus;
  values = sums.values + more.value;
  score = sums.score + more.gain;
}

-- what is kept of the object of a request
abbrev pub seen_at : Sums → Record → Seen
seen_at sums r = record { latest = sums.steps; price_before = sums.prices; keep = r.keep; flow = r.flow }

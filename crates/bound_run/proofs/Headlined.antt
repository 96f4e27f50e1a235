-- What a run that ends well has shown.
use Rattle.std.proofs.Common.{◌≡◌, ◌∙◌, ℕ, ◌*◌, sym, ap, subst, List, length, Ok, Err}
use Rattle.std.specs.Prelude.{Result}
use Rattle.std.specs.Io.KnownBytes.{Appends}
use Rattle.cache_rules.specs.Stored.{Requests}
use Rattle.cache_model.specs.declared.certificates.Header.{Header}
use Rattle.cache_model.specs.declared.certificates.Record.{Record}
use Rattle.cache_model.specs.Claim.{BoundsEveryPolicy, terms_of}
use Rattle.cache_model.specs.Certificates.{IsValid, eligible_of, flows_of, prices_of, units_of}
use Rattle.cache_model.proofs.Flows.{flow_value-le}
use Rattle.bound_words.specs.declared.plans.Plan.{Plan}
use Rattle.bound_words.specs.declared.words.WordFault.{WordFault}
use Rattle.write_laws.proofs.Written.{claimed_hits_write_just, claimed_hits_write_no_fewer}
use Rattle.bound_run.specs.declared.status.Status.{Status}
use Rattle.bound_run.specs.declared.status.Status.TheVariants.{Done, Words}
use Rattle.bound_terms.specs.declared.modes.Mode.{Mode}
use Rattle.bound_terms.specs.declared.modes.Mode.TheVariants.{Flow, Constant, Infinite}
use Rattle.interval_maker.specs.Timelines.{timeline_of}
use Rattle.bound_run.specs.BoundsMade.{IsOfMode}
use Rattle.bound_run.specs.Demos.{trace_drawn}
use Rattle.bound_run.specs.Headline.{AreTrueBounds, Headline, IsPriceOf, Shows}
use Rattle.bound_run.specs.Run.{Devices, RunEnds, CommandEnds}
use Rattle.bound_run.specs.Statuses.{done, ending_of}
use Rattle.judge_laws.proofs.Possible.{possible_is_allowed}
use Rattle.bound_run.proofs.Claimed.{claims_bounded}
use Rattle.bound_words.specs.declared.plans.Settings.{Settings}
use Rattle.bound_words.specs.declared.plans.Settings.TheVariants.{Bounds, TtlBounds, Check, Replay, Curve, CapacityCurve, Sweep, Judge, Demo, Upgrade, Refine}
use Rattle.bound_words.specs.Plans.{settings_of}

-- a valid certificate has true bounds
true_bounds : (trace : Requests) (h : Header) (records : List Record) → IsValid trace.objects trace.fills h records → BoundsEveryPolicy trace.objects trace.fills h → AreTrueBounds trace h records
true_bounds trace h records valid above = record {
  certificate = valid.certificate;
  requests = valid.requests;
  upper = above;
  schedule = valid.keeps;
  lower = sym valid.lower;
  values = record {
    flow = λ e prices. rw (sym valid.flow) at (flow_value-le (eligible_of trace.objects trace.fills h) h.unit (units_of h) h.denominator e (flows_of (eligible_of trace.objects trace.fills h) records) prices valid.flows);
    equal_values = λ exact. (sym valid.upper, sym valid.flow ∙ sym (valid.exact_values exact));
  };
}

-- prices of the mode constant are its price
priced_in : (trace : Requests) (mode : Mode) (price units : ℕ) (h : Header) (records : List Record)
    → IsOfMode mode (timeline_of (terms_of h trace.fills) trace.objects) h.unit units h.denominator (prices_of records) (flows_of (eligible_of trace.objects trace.fills h) records) price
    → IsPriceOf mode price (length trace.objects) records
priced_in trace (Flow window) price units h records is = tt
priced_in trace Constant price units h records is = is.1
priced_in trace Infinite price units h records is = tt

-- refused words are no good end
not_done : (fault : WordFault) → Done ≡ Words fault → ⊥
not_done fault is = cc

-- each command that ends well has shown what it printed
shown : (settings : Settings) (d : Devices) → CommandEnds settings d done → Shows settings d
shown (Bounds format asked) d ((cert, text, ready, certified, printed), source, untouched) =
    let made = ready.texts.made in (
      ready.requests,
      ready.notes,
      ready.loaded,
      record {
        header = ready.texts.header;
        records = ready.texts.records;
        price = ready.texts.price;
        printed = subst (λ t. Appends d.report.before d.report.after t) ready.texts.report_is printed;
        certified = subst (λ t. Appends d.made.before d.made.after t) ready.texts.cert_is certified;
        terms = made.terms;
        version = made.version;
        priced = priced_in ready.requests asked.mode ready.texts.price (units_of ready.texts.header) ready.texts.header ready.texts.records made.of_mode;
        bounds = true_bounds ready.requests ready.texts.header ready.texts.records made.valid made.bounds;
        form = record {
          exact = made.form;
          equal_sizes = λ size unwindowed same. (
            made.exact_if_equal size unwindowed same,
            (made.equal_sizes size unwindowed same).equal ∙ ap (λ n. ready.texts.header.denominator * n) (sym made.valid.lower),
          );
        };
      },
    )
shown (TtlBounds format ttl asked) d ((cert, text, ready, certified, printed), source, untouched) =
    let texts = ready.texts in
    let made = texts.made in (
      ready.requests,
      ready.notes,
      ready.loaded,
      record {
        times = ready.times;
        header = texts.header;
        records = texts.records;
        price = texts.price;
        intervals = texts.intervals;
        written = texts.written;
        times_are = ready.times_are;
        each = ready.each;
        printed = subst (λ t. Appends d.report.before d.report.after t) texts.report_is printed;
        certified = subst (λ t. Appends d.made.before d.made.after t) texts.cert_is certified;
        terms = made.terms;
        version = made.version;
        bounds = record {
          certificate = made.valid.certificate;
          requests = made.valid.requests;
          upper = made.bounds;
          schedule = made.valid.keeps;
          lower = sym made.valid.lower;
        };
        numbers = record { priced = made.prices; intervals_are = made.intervals_are; written_are = made.written_are };
      },
    )
shown (Check format) d ((text, said, printed), trace, cert, untouched) = (
  said.accepted.requests,
  said.notes,
  said.accepted.loaded,
  record {
    verdict = said.verdict;
    records = said.accepted.records;
    printed = subst (λ t. Appends d.report.before d.report.after t) said.text_is printed;
    certified = said.accepted.text;
    objects = said.accepted.objects;
    bounds = true_bounds said.accepted.requests said.verdict.header said.accepted.records said.accepted.valid said.accepted.bounds;
  },
)
shown (Replay format r) d ((text, replayed, printed), source, cert, made) = (
  replayed.requests,
  replayed.notes,
  replayed.loaded,
  record { text = text; printed = printed; replay = replayed.report },
)
shown (Curve format) d ((text, curved, printed), source, cert, made) = (
  curved.requests,
  curved.notes,
  curved.loaded,
  record { text = text; printed = printed; curve = curved.report },
)
shown (CapacityCurve format capacities asked) d ((text, curved, printed), source, cert, made) = (
  curved.requests,
  curved.notes,
  curved.loaded,
  record { text = text; printed = printed; curve = curved.report },
)
shown (Sweep format capacities policies asked) d ((text, swept, printed), source, cert, made) = record { text = text; printed = printed; sweep = swept }
shown (Judge format asked) d ((text, judged, printed), trace, hits, made) = (
  judged.requests,
  judged.notes,
  judged.read.loaded,
  record {
    flags = judged.flags;
    flags_are = judged.read.flags_are;
    as_many = judged.read.as_many;
    printed = subst (λ t. Appends d.report.before d.report.after t) judged.text_is printed;
    possible = possible_is_allowed asked.capacity judged.requests.objects judged.flags judged.possible.possible;
    fresh = judged.possible.fresh;
    bounded = claims_bounded asked judged.requests judged.flags judged.possible.possible;
    written = record {
      none_fewer = claimed_hits_write_no_fewer asked.capacity asked.warmup judged.requests.fills judged.requests.objects judged.flags;
      some_just = claimed_hits_write_just asked.capacity asked.warmup judged.requests.fills judged.requests.objects judged.flags judged.possible.possible;
    };
  },
)
shown (Demo drawing asked) d ((text, shows, printed), trace, cert, made) =
    let is = shows.made in
    record {
      header = shows.header;
      records = shows.records;
      price = shows.price;
      replays = shows.replays;
      printed = subst (λ t. Appends d.report.before d.report.after t) shows.text_is printed;
      terms = is.terms;
      priced = priced_in (trace_drawn drawing) asked.mode shows.price (units_of shows.header) shows.header shows.records is.of_mode;
      bounds = true_bounds (trace_drawn drawing) shows.header shows.records is.valid is.bounds;
      form = record {
        exact = is.form;
        equal_sizes = λ size unwindowed same. (
          is.exact_if_equal size unwindowed same,
          (is.equal_sizes size unwindowed same).equal ∙ ap (λ n. shows.header.denominator * n) (sym is.valid.lower),
        );
      };
      replayed = shows.replayed;
    }
shown Upgrade d ((cert, text, ready, certified, printed), source, untouched) = record { cert = cert; text = text; certified = certified; printed = printed; upgraded = ready }
shown (Refine format width) d ((cert, text, ready, certified, printed), trace, read) =
    let texts = ready.texts in (
      ready.requests,
      ready.notes,
      ready.read.loaded,
      record {
        header = ready.header;
        records = ready.records;
        refined = texts.made;
        refined_records = texts.refined;
        read = ready.read.text;
        valid = ready.read.valid;
        certified = subst (λ t. Appends d.made.before d.made.after t) texts.cert_is certified;
        printed = subst (λ t. Appends d.report.before d.report.after t) texts.report_is printed;
        refinement = texts.refinement;
        bounds = true_bounds ready.requests texts.made texts.refined texts.refinement.valid texts.refinement.bounds;
      },
    )

pub headlined : (read : Result Plan WordFault) (d : Devices) (status : Status) → RunEnds read d status → status ≡ Done → Headline read d
headlined (Ok plan) d status ends is = shown (settings_of plan) d (subst (λ s. CommandEnds (settings_of plan) d (ending_of s)) is ends)
headlined (Err fault) d status ends is = not_done fault (sym is ∙ ends.0)

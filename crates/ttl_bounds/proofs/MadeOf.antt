-- What is found of a trace with a ttl makes a valid certificate of it.
use Rattle.std.proofs.Common.{◌≡◌, ◌∙◌, ℕ, ◌*◌, ◌/◌, ◌-◌, ◌<◌, ◌≤◌, ◌^◌, Bool, false, ap, subst, sym, refl, arith, List, get_or, length, replicate, sum, All}
use Rattle.std.specs.Prelude.{IsTrue}
use Rattle.std.proofs.Math.Nat.{mul-le-mul_right}
use Rattle.cache_model.specs.declared.certificates.Header.{Header}
use Rattle.cache_model.specs.declared.certificates.Record.{Record}
use Rattle.cache_model.specs.Certificates.{IsHeaderInRange, keeps_of, prices_of}
use Rattle.cache_model.specs.Claim.{IsAllowed, Terms, contents_of, marked}
use Rattle.cache_model.specs.Rounding.{IsMaximal, IsRounded, by_rank}
use Rattle.cache_model.specs.Units.{IsUnit}
use Rattle.cache_rules.specs.Stored.{Requests}
use Rattle.constant_price.specs.Constants.{constant_prices}
use Rattle.constant_price.proofs.Prices.{constant_prices-last}
use Rattle.interval_maker.specs.Timelines.{Timeline, IsTimeline, timeline_of}
use Rattle.relaxation.specs.Denominators.{IsChosen}
use Rattle.ttl_laws.specs.Fresh.{score_with_ttl}
use Rattle.ttl_laws.specs.Runs.{bound_with_ttl}
use Rattle.ttl_certs.specs.Certificates.{IsValidWithTtl}
use Rattle.ttl_certs.specs.Claim.{BoundsEveryPolicyWithTtl}
use Rattle.ttl_certs.proofs.Valid.{prices_bound_with_ttl}
use Rattle.ttl_prices.specs.declared.search.LowPrice.{LowPrice}
use Rattle.ttl_prices.specs.Bounds.{bound_of_price}
use Rattle.ttl_scores.specs.declared.totals.FreshTotals.{FreshTotals}
use Rattle.ttl_scores.specs.Written.{written_with_ttl}
use Rattle.ttl_bounds.specs.declared.asked.TtlAsked.{TtlAsked}
use Rattle.ttl_bounds.specs.Asked.{AreTtlAskedInRange}
use Rattle.ttl_bounds.specs.Made.{IsMadeWithTtl}
use Rattle.ttl_bounds.specs.Prices.{GivesBound, IsLowPrice}
use Rattle.ttl_bounds.specs.Records.{header_with, records_of}
use Rattle.ttl_bounds.specs.Schedules.{IsScheduleWithTtl}
use Rattle.ttl_bounds.proofs.Scaling.{unit-le_capacity}
use Rattle.ttl_bounds.proofs.RecordsOf.{length-records, prices_of-records, keeps_of-records, no_flows, records_in_range}

-- what is found of a trace, by its intervals
pub record IsFound (asked : TtlAsked) (trace : Requests) (times : List ℕ) (ttl : ℕ) (line : Timeline) (unit units d : ℕ) (found : LowPrice) (keeps : List Bool) (totals : FreshTotals) : Type 0 where
  pub in_range : AreTtlAskedInRange asked
  pub few : length trace.objects ≤ 2 ^ 25
  pub is_line : IsTimeline line
  pub fit : All (λ i. i.size ≤ asked.terms.capacity) line.items
  pub unit_is : IsUnit line.items unit
  pub positive : 1 ≤ unit
  pub chosen : IsChosen asked.denominator line.items unit d
  pub range : (1 ≤ d) × (d ≤ 2 ^ 48)
  pub gives : GivesBound asked.terms unit units d trace times ttl found
  pub free : IsTrue asked.is_free → found.price ≡ 0
  pub low : asked.is_free ≡ false → IsLowPrice line unit units d (bound_of_price asked.terms unit d trace times ttl) found.price found.bound
  pub schedule : IsScheduleWithTtl asked.terms trace times ttl keeps totals

module _ (asked : TtlAsked) (trace : Requests) (times : List ℕ) (ttl unit d : ℕ) (found : LowPrice) (keeps : List Bool) (totals : FreshTotals) where
  abbrev terms : Terms
  terms = marked asked.terms trace.fills

  abbrev line : Timeline
  line = timeline_of terms trace.objects

  abbrev units : ℕ
  units = asked.terms.capacity / unit

  abbrev h : Header
  h = header_with asked (length trace.objects) unit d found.bound totals.score

  abbrev rs : List Record
  rs = records_of found.price keeps

  module _ (is : IsFound asked trace times ttl line unit units d found keeps totals) where
    many : length keeps ≡ length trace.objects
    many = is.schedule.rounded.one_keep_each

    counted : length rs ≡ length trace.objects
    counted = length-records found.price keeps ∙ many

    priced : prices_of rs ≡ constant_prices found.price (length trace.objects)
    priced = prices_of-records found.price keeps ∙ ap (constant_prices found.price) many

    kept : keeps_of rs ≡ keeps
    kept = keeps_of-records found.price keeps

    bound : found.bound ≡ bound_with_ttl terms unit d trace.objects times (prices_of rs) ttl
    bound = is.gives.bound ∙ ap (λ ps. bound_with_ttl terms unit d trace.objects times ps ttl) (sym priced)

    bounds : BoundsEveryPolicyWithTtl trace.objects trace.fills times ttl h
    bounds = prices_bound_with_ttl trace.objects trace.fills times ttl h rs counted (omega (arith, is.range.0)) (omega (arith, bound))

    abbrev score : ℕ
    score = score_with_ttl terms trace.objects times ttl (contents_of trace.objects keeps)

    -- what is scored is within the bound, and so small
    small_score : totals.score < 2 ^ 127
    small_score =
        omega (
          arith,
          is.schedule.score,
          is.gives.small,
          bounds.no_policy_scores_more (contents_of trace.objects keeps) is.schedule.allowed,
          mul-le-mul_right score is.range.0,
        )

    ranged : IsHeaderInRange h
    ranged = record {
      capacity = is.in_range.capacity;
      requests = is.few;
      unit = (is.positive, unit-le_capacity line asked.terms.capacity unit is.in_range.capacity.0 is.is_line is.fit is.unit_is);
      denominator = is.range;
      upper = is.gives.small;
      flow = omega arith;
      lower = small_score;
      warmup = is.in_range.warmup;
      version = is.in_range.version;
    }

    paid : units * sum (constant_prices found.price (length trace.objects)) ≤ 2 ^ 126
    paid = omega (arith, is.gives.paid)

    valid : IsValidWithTtl trace.objects trace.fills times ttl h rs
    valid = record {
      certificate = record { header = ranged; count = counted; each = records_in_range found.price keeps is.gives.price };
      requests = refl;
      sum_limit = subst (λ ps. units * sum ps ≤ 2 ^ 126) (sym priced) paid;
      last_price = subst (λ ps. get_or ps (length trace.objects - 1) 0 ≡ 0) (sym priced) (constant_prices-last found.price (length trace.objects));
      unit = is.unit_is.divides;
      keeps = subst (λ ks. IsAllowed asked.terms.capacity trace.objects (contents_of trace.objects ks)) (sym kept) is.schedule.allowed;
      lower = is.schedule.score ∙ ap (λ ks. score_with_ttl terms trace.objects times ttl (contents_of trace.objects ks)) (sym kept);
      no_flows = no_flows found.price keeps;
      flow = refl;
      upper = bound;
      whole_costs = λ exact. absurd (cc);
      exact_values = λ exact. absurd (cc);
    }

    made_at : IsMadeWithTtl asked trace times ttl found.price (length line.items) totals.written h rs
    made_at = record {
      valid = valid;
      terms = refl;
      version = refl;
      unit = is.unit_is;
      denominator = is.chosen;
      plain = refl;
      prices = priced;
      free = is.free;
      low = is.low;
      rounded = subst (IsRounded by_rank line.items asked.terms.capacity (length trace.objects) (replicate (length line.items) false)) (sym kept) is.schedule.rounded;
      maximal = subst (IsMaximal line.items asked.terms.capacity) (sym kept) is.schedule.maximal;
      bounds = bounds;
      intervals_are = refl;
      written_are = is.schedule.written
          ∙ ap (λ ks. written_with_ttl asked.terms.warmup trace.fills trace.objects times ttl (contents_of trace.objects ks)) (sym kept);
    }

-- what is found makes the certificate
pub made_of : (asked : TtlAsked) (trace : Requests) (times : List ℕ) (ttl : ℕ) (line : Timeline) (requests intervals unit units d : ℕ)
    (found : LowPrice) (keeps : List Bool) (totals : FreshTotals)
    → line ≡ timeline_of (marked asked.terms trace.fills) trace.objects
    → requests ≡ length trace.objects
    → intervals ≡ length line.items
    → units ≡ asked.terms.capacity / unit
    → IsFound asked trace times ttl line unit units d found keeps totals
    → IsMadeWithTtl asked trace times ttl found.price intervals totals.written (header_with asked requests unit d found.bound totals.score) (records_of found.price keeps)
made_of asked trace times ttl found_line requests intervals unit units d found keeps totals is_line many count units_are is =
    let of : Timeline = timeline_of (marked asked.terms trace.fills) trace.objects in
    let at_line : IsFound asked trace times ttl of unit units d found keeps totals
    = subst (λ l. IsFound asked trace times ttl l unit units d found keeps totals) is_line is in
    let at_units : IsFound asked trace times ttl of unit (asked.terms.capacity / unit) d found keeps totals
    = subst (λ n. IsFound asked trace times ttl of unit n d found keeps totals) units_are at_line in
    let all : intervals ≡ length of.items = count ∙ ap (λ (l : Timeline). length l.items) is_line in
    subst (λ n. IsMadeWithTtl asked trace times ttl found.price n totals.written (header_with asked requests unit d found.bound totals.score) (records_of found.price keeps)) (sym all)
    (subst (λ n. IsMadeWithTtl asked trace times ttl found.price (length of.items) totals.written (header_with asked n unit d found.bound totals.score) (records_of found.price keeps)) (sym many)
    (made_at asked trace times ttl unit d found keeps totals at_units))

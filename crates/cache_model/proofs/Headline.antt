-- A valid certificate bounds every policy, and one of the form exact gives the least bound of all prices.
use Rattle.std.proofs.Common.{◌≡◌, ◌*◌, ◌≤◌, ◌<◌, ap, arith, Bool, List, length}
use Rattle.std.specs.Prelude.{IsTrue}
use Rattle.std.proofs.lemmas.List.{length-map}
use Rattle.std.proofs.lemmas.Nat.{le-div}
use Rattle.cache_model.specs.declared.objects.Object.{Object}
use Rattle.cache_model.specs.declared.certificates.Header.{Header}
use Rattle.cache_model.specs.declared.certificates.Record.{Record}
use Rattle.cache_model.specs.Claim.{score, terms_of, IsAllowed, BoundsEveryPolicy}
use Rattle.cache_model.specs.Intervals.{bound_of}
use Rattle.cache_model.specs.Certificates.{prices_of, eligible_of, units_of, flow_of, upper_of, flows_of, IsValid, IsLeastOverAll}
use Rattle.cache_model.proofs.Flows.{flow_value-le}
use Rattle.cache_model.proofs.Steps.{no_policy_scores_more_lem}

-- the bound of any records' prices bounds every policy
pub prices_bound : (trace : List Object) (fills : List Bool) (h : Header) (records : List Record) → length records ≡ length trace → 0 < h.denominator → h.upper ≡ upper_of trace fills h records → BoundsEveryPolicy trace fills h
prices_bound trace fills h records each positive upper =
    let many : length (prices_of records) ≡ length trace = omega (arith, length-map records (λ (r : Record). r.price)) in
    let most : (contents : List (List Object)) → IsAllowed h.capacity trace contents → h.denominator * score (terms_of h fills) trace contents ≤ h.upper
    = λ contents allowed. omega (arith, no_policy_scores_more_lem (terms_of h fills) h.unit h.denominator trace (prices_of records) contents allowed many) in
    record {
      denominator_positive = positive;
      no_policy_scores_more = most;
      no_policy_passes_the_floor = λ contents allowed. le-div (score (terms_of h fills) trace contents) h.upper h.denominator positive (omega (arith, most contents allowed));
    }

pub valid_bounds : (trace : List Object) (fills : List Bool) (h : Header) (records : List Record) → IsValid trace fills h records → BoundsEveryPolicy trace fills h
valid_bounds trace fills h records v =
    prices_bound trace fills h records (omega (arith, v.certificate.count, v.requests)) (omega (arith, v.certificate.header.denominator.0)) v.upper

-- no price list over any denominator gives a smaller bound than a certificate of the form exact
pub exact_is_least : (trace : List Object) (fills : List Bool) (h : Header) (records : List Record) → IsValid trace fills h records → IsTrue h.exact → IsLeastOverAll trace fills h records
exact_is_least trace fills h records v exact = λ e prices same.
    let least : e * flow_of trace fills h records ≤ h.denominator * bound_of (eligible_of trace fills h) h.unit (units_of h) e prices
    = flow_value-le (eligible_of trace fills h) h.unit (units_of h) h.denominator e (flows_of (eligible_of trace fills h) records) prices v.flows in
    let equal : e * upper_of trace fills h records ≡ e * flow_of trace fills h records = ap (λ n. e * n) (omega (arith, v.upper, v.flow, v.exact_values exact)) in
    omega (arith, least, equal)

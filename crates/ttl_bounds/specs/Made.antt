-- What is made of a trace with a ttl: the certificate, and what is told beside it.
use Rattle.std.specs.Prelude.{◌≡◌, ℕ, false, IsTrue, List, length, replicate}
use Rattle.cache_model.specs.declared.certificates.Header.{Header}
use Rattle.cache_model.specs.declared.certificates.Record.{Record}
use Rattle.cache_model.specs.Certificates.{eligible_of, keeps_of, prices_of, units_of}
use Rattle.cache_model.specs.Claim.{contents_of, marked, terms_of}
use Rattle.cache_model.specs.Rounding.{IsMaximal, IsRounded, by_rank}
use Rattle.cache_model.specs.Units.{IsUnit}
use Rattle.cache_rules.specs.Stored.{Requests}
use Rattle.constant_price.specs.Constants.{constant_prices}
use Rattle.interval_maker.specs.Timelines.{timeline_of}
use Rattle.relaxation.specs.Denominators.{IsChosen}
use Rattle.ttl_certs.specs.Certificates.{IsValidWithTtl}
use Rattle.ttl_certs.specs.Claim.{BoundsEveryPolicyWithTtl}
use Rattle.ttl_laws.specs.Runs.{bound_with_ttl}
use Rattle.ttl_scores.specs.Written.{written_with_ttl}
use Rattle.ttl_bounds.specs.declared.asked.TtlAsked.{TtlAsked}
use Rattle.ttl_bounds.specs.Prices.{IsLowPrice}

-- a certificate of the trace that is valid with the ttl, as asked for: the greatest unit, the denominator that is chosen, the price 0 or a low one on all steps but the last, and the keeps that are rounded from no flags, with their written bytes and the number of eligible intervals
pub record IsMadeWithTtl (asked : TtlAsked) (trace : Requests) (times : List ℕ) (ttl price intervals written : ℕ) (h : Header) (records : List Record) : Type 0 where
  pub valid : IsValidWithTtl trace.objects trace.fills times ttl h records
  pub terms : terms_of h trace.fills ≡ marked asked.terms trace.fills
  pub version : h.version ≡ asked.version
  pub unit : IsUnit (eligible_of trace.objects trace.fills h) h.unit
  pub denominator : IsChosen asked.denominator (eligible_of trace.objects trace.fills h) h.unit h.denominator
  pub plain : h.exact ≡ false
  pub prices : prices_of records ≡ constant_prices price (length trace.objects)
  pub free : IsTrue asked.is_free → price ≡ 0
  pub low : asked.is_free ≡ false → IsLowPrice (timeline_of (terms_of h trace.fills) trace.objects) h.unit (units_of h) h.denominator
      (λ p. bound_with_ttl (terms_of h trace.fills) h.unit h.denominator trace.objects times (constant_prices p (length trace.objects)) ttl) price h.upper
  pub rounded : IsRounded by_rank (eligible_of trace.objects trace.fills h) h.capacity (length trace.objects)
      (replicate (length (eligible_of trace.objects trace.fills h)) false) (keeps_of records)
  pub maximal : IsMaximal (eligible_of trace.objects trace.fills h) h.capacity (keeps_of records)
  pub bounds : BoundsEveryPolicyWithTtl trace.objects trace.fills times ttl h
  pub intervals_are : intervals ≡ length (eligible_of trace.objects trace.fills h)
  pub written_are : written ≡ written_with_ttl h.warmup trace.fills trace.objects times ttl (contents_of trace.objects (keeps_of records))

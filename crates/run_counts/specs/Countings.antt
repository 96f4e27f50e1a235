-- How the requests of a trace count.
use Rattle.std.specs.Prelude.{ℕ}
use Rattle.cache_rules.specs.Stored.{Requests}
use Rattle.cache_model.specs.declared.certificates.Header.{Header}
use Rattle.bound_report.specs.declared.rendering.Counting.{Counting}
use Rattle.trace_any.specs.Counts.{counted_in, stale_in}
use Rattle.cert_checker.specs.declared.counting.Passed.{Passed}
use Rattle.freshness.specs.Seen.{Staleness}
use Rattle.trace_any.specs.declared.format.Format.{Format}

-- from a warm-up on
abbrev pub counting_from : Format → ℕ → Requests → Staleness → Counting
counting_from format warmup trace noted = record {
  warmup = warmup;
  counted = counted_in format warmup trace noted;
  stale = record { idle = format.fresh.idle; ttl = format.fresh.ttl; late = noted.late; stale = stale_in format trace noted };
}

-- from the warm-up of a certificate on
abbrev pub counting_of : Format → Header → Requests → Staleness → Counting
counting_of format h trace noted = counting_from format h.warmup trace noted

-- as a check found it
abbrev pub counting_found : Format → Passed → Counting
counting_found format p = record { warmup = p.verdict.header.warmup; counted = p.counted; stale = record { idle = format.fresh.idle; ttl = format.fresh.ttl; late = p.late; stale = p.stale } }

-- The schedule that is rounded from no flags, and what it scores and writes with a ttl.
use Rattle.std.specs.Prelude.{◌≡◌, ℕ, Bool, false, List, length, replicate}
use Rattle.cache_model.specs.declared.terms.Terms.{Terms}
use Rattle.cache_model.specs.Claim.{IsAllowed, contents_of, marked}
use Rattle.cache_model.specs.Intervals.{eligible_intervals}
use Rattle.cache_model.specs.Rounding.{IsMaximal, IsRounded, by_rank}
use Rattle.cache_rules.specs.Stored.{Requests}
use Rattle.ttl_laws.specs.Fresh.{score_with_ttl}
use Rattle.ttl_scores.specs.declared.totals.FreshTotals.{FreshTotals}
use Rattle.ttl_scores.specs.Written.{written_with_ttl}

-- the keeps are rounded from no flags of the eligible intervals, no other one fits, they are allowed, and these are their totals
pub record IsScheduleWithTtl (terms : Terms) (trace : Requests) (times : List ℕ) (ttl : ℕ) (keeps : List Bool) (totals : FreshTotals) : Type 0 where
  pub rounded : IsRounded by_rank (eligible_intervals (marked terms trace.fills) trace.objects) terms.capacity (length trace.objects)
      (replicate (length (eligible_intervals (marked terms trace.fills) trace.objects)) false) keeps
  pub maximal : IsMaximal (eligible_intervals (marked terms trace.fills) trace.objects) terms.capacity keeps
  pub allowed : IsAllowed terms.capacity trace.objects (contents_of trace.objects keeps)
  pub score : totals.score ≡ score_with_ttl (marked terms trace.fills) trace.objects times ttl (contents_of trace.objects keeps)
  pub written : totals.written ≡ written_with_ttl terms.warmup trace.fills trace.objects times ttl (contents_of trace.objects keeps)

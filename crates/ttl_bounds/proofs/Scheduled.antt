-- Keeps that are rounded from no flags are an allowed schedule.
use Rattle.std.proofs.Common.{◌≡◌, ℕ, ◌≤◌, arith, subst, Bool, false, List, length, replicate}
use Rattle.cache_model.specs.declared.terms.Terms.{Terms}
use Rattle.cache_model.specs.Claim.{contents_of, marked}
use Rattle.cache_model.specs.Rounding.{IsMaximal, IsRounded, by_rank, taken_load}
use Rattle.cache_model.proofs.Rounding.{held-load}
use Rattle.cache_model.proofs.Scores.{allowed-from_loads}
use Rattle.cache_rules.specs.Stored.{Requests}
use Rattle.interval_maker.specs.Timelines.{Timeline, timeline_of}
use Rattle.ttl_laws.specs.Fresh.{score_with_ttl}
use Rattle.ttl_scores.specs.declared.totals.FreshTotals.{FreshTotals}
use Rattle.ttl_scores.specs.Written.{written_with_ttl}
use Rattle.ttl_bounds.specs.Schedules.{IsScheduleWithTtl}

-- what rounding says of keeps, by the intervals
pub record AreRounded (capacity : ℕ) (line : Timeline) (keeps : List Bool) : Type 0 where
  pub rounded : IsRounded by_rank line.items capacity line.steps (replicate (length line.items) false) keeps
  pub maximal : IsMaximal line.items capacity keeps
  pub fits : (t : ℕ) → taken_load line.items keeps t ≤ capacity

-- so they are a schedule, with their totals
pub scheduled : (terms : Terms) (trace : Requests) (times : List ℕ) (ttl : ℕ) (line : Timeline) (keeps : List Bool) (totals : FreshTotals)
    → line ≡ timeline_of (marked terms trace.fills) trace.objects
    → AreRounded terms.capacity line keeps
    → totals.score ≡ score_with_ttl (marked terms trace.fills) trace.objects times ttl (contents_of trace.objects keeps)
    → totals.written ≡ written_with_ttl terms.warmup trace.fills trace.objects times ttl (contents_of trace.objects keeps)
    → IsScheduleWithTtl terms trace times ttl keeps totals
scheduled terms trace times ttl line keeps totals is_line are score written =
    let of : AreRounded terms.capacity (timeline_of (marked terms trace.fills) trace.objects) keeps
    = subst (λ l. AreRounded terms.capacity l keeps) is_line are in
    record {
      rounded = of.rounded;
      maximal = of.maximal;
      allowed = allowed-from_loads trace.objects terms.capacity keeps
          (λ t within. omega (arith, held-load (marked terms trace.fills) trace.objects keeps t of.rounded.only_starts within, of.fits t));
      score = score;
      written = written;
    }

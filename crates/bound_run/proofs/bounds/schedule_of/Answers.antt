use Rattle.std.proofs.Common.{ℕ, ◌≤◌, ◌<◌, ◌∙◌, ap, arith, Bool, List}
use Rattle.std.specs.Prelude.{length}
use Rattle.cache_model.specs.declared.objects.Object.{Object}
use Rattle.cache_model.specs.Claim.{Terms, marked}
use Rattle.cache_model.specs.Intervals.{eligible_intervals}
use Rattle.cache_model.specs.Keeps.{load_after}
use Rattle.cache_model.specs.Rounding.{IsRounded, by_rank, taken_load}
use Rattle.cache_model.proofs.Rounding.{held-load}
use Rattle.bound_run.proofs.bounds.schedule_of.Goals as goal

-- contents that weigh what their intervals do are within the capacity after each request
loads_fit : (terms : Terms) (trace : List Object) (full keeps : List Bool)
    → IsRounded by_rank (eligible_intervals terms trace) terms.capacity (length trace) full keeps
    → ((t : ℕ) → taken_load (eligible_intervals terms trace) keeps t ≤ terms.capacity)
    → (t : ℕ) → t < length trace → load_after trace keeps t ≤ terms.capacity
loads_fit terms trace full keeps taken fits t within = omega (arith, held-load terms trace keeps t taken.only_starts within, fits t)

pub score_of_fitting-lower-requires : goal.score_of_fitting-lower-requires
score_of_fitting-lower-requires c = record {
  one_keep_each = rw c.as_slice.ensures (c.in_ok-keeps.ensures.rounded.one_keep_each ∙ ap (λ l. l.steps) c.requires.intervals);
  fits = rw c.as_slice.ensures
      (loads_fit (marked c.args.terms c.args.trace.now.fills) c.args.trace.now.objects c.args.full.now c.in_ok-keeps.keeps
      (rw c.requires.intervals at c.in_ok-keeps.ensures.rounded) (λ t. rw c.requires.intervals at (c.in_ok-keeps.ensures.fits t)));
}

pub returns-clause-rounded : goal.returns-clause-rounded
returns-clause-rounded c = rw (ap (λ l. l.steps) c.requires.intervals) at c.in_ok-keeps.ensures.rounded

pub returns-clause-allowed : goal.returns-clause-allowed
returns-clause-allowed c = rw c.as_slice.ensures at c.score_of_fitting-lower.ensures.allowed

pub returns-clause-lower : goal.returns-clause-lower
returns-clause-lower c = rw c.as_slice.ensures at c.score_of_fitting-lower.ensures.score

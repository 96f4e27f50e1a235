-- What is summed up over the intervals is the bound of the prices, which no policy passes.
use Rattle.std.proofs.Common.{◌≡◌, ◌∙◌, ℕ, ◌+◌, ◌*◌, ◌/◌, ◌≤◌, ap, arith, List, length, take, sum, sum_by}
use Rattle.std.proofs.lemmas.List.{take_all}
use Rattle.cache_model.specs.declared.objects.Object.{Object}
use Rattle.cache_model.specs.declared.intervals.Interval.{Interval}
use Rattle.cache_model.specs.Intervals.{bound_of, eligible_intervals, surplus}
use Rattle.cache_model.specs.Claim.{Terms, IsAllowed, score}
use Rattle.cache_model.proofs.Steps.{no_policy_scores_more_lem}
use Rattle.interval_maker.specs.Timelines.{Timeline, timeline_of}

-- once all intervals are done
pub bound_all : (items : List Interval) (unit units d k total : ℕ) (prices : List ℕ) → length items ≤ k
    → total ≡ units * sum prices + sum_by (surplus unit d prices) (take k items) → total ≡ bound_of items unit units d prices
bound_all items unit units d k total prices past value = value ∙ ap (λ xs. units * sum prices + sum_by (surplus unit d prices) xs) (take_all k items past)

-- where that is the total, no policy scores more
pub none_scores_more : (terms : Terms) (unit units d : ℕ) (trace : List Object) (prices : List ℕ) (contents : List (List Object)) (line : Timeline) (total : ℕ)
    → line ≡ timeline_of terms trace → units ≡ terms.capacity / unit → length prices ≡ line.steps → total ≡ bound_of line.items unit units d prices
    → IsAllowed terms.capacity trace contents → d * score terms trace contents ≤ total
none_scores_more terms unit units d trace prices contents line total is shared each value allowed =
    let many : length prices ≡ length trace = each ∙ ap (λ (l : Timeline). l.steps) is in
    let same : total ≡ bound_of (eligible_intervals terms trace) unit (terms.capacity / unit) d prices =
    value ∙ ap (λ (l : Timeline). bound_of l.items unit units d prices) is ∙ ap (λ n. bound_of (eligible_intervals terms trace) unit n d prices) shared in
    omega (arith, no_policy_scores_more_lem terms unit d trace prices contents allowed many)

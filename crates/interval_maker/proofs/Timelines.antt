-- The eligible intervals of a trace are a timeline.
use Rattle.std.proofs.Common.{◌≡◌, ℕ, ◌<◌, ◌≤◌, ◌^◌, ◌∙◌, sym, subst, true, List, length, get_or, arith, ⊎_elim, All}
use Rattle.std.proofs.lemmas.Bool.{cases_order, both_ways}
use Rattle.cache_model.specs.declared.objects.Object.{Object}
use Rattle.cache_model.specs.declared.intervals.Interval.{Interval}
use Rattle.cache_model.specs.Claim.{Terms, same_object, request_at}
use Rattle.cache_model.specs.Objects.{IsNext}
use Rattle.cache_model.specs.Intervals.{eligible_intervals}
use Rattle.cache_model.specs.Laws.{IsEligible}
use Rattle.cache_model.proofs.Duality.{same_object-true, same_object-refl}
use Rattle.cache_model.proofs.Unpriced.{eligible-le}
use Rattle.cache_model.proofs.Members.{All-eligible_intervals, intervals_are_eligible}
use Rattle.interval_maker.specs.Timelines.{IsInterval, IsTimeline, timeline_of}

-- of two requests with one next request the earlier would have the later one as its next
next_is_of_one : (trace : List Object) (a b end : ℕ) → IsNext trace a end → IsNext trace b end → a < b → ⊥
next_is_of_one trace a b end first second before =
    let same : request_at trace a ≡ request_at trace b =
    same_object-true (request_at trace a) (request_at trace end) first.same ∙ sym (same_object-true (request_at trace b) (request_at trace end) second.same) in
    both_ways (same_object (request_at trace a) (request_at trace b)) (first.others b before second.before)
    (subst (λ x. same_object (request_at trace a) x ≡ true) same (same_object-refl (request_at trace a)))

-- so requests with one next request are one
pub same_next : (trace : List Object) (a b end : ℕ) → IsNext trace a end → IsNext trace b end → a ≡ b
same_next trace a b end first second =
    ⊎_elim (λ same. same) (λ order. ⊎_elim (λ low. absurd (next_is_of_one trace a b end first second low)) (λ high. absurd (next_is_of_one trace b a end second first high)) order) (cases_order a b)

-- eligible intervals that end at one request start at one
same_end : (terms : Terms) (trace : List Object) (i j : Interval) → IsEligible terms trace i → IsEligible terms trace j → i.end ≡ j.end → i.start ≡ j.start
same_end terms trace i j first second same = same_next trace i.start j.start j.end (subst (IsNext trace i.start) same first.next) second.next

pub eligible_timeline : (terms : Terms) (trace : List Object) → length trace ≤ 2 ^ 25 → All (IsInterval (length trace)) (eligible_intervals terms trace) → IsTimeline (timeline_of terms trace)
eligible_timeline terms trace few intervals =
    let order = (intervals_are_eligible terms trace).in_order in
    let each = All-eligible_intervals terms trace in record {
      few_steps = few;
      few_intervals = eligible-le terms trace;
      order = order;
      ends = λ m n d before within.
          λ same.
          let rising : (get_or (eligible_intervals terms trace) m d).start < (get_or (eligible_intervals terms trace) n d).start = order m n d before within in
          let starts : (get_or (eligible_intervals terms trace) m d).start ≡ (get_or (eligible_intervals terms trace) n d).start =
          same_end terms trace (get_or (eligible_intervals terms trace) m d) (get_or (eligible_intervals terms trace) n d) (each m d (omega arith)) (each n d within) same in
          omega arith;
      intervals = intervals;
    }

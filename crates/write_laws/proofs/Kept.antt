-- Which requests possible flags keep, and their least written bytes as a sum over these.
use Rattle.std.proofs.Common.{◌≡◌, ℕ, ◌<◌, ◌≤◌, ⊎_elim, ◌∙◌, sym, refl, ap, Bool, true, false, not, ◌&&◌, ◌||◌, cond, nat_le, List, [], ◌∷◌, length, arith, get_or, sum_by}
use Rattle.std.proofs.lemmas.Bool.{cases_Bool, both_ways, and_from, and_right, le-leb}
use Rattle.std.proofs.lemmas.List.Sums.{sum_by-cons}
use Rattle.cache_model.specs.declared.objects.Object.{Object}
use Rattle.cache_model.specs.declared.objects.Objective.TheVariants.{Object as Hits}
use Rattle.cache_model.specs.declared.intervals.Interval.{Interval}
use Rattle.cache_model.specs.Claim.{terms_from, same_object, only_fills, request_at, is_kept}
use Rattle.cache_model.specs.Objects.{IsLast, IsNext, numbers_of}
use Rattle.cache_model.specs.Intervals.{interval_of, eligible_from}
use Rattle.cache_model.specs.Laws.{IsEligible}
use Rattle.cache_model.proofs.Duality.{same_object-true}
use Rattle.cache_model.proofs.Sums.{sum_by-flat_map}
use Rattle.cache_model.proofs.Streams.{sum_by-range_agree}
use Rattle.cache_model.proofs.Eligible.{eligible_from_one}
use Rattle.cache_model.proofs.Members.{All-eligible_from}
use Rattle.cache_model.proofs.Rounding.{sum_by-none}
use Rattle.judge_laws.specs.Flags.{is_flagged, IsPossible}
use Rattle.judge_laws.proofs.Flagged.{flag_keeps, is_kept-next, kept_end}
use Rattle.write_laws.specs.Claims.{must_write, least_written}

module _ (c : ℕ) (trace : List Object) (flags : List Bool) where
  -- a request is kept exactly if the next one of its object is flagged, also if the object is too large
  pub kept-next : IsPossible c trace flags → (a b : ℕ) → IsNext trace a b → is_kept (flag_keeps c trace flags) a ≡ is_flagged flags b
  kept-next possible a b next =
      ⊎_elim
      (λ (flagged : is_flagged flags b ≡ true). is_kept-next c trace flags a b next (fits b next flagged))
      (λ (no : is_flagged flags b ≡ false).
      ⊎_elim
      (λ (kept : is_kept (flag_keeps c trace flags) a ≡ true).
      let end : (d : ℕ) × IsNext trace a d × (is_flagged flags d ≡ true) = kept_end c trace flags a (omega (arith, next.before, next.within)) kept in
      is_kept-next c trace flags a b next (fits end.0 end.1 end.2))
      (λ (bypassed : is_kept (flag_keeps c trace flags) a ≡ false). bypassed ∙ sym no)
      (cases_Bool (is_kept (flag_keeps c trace flags) a)))
      (cases_Bool (is_flagged flags b))
    where
      fits : (d : ℕ) → IsNext trace a d → is_flagged flags d ≡ true → (request_at trace a).size ≤ c
      fits d n flagged =
          let same : request_at trace a ≡ request_at trace d = same_object-true (request_at trace a) (request_at trace d) n.same in
          omega (arith, ap (λ (x : Object). x.size) same, possible.fits d n.within flagged)

  -- the last request of an object is not kept
  pub kept-last : (a : ℕ) → a < length trace → IsLast trace a → is_kept (flag_keeps c trace flags) a ≡ false
  kept-last a within last =
      ⊎_elim
      (λ (kept : is_kept (flag_keeps c trace flags) a ≡ true).
      let end : (b : ℕ) × IsNext trace a b × (is_flagged flags b ≡ true) = kept_end c trace flags a within kept in
      absurd (both_ways (same_object (request_at trace a) (request_at trace end.0)) (last end.0 end.1.before end.1.within) end.1.same))
      (λ (bypassed : is_kept (flag_keeps c trace flags) a ≡ false). bypassed)
      (cases_Bool (is_kept (flag_keeps c trace flags) a))

module _ (c warmup : ℕ) (fills : List Bool) (trace : List Object) (flags : List Bool) where
  -- what an interval adds to the least written bytes
  abbrev share : Interval → ℕ
  share i = cond (must_write warmup fills flags i) i.size 0

  -- what a kept request adds to them
  abbrev pub own : ℕ → ℕ
  own t = cond (nat_le warmup t && (is_kept (flag_keeps c trace flags) t && (only_fills fills t || not (is_flagged flags t)))) (request_at trace t).size 0

  -- an interval to a request that is not flagged adds nothing
  no_share : (i : Interval) → is_flagged flags i.end ≡ false → share i ≡ 0
  no_share i unflagged =
      ap (λ s. cond (s && nat_le warmup i.start && (only_fills fills i.start || not (is_flagged flags i.start))) i.size 0) unflagged

  module _ (possible : IsPossible c trace flags) where
    -- a kept request adds what its interval does
    kept_share : (t : ℕ) → t < length trace → is_kept (flag_keeps c trace flags) t ≡ true → sum_by share (eligible_from (terms_from Hits c 0 []) trace t) ≡ own t
    kept_share t within kept = to (kept_end c trace flags t within kept)
      where
        to : (b : ℕ) × IsNext trace t b × (is_flagged flags b ≡ true) → sum_by share (eligible_from (terms_from Hits c 0 []) trace t) ≡ own t
        to (b, next, flagged) =
            let same : request_at trace t ≡ request_at trace b = same_object-true (request_at trace t) (request_at trace b) next.same in
            let fits : (request_at trace t).size ≤ c = omega (arith, ap (λ (x : Object). x.size) same, possible.fits b next.within flagged) in
            let i : Interval = interval_of Hits trace t b in
            let of_start : eligible_from (terms_from Hits c 0 []) trace t ≡ i ∷ []
            = eligible_from_one (terms_from Hits c 0 []) trace t b next fits (and_from _ _ (le-leb 0 b (omega arith)) refl) in
            let one : sum_by share (eligible_from (terms_from Hits c 0 []) trace t) ≡ share i = ap (sum_by share) of_start ∙ omega (arith, sum_by-cons share i []) in
            let unclaimed : Bool = only_fills fills t || not (is_flagged flags t) in
            one
            ∙ ap (λ s. cond (s && nat_le warmup t && unclaimed) (request_at trace t).size 0) flagged
            ∙ sym (ap (λ s. cond (nat_le warmup t && (s && unclaimed)) (request_at trace t).size 0) kept)

    -- and another request adds nothing
    bypassed_share : (t : ℕ) → is_kept (flag_keeps c trace flags) t ≡ false → sum_by share (eligible_from (terms_from Hits c 0 []) trace t) ≡ own t
    bypassed_share t bypassed =
        let row : List Interval = eligible_from (terms_from Hits c 0 []) trace t in
        let unclaimed : Bool = only_fills fills t || not (is_flagged flags t) in
        sum_by-none share row
        (λ k d lt.
        let i : Interval = get_or row k d in
        let from : IsEligible (terms_from Hits c 0 []) trace i × (i.start ≡ t) = All-eligible_from (terms_from Hits c 0 []) trace t k d lt in
        let el : IsEligible (terms_from Hits c 0 []) trace i = from.0 in
        no_share i (sym (is_kept-next c trace flags i.start i.end el.next el.fits) ∙ ap (is_kept (flag_keeps c trace flags)) from.1 ∙ bypassed))
        ∙ sym (ap (λ s. cond s (request_at trace t).size 0)
        (ap (λ s. nat_le warmup t && (s && unclaimed)) bypassed ∙ and_right (nat_le warmup t) false refl))

    -- the least written bytes, request by request
    pub least_written-kept : least_written c warmup fills trace flags ≡ sum_by own (numbers_of trace)
    least_written-kept =
        sum_by-flat_map share (eligible_from (terms_from Hits c 0 []) trace) (numbers_of trace)
        ∙ sum_by-range_agree (λ t. sum_by share (eligible_from (terms_from Hits c 0 []) trace t)) own 0 (length trace)
        (λ t low high.
        ⊎_elim
        (λ (kept : is_kept (flag_keeps c trace flags) t ≡ true). kept_share t (omega arith) kept)
        (λ (bypassed : is_kept (flag_keeps c trace flags) t ≡ false). bypassed_share t bypassed)
        (cases_Bool (is_kept (flag_keeps c trace flags) t)))

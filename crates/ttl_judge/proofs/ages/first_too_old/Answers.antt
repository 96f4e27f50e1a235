use Rattle.std.proofs.Common.{◌≡◌, ◌≢◌, ◌+◌, ◌∙◌, ◌&&◌, ◌<◌, ℕ, Bool, List, false, nat_lt, refl, sym, subst, ap, arith, length, get_or, Some, ⊎_elim}
use Rattle.std.specs.Option.{option_map}
use Rattle.std.proofs.lemmas.Bool.{and_from, and_right, cases_eq, le-ltb, lt-ltb}
use Rattle.std.proofs.lemmas.List.{get_or_read}
use Rattle.bit_list.specs.Bits.{bits_of}
use Rattle.cache_model.specs.declared.objects.Object.{Object}
use Rattle.freshness.specs.Stale.{clock}
use Rattle.judge_laws.specs.Flags.{is_flagged}
use Rattle.hit_judge.proofs.Found.{find-range_first, find-range_none}
use Rattle.ttl_laws.proofs.Numbered.{AreOf, of-none}
use Rattle.ttl_judge.specs.Ages.{age_at, last_write, too_old_at}
use Rattle.ttl_judge.proofs.Clocks.{age-kept, clocks-noted, clocks-same, next}
use Rattle.ttl_laws.proofs.Idle.{clock-more}
use Rattle.ttl_judge.proofs.ages.first_too_old.Goals as goal
use Rattle.ttl_judge.proofs.ages.first_too_old.Goals.{else-can_write, else-get-via-else-get, else-get-via-then-get+else-age-ttl, then-can_write}

pub loop-t-init : goal.loop-t-init
loop-t-init c =
    let trace : List Object = c.args.trace.now.objects in
    let fills : List Bool = c.args.trace.now.fills in
    let flags : List Bool = bits_of c.args.flags.now in
    record {
      clock = refl;
      clocks = subst (AreOf trace (last_write fills trace c.args.times.now flags 0)) (sym (c.in_ok-clocks.ensures.items_if_clones_equal (λ y same. same)))
          (of-none trace (last_write fills trace c.args.times.now flags 0) c.objects.result c.objects.ensures.different (λ x. refl));
      none = λ k low. absurd (omega arith);
    }

-- none passes so far, and the next one doesn't
one-more : (p : ℕ → Bool) (t : ℕ) → ((k : ℕ) → k < t → p k ≡ false) → p t ≡ false → (k : ℕ) → k < t + 1 → p k ≡ false
one-more p t none fails k low =
    ⊎_elim (λ (same : k ≡ t). ap p same ∙ fails) (λ (other : k ≢ t). none k (omega arith)) (cases_eq k t)

pub loop-t-preserved : goal.loop-t-preserved
loop-t-preserved c =
    let trace : List Object = c.args.trace.now.objects in
    let fills : List Bool = c.args.trace.now.fills in
    let times : List ℕ = c.args.times.now in
    let flags : List Bool = bits_of c.args.flags.now in
    let t : ℕ = c.loop-t.t in
    let number : ℕ = c.request-number.result in
    let clocks : List ℕ = c.loop-t.clocks.items in
    let numbered = c.request-number.ensures.number in
    let are : AreOf trace (last_write fills trace times flags t) clocks = c.loop-t.invariant.clocks in
    let within : t < length trace = omega (arith, c.loop-t-test.true, c.len-t-end.ensures.requests) in
    let timed : t < length times = omega (arith, within, c.requires.one_time_each) in
    let last : c.index.result.now ≡ get_or clocks number 0
    = get_or_read clocks number c.index.result.now (omega (arith, c.request-number.ensures.known, are.known)) c.index.ensures 0 in
    let age : c.saturating_sub-age.result ≡ age_at fills trace times flags t
    = age-kept fills trace times flags t number numbered clocks are c.loop-t.clock c.max-clock.result c.index.result.now c.saturating_sub-age.result
    timed c.loop-t.invariant.clock c.max-clock.ensures last c.saturating_sub-age.ensures in
    let now : c.max-clock.result ≡ clock times t = clock-more times t c.loop-t.clock c.max-clock.result timed c.loop-t.invariant.clock c.max-clock.ensures in
    let p : ℕ → Bool = λ k. is_flagged flags k && nat_lt c.args.ttl (age_at fills trace times flags k) in
    record {
      clock = now;
      clocks = elim c.if-can_write.branch [
        | then-can_write w ↦
            subst (AreOf trace (next fills trace times flags t number numbered clocks are)) (sym (ap (λ v. v.items) w.clocks-is))
            (clocks-noted fills trace times flags t number numbered clocks are c.max-clock.result now (sym c.can_write.ensures ∙ w.if-can_write.true))
        | else-can_write w ↦
            subst (AreOf trace (next fills trace times flags t number numbered clocks are)) (sym (ap (λ v. v.items) w.clocks-is))
            (clocks-same fills trace times flags t number numbered clocks are (sym c.can_write.ensures ∙ w.if-can_write.false))
      ];
      none = λ k low. one-more p t c.loop-t.invariant.none
          (elim c.else-get.branch [
            | else-get-via-then-get+else-age-ttl w ↦
                and_right (is_flagged flags t) _ (le-ltb c.args.ttl (age_at fills trace times flags t) (omega (arith, age, w.if-age-ttl.false)))
            | else-get-via-else-get w ↦ ap (λ b. b && nat_lt c.args.ttl (age_at fills trace times flags t)) (sym c.get.ensures.bit ∙ w.if-get.false)
          ]) k low;
    }

pub returns-then-age-ttl : goal.returns-then-age-ttl
returns-then-age-ttl c =
    let trace : List Object = c.args.trace.now.objects in
    let fills : List Bool = c.args.trace.now.fills in
    let times : List ℕ = c.args.times.now in
    let flags : List Bool = bits_of c.args.flags.now in
    let t : ℕ = c.loop-t.t in
    let number : ℕ = c.request-number.result in
    let clocks : List ℕ = c.loop-t.clocks.items in
    let numbered = c.request-number.ensures.number in
    let are : AreOf trace (last_write fills trace times flags t) clocks = c.loop-t.invariant.clocks in
    let within : t < length trace = omega (arith, c.loop-t-test.true, c.len-t-end.ensures.requests) in
    let timed : t < length times = omega (arith, within, c.requires.one_time_each) in
    let last : c.index.result.now ≡ get_or clocks number 0
    = get_or_read clocks number c.index.result.now (omega (arith, c.request-number.ensures.known, are.known)) c.index.ensures 0 in
    let age : c.saturating_sub-age.result ≡ age_at fills trace times flags t
    = age-kept fills trace times flags t number numbered clocks are c.loop-t.clock c.max-clock.result c.index.result.now c.saturating_sub-age.result
    timed c.loop-t.invariant.clock c.max-clock.ensures last c.saturating_sub-age.ensures in
    let p : ℕ → Bool = λ k. is_flagged flags k && nat_lt c.args.ttl (age_at fills trace times flags k) in
    let old : c.args.ttl < age_at fills trace times flags t = omega (arith, age, c.if-age-ttl.true) in
    ap (λ n. Some (record { request = t; age = n })) age
    ∙ sym (ap (option_map (too_old_at fills trace times flags))
    (find-range_first p t 0 (length trace) (omega arith) (omega (arith, within))
    (and_from _ _ (sym c.get.ensures.bit ∙ c.if-get.true) (lt-ltb c.args.ttl (age_at fills trace times flags t) old))
    (λ k low high. c.loop-t.invariant.none k high)))

pub returns : goal.returns
returns c =
    let p : ℕ → Bool = λ k. is_flagged (bits_of c.args.flags.now) k && nat_lt c.args.ttl (age_at c.args.trace.now.fills c.args.trace.now.objects c.args.times.now (bits_of c.args.flags.now) k) in
    sym (ap (option_map (too_old_at c.args.trace.now.fills c.args.trace.now.objects c.args.times.now (bits_of c.args.flags.now)))
    (find-range_none p 0 (length c.args.trace.now.objects) (λ k low high. c.loop-t.invariant.none k (omega arith))))

-- Contents write what the requests that flags keep must write, or more.
use Rattle.std.proofs.Common.{◌≡◌, ℕ, ◌+◌, ◌<◌, ◌≤◌, zero-add, ⊎_elim, ◌∙◌, sym, refl, ap, Bool, true, false, not, ◌&&◌, ◌||◌, cond, nat_le, List, length, arith}
use Rattle.std.proofs.lemmas.Bool.{cases_Bool, both_ways, and_from}
use Rattle.cache_model.specs.declared.objects.Object.{Object}
use Rattle.cache_model.specs.Claim.{holds, before_request, only_fills, request_at, is_kept, contents_of}
use Rattle.cache_model.specs.Objects.{IsFirst, IsNext, is_first}
use Rattle.cache_model.proofs.Streams.{sum_by-range_agree}
use Rattle.cache_model.proofs.DifferentObjects.{is_first-yes}
use Rattle.cache_model.proofs.Scores.{first_or_next, holds-first, holds-next, allowed-from_loads}
use Rattle.part_laws.proofs.Ranges.{sum_by-range_below}
use Rattle.judge_laws.specs.Flags.{is_flagged, IsPossible}
use Rattle.judge_laws.proofs.Flagged.{flag_keeps, held-flagged}
use Rattle.judge_laws.proofs.Possible.{allowed_is_possible, flagged_held}
use Rattle.write_laws.specs.Claims.{HitsExactly, least_written}
use Rattle.cache_model.specs.Written.{writes, written_bytes}
use Rattle.write_laws.specs.Laws.{WriteNoFewer, WriteJust}
use Rattle.cache_model.proofs.Scores.{before_request-contents_of, is_latest-own}
use Rattle.cache_model.proofs.Written.{written_at, written-requests}
use Rattle.write_laws.proofs.Kept.{own, kept-next, least_written-kept}

-- a request that is kept adds no more than one whose object is held after it, and was not before it if it counts and is not flagged
kept_writes : (past kept held fill flag was : Bool) (n : ℕ) → (kept ≡ true → held ≡ true) → (past ≡ true → fill ≡ false → flag ≡ false → was ≡ false)
    → cond (past && (kept && (fill || not flag))) n 0 ≤ cond (past && (held && (fill || not was))) n 0
kept_writes false kept held fill flag was n then_held no_other = omega arith
kept_writes true false held fill flag was n then_held no_other = omega arith
kept_writes true true held true flag was n then_held no_other =
    let same : cond (held && true) n 0 ≡ n = ap (λ s. cond (s && true) n 0) (then_held refl) in omega arith
kept_writes true true held false true was n then_held no_other = omega arith
kept_writes true true held false false was n then_held no_other =
    let same : cond (held && not was) n 0 ≡ n = ap (λ s. cond (s && not was) n 0) (then_held refl) ∙ ap (λ b. cond (not b) n 0) (no_other refl refl refl) in omega arith

pub claimed_hits_write_no_fewer : WriteNoFewer
claimed_hits_write_no_fewer c warmup fills trace flags contents allowed hits =
    let written : ℕ → ℕ = λ t. cond (nat_le warmup t && writes fills trace contents t) (request_at trace t).size 0 in
    omega (
      arith,
      least_written-kept c warmup fills trace flags (allowed_is_possible c trace flags contents allowed hits.flagged),
      sum_by-range_below (own c warmup fills trace flags) written 0 0 (length trace) (λ t within. rw zero-add (each t within)),
    )
  where
    each : (t : ℕ) → t < length trace → own c warmup fills trace flags t ≤ cond (nat_le warmup t && writes fills trace contents t) (request_at trace t).size 0
    each t within =
        kept_writes (nat_le warmup t) (is_kept (flag_keeps c trace flags) t) (holds (before_request contents (t + 1)) (request_at trace t))
        (only_fills fills t) (is_flagged flags t) (holds (before_request contents t) (request_at trace t)) (request_at trace t).size
        (λ is. flagged_held c trace flags contents allowed hits.flagged t t within (omega arith) (and_from _ _ is (is_latest-own trace t within)))
        (λ past counted unflagged. hits.no_other t within (and_from _ _ past (ap not counted)) unflagged)

module _ (c : ℕ) (trace : List Object) (flags : List Bool) (possible : IsPossible c trace flags) where
  abbrev keeps : List Bool
  keeps = flag_keeps c trace flags

  -- the first request of an object is not flagged
  first_unflagged : (t : ℕ) → t < length trace → IsFirst trace t → is_flagged flags t ≡ false
  first_unflagged t within first =
      ⊎_elim
      (λ (flagged : is_flagged flags t ≡ true). absurd (both_ways (is_first trace t) (possible.asked_before t within flagged) (is_first-yes trace t (omega arith) first)))
      (λ (no : is_flagged flags t ≡ false). no)
      (cases_Bool (is_flagged flags t))

  -- the contents of these keeps hit exactly at the flagged requests
  exactly : HitsExactly trace (contents_of trace keeps) flags
  exactly t within =
      ap (λ held. holds held (request_at trace t)) (before_request-contents_of trace keeps t (omega arith))
      ∙ ⊎_elim
      (λ (first : IsFirst trace t). holds-first trace t within keeps first ∙ sym (first_unflagged t within first))
      (λ (found : (a : ℕ) × IsNext trace a t). holds-next trace t within keeps found.0 found.1 ∙ kept-next c trace flags possible found.0 t found.1)
      (first_or_next trace t within)

  -- and they write what these must
  just : (warmup : ℕ) (fills : List Bool) → written_bytes warmup fills trace (contents_of trace keeps) ≡ least_written c warmup fills trace flags
  just warmup fills =
      written-requests warmup fills trace keeps
      ∙ (sum_by-range_agree (written_at warmup fills trace keeps) (own c warmup fills trace flags) 0 (length trace) (λ t low high. each t (omega arith))
      ∙ sym (least_written-kept c warmup fills trace flags possible))
    where
      each : (t : ℕ) → t < length trace → written_at warmup fills trace keeps t ≡ own c warmup fills trace flags t
      each t within =
          ap (λ was. cond (nat_le warmup t && (is_kept keeps t && (only_fills fills t || not was))) (request_at trace t).size 0)
          (ap (λ held. holds held (request_at trace t)) (sym (before_request-contents_of trace keeps t (omega arith))) ∙ exactly t within)

pub claimed_hits_write_just : WriteJust
claimed_hits_write_just c warmup fills trace flags possible =
    let kept : List Bool = flag_keeps c trace flags in (
      contents_of trace kept,
      allowed-from_loads trace c kept (λ t within. omega (arith, held-flagged c trace flags t within, possible.within_capacity t within)),
      exactly c trace flags possible,
      just c trace flags possible warmup fills,
    )

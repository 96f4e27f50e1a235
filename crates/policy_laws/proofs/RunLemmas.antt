-- The run of each rule is allowed contents.
use Rattle.std.proofs.Common.{◌≡◌, ℕ, zero, suc, ◌+◌, ◌<◌, ◌≤◌, sym, refl, ap, subst, Bool, ◌&&◌, cond, List, [], length, arith, Some, None, lt-ltb}
use Rattle.std.specs.declared.option.Option.{Option}
use Rattle.cache_model.specs.declared.objects.Object.{Object}
use Rattle.cache_model.specs.Objects.{objects_of}
use Rattle.cache_model.specs.Claim.{counts_past, request_at}
use Rattle.policy_model.specs.declared.names.PolicyName.{PolicyName}
use Rattle.policy_model.specs.declared.names.PolicyName.TheVariants.{WTinyLfu}
use Rattle.policy_model.specs.States.{State, nothing_beside, members_of, has_entry, used, start_of, IsFit}
use Rattle.policy_model.specs.Rules.{entries_after}
use Rattle.policy_model.specs.Asks.{ask_at, number_of, next_request}
use Rattle.policy_model.specs.Runs.{Run, run_step, AreScores}
use Rattle.policy_model.proofs.Holdings.{size-held}
use Rattle.policy_model.proofs.MemberLemmas.{size-members, apart-members, sizes-entries}
use Rattle.policy_model.proofs.Replays.{AreScoresTo, IsAsked, played-none, played-more, played-all, run_to, run_to-more, run_to-all, has_entry-members}
use Rattle.policy_model.proofs.WTinyLfuSound.{KeepsShares}
use Rattle.policy_model.proofs.RulesSound.{fit-step, shares-step, enters-step}
use Rattle.policy_laws.specs.Laws.{RunsAreAllowed}
use Rattle.policy_laws.proofs.Asked.{number_of-object}

-- a run after t requests: contents so far, whose entries fit
record Stands (capacity : ℕ) (counted : ℕ → Bool) (trace : List Object) (t : ℕ) (run : Run) : Type 0 where
  pub played : AreScoresTo capacity counted trace t (members_of run.state.entries) run.hits run.bytes
  pub fit : IsFit capacity run.state.entries
  pub same_capacity : run.state.capacity ≡ capacity
  pub shares : KeepsShares run.state.name run.state.capacity run.state.entries run.state.beside

asked_at : (trace : List Object) (t : ℕ) → t < length trace → IsAsked trace t (number_of trace (request_at trace t)) (request_at trace t).size
asked_at trace t within =
    let k : ℕ = number_of trace (request_at trace t) in
    let known = number_of-object trace t within in
    record {
      within = within;
      found = ap (λ b. cond b (Some k) None) (lt-ltb k (length (objects_of trace)) known.0);
      object = known.1;
      size_is = refl;
    }

one_more : (capacity : ℕ) (counted : ℕ → Bool) (trace : List Object) (t : ℕ) (run : Run) → t < length trace → Stands capacity counted trace t run → Stands capacity counted trace (t + 1) (run_step counted run (ask_at trace t))
one_more capacity counted trace t run within stands =
    let s : State = run.state in
    let x : Object = request_at trace t in
    let k : ℕ = number_of trace x in
    let next : Option ℕ = next_request trace t in
    let asked : IsAsked trace t k x.size = asked_at trace t within in
    let hit : Bool = has_entry s.entries k in
    let fit_before : IsFit s.capacity s.entries = subst (λ c. IsFit c s.entries) (sym stands.same_capacity) stands.fit in
    let fit_after : IsFit s.capacity (entries_after s k x.size next) =
    fit-step s k x.size next stands.shares (sizes-entries k x.size s.entries (size-held trace x k asked.found asked.object (members_of s.entries) stands.played.numbered)) fit_before in
    let fit : IsFit capacity (entries_after s k x.size next) = subst (λ c. IsFit c (entries_after s k x.size next)) stands.same_capacity fit_after in
    let low : used (entries_after s k x.size next) ≤ capacity = fit.room in
    record {
      played = played-more capacity counted trace t k x.size (members_of s.entries) (members_of (entries_after s k x.size next)) run.hits run.bytes
          (run.hits + cond (counted t && hit) 1 0) (run.bytes + cond (counted t && hit) x.size 0) hit asked stands.played
          (enters-step s k x.size next) (omega (arith, size-members (entries_after s k x.size next))) (apart-members (entries_after s k x.size next) fit.apart)
          (has_entry-members s.entries k) refl refl;
      fit = fit;
      same_capacity = stands.same_capacity;
      shares = shares-step s k x.size next stands.shares;
    }

-- of no entries
no_shares : (name : PolicyName) (capacity : ℕ) → KeepsShares name capacity [] nothing_beside
no_shares WTinyLfu capacity = record { window = omega arith; main = omega arith }
no_shares name capacity = tt

stands_at : (name : PolicyName) (capacity : ℕ) (counted : ℕ → Bool) (trace : List Object) (t : ℕ) → t ≤ length trace → Stands capacity counted trace t (run_to counted (start_of name capacity) trace t)
stands_at name capacity counted trace zero within = record {
  played = played-none capacity counted trace (members_of []) refl;
  fit = record { room = omega arith; apart = tt };
  same_capacity = refl;
  shares = no_shares name capacity;
}
stands_at name capacity counted trace (suc t) within =
    let low : t < length trace = omega arith in
    let e : run_to counted (start_of name capacity) trace (t + 1) ≡ run_step counted (run_to counted (start_of name capacity) trace t) (ask_at trace t) = run_to-more counted (start_of name capacity) trace t low in
    let here : Stands capacity counted trace (t + 1) (run_to counted (start_of name capacity) trace (t + 1)) =
    subst (Stands capacity counted trace (t + 1)) (sym e) (one_more capacity counted trace t (run_to counted (start_of name capacity) trace t) low (stands_at name capacity counted trace t (omega arith))) in
    let one : t + 1 ≡ suc t = omega arith in
    subst (λ n. Stands capacity counted trace n (run_to counted (start_of name capacity) trace n)) one here

pub runs_are_allowed : RunsAreAllowed
runs_are_allowed name capacity warmup fills trace =
    let all : Stands capacity (counts_past warmup fills) trace (length trace) (run_to (counts_past warmup fills) (start_of name capacity) trace (length trace)) = stands_at name capacity (counts_past warmup fills) trace (length trace) (omega arith) in
    let run : Run = run_to (counts_past warmup fills) (start_of name capacity) trace (length trace) in
    subst (λ (r : Run). AreScores capacity warmup fills trace r.hits r.bytes) (run_to-all (counts_past warmup fills) (start_of name capacity) trace (length trace) refl)
    (played-all capacity warmup fills trace (members_of run.state.entries) (length trace) run.hits run.bytes refl all.played)

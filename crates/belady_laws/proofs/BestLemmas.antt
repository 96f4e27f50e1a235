-- A replay of Belady's rule is best.
use Rattle.std.proofs.Common.{◌≡◌, ℕ, ◌≤◌, sym, subst, Bool, List, [], Some, IfOk, Result, Ok, Err}
use Rattle.cache_model.specs.declared.objects.Object.{Object}
use Rattle.cache_model.specs.declared.objects.Objective.TheVariants.{Object as Hits, Bytes}
use Rattle.cache_model.specs.Claim.{score, terms_from}
use Rattle.policy_model.specs.declared.names.PolicyName.TheVariants.{Belady}
use Rattle.policy_model.specs.Runs.{AreScores, policy_run}
use Rattle.policy_laws.specs.Laws.{HaveOneSize}
use Rattle.policy_laws.proofs.BeladyLemmas.{belady_is_best}
use Rattle.replay_core.specs.declared.counts.Replay.{Replay}
use Rattle.replay_core.specs.Keeping.{Kept, nothing_kept, state_of}
use Rattle.replay_core.specs.Laws.{IsRunOf}
use Rattle.belady_laws.specs.Best.{IsBest}

module _ (capacity objects : ℕ) (trace : List Object) (one_size : HaveOneSize capacity trace) where
  pub best : (hits bytes : ℕ) → AreScores capacity 0 [] trace hits bytes → IsRunOf (Some (state_of Belady (nothing_kept objects capacity))) trace 0 [] hits bytes → IsBest capacity trace hits bytes
  best hits bytes played run = record {
    contents = played.contents;
    played = record { allowed = played.allowed; hits_are = played.hits_are; bytes_are = played.bytes_are };
    most_hits = λ other allowed. subst (λ n. score (terms_from Hits capacity 0 []) trace other ≤ n) (sym run.0) (belady_is_best capacity trace other one_size allowed).hits;
    most_bytes = λ other allowed. subst (λ n. score (terms_from Bytes capacity 0 []) trace other ≤ n) (sym run.1) (belady_is_best capacity trace other one_size allowed).bytes;
  }

  -- whatever the replay answers, if every request counts
  pub best_result : {E : Type 0} (r : Result Replay E) (start : Kept) (fills : List Bool) → start ≡ nothing_kept objects capacity → fills ≡ []
      → IfOk r (λ a. AreScores start.capacity 0 fills trace a.hits a.bytes)
      → IfOk r (λ a. IsRunOf (Some (state_of Belady start)) trace 0 fills a.hits a.bytes)
      → IfOk r (λ a. IsBest capacity trace a.hits a.bytes)
  best_result (Ok a) start fills is all played run =
      best a.hits a.bytes
      (subst (λ (f : List Bool). AreScores capacity 0 f trace a.hits a.bytes) all (subst (λ (p : Kept). AreScores p.capacity 0 fills trace a.hits a.bytes) is played))
      (subst (λ (f : List Bool). IsRunOf (Some (state_of Belady (nothing_kept objects capacity))) trace 0 f a.hits a.bytes) all (subst (λ (p : Kept). IsRunOf (Some (state_of Belady p)) trace 0 fills a.hits a.bytes) is run))
  best_result (Err e) start fills is all played run = tt

-- the run that a replay answers
pub run_result : {E : Type 0} (capacity objects : ℕ) (trace : List Object) (r : Result Replay E) (start : Kept) (fills : List Bool) → start ≡ nothing_kept objects capacity
    → IfOk r (λ a. IsRunOf (Some (state_of Belady start)) trace 0 fills a.hits a.bytes)
    → IfOk r (λ a. (a.hits ≡ (policy_run Belady trace capacity 0 fills).hits) × (a.bytes ≡ (policy_run Belady trace capacity 0 fills).bytes))
run_result capacity objects trace (Ok a) start fills is run = subst (λ (p : Kept). IsRunOf (Some (state_of Belady p)) trace 0 fills a.hits a.bytes) is run
run_result capacity objects trace (Err e) start fills is run = tt

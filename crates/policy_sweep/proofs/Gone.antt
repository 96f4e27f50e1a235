-- Policies side by side, as one is added, as they are told a request more, and as they go through the batch.
use Rattle.std.proofs.Common.{◌≡◌, ◌≢◌, ℕ, ◌+◌, ◌^◌, ◌<◌, ◌∙◌, ap, sym, refl, subst, inl, inr, arith, List, Contains, [], ◌∷◌, ◌++◌, length, slice_index_or, Some}
use Rattle.std.proofs.lemmas.Bool.{cases_eq}
use Rattle.std.proofs.lemmas.List.{get_or_append_left, get_or_push, length_push}
use Rattle.std.proofs.lemmas.List.Elements.{Contains-get_or}
use Rattle.policy_model.specs.declared.names.PolicyName.{PolicyName}
use Rattle.policy_model.specs.declared.names.PolicyName.TheVariants.{Belady, Lru}
use Rattle.policy_model.specs.States.{start_of}
use Rattle.replay_core.specs.Keeping.{contents_of, nothing_kept, state_of}
use Rattle.replay_fresh.proofs.KnownRuns.{run-all}
use Rattle.replay_fresh.proofs.Writes.{written-all}
use Rattle.replay_steps.specs.declared.asked.Asked.{Asked}
use Rattle.any_policy.specs.Any.{kept_of, name_of}
use Rattle.any_policy.specs.declared.policy.AnyPolicy.TheVariants as any
use Rattle.policy_sweep.specs.declared.fault.ReplayFault.{ReplayFault}
use Rattle.policy_sweep.specs.declared.fault.ReplayFault.TheVariants.{PolicyMemory, NoMemory}
use Rattle.policy_sweep.specs.declared.running.Running.{Running}
use Rattle.policy_sweep.specs.declared.replays.PolicyReplays.{PolicyReplays}
use Rattle.policy_sweep.specs.Running.{Advances, AreAsked, IsRunning, IsToldRequest, Setting, Told}
use Rattle.policy_sweep.specs.Replays.{HasGone, IsOfSetting, NamesOneOf, NamesSetting}

-- one request more in a batch
asked-more : (told : Told) (objects n : ℕ) (batch : List Asked) (asked : Asked) → AreAsked told objects n batch → IsToldRequest told objects (n + length batch) asked → n + length batch + 1 < 2 ^ 32 → AreAsked told objects n (batch ++ asked ∷ [])
asked-more told objects n batch asked are is few = record {
  each = λ i d below. elim (cases_eq i (length batch)) [
    | inl last ↦
        subst (λ k. IsToldRequest told objects (n + k) (slice_index_or (batch ++ asked ∷ []) k d)) (sym last)
        (subst (IsToldRequest told objects (n + length batch)) (sym (get_or_push batch asked d (length batch) refl)) is)
    | inr apart ↦
        let within : i < length batch = omega (arith, below, apart, length_push batch asked) in
        subst (IsToldRequest told objects (n + i)) (sym (get_or_append_left batch (asked ∷ []) d i within)) (are.each i d within)
  ];
  few = omega (arith, few, length_push batch asked);
}

-- the policies are told a request more
pub told-more : (told : Told) (objects : ℕ) (settings : List Setting) (t : ℕ) (old new : PolicyReplays) (asked : Asked) → new.running.items ≡ old.running.items → new.batch.items ≡ old.batch.items ++ asked ∷ []
    → IsToldRequest told objects t asked → t + 1 < 2 ^ 32 → HasGone told objects settings t old → HasGone told objects settings (t + 1) new
told-more told objects settings t old new asked same pushed is few h = record {
  gone = h.gone;
  others = omega (arith, h.others, ap length pushed, length_push old.batch.items asked);
  asked = subst (AreAsked told objects h.gone) (sym pushed)
      (asked-more told objects h.gone old.batch.items asked h.asked (subst (λ n. IsToldRequest told objects n asked) (sym h.others) is) (omega (arith, few, h.others)));
  each = ap length same ∙ h.each;
  ahead_of = h.ahead_of;
  running = λ i s d below. subst (λ rs. IsRunning told (slice_index_or settings i s).name (slice_index_or settings i s).capacity objects h.gone (slice_index_or rs i d)) (sym same) (h.running i s d below);
}

-- they go through the batch
pub gone-through : (told : Told) (objects : ℕ) (settings : List Setting) (t : ℕ) (old new : PolicyReplays) → length new.running.items ≡ length old.running.items → new.batch.items ≡ []
    → ((i : ℕ) (d : Running) → i < length old.running.items → Advances old.batch.items (slice_index_or old.running.items i d) (slice_index_or new.running.items i d))
    → HasGone told objects settings t old → HasGone told objects settings t new
gone-through told objects settings t old new long none more h = record {
  gone = t;
  others = ap (λ (b : List Asked). t + length b) none ∙ omega arith;
  asked = subst (AreAsked told objects t) (sym none) (record { each = λ i d below. absurd (omega (arith, below)); few = omega (arith, h.asked.few, h.others) });
  each = long ∙ h.each;
  ahead_of = h.ahead_of;
  running = λ i s d below.
      subst (λ n. IsRunning told (slice_index_or settings i s).name (slice_index_or settings i s).capacity objects n (slice_index_or new.running.items i d)) h.others
      (more i d (omega (arith, below, h.each)) told (slice_index_or settings i s).name (slice_index_or settings i s).capacity objects h.gone (h.ahead_of i s below) h.asked (h.running i s d below));
}

-- a policy is added before the first request
pub added-one : (told : Told) (objects : ℕ) (settings : List Setting) (setting : Setting) (old new : PolicyReplays) (one : Running) → new.running.items ≡ old.running.items ++ one ∷ [] → new.batch.items ≡ old.batch.items
    → setting.name ≢ Belady → IsRunning told setting.name setting.capacity objects 0 one → HasGone told objects settings 0 old → HasGone told objects (settings ++ setting ∷ []) 0 new
added-one told objects settings setting old new one pushed same other is h =
    let first : h.gone ≡ 0 = omega (arith, h.others) in
    record {
      gone = h.gone;
      others = ap (λ (b : List Asked). h.gone + length b) same ∙ h.others;
      asked = subst (AreAsked told objects h.gone) (sym same) h.asked;
      each = ap length pushed ∙ omega (arith, length_push old.running.items one, length_push settings setting, h.each);
      ahead_of = λ i s below. elim (cases_eq i (length settings)) [
        | inl last ↦ subst (λ (x : Setting). x.name ≢ Belady) (sym (get_or_push settings setting s i (sym last))) other
        | inr apart ↦
            let within : i < length settings = omega (arith, below, apart, length_push settings setting) in
            subst (λ (x : Setting). x.name ≢ Belady) (sym (get_or_append_left settings (setting ∷ []) s i within)) (h.ahead_of i s within)
      ];
      running = λ i s d below. elim (cases_eq i (length settings)) [
        | inl last ↦
            subst (λ (x : Setting). IsRunning told x.name x.capacity objects h.gone (slice_index_or new.running.items i d)) (sym (get_or_push settings setting s i (sym last)))
            (subst (λ r. IsRunning told setting.name setting.capacity objects h.gone r)
            (sym (ap (λ rs. slice_index_or rs i d) pushed ∙ get_or_push old.running.items one d i (h.each ∙ sym last)))
            (subst (λ n. IsRunning told setting.name setting.capacity objects n one) (sym first) is))
        | inr apart ↦
            let within : i < length settings = omega (arith, below, apart, length_push settings setting) in
            subst (λ (x : Setting). IsRunning told x.name x.capacity objects h.gone (slice_index_or new.running.items i d)) (sym (get_or_append_left settings (setting ∷ []) s i within))
            (subst (λ r. IsRunning told (slice_index_or settings i s).name (slice_index_or settings i s).capacity objects h.gone r)
            (sym (ap (λ rs. slice_index_or rs i d) pushed ∙ get_or_append_left old.running.items (one ∷ []) d i (omega (arith, within, h.each))))
            (h.running i s d within))
      ];
    }

-- a policy that has gone through the whole trace has counted what its rule's run counts
pub replay-of : (told : Told) (name : PolicyName) (capacity objects t : ℕ) (running : Running) → t ≡ length told.trace → IsRunning told name capacity objects t running → IsOfSetting told (record { name = name; capacity = capacity }) running.so_far
replay-of told name capacity objects t running end is = record {
  policy = is.named;
  capacity = is.sized;
  counts = record {
    played = written-all capacity told.warmup told.fills told.stale told.replace told.trace (Some (start_of name capacity)) t (contents_of (kept_of running.policy)) running.so_far.counts.hits running.so_far.counts.bytes running.so_far.counts.written
        end refl is.replayed.played;
    run = run-all told.warmup told.fills told.stale told.replace told.trace (Some (start_of name capacity)) (Some (state_of (name_of running.policy) (kept_of running.policy))) t running.so_far.counts.hits running.so_far.counts.bytes
        end refl is.replayed.run;
  };
}

-- past the end
no_setting : Setting
no_setting = record { name = Lru; capacity = 0 }

none_running : Running
none_running = record { policy = any.Lru (nothing_kept 0 0); so_far = record { policy = Lru; capacity = 0; counts = record { hits = 0; bytes = 0; written = 0 } } }

-- a setting is its rule and its capacity
setting-is : (s : Setting) (name : PolicyName) (capacity : ℕ) → s.name ≡ name → s.capacity ≡ capacity → s ≡ record { name = name; capacity = capacity }
setting-is s name capacity named sized = ap (λ n. record { name = n; capacity = s.capacity }) named ∙ ap (λ c. record { name = name; capacity = c }) sized

-- a policy that is named is of one of the settings
pub named-setting : (told : Told) (objects : ℕ) (settings : List Setting) (t : ℕ) (replays : PolicyReplays) (fault : ReplayFault) → HasGone told objects settings t replays
    → NamesOneOf replays.running.items fault → NamesSetting settings fault
named-setting told objects settings t replays (PolicyMemory policy capacity) h names =
    let within : names.0 < length settings = omega (arith, names.1, h.each) in
    let is = h.running names.0 no_setting none_running within in
    let one = names.2 none_running in
    subst (Contains settings) (setting-is (slice_index_or settings names.0 no_setting) policy capacity (sym is.named ∙ one.0) (sym is.sized ∙ one.1)) (Contains-get_or settings names.0 no_setting within)
named-setting told objects settings t replays NoMemory h names = tt

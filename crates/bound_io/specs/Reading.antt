-- What calls that read leave of a source.
use Rattle.std.specs.Prelude.{◌≡◌, ◌≤◌, ◌⊎◌, ℕ, List, ◌++◌, length, Result, IfOk, IfErr, OnOk}
use Rattle.std.specs.declared.option.Option.{Option}
use Rattle.std.specs.Io.KnownBytes.{Consumes, IsAtEnd}
use Rattle.bound_io.specs.Devices.{Device}

-- what was left lost some of its beginning
abbrev pub LosesPrefix : Option (List ℕ) → Option (List ℕ) → Type 0
LosesPrefix old new = (bytes : List ℕ) × Consumes old new bytes

-- what each call that reads a source says of it: the source lost no more than a prefix, and the count of its faults has not fallen; no read failed, unless the answer is the fault of a failed read
pub record ReadsSource {A E : Type 0} (read_fault : E) (d : Device) (result : Result A E) : Type 0 where
  pub source : LosesPrefix d.before d.after
  pub later : d.faults_before ≤ d.faults_after
  pub none_failed : OnOk result (d.faults_after ≡ d.faults_before)
  pub else_none_failed : IfErr result (λ fault. (fault ≡ read_fault) ⊎ (d.faults_after ≡ d.faults_before))

-- new is old with the bytes that were taken from a source, as many as the answer says; none only at its end
abbrev pub ReadsOn : {E : Type 0} → Option (List ℕ) → Option (List ℕ) → List ℕ → List ℕ → Result ℕ E → Type 0
ReadsOn left_old left_new old new result = IfOk result (λ n. ((bytes : List ℕ) × (new ≡ old ++ bytes) × (length bytes ≡ n) × Consumes left_old left_new bytes) × (n ≡ 0 → IsAtEnd left_new))

-- What is seen of a source or a sink before and after a call.
use Rattle.std.specs.Prelude.{◌≡◌, ℕ, ◌⊎◌, List}
use Rattle.std.specs.declared.option.Option.{Option}
use Rattle.std.specs.Io.KnownBytes.{Appends}
use Rattle.bound_io.specs.Causes.{HasNewFault}
use Rattle.bound_io.specs.Writing.{AppendsProperPrefix}

-- the bytes that a source has left, or that a sink was written, if they are known, and the count of faults
pub record Device : Type 0 where
  pub before : Option (List ℕ)
  pub after : Option (List ℕ)
  pub faults_before : ℕ
  pub faults_after : ℕ

-- a device, its bytes first
abbrev pub device : Option (List ℕ) → Option (List ℕ) → ℕ → ℕ → Device
device before after faults_before faults_after = record { before = before; after = after; faults_before = faults_before; faults_after = faults_after }

-- what is seen of a device: its bytes by the one function and its faults by the other, before a call and after it
abbrev pub seen : {D : Type 0} → (D → Option (List ℕ)) → (D → ℕ) → D → D → Device
seen bytes faults old new = device (bytes old) (bytes new) (faults old) (faults new)

-- it has a new fault
abbrev pub HasFailed : Device → Type 0
HasFailed d = HasNewFault d.faults_before d.faults_after

-- a sink was written the text
abbrev pub GetsAll : Device → List ℕ → Type 0
GetsAll d text = Appends d.before d.after text

-- a sink failed, and was written a proper prefix of the text
abbrev pub GetsLess : Device → List ℕ → Type 0
GetsLess d text = HasFailed d × AppendsProperPrefix d.before d.after text

-- a sink was written the text, or failed and was written less of it
abbrev pub Gets : Device → List ℕ → Type 0
Gets d text = GetsAll d text ⊎ GetsLess d text

-- nothing was asked of it
abbrev pub IsUntouched : Device → Type 0
IsUntouched d = (d.after ≡ d.before) × (d.faults_after ≡ d.faults_before)

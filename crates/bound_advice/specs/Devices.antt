-- Why a call of a device failed.
use Rattle.std.specs.Prelude.{◌≡◌, ℕ, List, ◌++◌, if◌then◌else◌, codes, None, Some, IsSomeAnd, String, string_bytes}
use Rattle.std.specs.declared.option.Option.{Option}
use Rattle.std.specs.Str.{bytes_eq}
use Rattle.std.specs.IoError.{error_kind}
use Rattle.std.specs.declared.io.ErrorKind.TheVariants.{BrokenPipe}
use Rattle.bound_advice.specs.declared.devices.Seen.{Seen}

-- what a device is called: its path, or what the standard stream is called at the path -
abbrev pub name_of : Seen → List ℕ
name_of seen = if bytes_eq seen.path.now (codes "-") then seen.standard.now else seen.path.now

-- nobody reads any more what it writes: its last call failed with a broken pipe
abbrev pub IsLeft : Seen → Type 0
IsLeft seen = IsSomeAnd seen.reason (λ reason. error_kind reason ≡ BrokenPipe)

-- a text begins with the name of the device, a colon and a space
abbrev pub BeginsWithName : Seen → List ℕ → Type 0
BeginsWithName seen text = (reason : List ℕ) × (text ≡ name_of seen ++ codes ": " ++ reason)

-- what is said of a device: nothing if it is left, and else a text that begins with its name
abbrev pub IsDeviceAdvice : {A : Type 0} → Seen → Option (String A) → Type 0
IsDeviceAdvice seen None = IsLeft seen
IsDeviceAdvice seen (Some text) = ¬ (IsLeft seen) × BeginsWithName seen (string_bytes text)

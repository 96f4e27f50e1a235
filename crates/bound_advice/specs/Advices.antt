-- What is said of a refusal.
use Rattle.std.specs.Prelude.{◌≡◌, ℕ, ◌==◌, List, ◌++◌, Bool, true, false, codes, None, IsSome, IsSomeAnd, is_some, String, string_bytes}
use Rattle.std.specs.declared.option.Option.{Option}
use Rattle.std.specs.Str.{IsAscii}
use Rattle.cert_checker.specs.declared.invalid.InvalidKind.{InvalidKind}
use Rattle.cert_checker.specs.declared.invalid.InvalidKind.TheVariants as invalid
use Rattle.bound_report.specs.declared.refusal.Refusal.{Refusal}
use Rattle.bound_report.specs.declared.refusal.Refusal.TheVariants.{Invalid, TraceFault, CertFault, MadeFault, PolicyMemory, NoMemory}
use Rattle.policy_model.specs.declared.names.PolicyName.{PolicyName}
use Rattle.policy_model.specs.Names.{policy_word}
use Rattle.bound_advice.specs.Devices.{IsDeviceAdvice}
use Rattle.bound_advice.specs.declared.refusals.Devices.{Devices}

-- a line of ASCII letters, with its end
abbrev pub IsAsciiLine : List ℕ → Type 0
IsAsciiLine text = (line : List ℕ) × IsAscii line × (text ≡ line ++ codes "\n")

-- whether something is known to look at if a certificate isn't valid for this: it may be of another trace, or end too early
abbrev pub has_look : InvalidKind → Bool
has_look (invalid.RequestCount written read) = true
has_look (invalid.UnitNotDivisor unit size) = true
has_look (invalid.FlowAboveWeight flow weight) = true
has_look (invalid.Unused number) = true
has_look (invalid.LowerDiffers written counted) = true
has_look invalid.Truncated = true
has_look kind = false

-- whether something is known to look at if a certificate isn't valid for this at this line: a first line that is none may be of another file
abbrev pub has_advice : ℕ → InvalidKind → Bool
has_advice line invalid.Shape = line == 1
has_advice line invalid.TooLong = line == 1
has_advice line kind = has_look kind

-- what is said of a policy that lacks memory begins with its word
abbrev pub IsPolicyAdvice : {A : Type 0} → PolicyName → Option (String A) → Type 0
IsPolicyAdvice policy advice = IsSomeAnd advice (λ said. (rest : List ℕ) × (string_bytes said ≡ policy_word policy ++ codes " at " ++ rest))

-- what is said of a refusal: nothing if memory ran out, unless a policy lacks it, of a device why its call failed, and something of all else but some certificates that aren't valid
abbrev pub IsAdviceOn : {A : Type 0} → Devices → Refusal → Option (String A) → Type 0
IsAdviceOn devices NoMemory advice = advice ≡ None
IsAdviceOn devices (PolicyMemory policy capacity) advice = IsPolicyAdvice policy advice
IsAdviceOn devices TraceFault advice = IsDeviceAdvice devices.trace advice
IsAdviceOn devices CertFault advice = IsDeviceAdvice devices.cert advice
IsAdviceOn devices MadeFault advice = IsDeviceAdvice devices.made advice
IsAdviceOn devices (Invalid line kind) advice = is_some advice ≡ has_advice line kind
IsAdviceOn devices refusal advice = IsSome advice

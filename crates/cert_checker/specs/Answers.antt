-- What a checker answers, for every header, requests and records that it stands for.
use Rattle.std.specs.Prelude.{◌≡◌, IsTrue, Bool, List, [], ◌∷◌, ◌++◌, length, Result, Ok, Err, None, Some}
use Rattle.std.specs.declared.option.Option.{Option}
use Rattle.cache_model.specs.declared.objects.Object.{Object}
use Rattle.cache_model.specs.declared.certificates.Header.{Header}
use Rattle.cache_model.specs.declared.certificates.Record.{Record}
use Rattle.cache_model.specs.Objects.{objects_of}
use Rattle.cache_model.specs.Claim.{BoundsEveryPolicy}
use Rattle.cache_model.specs.Certificates.{IsLeastOverAll, IsValid}
use Rattle.cert_checker.specs.declared.invalid.InvalidKind.{InvalidKind}
use Rattle.cert_checker.specs.declared.checker.StepFault.{StepFault}
use Rattle.cert_checker.specs.declared.checker.StepFault.TheVariants.{Rule, NoMemory}
use Rattle.cert_checker.specs.declared.verdict.Verdict.{Verdict}
use Rattle.cert_checker.specs.Rules.{record_fault, end_fault}
use Rattle.cert_checker.specs.Summaries.{Summary, StandsFor}

-- the fault of the record after these: the first rule that fails, or out of memory if none does
abbrev pub IsRuleOr : Option InvalidKind → StepFault → Type 0
IsRuleOr fault (Rule kind) = fault ≡ Some kind
IsRuleOr fault NoMemory = fault ≡ None

-- one more request and record: the checker stands for the lists with them, or names the first rule that the record fails
abbrev pub IsStepped : Header → List Bool → List Object → List Record → Object → Record → Summary → Result (Unit {0}) StepFault → Type 0
IsStepped h fills trace records x r new (Ok done) = StandsFor h fills (trace ++ x ∷ []) (records ++ r ∷ []) new
IsStepped h fills trace records x r new (Err fault) = IsRuleOr (record_fault h fills (trace ++ x ∷ []) (records ++ r ∷ []) (length trace)) fault

-- a yes: the certificate is valid, so no policy scores more than its upper bound, and in the form exact no prices over any denominator have a smaller one
pub record IsYes (h : Header) (fills : List Bool) (trace : List Object) (records : List Record) (verdict : Verdict) : Type 0 where
  pub no_fault : end_fault h fills trace records ≡ None
  pub header : verdict.header ≡ h
  pub objects : verdict.objects ≡ length (objects_of trace)
  pub valid : IsValid trace fills h records
  pub bounds_every_policy : BoundsEveryPolicy trace fills h
  pub least : IsTrue h.exact → IsLeastOverAll trace fills h records

-- the end: a yes, or the first rule that it fails
abbrev pub IsFinished : Header → List Bool → List Object → List Record → Result Verdict InvalidKind → Type 0
IsFinished h fills trace records (Ok verdict) = IsYes h fills trace records verdict
IsFinished h fills trace records (Err kind) = end_fault h fills trace records ≡ Some kind

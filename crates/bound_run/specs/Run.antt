-- When a run ends in each status, and what the devices got then.
use Rattle.std.specs.Prelude.{◌≡◌, ℕ, ◌⊎◌, List, Result, Ok, Err, Some, None, IsSome}
use Rattle.std.specs.declared.option.Option.{Option}
use Rattle.bound_io.specs.Reading.{LosesPrefix}
use Rattle.bound_io.specs.Devices.{Device, HasFailed, Gets, GetsAll, GetsLess, IsUntouched}
use Rattle.cache_model.specs.declared.objects.Object.{Object}
use Rattle.trace_any.specs.Readings.{reading, full_limits}
use Rattle.stack_curve.specs.Curves.{IsClash, first_size}
use Rattle.stack_curve.specs.Laws.{HaveSize}
use Rattle.capacity_curve.specs.declared.points.CurveTerms.{CurveTerms}
use Rattle.trace_any.specs.declared.format.Format.{Format}
use Rattle.bound_report.specs.declared.refusal.Refusal.{Refusal}
use Rattle.bound_report.specs.declared.refusal.Refusal.TheVariants.{MadeFault}
use Rattle.bound_report.specs.declared.refusal.Refusal.TheVariants as refusal
use Rattle.bound_report.specs.Refusals.{refusal_line}
use Rattle.bound_words.specs.declared.plans.BoundSettings.{BoundSettings}
use Rattle.bound_words.specs.declared.plans.DrawSettings.{DrawSettings}
use Rattle.bound_words.specs.declared.plans.JudgeSettings.{JudgeSettings}
use Rattle.bound_words.specs.declared.plans.ReplaySettings.{ReplaySettings}
use Rattle.bound_words.specs.declared.plans.SweepSettings.{SweepSettings}
use Rattle.bound_words.specs.declared.plans.Plan.{Plan}
use Rattle.bound_words.specs.declared.words.WordFault.{WordFault}
use Rattle.bound_run.specs.declared.status.Status.{Status}
use Rattle.bound_run.specs.declared.status.Status.TheVariants.{Done, Invalid, Words, BadLine, Limit, NoMemory, PolicyMemory, Unequal, NotFlag, FlagCount, Impossible}
use Rattle.bound_run.specs.Demos.{IsDemoText, trace_drawn}
use Rattle.bound_run.specs.Refusals.{RefusesDemo, RefusesBounds, RefusesCheck, RefusesCurve, RefusesJudge, RefusesLoading, RefusesUpgrade}
use Rattle.bound_run.specs.BoundsMade.{RefusesDenominator}
use Rattle.bound_run.specs.Judgements.{ArePossible, IsJudged}
use Rattle.bound_run.specs.Readings.{HasDenominator, IsCertified, IsGoodTrace, IsReady, IsReplayed, IsCurved, IsCapacityCurved, IsVerdictText}
use Rattle.bound_run.specs.Refined.{IsRefined}
use Rattle.policy_model.specs.declared.names.PolicyName.{PolicyName}
use Rattle.policy_stream.specs.Streams as streams
use Rattle.bound_run.specs.Sweeps.{IsGoodPass, IsSweepText, RefusesSweep, names_of}
use Rattle.bound_run.specs.Upgrades.{IsGoodCertificate, IsUpgraded}
use Rattle.ttl_runs.specs.Bounds.{IsReadyWithTtl}
use Rattle.bound_run.specs.Statuses.{Ending, done, refused, unreported, ending_of}
use Rattle.bound_words.specs.declared.plans.Settings.{Settings}
use Rattle.bound_words.specs.declared.plans.Settings.TheVariants.{Bounds, TtlBounds, Check, Replay, Curve, CapacityCurve, Sweep, Judge, Demo, Upgrade, Refine}
use Rattle.bound_words.specs.Capacities.{capacities_in}
use Rattle.bound_words.specs.Plans.{settings_of}

-- what is seen of the four devices of a run
pub record Devices : Type 0 where
  pub trace : Device
  pub beside : Device
  pub report : Device
  pub made : Device

-- the four devices, by name
abbrev pub devices : Device → Device → Device → Device → Devices
devices trace beside report made = record { trace = trace; beside = beside; report = report; made = made }

-- how a run ends that makes a certificate, and what the sinks got then: for which certificate and report it writes, and for which refusals it writes none
abbrev pub MakesEnd : (List ℕ → List ℕ → Type 0) → (Refusal → Type 0) → Device → Device → Ending → Type 0
MakesEnd AreReady Refuses report made done = (cert : List ℕ) × (text : List ℕ) × AreReady cert text × GetsAll made cert × GetsAll report text
MakesEnd AreReady Refuses report made unreported = (cert : List ℕ) × (text : List ℕ) × AreReady cert text × GetsAll made cert × GetsLess report text
MakesEnd AreReady Refuses report made (refused MadeFault) =
    (cert : List ℕ) × (text : List ℕ) × AreReady cert text × GetsLess made cert × Gets report (refusal_line MadeFault)
MakesEnd AreReady Refuses report made (refused r) = Refuses r × Gets report (refusal_line r) × IsUntouched made

-- how bounds end, and what the sinks got then
abbrev pub BoundsEnd : Format → BoundSettings → Device → Device → Device → Ending → Type 0
BoundsEnd format asked source report made ending = MakesEnd (IsReady format asked source) (RefusesBounds format asked source) report made ending

-- how bounds with a time to live end, and what the sinks got then
abbrev pub TtlBoundsEnd : Format → ℕ → BoundSettings → Device → Device → Device → Ending → Type 0
TtlBoundsEnd format ttl asked source report made ending = MakesEnd (IsReadyWithTtl format ttl asked source) (RefusesBounds format asked source) report made ending

-- how an upgrade ends, and what the sinks got then
abbrev pub UpgradeEnds : Device → Device → Device → Ending → Type 0
UpgradeEnds source report made ending = MakesEnd (IsUpgraded source) (RefusesUpgrade source) report made ending

-- how a refinement ends, and what the sinks got then
abbrev pub RefineEnds : Format → ℕ → Device → Device → Device → Device → Ending → Type 0
RefineEnds format width source cert report made ending =
    MakesEnd (IsRefined format width source cert) (RefusesCheck format source cert) report made ending

-- how a run ends that writes a report alone, and what the report got then: which texts it may be, and which refusals are written in its place
abbrev pub ReportsEnd : (List ℕ → Type 0) → (Refusal → Type 0) → Device → Ending → Type 0
ReportsEnd IsText Refuses report done = (text : List ℕ) × IsText text × GetsAll report text
ReportsEnd IsText Refuses report unreported = (text : List ℕ) × IsText text × GetsLess report text
ReportsEnd IsText Refuses report (refused why) = Refuses why × Gets report (refusal_line why)

-- how a check ends, and what the report got then
abbrev pub CheckEnds : Format → Device → Device → Device → Ending → Type 0
CheckEnds format source cert report ending = ReportsEnd (IsVerdictText format source cert) (RefusesCheck format source cert) report ending

-- how a replay ends, and what the report got then
abbrev pub ReplayEnds : Format → ReplaySettings → Device → Device → Ending → Type 0
ReplayEnds format r source report ending = ReportsEnd (IsReplayed format r source) (RefusesLoading format source) report ending

-- how a curve ends, and what the report got then
abbrev pub CurveEnds : Format → Device → Device → Ending → Type 0
CurveEnds format source report ending = ReportsEnd (IsCurved format source) (RefusesCurve format source) report ending

-- how a curve over capacities ends, and what the report got then
abbrev pub CapacityCurveEnds : Format → CurveTerms → List ℕ → Device → Device → Ending → Type 0
CapacityCurveEnds format asked capacities source report ending =
    ReportsEnd (IsCapacityCurved format asked capacities source) (RefusesLoading format source) report ending

-- how a sweep ends, and what the report got then
abbrev pub SweepEnds : Format → SweepSettings → List ℕ → List PolicyName → Device → Device → Ending → Type 0
SweepEnds format asked capacities policies source report ending = ReportsEnd (IsSweepText format asked capacities policies source) (RefusesSweep format (streams.settings_of policies capacities) source) report ending

-- how a judgement ends, and what the report got then
abbrev pub JudgeEnds : Format → JudgeSettings → Device → Device → Device → Ending → Type 0
JudgeEnds format asked source hits report ending = ReportsEnd (IsJudged format asked source hits) (RefusesJudge format asked source hits) report ending

-- how a demo ends, and what the report got then
abbrev pub DemoEnds : DrawSettings → BoundSettings → Device → Ending → Type 0
DemoEnds drawing asked report ending = ReportsEnd (IsDemoText drawing asked) (RefusesDemo drawing asked) report ending

-- the source has lost no more than a prefix
abbrev pub IsReadFrom : Device → Type 0
IsReadFrom source = LosesPrefix source.before source.after

-- how a command ends: what it doesn't need is left alone, and what it reads loses no more than a prefix
abbrev pub CommandEnds : Settings → Devices → Ending → Type 0
CommandEnds (Bounds format asked) d ending = BoundsEnd format asked d.trace d.report d.made ending × IsReadFrom d.trace × IsUntouched d.beside
CommandEnds (TtlBounds format ttl asked) d ending = TtlBoundsEnd format ttl asked d.trace d.report d.made ending × IsReadFrom d.trace × IsUntouched d.beside
CommandEnds (Check format) d ending = CheckEnds format d.trace d.beside d.report ending × IsReadFrom d.trace × IsReadFrom d.beside × IsUntouched d.made
CommandEnds (Replay format r) d ending = ReplayEnds format r d.trace d.report ending × IsReadFrom d.trace × IsUntouched d.beside × IsUntouched d.made
CommandEnds (Curve format) d ending = CurveEnds format d.trace d.report ending × IsReadFrom d.trace × IsUntouched d.beside × IsUntouched d.made
CommandEnds (CapacityCurve format capacities asked) d ending =
    CapacityCurveEnds format asked (capacities_in capacities) d.trace d.report ending × IsReadFrom d.trace × IsUntouched d.beside × IsUntouched d.made
CommandEnds (Sweep format capacities policies asked) d ending =
    SweepEnds format asked (capacities_in capacities) (names_of policies) d.trace d.report ending × IsReadFrom d.trace × IsUntouched d.beside × IsUntouched d.made
CommandEnds (Judge format asked) d ending = JudgeEnds format asked d.trace d.beside d.report ending × IsReadFrom d.trace × IsReadFrom d.beside × IsUntouched d.made
CommandEnds (Demo drawing asked) d ending = DemoEnds drawing asked d.report ending × IsUntouched d.trace × IsUntouched d.beside × IsUntouched d.made
CommandEnds Upgrade d ending = UpgradeEnds d.beside d.report d.made ending × IsReadFrom d.beside × IsUntouched d.trace
CommandEnds (Refine format width) d ending = RefineEnds format width d.trace d.beside d.report d.made ending × IsReadFrom d.trace × IsReadFrom d.beside

-- how a run ends: the command of its plan does, or its words are refused and all but the report is left alone
abbrev pub RunEnds : Result Plan WordFault → Devices → Status → Type 0
RunEnds (Ok plan) d status = CommandEnds (settings_of plan) d (ending_of status)
RunEnds (Err fault) d status =
    (status ≡ Words fault) × Gets d.report (refusal_line (refusal.Words fault.place fault.kind))
    × IsUntouched d.trace × IsUntouched d.beside × IsUntouched d.made

-- no call of a device failed
pub record NoneFails (d : Devices) : Type 0 where
  pub trace : ¬ (HasFailed d.trace)
  pub beside : ¬ (HasFailed d.beside)
  pub report : ¬ (HasFailed d.report)
  pub made : ¬ (HasFailed d.made)

-- the count of faults of each device is as it was
pub record IsCalm (d : Devices) : Type 0 where
  pub trace : d.trace.faults_after ≡ d.trace.faults_before
  pub beside : d.beside.faults_after ≡ d.beside.faults_before
  pub report : d.report.faults_after ≡ d.report.faults_before
  pub made : d.made.faults_after ≡ d.made.faults_before

-- the inputs are known, and nothing of them is refused before the certificate is looked at
abbrev pub AreGoodInputs : Settings → Devices → Type 0
AreGoodInputs (Bounds format asked) d = IsGoodTrace format d.trace.before × HasDenominator format asked d.trace.before
AreGoodInputs (TtlBounds format ttl asked) d = IsGoodTrace format d.trace.before × HasDenominator format asked d.trace.before
AreGoodInputs (Check format) d = IsGoodTrace format d.trace.before × IsSome d.beside.before
AreGoodInputs (Replay format r) d = IsGoodTrace format d.trace.before
AreGoodInputs (Curve format) d = IsGoodTrace format d.trace.before
AreGoodInputs (CapacityCurve format capacities asked) d = IsGoodTrace format d.trace.before
AreGoodInputs (Sweep format capacities policies asked) d = IsGoodPass format (streams.settings_of (names_of policies) (capacities_in capacities)) d.trace.before
AreGoodInputs (Judge format asked) d = IsSome d.trace.before × IsSome d.beside.before
AreGoodInputs (Demo drawing asked) d = ¬ (RefusesDenominator asked (trace_drawn drawing))
AreGoodInputs Upgrade d = IsGoodCertificate d.beside.before
AreGoodInputs (Refine format width) d = IsGoodTrace format d.trace.before × IsSome d.beside.before

-- what a check or a refinement answers of good inputs: Done of a valid certificate, and Invalid of every other
abbrev pub AnswersOf : Format → Option (List ℕ) → Option (List ℕ) → Status → Type 0
AnswersOf format (Some bytes) (Some text) Done = IsCertified format bytes text
AnswersOf format (Some bytes) (Some text) (Invalid line kind) = ¬ (IsCertified format bytes text)
AnswersOf format before cert NoMemory = Unit {0}
AnswersOf format before cert status = ⊥

-- what a curve answers of a trace: Done if its objects have one size, and Unequal if two of them clash
abbrev pub AnswersCurve : List Object → Status → Type 0
AnswersCurve trace Done = HaveSize (first_size trace) trace
AnswersCurve trace (Unequal first other) = IsClash trace first other
AnswersCurve trace NoMemory = Unit {0}
AnswersCurve trace status = ⊥

-- what a curve answers of bytes that are known
abbrev pub AnswersCurveOf : Format → Option (List ℕ) → Status → Type 0
AnswersCurveOf format (Some bytes) status = AnswersCurve (reading format full_limits bytes).requests status
AnswersCurveOf format None status = ⊥

-- what a judgement answers of bytes that are known: Done if they are a trace and flags of possible hits, and else a refusal of either
abbrev pub AnswersJudge : Format → JudgeSettings → Option (List ℕ) → Option (List ℕ) → Status → Type 0
AnswersJudge format asked (Some bytes) (Some text) Done = ArePossible format asked bytes text
AnswersJudge format asked (Some bytes) (Some text) (BadLine line kind) = ¬ (ArePossible format asked bytes text)
AnswersJudge format asked (Some bytes) (Some text) (Limit name) = ¬ (ArePossible format asked bytes text)
AnswersJudge format asked (Some bytes) (Some text) (NotFlag line) = ¬ (ArePossible format asked bytes text)
AnswersJudge format asked (Some bytes) (Some text) (FlagCount flags requests) = ¬ (ArePossible format asked bytes text)
AnswersJudge format asked (Some bytes) (Some text) (Impossible cause capacity) = ¬ (ArePossible format asked bytes text)
AnswersJudge format asked before hits NoMemory = Unit {0}
AnswersJudge format asked before hits status = ⊥

-- what a sweep answers: Done, unless memory ran out for a policy or beside them
abbrev pub AnswersSweep : Status → Type 0
AnswersSweep Done = Unit {0}
AnswersSweep NoMemory = Unit {0}
AnswersSweep (PolicyMemory policy capacity) = Unit {0}
AnswersSweep status = ⊥

-- what is answered of good inputs, unless memory ran out
abbrev pub Answers : Settings → Devices → Status → Type 0
Answers (Bounds format asked) d status = (status ≡ Done) ⊎ (status ≡ NoMemory)
Answers (TtlBounds format ttl asked) d status = (status ≡ Done) ⊎ (status ≡ NoMemory)
Answers (Check format) d status = AnswersOf format d.trace.before d.beside.before status
Answers (Replay format r) d status = (status ≡ Done) ⊎ (status ≡ NoMemory)
Answers (Curve format) d status = AnswersCurveOf format d.trace.before status
Answers (CapacityCurve format capacities asked) d status = (status ≡ Done) ⊎ (status ≡ NoMemory)
Answers (Sweep format capacities policies asked) d status = AnswersSweep status
Answers (Judge format asked) d status = AnswersJudge format asked d.trace.before d.beside.before status
Answers (Demo drawing asked) d status = (status ≡ Done) ⊎ (status ≡ NoMemory)
Answers Upgrade d status = (status ≡ Done) ⊎ (status ≡ NoMemory)
Answers (Refine format width) d status = AnswersOf format d.trace.before d.beside.before status

-- good words, good inputs and no fault lead to the answer
abbrev pub Completes : Result Plan WordFault → Devices → Status → Type 0
Completes (Ok plan) d status = AreGoodInputs (settings_of plan) d → NoneFails d → Answers (settings_of plan) d status
Completes (Err fault) d status = Unit {0}

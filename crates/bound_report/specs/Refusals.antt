-- The line that says why a run stopped.
use Rattle.std.specs.Prelude.{ℕ, List, ◌++◌, codes, decimal, max}
use Rattle.cache_model.specs.Texts.{entry}
use Rattle.cert_checker.specs.declared.invalid.InvalidKind.{InvalidKind}
use Rattle.cert_checker.specs.declared.invalid.InvalidKind.TheVariants as invalid
use Rattle.hit_judge.specs.declared.causes.Impossible.{Impossible}
use Rattle.hit_judge.specs.declared.causes.Impossible.TheVariants.{First, Size, Stale, Age, Load}
use Rattle.trace_lines.specs.declared.line.LineKind.{LineKind}
use Rattle.trace_lines.specs.declared.line.LineKind.TheVariants.{TooFewWords, BadNumber, SizeTooLarge, BadRange, BadType, QuoteByte, TooLong, PartRecord}
use Rattle.bound_report.specs.declared.refusal.LimitName.{LimitName}
use Rattle.bound_report.specs.declared.refusal.LimitName.TheVariants.{Requests, TraceBytes, PassRequests, PassBytes, PassObjects, Denominator}
use Rattle.bound_terms.specs.declared.words.WordKind.{WordKind}
use Rattle.bound_terms.specs.declared.words.WordKind.TheVariants.{Missing, Unknown, Twice, BadValue}
use Rattle.bound_report.specs.declared.refusal.Refusal.{Refusal}
use Rattle.bound_report.specs.declared.refusal.Refusal.TheVariants.{Invalid, NotFlag, FlagCount, Impossible as ImpossibleHits, Words, BadLine, Limit, Unequal, TraceFault, CertFault, MadeFault, PolicyMemory, NoMemory}

-- why a word is refused, and the end of the line
abbrev pub word_kind_text : WordKind → List ℕ
word_kind_text Missing = codes "missing\n"
word_kind_text Unknown = codes "unknown\n"
word_kind_text Twice = codes "twice\n"
word_kind_text BadValue = codes "bad value\n"

-- why a line is refused, and the end of the line
abbrev pub line_kind_text : LineKind → List ℕ
line_kind_text TooFewWords = codes "too few words\n"
line_kind_text (BadNumber word) = codes "number in word " ++ decimal word ++ codes "\n"
line_kind_text SizeTooLarge = codes "size too large\n"
line_kind_text BadRange = codes "block range\n"
line_kind_text BadType = codes "type\n"
line_kind_text QuoteByte = codes "quote\n"
line_kind_text TooLong = codes "line too long\n"
line_kind_text (PartRecord bytes) = codes "part record " ++ decimal bytes ++ codes "\n"

-- the limit that was passed, its number, and the end of the line
abbrev pub limit_text : LimitName → List ℕ
limit_text Requests = codes "requests 33554432\n"
limit_text TraceBytes = codes "trace bytes 68719476736\n"
limit_text PassRequests = codes "requests 4294967295\n"
limit_text PassBytes = codes "trace bytes 17592186044416\n"
limit_text PassObjects = codes "objects 2147483648\n"
limit_text Denominator = codes "denominator 281474976710656\n"

-- why a certificate isn't valid
abbrev pub invalid_kind_text : InvalidKind → List ℕ
invalid_kind_text invalid.Shape = codes "shape"
invalid_kind_text invalid.Number = codes "number"
invalid_kind_text invalid.Range = codes "range"
invalid_kind_text invalid.TooLong = codes "line too long"
invalid_kind_text invalid.Truncated = codes "truncated"
invalid_kind_text invalid.Trailing = codes "trailing"
invalid_kind_text (invalid.RequestCount written read) = entry (entry (codes "request count") written) read
invalid_kind_text invalid.SumLimit = codes "sum limit"
invalid_kind_text (invalid.LastPrice price) = entry (codes "last price") price
invalid_kind_text (invalid.UnitNotDivisor unit size) = entry (entry (codes "unit") unit ++ codes " size") size
invalid_kind_text (invalid.NotDivisible weight) = entry (codes "not divisible") weight
invalid_kind_text (invalid.Overfull load capacity) = entry (entry (codes "overfull") load) capacity
invalid_kind_text (invalid.FlowAboveWeight flow weight) = entry (entry (codes "flow above weight") flow) weight
invalid_kind_text (invalid.FlowOverfull load units) = entry (entry (codes "flow overfull") load) units
invalid_kind_text (invalid.Unused number) = entry (codes "unused flow") number
invalid_kind_text (invalid.UpperDiffers written counted) = entry (entry (codes "upper differs") written) counted
invalid_kind_text (invalid.FlowDiffers written counted) = entry (entry (codes "flow differs") written) counted
invalid_kind_text (invalid.LowerDiffers written counted) = entry (entry (codes "lower differs") written) counted
invalid_kind_text (invalid.ExactGap upper flow) = entry (entry (codes "exact gap") upper) flow

-- why flagged requests are no possible hits at a capacity, and the end of the line
abbrev pub impossible_text : Impossible → ℕ → List ℕ
impossible_text (First request) capacity = entry (codes "request") request ++ codes ": first of its object\n"
impossible_text (Size request size) capacity = entry (entry (entry (codes "request") request ++ codes ": size") size ++ codes " above") capacity ++ codes "\n"
impossible_text (Stale request) capacity = entry (codes "request") request ++ codes ": stale\n"
impossible_text (Age request age ttl) capacity = entry (entry (entry (codes "request") request ++ codes ": age") age ++ codes " above") ttl ++ codes "\n"
impossible_text (Load step load) capacity = entry (entry (entry (codes "step") step ++ codes ": load") load ++ codes " above") capacity ++ codes "\n"

-- the line that says why a run stopped; of flags that are too few or too many it names the first line that is missing or too many
abbrev pub refusal_line : Refusal → List ℕ
refusal_line (Invalid line kind) = codes "invalid line " ++ decimal line ++ codes ": " ++ invalid_kind_text kind ++ codes "\n"
refusal_line (NotFlag line) = entry (codes "invalid line") line ++ codes ": flag\n"
refusal_line (FlagCount flags requests) = entry (codes "invalid line") (max flags requests) ++ entry (entry (codes ": request count") flags) requests ++ codes "\n"
refusal_line (ImpossibleHits cause capacity) = codes "impossible " ++ impossible_text cause capacity
refusal_line (Words place kind) = codes "words: place " ++ decimal place ++ codes ": " ++ word_kind_text kind
refusal_line (BadLine line kind) = codes "bad line " ++ decimal line ++ codes ": " ++ line_kind_text kind
refusal_line (Limit name) = codes "limit: " ++ limit_text name
refusal_line (Unequal first other) = entry (entry (codes "unequal sizes") first) other ++ codes "\n"
refusal_line TraceFault = codes "trace fault\n"
refusal_line CertFault = codes "certificate fault\n"
refusal_line MadeFault = codes "made fault\n"
refusal_line (PolicyMemory policy capacity) = codes "no memory\n"
refusal_line NoMemory = codes "no memory\n"

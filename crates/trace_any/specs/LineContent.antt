-- What the code holds of a line, as what the line asks for.
use Rattle.std.specs.Prelude.{ℕ, List, None, Some, Result, Ok, Err}
use Rattle.std.specs.declared.option.Option.{Option}
use Rattle.std.specs.Borrow.{Bor}
use Rattle.trace_lines.specs.declared.line.LineKind.{LineKind}
use Rattle.trace_any.specs.declared.content.LineContent.{LineContent}
use Rattle.trace_any.specs.Volumes.{Volume}
use Rattle.trace_any.specs.Readings.{LineContents}

-- the volume of a host and a disk
abbrev pub volume_of : Option (Bor (List ℕ) × ℕ) → Option Volume
volume_of None = None
volume_of (Some (host, disk)) = Some (record { host = host.now; disk = disk })

-- what is wanted
abbrev pub content_by : LineContent → LineContents
content_by content = record { span = content.span; volume = volume_of content.volume; stamp = record { time = content.time; fills = content.fills } }

-- what is wanted, or why it is refused
abbrev pub named_of : Result LineContent LineKind → Result LineContents LineKind
named_of (Ok content) = Ok (content_by content)
named_of (Err kind) = Err kind

-- what is wanted, if anything, or why it is refused
abbrev pub answer_of : Result (Option LineContent) LineKind → Result (Option LineContents) LineKind
answer_of (Ok None) = Ok None
answer_of (Ok (Some content)) = Ok (Some (content_by content))
answer_of (Err kind) = Err kind

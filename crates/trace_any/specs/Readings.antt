-- The reading of a trace, over all its bytes at once.
use Rattle.std.specs.Prelude.{ℕ, ◌+◌, ◌-◌, ◌^◌, ◌≤◌, List, [], ◌∷◌, ◌++◌, length, map, min, fold, Bool, true, false, ◌&&◌, ◌||◌, ◌⊎◌, ◌≡◌, ◌==◌, nat_lt, if◌then◌else◌, Result, Ok, Err, None, Some}
use Rattle.std.specs.declared.option.Option.{Option}
use Rattle.std.specs.Option.{is_some}
use Rattle.std.specs.Int.{div_ceil}
use Rattle.std.specs.List.{slice_split, range_with_len}
use Rattle.std.specs.Simd.{first_chunks}
use Rattle.bound_base.specs.declared.digits.NumFault.{NumFault}
use Rattle.bound_io.specs.Lines.{is_lf}
use Rattle.bound_io.specs.declared.line_reader.LineFault.{LineFault}
use Rattle.bound_io.specs.declared.line_reader.LineFault.TheVariants as line
use Rattle.cache_model.specs.declared.objects.Object.{Object}
use Rattle.cache_rules.specs.Stored.{mark_if, with_mark}
use Rattle.freshness.specs.declared.fresh.Freshness.{Freshness}
use Rattle.freshness.specs.Stale.{can_end, forever, stale_after}
use Rattle.freshness.specs.Seen.{Seen, is_stale, nothing_seen, with_seen}
use Rattle.trace_lines.specs.Lines.{without_cr, is_blank}
use Rattle.trace_lines.specs.declared.line.Span.{Span}
use Rattle.trace_lines.specs.declared.line.Span.TheVariants.{Nothing, One, Blocks}
use Rattle.trace_lines.specs.declared.line.LineKind.{LineKind}
use Rattle.trace_lines.specs.declared.line.LineKind.TheVariants.{TooFewWords, BadNumber, QuoteByte, TooLong, PartRecord}
use Rattle.trace_webcache.specs.Lines as webcache
use Rattle.trace_webcache.specs.declared.line.MarkedSpan.{MarkedSpan}
use Rattle.trace_arc.specs.Lines as arc
use Rattle.trace_msr.specs.Lines as msr
use Rattle.trace_msr.specs.Lines.{Parts}
use Rattle.trace_oracle.specs.Records.{record_span, record_time}
use Rattle.trace_any.specs.declared.fault.TraceFault.{TraceFault}
use Rattle.trace_any.specs.declared.fault.TraceFault.TheVariants.{BadLine, ReadFault, InputTooLong, TooManyRequests}
use Rattle.trace_any.specs.declared.format.Format.{Format}
use Rattle.trace_any.specs.declared.format.Layout.{Layout}
use Rattle.trace_any.specs.declared.format.Layout.TheVariants.{Webcache, MarkedWebcache, Arc, Msr, MsrReads, Oracle}
use Rattle.trace_any.specs.declared.format.Limits.{Limits}
use Rattle.trace_any.specs.Volumes.{Volume, volume_number, with_volume}

-- the most requests and bytes that this program reads
abbrev pub full_limits : Limits
full_limits = record { requests = 2 ^ 25; bytes = 2 ^ 36 }

-- the form of a layout whose objects stay fresh forever
abbrev pub lasting : Layout → Format
lasting layout = record { layout = layout; fresh = forever }

-- the form webcache, without marks, whose objects stay fresh forever
abbrev pub webcache_form : Format
webcache_form = lasting Webcache

-- a line says whether its requests only fill the cache
abbrev pub has_marks : Layout → Bool
has_marks Webcache = false
has_marks MarkedWebcache = true
has_marks Arc = false
has_marks (Msr block) = false
has_marks (MsrReads block) = true
has_marks Oracle = false

-- some requests of the form may only fill the cache: a line says whether its own do, or a request can be stale
abbrev pub is_marked : Format → Bool
is_marked format = has_marks format.layout || can_end format.fresh

-- the requests so far, the mark of each if the form has marks, which is whether it only fills the cache, what is known of their objects, the volumes named by lines that ask for one, how many lines were dropped, how many lines there were and their bytes, and why the reading stopped, if it did; a record counts as a line
pub record Reading : Type 0 where
  pub requests : List Object
  pub fills : List Bool
  pub seen : Seen
  pub volumes : List Volume
  pub dropped : ℕ
  pub lines : ℕ
  pub bytes : ℕ
  pub refused : Option TraceFault

-- before the first line
abbrev pub nothing_read : Reading
nothing_read = record { requests = []; fills = []; seen = nothing_seen; volumes = []; dropped = 0; lines = 0; bytes = 0; refused = None }

-- the reading stops
abbrev pub stopped : Reading → TraceFault → Reading
stopped r fault = record r { refused = Some fault }

-- a request for each block of a range
abbrev pub blocks : ℕ → ℕ → ℕ → ℕ → List Object
blocks volume first count size = map (λ n. record { volume = volume; id = n; size = size }) (range_with_len first count)

-- the time of a line, and whether its requests only fill the cache by their own mark
pub record Stamp : Type 0 where
  pub time : ℕ
  pub fills : Bool

-- whether a request for the object only fills the cache: by its own mark, or since it is stale
abbrev pub only_fills_at : Freshness → Seen → Stamp → Object → Bool
only_fills_at fresh seen stamp x = stamp.fills || is_stale fresh seen x stamp.time

-- the mark of a request for the object, if the form has marks
abbrev pub mark_of : Format → Seen → Stamp → Object → Option Bool
mark_of format seen stamp x = mark_if (is_marked format) (only_fills_at format.fresh seen stamp x)

-- one request more
abbrev pub with_one : Format → Stamp → Reading → Object → Reading
with_one format stamp r x = record r {
  requests = r.requests ++ x ∷ [];
  fills = with_mark r.fills (mark_of format r.seen stamp x);
  seen = with_seen format.fresh r.seen x stamp.time stamp.fills;
}

-- a range of blocks is requested; no more are taken than there is room for
abbrev pub requested : ℕ → Format → Reading → ℕ → Stamp → ℕ → ℕ → ℕ → Reading
requested most format r volume stamp first count size =
    let room = most - length r.requests in
    let taken = fold (with_one format stamp) r (blocks volume first (min count room) size) in
    if nat_lt room count then stopped taken TooManyRequests else taken

-- what a line asks for, of which volume, if its form names volumes, at which time, if times are asked for, and whether its requests only fill the cache by their own mark
pub record LineContents : Type 0 where
  pub span : Span
  pub volume : Option Volume
  pub stamp : Stamp

-- of a line whose time is not asked for
abbrev pub untimed : Bool → Stamp
untimed fills = record { time = 0; fills = fills }

-- what a line without a volume and a mark asks for
abbrev pub of_no_volume : Result Span LineKind → Result LineContents LineKind
of_no_volume (Ok span) = Ok (record { span = span; volume = None; stamp = untimed false })
of_no_volume (Err kind) = Err kind

-- what a line with a mark and without a volume asks for
abbrev pub of_marked : Result MarkedSpan LineKind → Result LineContents LineKind
of_marked (Ok read) = Ok (record { span = read.span; volume = None; stamp = untimed read.fills })
of_marked (Err kind) = Err kind

-- what a line of a form with volumes asks for, with its mark, if marks are looked at
abbrev pub of_volume : Bool → Result Parts LineKind → Result LineContents LineKind
of_volume marks (Ok parts) = Ok (record { span = parts.span; volume = Some (record { host = parts.host; disk = parts.disk }); stamp = untimed (marks && parts.fills) })
of_volume marks (Err kind) = Err kind

-- what a record of a form of records asks for; a last one of fewer than 24 bytes is refused
abbrev pub whole_record : List ℕ → Result Span LineKind
whole_record bytes = if length bytes == 24 then Ok (record_span bytes) else Err (PartRecord (length bytes))

-- what a line or a record asks for, by its layout, whatever its time
abbrev pub untimed_content : Layout → List ℕ → Result LineContents LineKind
untimed_content Webcache text = of_no_volume (webcache.line_span text)
untimed_content MarkedWebcache text = of_marked (webcache.marked_span text)
untimed_content Arc text = of_no_volume (arc.line_span text)
untimed_content (Msr block) text = of_volume false (msr.line_parts block text)
untimed_content (MsrReads block) text = of_volume true (msr.line_parts block text)
untimed_content Oracle record_bytes = of_no_volume (whole_record record_bytes)

-- the time of a line or a record, by its layout, if it is a number; a line of the form arc has none, nor has a part of a record
abbrev pub time_of : Layout → List ℕ → Result ℕ NumFault
time_of Webcache text = webcache.line_time text
time_of MarkedWebcache text = webcache.line_time text
time_of Arc text = Ok 0
time_of (Msr block) text = msr.line_time text
time_of (MsrReads block) text = msr.line_time text
time_of Oracle record_bytes = Ok (if length record_bytes == 24 then record_time record_bytes else 0)

-- what is asked for at this time: a line is first refused for too few words and for a quote, then for a time that is no number, and then for all else
abbrev pub at_time : Result ℕ NumFault → Result LineContents LineKind → Result LineContents LineKind
at_time time (Err TooFewWords) = Err TooFewWords
at_time time (Err QuoteByte) = Err QuoteByte
at_time (Err fault) said = Err (BadNumber 1)
at_time (Ok time) (Err kind) = Err kind
at_time (Ok time) (Ok what) = Ok (record what { stamp = record what.stamp { time = time } })

-- what a line or a record asks for, by the form of the trace: its time is looked at only if objects expire
abbrev pub content_named : Format → List ℕ → Result LineContents LineKind
content_named format text =
    if is_some (stale_after format.fresh) then at_time (time_of format.layout text) (untimed_content format.layout text) else untimed_content format.layout text

-- what is asked for is something
abbrev pub some_content : Result LineContents LineKind → Result (Option LineContents) LineKind
some_content (Ok what) = Ok (Some what)
some_content (Err kind) = Err kind

-- a layout of records of 24 bytes, and not of lines
abbrev pub is_of_records : Layout → Bool
is_of_records Webcache = false
is_of_records MarkedWebcache = false
is_of_records Arc = false
is_of_records (Msr block) = false
is_of_records (MsrReads block) = false
is_of_records Oracle = true

-- the form is one of records of 24 bytes, and not of lines
abbrev pub has_records : Format → Bool
has_records format = is_of_records format.layout

-- what a record asks for, or the text of a line, once a CR at its end is dropped; a text without a word is skipped
abbrev pub text_content : Format → List ℕ → Result (Option LineContents) LineKind
text_content format text =
    if has_records format then some_content (content_named format text)
    else (if is_blank (without_cr text) then Ok None else some_content (content_named format (without_cr text)))

-- the number of a volume after these, if one is named, and else 0
abbrev pub number_of : List Volume → Option Volume → ℕ
number_of volumes None = 0
number_of volumes (Some v) = volume_number volumes v

-- the volumes with the one that is named, if any
abbrev pub with_named : List Volume → Option Volume → List Volume
with_named volumes None = volumes
with_named volumes (Some v) = with_volume volumes v

-- a line asks for nothing and is dropped, or for some blocks of its volume, which is numbered if it is new
abbrev pub spanned : ℕ → Format → Reading → Option Volume → Stamp → Span → Reading
spanned most format r volume stamp Nothing = record r { dropped = r.dropped + 1 }
spanned most format r volume stamp (One id size) = requested most format (record r { volumes = with_named r.volumes volume }) (number_of r.volumes volume) stamp id 1 size
spanned most format r volume stamp (Blocks first count size) = requested most format (record r { volumes = with_named r.volumes volume }) (number_of r.volumes volume) stamp first count size

-- one more line is skipped, asks for something or nothing, or is refused
abbrev pub with_line : ℕ → Format → Reading → Result (Option LineContents) LineKind → Reading
with_line most format r (Ok None) = r
with_line most format r (Ok (Some what)) = spanned most format r what.volume what.stamp what.span
with_line most format r (Err kind) = stopped r (BadLine r.lines kind)

-- one more line or record, of a text and its number of bytes, if the reading has not stopped
abbrev pub read_line : Format → Limits → Reading → List ℕ × ℕ → Reading
read_line format limits r (text, size) =
    let now : Reading = record r { lines = r.lines + 1; bytes = r.bytes + size } in
    if is_some r.refused then r
    else (if nat_lt 65535 (length text) then stopped now (BadLine now.lines TooLong)
    else (if nat_lt limits.bytes now.bytes then stopped now InputTooLong
    else with_line limits.requests format now (text_content format text)))

-- the texts between the LFs, each with the bytes of its line; what stands after the last LF is a line if it isn't empty
abbrev pub ended : List (List ℕ) → List (List ℕ × ℕ)
ended [] = []
ended (rest ∷ []) = if length rest == 0 then [] else (rest, length rest) ∷ []
ended (text ∷ next ∷ more) = (text, length text + 1) ∷ ended (next ∷ more)

-- the lines of some bytes
abbrev pub lines_of : List ℕ → List (List ℕ × ℕ)
lines_of bytes = ended (slice_split is_lf bytes)

-- the records of some bytes: each of 24, and a last one of what is left, if anything is
abbrev pub records_of : List ℕ → List (List ℕ × ℕ)
records_of bytes = map (λ piece. (piece, length piece)) (first_chunks 24 (div_ceil (length bytes) 24) bytes)

-- how the bytes of a trace are cut: into records or into lines, by its form
abbrev pub pieces_of : Format → List ℕ → List (List ℕ × ℕ)
pieces_of format bytes = if has_records format then records_of bytes else lines_of bytes

-- the reading goes on with these bytes
abbrev pub read_on : Format → Limits → Reading → List ℕ → Reading
read_on format limits r bytes = fold (read_line format limits) r (pieces_of format bytes)

-- the reading of all the bytes of a trace
abbrev pub reading : Format → Limits → List ℕ → Reading
reading format limits bytes = read_on format limits nothing_read bytes

-- the fault of a trace that a fault of its lines is
abbrev pub fault_of : LineFault → TraceFault
fault_of line.ReadFault = ReadFault
fault_of (line.LineTooLong n) = BadLine n TooLong
fault_of line.InputTooLong = InputTooLong

-- each line of the layout names a volume
abbrev pub HasVolumes : Layout → Type 0
HasVolumes Webcache = ⊥
HasVolumes MarkedWebcache = ⊥
HasVolumes Arc = ⊥
HasVolumes (Msr block) = Unit {0}
HasVolumes (MsrReads block) = Unit {0}
HasVolumes Oracle = ⊥

-- each line of the form names a volume
abbrev pub NamesVolumes : Format → Type 0
NamesVolumes format = HasVolumes format.layout

-- a reading of the form takes memory beside its buffer: for volumes, or for what is known of objects
abbrev pub TakesMemory : Format → Type 0
TakesMemory format = NamesVolumes format ⊎ (can_end format.fresh ≡ true)

-- the blocks of a layout have from 1 to 2^48 bytes
abbrev pub IsLayout : Layout → Type 0
IsLayout Webcache = Unit {0}
IsLayout MarkedWebcache = Unit {0}
IsLayout Arc = Unit {0}
IsLayout (Msr block) = (1 ≤ block) × (block ≤ 2 ^ 48)
IsLayout (MsrReads block) = (1 ≤ block) × (block ≤ 2 ^ 48)
IsLayout Oracle = Unit {0}

-- the blocks of a form have from 1 to 2^48 bytes
abbrev pub IsFormat : Format → Type 0
IsFormat format = IsLayout format.layout

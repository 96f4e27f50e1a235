-- The lines of a trace that a form refuses, and the last bytes that were read of it.
use Rattle.std.specs.Prelude.{◌≡◌, ◌≤◌, ◌⊎◌, ℕ, List, ◌++◌, drop, length, Bool, true, false, not, ◌==◌, ◌&&◌, ◌||◌, if◌then◌else◌, None, Some}
use Rattle.std.specs.declared.option.Option.{Option}
use Rattle.std.specs.Option.{is_some}
use Rattle.std.specs.Result.{is_err}
use Rattle.std.specs.List.{slice_split}
use Rattle.freshness.specs.Stale.{stale_after}
use Rattle.trace_any.specs.declared.format.Format.{Format}
use Rattle.trace_any.specs.declared.format.Layout.{Layout}
use Rattle.trace_any.specs.declared.format.Layout.TheVariants as form
use Rattle.trace_lines.specs.Lines.{EndsIn, is_blank, without_cr}
use Rattle.trace_arc.specs.Lines as arc
use Rattle.trace_msr.specs.Lines as msr
use Rattle.trace_webcache.specs.Lines as webcache

-- whether a text is no line of a layout of lines; whether it is one of msr is the same for each block
abbrev pub is_no_line_in : Layout → List ℕ → Bool
is_no_line_in form.Webcache text = is_err (webcache.line_span text)
is_no_line_in form.MarkedWebcache text = is_err (webcache.marked_span text)
is_no_line_in form.Arc text = is_err (arc.line_span text)
is_no_line_in (form.Msr block) text = is_err (msr.line_parts 4096 text)
is_no_line_in (form.MsrReads block) text = is_err (msr.line_parts 4096 text)
is_no_line_in form.Oracle text = false

-- whether the time of a line is no number
abbrev pub has_no_time : Layout → List ℕ → Bool
has_no_time form.Webcache text = is_err (webcache.line_time text)
has_no_time form.MarkedWebcache text = is_err (webcache.line_time text)
has_no_time form.Arc text = false
has_no_time (form.Msr block) text = is_err (msr.line_time text)
has_no_time (form.MsrReads block) text = is_err (msr.line_time text)
has_no_time form.Oracle text = false

-- whether a text is no line of a form, if one is known, in which a time is looked at only if objects expire
abbrev pub is_no_line : Option Format → List ℕ → Bool
is_no_line (Some format) text = is_no_line_in format.layout text || (is_some (stale_after format.fresh) && has_no_time format.layout text)
is_no_line None text = false

-- whether a form refuses a line: one that is not blank, and none of the form without a last CR
abbrev pub is_refused : Option Format → List ℕ → Bool
is_refused format line = not (is_blank (without_cr line)) && is_no_line format (without_cr line)

-- the lines of the last bytes of a trace; if these are not all, the first is left out, since it may be cut
abbrev pub whole_lines : Bool → List ℕ → List (List ℕ)
whole_lines are_all bytes = drop (if are_all then 0 else 1) (slice_split (λ byte. byte == 10) bytes)

-- of the bytes that were kept and those of a piece the last are kept, all of them or 128 KiB at least; and they are all that were read only if none was left out
pub record KeepsLast (old new piece : List ℕ) (were_all are_all : Bool) : Type 0 where
  pub last : EndsIn (old ++ piece) new
  pub enough : (new ≡ old ++ piece) ⊎ (131072 ≤ length new)
  pub all : are_all ≡ true → (were_all ≡ true) × (new ≡ old ++ piece)

-- What a source has lost of a trace that is refused.
use Rattle.std.proofs.Common.{◌≡◌, ℕ, ◌-◌, ◌≤◌, ◌<◌, ◌∙◌, sym, refl, ap, subst, List, [], ◌++◌, length, length-append, length-drop, drop, inl, inr, ◌⊎◌, arith, Option, Some, None, Result, Ok, Err, IfSome}
use Rattle.std.specs.Option.{is_some, unwrap_or}
use Rattle.std.specs.Result.{IfErr}
use Rattle.std.proofs.lemmas.Bool.{cases_lt, false≢true}
use Rattle.bound_io.specs.Devices.{Device}
use Rattle.trace_any.specs.declared.fault.TraceFault.{TraceFault}
use Rattle.trace_any.specs.declared.fault.TraceFault.TheVariants.{BadLine, ReadFault, InputTooLong, TooManyRequests, NoMemory}
use Rattle.trace_any.specs.declared.format.Format.{Format}
use Rattle.trace_any.specs.declared.format.Limits.{Limits}
use Rattle.trace_any.specs.Readings.{Reading}
use Rattle.trace_any.specs.Readers.{Reader, fresh, known}
use Rattle.trace_any.specs.FirstLines.{HasLostLines, HasLostThrough, HasLostTo, IsNotPast, StandsAfter, StopsNoFurther, bytes_of, coming_in, first_lines, lines_between, reading_of_first}
use Rattle.trace_any.proofs.Through.{bytes_of-more, fresh_coming}

-- a reader without held bytes stands in what its source has left
known-none : (format : Format) (limits : Limits) (left : Option (List ℕ)) → known (fresh format limits) left ≡ left
known-none format limits None = refl
known-none format limits (Some bytes) = refl

-- what holds of the bytes that a reader stands in that has read nothing holds of those that its source has left
pub at_start : (format : Format) (limits : Limits) (start : Reader) (before : Option (List ℕ)) (P : List ℕ → Type 0) → start ≡ fresh format limits → IfSome (known start before) P → IfSome before P
at_start format limits start before P begins holds = subst (λ (o : Option (List ℕ)). IfSome o P) (ap (λ (r : Reader). known r before) begins ∙ known-none format limits before) holds

module _ (format : Format) (limits : Limits) (start now : Reader) (begins : start ≡ fresh format limits) (held : length now.lines.held ≤ 65536) (bytes left : List ℕ) (stands : StandsAfter start now bytes (known now (Some left))) where
  -- no more than the lines that were given is lost, and what is held
  lost_lines : (lines : ℕ) → lines_between start now ≤ lines → HasLostLines format lines bytes left
  lost_lines lines few =
      let none : start.lines.consumed ≡ 0 = ap (λ (r : Reader). r.lines.consumed) begins in
      let rest : now.lines.held ++ left ≡ drop (now.lines.consumed - start.lines.consumed) bytes = ap (λ o. unwrap_or o []) stands.rest in
      let form : first_lines start.format lines bytes ≡ first_lines format lines bytes = ap (λ (r : Reader). first_lines r.format lines bytes) begins in
      omega (arith, held, none, stands.consumed, bytes_of-more start.format (lines_between start now) lines bytes few, ap bytes_of form, ap length rest, length-append now.lines.held left, length-drop (now.lines.consumed - start.lines.consumed) bytes)

  -- lines that are refused are no fewer than those that were given
  few_given : (fault : TraceFault) (lines : ℕ) → (reading_of_first format limits lines bytes).refused ≡ Some fault → lines_between start now ≤ lines
  few_given fault lines refused = by (cases_lt lines (lines_between start now))
    where
      coming : coming_in start (first_lines start.format lines bytes) ≡ reading_of_first format limits lines bytes
      coming = ap (λ (r : Reader). coming_in r (first_lines r.format lines bytes)) begins ∙ fresh_coming format limits lines bytes

      by : lines < lines_between start now ⊎ lines_between start now ≤ lines → lines_between start now ≤ lines
      by (inr more) = more
      by (inl fewer) = absurd (false≢true (ap is_some (sym (stands.none_refused lines fewer) ∙ (ap (λ (s : Reading). s.refused) coming ∙ refused))))

  lost_to : (fault : TraceFault) → IsNotPast now fault → HasLostTo format limits fault bytes left
  lost_to (BadLine line kind) not_past = lost_lines line (omega (arith, not_past))
  lost_to ReadFault not_past = λ lines refused. lost_lines lines (few_given ReadFault lines refused)
  lost_to InputTooLong not_past = λ lines refused. lost_lines lines (few_given InputTooLong lines refused)
  lost_to TooManyRequests not_past = λ lines refused. lost_lines lines (few_given TooManyRequests lines refused)
  lost_to NoMemory not_past = λ lines refused. lost_lines lines (few_given NoMemory lines refused)

-- of a reader that had read nothing, what its source has lost at a fault, once it stands after some lines
pub lost_after : (format : Format) (limits : Limits) (start now : Reader) (fault : TraceFault) → start ≡ fresh format limits → length now.lines.held ≤ 65536 → IsNotPast now fault
    → (bytes : List ℕ) (after : Option (List ℕ)) → StandsAfter start now bytes (known now after) → IfSome after (HasLostTo format limits fault bytes)
lost_after format limits start now fault begins held not_past bytes None stands = tt
lost_after format limits start now fault begins held not_past bytes (Some left) stands = lost_to format limits start now begins held bytes left stands fault not_past

-- the same of a source
pub lost_through : (format : Format) (limits : Limits) (start now : Reader) (source : Device) (fault : TraceFault) → start ≡ fresh format limits → length now.lines.held ≤ 65536 → StopsNoFurther start now source fault → HasLostThrough format limits source fault
lost_through format limits start now source fault begins held stops =
    by source.before (at_start format limits start source.before (λ bytes. StandsAfter start now bytes (known now source.after)) begins stops.1)
  where
    by : (before : Option (List ℕ)) → IfSome before (λ bytes. StandsAfter start now bytes (known now source.after)) → IfSome before (λ bytes. IfSome source.after (HasLostTo format limits fault bytes))
    by None stands = tt
    by (Some bytes) stands = lost_after format limits start now fault begins held stops.0 bytes source.after stands

-- the same of an answer that may be a fault
pub lost_if : {A : Type 0} (result : Result A TraceFault) (start now : Reader) (source : Device) → start ≡ fresh start.format start.limits → length now.lines.held ≤ 65536
    → IfErr result (StopsNoFurther start now source) → IfErr result (HasLostThrough start.format start.limits source)
lost_if (Ok x) start now source begins held stops = tt
lost_if (Err fault) start now source begins held stops = lost_through start.format start.limits start now source fault begins held stops

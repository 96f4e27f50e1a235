-- What is left of a line whose first fields were taken.
use Rattle.std.specs.Prelude.{ℕ, List, [], None, Some}
use Rattle.std.specs.declared.option.Option.{Option}
use Rattle.std.specs.Borrow.{Bor}
use Rattle.trace_lines.specs.Lines.{fields}

-- its fields, which are none if nothing stands after a comma
abbrev pub fields_left : Option (Bor (List ℕ)) → List (List ℕ)
fields_left None = []
fields_left (Some text) = fields text.now

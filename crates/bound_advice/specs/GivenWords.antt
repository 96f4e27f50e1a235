-- The words of a command line, for advice.
use Rattle.std.specs.Prelude.{ℕ, List, [], map, string_bytes, None, Some}
use Rattle.std.specs.declared.option.Option.{Option}
use Rattle.trace_any.specs.declared.format.Format.{Format}
use Rattle.bound_words.specs.declared.commands.Command.{Command}
use Rattle.bound_words.specs.Commands.{operands_of}
use Rattle.bound_words.specs.Given.{format_given}
use Rattle.bound_advice.specs.declared.words.Words.{Words}

-- the operands of a command, and none if there is no command
abbrev pub operands_behind : Option Command → List (List ℕ) → List (List ℕ)
operands_behind None words = []
operands_behind (Some asked) words = operands_of asked words

-- the form of the trace that the words give, if they ask for a command and give one
abbrev pub form_given : Words → Option Format
form_given given = format_given (operands_behind given.command (map string_bytes given.words.now))

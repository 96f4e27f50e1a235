-- The numbers of a report, as its text has them.
use Rattle.std.specs.Prelude.{ℕ, ◌-◌, ◌^◌, ◌==◌, nat_eq, List, codes, find, slice_get, option_and_then, Result, Ok, Err, None, Some}
use Rattle.std.specs.declared.option.Option.{Option}
use Rattle.std.specs.List.{slice_split, starts_with}
use Rattle.bound_base.specs.Digits.{number_of}
use Rattle.bound_base.specs.declared.digits.NumFault.{NumFault}
use Rattle.trace_lines.specs.Lines.{words}
use Rattle.bound_report.specs.declared.numbers.Numbers.{Numbers}

-- the number that was read, if one was
abbrev pub read : Result ℕ NumFault → Option ℕ
read (Ok number) = Some number
read (Err fault) = None

-- the number that a word names, if it is one below 2^64
abbrev pub number_named : List ℕ → Option ℕ
number_named word = read (number_of (2 ^ 64) word)

-- the first line of a text that begins so
abbrev pub line_with : List ℕ → List ℕ → Option (List ℕ)
line_with text start = find (λ line. starts_with nat_eq line start) (slice_split (λ byte. byte == 10) text)

-- the number at a word, counted from 1, of the first line that begins so
abbrev pub number_at : List ℕ → List ℕ → ℕ → Option ℕ
number_at text start place =
    option_and_then (λ line. option_and_then number_named (slice_get (words line) (place - 1))) (line_with text start)

-- the numbers of a report, of those that its text has a line for
abbrev pub numbers_of : List ℕ → Numbers
numbers_of text = record {
  requests = number_at text (codes "trace requests ") 3;
  objects = number_at text (codes "trace requests ") 5;
  dropped = number_at text (codes "trace requests ") 7;
  capacity = number_at text (codes "capacity ") 2;
  idle = number_at text (codes "idle ") 2;
  ttl = number_at text (codes "ttl ") 2;
  stale = number_at text (codes "stale ") 2;
  window = number_at text (codes "mode flow window ") 4;
  denominator = number_at text (codes "unit ") 6;
  intervals = number_at text (codes "intervals ") 2;
  warmup = number_at text (codes "warmup ") 2;
}

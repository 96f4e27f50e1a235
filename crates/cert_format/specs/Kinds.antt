-- The kinds of faults that a text has.
use Rattle.bound_base.specs.declared.digits.NumFault.{NumFault}
use Rattle.bound_base.specs.declared.digits.NumFault.TheVariants.{Empty, NotDigit, TooLarge}
use Rattle.cert_format.specs.declared.fault.TextKind.{TextKind}
use Rattle.cert_format.specs.declared.fault.TextKind.TheVariants.{Number, Range}

-- what a word that writes no number of the type has wrong
abbrev pub kind_of : NumFault → TextKind
kind_of Empty = Number
kind_of (NotDigit place) = Number
kind_of TooLarge = Range

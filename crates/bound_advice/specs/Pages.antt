-- The pages that the program prints in place of a run.
use Rattle.std.specs.Prelude.{ℕ, List, ◌||◌, if◌then◌else◌, codes, None, Some}
use Rattle.std.specs.declared.option.Option.{Option}
use Rattle.std.specs.Str.{bytes_eq}
use Rattle.bound_advice.specs.declared.pages.Page.{Page}
use Rattle.bound_advice.specs.declared.pages.Page.TheVariants.{Help, Version}

-- the page that a first word asks for
abbrev pub page_named : List ℕ → Option Page
page_named word =
    if bytes_eq word (codes "help") || bytes_eq word (codes "--help") || bytes_eq word (codes "-h") then Some Help
    else (if bytes_eq word (codes "--version") then Some Version
    else None)

use Rattle.std.specs.String.{string_bytes}
use Rattle.std.proofs.Common.{rules, ◌≡◌, true, subst, sym}
use Rattle.bound_io.specs.Asides.{is_aside_name}
use Rattle.bound_io.proofs.AsidesLemmas.{is_aside_name-append}
use Rattle.bound_io.proofs.place.Place.name_aside.Goals as goal

pub returns-clause-name : goal.returns-clause-name
returns-clause-name c = search rules

pub returns-clause-is_aside_name : goal.returns-clause-is_aside_name
returns-clause-is_aside_name c =
    subst (λ name. is_aside_name name ≡ true) (sym (returns-clause-name c))
    (is_aside_name-append (string_bytes c.args.self.now.target) c.args.ending.now c.requires.listed)

-- What is left of a source that isn't read.
use Rattle.std.proofs.Common.{refl, List, ℕ, [], Option, Some, None}
use Rattle.bound_io.specs.Reading.{LosesPrefix}

pub keeps : (left : Option (List ℕ)) → LosesPrefix left left
keeps None = ([], tt)
keeps (Some bytes) = ([], refl)

use Rattle.cache_model.proofs.Keeps.{contents_of_keeps}
use Rattle.cache_model.proofs.laws.keeps_are_allowed.Goals as goal

pub returns : goal.returns
returns c = contents_of_keeps

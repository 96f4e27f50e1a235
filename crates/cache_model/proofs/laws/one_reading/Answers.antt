use Rattle.cache_model.proofs.Apart.{texts_apart}
use Rattle.cache_model.proofs.laws.one_reading.Goals as goal

pub returns : goal.returns
returns c = texts_apart

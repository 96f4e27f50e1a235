use Rattle.relaxation.proofs.prices.surplus_of.Goals as goal

pub over-requires : goal.over-requires
over-requires c = c.requires.within

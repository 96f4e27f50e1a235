use Rattle.bound_base.proofs.ratio.ceil_div.Goals as goal

pub returns : goal.returns
returns c = c.div_ceil.ensures

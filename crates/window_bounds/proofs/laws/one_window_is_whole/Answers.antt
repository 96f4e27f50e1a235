use Rattle.window_bounds.proofs.OneWindow.{window_whole}
use Rattle.window_bounds.proofs.laws.one_window_is_whole.Goals as goal

pub returns : goal.returns
returns c = window_whole

use Rattle.demo_trace.proofs.ReadBack.{written_read}
use Rattle.demo_trace.proofs.laws.written_is_read.Goals as goal

pub returns : goal.returns
returns c = written_read

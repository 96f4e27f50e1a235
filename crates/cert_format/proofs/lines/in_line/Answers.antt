use Rattle.std.proofs.Common.{refl}
use Rattle.cert_format.proofs.lines.in_line.Goals as goal

pub returns-in-Err : goal.returns-in-Err
returns-in-Err g c = rw c.in-Err.is refl

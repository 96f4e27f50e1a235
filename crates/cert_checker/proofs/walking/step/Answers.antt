use Rattle.std.proofs.Common.{refl, Ok, Err}
use Rattle.trace_any.specs.Readers.{last_fills}
use Rattle.trace_any.specs.Readings.{is_marked}
use Rattle.cert_checker.specs.declared.checker.StepFault.TheVariants.{Rule, NoMemory}
use Rattle.cert_checker.proofs.Marked.{stepped_marked}
use Rattle.cert_checker.proofs.walking.step.Goals as goal

pub returns-in-Ok : goal.returns-in-Ok
returns-in-Ok c =
    record { stepped = λ reader h given records same are stands. stepped_marked (is_marked reader.format) (last_fills reader) c.args.checker.now c.take.new.self c.args.object c.args.entry (Ok tt) h given records are stands (rw same at c.in-Ok.ensures.stepped) }

pub returns-in-Err-Rule : goal.returns-in-Err-Rule
returns-in-Err-Rule c =
    let stepped = rw (c.in-Err-Rule.field-0-is) at c.in-Err-Rule.ensures.stepped in
    record { stepped = λ reader h given records same are stands. (refl, stepped_marked (is_marked reader.format) (last_fills reader) c.args.checker.now c.take.new.self c.args.object c.args.entry (Err (Rule c.in-Err-Rule.kind)) h given records are stands (rw same at stepped)) }

pub returns-in-Err-NoMemory : goal.returns-in-Err-NoMemory
returns-in-Err-NoMemory c =
    let stepped = rw (c.in-Err-NoMemory.field-0-is) at c.in-Err-NoMemory.ensures.stepped in
    record { stepped = λ reader h given records same are stands. stepped_marked (is_marked reader.format) (last_fills reader) c.args.checker.now c.take.new.self c.args.object c.args.entry (Err NoMemory) h given records are stands (rw same at stepped) }

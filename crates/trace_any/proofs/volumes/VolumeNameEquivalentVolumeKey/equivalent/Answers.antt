use Rattle.std.proofs.Common.{◌==◌, ◌&&◌, ◌∙◌, ap}
use Rattle.std.specs.Str.{bytes_eq}
use Rattle.trace_any.proofs.volumes.VolumeNameEquivalentVolumeKey.equivalent.Goals as goal

pub returns-then-eq : goal.returns-then-eq
returns-then-eq c = ap (λ same. same && (c.args.self.now.disk == c.args.key.now.disk)) (c.if-eq.ensures ∙ ap (bytes_eq c.args.self.now.host.now) c.as_slice.ensures.value)

pub returns-else-eq : goal.returns-else-eq
returns-else-eq c = c.if-eq.false ∙ ap (λ same. same && (c.args.self.now.disk == c.args.key.now.disk)) (c.if-eq.ensures ∙ ap (bytes_eq c.args.self.now.host.now) c.as_slice.ensures.value)

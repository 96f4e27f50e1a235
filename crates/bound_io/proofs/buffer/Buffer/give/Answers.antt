use Rattle.std.proofs.Common.{◌≤◌, length, refl, arith}
use Rattle.bound_io.proofs.Texts.{shows_prefix, shows_rest}
use Rattle.bound_io.proofs.buffer.Buffer.give.Goals as goal

pub returns : goal.returns
returns c =
    let i = c.self.inside in
    let line = rw (← c.self.view_is) at c.requires.line in
    let text : c.args.text ≤ length c.args.self.now = omega (arith, c.requires.text, c.requires.line) in
    let rest = rw (c.self.view_is) at (shows_rest i.bytes.items i.start i.end c.args.line line) in
    let prefix = rw (c.self.view_is) at (shows_prefix i.bytes.items i.start i.end c.args.text (rw (← c.self.view_is) at text)) in
    ((refl, λ _. tt, rest), record { text = rw (c.deref.ensures.value) prefix; after = tt })

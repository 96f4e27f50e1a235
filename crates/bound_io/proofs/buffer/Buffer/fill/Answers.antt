use Rattle.std.proofs.lemmas.Grind.{common_steps}
use Rattle.std.proofs.Common.{◌≡◌, ◌-◌, ◌≤◌, ◌<◌, length, take, drop, arith, length-drop, length-take, sym, ap, ◌∙◌, ◌++◌}
use Rattle.std.proofs.lemmas.List.{length-take-le}
use Rattle.bound_io.proofs.Texts.{read_over}
use Rattle.bound_io.proofs.buffer.Buffer.fill.Goals as goal

pub returns-clause-bytes : goal.returns-clause-bytes
returns-clause-bytes g c =
    let end = c.move_to_front-self-inside.result in
    let bytes = c.deref_mut.result.now in
    let moved = c.move_to_front-self-inside.ensures in
    let buf = c.read.new.buf in
    let count = c.in_ok-count.count in
    let given = c.in_ok-count.ensures in
    let within : end ≤ length bytes = omega (arith, moved.count, moved.len, c.self.invariant, c.deref_mut.ensures.len) in
    let prefix : take end bytes ≡ c.args.self.now = rw (c.deref_mut.ensures.value, moved.count, moved.moved) (c.self.view_is) in
    let held : length c.args.self.now ≡ end = rw (← prefix) (length-take-le end bytes within) in
    let asked : length buf ≡ length bytes - end = omega (arith, c.read.auto.buf, length-take (length bytes - end) (drop end bytes), length-drop end bytes) in
    let room : 0 < length buf = omega (arith, asked, c.requires.room, held, moved.len, c.self.invariant, c.deref_mut.ensures.len) in
    let more = read_over c.move_to_front-self-inside.new.bytes bytes buf end count (omega (arith, c.deref_mut.ensures.len)) within asked (given.bound.0) ∙ ap (λ l. l ++ take count buf) prefix in
    ((take count buf, more, sym (given.bound.1), given.bytes.0), λ none. given.bytes.1 none room)

pub invariant_of-self : goal.invariant_of-self
invariant_of-self g c = grind (arith, common_steps)

pub invariant_of-self-2 : goal.invariant_of-self-2
invariant_of-self-2 g c = grind (arith, common_steps)

pub move_to_front-self-inside-requires-clause-end : goal.move_to_front-self-inside-requires-clause-end
move_to_front-self-inside-requires-clause-end g c = grind (arith, common_steps)

pub slice_bounds-read-end : goal.slice_bounds-read-end
slice_bounds-read-end g c = grind (arith, common_steps)

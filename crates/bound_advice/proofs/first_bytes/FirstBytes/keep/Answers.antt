use Rattle.std.proofs.Common.{◌≡◌, ◌++◌, ◌+◌, ◌-◌, drop, take, ap, ◌∙◌, arith}
use Rattle.bound_io.proofs.Texts.{kept_more}
use Rattle.bound_advice.proofs.first_bytes.FirstBytes.keep.Goals as goal

pub returns : goal.returns
returns c =
    let len = c.self.inside.len in
    let count = c.copy_start-count in
    let given = count.ensures in
    let full : len + (1024 - len) ≡ 1024 = omega (arith, c.self.invariant) in
    let more = kept_more c.self.inside.bytes count.new.room (drop (1024 - len) (drop len c.self.inside.bytes)) c.args.piece.now len count.result (1024 - len) (omega (arith, c.self.invariant, c.self.ranges)) (omega (arith, given.count, given.len)) given.copied (omega (arith, given.count, given.len, count.auto.room, c.self.invariant)) in
    rw full at more ∙ ap (λ kept. take 1024 (kept ++ c.args.piece.now)) (c.self.view_is)

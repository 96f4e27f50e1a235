use Rattle.std.proofs.Common.{arith}
use Rattle.std.proofs.lemmas.Grind.{common_steps}
use Rattle.bound_advice.proofs.RecentLemmas.{keeps_behind, keeps_piece}
use Rattle.bound_advice.proofs.recent.Recent.keep.Goals as goal

pub returns-then-piece-gt-KEPT : goal.returns-then-piece-gt-KEPT
returns-then-piece-gt-KEPT c =
    keeps_piece _ _ _ _ _ c.if-piece-gt-KEPT.true (grind (arith, common_steps)) c.append.ensures.are_all

pub returns : goal.returns
returns c =
    keeps_behind _ c.make_room.new.self.bytes.items _ _ _ c.make_room.new.self.are_all _ c.make_room.ensures.last c.append-2.ensures.bytes c.append-2.ensures.are_all

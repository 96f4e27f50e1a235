use Rattle.std.proofs.Common.{◌-◌, length}
use Rattle.replay_queues.specs.declared.hand.Hand.{Hand}
use Rattle.replay_queues.proofs.RoomLemmas.{grown-long, grown-hand, grown-cut}
use Rattle.replay_queues.proofs.hand.Hand.grow.Goals as goal

-- the hand with more places
abbrev grown : goal.After-drop-self → Hand
grown c = record { line = c.grow.new.self; next = c.next_with-next.result; table = c.in_ok-table.table }

pub returns-clause-cut : goal.returns-clause-cut
returns-clause-cut c =
    let h = c.args.self.now in
    grown-cut h c.requires.held c.args.objects (c.args.objects - length h.table) c.grow.new.self.room (grown c) c.in_ok-table.ensures (grown-long h.table c.args.objects c.requires.more) c.in_ok-grow.ensures.line c.next_with-next.ensures

pub returns-clause-held : goal.returns-clause-held
returns-clause-held c =
    let h = c.args.self.now in
    grown-hand h c.requires.held c.args.objects (c.args.objects - length h.table) c.grow.new.self.room (grown c) c.in_ok-table.ensures (grown-long h.table c.args.objects c.requires.more) c.in_ok-grow.ensures.line c.next_with-next.ensures

use Rattle.std.proofs.Common.{◌-◌, length}
use Rattle.replay_queues.proofs.RoomLemmas.{grown-long}
use Rattle.replay_queues.proofs.RoomAnswers.{grown-queues, grown-is}
use Rattle.replay_queues.proofs.three_queues.ThreeQueues.grow.Goals as goal

pub returns-clause-queues : goal.returns-clause-queues
returns-clause-queues c =
    let t = c.args.self.now in
    grown-queues t c.requires.queued c.args.objects (c.args.objects - length t.table) c.grow.new.self.room (grown-long t.table c.args.objects c.requires.more) c.grow.new.self c.in_ok-table.table c.in_ok-grow.ensures.grown c.in_ok-table.ensures

pub returns-clause-queued : goal.returns-clause-queued
returns-clause-queued c =
    let t = c.args.self.now in
    grown-is t c.requires.queued c.args.objects (c.args.objects - length t.table) c.grow.new.self.room (grown-long t.table c.args.objects c.requires.more) c.grow.new.self c.in_ok-table.table c.in_ok-grow.ensures.grown c.in_ok-table.ensures

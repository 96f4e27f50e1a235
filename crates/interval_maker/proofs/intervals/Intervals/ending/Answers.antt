use Rattle.std.proofs.Common.{◌<◌, ◌∙◌, length, ap, arith}
use Rattle.std.proofs.lemmas.List.{get_or_default}
use Rattle.interval_maker.specs.Stored.{named}
use Rattle.interval_maker.specs.Timelines.{Timeline, ending_at}
use Rattle.interval_maker.proofs.intervals.Intervals.ending.Goals as goal

pub returns : goal.returns
returns c =
    let within : c.args.step < length c.self.inside.ending.items = omega (arith, c.requires.within, ap (λ (line : Timeline). line.steps) c.self.view_is, c.self.invariant.each_end) in
    record {
      number = c.named_interval.ensures
          ∙ ap named (c.index.ensures ∙ get_or_default c.self.inside.ending.items c.args.step c.index.result.now 0 within)
          ∙ c.self.invariant.ends c.args.step within
          ∙ ap (λ (line : Timeline). ending_at line.items c.args.step) c.self.view_is;
    }

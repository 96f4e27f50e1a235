use Rattle.std.proofs.Common.{ap}
use Rattle.std.proofs.lemmas.Result.{err_from_is_err_and}
use Rattle.policy_sweep.proofs.Gone.{told-more}
use Rattle.policy_sweep.proofs.replays.PolicyReplays.request.Goals as goal

pub flush-requires : goal.flush-requires
flush-requires c =
    let w = c.requires.of_some in
    record {
      of_some = record {
        told = w.told;
        objects = w.objects;
        settings = w.settings;
        t = _;
        gone = told-more w.told w.objects w.settings w.t c.args.self.now c.keep.new.self c.args.asked (ap (λ r. r.items) c.keep.ensures.running) c.in_ok-keep.ensures.batch w.request w.few w.gone;
      };
    }

pub returns-in_ok-flush-clause-gone : goal.returns-in_ok-flush-clause-gone
returns-in_ok-flush-clause-gone c = λ told objects settings t is few h.
    c.in_ok-flush.ensures.gone told objects settings _
    (told-more told objects settings t c.args.self.now c.keep.new.self c.args.asked (ap (λ r. r.items) c.keep.ensures.running) c.in_ok-keep.ensures.batch is few h)

pub returns-else-len-ge-BATCH-clause-gone : goal.returns-else-len-ge-BATCH-clause-gone
returns-else-len-ge-BATCH-clause-gone c = λ told objects settings t is few h.
    told-more told objects settings t c.args.self.now c.keep.new.self c.args.asked (ap (λ r. r.items) c.keep.ensures.running) c.in_ok-keep.ensures.batch is few h

pub returns-in_err-flush-clause-named : goal.returns-in_err-flush-clause-named
returns-in_err-flush-clause-named c =
    let p = err_from_is_err_and c.from_residual-in_err-flush.result c.from_residual-in_err-flush.ensures.1 in
    rw (p.1, p.2)
    (λ told objects settings t is few h.
    c.in_err-flush.ensures.named told objects settings _ (told-more told objects settings t c.args.self.now c.keep.new.self c.args.asked (ap (λ r. r.items) c.keep.ensures.running) c.in_ok-keep.ensures.batch is few h))

use Rattle.std.proofs.Common.{length}
use Rattle.std.proofs.lemmas.Result.{IfErr-weaker, IfOk-weaker}
use Rattle.policy_stream.specs.Streams.{most_objects}
use Rattle.policy_stream.proofs.Parts.{whole-part}
use Rattle.policy_stream.proofs.stream.PolicyStream.finish.Goals as goal

pub finish-requires : goal.finish-requires
finish-requires c =
    let w = c.requires.of_some in
    record { of_some = record { told = w.0; objects = most_objects; settings = w.1; t = length w.0.trace; gone = w.2.gone w.0 (whole-part w.0) } }

pub returns-clause-replays : goal.returns-clause-replays
returns-clause-replays c = IfOk-weaker c.finish.result _ _ (λ replays are told settings h. are told most_objects settings (h.gone told (whole-part told))) c.finish.ensures.replays

pub returns-clause-named : goal.returns-clause-named
returns-clause-named c = IfErr-weaker c.finish.result _ _ (λ fault names told settings h. names told most_objects settings (length told.trace) (h.gone told (whole-part told))) c.finish.ensures.named

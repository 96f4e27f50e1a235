use Rattle.std.proofs.Common.{◌<◌, ◌∙◌, arith, length}
use Rattle.std.proofs.lemmas.List.{get_or_default}
use Rattle.ttl_sums.specs.declared.entry.Entry.{Entry}
use Rattle.ttl_sums.specs.Entries.{no_entry}
use Rattle.ttl_sums.proofs.worths.ask_object.Goals as goal

pub ask-requires-clause-can_ask : goal.ask-requires-clause-can_ask
ask-requires-clause-can_ask c =
    let entry : Entry = c.index_mut-entry.result.now in
    let low : c.args.request.now.number < length c.args.objects.now.items = omega (arith, c.if-number-len.true, c.len.ensures) in
    c.requires.can_ask entry
    (record {
      known = λ there. c.index_mut-entry.ensures.value ∙ get_or_default c.args.objects.now.items c.args.request.now.number entry no_entry low;
      new = λ high. absurd (omega (arith, low, high));
    })

use Rattle.std.proofs.Common.{◌≡◌, ◌/◌, ◌%◌, ◌∙◌, ap, ◌==◌, length, arith, slice_index_or, if◌then◌else◌}
use Rattle.std.specs.Int.{bit_at}
use Rattle.std.proofs.lemmas.List.{get_or_read_under}
use Rattle.bit_list.proofs.Placed.{bit_more}
use Rattle.bit_list.proofs.list.BitList.push_reserved.Goals as goal

pub returns : goal.returns
returns c =
    let list = c.args.self.now in
    let words = list.words.items in
    let at = list.len / 64 in
    let room = c.requires.room.0 in
    let word : c.index.result.now ≡ slice_index_or words at 0 = get_or_read_under words at list.words.len c.index.result.now 0 c.index.ensures (omega (arith, room)) list.words.ok.0 in
    record {
      bits = bit_more words list.len c.with_bit.result c.args.bit (omega (arith, room, list.words.ok.0))
          (λ i below. c.with_bit.ensures i below ∙ ap (λ w. if i == list.len % 64 then (if c.args.bit then 1 else 0) else bit_at w i) word);
    }

use Rattle.std.proofs.Common.{◌≡◌, ◌/◌, ◌%◌, ◌∙◌, ap, [], ◌∷◌, ◌==◌, length, arith, slice_index_or}
use Rattle.std.specs.Int.{bit_at}
use Rattle.std.proofs.lemmas.List.{get_or_append_left}
use Rattle.bit_list.specs.Bits.{bit_in}
use Rattle.bit_list.proofs.Placed.{same_bits}
use Rattle.bit_list.proofs.list.BitList.make_room.Goals as goal

pub returns-in_ok-push-clause-bits : goal.returns-in_ok-push-clause-bits
returns-in_ok-push-clause-bits c =
    let list = c.args.self.now in
    let words = list.words.items in
    same_bits (bit_in c.push.new.self.items) (bit_in words) list.len
    (λ i below. ap (λ w. bit_at w (i % 64) == 1)
    (ap (λ ws. slice_index_or ws (i / 64) 0) c.in_ok-push.ensures.items ∙ get_or_append_left words (0 ∷ []) 0 (i / 64) (omega (arith, list.within, list.words.ok.0, below))))

use Rattle.std.proofs.Common.{◌≡◌, ◌/◌, ◌%◌, ◌∙◌, sym, ap, false, ◌==◌, nat_eq, length, arith, slice_index_or}
use Rattle.std.specs.Int.{bit_at}
use Rattle.std.proofs.lemmas.Bool.{le-ltb}
use Rattle.std.proofs.lemmas.List.{get_or_past, get_or_read_under}
use Rattle.std.proofs.lemmas.List.FromFn.{get_or-map-range_with_len, length-map-range_with_len}
use Rattle.std.proofs.lemmas.Nat.Bits.{shr_and_one}
use Rattle.bit_list.specs.Bits.{bit_in, bits_of}
use Rattle.bit_list.proofs.list.BitList.get.Goals as goal

pub returns-then-place-self : goal.returns-then-place-self
returns-then-place-self c =
    let list = c.args.self.now in
    let place = c.args.place in
    let words = list.words.items in
    let word : c.index.result.now ≡ slice_index_or words (place / 64) 0 = get_or_read_under words (place / 64) list.words.len c.index.result.now 0 c.index.ensures (omega (arith, list.within, c.if-place-self.true)) list.words.ok.0 in
    record {
      bit = ap (λ b. nat_eq b 1) (shr_and_one c.index.result.now (place % 64)) ∙ (ap (λ w. nat_eq (bit_at w (place % 64)) 1) word ∙ sym (get_or-map-range_with_len (bit_in words) 0 list.len place place false c.if-place-self.true (omega arith)));
    }

pub returns-else-place-self : goal.returns-else-place-self
returns-else-place-self c =
    let list = c.args.self.now in
    record {
      bit = le-ltb c.args.place list.len c.if-place-self.false ∙ sym (get_or_past (bits_of list) c.args.place false (omega (arith, c.if-place-self.false, length-map-range_with_len (bit_in list.words.items) 0 list.len)));
    }

use Rattle.std.proofs.Common.{◌∙◌, ℕ, Bool, false, List, [], ◌∷◌, ◌++◌, sym, ap, arith, get_or, take}
use Rattle.std.proofs.lemmas.List.{take_all, take_more}
use Rattle.bit_list.specs.Bits.{bits_of}
use Rattle.hit_flags.specs.Laws.{flag_byte, flags_text}
use Rattle.hit_flags.proofs.FlagTexts.{flags_text-more}
use Rattle.hit_flags.proofs.text.flags_text.Goals as goal

pub loop-at-preserved : goal.loop-at-preserved
loop-at-preserved c =
    let bits : List Bool = bits_of c.args.flags.now in
    let at : ℕ = c.loop-at.at in
    let flag : Bool = get_or bits at false in
    let own : List ℕ = flag_byte flag ∷ 10 ∷ [] in
    c.in_ok-extend_from_slice.ensures.items
    ∙ ap (λ line. c.loop-at.text.items ++ line) (c.flag_line.ensures ∙ ap (λ b. flag_byte b ∷ 10 ∷ []) c.get.ensures.bit)
    ∙ ap (λ text. text ++ own) c.loop-at.invariant
    ∙ sym (flags_text-more (take at bits) flag)
    ∙ ap flags_text (sym (take_more bits at false (omega arith)))

pub returns : goal.returns
returns c =
    let bits : List Bool = bits_of c.args.flags.now in
    c.loop-at.invariant ∙ ap flags_text (take_all c.loop-at.at bits (omega arith))

use Rattle.std.proofs.Common.{rules, ◌≡◌, ◌∙◌, ap, sym, string_bytes, Some, None}
use Rattle.std.specs.Option.{option_copied, option_map}
use Rattle.std.specs.List.{find}
use Rattle.std.specs.Str.{bytes_eq}
use Rattle.std.proofs.lemmas.Iterator.{YieldsList-from_slice}
use Rattle.std.proofs.lemmas.Iterator.Search.{find_from_yields_List}
use Rattle.bound_words.specs.Named.{name_of, value_of}
use Rattle.bound_words.proofs.GivenByName.{value_given_by}
use Rattle.bound_words.proofs.named.value_given.Goals as goal

pub returns-in_err-word : goal.returns-in_err-word
returns-in_err-word c =
    let found : option_map (λ w. w.now) c.find.result ≡ find (λ w. bytes_eq (name_of (string_bytes w)) c.args.name.now) c.args.operands.now
    = find_from_yields_List _ _ _ _ c.find.ensures.ran (YieldsList-from_slice c.args.operands.now cc) (λ x b q k. search rules) in
    ap option_copied c.from_residual.ensures
    ∙ sym (value_given_by string_bytes c.args.name.now c.args.operands.now None (sym (ap (option_map (λ w. w.now)) c.in_err-word.was) ∙ found))

pub returns : goal.returns
returns c =
    let found : option_map (λ w. w.now) c.find.result ≡ find (λ w. bytes_eq (name_of (string_bytes w)) c.args.name.now) c.args.operands.now
    = find_from_yields_List _ _ _ _ c.find.ensures.ran (YieldsList-from_slice c.args.operands.now cc) (λ x b q k. search rules) in
    ap Some (c.value_of.ensures ∙ ap value_of c.as_str.ensures.value)
    ∙ sym (value_given_by string_bytes c.args.name.now c.args.operands.now (Some c.in_ok-word.word.now) (sym (ap (option_map (λ w. w.now)) c.in_ok-word.was) ∙ found))

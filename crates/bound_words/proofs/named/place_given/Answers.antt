use Rattle.std.proofs.Common.{rules, ◌≡◌, ◌∙◌, sym, string_bytes, Some, None}
use Rattle.std.specs.List.{position_from}
use Rattle.std.specs.Str.{bytes_eq}
use Rattle.std.proofs.lemmas.Iterator.{YieldsList-from_slice}
use Rattle.std.proofs.lemmas.Iterator.Adapters.{position_from-zero}
use Rattle.std.proofs.lemmas.Iterator.Search.{position_from_yields_List}
use Rattle.bound_words.specs.Named.{name_of}
use Rattle.bound_words.proofs.GivenByName.{place_given_by}
use Rattle.bound_words.proofs.named.place_given.Goals as goal

pub returns-in_err-at : goal.returns-in_err-at
returns-in_err-at c =
    let found : c.position.result ≡ position_from (λ w. bytes_eq (name_of (string_bytes w)) c.args.name.now) 0 c.args.operands.now
    = position_from_yields_List (λ w. bytes_eq (name_of (string_bytes w)) c.args.name.now) _ _ _ c.position.ensures.ran (YieldsList-from_slice c.args.operands.now cc) (λ x b q k. search rules)
    ∙ position_from-zero (λ w. bytes_eq (name_of (string_bytes w)) c.args.name.now) c.args.operands.now in
    c.from_residual.ensures
    ∙ sym (place_given_by string_bytes c.args.name.now c.args.operands.now c.args.first None (sym c.in_err-at.was ∙ found))

pub returns : goal.returns
returns c =
    let found : c.position.result ≡ position_from (λ w. bytes_eq (name_of (string_bytes w)) c.args.name.now) 0 c.args.operands.now
    = position_from_yields_List (λ w. bytes_eq (name_of (string_bytes w)) c.args.name.now) _ _ _ c.position.ensures.ran (YieldsList-from_slice c.args.operands.now cc) (λ x b q k. search rules)
    ∙ position_from-zero (λ w. bytes_eq (name_of (string_bytes w)) c.args.name.now) c.args.operands.now in
    sym (place_given_by string_bytes c.args.name.now c.args.operands.now c.args.first (Some c.in_ok-at.at) (sym c.in_ok-at.was ∙ found))

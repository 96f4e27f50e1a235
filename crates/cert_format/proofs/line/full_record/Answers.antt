use Rattle.std.proofs.Common.{◌^◌, ◌∙◌, sym, ap}
use Rattle.std.specs.Option.{option_or}
use Rattle.std.proofs.lemmas.Result.{err_from_is_err_and}
use Rattle.cert_format.specs.Grammar.{Within, number_fault, number_in, price_slot, value_unless}
use Rattle.cert_format.specs.Readings.{full_in}
use Rattle.cert_format.proofs.Shapes.{fault_of_err, none_of_ok}
use Rattle.cert_format.proofs.RecordShapes.{full_text, price_is_number}
use Rattle.cert_format.proofs.line.full_record.Goals as goal

pub returns-in_err-price : goal.returns-in_err-price
returns-in_err-price c =
    let text = c.args.text.now in
    let slot = price_slot c.args.version c.args.before in
    let p = err_from_is_err_and c.from_residual.result c.from_residual.ensures.1 in
    let price = c.in-Some.words.price.now in
    let flow = c.in-Some.words.flow.now in
    let words = c.in-Some.ensures in
    let fault = fault_of_err (number_fault slot price) (number_in price) c.in_err-price.field-0.0 (sym c.in_err-price.was ∙ c.price_of.ensures) in
    let is = full_text slot (price_is_number c.args.version c.args.before) text price flow c.in-Some.words.keep words.words words.some.0 words.some.1 ∙ ap (λ o. option_or o (number_fault (Within 0 (2 ^ 48)) flow)) fault in
    rw (p.1, p.2) (sym (ap (λ o. value_unless o (full_in text)) is))

pub returns-in_err-flow : goal.returns-in_err-flow
returns-in_err-flow c =
    let text = c.args.text.now in
    let slot = price_slot c.args.version c.args.before in
    let p = err_from_is_err_and c.from_residual-in_err-flow.result c.from_residual-in_err-flow.ensures.1 in
    let price = c.in-Some.words.price.now in
    let flow = c.in-Some.words.flow.now in
    let words = c.in-Some.ensures in
    let no_fault = none_of_ok (number_fault slot price) (number_in price) c.in_ok-price.price (sym c.in_ok-price.was ∙ c.price_of.ensures) in
    let fault = fault_of_err (number_fault (Within 0 (2 ^ 48)) flow) (number_in flow) c.in_err-flow.field-0.0 (sym c.in_err-flow.was ∙ c.number.ensures) in
    let is = full_text slot (price_is_number c.args.version c.args.before) text price flow c.in-Some.words.keep words.words words.some.0 words.some.1 ∙ (ap (λ o. option_or o (number_fault (Within 0 (2 ^ 48)) flow)) no_fault.0 ∙ fault) in
    rw (p.1, p.2) (sym (ap (λ o. value_unless o (full_in text)) is))

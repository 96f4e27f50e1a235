use Rattle.std.proofs.Common.{◌≡◌, ap, refl, string_bytes, length, Some}
use Rattle.std.specs.Prelude.{slice_get}
use Rattle.std.proofs.lemmas.Option.{slice_get-map, slice_get_read}
use Rattle.bound_words.proofs.words.word_at.Goals as goal

pub returns : goal.returns
returns c =
    let words = c.args.words.now in
    let found : slice_get words c.args.at ≡ Some c.in_ok-word.word.now
    = slice_get_read words (length words) c.args.at c.in_ok-word.word.now refl c.in_ok-word.ensures.lookup.3.0 c.in_ok-word.ensures.lookup.1 in
    rw (slice_get-map string_bytes words c.args.at, found) (ap Some c.as_str.ensures.value)

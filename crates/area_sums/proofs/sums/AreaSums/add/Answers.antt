use Rattle.std.proofs.Common.{◌≡◌, ◌∙◌, ◌*◌, sym, ap, subst, arith, rules}
use Rattle.area_sums.specs.Short.{class_of}
use Rattle.area_sums.specs.Spans.{Span}
use Rattle.area_sums.specs.Groups.{AreSumsOf, IsInRange, Sums, place_of}
use Rattle.area_sums.specs.Kept.{HasRoomAt, sums_in}
use Rattle.area_sums.specs.Pages.{HasMoreIn}
use Rattle.area_sums.proofs.KeptLemmas.{bytes-room_at, hits-room_at, kept-more, kept-same, sums-more, sums-same}
use Rattle.area_sums.proofs.sums.AreaSums.add.Goals as goal

pub add_span-requires-clause-hits : goal.add_span-requires-clause-hits
add_span-requires-clause-hits c =
    let place : c.first_holding-place.result ≡ place_of c.self.inside.capacities.items c.args.size = search rules in
    let s : Span = record { size = c.args.size; length = c.args.length } in
    let range : IsInRange s = record { size = c.requires.size; length = c.requires.length } in
    subst (λ p. HasRoomAt c.self.inside.hits p (class_of (c.args.size * c.args.length)) (record { gain = 1; area = c.args.size * c.args.length })) (sym place)
    (hits-room_at c.self.inside.capacities.items c.self.inside.count c.self.inside.hits c.self.inside.bytes c.self.invariant s range)

pub add_span-requires-clause-bytes : goal.add_span-requires-clause-bytes
add_span-requires-clause-bytes c =
    let place : c.first_holding-place.result ≡ place_of c.self.inside.capacities.items c.args.size = search rules in
    let s : Span = record { size = c.args.size; length = c.args.length } in
    let range : IsInRange s = record { size = c.requires.size; length = c.requires.length } in
    subst (λ p. HasRoomAt c.self.inside.bytes p (class_of c.args.length) (record { gain = c.args.size; area = c.args.size * c.args.length })) (sym place)
    (bytes-room_at c.self.inside.capacities.items c.self.inside.count c.self.inside.hits c.self.inside.bytes c.self.invariant s range)

pub invariant_of-self : goal.invariant_of-self
invariant_of-self c =
    let s : Span = record { size = c.args.size; length = c.args.length } in
    let range : IsInRange s = record { size = c.requires.size; length = c.requires.length } in
    kept-same c.self.inside.capacities.items c.self.inside.count c.self.inside.hits c.self.inside.bytes c.self.invariant s range
    c.add_span.new.hits c.add_span.new.bytes c.in_err-add_span.ensures.hits_rows c.in_err-add_span.ensures.bytes_rows
    c.in_err-add_span.ensures.err_hits c.in_err-add_span.ensures.err_bytes

pub returns-in_err-add_span-clause-err : goal.returns-in_err-add_span-clause-err
returns-in_err-add_span-clause-err c =
    let s : Span = record { size = c.args.size; length = c.args.length } in
    let range : IsInRange s = record { size = c.requires.size; length = c.requires.length } in
    let same : sums_in c.self.inside.capacities.items c.self.inside.count c.add_span.new.hits c.add_span.new.bytes ≡ c.args.self.now =
    sums-same c.self.inside.capacities.items c.self.inside.count c.self.inside.hits c.self.inside.bytes c.self.invariant s range
    c.add_span.new.hits c.add_span.new.bytes c.in_err-add_span.ensures.hits_rows c.in_err-add_span.ensures.bytes_rows
    c.in_err-add_span.ensures.err_hits c.in_err-add_span.ensures.err_bytes
    ∙ c.self.view_is in
    search rules

pub invariant_of-self-2 : goal.invariant_of-self-2
invariant_of-self-2 c =
    let place : c.first_holding-place.result ≡ place_of c.self.inside.capacities.items c.args.size = search rules in
    let s : Span = record { size = c.args.size; length = c.args.length } in
    let range : IsInRange s = record { size = c.requires.size; length = c.requires.length } in
    let hits = subst (λ p. HasMoreIn p (class_of (c.args.size * c.args.length)) (record { gain = 1; area = c.args.size * c.args.length }) c.self.inside.hits c.add_span.new.hits) place
    c.in_ok-add_span.ensures.hits in
    let bytes = subst (λ p. HasMoreIn p (class_of c.args.length) (record { gain = c.args.size; area = c.args.size * c.args.length }) c.self.inside.bytes c.add_span.new.bytes) place
    c.in_ok-add_span.ensures.bytes in
    kept-more c.self.inside.capacities.items c.self.inside.count c.self.inside.hits c.self.inside.bytes c.self.invariant s range
    c.add_span.new.hits c.add_span.new.bytes c.in_ok-add_span.ensures.hits_rows c.in_ok-add_span.ensures.bytes_rows
    hits bytes c.requires.some (omega (arith, c.requires.room, ap (λ (v : Sums). v.count) c.self.view_is))

pub returns-clause-added : goal.returns-clause-added
returns-clause-added c = λ spans h.
    let place : c.first_holding-place.result ≡ place_of c.self.inside.capacities.items c.args.size = search rules in
    let s : Span = record { size = c.args.size; length = c.args.length } in
    let range : IsInRange s = record { size = c.requires.size; length = c.requires.length } in
    let hits = subst (λ p. HasMoreIn p (class_of (c.args.size * c.args.length)) (record { gain = 1; area = c.args.size * c.args.length }) c.self.inside.hits c.add_span.new.hits) place
    c.in_ok-add_span.ensures.hits in
    let bytes = subst (λ p. HasMoreIn p (class_of c.args.length) (record { gain = c.args.size; area = c.args.size * c.args.length }) c.self.inside.bytes c.add_span.new.bytes) place
    c.in_ok-add_span.ensures.bytes in
    sums-more c.self.inside.capacities.items c.self.inside.count c.self.inside.hits c.self.inside.bytes c.self.invariant s range
    c.add_span.new.hits c.add_span.new.bytes c.in_ok-add_span.ensures.hits_rows c.in_ok-add_span.ensures.bytes_rows
    hits bytes spans c.requires.some (subst (AreSumsOf spans) (sym c.self.view_is) h)

use Rattle.std.proofs.Common.{◌≡◌, ◌∙◌, ◌*◌, ap, subst, arith}
use Rattle.area_sums.specs.Short.{class_of}
use Rattle.area_sums.specs.Pages.{KeepsRows}
use Rattle.area_sums.proofs.sums.add_span.Goals as goal

pub returns-clause-hits_rows : goal.returns-clause-hits_rows
returns-clause-hits_rows c =
    let area : c.from.result * c.from-2.result ≡ c.args.size * c.args.length = ap (λ m. m * c.from-2.result) c.from.ensures ∙ ap (λ m. c.args.size * m) c.from-2.ensures in
    let class : c.class_of-of_area.result ≡ class_of (c.args.size * c.args.length) = c.class_of-of_area.ensures ∙ ap class_of area in
    let kept = subst (λ k. KeepsRows k c.args.hits.now c.make_page.new.self) class c.in_ok-make_page.ensures.rows in
    record {
      places = c.add.ensures.places ∙ kept.places;
      no_more = λ rows before within. omega (arith, c.add.ensures.rows, kept.no_more rows before within);
    }

pub returns-clause-bytes_rows : goal.returns-clause-bytes_rows
returns-clause-bytes_rows c =
    let class : c.class_of-of_length.result ≡ class_of c.args.length = c.class_of-of_length.ensures ∙ ap class_of c.from-3.ensures in
    let kept = subst (λ k. KeepsRows k c.args.bytes.now c.make_page-2.new.self) class c.in_ok-make_page-2.ensures.rows in
    record {
      places = c.add-2.ensures.places ∙ kept.places;
      no_more = λ rows before within. omega (arith, c.add-2.ensures.rows, kept.no_more rows before within);
    }

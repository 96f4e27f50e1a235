use Rattle.std.proofs.Common.{◌≡◌, ◌∙◌, ◌+◌, ◌-◌, ◌*◌, ◌/◌, ◌%◌, ◌++◌, ℕ, List, length, take, vec_len, ap, arith, rules}
use Rattle.area_sums.specs.Groups.{group_at}
use Rattle.area_sums.proofs.PageLemmas.{pages-more, same-number, zeros}
use Rattle.area_sums.proofs.pages.Pages.reach.Goals as goal

pub invariant_of-self-2 : goal.invariant_of-self-2
invariant_of-self-2 c =
    let places : ℕ = c.args.self.now.places in
    let numbers : List ℕ = c.args.self.now.numbers.items in
    let count : c.in-Some.count ≡ c.args.rows * places = search rules in
    let size : vec_len c.args.self.now.numbers ≡ length numbers = omega (arith, c.args.self.now.numbers.ok.0) in
    let is : c.resize.new.self.items ≡ take (c.args.rows * places) numbers ++ zeros (c.args.rows * places - length numbers) =
    c.in_ok-resize.ensures.items ∙ (λ i. take (count i) numbers ++ zeros (count i - size i)) in
    record {
      paged = pages-more places c.args.self.now.rows numbers c.args.self.now.groups.items c.args.self.now.paged c.args.rows c.resize.new.self.items c.requires.few c.requires.more is;
    }

pub returns-clause-same : goal.returns-clause-same
returns-clause-same c = λ place class.
    let places : ℕ = c.args.self.now.places in
    let numbers : List ℕ = c.args.self.now.numbers.items in
    let count : c.in-Some.count ≡ c.args.rows * places = search rules in
    let size : vec_len c.args.self.now.numbers ≡ length numbers = omega (arith, c.args.self.now.numbers.ok.0) in
    let is : c.resize.new.self.items ≡ take (c.args.rows * places) numbers ++ zeros (c.args.rows * places - length numbers) =
    c.in_ok-resize.ensures.items ∙ (λ i. take (count i) numbers ++ zeros (count i - size i)) in
    ap (λ n. group_at c.args.self.now.groups.items (n * 64 + class % 64))
    (same-number places c.args.self.now.rows numbers c.args.self.now.groups.items c.args.self.now.paged c.args.rows c.resize.new.self.items c.requires.few c.requires.more is
    (class / 64 * places + place))

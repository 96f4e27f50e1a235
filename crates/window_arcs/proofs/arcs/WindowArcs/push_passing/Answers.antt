use Rattle.std.proofs.Common.{◌≡◌, ◌<◌, ◌≤◌, ◌∙◌, ◌++◌, [], ◌∷◌, ℕ, List, ap, sym, arith, get_or, length, min, subst}
use Rattle.flow_windows.specs.Cuts.{Cut, cut_of}
use Rattle.std.proofs.lemmas.List.{get_or_read, length-map}
use Rattle.window_arcs.specs.Current.{AreKept, Current, passing_weight}
use Rattle.window_arcs.specs.Passing.{local_numbers, passing_numbers}
use Rattle.window_arcs.proofs.CurrentLemmas.{IsNext, next_passes, order_low, pushed_more, pushed_none}
use Rattle.window_arcs.proofs.SplitLemmas.{split_sum}
use Rattle.window_arcs.proofs.arcs.WindowArcs.push_passing.Goals as goal

pub loop-rank-init : goal.loop-rank-init
loop-rank-init c =
    let inside = c.self.inside in
    let cut : Cut = cut_of inside.whole.now inside.width inside.number in
    let order : List ℕ = inside.order.numbers.items in
    let passing : List ℕ = inside.passing in
    let is = c.self.invariant in
    let low : (r : ℕ) → r < length order → get_or order r 0 < length inside.whole.now.arcs = order_low inside.width inside.whole.now.arcs order inside.order.ranks.items is.ordered in
    let long : length passing ≡ length order = ap length is.weights ∙ length-map order (passing_weight cut) in
    let same : length order ≡ length c.args.self.now.order = ap (λ (v : Current). length v.order) c.self.view_is in
    record {
      low = c.next-rank.ensures.order;
      within = omega (arith, c.next-rank.ensures.within, long, same);
      found = subst (λ (v : Current). IsNext v.cut v.order c.next-rank.result) c.self.view_is (next_passes cut order passing is.in_range low is.weights c.next-rank.result c.next-rank.ensures.found);
      items = subst (λ (v : Current). c.args.numbers.now.items ≡ c.args.numbers.now.items ++ passing_numbers v.cut v.order c.args.ranks.first (min c.next-rank.result c.args.ranks.end)) c.self.view_is
          (pushed_none cut order passing is.in_range low is.weights c.args.ranks.first c.args.ranks.end c.next-rank.result c.args.numbers.now.items c.requires.sorted c.next-rank.ensures.order c.next-rank.ensures.within c.next-rank.ensures.none_before);
    }

pub loop-rank-preserved : goal.loop-rank-preserved
loop-rank-preserved c =
    let inside = c.self.inside in
    let cut : Cut = cut_of inside.whole.now inside.width inside.number in
    let order : List ℕ = inside.order.numbers.items in
    let passing : List ℕ = inside.passing in
    let is = c.self.invariant in
    let before = c.loop-rank.invariant in
    let rank : ℕ = c.loop-rank.rank in
    let next : ℕ = c.next-rank-in-loop-rank.result in
    let old : List ℕ = c.args.numbers.now.items in
    let low : (r : ℕ) → r < length order → get_or order r 0 < length inside.whole.now.arcs = order_low inside.width inside.whole.now.arcs order inside.order.ranks.items is.ordered in
    let long : length passing ≡ length order = ap length is.weights ∙ length-map order (passing_weight cut) in
    let same : length order ≡ length c.args.self.now.order = ap (λ (v : Current). length v.order) c.self.view_is in
    let items : c.loop-rank.numbers.items ≡ old ++ passing_numbers cut order c.args.ranks.first (min rank c.args.ranks.end) =
    subst (λ (v : Current). c.loop-rank.numbers.items ≡ old ++ passing_numbers v.cut v.order c.args.ranks.first (min rank c.args.ranks.end)) (sym c.self.view_is) before.items in
    let found : IsNext cut order rank = subst (λ (v : Current). IsNext v.cut v.order rank) (sym c.self.view_is) before.found in
    let read : c.index.result.now ≡ get_or order rank 0 = get_or_read order rank c.index.result.now (omega (arith, c.loop-rank-test.true, c.requires.within, same)) c.index.ensures 0 in
    record {
      low = omega (arith, before.low, c.next-rank-in-loop-rank.ensures.order);
      within = omega (arith, c.next-rank-in-loop-rank.ensures.within, long, same);
      found = subst (λ (v : Current). IsNext v.cut v.order next) c.self.view_is (next_passes cut order passing is.in_range low is.weights next c.next-rank-in-loop-rank.ensures.found);
      items = c.in_ok-push.ensures.items
          ∙ ap (λ i. c.loop-rank.numbers.items ++ i ∷ []) read
          ∙ subst (λ (v : Current). c.loop-rank.numbers.items ++ get_or order rank 0 ∷ [] ≡ old ++ passing_numbers v.cut v.order c.args.ranks.first (min next c.args.ranks.end)) c.self.view_is
          (pushed_more cut order passing is.in_range low is.weights c.args.ranks.first c.args.ranks.end rank next old c.loop-rank.numbers.items before.low c.loop-rank-test.true (omega (arith, c.requires.within, same)) found items
          c.next-rank-in-loop-rank.ensures.order c.next-rank-in-loop-rank.ensures.within c.next-rank-in-loop-rank.ensures.none_before);
    }

pub returns-clause-items : goal.returns-clause-items
returns-clause-items c =
    let end : min c.loop-rank.rank c.args.ranks.end ≡ c.args.ranks.end = omega (arith, c.loop-rank-test.false) in
    c.loop-rank.invariant.items ∙ ap (λ n. c.args.numbers.now.items ++ passing_numbers c.args.self.now.cut c.args.self.now.order c.args.ranks.first n) end

pub returns-clause-kept : goal.returns-clause-kept
returns-clause-kept c =
    let inside = c.self.inside in
    let cut : Cut = cut_of inside.whole.now inside.width inside.number in
    let order : List ℕ = inside.order.numbers.items in
    let is = c.self.invariant in
    let within : c.args.ranks.end ≤ length order = omega (arith, c.requires.within, ap (λ (v : Current). length v.order) c.self.view_is) in
    subst (λ (v : Current). AreKept v c.args.ranks (local_numbers v.cut ++ passing_numbers v.cut v.order c.args.ranks.first c.args.ranks.end)) c.self.view_is
    (λ earns. split_sum cut order inside.order.ranks.items is.some_width is.in_range is.ordered earns c.args.ranks.first c.args.ranks.end c.requires.sorted within)

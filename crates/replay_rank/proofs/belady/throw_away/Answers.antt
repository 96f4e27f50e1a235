use Rattle.std.proofs.Common.{◌≡◌, subst, heap_items, rules}
use Rattle.std.specs.List.{filter}
use Rattle.std.specs.List.Sorted.{IsPermutation}
use Rattle.std.proofs.lemmas.Fn.{filter_same}
use Rattle.replay_rank.specs.BeladyEntries.{is_current}
use Rattle.replay_rank.proofs.BeladyOrdered.{belady_kept}
use Rattle.replay_rank.proofs.belady.throw_away.Goals as goal

pub returns : goal.returns
returns c =
    let kept : c.retain.ensures.filtered.0 ≡ filter (is_current c.args.holdings.now) (heap_items c.args.order.now) =
    filter_same _ (is_current c.args.holdings.now) _ (λ x b f' k. search rules) _ _ c.retain.ensures.filtered.1 in
    record {
      ordered = belady_kept c.args.holdings.now (heap_items c.args.order.now) c.requires.ordered (heap_items c.retain.new.self)
          (subst (λ items. IsPermutation items (heap_items c.retain.new.self)) kept c.retain.ensures.filtered.2) c.retain.ensures.heap_order;
    }

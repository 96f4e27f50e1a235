use Rattle.std.proofs.Common.{◌∙◌, ap, false, length, replicate, subst, sym}
use Rattle.cache_model.specs.Rounding.{FitTogether}
use Rattle.schedule_round.proofs.Flags.{no_flags_fit}
use Rattle.ttl_bounds.proofs.schedules.rounded.Goals as goal

pub round-requires : goal.round-requires
round-requires c =
    let items = c.args.intervals.now.items in
    let flags = c.deref.ensures.value ∙ c.in_ok-flags.ensures.items_if_clones_equal (λ y same. same) ∙ ap (λ xs. replicate (length xs) false) c.as_slice.ensures.items in
    record { flags = subst (FitTogether items c.args.capacity) (sym flags) (no_flags_fit items c.args.capacity) }

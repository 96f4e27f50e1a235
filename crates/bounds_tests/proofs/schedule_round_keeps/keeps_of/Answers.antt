use Rattle.std.proofs.Common.{◌∙◌, ap, sym, subst, length, replicate, false}
use Rattle.cache_model.specs.Rounding.{FitTogether}
use Rattle.schedule_round.proofs.Flags.{no_flags_fit}
use Rattle.bounds_tests.proofs.schedule_round_keeps.keeps_of.Goals as goal

pub round-requires : goal.round-requires
round-requires c =
    let none = c.deref.ensures.value ∙ c.in_ok-full.ensures ∙ ap (λ items. replicate (length items) false) c.as_slice.ensures.items in
    record { flags = subst (FitTogether c.args.intervals.now.items c.args.capacity) (sym none) (no_flags_fit c.args.intervals.now.items c.args.capacity) }

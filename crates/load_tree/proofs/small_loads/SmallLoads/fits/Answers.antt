use Rattle.std.proofs.Common.{◌-◌, ap, length, get_or, refl, arith}
use Rattle.std.proofs.lemmas.Bool.{false≢true}
use Rattle.load_tree.proofs.Answering.{none_fit}
use Rattle.load_tree.proofs.Listed.{at_loads, length-loads_in}
use Rattle.load_tree.specs.Levels.{load_at}
use Rattle.load_tree.proofs.small_loads.SmallLoads.fits.Goals as goal

pub look-requires-clause-within : goal.look-requires-clause-within
look-requires-clause-within c = omega (arith, ap length c.self.view_is, length-loads_in c.self.inside.height c.self.inside.steps c.self.inside.values.items, c.requires.within)

pub returns-in-Fits : goal.returns-in-Fits
returns-in-Fits c = (
  λ yes t first last.
      omega (
        arith,
        ap (λ ls. get_or ls t 0) c.self.view_is,
        at_loads c.self.inside.height c.self.inside.steps c.self.inside.values.items t (omega (arith, ap length c.self.view_is, length-loads_in c.self.inside.height c.self.inside.steps c.self.inside.values.items, c.requires.within)),
        ap (λ vs. load_at c.self.inside.height 0 c.self.inside.steps vs t) c.deref.ensures.value,
        c.in-Fits.ensures t first (omega arith),
      ),
  λ fits. refl,
)

pub returns-in_default : goal.returns-in_default
returns-in_default c = (
  λ yes. absurd (false≢true yes),
  λ fits. absurd
      (none_fit (load_at c.self.inside.height 0 c.self.inside.steps c.deref.result.now) c.args.from (c.args.to - 1) c.args.room c.look.result (omega arith) c.in_default.not-Fits c.look.ensures
      (λ t first last. omega (
        arith,
        ap (λ ls. get_or ls t 0) c.self.view_is,
        at_loads c.self.inside.height c.self.inside.steps c.self.inside.values.items t (omega (arith, ap length c.self.view_is, length-loads_in c.self.inside.height c.self.inside.steps c.self.inside.values.items, c.requires.within)),
        ap (λ vs. load_at c.self.inside.height 0 c.self.inside.steps vs t) c.deref.ensures.value,
        fits t first (omega arith),
      ))),
)

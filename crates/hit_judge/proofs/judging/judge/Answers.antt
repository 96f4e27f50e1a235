use Rattle.std.proofs.Common.{◌∙◌, ap, sym, refl, false}
use Rattle.std.specs.Option.{option_or}
use Rattle.std.proofs.lemmas.Bool.{both_ways}
use Rattle.bit_list.specs.Bits.{bits_of}
use Rattle.hit_judge.specs.Causes.{first_at_step}
use Rattle.hit_judge.proofs.FirstCause.{none-can_hit, none-possible, some-impossible}
use Rattle.hit_judge.proofs.judging.judge.Goals as goal

pub first_at_step-requires : goal.first_at_step-requires
first_at_step-requires c = record { hits = none-can_hit c.args.capacity c.args.trace.now.objects (bits_of c.args.stale.now) (bits_of c.args.flags.now) (sym c.in_default.ensures) }

pub returns-in-Some-clause-possible : goal.returns-in-Some-clause-possible
returns-in-Some-clause-possible c = (
  λ e. absurd (both_ways false refl e),
  λ possible.
      absurd (some-impossible c.args.capacity c.args.trace.now.objects (bits_of c.args.stale.now) (bits_of c.args.flags.now) c.in-Some.cause
      (ap (λ o. option_or o (first_at_step c.args.capacity c.args.trace.now.objects (bits_of c.args.flags.now))) (sym c.in-Some.ensures)) possible),
)

pub returns-in-Some-first_at_step-clause-possible : goal.returns-in-Some-first_at_step-clause-possible
returns-in-Some-first_at_step-clause-possible c = (
  λ e. absurd (both_ways false refl e),
  λ possible.
      absurd (some-impossible c.args.capacity c.args.trace.now.objects (bits_of c.args.stale.now) (bits_of c.args.flags.now) c.in-Some-first_at_step.cause
      (ap (λ o. option_or o (first_at_step c.args.capacity c.args.trace.now.objects (bits_of c.args.flags.now))) (sym c.in_default.ensures) ∙ sym c.in-Some-first_at_step.ensures) possible),
)

pub returns-clause-possible : goal.returns-clause-possible
returns-clause-possible c = (
  λ _. none-possible c.args.capacity c.args.trace.now.objects (bits_of c.args.stale.now) (bits_of c.args.flags.now)
      (ap (λ o. option_or o (first_at_step c.args.capacity c.args.trace.now.objects (bits_of c.args.flags.now))) (sym c.in_default.ensures) ∙ sym c.in_default-first_at_step.ensures),
  λ _. refl,
)

pub returns-clause-written : goal.returns-clause-written
returns-clause-written c = c.count_claimed.ensures.written c.args.capacity ((returns-clause-possible c).0 refl).possible

use Rattle.std.proofs.Common.{◌^◌, ℕ, ◌-◌, ◌*◌, ◌/◌, ◌%◌, sym, ap, ◌∙◌}
use Rattle.area_sums.proofs.ShortLemmas.{low}
use Rattle.area_sums.proofs.LogLemmas.{shifted}
use Rattle.area_sums.proofs.short.short_at.Goals as goal

pub returns-then-class-lt2048 : goal.returns-then-class-lt2048
returns-then-class-lt2048 c = c.from.ensures ∙ sym (low c.args.class c.if-class-lt2048.true)

pub returns : goal.returns
returns c = ap (λ (m : ℕ). m * 2 ^ (c.args.class / 2048 - 1) % 340282366920938463463374607431768211456) c.from-2.ensures ∙ shifted c.args.class c.if-class-lt2048.false c.requires

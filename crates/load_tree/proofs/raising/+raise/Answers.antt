use Rattle.std.proofs.Common.{◌≡◌, ℕ, ◌+◌, ◌/◌, ◌≤◌, ◌-◌, refl, sym, subst, get_or, arith}
use Rattle.load_tree.specs.Levels.{IsRaised, groups_of, most_of_group}
use Rattle.load_tree.proofs.Levelled.{levels_within, most_grown, value-le-load}
use Rattle.load_tree.proofs.Rising.{top_raised, mid_grown, mid_levels, left_room, right_room, inner_room, small_room, none_raised, raised_below}
use Rattle.load_tree.proofs.raising.+raise.Goals as goal

pub raise_ends-requires-clause-room : goal.raise_ends-requires-clause-room
raise_ends-requires-clause-room t c = λ place first last. omega (arith, value-le-load c.args.level.height c.args.level.start c.args.level.count c.args.values.now place, c.requires.room place first last)

pub returns-then-level-eq0 : goal.returns-then-level-eq0
returns-then-level-eq0 t c = top_raised c.args.level.height c.args.level.start c.args.level.count c.args.values.now c.raise_ends.new.values c.args.rise.low c.args.rise.low_by c.args.rise.high c.args.rise.high_by c.args.rise.between c.if-level-eq0.true c.requires.levels c.requires.within c.requires.order c.raise_ends.ensures

pub most_of_group-left_before-requires-clause-within : goal.most_of_group-left_before-requires-clause-within
most_of_group-left_before-requires-clause-within t c = levels_within c.args.level.height c.args.level.start c.args.level.count c.args.values.now c.requires.levels

pub most_of_other-right_before-requires-clause-within : goal.most_of_other-right_before-requires-clause-within
most_of_other-right_before-requires-clause-within t c = levels_within c.args.level.height c.args.level.start c.args.level.count c.args.values.now c.requires.levels

pub raise_ends-requires-2-clause-within : goal.raise_ends-requires-2-clause-within
raise_ends-requires-2-clause-within t c = omega (arith, levels_within c.args.level.height c.args.level.start c.args.level.count c.args.values.now c.requires.levels)

pub raise_ends-requires-2-clause-room : goal.raise_ends-requires-2-clause-room
raise_ends-requires-2-clause-room t c = λ place first last. omega (arith, value-le-load c.args.level.height c.args.level.start c.args.level.count c.args.values.now place, c.requires.room place first last)

pub most_of_group-left_after-requires-clause-within : goal.most_of_group-left_after-requires-clause-within
most_of_group-left_after-requires-clause-within t c = omega (arith, levels_within c.args.level.height c.args.level.start c.args.level.count c.args.values.now c.requires.levels, c.raise_ends-2.ensures.same_length)

pub overflow_sub-low_by : goal.overflow_sub-low_by
overflow_sub-low_by t c =
    let grown : (p : ℕ) → get_or c.args.values.now p 0 ≤ get_or c.raise_ends-2.new.values p 0 = mid_grown c.args.level.height c.args.level.start c.args.level.count (c.args.level.height - 1) (c.args.level.start + c.args.level.count) (groups_of c.args.level.count) c.args.values.now c.raise_ends-2.new.values c.args.rise.low c.args.rise.low_by c.args.rise.high c.args.rise.high_by c.args.rise.between (omega arith) refl refl c.requires.levels c.requires.order c.requires.within c.raise_ends-2.ensures in
    omega (arith, c.most_of_group-left_before.ensures, c.most_of_group-left_after.ensures, most_grown c.args.values.now c.raise_ends-2.new.values c.args.level.start c.args.level.count (c.args.rise.low / 16) grown)

pub most_of_other-requires-clause-within : goal.most_of_other-requires-clause-within
most_of_other-requires-clause-within t c = omega (arith, levels_within c.args.level.height c.args.level.start c.args.level.count c.args.values.now c.requires.levels, c.raise_ends-2.ensures.same_length)

pub overflow_sub-high_by : goal.overflow_sub-high_by
overflow_sub-high_by t c =
    let grown : (p : ℕ) → get_or c.args.values.now p 0 ≤ get_or c.raise_ends-2.new.values p 0 = mid_grown c.args.level.height c.args.level.start c.args.level.count (c.args.level.height - 1) (c.args.level.start + c.args.level.count) (groups_of c.args.level.count) c.args.values.now c.raise_ends-2.new.values c.args.rise.low c.args.rise.low_by c.args.rise.high c.args.rise.high_by c.args.rise.between (omega arith) refl refl c.requires.levels c.requires.order c.requires.within c.raise_ends-2.ensures in
    omega (arith, c.most_of_other-right_before.ensures, c.most_of_other.ensures, most_grown c.args.values.now c.raise_ends-2.new.values c.args.level.start c.args.level.count (c.args.rise.high / 16) grown)

pub next-requires-clause-short : goal.next-requires-clause-short
next-requires-clause-short t c = omega (arith, levels_within c.args.level.height c.args.level.start c.args.level.count c.args.values.now c.requires.levels)

pub raise-requires : goal.raise-requires
raise-requires t c = (
  omega (arith, c.next.ensures.height),
  (
    mid_levels c.args.level.height c.args.level.start c.args.level.count c.next.result.height c.next.result.start c.next.result.count c.args.values.now c.raise_ends-2.new.values c.args.rise.low c.args.rise.low_by c.args.rise.high c.args.rise.high_by c.args.rise.between c.next.ensures.height c.next.ensures.start c.next.ensures.count c.requires.levels c.requires.order c.requires.within c.raise_ends-2.ensures,
    (
      omega arith,
      (
        omega (arith, c.next.ensures.count),
        (
          λ g short. small_room c.args.level.height c.args.level.start c.args.level.count c.next.result.height c.next.result.start c.next.result.count c.args.values.now c.raise_ends-2.new.values c.args.rise.low c.args.rise.low_by c.args.rise.high c.args.rise.high_by c.args.rise.between c.next.ensures.height c.next.ensures.start c.next.ensures.count c.requires.levels c.requires.order c.requires.within c.raise_ends-2.ensures 18446744073709551616 c.requires.small c.requires.low_room c.requires.high_room c.requires.room g (omega (arith, c.next.ensures.count)),
          (
            omega (arith, c.most_of_group-left_after.ensures, c.most_of_group-left_before.ensures, left_room c.args.level.height c.args.level.start c.args.level.count c.next.result.height c.next.result.start c.next.result.count c.args.values.now c.raise_ends-2.new.values c.args.rise.low c.args.rise.low_by c.args.rise.high c.args.rise.high_by c.args.rise.between c.next.ensures.height c.next.ensures.start c.next.ensures.count c.requires.levels c.requires.order c.requires.within c.raise_ends-2.ensures 18446744073709551616 c.requires.small c.requires.low_room c.requires.high_room c.requires.room),
            (
              λ apart. omega (arith, c.most_of_other.ensures, c.most_of_other-right_before.ensures, right_room c.args.level.height c.args.level.start c.args.level.count c.next.result.height c.next.result.start c.next.result.count c.args.values.now c.raise_ends-2.new.values c.args.rise.low c.args.rise.low_by c.args.rise.high c.args.rise.high_by c.args.rise.between c.next.ensures.height c.next.ensures.start c.next.ensures.count c.requires.levels c.requires.order c.requires.within c.raise_ends-2.ensures 18446744073709551616 c.requires.small c.requires.low_room c.requires.high_room c.requires.room),
              λ g first last. inner_room c.args.level.height c.args.level.start c.args.level.count c.next.result.height c.next.result.start c.next.result.count c.args.values.now c.raise_ends-2.new.values c.args.rise.low c.args.rise.low_by c.args.rise.high c.args.rise.high_by c.args.rise.between c.next.ensures.height c.next.ensures.start c.next.ensures.count c.requires.levels c.requires.order c.requires.within c.raise_ends-2.ensures 18446744073709551616 c.requires.small c.requires.low_room c.requires.high_room c.requires.room g first last,
            ),
          ),
        ),
      ),
    ),
  ),
)

pub returns-then-left-right : goal.returns-then-left-right
returns-then-left-right t c =
    let up = rw (c.most_of_group-left_after.ensures, c.most_of_group-left_before.ensures, c.most_of_other.ensures, c.most_of_other-right_before.ensures) at c.raise.ensures in
    raised_below c.args.level.height c.args.level.start c.args.level.count c.next.result.height c.next.result.start c.next.result.count c.args.values.now c.raise_ends-2.new.values c.args.rise.low c.args.rise.low_by c.args.rise.high c.args.rise.high_by c.args.rise.between c.next.ensures.height c.next.ensures.start c.next.ensures.count c.requires.levels c.requires.order c.requires.within c.raise_ends-2.ensures c.raise.new.values up

pub returns-else-low_by-gt0 : goal.returns-else-low_by-gt0
returns-else-low_by-gt0 t c =
    let left_by : ℕ = most_of_group c.raise_ends-2.new.values c.args.level.start c.args.level.count (c.args.rise.low / 16) - most_of_group c.args.values.now c.args.level.start c.args.level.count (c.args.rise.low / 16) in
    let right_by : ℕ = most_of_group c.raise_ends-2.new.values c.args.level.start c.args.level.count (c.args.rise.high / 16) - most_of_group c.args.values.now c.args.level.start c.args.level.count (c.args.rise.high / 16) in
    let none : left_by ≡ 0 = omega (arith, c.most_of_group-left_after.ensures, c.most_of_group-left_before.ensures, c.if-low_by-gt0.false) in
    let together : c.args.rise.low / 16 ≡ c.args.rise.high / 16 = omega (arith, c.if-left-right.false) in
    raised_below c.args.level.height c.args.level.start c.args.level.count (c.args.level.height - 1) (c.args.level.start + c.args.level.count) (groups_of c.args.level.count) c.args.values.now c.raise_ends-2.new.values c.args.rise.low c.args.rise.low_by c.args.rise.high c.args.rise.high_by c.args.rise.between (omega arith) refl refl c.requires.levels c.requires.order c.requires.within c.raise_ends-2.ensures c.raise_ends-2.new.values
    (subst (λ by. IsRaised (c.args.level.height - 1) (c.args.level.start + c.args.level.count) (groups_of c.args.level.count) c.raise_ends-2.new.values c.raise_ends-2.new.values (c.args.rise.low / 16) by (c.args.rise.high / 16) right_by c.args.rise.between) (sym none) (none_raised c.args.level.height c.args.level.start c.args.level.count (c.args.level.height - 1) (c.args.level.start + c.args.level.count) (groups_of c.args.level.count) c.args.values.now c.raise_ends-2.new.values c.args.rise.low c.args.rise.low_by c.args.rise.high c.args.rise.high_by c.args.rise.between (omega arith) refl refl c.requires.levels c.requires.order c.requires.within c.raise_ends-2.ensures right_by together))

-- What the parts of an arc cost in the windows that it meets.
use Rattle.std.proofs.Common.{◌≡◌, ◌∙◌, ℕ, zero, suc, ◌+◌, ◌-◌, ◌*◌, ◌/◌, ◌<◌, ◌≤◌, ap, sym, refl, arith, sum_by, ⊎_elim}
use Rattle.std.specs.List.{range_with_len}
use Rattle.std.proofs.lemmas.Bool.{cases_lt}
use Rattle.std.proofs.Math.Nat.{mul-le-mul_left, mul-div-le, le_of_mul-le-mul_left}
use Rattle.cache_model.proofs.Streams.{sum_by-range_last}
use Rattle.flow_model.specs.declared.arcs.OuterArc.{OuterArc}
use Rattle.flow_model.specs.Windows.{last_window, part_share, part_steps}

-- what a number of steps of the arc cost
abbrev pub share_at : OuterArc → ℕ → ℕ
share_at arc steps = arc.cost * steps / (arc.end - arc.start)

abbrev pub shares : ℕ → OuterArc → ℕ → ℕ
shares width arc j = part_share width j arc

-- first and last are the first and the last window that the arc meets
pub record AreEnds (width : ℕ) (arc : OuterArc) (first last : ℕ) : Type 0 where
  pub order : arc.start < arc.end
  pub begins : width * first ≤ arc.start
  pub soon : arc.start < width * first + width
  pub ends : width * last < arc.end

pub ends_of : (width : ℕ) (arc : OuterArc) → 0 < width → arc.start < arc.end → AreEnds width arc (arc.start / width) (last_window width arc)
ends_of width arc some order = record { order = order; begins = omega arith; soon = omega arith; ends = omega arith }

-- windows before the first have no share
none_before : (width : ℕ) (arc : OuterArc) (first last k : ℕ) → AreEnds width arc first last → k ≤ first → sum_by (shares width arc) (range_with_len 0 k) ≡ 0
none_before width arc first last zero are low = refl
none_before width arc first last (suc k) are low =
    let below : width * (k + 1) ≤ width * first = mul-le-mul_left width (omega arith) in
    let none : part_steps width k arc ≡ 0 = omega (arith, are.begins, below) in
    let product : arc.cost * part_steps width k arc ≡ 0 = ap (λ n. arc.cost * n) none ∙ omega arith in
    let nothing : shares width arc k ≡ 0 / (arc.end - arc.start) = ap (λ n. n / (arc.end - arc.start)) product in
    let long : 0 < arc.end - arc.start = omega (arith, are.order) in
    omega (arith, sum_by-range_last (shares width arc) k, none_before width arc first last k are (omega arith), nothing)

-- the first window has the share of its steps, and each one after it but the last that of a whole width
up_to : (width : ℕ) (arc : OuterArc) (first last m : ℕ) → AreEnds width arc first last → first + 1 + m ≤ last
    → sum_by (shares width arc) (range_with_len 0 (suc (first + m))) ≡ share_at arc (width * (first + 1) - arc.start) + m * share_at arc width
up_to width arc first last zero are low =
    let below : width * (first + 1) ≤ width * last = mul-le-mul_left width (omega arith) in
    let met : part_steps width first arc ≡ width * (first + 1) - arc.start = omega (arith, are.begins, are.soon, are.ends, below) in
    let same : first + 0 ≡ first = omega arith in
    omega (
      arith,
      ap (λ n. sum_by (shares width arc) (range_with_len 0 (suc n))) same,
      sum_by-range_last (shares width arc) first,
      none_before width arc first last first are (omega arith),
      ap (share_at arc) met,
    )
up_to width arc first last (suc m) are low =
    let at : ℕ = suc (first + m) in
    let next : first + suc m ≡ at = omega arith in
    let below : width * (at + 1) ≤ width * last = mul-le-mul_left width (omega arith) in
    let above : width * (first + 1) ≤ width * at = mul-le-mul_left width (omega arith) in
    let met : part_steps width at arc ≡ width = omega (arith, are.soon, are.ends, below, above) in
    omega (
      arith,
      ap (λ n. sum_by (shares width arc) (range_with_len 0 (suc n))) next,
      sum_by-range_last (shares width arc) at,
      up_to width arc first last m are (omega arith),
      ap (share_at arc) met,
    )

-- shares of parts that have no more steps than the arc cost no more than it
pub together-le : (c long a n w : ℕ) → 0 < long → a + n * w ≤ long → c * a / long + n * (c * w / long) ≤ c
together-le c long a n w some fits =
    let prefix : long * (c * a / long) ≤ c * a = mul-div-le (c * a) long in
    let each : n * (long * (c * w / long)) ≤ n * (c * w) = mul-le-mul_left n (mul-div-le (c * w) long) in
    let all : c * (a + n * w) ≤ c * long = mul-le-mul_left c fits in
    le_of_mul-le-mul_left {m = c * a / long + n * (c * w / long)} {n = c} {k = long} (omega arith) some

-- what the parts before the last window cost
pub record CostsBefore (width : ℕ) (arc : OuterArc) (total : ℕ) : Type 0 where
  pub sum : total ≡ sum_by (shares width arc) (range_with_len 0 (last_window width arc))
  pub most : total ≤ arc.cost

-- where the first window isn't the last, that is the share of the first window and those of the windows between
pub costs_before : (width : ℕ) (arc : OuterArc) (in_first whole_width : ℕ) → 0 < width → arc.start < arc.end → (arc.start / width ≡ last_window width arc → ⊥)
    → in_first ≡ share_at arc ((arc.start / width + 1) * width - arc.start) → whole_width ≡ share_at arc width
    → CostsBefore width arc (in_first + (last_window width arc - arc.start / width - 1) * whole_width)
costs_before width arc in_first whole_width some order other first_is width_is =
    let first : ℕ = arc.start / width in
    let last : ℕ = last_window width arc in
    let m : ℕ = last - first - 1 in
    let are = ends_of width arc some order in
    let apart : first < last =
    ⊎_elim (λ (h : first < last). h)
    (λ (h : last ≤ first).
    ⊎_elim
    (λ (past : last < first).
    let below : width * (last + 1) ≤ width * first = mul-le-mul_left width (omega arith) in
    let late : arc.end ≤ width * last + width = omega arith in
    absurd (omega (arith, are.begins, below, late)))
    (λ (same : first ≤ last). absurd (other (omega arith)))
    (cases_lt last first))
    (cases_lt first last) in
    let turned : (first + 1) * width ≡ width * (first + 1) = omega arith in
    let count : suc (first + m) ≡ last = omega arith in
    let whole : width * (first + 1 + m) ≤ width * last = mul-le-mul_left width (omega arith) in
    let fits : (width * (first + 1) - arc.start) + m * width ≤ arc.end - arc.start = omega (arith, are.soon, are.ends, whole) in
    let first_share : in_first ≡ share_at arc (width * (first + 1) - arc.start) = first_is ∙ ap (λ n. share_at arc (n - arc.start)) turned in
    let product : m * whole_width ≡ m * share_at arc width = ap (λ n. m * n) width_is in
    record {
      sum = omega (arith, ap (λ n. sum_by (shares width arc) (range_with_len 0 n)) count, up_to width arc first last m are (omega arith), first_share, product);
      most = omega (
        arith,
        first_share,
        product,
        together-le arc.cost (arc.end - arc.start) (width * (first + 1) - arc.start) m width (omega arith) fits,
      );
    }

-- and where it is the first, nothing
pub nothing_before : (width : ℕ) (arc : OuterArc) → 0 < width → arc.start < arc.end → arc.start / width ≡ last_window width arc → 0 ≡ sum_by (shares width arc) (range_with_len 0 (last_window width arc))
nothing_before width arc some order same =
    sym (none_before width arc (arc.start / width) (last_window width arc) (last_window width arc) (ends_of width arc some order) (omega arith))

use Rattle.std.proofs.Common.{ℕ, ◌<◌, ap, get_or, arith}
use Rattle.std.proofs.lemmas.List.{get_or-replicate}
use Rattle.bounds_tests.proofs.load_tree_loads.finds_the_greatest_of_parts.Goals as goal

pub add-requires-clause-room : goal.add-requires-clause-room
add-requires-clause-room g c = λ t low high. omega (arith, ap (λ ls. get_or ls t 0) c.in_ok-loads.ensures, get_or-replicate {A = ℕ} 100 t 0 0 high)

pub add-requires-2-clause-room : goal.add-requires-2-clause-room
add-requires-2-clause-room g c =
    λ t low high.
    let within : t < 100 = omega arith in
    omega (arith, ap (λ ls. get_or ls t 0) c.in_ok-loads.ensures, get_or-replicate {A = ℕ} 100 t 0 0 within, c.add.ensures.covered t (omega arith) within)

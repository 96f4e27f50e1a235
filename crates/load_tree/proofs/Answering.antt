-- What a level tells of a range of its places, by what the one above tells of its groups.
use Rattle.std.proofs.Common.{◌≡◌, ◌≢◌, ℕ, ◌+◌, ◌-◌, ◌*◌, ◌/◌, ◌<◌, ◌≤◌, refl, ap, List, get_or, arith}
use Rattle.load_tree.specs.declared.settling.Answer.{Answer}
use Rattle.load_tree.specs.declared.settling.Answer.TheVariants.{Fits, Full, Open}
use Rattle.load_tree.specs.Answers.{IsAnswer}
use Rattle.load_tree.specs.Levels.{load_at, most_of_group}
use Rattle.load_tree.proofs.Levelled.{IsBelow}

module _ (height start count higher next groups : ℕ) (values : List ℕ) (is_below : IsBelow height start count higher next groups values) (low high : ℕ) (order : low ≤ high) (within : high < count) where
  -- what is settled above is settled here
  pub answer_below : (room : ℕ) (answer : Answer) → ((l h : ℕ) → answer ≢ Open l h) → IsAnswer (load_at higher next groups values) (low / 16) (high / 16) room answer → IsAnswer (load_at height start count values) low high room answer
  answer_below room Fits closed fits = λ t first last. omega (arith, is_below.at_most t (omega arith), fits (t / 16) (omega arith) (omega arith))
  answer_below room Full closed full =
      let first : low / 16 < full.0 = full.1 in
      let last : full.0 < high / 16 = full.2 in
      let found = is_below.reached full.0 (omega arith) in
      let at : found.0 / 16 ≡ full.0 = found.2 in
      (found.0, omega arith, omega arith, omega (arith, found.3, full.3))
  answer_below room (Open l h) closed is_open = absurd (closed l h refl)

  -- no load above is too large where none here is
  pub small_above : (limit : ℕ) → ((t : ℕ) → t < count → load_at height start count values t < limit) → (g : ℕ) → 16 * g < count → load_at higher next groups values g < limit
  small_above limit small g some =
      let found = is_below.reached g some in
      omega (arith, found.3, small found.0 found.1)

  -- by what a load of a group is greater than the value there
  pub load_by : (g load : ℕ) → load ≡ load_at higher next groups values g → (t : ℕ) → t / 16 ≡ g → t < count → load_at height start count values t ≡ get_or values (start + t) 0 + (load - most_of_group values start count g)
  load_by g load is t in_group short =
      omega (arith, is, is_below.load_is t short, is_below.most_load g (omega arith), ap (most_of_group values start count) in_group, ap (load_at higher next groups values) in_group)

-- what does not fit is over the room somewhere
pub none_fit : (loads : ℕ → ℕ) (low high room : ℕ) (answer : Answer) → low ≤ high → answer ≢ Fits → IsAnswer loads low high room answer → ((t : ℕ) → low ≤ t → t ≤ high → loads t ≤ room) → ⊥
none_fit loads low high room Fits order other told fits = other refl
none_fit loads low high room Full order other told fits =
    let first : low < told.0 = told.1 in
    let last : told.0 < high = told.2 in
    omega (arith, told.3, fits told.0 (omega arith) (omega arith))
none_fit loads low high room (Open l h) order other told fits = omega (arith, told.0, told.1, told.3, fits low (omega arith) (omega arith), fits high (omega arith) (omega arith))

-- The group of a place and a class, in pages.
use Rattle.std.specs.Prelude.{◌≡◌, ℕ, ◌+◌, ◌*◌, ◌/◌, ◌%◌, ◌<◌, ◌≤◌, slice_index}
use Rattle.area_sums.specs.declared.group.Group.{Group}
use Rattle.area_sums.specs.declared.pages.Pages.{Pages}
use Rattle.area_sums.specs.Groups.{group_at, with_more}
use Rattle.area_sums.specs.PageLayout.{page_size}

-- where the number of the page of a place and a class stands
abbrev pub spot_of : Pages → ℕ → ℕ → ℕ
spot_of pages place class = class / page_size * pages.places + place

-- that number
abbrev pub number_at : Pages → ℕ → ℕ → ℕ
number_at pages place class = slice_index pages.numbers.items (spot_of pages place class)

-- where the group of a place and a class stands
abbrev pub position_of : Pages → ℕ → ℕ → ℕ
position_of pages place class = number_at pages place class * page_size + class % page_size

-- that group
abbrev pub group_in : Pages → ℕ → ℕ → Group
group_in pages place class = group_at pages.groups.items (position_of pages place class)

-- a place and a class have a page of their own
pub record HasPage (pages : Pages) (place class : ℕ) : Type 0 where
  pub reached : class / page_size < pages.rows
  pub numbered : 0 < number_at pages place class

-- there are as many places, and no more rows than reach to the class
pub record KeepsRows (class : ℕ) (old new : Pages) : Type 0 where
  pub places : new.places ≡ old.places
  pub no_more : (rows : ℕ) → old.rows ≤ rows → class < rows * page_size → new.rows ≤ rows

-- no group has changed
abbrev pub HasSameGroups : Pages → Pages → Type 0
HasSameGroups old new = (place class : ℕ) → group_in new place class ≡ group_in old place class

-- one group has more, and no other has changed
abbrev pub HasMoreIn : ℕ → ℕ → Group → Pages → Pages → Type 0
HasMoreIn place class more old new =
    (p c : ℕ) → p < old.places → group_in new p c ≡ with_more (group_in old) place class more p c

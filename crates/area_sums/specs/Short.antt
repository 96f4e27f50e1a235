-- Short numbers, which have few significant binary digits, in the order of their row: 0, 1, 2 and so on.
use Rattle.std.specs.Prelude.{◌≡◌, ℕ, zero, suc, ◌+◌, ◌-◌, ◌*◌, ◌/◌, ◌%◌, ◌^◌, ◌<◌, ◌≤◌, nat_lt, if◌then◌else◌}

-- a number is short if it has at most 12 significant binary digits
pub record IsShort (n : ℕ) : Type 0 where
  pub digits : ℕ
  pub zeros : ℕ
  pub few : digits < 2 ^ 12
  pub written : n ≡ digits * 2 ^ zeros

-- e is the greatest short number not above n
pub record IsShortBelow (e n : ℕ) : Type 0 where
  pub short : IsShort e
  pub not_above : e ≤ n
  pub greatest : (other : ℕ) → IsShort other → other ≤ n → other ≤ e

-- e is the least short number above n
pub record IsShortAbove (e n : ℕ) : Type 0 where
  pub short : IsShort e
  pub above : n < e
  pub least : (other : ℕ) → IsShort other → n < other → e ≤ other

-- the short number at a place of their row
unfoldable pub short_at : ℕ → ℕ
short_at class = if nat_lt class 2048 then class else (2048 + class % 2048) * 2 ^ (class / 2048 - 1)

-- the place of the greatest short number not above n, in at most so many steps, each of which halves
unfoldable pub class_within : ℕ → ℕ → ℕ
class_within zero n = n
class_within (suc steps) n = if nat_lt n 4096 then n else 2048 + class_within steps (n / 2)

-- the class of n: that place
unfoldable pub class_of : ℕ → ℕ
class_of n = class_within n n

-- Numbers and slots.
use Rattle.std.proofs.Common.{◌≡◌, ℕ, ◌+◌, ◌-◌, ◌<◌, ◌≤◌, ◌∙◌, sym, ap, inl, inr, arith, cond, nat_lt}
use Rattle.std.proofs.lemmas.Bool.{cases_lt, lt-ltb, le-ltb}
use Rattle.linked_nodes.specs.Nodes.{renumbered}
use Rattle.linked_nodes.specs.Slotted.{number_at, slot_of}

-- ---- the slot of an object, and of a mark
pub slot-object : (objects k : ℕ) → k < objects → slot_of objects k ≡ k + 3
slot-object objects k low = ap (λ b. cond b (k + 3) (k - objects)) (lt-ltb k objects low)

pub slot-mark : (objects k : ℕ) → objects ≤ k → slot_of objects k ≡ k - objects
slot-mark objects k high = ap (λ b. cond b (k + 3) (k - objects)) (le-ltb k objects high)

pub slot-within : (objects k : ℕ) → k < objects + 3 → slot_of objects k < objects + 3
slot-within objects k within = elim (cases_lt k objects) [
  | inl low ↦ omega (arith, slot-object objects k low, low)
  | inr high ↦ omega (arith, slot-mark objects k high, high, within)
]

-- two numbers with one slot are the same
pub slot-same : (objects j k : ℕ) → j < objects + 3 → k < objects + 3 → slot_of objects j ≡ slot_of objects k → j ≡ k
slot-same objects j k j_within k_within same = elim (cases_lt j objects) [
  | inl j_low ↦ elim (cases_lt k objects) [
    | inl k_low ↦ omega (arith, slot-object objects j j_low, slot-object objects k k_low, same)
    | inr k_high ↦ omega (arith, slot-object objects j j_low, slot-mark objects k k_high, same, k_high, k_within)
  ]
  | inr j_high ↦ elim (cases_lt k objects) [
    | inl k_low ↦ omega (arith, slot-mark objects j j_high, slot-object objects k k_low, same, j_high, j_within)
    | inr k_high ↦ omega (arith, slot-mark objects j j_high, slot-mark objects k k_high, same, j_high, k_high)
  ]
]

-- ---- the number of what stands in a slot
pub number-mark : (objects slot : ℕ) → slot < 3 → number_at objects slot ≡ objects + slot
number-mark objects slot low = ap (λ b. cond b (objects + slot) (number-or objects slot)) (lt-ltb slot 3 low)
  where
    number-or : ℕ → ℕ → ℕ
    number-or n s = cond (nat_lt s (n + 3)) (s - 3) s

pub number-object : (objects slot : ℕ) → 3 ≤ slot → slot < objects + 3 → number_at objects slot ≡ slot - 3
number-object objects slot high low =
    ap (λ b. cond b (objects + slot) (cond (nat_lt slot (objects + 3)) (slot - 3) slot)) (le-ltb slot 3 high)
    ∙ ap (λ b. cond b (slot - 3) slot) (lt-ltb slot (objects + 3) low)

pub number-past : (objects slot : ℕ) → objects + 3 ≤ slot → number_at objects slot ≡ slot
number-past objects slot high =
    ap (λ b. cond b (objects + slot) (cond (nat_lt slot (objects + 3)) (slot - 3) slot)) (le-ltb slot 3 (omega (arith, high)))
    ∙ ap (λ b. cond b (slot - 3) slot) (le-ltb slot (objects + 3) high)

-- that of the slot of a number is the number
pub number-slot : (objects k : ℕ) → k < objects + 3 → number_at objects (slot_of objects k) ≡ k
number-slot objects k within = elim (cases_lt k objects) [
  | inl low ↦
      let slot : slot_of objects k ≡ k + 3 = slot-object objects k low in
      number-object objects (slot_of objects k) (omega (arith, slot)) (omega (arith, slot, low)) ∙ omega (arith, slot)
  | inr high ↦
      let slot : slot_of objects k ≡ k - objects = slot-mark objects k high in
      number-mark objects (slot_of objects k) (omega (arith, slot, high, within)) ∙ omega (arith, slot, high)
]

-- ---- with more objects
pub renumbered-object : (objects more k : ℕ) → k < objects → renumbered objects more k ≡ k
renumbered-object objects more k low = ap (λ b. cond b k (k - objects + more)) (lt-ltb k objects low)

pub renumbered-mark : (objects more k : ℕ) → objects ≤ k → renumbered objects more k ≡ k - objects + more
renumbered-mark objects more k high = ap (λ b. cond b k (k - objects + more)) (le-ltb k objects high)

pub renumbered-within : (objects more k : ℕ) → objects ≤ more → k < objects + 3 → renumbered objects more k < more + 3
renumbered-within objects more k wider within = elim (cases_lt k objects) [
  | inl low ↦ omega (arith, renumbered-object objects more k low, low, wider)
  | inr high ↦ omega (arith, renumbered-mark objects more k high, high, within)
]

-- a number keeps its slot
pub slot-renumbered : (objects more k : ℕ) → objects ≤ more → slot_of more (renumbered objects more k) ≡ slot_of objects k
slot-renumbered objects more k wider = elim (cases_lt k objects) [
  | inl low ↦
      ap (slot_of more) (renumbered-object objects more k low) ∙ slot-object more k (omega (arith, low, wider)) ∙ sym (slot-object objects k low)
  | inr high ↦
      ap (slot_of more) (renumbered-mark objects more k high) ∙ slot-mark more (k - objects + more) (omega (arith, high))
      ∙ omega (arith, slot-mark objects k high, high)
]

-- and what stands in a slot has the new number
pub number-renumbered : (objects more slot : ℕ) → objects ≤ more → number_at objects slot < objects + 3 → number_at more slot ≡ renumbered objects more (number_at objects slot)
number-renumbered objects more slot wider within = elim (cases_lt slot 3) [
  | inl mark ↦
      let is : number_at objects slot ≡ objects + slot = number-mark objects slot mark in
      number-mark more slot mark ∙ omega (arith, renumbered-mark objects more (number_at objects slot) (omega (arith, is)), is)
  | inr past ↦ elim (cases_lt slot (objects + 3)) [
    | inl low ↦
        let is : number_at objects slot ≡ slot - 3 = number-object objects slot past low in
        number-object more slot past (omega (arith, low, wider)) ∙ sym is ∙ sym (renumbered-object objects more (number_at objects slot) (omega (arith, is, past, low)))
    | inr high ↦ absurd (omega (arith, number-past objects slot high, high, within))
  ]
]

-- two numbers are renumbered to one only if they are one
pub renumbered-same : (objects more j k : ℕ) → objects ≤ more → renumbered objects more j ≡ renumbered objects more k → j ≡ k
renumbered-same objects more j k wider same = elim (cases_lt j objects) [
  | inl j_low ↦ elim (cases_lt k objects) [
    | inl k_low ↦ omega (arith, renumbered-object objects more j j_low, renumbered-object objects more k k_low, same)
    | inr k_high ↦ absurd (omega (arith, renumbered-object objects more j j_low, renumbered-mark objects more k k_high, same, j_low, wider))
  ]
  | inr j_high ↦ elim (cases_lt k objects) [
    | inl k_low ↦ absurd (omega (arith, renumbered-mark objects more j j_high, renumbered-object objects more k k_low, same, k_low, wider))
    | inr k_high ↦ omega (arith, renumbered-mark objects more j j_high, renumbered-mark objects more k k_high, same, j_high, k_high)
  ]
]

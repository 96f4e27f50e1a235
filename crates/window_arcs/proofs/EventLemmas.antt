-- Lists of numbers by their keys: as numbers are put into them from the last to the first, and as one is read.
use Rattle.std.proofs.Common.{◌≡◌, ◌≢◌, ◌∙◌, ℕ, suc, ◌+◌, ◌-◌, ◌<◌, ◌≤◌, ◌^◌, ap, sym, refl, subst, Bool, eqb, arith, List, [], ◌∷◌, ◌++◌, length, get_or, set, replicate, length-set, append-nil, All, ⊎_elim}
use Rattle.std.proofs.lemmas.Bool.{cases_eq, ne_eqb}
use Rattle.std.proofs.lemmas.List.{append_assoc, get_or-replicate, get_or_read, length-replicate}
use Rattle.flow_windows.specs.Cuts.{IsListed}
use Rattle.flow_windows.proofs.Gathering.{passing, head_or, head_low, head_high, kept, taken, passing_none}
use Rattle.flow_windows.proofs.Listing.{head_of_list, listed_more}
use Rattle.window_arcs.specs.Events.{numbers_with, AreLinked}

-- the number has the key
abbrev pub has_key : List ℕ → ℕ → ℕ → Bool
has_key keys key i = eqb (get_or keys i 0) key

-- the lists have the numbers from m on
pub record AreBegun (keys : List ℕ) (lists : ℕ) (first next : List ℕ) (m : ℕ) : Type 0 where
  pub each_key : length first ≡ lists
  pub each_number : length next ≡ length keys
  pub listed : (k : ℕ) → k < length first → IsListed (length keys) next (get_or first k 0) (passing (has_key keys k) m (length keys - m))

pub begun_none : (keys : List ℕ) (lists : ℕ) (first next : List ℕ) → first ≡ replicate lists (length keys) → next ≡ replicate (length keys) (length keys) → AreBegun keys lists first next (length keys)
begun_none keys lists first next first_is next_is =
    let past : ℕ = length keys in
    let none : 0 ≡ past - past = omega arith in
    let many : length first ≡ lists = ap length first_is ∙ length-replicate lists past in
    record {
      each_key = many;
      each_number = ap length next_is ∙ length-replicate past past;
      listed = λ k within.
          let ends : get_or first k 0 ≡ past = ap (λ xs. get_or xs k 0) first_is ∙ get_or-replicate lists k past 0 (omega arith) in
          subst (λ n. IsListed past next (get_or first k 0) (passing (has_key keys k) past n)) none ends;
    }

-- with one more number
pub begun_more : (keys : List ℕ) (lists : ℕ) (first next : List ℕ) (m b key head : ℕ) → AreBegun keys lists first next m → b + 1 ≡ m → m ≤ length keys → All (λ k. k < lists) keys → key ≡ get_or keys b key → head ≡ get_or first key head
    → AreBegun keys lists (set first key b) (set next b head) b
begun_more keys lists first next m b key head begun one within all_in key_read head_read =
    let past : ℕ = length keys in
    let left : suc (past - m) ≡ past - b = omega arith in
    let key_is : key ≡ get_or keys b 0 = get_or_read keys b key (omega arith) key_read 0 in
    let key_in : key < length first = omega (arith, key_is, all_in b 0 (omega arith), begun.each_key) in
    let head_is : head ≡ get_or first key 0 = get_or_read first key head key_in head_read 0 in
    let before : (k : ℕ) → k < length first → IsListed past next (get_or first k 0) (passing (has_key keys k) (b + 1) (past - m)) =
    λ k low. subst (λ n. IsListed past next (get_or first k 0) (passing (has_key keys k) n (past - m))) (sym one) (begun.listed k low) in
    record {
      each_key = length-set first key b ∙ begun.each_key;
      each_number = length-set next b head ∙ begun.each_number;
      listed = λ k low.
          subst (λ h. IsListed past (set next b h) (get_or (set first key b) k 0) (passing (has_key keys k) b (past - b))) (sym head_is)
          (subst (λ n. IsListed past (set next b (get_or first key 0)) (get_or (set first key b) k 0) (passing (has_key keys k) b n)) left
          (listed_more past (has_key keys) first next b (past - m) key (omega (arith, begun.each_number)) key_in
          (λ j. ap (λ n. eqb n j) (sym key_is)) before k (omega (arith, low, length-set first key b))));
    }

-- once all numbers are there
pub begun_all : (keys : List ℕ) (lists : ℕ) (first next : List ℕ) (m : ℕ) → AreBegun keys lists first next m → m ≡ 0 → length keys ≤ 2 ^ 26 → All (λ key. key < lists) keys → AreLinked keys first next
begun_all keys lists first next m begun last few within =
    let all : length keys - m ≡ length keys = omega arith in
    record {
      each_number = begun.each_number;
      few = few;
      within = λ i d low. omega (arith, within i d low, begun.each_key);
      each_key = λ k low.
          subst (λ n. IsListed (length keys) next (get_or first k 0) (passing (has_key keys k) 0 n)) all
          (subst (λ a. IsListed (length keys) next (get_or first k 0) (passing (has_key keys k) a (length keys - m))) last (begun.listed k low));
    }

-- what passes from a on is what passes from x on, if x is no later than the first
skipped : (p : ℕ → Bool) (a n past x : ℕ) → a + n ≡ past → a ≤ x → x ≤ head_or past (passing p a n) → passing p a n ≡ passing p x (past - x)
skipped p a n past x all low early =
    ⊎_elim
    (λ (here : a ≡ x).
    let left : n ≡ past - a = omega arith in
    subst (λ y. passing p a n ≡ passing p y (past - y)) here (ap (passing p a) left))
    (λ (later : a ≢ x).
    let next : x - 1 + 1 ≡ x = omega arith in
    subst (λ y. passing p a n ≡ passing p y (past - y)) next (kept p a n past (x - 1) all (omega arith) (omega arith)))
    (cases_eq a x)

-- a list is read up to this number
pub record IsRead (keys next : List ℕ) (key number : ℕ) (old numbers : List ℕ) : Type 0 where
  pub within : number ≤ length keys
  pub listed : IsListed (length keys) next number (passing (has_key keys key) number (length keys - number))
  pub so_far : numbers ++ passing (has_key keys key) number (length keys - number) ≡ old ++ numbers_with keys key

module _ (keys first next : List ℕ) (key : ℕ) (old : List ℕ) (linked : AreLinked keys first next) where
  -- from a number that is no later than the next one of the list
  read_from : (a n number : ℕ) (numbers : List ℕ) → a + n ≡ length keys → IsListed (length keys) next number (passing (has_key keys key) a n)
      → numbers ++ passing (has_key keys key) a n ≡ old ++ numbers_with keys key → IsRead keys next key number old numbers
  read_from a n number numbers all is so_far =
      let past : ℕ = length keys in
      let p : ℕ → Bool = has_key keys key in
      let head : number ≡ head_or past (passing p a n) = head_of_list past number next (passing p a n) is in
      let same : passing p a n ≡ passing p number (past - number) = skipped p a n past number all (omega (arith, head, head_low p a n past all)) (omega (arith, head)) in
      record {
        within = omega (arith, head, head_high p a n past all);
        listed = subst (IsListed past next number) same is;
        so_far = ap (λ xs. numbers ++ xs) (sym same) ∙ so_far;
      }

  -- at its beginning
  pub read_first : (number : ℕ) → key < length first → number ≡ get_or first key number → IsRead keys next key number old old
  read_first number low is = read_from 0 (length keys) number old (omega arith) (subst (λ n. IsListed (length keys) next n (numbers_with keys key)) (sym (get_or_read first key number low is 0)) (linked.each_key key low)) refl

  -- a key past all lists has no numbers
  pub read_none : length first ≤ key → IsRead keys next key (length keys) old old
  read_none past_all =
      let past : ℕ = length keys in
      let p : ℕ → Bool = has_key keys key in
      let all : 0 + past ≡ past = omega arith in
      let nothing : passing p 0 past ≡ [] = ap (passing p 0) (sym all) ∙ passing_none p 0 past (λ i low high. ne_eqb (get_or keys i 0) key (λ e. omega (arith, e, linked.within i 0 (omega arith)))) in
      read_from 0 past past old all (subst (IsListed past next past) (sym nothing) refl) refl

  module _ (number : ℕ) (numbers : List ℕ) (read : IsRead keys next key number old numbers) where
    module _ (inside : number < length keys) where
      is_taken : passing (has_key keys key) number (length keys - number) ≡ number ∷ passing (has_key keys key) (number + 1) (length keys - (number + 1))
      is_taken =
          let past : ℕ = length keys in
          let p : ℕ → Bool = has_key keys key in
          taken p number (past - number) past number (omega arith) (omega arith) inside (sym (head_of_list past number next (passing p number (past - number)) read.listed))

      -- what follows in the list
      follows : IsListed (length keys) next (get_or next number 0) (passing (has_key keys key) (number + 1) (length keys - (number + 1)))
      follows = (subst (IsListed (length keys) next number) is_taken read.listed).1

      module _ (after : ℕ) (is : after ≡ get_or next number after) where
        after_is : after ≡ get_or next number 0
        after_is = get_or_read next number after (omega (arith, linked.each_number)) is 0

        -- the next number is greater
        pub read_up : number < after
        read_up =
            let past : ℕ = length keys in
            let p : ℕ → Bool = has_key keys key in
            omega (arith, after_is, head_of_list past (get_or next number 0) next (passing p (number + 1) (past - (number + 1))) follows, head_low p (number + 1) (past - (number + 1)) past (omega arith))

        -- one more number is read
        pub read_more : IsRead keys next key after old (numbers ++ number ∷ [])
        read_more =
            let past : ℕ = length keys in
            let p : ℕ → Bool = has_key keys key in
            read_from (number + 1) (past - (number + 1)) after (numbers ++ number ∷ []) (omega arith)
            (subst (λ n. IsListed past next n (passing p (number + 1) (past - (number + 1)))) (sym after_is) follows)
            (append_assoc numbers (number ∷ []) (passing p (number + 1) (past - (number + 1))) ∙ ap (λ xs. numbers ++ xs) (sym is_taken) ∙ read.so_far)

    -- at its end
    pub read_all : length keys ≤ number → numbers ≡ old ++ numbers_with keys key
    read_all end =
        let none : length keys - number ≡ 0 = omega arith in
        sym (append-nil numbers) ∙ ap (λ n. numbers ++ passing (has_key keys key) number n) (sym none) ∙ read.so_far

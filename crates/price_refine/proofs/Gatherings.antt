-- The intervals that meet a block, among those that are kept.
use Rattle.std.proofs.Common.{◌≡◌, ◌∙◌, ℕ, ◌+◌, ◌<◌, ◌≤◌, ap, sym, refl, arith, Bool, true, false, cond, List, [], ◌∷◌, ◌++◌, length, filter, take, drop, get_or, All, append-nil, length-drop, ⊎_elim}
use Rattle.std.specs.Prelude.{nat_lt, AllPairs}
use Rattle.std.proofs.lemmas.Bool.{and_parts, and_left, cases_lt, le-ltb, lt-ltb, ltb-true, false≢true}
use Rattle.std.proofs.lemmas.List.{get_or-drop, take-append-drop}
use Rattle.std.proofs.lemmas.List.Elements.{All-head, All-tail, filter-append, filter_more}
use Rattle.cache_model.specs.declared.intervals.Interval.{Interval}
use Rattle.price_refine.specs.declared.block.Block.{Block}
use Rattle.price_refine.specs.Parts.{meets}

-- a filter of a filter that lets all of it pass
pub filter_filter : {X : Type 0} (p q : X → Bool) → ((x : X) → p x ≡ true → q x ≡ true) → (xs : List X) → filter p (filter q xs) ≡ filter p xs
filter_filter p q within [] = refl
filter_filter p q within (x ∷ xs) = at (p x) (q x) refl refl (filter_filter p q within xs)
  where
    at : (s t : Bool) → p x ≡ s → q x ≡ t → filter p (filter q xs) ≡ filter p xs → filter p (cond t (x ∷ filter q xs) (filter q xs)) ≡ cond s (x ∷ filter p xs) (filter p xs)
    at s true is_s is_t rest = ap (λ b. cond b (x ∷ filter p (filter q xs)) (filter p (filter q xs))) is_s ∙ ap (λ ys. cond s (x ∷ ys) ys) rest
    at false false is_s is_t rest = rest
    at true false is_s is_t rest = absurd (false≢true (sym is_t ∙ within x is_s))

-- a filter that lets nothing pass
pub filter_none : {X : Type 0} (p : X → Bool) (xs : List X) → All (λ x. p x ≡ false) xs → filter p xs ≡ []
filter_none p [] none = refl
filter_none p (x ∷ xs) none =
    ap (λ b. cond b (x ∷ filter p xs) (filter p xs)) (All-head (λ y. p y ≡ false) x xs none) ∙ filter_none p xs (All-tail (λ y. p y ≡ false) x xs none)

-- the intervals that end after a place
abbrev pub ends_after : ℕ → Interval → Bool
ends_after place i = nat_lt place i.end

-- a place later on
pub kept_later : (since place next : ℕ) (items met after : List Interval) → since ≤ place → met ≡ filter (ends_after since) (take next items) → after ≡ filter (ends_after place) met
    → after ≡ filter (ends_after place) (take next items)
kept_later since place next items met after earlier kept is =
    is ∙ ap (filter (ends_after place)) kept
    ∙ filter_filter (ends_after place) (ends_after since) (λ i later. lt-ltb since i.end (omega (arith, ltb-true place i.end later))) (take next items)

-- one more interval
pub kept_more : (place next : ℕ) (items met after : List Interval) (d : Interval) → next < length items → met ≡ filter (ends_after place) (take next items)
    → place < (get_or items next d).end → after ≡ met ++ get_or items next d ∷ [] → after ≡ filter (ends_after place) (take (next + 1) items)
kept_more place next items met after d within kept later is =
    let i : Interval = get_or items next d in
    is ∙ ap (λ (xs : List Interval). xs ++ i ∷ []) kept
    ∙ ap (λ t. filter (ends_after place) (take next items) ++ cond t (i ∷ []) []) (sym (lt-ltb place i.end later))
    ∙ sym (filter_more (ends_after place) items next d within)

pub kept_skip : (place next : ℕ) (items met : List Interval) (d : Interval) → next < length items → met ≡ filter (ends_after place) (take next items)
    → (get_or items next d).end ≤ place → met ≡ filter (ends_after place) (take (next + 1) items)
kept_skip place next items met d within kept ended =
    let i : Interval = get_or items next d in
    kept ∙ sym (append-nil (filter (ends_after place) (take next items)))
    ∙ ap (λ t. filter (ends_after place) (take next items) ++ cond t (i ∷ []) []) (sym (le-ltb place i.end ended))
    ∙ sym (filter_more (ends_after place) items next d within)

-- in order of start, all intervals from this one on start at the end of the block or later
pub later_starts : (end next : ℕ) (items : List Interval) → AllPairs (λ i j. i.start < j.start) items → ((d : Interval) → next < length items → end ≤ (get_or items next d).start)
    → (k : ℕ) (d : Interval) → next ≤ k → k < length items → end ≤ (get_or items k d).start
later_starts end next items order first k d late within =
    ⊎_elim
    (λ (behind : next < k). omega (arith, first d (omega arith), order next k d behind within))
    (λ (here : k ≤ next). let same : k ≡ next = omega arith in rw same (first d (omega arith)))
    (cases_lt next k)

-- so all that meet the block are kept
pub all_gathered : (block : Block) (next : ℕ) (items met : List Interval) → AllPairs (λ i j. i.start < j.start) items → met ≡ filter (ends_after block.first) (take next items)
    → ((d : Interval) → next < length items → block.end ≤ (get_or items next d).start) → filter (meets block) items ≡ filter (meets block) met
all_gathered block next items met order kept first =
    let none : filter (meets block) (drop next items) ≡ [] =
    filter_none (meets block) (drop next items) (λ k d within.
    let i : Interval = get_or items (next + k) d in
    let late : block.end ≤ i.start = later_starts block.end next items order first (next + k) d (omega arith) (omega (arith, length-drop next items)) in
    ap (meets block) (get_or-drop next items k d) ∙ and_left (nat_lt i.start block.end) (nat_lt block.first i.end) (le-ltb i.start block.end late)) in
    ap (filter (meets block)) (sym (take-append-drop next items))
    ∙ filter-append (meets block) (take next items) (drop next items)
    ∙ ap (λ (ys : List Interval). filter (meets block) (take next items) ++ ys) none
    ∙ append-nil (filter (meets block) (take next items))
    ∙ sym (filter_filter (meets block) (ends_after block.first) (λ i met. (and_parts (nat_lt i.start block.end) (nat_lt block.first i.end) met).1) (take next items))
    ∙ sym (ap (filter (meets block)) kept)

-- Entries that are a part of others: whatever an object of a size weighs, they weigh no more.
use Rattle.std.proofs.Common.{◌≡◌, ℕ, zero, suc, ◌+◌, ◌<◌, ◌≤◌, ◌⊎◌, inl, inr, ◌∙◌, sym, refl, ap, ⊎_elim, Bool, true, false, ◌||◌, ◌&&◌, cond, eqb, leb, List, [], ◌∷◌, ◌++◌, arith, sum_by, Contains}
use Rattle.std.specs.List.{AllByRecursion}
use Rattle.std.proofs.lemmas.Bool.{eqb-true, eq-eqb, leb-true, leb-false, lt-leb, cond_both, cases_lt, or_parts, or_from, and_parts, and_from}
use Rattle.std.proofs.lemmas.List.Sums.{sum_by-cons, sum_by-append, sum_by_push}
use Rattle.policy_model.specs.States.{Member, Entry, member, member_of, members_of, used, has_entry, IsFit}
use Rattle.policy_model.specs.Steps.{until_fits, change, put_in}
use Rattle.policy_model.proofs.Entries.{Apart, sum_by-put_in}
use Rattle.policy_model.proofs.MemberLemmas.{among-members}

-- what the entries weigh, by object and size
abbrev pub weight : (ℕ → ℕ → ℕ) → List Entry → ℕ
weight f entries = sum_by (λ e. f e.object e.size) entries

abbrev pub IsPart : List Entry → List Entry → Type 0
IsPart new old = (f : ℕ → ℕ → ℕ) → weight f new ≤ weight f old

pub weight-cons : (f : ℕ → ℕ → ℕ) (e : Entry) (rest : List Entry) → weight f (e ∷ rest) ≡ f e.object e.size + weight f rest
weight-cons f e rest = sum_by-cons (λ (g : Entry). f g.object g.size) e rest

pub weight-append : (f : ℕ → ℕ → ℕ) (xs ys : List Entry) → weight f (xs ++ ys) ≡ weight f xs + weight f ys
weight-append f xs ys = sum_by-append (λ (g : Entry). f g.object g.size) xs ys

pub weight-push : (f : ℕ → ℕ → ℕ) (xs : List Entry) (e : Entry) → weight f (xs ++ e ∷ []) ≡ weight f xs + f e.object e.size
weight-push f xs e = sum_by_push (λ (g : Entry). f g.object g.size) xs e

pub weight-put_in : (f : ℕ → ℕ → ℕ) (xs : List Entry) (e : Entry) → weight f (put_in e xs) ≡ weight f xs + f e.object e.size
weight-put_in f xs e = sum_by-put_in (λ (g : Entry). f g.object g.size) xs e

-- ---- how often an object is there
abbrev is_object : ℕ → ℕ → ℕ → ℕ
is_object k object size = cond (eqb object k) 1 0

abbrev times : ℕ → List Entry → ℕ
times k entries = weight (is_object k) entries

one_or_none : (b : Bool) → cond b 1 0 ≤ 1
one_or_none true = omega arith
one_or_none false = omega arith

times-none : (k : ℕ) (entries : List Entry) → has_entry entries k ≡ false → times k entries ≡ 0
times-none k [] none = refl
times-none k (e ∷ rest) none =
    let parts : (eqb e.object k ≡ false) × (has_entry rest k ≡ false) = or_parts _ _ none in
    omega (arith, weight-cons (is_object k) e rest, ap (λ b. cond {A = ℕ} b 1 0) parts.0, times-none k rest parts.1)

none-times : (k : ℕ) (entries : List Entry) → times k entries ≤ 0 → has_entry entries k ≡ false
none-times k [] few = refl
none-times k (e ∷ rest) few = or_from (eqb e.object k) (has_entry rest k) (here (eqb e.object k) refl) (none-times k rest (omega (arith, weight-cons (is_object k) e rest)))
  where
    here : (b : Bool) → eqb e.object k ≡ b → eqb e.object k ≡ false
    here true is = absurd (omega (arith, weight-cons (is_object k) e rest, ap (λ t. cond {A = ℕ} t 1 0) is))
    here false is = is

apart-times : (k : ℕ) (entries : List Entry) → Apart entries → times k entries ≤ 1
apart-times k [] apart = omega arith
apart-times k (e ∷ rest) apart = at (eqb e.object k) refl (apart-times k rest apart.1)
  where
    at : (b : Bool) → eqb e.object k ≡ b → times k rest ≤ 1 → times k (e ∷ rest) ≤ 1
    at true is later =
        let none : has_entry rest k ≡ false = ap (has_entry rest) (sym (eqb-true e.object k is)) ∙ apart.0 in
        omega (arith, weight-cons (is_object k) e rest, one_or_none (eqb e.object k), times-none k rest none)
    at false is later = omega (arith, weight-cons (is_object k) e rest, ap (λ b. cond {A = ℕ} b 1 0) is)

times-apart : (entries : List Entry) → ((k : ℕ) → times k entries ≤ 1) → Apart entries
times-apart [] few = tt
times-apart (e ∷ rest) few = (
  none-times e.object rest (let once : times e.object (e ∷ rest) ≤ 1 = few e.object in omega (arith, weight-cons (is_object e.object) e rest, ap (λ b. cond {A = ℕ} b 1 0) (eq-eqb e.object e.object refl))),
  times-apart rest (λ k. let most : times k (e ∷ rest) ≤ 1 = few k in omega (arith, weight-cons (is_object k) e rest)),
)

-- ---- what a part has of the whole
pub part-used : (new old : List Entry) → IsPart new old → used new ≤ used old
part-used new old part = part (λ object size. size)

pub part-none : (k : ℕ) (new old : List Entry) → IsPart new old → has_entry old k ≡ false → has_entry new k ≡ false
part-none k new old part none = none-times k new (let few : times k new ≤ times k old = part (is_object k) in omega (arith, times-none k old none))

pub part-apart : (new old : List Entry) → IsPart new old → Apart old → Apart new
part-apart new old part apart = times-apart new (λ k. let few : times k new ≤ times k old = part (is_object k) in omega (arith, apart-times k old apart))

pub part-trans : (new mid old : List Entry) → IsPart new mid → IsPart mid old → IsPart new old
part-trans new mid old first second f =
    let low : weight f new ≤ weight f mid = first f in
    let high : weight f mid ≤ weight f old = second f in
    omega arith

-- an entry of this object and size
abbrev is_member : Entry → ℕ → ℕ → ℕ
is_member e object size = cond (eqb object e.object && eqb size e.size) 1 0

there : (e : Entry) (all : List Entry) → 1 ≤ weight (is_member e) all → Contains (members_of all) (member_of e)
there e [] some = absurd (omega arith)
there e (g ∷ rest) some = at (eqb g.object e.object && eqb g.size e.size) refl (there e rest)
  where
    at : (b : Bool) → (eqb g.object e.object && eqb g.size e.size) ≡ b → (1 ≤ weight (is_member e) rest → Contains (members_of rest) (member_of e)) → Contains (members_of (g ∷ rest)) (member_of e)
    at true is more =
        let parts : (eqb g.object e.object ≡ true) × (eqb g.size e.size ≡ true) = and_parts _ _ is in
        let same : member_of g ≡ member_of e = ap (λ (o : ℕ). member o g.size) (eqb-true g.object e.object parts.0) ∙ ap (λ (n : ℕ). member e.object n) (eqb-true g.size e.size parts.1) in
        (0, omega arith, same)
    at false is more =
        let later : Contains (members_of rest) (member_of e) = more (omega (arith, weight-cons (is_member e) g rest, ap (λ b. cond {A = ℕ} b 1 0) is)) in
        (suc later.0, (let low = later.1 in omega arith), later.2)

each-there : (entries all : List Entry) → IsPart entries all → AllByRecursion (λ e. Contains (members_of all) (member_of e)) entries
each-there [] all part = tt
each-there (e ∷ rest) all part = (
  there e all (
      let low : weight (is_member e) (e ∷ rest) ≤ weight (is_member e) all = part (is_member e) in
      omega (arith, weight-cons (is_member e) e rest, ap (λ b. cond {A = ℕ} b 1 0) (and_from (eqb e.object e.object) (eqb e.size e.size) (eq-eqb e.object e.object refl) (eq-eqb e.size e.size refl)))
      ),
  each-there rest all (λ f. let low : weight f (e ∷ rest) ≤ weight f all = part f in omega (arith, weight-cons f e rest)),
)

pub part-members : (new old : List Entry) → IsPart new old → (m : Member) → Contains (members_of new) m → Contains (members_of old) m
part-members new old part m c = among-members old new (each-there new old part) m c

-- ---- what comes in beside a part
module _ (c : ℕ) (e : Entry) (new old : List Entry) (part : IsPart new (e ∷ old)) where
  pub part-fit : has_entry old e.object ≡ false → Apart old → used new ≤ c → IsFit c new
  part-fit none apart low = record { room = low; apart = part-apart new (e ∷ old) part (none, apart) }

  pub part-enters : (m : Member) → Contains (members_of new) m → Contains (members_of old) m ⊎ (m ≡ member e.object e.size)
  part-enters m h = at (part-members new (e ∷ old) part m h)
    where
      at : Contains (members_of (e ∷ old)) m → Contains (members_of old) m ⊎ (m ≡ member e.object e.size)
      at (zero, within, is) = inr (sym is)
      at (suc k, within, is) = inl (k, omega arith, is)

-- ---- an entry that is changed keeps its object
module _ (by : Entry → Entry) (same_object : (e : Entry) → (by e).object ≡ e.object) (k : ℕ) where
  pub has_entry-change : (j : ℕ) (entries : List Entry) → has_entry (change by k entries) j ≡ has_entry entries j
  has_entry-change j [] = refl
  has_entry-change j (e ∷ rest) =
      ap (λ i. eqb i j || has_entry (change by k rest) j) (cond_both (eqb e.object k) (by e) e (λ g. g.object ≡ e.object) (λ _. same_object e) (λ _. refl))
      ∙ ap (λ b. eqb e.object j || b) (has_entry-change j rest)

  pub Apart-change : (entries : List Entry) → Apart entries → Apart (change by k entries)
  Apart-change [] apart = tt
  Apart-change (e ∷ rest) apart = (
    ap (has_entry (change by k rest)) (cond_both (eqb e.object k) (by e) e (λ g. g.object ≡ e.object) (λ _. same_object e) (λ _. refl)) ∙ has_entry-change e.object rest ∙ apart.0,
    Apart-change rest apart.1,
  )

-- ---- and its size
module _ (by : Entry → Entry) (same_object : (e : Entry) → (by e).object ≡ e.object) (same_size : (e : Entry) → (by e).size ≡ e.size) (k : ℕ) where
  pub weight-change : (f : ℕ → ℕ → ℕ) (entries : List Entry) → weight f (change by k entries) ≡ weight f entries
  weight-change f [] = refl
  weight-change f (e ∷ rest) =
      omega (
        arith,
        weight-change f rest,
        weight-cons f e rest,
        weight-cons f (cond (eqb e.object k) (by e) e) (change by k rest),
        cond_both (eqb e.object k) (by e) e (λ g. f g.object g.size ≡ f e.object e.size)
            (λ _. ap (λ o. f o (by e).size) (same_object e) ∙ ap (f e.object) (same_size e)) (λ _. refl),
      )

  pub part-change : (entries : List Entry) → IsPart (change by k entries) entries
  part-change entries f = omega (arith, weight-change f entries)

-- ---- turns until a size fits
module _ {K : Type 0} (turn : K → K) (held : K → ℕ) (capacity size : ℕ) where
  pub until-fits : (n : ℕ) (kept : K) → leb (held kept + size) capacity ≡ true → until_fits turn held capacity size n kept ≡ kept
  until-fits zero kept fits = refl
  until-fits (suc n) kept fits = ap (λ b. cond b kept (until_fits turn held capacity size n (turn kept))) fits

  pub until-over : (n : ℕ) (kept : K) → leb (held kept + size) capacity ≡ false → until_fits turn held capacity size (suc n) kept ≡ until_fits turn held capacity size n (turn kept)
  until-over n kept over = ap (λ b. cond b kept (until_fits turn held capacity size n (turn kept))) over

  made : (n : ℕ) (kept : K) (P : K → Type 0) → (leb (held kept + size) capacity ≡ true → P kept) → (leb (held kept + size) capacity ≡ false → P (until_fits turn held capacity size n (turn kept)))
      → P (until_fits turn held capacity size (suc n) kept)
  made n kept P fits full = cond_both (leb (held kept + size) capacity) kept (until_fits turn held capacity size n (turn kept)) P fits full

  pub until-part : (entries_of : K → List Entry) → ((kept : K) → IsPart (entries_of (turn kept)) (entries_of kept))
      → (n : ℕ) (kept : K) → IsPart (entries_of (until_fits turn held capacity size n kept)) (entries_of kept)
  until-part entries_of each zero kept f = omega arith
  until-part entries_of each (suc n) kept f =
      made n kept (λ last. weight f (entries_of last) ≤ weight f (entries_of kept)) (λ _. omega arith)
      (λ _. let one : weight f (entries_of (turn kept)) ≤ weight f (entries_of kept) = each kept f in omega (arith, until-part entries_of each n (turn kept) f))

  pub until-room : (most : K → ℕ) → ((kept : K) → 0 < held kept → most (turn kept) < most kept)
      → (n : ℕ) (kept : K) → most kept ≤ n → size ≤ capacity → held (until_fits turn held capacity size n kept) + size ≤ capacity
  until-room most ends zero kept few small =
      ⊎_elim
      (λ (some : 0 < held kept). absurd (let less : most (turn kept) < most kept = ends kept some in omega arith))
      (λ (none : held kept ≤ 0). omega arith)
      (cases_lt 0 (held kept))
  until-room most ends (suc n) kept few small =
      made n kept (λ last. held last + size ≤ capacity)
      (λ fits. leb-true (held kept + size) capacity fits)
      (λ full.
      let over : capacity < held kept + size = leb-false (held kept + size) capacity full in
      let less : most (turn kept) < most kept = ends kept (omega arith) in
      until-room most ends n (turn kept) (omega arith) small)

  -- one turn of a loop that goes on to what the turns come to
  pub until-turn : (most : K → ℕ) → ((kept : K) → 0 < held kept → most (turn kept) < most kept)
      → (n : ℕ) (kept last : K) → capacity < held kept + size → 0 < held kept → most kept ≤ n → until_fits turn held capacity size n kept ≡ last
      → (m : ℕ) × (most (turn kept) ≤ m) × (until_fits turn held capacity size m (turn kept) ≡ last)
  until-turn most ends zero kept last full some few is = absurd (let less : most (turn kept) < most kept = ends kept some in omega arith)
  until-turn most ends (suc m) kept last full some few is = (
    m,
    (let less : most (turn kept) < most kept = ends kept some in omega arith),
    sym (until-over m kept (lt-leb (held kept + size) capacity full)) ∙ is,
  )

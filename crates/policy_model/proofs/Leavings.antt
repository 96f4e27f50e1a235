-- What stays once the entry of an object has left: the others, in order, whatever the rule.
use Rattle.std.proofs.Common.{◌≡◌, ◌≢◌, ℕ, ◌≤◌, ◌∙◌, sym, refl, ap, subst, Bool, true, false, not, cond, eqb, List, [], ◌∷◌, ◌++◌, take, drop, arith, All, ◌||◌}
use Rattle.std.specs.List.{AllByRecursion}
use Rattle.std.proofs.lemmas.Bool.{eqb-true, eqb-false, not-true, or_parts, or_from, cond_both}
use Rattle.std.proofs.lemmas.List.{take-append-drop}
use Rattle.std.proofs.lemmas.List.Elements.{All-from_recursion}
use Rattle.policy_model.specs.declared.names.PolicyName.{PolicyName}
use Rattle.policy_model.specs.declared.names.PolicyName.TheVariants.{Sieve, S3Fifo, WTinyLfu}
use Rattle.policy_model.specs.States.{Member, Entry, State, member_of, members_of, has_member, used, has_entry, IsFit}
use Rattle.policy_model.specs.Steps.{without_entry}
use Rattle.policy_model.specs.WTinyLfu.{Segments, window_part, main_part, main_used, segments_of, frequencies_of, segment_entries}
use Rattle.policy_model.specs.Leaving.{without_member, segments_without, stock_without, let_go}
use Rattle.policy_model.proofs.Entries.{without-none}
use Rattle.policy_model.proofs.Parts.{part-used, part-apart}
use Rattle.policy_model.proofs.AgingSound.{without-part}
use Rattle.policy_model.proofs.SieveSound.{again-entries}
use Rattle.policy_model.proofs.WTinyLfuSound.{KeepsShares, shared_segments}

pub without-append : (k : ℕ) (xs ys : List Entry) → without_entry k (xs ++ ys) ≡ without_entry k xs ++ without_entry k ys
without-append k [] ys = refl
without-append k (e ∷ xs) ys = at (eqb e.object k) (without-append k xs ys)
  where
    at : (b : Bool) → without_entry k (xs ++ ys) ≡ without_entry k xs ++ without_entry k ys
        → cond (not b) (e ∷ without_entry k (xs ++ ys)) (without_entry k (xs ++ ys)) ≡ cond (not b) (e ∷ without_entry k xs) (without_entry k xs) ++ without_entry k ys
    at true more = more
    at false more = ap (λ es. e ∷ es) more

pub members-without : (k : ℕ) (entries : List Entry) → members_of (without_entry k entries) ≡ without_member k (members_of entries)
members-without k [] = refl
members-without k (e ∷ rest) = at (eqb e.object k) (members-without k rest)
  where
    at : (b : Bool) → members_of (without_entry k rest) ≡ without_member k (members_of rest)
        → members_of (cond (not b) (e ∷ without_entry k rest) (without_entry k rest)) ≡ cond (not b) (member_of e ∷ without_member k (members_of rest)) (without_member k (members_of rest))
    at true more = more
    at false more = ap (λ ms. member_of e ∷ ms) more

-- none of the members is of the object
pub without_member-gone : (k : ℕ) (members : List Member) → has_member (without_member k members) k ≡ false
without_member-gone k [] = refl
without_member-gone k (m ∷ rest) =
    cond_both (not (eqb m.object k)) (m ∷ without_member k rest) (without_member k rest) (λ ms. has_member ms k ≡ false)
    (λ other. ap (λ b. b || has_member (without_member k rest) k) (not-true (eqb m.object k) other) ∙ without_member-gone k rest) (λ _. without_member-gone k rest)

pub without_member-apart : (k : ℕ) (members : List Member) → All (λ m. m.object ≢ k) (without_member k members)
without_member-apart k members = All-from_recursion (λ (m : Member). m.object ≢ k) (without_member k members) (each members)
  where
    each : (ms : List Member) → AllByRecursion (λ (m : Member). m.object ≢ k) (without_member k ms)
    each [] = tt
    each (m ∷ rest) =
        cond_both (not (eqb m.object k)) (m ∷ without_member k rest) (without_member k rest) (AllByRecursion (λ (n : Member). n.object ≢ k))
        (λ other. (eqb-false m.object k (not-true (eqb m.object k) other), each rest)) (λ _. each rest)

-- and each other object is there as before
pub without_member-others : (k j : ℕ) (members : List Member) → eqb k j ≡ false → has_member (without_member k members) j ≡ has_member members j
without_member-others k j [] other = refl
without_member-others k j (m ∷ rest) other = at (eqb m.object k) refl (without_member-others k j rest other)
  where
    at : (b : Bool) → eqb m.object k ≡ b → has_member (without_member k rest) j ≡ has_member rest j
        → has_member (cond (not b) (m ∷ without_member k rest) (without_member k rest)) j ≡ (eqb m.object j || has_member rest j)
    at true same more = more ∙ sym (ap (λ b. b || has_member rest j) (ap (λ n. eqb n j) (eqb-true m.object k same) ∙ other))
    at false apart more = ap (λ b. eqb m.object j || b) more

pub fit-without : (c k : ℕ) (entries : List Entry) → IsFit c entries → IsFit c (without_entry k entries)
fit-without c k entries fit = record {
  room = (let low : used entries ≤ c = fit.room in omega (arith, part-used (without_entry k entries) entries (without-part k entries)));
  apart = part-apart (without_entry k entries) entries (without-part k entries) fit.apart;
}

-- ---- an object that is in neither part of entries
pub absent-left : (k : ℕ) (xs ys : List Entry) → has_entry (xs ++ ys) k ≡ false → has_entry xs k ≡ false
absent-left k [] ys none = refl
absent-left k (e ∷ xs) ys none =
    let parts : (eqb e.object k ≡ false) × (has_entry (xs ++ ys) k ≡ false) = or_parts _ _ none in
    or_from (eqb e.object k) (has_entry xs k) parts.0 (absent-left k xs ys parts.1)

pub absent-right : (k : ℕ) (xs ys : List Entry) → has_entry (xs ++ ys) k ≡ false → has_entry ys k ≡ false
absent-right k [] ys none = none
absent-right k (e ∷ xs) ys none = absent-right k xs ys (or_parts (eqb e.object k) (has_entry (xs ++ ys) k) none).1

-- it leaves no segment
pub segments-none : (k : ℕ) (q : Segments) → has_entry (segment_entries q) k ≡ false → segments_without k q ≡ q
segments-none k q none =
    let of : List Entry → List Entry → List Entry → Segments = λ w p t. record { window = w; main = record { probation = p; protected = t } } in
    let rest : has_entry (q.main.probation ++ q.main.protected) k ≡ false = absent-right k q.window (q.main.probation ++ q.main.protected) none in
    ap (λ es. of es (without_entry k q.main.probation) (without_entry k q.main.protected)) (without-none k q.window (absent-left k q.window (q.main.probation ++ q.main.protected) none))
    ∙ ap (λ es. of q.window es (without_entry k q.main.protected)) (without-none k q.main.probation (absent-left k q.main.probation q.main.protected rest))
    ∙ ap (of q.window q.main.probation) (without-none k q.main.protected (absent-right k q.main.probation q.main.protected rest))

-- ---- every entry but the object's
-- both parts of entries that are cut somewhere
parts-without : (k n : ℕ) (entries : List Entry) → without_entry k (take n entries) ++ without_entry k (drop n entries) ≡ without_entry k entries
parts-without k n entries = sym (without-append k (take n entries) (drop n entries)) ∙ ap (without_entry k) (take-append-drop n entries)

module _ (s : State) (k : ℕ) where
  stock-entries : (name : PolicyName) → (stock_without name s k).entries ≡ without_entry k s.entries
  stock-entries Sieve = again-entries (without_entry k (take s.beside.first s.entries)) (without_entry k (drop s.beside.first s.entries)) ∙ parts-without k s.beside.first s.entries
  stock-entries S3Fifo = parts-without k s.beside.first s.entries
  stock-entries WTinyLfu =
      ap (λ es. without_entry k (take s.beside.first s.entries) ++ es) (parts-without k s.beside.second (drop s.beside.first s.entries)) ∙ parts-without k s.beside.first s.entries
  stock-entries name = refl

  -- the entries are those of before without the object's
  pub entries-let_go : (let_go s k).entries ≡ without_entry k s.entries
  entries-let_go = stock-entries s.name

  -- and so are the members
  pub members-let_go : members_of (let_go s k).entries ≡ without_member k (members_of s.entries)
  members-let_go = ap members_of entries-let_go ∙ members-without k s.entries

  -- they still fit and are apart
  pub fit-let_go : (c : ℕ) → IsFit c s.entries → IsFit c (let_go s k).entries
  fit-let_go c fit = subst (IsFit c) (sym entries-let_go) (fit-without c k s.entries fit)

  stock-shares : (name : PolicyName) (c : ℕ) → KeepsShares name c s.entries s.beside → KeepsShares name c (stock_without name s k).entries (stock_without name s k).beside
  stock-shares WTinyLfu c shares =
      let q : Segments = segments_of s in
      let window : used q.window ≤ window_part c = shares.window in
      let main : main_used q.main ≤ main_part c = shares.main in
      shared_segments c (frequencies_of s) (segments_without k q)
      (omega (arith, part-used (without_entry k q.window) q.window (without-part k q.window)))
      (omega (
        arith,
        part-used (without_entry k q.main.probation) q.main.probation (without-part k q.main.probation),
        part-used (without_entry k q.main.protected) q.main.protected (without-part k q.main.protected),
      ))
  stock-shares name c shares = tt

  -- each segment keeps within its part
  pub shares-let_go : (c : ℕ) → KeepsShares s.name c s.entries s.beside → KeepsShares s.name c (let_go s k).entries (let_go s k).beside
  shares-let_go c shares = stock-shares s.name c shares

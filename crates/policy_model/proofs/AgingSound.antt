-- The entries of the rules that go by a floor, as the least ranks go.
use Rattle.std.proofs.Common.{◌≡◌, ℕ, ◌<◌, ◌≤◌, refl, ap, not, eqb, leb, List, [], ◌∷◌, length, arith}
use Rattle.std.proofs.lemmas.Bool.{cond_both}
use Rattle.policy_model.specs.declared.names.PolicyName.{PolicyName}
use Rattle.policy_model.specs.declared.names.PolicyName.TheVariants.{Gdsf98}
use Rattle.policy_model.specs.States.{Entry, Stock, State, used}
use Rattle.policy_model.specs.Steps.{without_entry, foremost, put_in, remove_foremost}
use Rattle.policy_model.specs.Aging.{ranked_entry, raised, is_below, over_floor, age_at, age, stock_used, ranked_in, admitted_in, freed_for}
use Rattle.policy_model.proofs.Removals.{Shrinks-foremost}
use Rattle.policy_model.proofs.Parts.{weight, weight-cons, weight-put_in, IsPart, until-part, until-room}

abbrev pub stock_entries : Stock → List Entry
stock_entries kept = kept.entries

pub raised-object : (name : PolicyName) (floor now : ℕ) (e : Entry) → (raised name floor now e).object ≡ e.object
raised-object name floor now e = refl

pub raised-size : (name : PolicyName) (floor now : ℕ) (e : Entry) → (raised name floor now e).size ≡ e.size
raised-size name floor now e = refl

pub without-part : (k : ℕ) (entries : List Entry) → IsPart (without_entry k entries) entries
without-part k [] f = omega arith
without-part k (e ∷ rest) f =
    cond_both (not (eqb e.object k)) (e ∷ without_entry k rest) (without_entry k rest) (λ es. weight f es ≤ weight f (e ∷ rest))
    (λ _. omega (arith, without-part k rest f, weight-cons f e rest, weight-cons f e (without_entry k rest)))
    (λ _. omega (arith, without-part k rest f, weight-cons f e rest))

age-entries : (floor : ℕ) (entries : List Entry) → (age_at floor entries).entries ≡ remove_foremost is_below entries
age-entries floor [] = refl
age-entries floor (e ∷ rest) = refl

foremost-part : (entries : List Entry) → IsPart (remove_foremost is_below entries) entries
foremost-part [] f = omega arith
foremost-part (e ∷ rest) f = without-part (foremost is_below e rest).object (e ∷ rest) f

pub age-part : (kept : Stock) → IsPart (stock_entries (age kept)) (stock_entries kept)
age-part kept f = omega (arith, ap (weight f) (age-entries kept.beside.floor kept.entries), foremost-part kept.entries f)

abbrev pub stock_length : Stock → ℕ
stock_length kept = length kept.entries

pub age-ends : (kept : Stock) → 0 < stock_used kept → stock_length (age kept) < stock_length kept
age-ends kept some = omega (arith, ap length (age-entries kept.beside.floor kept.entries), (Shrinks-foremost is_below).ends kept.entries some)

module _ (s : State) (object size : ℕ) where
  abbrev left : Stock
  left = freed_for s size

  abbrev pub left_floor : ℕ
  left_floor = left.beside.floor

  -- an entry of this size that comes in is put in with what is left
  put-part : (e : Entry) → IsPart (put_in e left.entries) (e ∷ s.entries)
  put-part e f =
      omega (
        arith,
        weight-put_in f left.entries e,
        until-part age stock_used s.capacity size stock_entries age-part (length s.entries) (over_floor s.beside.floor s.entries) f,
        weight-cons f e s.entries,
      )

  put-room : (e : Entry) → e.size ≡ size → size ≤ s.capacity → used (put_in e left.entries) ≤ s.capacity
  put-room e is small =
      omega (
        arith,
        weight-put_in (λ o n. n) left.entries e,
        until-room age stock_used s.capacity size stock_length age-ends (length s.entries) (over_floor s.beside.floor s.entries) (omega arith) small,
        is,
      )

  -- ---- every object that fits comes in
  module _ (name : PolicyName) where
    abbrev pub aged_missed : List Entry
    aged_missed = (ranked_in name s.now object size left).entries

    pub aged-part : IsPart aged_missed (ranked_entry name left.beside.floor s.now object size ∷ s.entries)
    aged-part f = put-part (ranked_entry name left.beside.floor s.now object size) f

    pub aged-room : size ≤ s.capacity → used aged_missed ≤ s.capacity
    aged-room small = put-room (ranked_entry name left.beside.floor s.now object size) refl small

  -- ---- only those come in that no greater rank has to go for
  abbrev kept : Stock
  kept = record { entries = s.entries; beside = s.beside }

  abbrev pub own_entry : Entry
  own_entry = ranked_entry Gdsf98 s.beside.floor s.now object size

  abbrev pub admitted_missed : List Entry
  admitted_missed = (admitted_in own_entry kept left).entries

  pub admitted-part : IsPart admitted_missed (own_entry ∷ s.entries)
  admitted-part f =
      cond_both (leb left.beside.floor own_entry.rank) (over_floor left.beside.floor (put_in own_entry left.entries)) kept (λ stock. weight f stock.entries ≤ weight f (own_entry ∷ s.entries))
      (λ _. put-part own_entry f)
      (λ _. omega (arith, weight-cons f own_entry s.entries))

  pub admitted-room : used s.entries ≤ s.capacity → size ≤ s.capacity → used admitted_missed ≤ s.capacity
  admitted-room fits small =
      cond_both (leb left.beside.floor own_entry.rank) (over_floor left.beside.floor (put_in own_entry left.entries)) kept (λ stock. used stock.entries ≤ s.capacity)
      (λ _. put-room own_entry refl small)
      (λ _. fits)

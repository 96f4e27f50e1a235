-- What a step of each rule keeps: the entries fit, are apart, and are former ones or the one requested.
use Rattle.std.proofs.Common.{◌≡◌, ℕ, ◌<◌, ◌≤◌, ◌⊎◌, inl, ◌∙◌, refl, ap, Bool, true, false, cond, leb, ◌∷◌, Contains, None, arith}
use Rattle.std.specs.declared.option.Option.{Option}
use Rattle.std.specs.List.{AllByRecursion}
use Rattle.std.proofs.lemmas.Bool.{leb-true, le-leb, lt-leb}
use Rattle.policy_model.specs.declared.names.PolicyName.{PolicyName}
use Rattle.policy_model.specs.declared.names.PolicyName.TheVariants.{Sieve, S3Fifo, Gdsf, Lfuda, Gdsf98, WTinyLfu}
use Rattle.policy_model.specs.States.{Member, Entry, Stock, State, member, members_of, used, has_entry}
use Rattle.policy_model.specs.Steps.{touched, touch, change, fresh_entry, served}
use Rattle.policy_model.specs.Aging.{ranked_entry, raised}
use Rattle.policy_model.specs.Rules.{stock_after, entries_after, beside_after}
use Rattle.policy_model.proofs.Sound.{IsFit, fit-plain, touched-object, touched-size}
use Rattle.policy_model.proofs.MemberLemmas.{enters-plain}
use Rattle.policy_model.proofs.Parts.{IsPart, part-used, part-apart, part-members, part-fit, part-enters, part-change}
use Rattle.policy_model.proofs.SieveSound.{sieve-part, sieve-room}
use Rattle.policy_model.proofs.S3FifoSound.{s3fifo-part, s3fifo-room}
use Rattle.policy_model.proofs.AgingSound.{left_floor, aged-part, aged-room, own_entry, admitted-part, admitted-room, raised-object, raised-size}
use Rattle.policy_model.proofs.WTinyLfuSound.{tinylfu_hit-part, tinylfu-part, tinylfu-room, tinylfu-shared, KeepsShares}

-- what a rule makes of a hit is a part of the entries, and what it makes of a miss a part of them and of the one requested, that fits
module _ (s : State) (object size : ℕ) (hit miss : Stock) (e : Entry) where
  -- what a request comes to
  pub served-hit : has_entry s.entries object ≡ true → served s object size hit miss ≡ hit
  served-hit there = ap (λ b. cond b hit (cond (leb size s.capacity) miss (record { entries = s.entries; beside = s.beside }))) there

  pub served-large : has_entry s.entries object ≡ false → s.capacity < size → served s object size hit miss ≡ record { entries = s.entries; beside = s.beside }
  served-large none large =
      ap (λ b. cond b hit (cond (leb size s.capacity) miss (record { entries = s.entries; beside = s.beside }))) none
      ∙ ap (λ b. cond b miss (record { entries = s.entries; beside = s.beside })) (lt-leb size s.capacity large)

  pub served-small : has_entry s.entries object ≡ false → size ≤ s.capacity → served s object size hit miss ≡ miss
  served-small none small =
      ap (λ b. cond b hit (cond (leb size s.capacity) miss (record { entries = s.entries; beside = s.beside }))) none
      ∙ ap (λ b. cond b miss (record { entries = s.entries; beside = s.beside })) (le-leb size s.capacity small)

  module _ (of_hit : IsPart hit.entries s.entries) (is_object : e.object ≡ object) (is_size : e.size ≡ size) (of_miss : IsPart miss.entries (e ∷ s.entries)) where
    pub served-fit : (size ≤ s.capacity → used miss.entries ≤ s.capacity) → IsFit s.capacity s.entries → IsFit s.capacity (served s object size hit miss).entries
    served-fit room fit = at (has_entry s.entries object) (leb size s.capacity) refl refl
      where
        at : (there small : Bool) → has_entry s.entries object ≡ there → leb size s.capacity ≡ small
            → IsFit s.capacity (cond there hit (cond small miss (record { entries = s.entries; beside = s.beside }))).entries
        at true small is fits = record { room = (let low : used s.entries ≤ s.capacity = fit.room in omega (arith, part-used hit.entries s.entries of_hit)); apart = part-apart hit.entries s.entries of_hit fit.apart }
        at false true is fits = part-fit s.capacity e miss.entries s.entries of_miss (ap (has_entry s.entries) is_object ∙ is) fit.apart (room (leb-true size s.capacity fits))
        at false false is fits = fit

    pub served-enters : (m : Member) → Contains (members_of (served s object size hit miss).entries) m → Contains (members_of s.entries) m ⊎ (m ≡ member object size)
    served-enters m = at (has_entry s.entries object) (leb size s.capacity)
      where
        at : (there small : Bool) → Contains (members_of (cond there hit (cond small miss (record { entries = s.entries; beside = s.beside }))).entries) m → Contains (members_of s.entries) m ⊎ (m ≡ member object size)
        at true small c = inl (part-members hit.entries s.entries of_hit m c)
        at false true c = rw (← is_object) (rw (← is_size) (part-enters s.capacity e miss.entries s.entries of_miss m c))
        at false false c = inl c

-- ---- each rule
module _ (s : State) (object size : ℕ) (next : Option ℕ) where
  touched-part : (name : PolicyName) → IsPart (touch name s.now None object s.entries) s.entries
  touched-part name = part-change (touched name s.now None) (touched-object name s.now None name) (touched-size name s.now None name) object s.entries

  raised-part : (name : PolicyName) → IsPart (change (raised name s.beside.floor s.now) object s.entries) s.entries
  raised-part name = part-change (raised name s.beside.floor s.now) (raised-object name s.beside.floor s.now) (raised-size name s.beside.floor s.now) object s.entries

  stock-fit : (name : PolicyName) → KeepsShares name s.capacity s.entries s.beside → AllByRecursion (λ e. e.object ≡ object → e.size ≡ size) s.entries → IsFit s.capacity s.entries → IsFit s.capacity (stock_after name s object size next).entries
  stock-fit Sieve shares sizes fit = served-fit s object size _ _ (fresh_entry Sieve s.now object size None) (touched-part Sieve) refl refl (sieve-part s object size) (sieve-room s object size) fit
  stock-fit S3Fifo shares sizes fit = served-fit s object size _ _ (fresh_entry S3Fifo s.now object size None) (touched-part S3Fifo) refl refl (s3fifo-part s object size) (s3fifo-room s object size) fit
  stock-fit Gdsf shares sizes fit = served-fit s object size _ _ (ranked_entry Gdsf (left_floor s object size) s.now object size) (raised-part Gdsf) refl refl (aged-part s object size Gdsf) (aged-room s object size Gdsf) fit
  stock-fit Lfuda shares sizes fit = served-fit s object size _ _ (ranked_entry Lfuda (left_floor s object size) s.now object size) (raised-part Lfuda) refl refl (aged-part s object size Lfuda) (aged-room s object size Lfuda) fit
  stock-fit Gdsf98 shares sizes fit = served-fit s object size _ _ (own_entry s object size) (raised-part Gdsf98) refl refl (admitted-part s object size) (admitted-room s object size fit.room) fit
  stock-fit WTinyLfu shares sizes fit = served-fit s object size _ _ (fresh_entry WTinyLfu s.now object size None) (tinylfu_hit-part s object size) refl refl (tinylfu-part s object size) (tinylfu-room s object size shares fit.room) fit
  stock-fit name shares sizes fit = fit-plain s object size next sizes fit

  -- the entries after a step fit and are apart
  pub fit-step : KeepsShares s.name s.capacity s.entries s.beside → AllByRecursion (λ e. e.object ≡ object → e.size ≡ size) s.entries → IsFit s.capacity s.entries → IsFit s.capacity (entries_after s object size next)
  fit-step shares sizes fit = stock-fit s.name shares sizes fit

  stock-shares : (name : PolicyName) → KeepsShares name s.capacity s.entries s.beside → KeepsShares name s.capacity (stock_after name s object size next).entries (stock_after name s object size next).beside
  stock-shares WTinyLfu shares = tinylfu-shared s object size shares
  stock-shares name shares = tt

  -- each segment keeps within its part
  pub shares-step : KeepsShares s.name s.capacity s.entries s.beside → KeepsShares s.name s.capacity (entries_after s object size next) (beside_after s object size next)
  shares-step shares = stock-shares s.name shares

  stock-enters : (name : PolicyName) (m : Member) → Contains (members_of (stock_after name s object size next).entries) m → Contains (members_of s.entries) m ⊎ (m ≡ member object size)
  stock-enters Sieve m c = served-enters s object size _ _ (fresh_entry Sieve s.now object size None) (touched-part Sieve) refl refl (sieve-part s object size) m c
  stock-enters S3Fifo m c = served-enters s object size _ _ (fresh_entry S3Fifo s.now object size None) (touched-part S3Fifo) refl refl (s3fifo-part s object size) m c
  stock-enters Gdsf m c = served-enters s object size _ _ (ranked_entry Gdsf (left_floor s object size) s.now object size) (raised-part Gdsf) refl refl (aged-part s object size Gdsf) m c
  stock-enters Lfuda m c = served-enters s object size _ _ (ranked_entry Lfuda (left_floor s object size) s.now object size) (raised-part Lfuda) refl refl (aged-part s object size Lfuda) m c
  stock-enters Gdsf98 m c = served-enters s object size _ _ (own_entry s object size) (raised-part Gdsf98) refl refl (admitted-part s object size) m c
  stock-enters WTinyLfu m c = served-enters s object size _ _ (fresh_entry WTinyLfu s.now object size None) (tinylfu_hit-part s object size) refl refl (tinylfu-part s object size) m c
  stock-enters name m c = enters-plain s object size next m c

  -- only the object requested enters
  pub enters-step : (m : Member) → Contains (members_of (entries_after s object size next)) m → Contains (members_of s.entries) m ⊎ (m ≡ member object size)
  enters-step m c = stock-enters s.name m c

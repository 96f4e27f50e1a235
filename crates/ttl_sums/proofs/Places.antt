-- Entries by their numbers, after one was written.
use Rattle.std.proofs.Common.{◌≡◌, ◌≢◌, ℕ, ◌+◌, ◌<◌, ◌≤◌, ◌∙◌, ap, cond, List, [], ◌∷◌, ◌++◌, length, arith, length-append, length-set, max, ⊎_elim, slice_set, sum_by}
use Rattle.std.proofs.lemmas.Bool.{cases_lt, le-ltb, lt-ltb}
use Rattle.std.proofs.lemmas.List.{get_or_append_left, get_or_push, get_or-set_same, get_or-set_other}
use Rattle.std.proofs.lemmas.List.Sums.{sum_by-set, sum_by_push}
use Rattle.ttl_sums.specs.declared.entry.Entry.{Entry}
use Rattle.ttl_sums.specs.Entries.{WasEntry, entry_at, no_entry, with_entry}

-- the greatest worth of the object
abbrev pub top_of : Entry → ℕ
top_of e = e.walk.top

module _ (entries : List Entry) (number : ℕ) (e : Entry) where
  pub with_entry-known : number < length entries → with_entry entries number e ≡ slice_set entries number e
  with_entry-known low = ap (λ b. cond b (slice_set entries number e) (entries ++ e ∷ [])) (lt-ltb number (length entries) low)

  pub with_entry-new : length entries ≤ number → with_entry entries number e ≡ entries ++ e ∷ []
  with_entry-new high = ap (λ b. cond b (slice_set entries number e) (entries ++ e ∷ [])) (le-ltb number (length entries) high)

  pub length-known : number < length entries → length (with_entry entries number e) ≡ length entries
  length-known low = ap length (with_entry-known low) ∙ length-set entries number e

  pub length-new : length entries ≤ number → length (with_entry entries number e) ≡ length entries + 1
  length-new high = ap length (with_entry-new high) ∙ length-append entries (e ∷ [])

  pub length-with_entry : number ≤ length entries → length (with_entry entries number e) ≡ max (length entries) (number + 1)
  length-with_entry within =
      ⊎_elim
      (λ (low : number < length entries). omega (arith, length-known low))
      (λ (high : length entries ≤ number). omega (arith, length-new high))
      (cases_lt number (length entries))

  -- it stands at its number
  pub entry_at-number : number ≤ length entries → entry_at (with_entry entries number e) number ≡ e
  entry_at-number within =
      ⊎_elim
      (λ (low : number < length entries).
      ap (λ es. entry_at es number) (with_entry-known low) ∙ get_or-set_same entries number e no_entry low)
      (λ (high : length entries ≤ number).
      let last : length entries ≡ number = omega arith in
      ap (λ es. entry_at es number) (with_entry-new high) ∙ get_or_push entries e no_entry number last)
      (cases_lt number (length entries))

  -- and the others as before
  pub entry_at-other : (k : ℕ) → k < length entries → k ≢ number → entry_at (with_entry entries number e) k ≡ entry_at entries k
  entry_at-other k low apart =
      ⊎_elim
      (λ (known : number < length entries).
      ap (λ es. entry_at es k) (with_entry-known known) ∙ get_or-set_other entries number k e no_entry apart)
      (λ (high : length entries ≤ number).
      ap (λ es. entry_at es k) (with_entry-new high) ∙ get_or_append_left entries (e ∷ []) no_entry k low)
      (cases_lt number (length entries))

  -- each other entry was there before
  pub other-low : (k : ℕ) → number ≤ length entries → k < length (with_entry entries number e) → k ≢ number → k < length entries
  other-low k within low apart =
      ⊎_elim
      (λ (known : number < length entries). omega (arith, length-known known))
      (λ (high : length entries ≤ number). omega (arith, length-new high, apart))
      (cases_lt number (length entries))

  -- what the sum of the greatest worths rises by
  pub tops-with_entry : (was : Entry) → WasEntry entries number was
      → sum_by top_of (with_entry entries number e) + was.walk.top ≡ sum_by top_of entries + e.walk.top
  tops-with_entry was before =
      ⊎_elim
      (λ (low : number < length entries).
      omega (
        arith,
        ap (sum_by top_of) (with_entry-known low),
        ap top_of (before.known low),
        sum_by-set top_of entries number e no_entry low,
      ))
      (λ (high : length entries ≤ number).
      let none : was.walk.top ≡ 0 = (before.new high).top in
      omega (arith, ap (sum_by top_of) (with_entry-new high), sum_by_push top_of entries e, none))
      (cases_lt number (length entries))

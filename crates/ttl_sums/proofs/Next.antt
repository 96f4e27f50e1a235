-- What was walked after one request more.
use Rattle.std.proofs.Common.{◌≡◌, ◌≢◌, ℕ, suc, ◌<◌, ◌≤◌, ◌∙◌, sym, refl, ap, subst, [], ◌∷◌, ◌++◌, length, arith, ⊎_elim}
use Rattle.std.proofs.lemmas.Bool.{cases_eq, cases_lt}
use Rattle.std.proofs.lemmas.List.{set-get_or}
use Rattle.cache_model.specs.declared.objects.Object.{Object}
use Rattle.cache_model.specs.Claim.{request_at}
use Rattle.cache_model.specs.Objects.{objects_of}
use Rattle.ttl_sums.specs.declared.entry.Entry.{Entry}
use Rattle.ttl_sums.specs.declared.entry.Tops.{Tops}
use Rattle.ttl_sums.specs.declared.request.Request.{Request}
use Rattle.ttl_sums.specs.Entries.{AsksNext, IsAsked, IsBegun, WasEntry, entry_at, no_entry, with_entry}
use Rattle.ttl_sums.specs.Walked.{HasWalked, IsEntryOf, IsNext, IsNumberAt, Priced, objects_before}
use Rattle.ttl_sums.specs.Worths.{Worths}
use Rattle.ttl_laws.proofs.Numbered.{object_at, object_at-number, object_at-other}
use Rattle.ttl_sums.proofs.Objects.{few_before, new-first, number_low, objects-known, objects-new}
use Rattle.ttl_sums.proofs.Places.{entry_at-number, entry_at-other, length-known, length-new, other-low, with_entry-known, with_entry-new}
use Rattle.ttl_sums.proofs.Walking.{entry-above, entry-begun, entry-other, entry-own}

module _ (p : Priced) (n number : ℕ) (old : Worths) (h : HasWalked p n n old) (within : n < length p.trace) (numbered : IsNumberAt p n number)
    (known : number ≤ length old.objects) where
  abbrev x : Object
  x = request_at p.trace n

  -- the entry of the object, before the request
  pub was-entry : (e : Entry) → WasEntry old.objects number e → IsEntryOf p n x e
  was-entry e was =
      ⊎_elim
      (λ (low : number < length old.objects).
      subst (λ y. IsEntryOf p n y e) (object_at-number p.trace n number numbered)
      (subst (IsEntryOf p n (object_at p.trace number)) (sym (was.known low)) (h.each number low)))
      (λ (high : length old.objects ≤ number).
      entry-begun p n e (new-first p.trace n number within numbered (omega (arith, high, h.objects))) (was.new high))
      (cases_lt number (length old.objects))

  -- the entries after it
  pub next-walked : (new : Worths) (e : Entry) → new.ttl ≡ old.ttl → new.units ≡ old.units → new.prices ≡ old.prices
      → new.objects ≡ with_entry old.objects number e → IsEntryOf p (suc n) x e → HasWalked p (suc n) n new
  next-walked new e ttl units prices entries own = record {
    ttl = ttl ∙ h.ttl;
    units = units ∙ h.units;
    prices = prices ∙ h.prices;
    within = omega (arith, within);
    objects =
        ⊎_elim
        (λ (low : number < length old.objects).
        omega (
          arith,
          ap length entries,
          length-known old.objects number e low,
          h.objects,
          objects-known p.trace n number within numbered (omega (arith, low, h.objects)),
        ))
        (λ (high : length old.objects ≤ number).
        omega (
          arith,
          ap length entries,
          length-new old.objects number e high,
          h.objects,
          objects-new p.trace n number within numbered (omega (arith, high, h.objects)),
        ))
        (cases_lt number (length old.objects));
    each = λ k low.
        ⊎_elim
        (λ (same : k ≡ number).
        let stands : entry_at new.objects k ≡ e =
        ap (entry_at new.objects) same ∙ ap (λ es. entry_at es number) entries ∙ entry_at-number old.objects number e known in
        let is : object_at p.trace k ≡ x = ap (object_at p.trace) same ∙ object_at-number p.trace n number numbered in
        subst (λ y. IsEntryOf p (suc n) y (entry_at new.objects k)) (sym is) (subst (IsEntryOf p (suc n) x) (sym stands) own))
        (λ (apart : k ≢ number).
        let longer : k < length (with_entry old.objects number e) = omega (arith, low, ap length entries) in
        let there : k < length old.objects = other-low old.objects number e k known longer apart in
        let stands : entry_at new.objects k ≡ entry_at old.objects k = ap (λ es. entry_at es k) entries ∙ entry_at-other old.objects number e k there apart in
        let some : k < length (objects_of p.trace) = omega (arith, there, h.objects, few_before p.trace n (omega arith)) in
        subst (IsEntryOf p (suc n) (object_at p.trace k)) (sym stands)
        (entry-other p n (object_at p.trace k) (entry_at old.objects k) (object_at-other p.trace n number numbered k some apart) (h.each k there)))
        (cases_eq k number);
  }

  -- one above the capacity that was asked for before changes nothing, and another begins an entry
  pub known-above : number < length old.objects → p.terms.capacity < x.size → HasWalked p (suc n) n old
  known-above low above =
      next-walked old (entry_at old.objects number) refl refl refl
      (sym (with_entry-known old.objects number (entry_at old.objects number) low ∙ set-get_or old.objects number no_entry))
      (entry-above p n (entry_at old.objects number) above (was-entry (entry_at old.objects number) (record { known = λ there. refl; new = λ high. absurd (omega arith) })))

  pub new-above : (new : Worths) (e : Entry) → new.ttl ≡ old.ttl → new.units ≡ old.units → new.prices ≡ old.prices
      → length old.objects ≤ number → IsBegun e → new.objects ≡ old.objects ++ e ∷ [] → p.terms.capacity < x.size → HasWalked p (suc n) n new
  new-above new e ttl units prices high begun entries above =
      next-walked new e ttl units prices (entries ∙ sym (with_entry-new old.objects number e high))
      (entry-above p n e above (was-entry e (record { known = λ low. absurd (omega (arith, low, high)); new = λ none. begun })))

-- a request that is asked is walked
pub asked-walked : (p : Priced) (n : ℕ) (request : Request) (old new : Worths) (tops : Tops) → IsNext p n request → HasWalked p n n old
    → request.number ≤ length old.objects → AsksNext old.ttl old.prices request old.objects new.objects tops
    → new.ttl ≡ old.ttl → new.units ≡ old.units → new.prices ≡ old.prices → HasWalked p (suc n) n new
asked-walked p n request old new tops next h known asks ttl units prices =
    next-walked p n request.number old h next.within next.numbered known new asks.after ttl units prices asks.entries
    (entry-own p n request old.prices asks.before asks.after next h.prices
    (subst (λ t. IsAsked t old.prices request asks.before asks.after) h.ttl asks.asked)
    (was-entry p n request.number old h next.within next.numbered known asks.before asks.was))

-- the next number is at most the number of objects so far
pub number-within : (p : Priced) (n number steps : ℕ) (w : Worths) → n < length p.trace → IsNumberAt p n number → HasWalked p n steps w
    → number ≤ length w.objects
number-within p n number steps w within numbered h =
    ⊎_elim
    (λ (low : number < length (objects_before p.trace n)). omega (arith, low, h.objects))
    (λ (high : length (objects_before p.trace n) ≤ number).
    omega (arith, number_low p.trace n number within numbered, objects-new p.trace n number within numbered high, h.objects))
    (cases_lt number (length (objects_before p.trace n)))

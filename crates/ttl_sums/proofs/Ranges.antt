-- The ranges of what is kept, after a request and after a step.
use Rattle.std.proofs.Common.{◌≡◌, ◌≢◌, ℕ, ◌+◌, ◌-◌, ◌*◌, ◌<◌, ◌≤◌, ◌∙◌, sym, refl, ap, subst, List, [], ◌∷◌, ◌++◌, length, length-append, arith, ⊎_elim, sum_by}
use Rattle.std.proofs.Math.Nat.{mul-le-mul_right}
use Rattle.std.proofs.lemmas.Bool.{cases_eq, cases_lt}
use Rattle.std.proofs.lemmas.List.{get_or_append_left, get_or_push}
use Rattle.std.proofs.lemmas.List.Sums.{get_or-le-sum_by, sum_by_push}
use Rattle.ttl_sums.specs.declared.entry.Entry.{Entry}
use Rattle.ttl_sums.specs.declared.entry.Tops.{Tops}
use Rattle.ttl_sums.specs.declared.request.Request.{Request}
use Rattle.ttl_sums.specs.Entries.{AsksNext, CanAsk, IsAsked, IsBegun, WasEntry, entry_at, no_entry, with_entry}
use Rattle.ttl_sums.specs.Worths.{IsEntryWithin, IsWithin, Worths, most}
use Rattle.ttl_sums.proofs.Places.{entry_at-number, entry_at-other, other-low, top_of, tops-with_entry}

-- an entry that has begun is within any ranges
begun-within : (w : Worths) (e : Entry) → IsBegun e → IsEntryWithin w e
begun-within w e is = record {
  clock = omega (arith, is.clock);
  paid = omega (arith, is.paid);
  priced = omega (arith, is.level, is.top);
  gained = omega (arith, is.level);
}

pub was-within : (w : Worths) (number : ℕ) (e : Entry) → IsWithin w → WasEntry w.objects number e → IsEntryWithin w e
was-within w number e is was =
    ⊎_elim
    (λ (low : number < length w.objects). subst (IsEntryWithin w) (sym (was.known low)) (is.each number low))
    (λ (high : length w.objects ≤ number). begun-within w e (was.new high))
    (cases_lt number (length w.objects))

-- within wider ranges
wider : (old new : Worths) (e : Entry) → old.clock ≤ new.clock → old.prices ≤ new.prices → old.gains ≤ new.gains → old.units ≡ new.units
    → IsEntryWithin old e → IsEntryWithin new e
wider old new e clock prices gains units is = record {
  clock = omega (arith, is.clock);
  paid = omega (arith, is.paid);
  priced = subst (λ u. most + e.walk.top ≤ e.walk.level + u * e.paid) units is.priced;
  gained = omega (arith, is.gained);
}

module _ (old : Worths) (is : IsWithin old) (request : Request) (number : request.number ≤ length old.objects) (clock : old.clock ≤ request.clock)
    (weight : request.weight ≤ old.units) (gain : old.gains + request.gain < most) where
  pub small : request.weight * old.prices ≤ most
  small = omega (arith, is.priced, mul-le-mul_right old.prices weight)

  -- what the object pays is left of what it may pay
  module _ (e : Entry) (within : IsEntryWithin old e) where
    since : ℕ
    since = old.prices - e.paid

    -- what was paid before and is paid now
    split : old.units * e.paid + old.units * (old.prices - e.paid) ≡ old.units * old.prices
    split =
        let sum : e.paid + (old.prices - e.paid) ≡ old.prices = omega (arith, within.paid) in
        sym (mul_add old.units e.paid (old.prices - e.paid)) ∙ ap (λ n. old.units * n) sum
      where
        mul_add : (a b c : ℕ) → a * (b + c) ≡ a * b + a * c
        mul_add a b c = omega arith

    pays : request.weight * (old.prices - e.paid) ≤ old.units * (old.prices - e.paid)
    pays = mul-le-mul_right (old.prices - e.paid) weight

    pub can-ask : CanAsk old.prices request e
    can-ask = record {
      clock = omega (arith, within.clock);
      paid = within.paid;
      priced = omega (arith, split, pays, within.priced, is.priced);
      gain = omega (arith, within.gained, gain);
    }

    -- the entry after it
    asked-within : (ttl : ℕ) (new : Worths) (after : Entry) → IsAsked ttl old.prices request e after
        → new.clock ≡ request.clock → new.prices ≡ old.prices → new.gains ≡ old.gains + request.gain → new.units ≡ old.units
        → IsEntryWithin new after
    asked-within ttl new after asked clocks prices gains units = record {
      clock = omega (arith, asked.clock);
      paid = omega (arith, asked.paid);
      priced =
          let paid : new.units * after.paid ≡ old.units * old.prices = ap (λ u. u * after.paid) units ∙ ap (λ n. old.units * n) asked.paid in
          omega (arith, paid, asked.level, asked.top, split, pays, within.priced);
      gained = omega (arith, asked.level, within.gained);
    }

  -- what is kept after it
  abbrev pub after : List Entry → Tops → Worths
  after objects tops = record {
    ttl = old.ttl;
    units = old.units;
    clock = request.clock;
    prices = old.prices;
    gains = old.gains + request.gain;
    total = (old.total - tops.before) + tops.after;
    objects = objects;
  }

  module _ (objects : List Entry) (tops : Tops) (asks : AsksNext old.ttl old.prices request old.objects objects tops) where
    before-within : IsEntryWithin old asks.before
    before-within = was-within old request.number asks.before is asks.was

    sums : sum_by top_of objects + tops.before ≡ old.total + tops.after
    sums =
        omega (
          arith,
          ap (sum_by top_of) asks.entries,
          tops-with_entry old.objects request.number asks.after asks.before asks.was,
          asks.top_before,
          asks.top_after,
          is.total,
        )

    rises : tops.after ≤ tops.before + request.gain
    rises = omega (arith, asks.top_before, asks.top_after, asks.asked.top)

    -- the greatest worth before was part of the total
    part : tops.before ≤ old.total
    part =
        ⊎_elim
        (λ (low : request.number < length old.objects).
        omega (arith, asks.top_before, ap top_of (asks.was.known low), get_or-le-sum_by top_of old.objects request.number no_entry low, is.total))
        (λ (high : length old.objects ≤ request.number).
        let none : asks.before.walk.top ≡ 0 = (asks.was.new high).top in
        omega (arith, asks.top_before, none))
        (cases_lt request.number (length old.objects))

    pub after-within : IsWithin (after objects tops)
    after-within = record {
      some = is.some;
      priced = is.priced;
      gained = gain;
      total = omega (arith, sums, part);
      within = omega (arith, rises, part, is.within);
      each = λ k low.
          ⊎_elim
          (λ (same : k ≡ request.number).
          let own : entry_at objects k ≡ asks.after =
          ap (entry_at objects) same ∙ ap (λ es. entry_at es request.number) asks.entries
          ∙ entry_at-number old.objects request.number asks.after number in
          subst (IsEntryWithin (after objects tops)) (sym own)
          (asked-within asks.before before-within old.ttl (after objects tops) asks.after asks.asked refl refl refl refl))
          (λ (apart : k ≢ request.number).
          let longer : k < length (with_entry old.objects request.number asks.after) = omega (arith, low, ap length asks.entries) in
          let known : k < length old.objects = other-low old.objects request.number asks.after k number longer apart in
          let as_before : entry_at objects k ≡ entry_at old.objects k =
          ap (λ es. entry_at es k) asks.entries ∙ entry_at-other old.objects request.number asks.after k known apart in
          subst (IsEntryWithin (after objects tops)) (sym as_before)
          (wider old (after objects tops) (entry_at old.objects k) clock (omega arith) (omega arith) refl (is.each k known)))
          (cases_eq k request.number);
    }

-- what is kept after a step
pub stepped-within : (old : Worths) (price : ℕ) → IsWithin old → old.units * (old.prices + price) ≤ most
    → IsWithin (record old { prices = old.prices + price })
stepped-within old price is priced = record {
  some = is.some;
  priced = priced;
  gained = is.gained;
  total = is.total;
  within = is.within;
  each = λ k low. wider old (record old { prices = old.prices + price }) (entry_at old.objects k) (omega arith) (omega arith) (omega arith) refl (is.each k low);
}

abbrev pub joined_by : Worths → Entry → Worths
joined_by old e = record old { objects = old.objects ++ e ∷ [] }

-- and with an entry that has begun
pub begun-joins : (old : Worths) (e : Entry) → IsWithin old → IsBegun e → IsWithin (joined_by old e)
begun-joins old e is begun = record {
  some = is.some;
  priced = is.priced;
  gained = is.gained;
  total = omega (arith, is.total, sum_by_push top_of old.objects e, begun.top);
  within = is.within;
  each = λ k low.
      ⊎_elim
      (λ (known : k < length old.objects).
      subst (IsEntryWithin (joined_by old e)) (sym (get_or_append_left old.objects (e ∷ []) no_entry k known))
      (wider old (joined_by old e) (entry_at old.objects k) (omega arith) (omega arith) (omega arith) refl (is.each k known)))
      (λ (high : length old.objects ≤ k).
      let last : length old.objects ≡ k = omega (arith, low, length-append old.objects (e ∷ [])) in
      subst (IsEntryWithin (joined_by old e)) (sym (get_or_push old.objects e no_entry k last)) (begun-within (joined_by old e) e begun))
      (cases_lt k (length old.objects));
}

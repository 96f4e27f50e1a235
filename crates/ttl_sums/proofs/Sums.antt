-- The sum of the greatest worths, and the bound.
use Rattle.std.proofs.Common.{◌≡◌, ℕ, suc, ◌+◌, ◌*◌, ◌/◌, ◌<◌, ◌≤◌, ◌∙◌, sym, refl, ap, cond, List, [], ◌∷◌, length, arith, ⊎_elim, slice_index_or, sum, sum_by}
use Rattle.std.proofs.lemmas.Bool.{cases_lt, le-leb, lt-leb}
use Rattle.std.proofs.lemmas.List.{take_all}
use Rattle.std.proofs.lemmas.List.Sums.{sum_by-cons}
use Rattle.cache_model.specs.declared.objects.Object.{Object}
use Rattle.cache_model.specs.Claim.{no_object}
use Rattle.ttl_laws.specs.Runs.{walk}
use Rattle.ttl_walk.proofs.Walking.{stands-top}
use Rattle.ttl_sums.specs.declared.entry.Entry.{Entry}
use Rattle.ttl_sums.specs.Entries.{entry_at, no_entry}
use Rattle.ttl_sums.specs.Walked.{HasWalked, IsEntryOf, Priced, bound_of, objects_before, worth_before, worths_before}
use Rattle.ttl_sums.specs.Worths.{IsWithin, Worths}
use Rattle.ttl_laws.proofs.Numbered.{object_at}
use Rattle.ttl_sums.proofs.Objects.{object_at-before}
use Rattle.ttl_sums.proofs.Places.{top_of}

-- sums over two lists are equal if they are place by place
sums-agree : {X Y : Type 0} (f : X → ℕ) (g : Y → ℕ) (xs : List X) (ys : List Y) (d : X) (e : Y) → length xs ≡ length ys
    → ((k : ℕ) → k < length xs → f (slice_index_or xs k d) ≡ g (slice_index_or ys k e)) → sum_by f xs ≡ sum_by g ys
sums-agree f g [] [] d e long each = refl
sums-agree f g [] (y ∷ ys) d e long each = absurd (omega (arith, long))
sums-agree f g (x ∷ xs) [] d e long each = absurd (omega (arith, long))
sums-agree f g (x ∷ xs) (y ∷ ys) d e long each =
    omega (
      arith,
      sum_by-cons f x xs,
      sum_by-cons g y ys,
      each 0 (omega arith),
      sums-agree f g xs ys d e (omega (arith, long)) (λ k low. each (suc k) (omega (arith, low))),
    )

-- the entry of an object has its greatest worth
top-of-entry : (p : Priced) (n : ℕ) (x : Object) (e : Entry) → IsEntryOf p n x e → top_of e ≡ worth_before p n x
top-of-entry p n x e is =
    ⊎_elim
    (λ (above : p.terms.capacity < x.size).
    is.above above
    ∙ sym (ap (λ b. cond b (walk p.terms p.unit p.denominator p.trace p.times p.prices p.ttl n x).top 0) (lt-leb x.size p.terms.capacity above)))
    (λ (fits : x.size ≤ p.terms.capacity).
    stands-top p.terms p.unit p.denominator p.trace p.times p.prices p.ttl x n e.walk (is.walk fits)
    ∙ sym (ap (λ b. cond b (walk p.terms p.unit p.denominator p.trace p.times p.prices p.ttl n x).top 0) (le-leb x.size p.terms.capacity fits)))
    (cases_lt p.terms.capacity x.size)

pub total-is : (p : Priced) (n steps : ℕ) (w : Worths) → IsWithin w → HasWalked p n steps w → w.total ≡ worths_before p n
total-is p n steps w is h =
    is.total
    ∙ sums-agree top_of (worth_before p n) w.objects (objects_before p.trace n) no_entry no_object h.objects
    (λ k low.
    top-of-entry p n (object_at p.trace k) (entry_at w.objects k) (h.each k low)
    ∙ ap (worth_before p n) (object_at-before p.trace n k h.within (omega (arith, low, h.objects))))

pub bound-is : (p : Priced) (w : Worths) → length p.prices ≤ length p.trace → IsWithin w → HasWalked p (length p.trace) (length p.trace) w
    → w.units * w.prices + w.total ≡ bound_of p
bound-is p w short is h =
    let prices : w.prices ≡ sum p.prices = h.prices ∙ ap sum (take_all (length p.trace) p.prices short) in
    ap (λ n. n + w.total) (ap (λ u. u * w.prices) h.units ∙ ap (λ s. (p.terms.capacity / p.unit) * s) prices)
    ∙ ap (λ t. (p.terms.capacity / p.unit) * sum p.prices + t) (total-is p (length p.trace) (length p.trace) w is h)

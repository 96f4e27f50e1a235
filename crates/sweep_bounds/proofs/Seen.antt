-- What a sweep has seen after one request more.
use Rattle.std.proofs.Common.{append-nil, is_some, refl, ◌≡◌, ℕ, ◌+◌, ◌<◌, ◌≤◌, ◌∙◌, sym, ap, subst, Bool, true, false, not, ◌&&◌, cond, nat_le, List, [], ◌∷◌, ◌++◌, length, arith, ⊎_elim, None, Some}
use Rattle.std.specs.Map.{keys_of, lookup}
use Rattle.indexmap.specs.IndexMap.{insert_entry}
use Rattle.std.specs.declared.option.Option.{Option}
use Rattle.std.proofs.lemmas.Bool.{cases_Bool, cases_lt}
use Rattle.cache_model.specs.declared.objects.Object.{Object}
use Rattle.cache_model.specs.Claim.{only_fills, request_at, same_object}
use Rattle.cache_model.specs.Objects.{IsNew, objects_of}
use Rattle.cache_model.proofs.DifferentObjects.{IsLatest-early, IsLatest-pushed, length-pushed, objects_of-pushed_again, objects_of-pushed_new, request_at-early, request_at-pushed}
use Rattle.cache_model.proofs.Duality.{same_object-refl, same_object-true}
use Rattle.cache_model.proofs.Pairs.{same_object-sym}
use Rattle.area_sums.specs.Spans.{Span}
use Rattle.area_sums.specs.Groups.{AreSumsOf}
use Rattle.sweep_bounds.specs.Spans.{spans_of}
use Rattle.sweep_bounds.specs.Sweep.{HasSeen, IsLatestOrNew, Sweep, length_since, span_if}
use Rattle.sweep_bounds.proofs.Grown.{spans_of-pushed}

-- the length of the span that the next request ends, if it ends one
abbrev pub next_length : Sweep → Object → Bool → Option ℕ
next_length sweep x only_fills =
    cond (nat_le sweep.warmup sweep.requests && not only_fills)
    (length_since sweep.delay sweep.requests (lookup (same_object x) sweep.latest)) None

-- what is kept after a request
pub record Takes (x : Object) (only : Bool) (old new : Sweep) : Type 0 where
  pub warmup : new.warmup ≡ old.warmup
  pub delay : new.delay ≡ old.delay
  pub requests : new.requests ≡ old.requests + 1
  pub latest : (y : Object) → lookup (same_object y) new.latest ≡ cond (same_object x y) (Some old.requests) (lookup (same_object y) old.latest)
  pub entries : new.latest ≡ insert_entry same_object old.latest x old.requests
  pub sums : (spans : List Span) → AreSumsOf spans old.sums → AreSumsOf (spans ++ span_if x.size (next_length old x only)) new.sums

module _ (trace : List Object) (x : Object) where
  -- an object without a request has none after one of another object
  IsNew-early : (y : Object) → same_object y x ≡ false → IsNew trace y → IsNew (trace ++ x ∷ []) y
  IsNew-early y differs new = λ k low.
      ⊎_elim
      (λ (early : k < length trace). ap (same_object y) (request_at-early trace x k early) ∙ new k early)
      (λ (late : length trace ≤ k).
      let here : length trace ≡ k = omega (arith, length-pushed trace x) in
      subst (λ j. same_object y (request_at (trace ++ x ∷ []) j) ≡ false) here (ap (same_object y) (request_at-pushed trace x) ∙ differs))
      (cases_lt k (length trace))

  latest-early : (y : Object) (found : Option ℕ) → same_object y x ≡ false
      → IsLatestOrNew trace y found → IsLatestOrNew (trace ++ x ∷ []) y found
  latest-early y None differs new = IsNew-early y differs new
  latest-early y (Some a) differs latest = IsLatest-early trace x y a differs latest

  -- the latest request of each object
  latest-pushed : (t : ℕ) (y : Object) (found : Option ℕ) → t ≡ length trace → IsLatestOrNew trace y found
      → IsLatestOrNew (trace ++ x ∷ []) y (cond (same_object x y) (Some t) found)
  latest-pushed t y found now was =
      ⊎_elim
      (λ (same : same_object x y ≡ true).
      let here : x ≡ y = same_object-true x y same in
      subst (λ b. IsLatestOrNew (trace ++ x ∷ []) y (cond b (Some t) found)) (sym same)
      (subst (λ n. IsLatestOrNew (trace ++ x ∷ []) y (Some n)) (sym now)
      (subst (λ z. IsLatestOrNew (trace ++ x ∷ []) z (Some (length trace))) here (IsLatest-pushed trace x))))
      (λ (differs : same_object x y ≡ false).
      subst (λ b. IsLatestOrNew (trace ++ x ∷ []) y (cond b (Some t) found)) (sym differs)
      (latest-early y found (same_object-sym y x ∙ differs) was))
      (cases_Bool (same_object x y))

  -- the objects: one more if this one was not there
  keys-inserted : (t : ℕ) (entries : List (Object × ℕ)) → keys_of (insert_entry same_object entries x t)
      ≡ keys_of entries ++ cond (is_some (lookup (same_object x) entries)) [] (x ∷ [])
  keys-inserted t [] = refl
  keys-inserted t (e ∷ es) = at (same_object x e.0) (keys-inserted t es)
    where
      at : (b : Bool) → keys_of (insert_entry same_object es x t) ≡ keys_of es ++ cond (is_some (lookup (same_object x) es)) [] (x ∷ [])
          → keys_of (cond b ((e.0, t) ∷ es) (e ∷ insert_entry same_object es x t))
          ≡ e.0 ∷ keys_of es ++ cond (is_some (cond b (Some e.1) (lookup (same_object x) es))) [] (x ∷ [])
      at true rest = ap (λ ks. e.0 ∷ ks) (sym (append-nil (keys_of es)))
      at false rest = ap (λ ks. e.0 ∷ ks) rest

  objects-pushed : (found : Option ℕ) → IsLatestOrNew trace x found
      → objects_of (trace ++ x ∷ []) ≡ objects_of trace ++ cond (is_some found) [] (x ∷ [])
  objects-pushed None new = objects_of-pushed_new trace x new
  objects-pushed (Some a) latest = objects_of-pushed_again trace x a latest ∙ sym (append-nil (objects_of trace))

  module _ (old new : Sweep) (only : Bool) (takes : Takes x only old new) where
    -- it has seen the request, with its mark
    pub HasSeen-pushed : (fills marks : List Bool)
        → ((t : ℕ) → t < length trace → only_fills marks t ≡ only_fills fills t) → only_fills marks (length trace) ≡ only
        → HasSeen trace fills old → HasSeen (trace ++ x ∷ []) marks new
    HasSeen-pushed fills marks marked last h = record {
      requests = omega (arith, takes.requests, h.requests, length-pushed trace x);
      latest = λ y. subst (IsLatestOrNew (trace ++ x ∷ []) y) (sym (takes.latest y))
          (latest-pushed old.requests y (lookup (same_object y) old.latest) h.requests (h.latest y));
      objects = ap keys_of takes.entries ∙ keys-inserted old.requests old.latest
          ∙ ap (λ ks. ks ++ cond (is_some (lookup (same_object x) old.latest)) [] (x ∷ [])) h.objects
          ∙ sym (objects-pushed (lookup (same_object x) old.latest) (h.latest x));
      sums = subst (λ spans. AreSumsOf spans new.sums) (sym grown) (takes.sums (spans_of old.warmup old.delay fills trace) h.sums);
    }
      where
        grown : spans_of new.warmup new.delay marks (trace ++ x ∷ [])
            ≡ spans_of old.warmup old.delay fills trace ++ span_if x.size (next_length old x only)
        grown =
            ap (λ w. spans_of w new.delay marks (trace ++ x ∷ [])) takes.warmup
            ∙ ap (λ d. spans_of old.warmup d marks (trace ++ x ∷ [])) takes.delay
            ∙ spans_of-pushed trace x old.warmup old.delay fills marks only (lookup (same_object x) old.latest) marked last (h.latest x)
            ∙ ap (λ t. spans_of old.warmup old.delay fills trace
            ++ span_if x.size (cond (nat_le old.warmup t && not only) (length_since old.delay t (lookup (same_object x) old.latest)) None)) (sym h.requests)

-- an object that was asked for is known
pub never-new : (trace : List Object) (x : Object) (fills : List Bool) (sweep : Sweep) → HasSeen (trace ++ x ∷ []) fills sweep → is_some (lookup (same_object x) sweep.latest) ≡ true
never-new trace x fills sweep h = at (lookup (same_object x) sweep.latest) (h.latest x)
  where
    last : same_object x (request_at (trace ++ x ∷ []) (length trace)) ≡ true
    last = ap (same_object x) (request_at-pushed trace x) ∙ same_object-refl x

    at : (found : Option ℕ) → IsLatestOrNew (trace ++ x ∷ []) x found → is_some found ≡ true
    at None new =
        let never : same_object x (request_at (trace ++ x ∷ []) (length trace)) ≡ false = new (length trace) (omega (arith, length-pushed trace x)) in
        let both : false ≡ true = sym never ∙ last in
        both
    at (Some a) latest = refl

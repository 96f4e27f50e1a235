-- What is known of the requests so far tells whether the next is stale.
use Rattle.std.proofs.Common.{◌≡◌, ℕ, zero, suc, ◌+◌, ◌<◌, ◌≤◌, ◌∙◌, sym, refl, ap, max, Bool, true, false, not, ◌&&◌, ◌||◌, ◌==◌, cond, fold, get_or, List, [], ◌∷◌, length, take, arith, Option, None, Some}
use Rattle.std.specs.List.{list_any}
use Rattle.std.specs.Map.{lookup}
use Rattle.std.specs.Option.{is_some, option_map, option_map_or}
use Rattle.std.proofs.lemmas.Bool.{and_parts, eq-eqb, eqb-true}
use Rattle.std.proofs.lemmas.List.{take_more}
use Rattle.std.proofs.lemmas.List.Sums.{fold-append}
use Rattle.indexmap.specs.IndexMap.{insert_entry}
use Rattle.cache_model.specs.declared.objects.Object.{Object}
use Rattle.cache_model.specs.Claim.{request_at, same_object}
use Rattle.cache_model.specs.Objects.{is_first}
use Rattle.cache_model.proofs.Duality.{same_object-true}
use Rattle.cache_model.proofs.Pairs.{same_object-sym}
use Rattle.freshness.specs.declared.fresh.Freshness.{Freshness}
use Rattle.freshness.specs.Stale.{can_end, stale_after, clock, is_older, has_expired, is_replaced, is_latest_of_id}
use Rattle.freshness.specs.Stale as trace_wide
use Rattle.freshness.proofs.Ids.{pair-same, pair-sym, same_id-sym}
use Rattle.freshness.specs.Seen.{Seen, id_of, is_old, is_other, is_stale, is_stale_since, same_id, with_size}
use Rattle.expiry_laws.specs.Laws.{SeenTellsStale, seen_before, time_at}
use Rattle.expiry_laws.proofs.LastOnes.{IsOfEquals, any_first, any_last, last}

-- what a look-up finds after an insertion, by a relation of equals
module _ {K V : Type 0} (eq : K → K → Bool) (symmetric : (x y : K) → eq x y ≡ eq y x) (same : (x y z : K) → eq x y ≡ true → eq x z ≡ eq y z) where
  lookup-inserted : (es : List (K × V)) (x y : K) (v : V) → lookup (eq y) (insert_entry eq es x v) ≡ cond (eq x y) (Some v) (lookup (eq y) es)
  lookup-inserted [] x y v = ap (λ b. cond b (Some v) None) (symmetric y x)
  lookup-inserted (e ∷ es) x y v = by (eq x e.0) refl (eq y e.0) refl (lookup-inserted es x y v)
    where
      by : (own : Bool) → eq x e.0 ≡ own → (found : Bool) → eq y e.0 ≡ found → lookup (eq y) (insert_entry eq es x v) ≡ cond (eq x y) (Some v) (lookup (eq y) es)
          → lookup (eq y) (cond own ((e.0, v) ∷ es) (e ∷ insert_entry eq es x v)) ≡ cond (eq x y) (Some v) (cond found (Some e.1) (lookup (eq y) es))
      by true own true found rest = rw found (sym (ap (λ b. cond b (Some v) (Some e.1)) (same x e.0 y own ∙ (symmetric e.0 y ∙ found))))
      by true own false found rest = rw found (sym (ap (λ b. cond b (Some v) (lookup (eq y) es)) (same x e.0 y own ∙ (symmetric e.0 y ∙ found))))
      by false own true found rest = rw found (sym (ap (λ b. cond b (Some v) (Some e.1)) (symmetric x y ∙ (same y e.0 x found ∙ (symmetric e.0 x ∙ own)))))
      by false own false found rest = rw found rest

same_object-equals : IsOfEquals same_object
same_object-equals = record { symmetric = same_object-sym; same = λ x y z is. ap (λ w. same_object w z) (same_object-true x y is) }

same_id-equals : IsOfEquals trace_wide.same_id
same_id-equals = record {
  symmetric = same_id-sym;
  same = λ x y z. pair-same x.volume x.id y.volume y.id z.volume z.id;
}

module _ (fresh : Freshness) (trace : List Object) (times : List ℕ) (own : List Bool) (lengths : length times ≡ length trace) (can : can_end fresh ≡ true) where
  abbrev known : ℕ → Seen
  known t = seen_before fresh trace times own t

  -- the greatest time so far, with that of request t
  clock-more : (t : ℕ) → t < length times → max (fold max 0 (take t times)) (time_at times t) ≡ clock times t
  clock-more t within = sym (ap (fold max 0) (take_more times t 0 within) ∙ fold-append max 0 (take t times) (get_or times t 0 ∷ []))

  clock_is : (t : ℕ) → t ≤ length times → (known t).clock ≡ fold max 0 (take t times)
  clock_is zero low = refl
  clock_is (suc t) low =
      let next : suc t ≡ t + 1 = omega arith in
      let noted : (known (suc t)).clock ≡ max (known t).clock (time_at times t) = rw can refl in
      noted ∙ (ap (λ c. max c (time_at times t)) (clock_is t (omega (arith, low))) ∙ (clock-more t (omega (arith, low)) ∙ ap (λ k. fold max 0 (take k times)) (sym next)))

  -- the clock at request t
  now_is : (t : ℕ) → t < length times → max (known t).clock (time_at times t) ≡ clock times t
  now_is t within = ap (λ c. max c (time_at times t)) (clock_is t (omega (arith, within))) ∙ clock-more t within

  abbrev of_object : Object → ℕ → Bool
  of_object x a = same_object (request_at trace a) x

  clocks_are : (x : Object) (t : ℕ) → t ≤ length trace → lookup (same_object x) (known t).clocks ≡ option_map (clock times) (last (of_object x) t)
  clocks_are x zero low = refl
  clocks_are x (suc t) low =
      let r = request_at trace t in
      let c = max (known t).clock (time_at times t) in
      let noted : (known (suc t)).clocks ≡ insert_entry same_object (known t).clocks r c = rw can refl in
      ap (lookup (same_object x)) noted
      ∙ (lookup-inserted same_object same_object-sym same_object-equals.same (known t).clocks r x c
      ∙ by (same_object r x) (clocks_are x t (omega (arith, low))) (now_is t (omega (arith, low, lengths))))
    where
      by : (b : Bool) → lookup (same_object x) (known t).clocks ≡ option_map (clock times) (last (of_object x) t) → max (known t).clock (time_at times t) ≡ clock times t
          → cond b (Some (max (known t).clock (time_at times t))) (lookup (same_object x) (known t).clocks) ≡ option_map (clock times) (cond b (Some t) (last (of_object x) t))
      by true rest now = ap (λ c. Some c) now
      by false rest now = rest

  abbrev of_id : Object → ℕ → Bool
  of_id x a = trace_wide.same_id (request_at trace a) x

  abbrev size_at : ℕ → ℕ
  size_at a = (request_at trace a).size

  sizes_are : (x : Object) (t : ℕ) → fresh.replace ≡ true → lookup (same_id (id_of x)) (known t).sizes ≡ option_map size_at (last (of_id x) t)
  sizes_are x zero replaced = refl
  sizes_are x (suc t) replaced =
      let r = request_at trace t in
      let noted : (known (suc t)).sizes ≡ with_size fresh.replace (known t).sizes r = rw can refl in
      ap (lookup (same_id (id_of x))) (noted ∙ ap (λ kept. with_size kept (known t).sizes r) replaced)
      ∙ (lookup-inserted same_id (λ a b. pair-sym a.volume a.id b.volume b.id) (λ a b d. pair-same a.volume a.id b.volume b.id d.volume d.id) (known t).sizes (id_of r) (id_of x) r.size
      ∙ by (trace_wide.same_id r x) (sizes_are x t replaced))
    where
      by : (b : Bool) → lookup (same_id (id_of x)) (known t).sizes ≡ option_map size_at (last (of_id x) t)
          → cond b (Some (size_at t)) (lookup (same_id (id_of x)) (known t).sizes) ≡ option_map size_at (cond b (Some t) (last (of_id x) t))
      by true rest = refl
      by false rest = rest

-- more than the time passed since the last request of the object
older_is : (idle : Option ℕ) (times : List ℕ) (a t : ℕ) → is_older idle times a t ≡ is_old idle (clock times a) (clock times t)
older_is None times a t = refl
older_is (Some idle) times a t = refl

-- the same of whichever request was the last
last_older : (idle : Option ℕ) (times : List ℕ) (found : Option ℕ) (t : ℕ) (other : Bool)
    → is_stale_since idle (clock times t) (option_map (clock times) found) other ≡ (is_some found && (option_map_or (λ a. is_older idle times a t) found false || other))
last_older idle times None t other = refl
last_older idle times (Some a) t other = ap (λ b. b || other) (sym (older_is idle times a t))

last_other : (sizes : ℕ → ℕ) (found : Option ℕ) (size : ℕ) → is_other size (option_map sizes found) ≡ option_map_or (λ a. not (sizes a == size)) found false
last_other sizes None size = refl
last_other sizes (Some a) size = refl

not_not : (b : Bool) → not (not b) ≡ b
not_not true = refl
not_not false = refl

-- if requests can be stale
tells : (fresh : Freshness) (trace : List Object) (times : List ℕ) (own : List Bool) (t : ℕ) → length times ≡ length trace → t < length trace → can_end fresh ≡ true
    → is_stale fresh (seen_before fresh trace times own t) (request_at trace t) (time_at times t) ≡ trace_wide.is_stale fresh trace times t
tells fresh trace times own t lengths within can =
    let x = request_at trace t in
    let known = seen_before fresh trace times own t in
    let found = last (λ a. same_object (request_at trace a) x) t in
    let like = last (λ a. trace_wide.same_id (request_at trace a) x) t in
    let P = λ (a : ℕ). is_older (stale_after fresh) times a t in
    let Q = λ (a : ℕ). not ((request_at trace a).size == x.size) in
    let now = now_is fresh trace times own lengths can t (omega (arith, within, lengths)) in
    let clocks = clocks_are fresh trace times own lengths can x t (omega (arith, within)) in
    let expired : has_expired (stale_after fresh) trace times t ≡ option_map_or P found false = any_last same_object same_object-equals trace x P t (omega (arith, within)) in
    let replaced : is_replaced trace t ≡ option_map_or Q like false = any_last trace_wide.same_id same_id-equals trace x Q t (omega (arith, within)) in
    let first : not (is_first trace t) ≡ is_some found = not_not (list_any (same_object x) (take t trace)) ∙ any_first same_object same_object-equals trace x t (omega (arith, within)) in
    let other : (fresh.replace && is_other x.size (lookup (same_id (id_of x)) known.sizes)) ≡ (fresh.replace && is_replaced trace t)
    = by fresh.replace (λ is. ap (is_other x.size) (sizes_are fresh trace times own lengths can x t is) ∙ (last_other (λ a. (request_at trace a).size) like x.size ∙ sym replaced)) refl in
    ap (λ b. b && is_stale_since (stale_after fresh) (max known.clock (time_at times t)) (lookup (same_object x) known.clocks) (fresh.replace && is_other x.size (lookup (same_id (id_of x)) known.sizes))) can
    ∙ (ap (λ c. is_stale_since (stale_after fresh) c (lookup (same_object x) known.clocks) (fresh.replace && is_other x.size (lookup (same_id (id_of x)) known.sizes))) now
    ∙ (ap (λ l. is_stale_since (stale_after fresh) (clock times t) l (fresh.replace && is_other x.size (lookup (same_id (id_of x)) known.sizes))) clocks
    ∙ (ap (is_stale_since (stale_after fresh) (clock times t) (option_map (clock times) found)) other
    ∙ (last_older (stale_after fresh) times found t (fresh.replace && is_replaced trace t)
    ∙ (ap (λ b. b && (option_map_or P found false || (fresh.replace && is_replaced trace t))) (sym first)
    ∙ ap (λ b. not (is_first trace t) && (b || (fresh.replace && is_replaced trace t))) (sym expired))))))
  where
    by : {s r : Bool} (replace : Bool) → (replace ≡ true → s ≡ r) → replace ≡ replace → (replace && s) ≡ (replace && r)
    by true same is = same refl
    by false same is = refl

-- none is, if none can be
never : (trace : List Object) (times : List ℕ) (t : ℕ) → t < length trace → trace_wide.is_stale (record { idle = None; ttl = None; replace = false }) trace times t ≡ false
never trace times t within =
    let x = request_at trace t in
    let none : has_expired None trace times t ≡ false
    = any_last same_object same_object-equals trace x (λ _. false) t (omega (arith, within)) ∙ nothing (last (λ a. same_object (request_at trace a) x) t) in
    ap (λ b. not (is_first trace t) && (b || false)) none ∙ and_false (not (is_first trace t))
  where
    nothing : (found : Option ℕ) → option_map_or (λ (a : ℕ). false) found false ≡ false
    nothing None = refl
    nothing (Some a) = refl

    and_false : (b : Bool) → (b && false) ≡ false
    and_false true = refl
    and_false false = refl

pub seen_tells_stale : SeenTellsStale
seen_tells_stale fresh trace times own t lengths within = by fresh.idle fresh.ttl fresh.replace
  where
    by : (idle ttl : Option ℕ) (replace : Bool) → is_stale (record { idle = idle; ttl = ttl; replace = replace }) (seen_before (record { idle = idle; ttl = ttl; replace = replace }) trace times own t) (request_at trace t) (time_at times t)
        ≡ trace_wide.is_stale (record { idle = idle; ttl = ttl; replace = replace }) trace times t
    by None None false = sym (never trace times t within)
    by (Some idle) None replace = tells (record { idle = Some idle; ttl = None; replace = replace }) trace times own t lengths within refl
    by (Some idle) (Some ttl) replace = tells (record { idle = Some idle; ttl = Some ttl; replace = replace }) trace times own t lengths within refl
    by None (Some ttl) replace = tells (record { idle = None; ttl = Some ttl; replace = replace }) trace times own t lengths within refl
    by None None true = tells (record { idle = None; ttl = None; replace = true }) trace times own t lengths within refl

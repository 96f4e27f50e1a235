-- One more request in what is stored: of a new object, or of one that was asked for.
use Rattle.std.proofs.Common.{◌≡◌, ◌≢◌, ℕ, suc, ◌<◌, ◌≤◌, ◌^◌, ◌∙◌, sym, refl, ap, subst, true, false, List, [], ◌∷◌, ◌++◌, length, get_or, arith, ⊎_elim, set, All}
use Rattle.std.specs.Map.{keys_of, values_of}
use Rattle.std.proofs.lemmas.Bool.{cases_lt, cases_eq}
use Rattle.std.proofs.lemmas.List.{get_or_append_left, get_or_push, get_or-map, get_or-set_same, get_or-set_other, length-append, length-map, length-set, map-append}
use Rattle.std.proofs.lemmas.List.Elements.{All-push}
use Rattle.std.proofs.lemmas.Map.Entries.{length-keys_of, length-values_of}
use Rattle.cache_model.specs.declared.objects.Object.{Object}
use Rattle.cache_model.specs.Claim.{same_object, request_at, no_object}
use Rattle.cache_model.specs.Objects.{IsLatest, IsNew}
use Rattle.cache_model.specs.Objects.{IsLast}
use Rattle.cache_model.proofs.Duality.{same_object-true}
use Rattle.cache_model.proofs.Pairs.{same_object-sym}
use Rattle.cache_model.proofs.DifferentObjects.{length-pushed, IsFirst-early, IsFirst-pushed, IsLast-early, IsLast-pushed, IsNext-early, IsNext-pushed, IsLatest-early, IsLatest-pushed, objects_of-pushed_new, objects_of-pushed_again}
use Rattle.cache_rules.specs.Stored.{no_request, object_at, trace_of, IsPrevious, IsFollowing, IsSized, IsStored}

-- what holds of each number of a list, and of one more
each_pushed : (P : ℕ → ℕ → Type 0) (xs : List ℕ) (y n m : ℕ) → length xs ≡ n → m ≡ suc n → ((k : ℕ) → k < n → P k (get_or xs k 0)) → P n y
    → (k : ℕ) → k < m → P k (get_or (xs ++ y ∷ []) k 0)
each_pushed P xs y n m size more each own k low =
    ⊎_elim
    (λ (early : k < n). subst (P k) (sym (get_or_append_left xs (y ∷ []) 0 k (omega arith))) (each k early))
    (λ (late : n ≤ k). let here : n ≡ k = omega arith in
    subst (λ j. P j (get_or (xs ++ y ∷ []) j 0)) here (subst (P n) (sym (get_or_push xs y 0 n size)) own))
    (cases_lt k n)

-- numbers of known objects name the same requests once there are more objects
trace_of-longer : (objects : List Object) (x : Object) (numbers : List ℕ) → ((t : ℕ) → t < length numbers → get_or numbers t 0 < length objects)
    → trace_of (objects ++ x ∷ []) numbers ≡ trace_of objects numbers
trace_of-longer objects x [] known = refl
trace_of-longer objects x (n ∷ ns) known =
    ap (λ y. y ∷ trace_of (objects ++ x ∷ []) ns) (get_or_append_left objects (x ∷ []) no_object n (known 0 (omega arith)))
    ∙ ap (λ ys. object_at objects n ∷ ys) (trace_of-longer objects x ns (λ t low. known (suc t) (omega arith)))

IsPrevious-early : (trace : List Object) (x : Object) (t stored : ℕ) → t < length trace → IsPrevious trace t stored → IsPrevious (trace ++ x ∷ []) t stored
IsPrevious-early trace x t stored low is = record {
  none = λ e. IsFirst-early trace x t low (is.none e);
  some = λ below. IsNext-early trace x stored t (is.some below);
}

IsFollowing-early : (trace : List Object) (x : Object) (t stored : ℕ) → t < length trace → (IsLast trace t → same_object (request_at trace t) x ≡ false)
    → IsFollowing trace t stored → IsFollowing (trace ++ x ∷ []) t stored
IsFollowing-early trace x t stored low differs is = record {
  none = λ e. IsLast-early trace x t low (differs (is.none e)) (is.none e);
  some = λ below. IsNext-early trace x t stored (is.some below);
}

-- what is stored at the request itself
IsFollowing-pushed : (trace : List Object) (x : Object) → IsFollowing (trace ++ x ∷ []) (length trace) no_request
IsFollowing-pushed trace x = record { none = λ e. IsLast-pushed trace x; some = λ below. absurd (omega arith) }

module _ (trace : List Object) (entries : List (Object × ℕ)) (numbers previous following : List ℕ) (s : IsStored trace entries numbers previous following) where
  -- the trace is what its numbers name
  pub IsStored-own : IsStored (trace_of (keys_of entries) numbers) entries numbers previous following
  IsStored-own = subst (λ ts. IsStored ts entries numbers previous following) (sym s.requests) s

  pub length-numbers : length numbers ≡ length trace
  length-numbers = sym (length-map numbers (object_at (keys_of entries))) ∙ ap length s.requests

  pub request_at-number : (t : ℕ) → t < length trace → request_at trace t ≡ object_at (keys_of entries) (get_or numbers t 0)
  request_at-number t low =
      ap (λ ts. request_at ts t) (sym s.requests)
      ∙ get_or-map (object_at (keys_of entries)) numbers t 0 no_object (omega (arith, length-numbers))

  module _ (x : Object) (sized : IsSized x) (room : length trace < 2 ^ 25) where
    few_pushed : length (trace ++ x ∷ []) ≤ 2 ^ 25
    few_pushed = omega (arith, length-pushed trace x)

    module _ (absent : (n : ℕ) → n < length entries → same_object x (object_at (keys_of entries) n) ≡ false) where
      new : IsNew trace x
      new = λ k low.
          ap (same_object x) (request_at-number k low)
          ∙ absent (get_or numbers k 0) (omega (arith, s.known k (omega (arith, length-numbers)), length-keys_of entries))

      longer_keys : keys_of (entries ++ (x, length trace) ∷ []) ≡ keys_of entries ++ x ∷ []
      longer_keys = map-append (λ (e : Object × ℕ). e.0) entries ((x, length trace) ∷ [])

      longer_values : values_of (entries ++ (x, length trace) ∷ []) ≡ values_of entries ++ length trace ∷ []
      longer_values = map-append (λ (e : Object × ℕ). e.1) entries ((x, length trace) ∷ [])

      count : length (keys_of entries ++ x ∷ []) ≡ suc (length entries)
      count = omega (arith, length-append (keys_of entries) (x ∷ []), length-keys_of entries)

      own_object : object_at (keys_of entries ++ x ∷ []) (length entries) ≡ x
      own_object = get_or_push (keys_of entries) x no_object (length entries) (length-keys_of entries)

      early_object : (n : ℕ) → n < length entries → object_at (keys_of entries ++ x ∷ []) n ≡ object_at (keys_of entries) n
      early_object n low = get_or_append_left (keys_of entries) (x ∷ []) no_object n (omega (arith, length-keys_of entries))

      requests_pushed : trace_of (keys_of entries ++ x ∷ []) (numbers ++ length entries ∷ []) ≡ trace ++ x ∷ []
      requests_pushed =
          map-append (object_at (keys_of entries ++ x ∷ [])) numbers (length entries ∷ [])
          ∙ ap (λ ts. ts ++ object_at (keys_of entries ++ x ∷ []) (length entries) ∷ []) (trace_of-longer (keys_of entries) x numbers s.known ∙ s.requests)
          ∙ ap (λ y. trace ++ y ∷ []) own_object

      apart_pushed : (m n : ℕ) → m < n → n < length (keys_of entries ++ x ∷ [])
          → same_object (object_at (keys_of entries ++ x ∷ []) m) (object_at (keys_of entries ++ x ∷ []) n) ≡ false
      apart_pushed m n low high =
          ⊎_elim
          (λ (early : n < length entries).
          ap (λ y. same_object y (object_at (keys_of entries ++ x ∷ []) n)) (early_object m (omega arith))
          ∙ ap (same_object (object_at (keys_of entries) m)) (early_object n early) ∙ s.apart m n low (omega (arith, length-keys_of entries)))
          (λ (late : length entries ≤ n). let here : length entries ≡ n = omega (arith, count) in
          ap (λ y. same_object y (object_at (keys_of entries ++ x ∷ []) n)) (early_object m (omega arith))
          ∙ ap (λ j. same_object (object_at (keys_of entries) m) (object_at (keys_of entries ++ x ∷ []) j)) (sym here)
          ∙ ap (same_object (object_at (keys_of entries) m)) own_object
          ∙ same_object-sym (object_at (keys_of entries) m) x ∙ absent m (omega arith))
          (cases_lt n (length entries))

      latest_pushed : (n : ℕ) → n < length (keys_of entries ++ x ∷ [])
          → IsLatest (trace ++ x ∷ []) (object_at (keys_of entries ++ x ∷ []) n) (get_or (values_of entries ++ length trace ∷ []) n 0)
      latest_pushed n low =
          each_pushed (λ k a. IsLatest (trace ++ x ∷ []) (object_at (keys_of entries ++ x ∷ []) k) a) (values_of entries) (length trace) (length entries) (length (keys_of entries ++ x ∷ []))
          (length-values_of entries) count
          (λ k early. subst (λ y. IsLatest (trace ++ x ∷ []) y (get_or (values_of entries) k 0)) (sym (early_object k early))
          (IsLatest-early trace x (object_at (keys_of entries) k) (get_or (values_of entries) k 0)
          (same_object-sym (object_at (keys_of entries) k) x ∙ absent k early) (s.latest k (omega (arith, length-keys_of entries)))))
          (subst (λ y. IsLatest (trace ++ x ∷ []) y (length trace)) (sym own_object) (IsLatest-pushed trace x))
          n low

      -- a request of a new object
      pub IsStored-new : IsStored (trace ++ x ∷ []) (entries ++ (x, length trace) ∷ []) (numbers ++ length entries ∷ []) (previous ++ no_request ∷ []) (following ++ no_request ∷ [])
      IsStored-new = record {
        few = few_pushed;
        requests = ap (λ ks. trace_of ks (numbers ++ length entries ∷ [])) longer_keys ∙ requests_pushed;
        objects = longer_keys ∙ ap (λ ks. ks ++ x ∷ []) s.objects ∙ sym (objects_of-pushed_new trace x new);
        sizes = subst (All IsSized) (sym longer_keys) (All-push IsSized (keys_of entries) x s.sizes sized);
        apart = subst (λ ks. (m n : ℕ) → m < n → n < length ks → same_object (object_at ks m) (object_at ks n) ≡ false) (sym longer_keys) apart_pushed;
        latest = subst (λ vs. (n : ℕ) → n < length (keys_of (entries ++ (x, length trace) ∷ [])) → IsLatest (trace ++ x ∷ []) (object_at (keys_of (entries ++ (x, length trace) ∷ [])) n) (get_or vs n 0))
            (sym longer_values)
            (subst (λ ks. (n : ℕ) → n < length ks → IsLatest (trace ++ x ∷ []) (object_at ks n) (get_or (values_of entries ++ length trace ∷ []) n 0)) (sym longer_keys) latest_pushed);
        known = subst (λ ks. (t : ℕ) → t < length (numbers ++ length entries ∷ []) → get_or (numbers ++ length entries ∷ []) t 0 < length ks) (sym longer_keys)
            (each_pushed (λ t n. n < length (keys_of entries ++ x ∷ [])) numbers (length entries) (length numbers) (length (numbers ++ length entries ∷ []))
            refl (omega (arith, length-append numbers (length entries ∷ [])))
            (λ t low. omega (arith, s.known t low, count, length-keys_of entries)) (omega (arith, count)));
        previous_length = omega (arith, length-append previous (no_request ∷ []), length-pushed trace x, s.previous_length);
        previous_is = each_pushed (IsPrevious (trace ++ x ∷ [])) previous no_request (length trace) (length (trace ++ x ∷ [])) s.previous_length (length-pushed trace x)
            (λ t low. IsPrevious-early trace x t (get_or previous t 0) low (s.previous_is t low))
            (record { none = λ e. IsFirst-pushed trace x new; some = λ below. absurd (omega arith) });
        following_length = omega (arith, length-append following (no_request ∷ []), length-pushed trace x, s.following_length);
        following_is = each_pushed (IsFollowing (trace ++ x ∷ [])) following no_request (length trace) (length (trace ++ x ∷ [])) s.following_length (length-pushed trace x)
            (λ t low. IsFollowing-early trace x t (get_or following t 0) low (λ last. same_object-sym (request_at trace t) x ∙ new t low) (s.following_is t low))
            (IsFollowing-pushed trace x);
      }

    module _ (number earlier : ℕ) (known : number < length entries) (same : same_object x (object_at (keys_of entries) number) ≡ true)
        (had : get_or (values_of entries) number 0 ≡ earlier) where
      own : x ≡ object_at (keys_of entries) number
      own = same_object-true x (object_at (keys_of entries) number) same

      pub IsLatest-earlier : IsLatest trace x earlier
      IsLatest-earlier =
          subst (IsLatest trace x) had
          (subst (λ y. IsLatest trace y (get_or (values_of entries) number 0)) (sym own) (s.latest number (omega (arith, length-keys_of entries))))

      requests_again : trace_of (keys_of entries) (numbers ++ number ∷ []) ≡ trace ++ x ∷ []
      requests_again =
          map-append (object_at (keys_of entries)) numbers (number ∷ [])
          ∙ ap (λ ts. ts ++ object_at (keys_of entries) number ∷ []) s.requests
          ∙ ap (λ y. trace ++ y ∷ []) (sym own)

      -- objects of other numbers are others
      other_number : (n : ℕ) → n < length entries → n ≢ number → same_object (object_at (keys_of entries) n) x ≡ false
      other_number n low ne =
          ap (same_object (object_at (keys_of entries) n)) own
          ∙ ⊎_elim
          (λ (before : n < number). s.apart n number before (omega (arith, length-keys_of entries)))
          (λ (after : number ≤ n). same_object-sym (object_at (keys_of entries) n) (object_at (keys_of entries) number) ∙ s.apart number n (omega arith) (omega (arith, length-keys_of entries)))
          (cases_lt n number)

      latest_again : (n : ℕ) → n < length (keys_of entries) → IsLatest (trace ++ x ∷ []) (object_at (keys_of entries) n) (get_or (set (values_of entries) number (length trace)) n 0)
      latest_again n low =
          ⊎_elim
          (λ (here : number ≡ n).
          subst (λ j. IsLatest (trace ++ x ∷ []) (object_at (keys_of entries) j) (get_or (set (values_of entries) number (length trace)) j 0)) here
          (subst (IsLatest (trace ++ x ∷ []) (object_at (keys_of entries) number)) (sym (get_or-set_same (values_of entries) number (length trace) 0 (omega (arith, length-values_of entries))))
          (subst (λ y. IsLatest (trace ++ x ∷ []) y (length trace)) own (IsLatest-pushed trace x))))
          (λ (ne : number ≢ n).
          let apart : n ≢ number = λ e. ne (sym e) in
          subst (IsLatest (trace ++ x ∷ []) (object_at (keys_of entries) n)) (sym (get_or-set_other (values_of entries) number n (length trace) 0 apart))
          (IsLatest-early trace x (object_at (keys_of entries) n) (get_or (values_of entries) n 0) (other_number n (omega (arith, length-keys_of entries)) apart) (s.latest n low)))
          (cases_eq number n)

      -- only the latest request of the object has it as its next
      other_last : (t : ℕ) → t < length trace → t ≢ earlier → IsLast trace t → same_object (request_at trace t) x ≡ false
      other_last t low ne last =
          let latest : IsLatest trace x earlier = IsLatest-earlier in
          let high : earlier < length trace = latest.within in
          ⊎_elim
          (λ (before : t < earlier).
          ap (same_object (request_at trace t)) (same_object-true x (request_at trace earlier) latest.same) ∙ last earlier before high)
          (λ (after : earlier ≤ t). same_object-sym (request_at trace t) x ∙ latest.others t (omega arith) low)
          (cases_lt t earlier)

      following_again : (t : ℕ) → t < length (trace ++ x ∷ []) → IsFollowing (trace ++ x ∷ []) t (get_or (set (following ++ no_request ∷ []) earlier (length trace)) t 0)
      following_again t low =
          let latest : IsLatest trace x earlier = IsLatest-earlier in
          let high : earlier < length trace = latest.within in
          let size : length (following ++ no_request ∷ []) ≡ suc (length trace) = omega (arith, length-append following (no_request ∷ []), s.following_length) in
          ⊎_elim
          (λ (here : earlier ≡ t).
          subst (λ j. IsFollowing (trace ++ x ∷ []) j (get_or (set (following ++ no_request ∷ []) earlier (length trace)) j 0)) here
          (subst (IsFollowing (trace ++ x ∷ []) earlier) (sym (get_or-set_same (following ++ no_request ∷ []) earlier (length trace) 0 (omega arith)))
          (record { none = λ e. absurd (omega arith); some = λ below. IsNext-pushed trace x earlier latest })))
          (λ (ne : earlier ≢ t).
          let apart : t ≢ earlier = λ e. ne (sym e) in
          subst (IsFollowing (trace ++ x ∷ []) t) (sym (get_or-set_other (following ++ no_request ∷ []) earlier t (length trace) 0 apart))
          (⊎_elim
          (λ (early : t < length trace).
          subst (IsFollowing (trace ++ x ∷ []) t) (sym (get_or_append_left following (no_request ∷ []) 0 t (omega (arith, s.following_length))))
          (IsFollowing-early trace x t (get_or following t 0) early (other_last t early apart) (s.following_is t early)))
          (λ (late : length trace ≤ t). let end : length trace ≡ t = omega (arith, length-pushed trace x) in
          subst (λ j. IsFollowing (trace ++ x ∷ []) j (get_or (following ++ no_request ∷ []) j 0)) end
          (subst (IsFollowing (trace ++ x ∷ []) (length trace)) (sym (get_or_push following no_request 0 (length trace) s.following_length)) (IsFollowing-pushed trace x)))
          (cases_lt t (length trace))))
          (cases_eq earlier t)

      -- a request of an object that was asked for
      pub IsStored-again : (after : List (Object × ℕ)) → keys_of after ≡ keys_of entries → values_of after ≡ set (values_of entries) number (length trace)
          → IsStored (trace ++ x ∷ []) after (numbers ++ number ∷ []) (previous ++ earlier ∷ []) (set (following ++ no_request ∷ []) earlier (length trace))
      IsStored-again after keys values =
          let latest_one : IsLatest trace x earlier = IsLatest-earlier in
          record {
            few = few_pushed;
            requests = ap (λ ks. trace_of ks (numbers ++ number ∷ [])) keys ∙ requests_again;
            objects = keys ∙ s.objects ∙ sym (objects_of-pushed_again trace x earlier latest_one);
            sizes = subst (All IsSized) (sym keys) s.sizes;
            apart = subst (λ ks. (m n : ℕ) → m < n → n < length ks → same_object (object_at ks m) (object_at ks n) ≡ false) (sym keys) s.apart;
            latest = subst (λ vs. (n : ℕ) → n < length (keys_of after) → IsLatest (trace ++ x ∷ []) (object_at (keys_of after) n) (get_or vs n 0)) (sym values)
                (subst (λ ks. (n : ℕ) → n < length ks → IsLatest (trace ++ x ∷ []) (object_at ks n) (get_or (set (values_of entries) number (length trace)) n 0)) (sym keys) latest_again);
            known = subst (λ ks. (t : ℕ) → t < length (numbers ++ number ∷ []) → get_or (numbers ++ number ∷ []) t 0 < length ks) (sym keys)
                (each_pushed (λ t n. n < length (keys_of entries)) numbers number (length numbers) (length (numbers ++ number ∷ []))
                refl (omega (arith, length-append numbers (number ∷ []))) s.known (omega (arith, length-keys_of entries)));
            previous_length = omega (arith, length-append previous (earlier ∷ []), length-pushed trace x, s.previous_length);
            previous_is = each_pushed (IsPrevious (trace ++ x ∷ [])) previous earlier (length trace) (length (trace ++ x ∷ [])) s.previous_length (length-pushed trace x)
                (λ t low. IsPrevious-early trace x t (get_or previous t 0) low (s.previous_is t low))
                (record { none = λ e. absurd (let high : earlier < length trace = latest_one.within in omega arith); some = λ below. IsNext-pushed trace x earlier latest_one });
            following_length = omega (arith, length-set (following ++ no_request ∷ []) earlier (length trace), length-append following (no_request ∷ []), length-pushed trace x, s.following_length);
            following_is = following_again;
          }

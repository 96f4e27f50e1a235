-- What an insertion into the entries of a map finds, by the place of the key.
use Rattle.std.proofs.Common.{◌≡◌, ℕ, suc, zero, ◌+◌, ◌<◌, ◌∙◌, sym, refl, ap, subst, Bool, true, false, not, cond, List, [], ◌∷◌, ◌++◌, length, get_or, arith, ⊎_elim, set, None, Some, is_some, unwrap_or, true≢false}
use Rattle.std.specs.List.{position_or_len}
use Rattle.std.specs.Map.{keys_of, values_of, lookup}
use Rattle.std.proofs.lemmas.Bool.{cases_Bool}
use Rattle.indexmap.specs.IndexMap.{insert_entry}

module _ {K X : Type 0} (same : K → K → Bool) (key : K) (value : X) where
  -- a key that was not there goes last
  pub record Adds (entries : List (K × X)) (place : ℕ) : Type 0 where
    pub last : place ≡ length entries
    pub after : insert_entry same entries key value ≡ entries ++ (key, value) ∷ []
    pub absent : (n : ℕ) (d : K) → n < length entries → same key (get_or (keys_of entries) n d) ≡ false

  -- a key that was there keeps its place, and takes the value
  pub record Updates (entries : List (K × X)) (place : ℕ) (old : X) : Type 0 where
    pub within : place < length entries
    pub keys : keys_of (insert_entry same entries key value) ≡ keys_of entries
    pub values : values_of (insert_entry same entries key value) ≡ set (values_of entries) place value
    pub found : (d : K) → same key (get_or (keys_of entries) place d) ≡ true
    pub had : (d : X) → get_or (values_of entries) place d ≡ old

  Adds-more : (e : K × X) (es : List (K × X)) (place : ℕ) → same key e.0 ≡ false → Adds es place → Adds (e ∷ es) (suc place)
  Adds-more e es place differs rest = record {
    last = ap suc rest.last;
    after = ap (λ t. cond t ((e.0, value) ∷ es) (e ∷ insert_entry same es key value)) differs ∙ ap (λ xs. e ∷ xs) rest.after;
    absent = at;
  }
    where
      at : (n : ℕ) (d : K) → n < length (e ∷ es) → same key (get_or (keys_of (e ∷ es)) n d) ≡ false
      at zero d low = differs
      at (suc n) d low = rest.absent n d (omega arith)

  Updates-more : (e : K × X) (es : List (K × X)) (place : ℕ) (old : X) → same key e.0 ≡ false → Updates es place old → Updates (e ∷ es) (suc place) old
  Updates-more e es place old differs rest = record {
    within = (let low : place < length es = rest.within in omega arith);
    keys = ap (λ t. keys_of (cond t ((e.0, value) ∷ es) (e ∷ insert_entry same es key value))) differs ∙ ap (λ ks. e.0 ∷ ks) rest.keys;
    values = ap (λ t. values_of (cond t ((e.0, value) ∷ es) (e ∷ insert_entry same es key value))) differs ∙ ap (λ vs. e.1 ∷ vs) rest.values;
    found = rest.found;
    had = rest.had;
  }

  place_later : (e : K × X) (es : List (K × X)) → same key e.0 ≡ false → position_or_len (same key) (keys_of (e ∷ es)) ≡ suc (position_or_len (same key) (keys_of es))
  place_later e es differs =
      let one : 1 + position_or_len (same key) (keys_of es) ≡ suc (position_or_len (same key) (keys_of es)) = omega arith in
      ap (λ t. cond (not t) (1 + position_or_len (same key) (keys_of es)) 0) differs ∙ one

  place_here : (e : K × X) (es : List (K × X)) → same key e.0 ≡ true → position_or_len (same key) (keys_of (e ∷ es)) ≡ 0
  place_here e es passes = ap (λ t. cond (not t) (1 + position_or_len (same key) (keys_of es)) 0) passes

  none_is_some : {x : X} → None ≡ Some x → ⊥
  none_is_some e = true≢false (sym (ap is_some e))

  -- a look-up finds nothing exactly if the key is added
  pub Adds-from_lookup : (entries : List (K × X)) → lookup (same key) entries ≡ None → Adds entries (position_or_len (same key) (keys_of entries))
  Adds-from_lookup [] none = record { last = refl; after = refl; absent = λ n d low. absurd (omega arith) }
  Adds-from_lookup (e ∷ es) none =
      ⊎_elim
      (λ (passes : same key e.0 ≡ true). absurd (none_is_some (sym none ∙ ap (λ t. cond t (Some e.1) (lookup (same key) es)) passes)))
      (λ (differs : same key e.0 ≡ false).
      subst (Adds (e ∷ es)) (sym (place_later e es differs))
      (Adds-more e es (position_or_len (same key) (keys_of es)) differs
      (Adds-from_lookup es (sym (ap (λ t. cond t (Some e.1) (lookup (same key) es)) differs) ∙ none))))
      (cases_Bool (same key e.0))

  pub Updates-from_lookup : (entries : List (K × X)) (old : X) → lookup (same key) entries ≡ Some old → Updates entries (position_or_len (same key) (keys_of entries)) old
  Updates-from_lookup [] old some = absurd (none_is_some some)
  Updates-from_lookup (e ∷ es) old some =
      ⊎_elim
      (λ (passes : same key e.0 ≡ true).
      subst (λ place. Updates (e ∷ es) place old) (sym (place_here e es passes))
      (record {
        within = omega arith;
        keys = ap (λ t. keys_of (cond t ((e.0, value) ∷ es) (e ∷ insert_entry same es key value))) passes;
        values = ap (λ t. values_of (cond t ((e.0, value) ∷ es) (e ∷ insert_entry same es key value))) passes;
        found = λ d. passes;
        had = λ d. ap (λ r. unwrap_or r e.1) (sym (ap (λ t. cond t (Some e.1) (lookup (same key) es)) passes) ∙ some);
      }))
      (λ (differs : same key e.0 ≡ false).
      subst (λ place. Updates (e ∷ es) place old) (sym (place_later e es differs))
      (Updates-more e es (position_or_len (same key) (keys_of es)) old differs
      (Updates-from_lookup es old (sym (ap (λ t. cond t (Some e.1) (lookup (same key) es)) differs) ∙ some))))
      (cases_Bool (same key e.0))

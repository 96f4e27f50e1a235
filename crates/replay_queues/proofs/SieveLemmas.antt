-- The queues of SIEVE, as the hand goes.
use Rattle.std.proofs.Common.{◌≡◌, ℕ, ◌+◌, ◌*◌, ◌<◌, ◌≤◌, ◌∙◌, sym, refl, ap, subst, Bool, true, false, ◌||◌, cond, eqb, leb, List, [], ◌∷◌, ◌++◌, length, get_or, set, append_assoc, arith}
use Rattle.std.proofs.lemmas.Bool.{eqb-true, eqb-false, eq-eqb, ne_eqb, or_right, or_left, or_from, or_parts, ltb-true}
use Rattle.std.proofs.lemmas.List.{append-nil, length-append}
use Rattle.cache_model.proofs.Eligible.{or_false}
use Rattle.policy_model.specs.States.{Entry, has_entry, Apart}
use Rattle.policy_model.specs.Sieve.{Cut, begin_again, look, cut_used, come_in}
use Rattle.policy_model.proofs.Removals.{unmarked}
use Rattle.policy_model.specs.Steps.{until_fits}
use Rattle.policy_model.proofs.Parts.{part-apart, until-turn}
use Rattle.policy_model.proofs.SieveSound.{cut_entries, look-part, looks_left, look-ends, few-looks}
use Rattle.policy_model.proofs.Entries.{Apart-push}
use Rattle.replay_queues.specs.Items.{has_item, entries_by}
use Rattle.replay_queues.specs.SieveQueues.{is_held, marked_entry, cut_by, AreHeld}
use Rattle.replay_queues.proofs.ItemLemmas.{here, other, within_cells, or_assoc, has_item-push, has_entry-items, has_entry-append, agree, entries-push, apart-middle, item_bytes, used-items}

abbrev pub marked : List ℕ → List (ℕ × ℕ) → List Entry
marked cells items = entries_by marked_entry cells items

pub marked-items : (cells : List ℕ) (items : List (ℕ × ℕ)) (k : ℕ) → has_entry (marked cells items) k ≡ has_item items k
marked-items cells items k = has_entry-items marked_entry (λ c p. refl) cells items k

-- the bytes of a cut, whatever is marked
pub cut-bytes : (cells : List ℕ) (behind ahead : List (ℕ × ℕ)) → cut_used (cut_by cells behind ahead) ≡ item_bytes behind + item_bytes ahead
cut-bytes cells behind ahead = omega (arith, used-items marked_entry (λ c p. refl) cells behind, used-items marked_entry (λ c p. refl) cells ahead)

again-entries : (behind ahead : List Entry) → cut_entries (begin_again behind ahead) ≡ behind ++ ahead
again-entries behind [] = sym (append-nil behind)
again-entries behind (e ∷ ahead) = refl

-- what a look leaves has no object twice
look-apart : (before : Cut) (behind ahead : List Entry) → begin_again behind ahead ≡ look before → Apart (cut_entries before) → Apart (behind ++ ahead)
look-apart before behind ahead is apart =
    subst Apart (ap cut_entries (sym is) ∙ again-entries behind ahead) (part-apart (cut_entries (look before)) (cut_entries before) (look-part before) apart)

-- ---- the next entry
module _ (cells : List ℕ) (behind : List (ℕ × ℕ)) (p : ℕ × ℕ) (rest : List (ℕ × ℕ)) (held : AreHeld cells behind (p ∷ rest)) where
  pub is_there : is_held (get_or cells p.0 0) ≡ true
  is_there = held.known p.0 ∙ or_right (has_item behind p.0) (eqb p.0 p.0 || has_item rest p.0) (or_left (eqb p.0 p.0) (has_item rest p.0) (eq-eqb p.0 p.0 refl))

  pub next-within : p.0 < length cells
  next-within = within_cells cells p.0 (ltb-true 0 (get_or cells p.0 0) is_there)

  pub next-alone : (has_item behind p.0 ≡ false) × (has_item rest p.0 ≡ false)
  next-alone =
      let both : (has_entry (marked cells behind) p.0 ≡ false) × (has_entry (marked cells rest) p.0 ≡ false) =
      apart-middle (marked cells behind) (marked_entry (get_or cells p.0 0) p) (marked cells rest) held.apart in
      (sym (marked-items cells behind p.0) ∙ both.0, sym (marked-items cells rest p.0) ∙ both.1)

  agrees : (v : ℕ) (items : List (ℕ × ℕ)) → has_item items p.0 ≡ false → marked (set cells p.0 v) items ≡ marked cells items
  agrees v items absent = agree marked_entry (λ c q. refl) cells p.0 v items absent

  -- a marked one is passed
  module _ (is : leb 2 (get_or cells p.0 0) ≡ true) where
    pub passed-cut : begin_again (marked (set cells p.0 1) (behind ++ p ∷ [])) (marked (set cells p.0 1) rest) ≡ look (cut_by cells behind (p ∷ rest))
    passed-cut =
        let e : Entry = marked_entry (get_or cells p.0 0) p in
        ap (λ es. begin_again es (marked (set cells p.0 1) rest)) (entries-push marked_entry (λ c q. refl) (set cells p.0 1) behind p)
        ∙ ap (λ es. begin_again (es ++ marked_entry (get_or (set cells p.0 1) p.0 0) p ∷ []) (marked (set cells p.0 1) rest)) (agrees 1 behind next-alone.0)
        ∙ ap (λ es. begin_again (marked cells behind ++ marked_entry (get_or (set cells p.0 1) p.0 0) p ∷ []) es) (agrees 1 rest next-alone.1)
        ∙ ap (λ c. begin_again (marked cells behind ++ marked_entry c p ∷ []) (marked cells rest)) (here cells p.0 1 next-within)
        ∙ ap (λ b. begin_again (cond b (marked cells behind ++ unmarked e ∷ []) (marked cells behind)) (marked cells rest)) (sym is)

    pub passed-held : AreHeld (set cells p.0 1) (behind ++ p ∷ []) rest
    passed-held = record {
      apart = look-apart (cut_by cells behind (p ∷ rest)) (marked (set cells p.0 1) (behind ++ p ∷ [])) (marked (set cells p.0 1) rest) passed-cut held.apart;
      known = λ q. at q (eqb q p.0) refl ∙ held.known q ∙ or_assoc (has_item behind q) (eqb p.0 q) (has_item rest q) ∙ ap (λ b. b || has_item rest q) (sym (has_item-push behind p q));
    }
      where
        at : (q : ℕ) (b : Bool) → eqb q p.0 ≡ b → is_held (get_or (set cells p.0 1) q 0) ≡ is_held (get_or cells q 0)
        at q true e =
            let same : q ≡ p.0 = eqb-true q p.0 e in
            ap (λ j. is_held (get_or (set cells p.0 1) j 0)) same ∙ ap is_held (here cells p.0 1 next-within) ∙ sym is_there ∙ ap (λ j. is_held (get_or cells j 0)) (sym same)
        at q false e = ap is_held (other cells p.0 1 q e)

-- ---- an object that comes in
module _ (cells : List ℕ) (behind ahead : List (ℕ × ℕ)) (held : AreHeld cells behind ahead) (k size : ℕ) (within : k < length cells) (absent : is_held (get_or cells k 0) ≡ false) where
  no_item : (has_item behind k || has_item ahead k) ≡ false
  no_item = sym (held.known k) ∙ absent

  none_of : (has_item behind k ≡ false) × (has_item ahead k ≡ false)
  none_of = or_parts _ _ no_item

  came_behind : marked (set cells k 1) behind ≡ marked cells behind
  came_behind = agree marked_entry (λ c q. refl) cells k 1 behind none_of.0

  came_ahead : marked (set cells k 1) (ahead ++ (k, size) ∷ []) ≡ marked cells ahead ++ marked_entry 1 (k, size) ∷ []
  came_ahead =
      entries-push marked_entry (λ c q. refl) (set cells k 1) ahead (k, size)
      ∙ ap (λ es. es ++ marked_entry (get_or (set cells k 1) k 0) (k, size) ∷ []) (agree marked_entry (λ c q. refl) cells k 1 ahead none_of.1)
      ∙ ap (λ c. marked cells ahead ++ marked_entry c (k, size) ∷ []) (here cells k 1 within)

  pub comes_in : cut_by (set cells k 1) behind (ahead ++ (k, size) ∷ []) ≡ come_in (marked_entry 1 (k, size)) (cut_by cells behind ahead)
  comes_in =
      let cut : List Entry → List Entry → Cut = λ b a. record { behind = b; ahead = a } in
      ap (λ es. cut es (marked (set cells k 1) (ahead ++ (k, size) ∷ []))) came_behind ∙ ap (λ es. cut (marked cells behind) es) came_ahead

  pub came-held : AreHeld (set cells k 1) behind (ahead ++ (k, size) ∷ [])
  came-held = record {
    apart = subst Apart (sym (ap cut_entries comes_in ∙ sym (append_assoc (marked cells behind) (marked cells ahead) (marked_entry 1 (k, size) ∷ []))))
        (Apart-push (marked cells behind ++ marked cells ahead) (marked_entry 1 (k, size)) held.apart
        (has_entry-append (marked cells behind) (marked cells ahead) k ∙ or_from _ _ (marked-items cells behind k ∙ none_of.0) (marked-items cells ahead k ∙ none_of.1)));
    known = λ q. at q (eqb q k) refl;
  }
    where
      at : (q : ℕ) (b : Bool) → eqb q k ≡ b → is_held (get_or (set cells k 1) q 0) ≡ (has_item behind q || has_item (ahead ++ (k, size) ∷ []) q)
      at q true e =
          let same : q ≡ k = eqb-true q k e in
          ap (λ j. is_held (get_or (set cells k 1) j 0)) same ∙ ap is_held (here cells k 1 within)
          ∙ sym (or_right (has_item behind q) (has_item (ahead ++ (k, size) ∷ []) q) (has_item-push ahead (k, size) q ∙ or_right (has_item ahead q) (eqb k q) (eq-eqb k q (sym same))))
      at q false e =
          ap is_held (other cells k 1 q e) ∙ held.known q
          ∙ ap (λ b. has_item behind q || b) (sym (or_false (has_item ahead q)) ∙ ap (λ b. has_item ahead q || b) (sym (ne_eqb k q (λ same. eqb-false q k e (sym same)))) ∙ sym (has_item-push ahead (k, size) q))

pub enough_looks : (cut : Cut) → looks_left cut ≤ 2 * length (cut_entries cut) + 1
enough_looks cut = omega (arith, few-looks cut.behind cut.ahead, length-append cut.behind cut.ahead)

-- one look of those that make room
pub look_step : (capacity size n : ℕ) (cut after target : Cut) → after ≡ look cut → capacity < cut_used cut + size → 0 < cut_used cut → looks_left cut ≤ n → until_fits look cut_used capacity size n cut ≡ target
    → (m : ℕ) × (looks_left after ≤ m) × (until_fits look cut_used capacity size m after ≡ target)
look_step capacity size n cut after target is full some few room =
    let later : (m : ℕ) × (looks_left (look cut) ≤ m) × (until_fits look cut_used capacity size m (look cut) ≡ target) = until-turn look cut_used capacity size looks_left look-ends n cut target full some few room in
    (later.0, subst (λ (c : Cut). looks_left c ≤ later.0) (sym is) later.1, ap (until_fits look cut_used capacity size later.0) is ∙ later.2)

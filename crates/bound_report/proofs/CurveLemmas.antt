-- The lines of a curve, one more number of slots at a time.
use Rattle.std.proofs.Common.{◌≡◌, ◌∙◌, ℕ, zero, suc, ◌+◌, ◌-◌, ◌<◌, ◌≤◌, nat_lt, ap, refl, sym, arith, Bool, true, false, cond, List, [], ◌∷◌, ◌++◌, append_assoc, append-nil, map, filter}
use Rattle.std.specs.List.{range_with_len}
use Rattle.std.proofs.lemmas.Bool.{lt-ltb, le-ltb}
use Rattle.std.proofs.lemmas.List.{map-append}
use Rattle.std.proofs.lemmas.List.Elements.{filter-append}
use Rattle.std.proofs.lemmas.List.Concat.{flat_map-append}
use Rattle.cache_model.specs.Texts.{line, text_of}
use Rattle.bound_report.specs.Curves.{adds_hits, slots_line, slots_lines}

-- one number more
range_more : (a n : ℕ) → range_with_len a (suc n) ≡ range_with_len a n ++ (a + n) ∷ []
range_more a zero = let here : a ≡ a + 0 = omega arith in ap (λ k. k ∷ []) here
range_more a (suc n) = let last : a + 1 + n ≡ a + suc n = omega arith in ap (λ ks. a ∷ ks) (range_more (a + 1) n ∙ ap (λ k. range_with_len (a + 1) n ++ k ∷ []) last)

-- the line of a number of slots
abbrev line_at : (ℕ → ℕ) → ℕ → List ℕ
line_at hits slots = slots_line slots (hits slots)

one_line : (hits : ℕ → ℕ) (slots : ℕ) (adds : Bool) → text_of (map (line_at hits) (cond adds (slots ∷ []) [])) ≡ cond adds (line (line_at hits slots)) []
one_line hits slots true = append-nil (line (line_at hits slots))
one_line hits slots false = refl

-- the lines up to one more number of slots
pub slots_more : (hits : ℕ → ℕ) (n : ℕ) → text_of (slots_lines hits (n + 1)) ≡ text_of (slots_lines hits n) ++ cond (adds_hits hits (n + 1)) (line (slots_line (n + 1) (hits (n + 1)))) []
slots_more hits n =
    let next : 1 + n ≡ n + 1 = omega arith in
    let one : n + 1 ≡ suc n = omega arith in
    ap (λ ks. text_of (map (line_at hits) (filter (adds_hits hits) ks))) (ap (range_with_len 1) one ∙ range_more 1 n ∙ ap (λ k. range_with_len 1 n ++ k ∷ []) next)
    ∙ ap (λ ks. text_of (map (line_at hits) ks)) (filter-append (adds_hits hits) (range_with_len 1 n) ((n + 1) ∷ []))
    ∙ ap text_of (map-append (line_at hits) (filter (adds_hits hits) (range_with_len 1 n)) (filter (adds_hits hits) ((n + 1) ∷ [])))
    ∙ flat_map-append line (slots_lines hits n) (map (line_at hits) (filter (adds_hits hits) ((n + 1) ∷ [])))
    ∙ ap (λ xs. text_of (slots_lines hits n) ++ xs) (one_line hits (n + 1) (adds_hits hits (n + 1)))

-- after the lines so far, the next one if its slots add hits
module _ (hits : ℕ → ℕ) (n : ℕ) (start before after : List ℕ) (so_far : before ≡ start ++ text_of (slots_lines hits n)) where
  next_by : (adds : Bool) → adds_hits hits (n + 1) ≡ adds → after ≡ before ++ cond adds (line (line_at hits (n + 1))) [] → after ≡ start ++ text_of (slots_lines hits (n + 1))
  next_by adds is more =
      let extra = cond adds (line (line_at hits (n + 1))) [] in
      more ∙ ap (λ xs. xs ++ extra) so_far ∙ append_assoc start (text_of (slots_lines hits n)) extra
      ∙ ap (λ xs. start ++ xs) (ap (λ b. text_of (slots_lines hits n) ++ cond b (line (line_at hits (n + 1))) []) (sym is) ∙ sym (slots_more hits n))

  one_less : n + 1 - 1 ≡ n
  one_less = omega arith

  pub line_appended : hits n < hits (n + 1) → after ≡ before ++ line (slots_line (n + 1) (hits (n + 1))) → after ≡ start ++ text_of (slots_lines hits (n + 1))
  line_appended more is = next_by true (ap (λ k. nat_lt (hits k) (hits (n + 1))) one_less ∙ lt-ltb (hits n) (hits (n + 1)) more) is

  pub no_line : hits (n + 1) ≤ hits n → after ≡ before → after ≡ start ++ text_of (slots_lines hits (n + 1))
  no_line most is = next_by false (ap (λ k. nat_lt (hits k) (hits (n + 1))) one_less ∙ le-ltb (hits n) (hits (n + 1)) most) (is ∙ sym (append-nil before))

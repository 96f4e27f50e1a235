-- The names of the files in which certificates are made.
use Rattle.std.specs.List.{ends_with, list_any}
use Rattle.std.proofs.Common.{◌≡◌, ◌∙◌, ℕ, ◌-◌, Bool, true, false, ◌||◌, List, [], ◌∷◌, ◌++◌, ap, sym, refl, length, take, nat_eq}
use Rattle.std.proofs.Math.Bool.{or-true}
use Rattle.std.proofs.lemmas.Bool.Decides.{Decides-eqb}
use Rattle.std.proofs.lemmas.List.{append_assoc}
use Rattle.std.proofs.lemmas.Slice.Eq.{ends_is}
use Rattle.bound_io.specs.Asides.{endings, is_aside_name}

-- a text ends as its end does
ends_with-append : (front name ending : List ℕ) → ends_with nat_eq name ending ≡ true → ends_with nat_eq (front ++ name) ending ≡ true
ends_with-append front name ending ends =
    let rest = take (length name - length ending) name in
    let split : name ≡ rest ++ ending = (ends_is Decides-eqb name ending (ends_with nat_eq name ending) refl).0 ends in
    (ends_is Decides-eqb (front ++ name) ending (ends_with nat_eq (front ++ name) ending) refl).1 (front ++ rest)
    (ap (λ text. front ++ text) split ∙ sym (append_assoc front rest ending))

-- of a list whose elements pass one test only if they pass another, one passes that
list_any-weaker : {X : Type 0} (p q : X → Bool) → ((x : X) → p x ≡ true → q x ≡ true) → (xs : List X) → list_any p xs ≡ true → list_any q xs ≡ true
list_any-weaker p q weaker [] some = some
list_any-weaker p q weaker (x ∷ xs) some =
    let P : Bool → Type 0 = λ b. (b ≡ true → q x ≡ true) → (b || list_any p xs ≡ true) → (q x || list_any q xs ≡ true) in
    (elim (p x) as P [
      | true ↦ λ first more. ap (λ b. b || list_any q xs) (first refl)
      | false ↦ λ first more. ap (λ b. q x || b) (list_any-weaker p q weaker xs more) ∙ or-true (q x)
    ])
    (weaker x) some

-- a text that ends as such a name does is one
pub is_aside_name-append : (front name : List ℕ) → is_aside_name name ≡ true → is_aside_name (front ++ name) ≡ true
is_aside_name-append front name is =
    list_any-weaker (ends_with nat_eq name) (ends_with nat_eq (front ++ name)) (ends_with-append front name) endings is

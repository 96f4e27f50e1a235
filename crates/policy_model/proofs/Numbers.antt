-- The numbers of objects, and the next request of each.
use Rattle.std.proofs.Common.{◌≡◌, ℕ, ◌+◌, ◌-◌, ◌<◌, ◌∙◌, ap, Bool, cond, nat_lt, List, length, drop, arith, Some, None, MatchOption, position}
use Rattle.std.specs.declared.option.Option.{Option}
use Rattle.std.specs.Option.{option_map}
use Rattle.std.specs.List.{position_or_len}
use Rattle.std.proofs.lemmas.Bool.{lt-ltb, le-ltb}
use Rattle.std.proofs.lemmas.List.{length-drop, get_or-drop}
use Rattle.std.proofs.lemmas.List.Sums.{position_or_len_is}
use Rattle.std.proofs.lemmas.Option.{cond_some}
use Rattle.cache_model.specs.declared.objects.Object.{Object}
use Rattle.cache_model.specs.Claim.{same_object}
use Rattle.cache_model.specs.Objects.{objects_of, IsNext, IsLast}
use Rattle.cache_model.specs.Claim.{no_object, request_at}
use Rattle.policy_model.specs.Asks.{number_of, next_request}

-- the number that a search finds
pub number_of-found : (trace : List Object) (x : Object) (number : ℕ) → position (same_object x) (objects_of trace) ≡ Some number → number_of trace x ≡ number
number_of-found trace x number found = (cond_some (nat_lt (number_of trace x) (length (objects_of trace))) (number_of trace x) number found).1

-- what the nearest later request is, if there is one
pub next_request-next : (trace : List Object) (t b : ℕ) → IsNext trace t b → next_request trace t ≡ Some b
next_request-next trace t b next =
    let p : Object → Bool = same_object (request_at trace t) in
    let before : t < b = next.before in
    let within : b < length trace = next.within in
    let place : ℕ = b - (t + 1) in
    let here : t + 1 + place ≡ b = omega arith in
    let long : length (drop (t + 1) trace) ≡ length trace - (t + 1) = length-drop (t + 1) trace in
    let first : position_or_len p (drop (t + 1) trace) ≡ place =
    position_or_len_is p (drop (t + 1) trace) place no_object (omega arith)
    (λ k low. ap p (get_or-drop (t + 1) trace k no_object) ∙ next.others (t + 1 + k) (omega arith) (omega arith))
    (λ low. ap p (get_or-drop (t + 1) trace place no_object ∙ ap (request_at trace) here) ∙ next.same) in
    ap (λ n. option_map (λ k. t + 1 + k) (cond (nat_lt n (length (drop (t + 1) trace))) (Some n) None)) first
    ∙ ap (λ b. option_map (λ k. t + 1 + k) (cond b (Some place) None)) (lt-ltb place (length (drop (t + 1) trace)) (omega arith))
    ∙ ap Some here

pub next_request-last : (trace : List Object) (t : ℕ) → t < length trace → IsLast trace t → next_request trace t ≡ None
next_request-last trace t within last =
    let p : Object → Bool = same_object (request_at trace t) in
    let long : length (drop (t + 1) trace) ≡ length trace - (t + 1) = length-drop (t + 1) trace in
    let first : position_or_len p (drop (t + 1) trace) ≡ length (drop (t + 1) trace) =
    position_or_len_is p (drop (t + 1) trace) (length (drop (t + 1) trace)) no_object (omega arith)
    (λ k low. ap p (get_or-drop (t + 1) trace k no_object) ∙ last (t + 1 + k) (omega arith) (omega arith))
    (λ low. absurd (omega arith)) in
    ap (λ n. option_map (λ k. t + 1 + k) (cond (nat_lt n (length (drop (t + 1) trace))) (Some n) None)) first
    ∙ ap (λ b. option_map (λ k. t + 1 + k) (cond b (Some (length (drop (t + 1) trace))) None)) (le-ltb (length (drop (t + 1) trace)) (length (drop (t + 1) trace)) (omega arith))

-- what a search for the nearest later request answers
pub next_request-found : (trace : List Object) (t : ℕ) (next : Option ℕ) → t < length trace → MatchOption next (IsLast trace t) (λ b. IsNext trace t b) → next_request trace t ≡ next
next_request-found trace t None within last = next_request-last trace t within last
next_request-found trace t (Some b) within next = next_request-next trace t b next

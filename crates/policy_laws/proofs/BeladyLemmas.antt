-- No allowed contents score more than the rule of Belady.
use Rattle.std.proofs.Common.{◌≡◌, ◌≢◌, ℕ, ◌+◌, ◌*◌, ◌/◌, ◌≤◌, ◌∙◌, sym, refl, ap, subst, ⊎_elim, Bool, true, false, ◌&&◌, cond, leb, List, [], ◌∷◌, length, get_or, fold, arith, sum_by, zip, AllPairs, Contains}
use Rattle.std.specs.declared.option.Option.{Option}
use Rattle.std.specs.List.{AllByRecursion, list_any}
use Rattle.std.proofs.lemmas.Bool.{cases_Bool, le-leb, leb-true, leb-false}
use Rattle.std.proofs.lemmas.List.Elements.{All-tail, Contains-get_or, recursion_from_All}
use Rattle.std.proofs.lemmas.List.Folds.{Any-from_list_any, list_any_at}
use Rattle.cache_model.specs.declared.objects.Object.{Object}
use Rattle.cache_model.specs.declared.objects.Objective.{Objective}
use Rattle.cache_model.specs.declared.objects.Objective.TheVariants.{Object as Hits, Bytes}
use Rattle.cache_model.specs.Claim.{counts_past, gain_of, total_size, IsAllowed, score, terms_from}
use Rattle.cache_model.proofs.Duality.{Follows}
use Rattle.cache_model.proofs.Pairs.{earns_of, counted_of, weight_of}
use Rattle.cache_model.proofs.Scores.{score-zip}
use Rattle.cache_model.proofs.Steps.{Follows-from_steps}
use Rattle.cache_model.proofs.Sums.{sum_by-agree}
use Rattle.policy_model.specs.States.{has_entry}
use Rattle.cache_model.specs.Claim.{holds}
use Rattle.policy_model.specs.declared.names.PolicyName.TheVariants.{Belady}
use Rattle.policy_model.specs.States.{start_of}
use Rattle.policy_model.specs.Asks.{Ask, number_of, asks_of}
use Rattle.policy_model.specs.Runs.{Run, run_step, run_from}
use Rattle.policy_laws.specs.Laws.{HaveOneSize, BeladyIsBest}
use Rattle.policy_laws.proofs.Standing.{Ready, next_in}
use Rattle.policy_laws.proofs.Held.{IsAlike, soon}
use Rattle.policy_laws.proofs.Best.{asks_from, won, best, earned_by}
use Rattle.policy_laws.proofs.Asked.{asks_of-from}

-- ---- what a run counts
abbrev one_of : Ask → ℕ
one_of a = 1

abbrev size_of : Ask → ℕ
size_of a = a.size

counted_now : (b : Bool) (t amount : ℕ) → cond (counts_past 0 [] t && b) amount 0 ≡ cond b amount 0
counted_now b t amount = ap (λ early. cond ((early && true) && b) amount 0) (le-leb 0 t (omega arith))

run_hits : (asks : List Ask) (run : Run) → (fold (run_step (counts_past 0 [])) run asks).hits ≡ run.hits + won one_of run.state asks
run_hits [] run = omega arith
run_hits (a ∷ rest) run =
    omega (arith, run_hits rest (run_step (counts_past 0 []) run a), counted_now (has_entry run.state.entries a.object) a.request 1)

run_bytes : (asks : List Ask) (run : Run) → (fold (run_step (counts_past 0 [])) run asks).bytes ≡ run.bytes + won size_of run.state asks
run_bytes [] run = omega arith
run_bytes (a ∷ rest) run =
    omega (arith, run_bytes rest (run_step (counts_past 0 []) run a), counted_now (has_entry run.state.entries a.object) a.request a.size)

-- ---- what contents score
score-earned : (o : Objective) (c : ℕ) (trace : List Object) (contents : List (List Object)) → score (terms_from o c 0 []) trace contents ≡ earned_by (earns_of o 1) trace contents
score-earned o c trace contents =
    score-zip o c 0 trace contents
    ∙ sum_by-agree (λ (x, held). cond (holds held x) (gain_of o x) 0) (λ (x, held). cond (holds held x) (1 * gain_of o x) 0) (zip trace contents)
    (λ e. let one : gain_of o e.0 ≡ 1 * gain_of o e.0 = omega arith in ap (λ n. cond (holds e.1 e.0) n 0) one)

-- allowed contents are within what the rule gains, if each object of the trace is alike
within_won : (o : Objective) (amount : Ask → ℕ) (gain c s : ℕ) (trace : List Object) (held : List Object) (nexts : List (List Object))
    → ((y : Object) (t k : ℕ) (next : Option ℕ) → amount (record { request = t; object = k; size = y.size; next = next }) ≡ earns_of o 1 y)
    → AllByRecursion (IsAlike (earns_of o 1) (counted_of o c 1) gain c s) trace
    → IsAllowed c trace (held ∷ nexts)
    → score (terms_from o c 0 []) trace (held ∷ nexts) ≤ won amount (start_of Belady c) (asks_of trace)
within_won o amount gain c s trace held nexts same_amount alike allowed =
    let num : Object → ℕ = number_of trace in
    let empty : held ≡ [] = allowed.empty_at_first in
    let long : length (held ∷ nexts) ≡ length trace + 1 = allowed.one_more_than_requests in
    let play : Follows (earns_of o 1) (counted_of o c 1) (weight_of s) (c / s) held trace nexts =
    Follows-from_steps o c s 1 trace held nexts (omega arith) allowed.only_requests_enter
    (All-tail (λ xs. total_size xs ≤ c) held nexts allowed.within_capacity) (All-tail (AllPairs (λ x y. x ≢ y)) held nexts allowed.without_repeats) in
    let ready : Ready num gain c s 0 trace [] = record { apart = tt; sized = tt; nexts = tt; room = omega arith } in
    let ahead : 0 + earned_by (earns_of o 1) trace (held ∷ nexts) ≤ 0 + won amount (start_of Belady c) (asks_from num 0 trace) =
    best num (earns_of o 1) (counted_of o c 1) amount gain c s (λ y t later. same_amount y t (num y) (next_in num (t + 1) later (num y))) trace 0 0 [] held nexts 0 0 play
    (subst (AllByRecursion (λ x. earns_of o 1 x ≤ counted_of o c 1 x)) (sym empty) tt)
    (subst (AllByRecursion (IsAlike (earns_of o 1) (counted_of o c 1) gain c s)) (sym empty) tt)
    alike ready
    (λ n. let none : sum_by (soon (counted_of o c 1) n trace) held ≡ 0 = ap (λ xs. sum_by (soon (counted_of o c 1) n trace) xs) empty in omega arith) in
    omega (arith, score-earned o c trace (held ∷ nexts), ahead, ap (won amount (start_of Belady c)) (asks_of-from trace))

-- ---- one size
one_size_of : (c : ℕ) (trace : List Object) → HaveOneSize c trace → (s : ℕ) × (s ≤ c) × ((x : Object) → Contains trace x → leb x.size c ≡ true → x.size ≡ s)
one_size_of c trace one =
    let p : Object → Bool = λ x. leb x.size c in
    ⊎_elim
    (λ (some : list_any p trace ≡ true).
    let at = Any-from_list_any p trace some in
    let small : at.1.size ≤ c = leb-true at.1.size c at.4 in
    let there : Contains trace at.1 = (at.0, at.2, at.3) in
    (at.1.size, small, λ x c_x fits. one x at.1 c_x there (leb-true x.size c fits) small))
    (λ (none : list_any p trace ≡ false).
    (0, omega arith, λ x c_x fits. let some : list_any p trace ≡ true = list_any_at p trace c_x.0 x c_x.1 (ap p c_x.2 ∙ fits) in cc))
    (cases_Bool (list_any p trace))

alike_hits : (c s : ℕ) (x : Object) → (leb x.size c ≡ true → x.size ≡ s) → IsAlike (earns_of Hits 1) (counted_of Hits c 1) 1 c s x
alike_hits c s x one = record {
  enough = omega arith;
  most = at (leb x.size c);
  none = λ large. ap (λ b. cond b (1 * 1) 0) large;
  one_size = one;
}
  where
    at : (b : Bool) → cond b (1 * 1) 0 ≤ 1
    at true = omega arith
    at false = omega arith

alike_bytes : (c s : ℕ) (x : Object) → s ≤ c → (leb x.size c ≡ true → x.size ≡ s) → IsAlike (earns_of Bytes 1) (counted_of Bytes c 1) s c s x
alike_bytes c s x low one = record {
  enough = large (leb x.size c) refl;
  most = at (leb x.size c) refl;
  none = λ big. ap (λ b. cond b (1 * x.size) 0) big;
  one_size = one;
}
  where
    large : (b : Bool) → leb x.size c ≡ b → s ≤ 1 * x.size
    large true fits = omega (arith, one fits)
    large false big = omega (arith, leb-false x.size c big)

    at : (b : Bool) → leb x.size c ≡ b → cond b (1 * x.size) 0 ≤ s
    at true fits = omega (arith, one fits)
    at false big = omega arith

pub belady_is_best : BeladyIsBest
belady_is_best c trace [] one allowed = absurd (omega (arith, allowed.one_more_than_requests))
belady_is_best c trace (held ∷ nexts) one allowed =
    let size = one_size_of c trace one in
    let hits_alike : AllByRecursion (IsAlike (earns_of Hits 1) (counted_of Hits c 1) 1 c size.0) trace =
    recursion_from_All (IsAlike (earns_of Hits 1) (counted_of Hits c 1) 1 c size.0) trace (λ k d within. alike_hits c size.0 (get_or trace k d) (size.2 (get_or trace k d) (Contains-get_or trace k d within))) in
    let bytes_alike : AllByRecursion (IsAlike (earns_of Bytes 1) (counted_of Bytes c 1) size.0 c size.0) trace =
    recursion_from_All (IsAlike (earns_of Bytes 1) (counted_of Bytes c 1) size.0 c size.0) trace
    (λ k d within. alike_bytes c size.0 (get_or trace k d) size.1 (size.2 (get_or trace k d) (Contains-get_or trace k d within))) in
    record {
      hits = omega (arith, within_won Hits one_of 1 c size.0 trace held nexts (λ y t k next. refl) hits_alike allowed, run_hits (asks_of trace) (run_from (start_of Belady c)));
      bytes = omega (arith, within_won Bytes size_of size.0 c size.0 trace held nexts (λ y t k next. omega arith) bytes_alike allowed, run_bytes (asks_of trace) (run_from (start_of Belady c)));
    }

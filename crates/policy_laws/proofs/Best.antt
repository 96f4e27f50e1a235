-- No contents score more than those of the rule of Belady, by recursion on the trace.
use Rattle.std.proofs.Common.{◌≡◌, ℕ, suc, ◌+◌, ◌-◌, ◌*◌, ◌/◌, ◌^◌, ◌≤◌, refl, ap, Bool, cond, min, List, [], ◌∷◌, arith, sum_by, zip}
use Rattle.std.specs.List.{AllByRecursion}
use Rattle.std.proofs.Math.Nat.{mul-le-mul_left}
use Rattle.std.proofs.lemmas.List.Sums.{sum_by-cons}
use Rattle.cache_model.specs.declared.objects.Object.{Object}
use Rattle.cache_model.specs.Claim.{holds}
use Rattle.cache_model.proofs.Duality.{Follows, IsStep}
use Rattle.cache_model.proofs.Sums.{sum_by-nothing}
use Rattle.policy_model.specs.States.{Entry, State, has_entry}
use Rattle.policy_model.specs.Rules.{policy_step, entries_after}
use Rattle.policy_model.specs.Asks.{Ask}
use Rattle.policy_model.proofs.Entries.{over}
use Rattle.policy_laws.proofs.Standing.{next_in, due, Ready, kept, steps}
use Rattle.policy_laws.proofs.Held.{soon, soon-le, soon-due, sum_by-soon, IsAlike, alike-next, sum_by-soon-le}

-- what the requests from t on ask, by the numbers of their objects
abbrev pub asks_from : (Object → ℕ) → ℕ → List Object → List Ask
asks_from num t [] = []
asks_from num t (y ∷ later) = record { request = t; object = num y; size = y.size; next = next_in num (t + 1) later (num y) } ∷ asks_from num (t + 1) later

-- what a state gains by requests
abbrev pub won : (Ask → ℕ) → State → List Ask → ℕ
won amount s [] = 0
won amount s (a ∷ rest) = cond (has_entry s.entries a.object) (amount a) 0 + won amount (policy_step s a.object a.size a.next).after rest

-- what the requests earn, if each counts
abbrev pub earned_by : (Object → ℕ) → List Object → List (List Object) → ℕ
earned_by earns trace contents = sum_by (λ (x, held). cond (holds held x) (earns x) 0) (zip trace contents)

module _ (num : Object → ℕ) (earns g : Object → ℕ) (amount : Ask → ℕ) (gain c s : ℕ)
    (same_amount : (y : Object) (t : ℕ) (later : List Object) → amount (record { request = t; object = num y; size = y.size; next = next_in num (t + 1) later (num y) }) ≡ earns y) where
  pub best : (later : List Object) (t now : ℕ) (entries : List Entry) (held : List Object) (nexts : List (List Object)) (hk hb : ℕ)
      → Follows earns g (λ x. x.size / s) (c / s) held later nexts
      → AllByRecursion (λ x. earns x ≤ g x) held
      → AllByRecursion (IsAlike earns g gain c s) held
      → AllByRecursion (IsAlike earns g gain c s) later
      → Ready num gain c s t later entries
      → ((n : ℕ) → hk + sum_by (soon g n later) held ≤ hb + over (due num gain n later) entries)
      → hk + earned_by earns later (held ∷ nexts) ≤ hb + won amount (kept num gain c s now entries) (asks_from num t later)
  best [] t now entries held nexts hk hb play counted alike_held alike ready behind =
      omega (arith, behind 0, sum_by-nothing (λ (e : Entry). due num gain 0 [] e.object) entries (λ e. refl), sum_by-nothing (soon g 0 []) held (λ x. refl))
  best (r ∷ later) t now entries held [] hk hb play counted alike_held alike ready behind = absurd play
  best (r ∷ later) t now entries held (next ∷ nexts) hk hb play counted alike_held alike ready behind =
      let step : IsStep earns g (λ x. x.size / s) (c / s) held r next = play.0 in
      let here : IsAlike earns g gain c s r = alike.0 in
      let won_now : ℕ = cond (holds held r) (earns r) 0 in
      let hit : Bool = has_entry entries (num r) in
      let after : List Entry = entries_after (kept num gain c s now entries) (num r) r.size (next_in num (t + 1) later (num r)) in
      let alike_next : AllByRecursion (IsAlike earns g gain c s) next = alike-next (IsAlike earns g gain c s) (r ∷ held) next (here, alike_held) step.inside in
      let goes =
      steps num gain c s t now r later entries ready here.one_size (hk + won_now) hb (earns r) (λ n. sum_by (soon g n later) next) (λ n. soon g n later r)
      (sum_by-nothing (soon g 0 later) next (λ x. refl))
      (λ positive n. let room : gain * sum_by (λ x. x.size / s) next ≤ gain * (c / s) = mul-le-mul_left gain step.room in omega (arith, sum_by-soon-le earns g gain c s n later next positive alike_next))
      (λ n. soon-due g num gain n later r here.most)
      (λ large n. omega (arith, soon-le g n later r, here.none large))
      here.enough
      (λ n. omega (arith, behind (suc n), sum_by-soon g earns (λ x. x.size / s) (c / s) n held r later next step counted)) in
      let rest : hk + won_now + earned_by earns later (next ∷ nexts)
      ≤ hb + cond hit (earns r) 0 + won amount (kept num gain c s (min (now + 1) (2 ^ 64 - 1)) after) (asks_from num (t + 1) later) =
      best later (t + 1) (min (now + 1) (2 ^ 64 - 1)) after next nexts (hk + won_now) (hb + cond hit (earns r) 0) play.1 step.counted alike_next alike.1 goes.0 goes.1 in
      omega (
        arith,
        rest,
        ap (λ n. cond hit n 0) (same_amount r t later),
        sum_by-cons (λ (x, h). cond (holds h x) (earns x) 0) (r, held) (zip later (next ∷ nexts)),
      )

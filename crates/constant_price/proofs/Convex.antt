-- A sum of which one part grows evenly and the other falls ever more slowly is least where the fall is first within the growth.
use Rattle.std.proofs.Common.{◌≡◌, ℕ, zero, suc, ◌+◌, ◌<◌, ◌≤◌, arith}

-- each step of the bound adds the growth and takes the fall away, and the fall never rises
pub record IsConvex (bound fall : ℕ → ℕ) (growth : ℕ) : Type 0 where
  pub step : (q : ℕ) → bound (q + 1) + fall q ≡ bound q + growth
  pub falls : (q : ℕ) → fall (q + 1) ≤ fall q

-- the fall is no greater n steps later
fall-later : (bound fall : ℕ → ℕ) (growth : ℕ) → IsConvex bound fall growth → (q n : ℕ) → fall (q + n) ≤ fall q
fall-later bound fall growth h q zero = let e : q + 0 ≡ q = omega arith in rw e (omega arith)
fall-later bound fall growth h q (suc n) =
    let e : q + suc n ≡ q + n + 1 = omega arith in
    rw e (omega (arith, h.falls (q + n), fall-later bound fall growth h q n))

-- from where the fall is within the growth the bound never falls
pub no_smaller_later : (bound fall : ℕ → ℕ) (growth : ℕ) → IsConvex bound fall growth → (q n : ℕ) → fall q ≤ growth → bound q ≤ bound (q + n)
no_smaller_later bound fall growth h q zero within = let e : q + 0 ≡ q = omega arith in rw e (omega arith)
no_smaller_later bound fall growth h q (suc n) within =
    let e : q + suc n ≡ q + n + 1 = omega arith in
    rw e (omega (arith, h.step (q + n), fall-later bound fall growth h q n, no_smaller_later bound fall growth h q n within))

-- while the fall passes the growth the bound falls
pub smaller_later : (bound fall : ℕ → ℕ) (growth : ℕ) → IsConvex bound fall growth → (q n : ℕ) → growth < fall (q + n) → bound (q + n + 1) < bound q
smaller_later bound fall growth h q zero above =
    let e : q + 0 ≡ q = omega arith in
    let here : growth < fall q = rw e at above in
    rw e (omega (arith, h.step q))
smaller_later bound fall growth h q (suc n) above =
    let e : q + suc n ≡ q + n + 1 = omega arith in
    let here : growth < fall (q + n + 1) = rw e at above in
    rw e (omega (arith, h.step (q + n + 1), smaller_later bound fall growth h q n (omega (arith, h.falls (q + n)))))

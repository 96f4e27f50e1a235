-- A network with no flow.
use Rattle.std.proofs.Common.{◌≡◌, ℕ, zero, suc, ◌+◌, ◌≤◌, ◌<◌, ◌^◌, Bool, true, false, cond, List, [], ◌∷◌, length, replicate, zip, get_or, refl, arith, ⊎_elim}
use Rattle.std.proofs.lemmas.Bool.{cases_lt}
use Rattle.std.proofs.lemmas.List.{length-replicate, get_or-replicate, get_or_past}
use Rattle.std.proofs.lemmas.List.Elements.{All-replicate}
use Rattle.std.proofs.lemmas.List.Sums.{sum_by-cons}
use Rattle.flow_model.specs.declared.arcs.OuterArc.{OuterArc}
use Rattle.flow_model.specs.Instances.{Instance, IsInstance, covers, load_at}
use Rattle.flow_model.proofs.Equal.{zip_from}
use Rattle.flow_network.specs.States.{IsState, no_flows}

load_of_none : (arcs : List OuterArc) (n t : ℕ) → length arcs ≡ n → load_at arcs (replicate n (zero)) t ≡ zero
load_of_none [] zero t same = refl
load_of_none [] (suc n) t same = refl
load_of_none (a ∷ arcs) zero t same = refl
load_of_none (a ∷ arcs) (suc n) t same =
    let term : OuterArc × ℕ → ℕ = λ (j, g). cond (covers t j) g 0 in
    omega (arith, sum_by-cons term (a, 0) (zip arcs (replicate n 0)), load_of_none arcs n t (omega arith), none (covers t a))
  where
    none : (b : Bool) → cond b zero 0 ≡ zero
    none true = refl
    none false = refl

pub zeros_at : (n t : ℕ) → get_or (replicate n zero) t 0 ≡ zero
zeros_at n t = ⊎_elim (λ (h : t < n). get_or-replicate n t 0 0 h) (λ (h : n ≤ t). get_or_past (replicate n 0) t 0 (omega (arith, length-replicate {A = ℕ} n 0))) (cases_lt t n)

pub fresh_state : (instance : Instance) → IsInstance instance → IsState (record { instance = instance; flows = no_flows instance; pushed = 0; potentials = replicate (instance.steps + 1) 0 })
fresh_state instance fits =
    record {
      in_range = fits;
      balanced = record {
        within_weights = zip_from instance.arcs (replicate (length instance.arcs) 0) (length-replicate (length instance.arcs) 0) (λ i h. omega (arith, zeros_at (length instance.arcs) i));
        each_step = length-replicate instance.steps 0;
        balance = λ t h. omega (arith, zeros_at instance.steps t, load_of_none instance.arcs (length instance.arcs) t refl);
      };
      within_units = omega arith;
      each_node = length-replicate (instance.steps + 1) 0;
      small = All-replicate (λ value. value ≤ 2 ^ 122) (instance.steps + 1) 0 (omega arith);
    }

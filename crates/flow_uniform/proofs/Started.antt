-- What a solver begins with.
use Rattle.std.proofs.Common.{◌≡◌, ℕ, ◌+◌, ◌<◌, ◌≤◌, ◌∙◌, sym, ap, List, length, arith, ⊎_elim, get_or, replicate}
use Rattle.std.specs.Prelude.{None, Some}
use Rattle.std.specs.declared.option.Option.{Option}
use Rattle.std.proofs.lemmas.Bool.{cases_lt}
use Rattle.std.proofs.lemmas.List.{get_or-replicate, length-replicate, get_or_past}
use Rattle.flow_model.specs.Instances.{Instance, IsInstance}
use Rattle.flow_parts.specs.OuterEdges.{Lists, AreListed}
use Rattle.flow_parts.specs.Ranks.{Ranks, rank_at}
use Rattle.flow_uniform.specs.Cuts.{ends_at}
use Rattle.flow_uniform.specs.Uniform.{IsUniform}
use Rattle.flow_uniform.specs.Starts.{IsAtStart}
use Rattle.flow_uniform.proofs.Parts.{flow_where-none}

zero_at : (n i : ℕ) → get_or (replicate {A = ℕ} n 0) i 0 ≡ 0
zero_at n i = ⊎_elim (λ (h : i < n). get_or-replicate n i 0 0 h) (λ (h : n ≤ i). get_or_past (replicate {A = ℕ} n 0) i 0 (omega (arith, length-replicate {A = ℕ} n 0))) (cases_lt i n)

-- no key has a rank at first
unranked : (n i : ℕ) → rank_at (replicate {A = Option ℕ} n None) i ≡ None
unranked n i =
    ⊎_elim
    (λ (h : i < n). get_or-replicate n i None None h)
    (λ (h : n ≤ i). get_or_past (replicate {A = Option ℕ} n None) i None (omega (arith, length-replicate {A = Option ℕ} n None)))
    (cases_lt i n)

pub at_start : (instance : Instance) (cost steps many : ℕ) (lists : Lists) (flows leaving : List ℕ) (ranks : Ranks) (cuts prices : List ℕ) → 0 < cost → IsUniform cost instance.arcs → IsInstance instance
    → AreListed instance lists (length instance.arcs) → steps ≡ instance.steps → many ≡ length instance.arcs → flows ≡ replicate many 0 → leaving ≡ replicate (steps + 1) 0
    → cuts ≡ replicate steps 0 → prices ≡ replicate steps 0 → ranks ≡ replicate {A = Option ℕ} many None
    → IsAtStart instance cost lists (record { flows = flows; leaving = leaving; ranks = ranks }) cuts prices
at_start instance cost steps many lists flows leaving ranks cuts prices dear uniform fits listed steps_is many_is flows_is leaving_is cuts_is prices_is ranks_is =
    let unused : (i : ℕ) → get_or flows i 0 ≡ 0 = λ i. ap (λ xs. get_or xs i 0) flows_is ∙ zero_at many i in
    let none : (i : ℕ) → rank_at ranks i ≡ None = λ i. ap (λ (rs : Ranks). rank_at rs i) ranks_is ∙ unranked many i in
    record {
      dear = dear;
      uniform = uniform;
      fits = fits;
      edges = listed;
      held = record {
        each_arc = ap length flows_is ∙ length-replicate {A = ℕ} many 0 ∙ many_is;
        each_node = ap length leaving_is ∙ length-replicate {A = ℕ} (steps + 1) 0 ∙ omega arith;
        each_key = ap (λ (rs : Ranks). length rs) ranks_is ∙ length-replicate {A = Option ℕ} many None ∙ many_is;
        low = λ i h. omega (arith, unused i);
        leaving = λ node h. ap (λ xs. get_or xs node 0) leaving_is ∙ zero_at (steps + 1) node ∙ sym (flow_where-none (ends_at node) instance.arcs flows (λ i l. unused i));
        ranked = λ i h other some. absurd (omega (arith, unused i));
        holds = λ i rank other is. let not : None ≡ Some rank = sym (none i) ∙ is in cc;
      };
      unused = unused;
      each_step = ap length cuts_is ∙ length-replicate {A = ℕ} steps 0 ∙ steps_is;
      uncut = λ t. ap (λ xs. get_or xs t 0) cuts_is ∙ zero_at steps t;
      unpriced = prices_is ∙ ap (λ n. replicate {A = ℕ} n 0) steps_is;
    }

-- The lists of the arcs that start in each window, as arcs are added from the last to the first.
use Rattle.std.proofs.Common.{◌≡◌, ◌∙◌, ℕ, suc, ◌+◌, ◌-◌, ◌/◌, ◌<◌, ◌≤◌, ap, sym, subst, eqb, arith, List, length, get_or, set, replicate, length-set}
use Rattle.std.proofs.lemmas.List.{get_or-replicate, length-replicate}
use Rattle.flow_model.specs.declared.arcs.OuterArc.{OuterArc}
use Rattle.flow_model.specs.Instances.{arc_at}
use Rattle.flow_windows.specs.Cuts.{AreStarts, IsListed, WindowLists}
use Rattle.flow_windows.proofs.Gathering.{passing}
use Rattle.flow_windows.proofs.Listing.{listed_more}
use Rattle.flow_windows.proofs.Merging.{start_test}

-- the lists have the arcs from number m on
pub record AreBegun (width : ℕ) (arcs : List OuterArc) (windows : ℕ) (lists : WindowLists) (m : ℕ) : Type 0 where
  pub each_window : length lists.first ≡ windows
  pub each_arc : length lists.next ≡ length arcs
  pub listed : (k : ℕ) → k < length lists.first → IsListed (length arcs) lists.next (get_or lists.first k 0) (passing (start_test width k arcs) m (length arcs - m))

pub begun_none : (width : ℕ) (arcs : List OuterArc) (windows : ℕ) (first next : List ℕ) → first ≡ replicate windows (length arcs) → next ≡ replicate (length arcs) (length arcs)
    → AreBegun width arcs windows (record { first = first; next = next }) (length arcs)
begun_none width arcs windows first next first_is next_is =
    let past : ℕ = length arcs in
    let none : 0 ≡ past - past = omega arith in
    let many : length first ≡ windows = ap length first_is ∙ length-replicate windows past in
    record {
      each_window = many;
      each_arc = ap length next_is ∙ length-replicate past past;
      listed = λ k within.
          let ends : get_or first k 0 ≡ past = ap (λ xs. get_or xs k 0) first_is ∙ get_or-replicate windows k past 0 (omega arith) in
          subst (λ n. IsListed past next (get_or first k 0) (passing (start_test width k arcs) past n)) none ends;
    }

-- with one more arc
pub begun_more : (width : ℕ) (arcs : List OuterArc) (windows : ℕ) (lists : WindowLists) (m b w : ℕ) → AreBegun width arcs windows lists m → b + 1 ≡ m → m ≤ length arcs → w ≡ (arc_at arcs b).start / width → w < windows
    → AreBegun width arcs windows (record { first = set lists.first w b; next = set lists.next b (get_or lists.first w 0) }) b
begun_more width arcs windows lists m b w begun one within window_is window_in =
    let past : ℕ = length arcs in
    let left : suc (past - m) ≡ past - b = omega arith in
    let before : (k : ℕ) → k < length lists.first → IsListed past lists.next (get_or lists.first k 0) (passing (start_test width k arcs) (b + 1) (past - m)) =
    λ k low. subst (λ n. IsListed past lists.next (get_or lists.first k 0) (passing (start_test width k arcs) n (past - m))) (sym one) (begun.listed k low) in
    record {
      each_window = length-set lists.first w b ∙ begun.each_window;
      each_arc = length-set lists.next b (get_or lists.first w 0) ∙ begun.each_arc;
      listed = λ k low.
          subst (λ n. IsListed past (set lists.next b (get_or lists.first w 0)) (get_or (set lists.first w b) k 0) (passing (start_test width k arcs) b n)) left
          (listed_more past (λ j. start_test width j arcs) lists.first lists.next b (past - m) w (omega (arith, begun.each_arc)) (omega (arith, begun.each_window))
          (λ j. ap (λ n. eqb n j) (sym window_is)) before k (omega (arith, low, length-set lists.first w b)));
    }

-- once all arcs are added
pub begun_all : (width : ℕ) (arcs : List OuterArc) (windows : ℕ) (lists : WindowLists) (m : ℕ) → AreBegun width arcs windows lists m → m ≡ 0 → AreStarts width arcs lists
begun_all width arcs windows lists m begun last =
    let all : length arcs - m ≡ length arcs = omega arith in
    record {
      each_arc = begun.each_arc;
      each_window = λ k low.
          subst (λ n. IsListed (length arcs) lists.next (get_or lists.first k 0) (passing (start_test width k arcs) 0 n)) all
          (subst (λ a. IsListed (length arcs) lists.next (get_or lists.first k 0) (passing (start_test width k arcs) a (length arcs - m))) last (begun.listed k low));
    }

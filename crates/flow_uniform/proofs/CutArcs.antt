-- An arc over the step that ends last loses flow, and a load that fits is settled.
use Rattle.std.proofs.Common.{◌≡◌, ◌≢◌, ℕ, ◌+◌, ◌-◌, ◌<◌, ◌≤◌, ◌∙◌, ◌⊎◌, inl, inr, sym, refl, ap, subst, List, length, arith, ⊎_elim, get_or, set, length-set}
use Rattle.std.proofs.lemmas.Bool.{cases_lt, cases_eq}
use Rattle.flow_model.specs.declared.arcs.OuterArc.{OuterArc}
use Rattle.flow_model.specs.Instances.{Instance, arc_at, load_at}
use Rattle.flow_model.proofs.Lists.{set_at}
use Rattle.flow_uniform.specs.Cuts.{Spans, IsCutAt, IsCutAgain, AreCuts}
use Rattle.flow_uniform.proofs.Covering.{load_agree, load_falls}

-- the arc covers the step and has flow, and none that has flow ends later
pub record IsFarthest (arcs : List OuterArc) (flows : List ℕ) (t i : ℕ) : Type 0 where
  pub within : i < length arcs
  pub spans : Spans (arc_at arcs i) t
  pub some : 0 < get_or flows i 0
  pub last : (j : ℕ) → j < length arcs → 0 < get_or flows j 0 → (arc_at arcs j).end ≤ (arc_at arcs i).end

pub cut_more : (instance : Instance) (flows cuts : List ℕ) (t i amount : ℕ) → AreCuts instance flows cuts (t + 1) t → t < instance.steps → (arc_at instance.arcs i).end ≤ instance.steps
    → IsFarthest instance.arcs flows t i → 0 < amount → amount ≤ get_or flows i 0
    → AreCuts instance (set flows i (get_or flows i 0 - amount)) (set cuts t (arc_at instance.arcs i).end) (t + 1) t
cut_more instance flows cuts t i amount before in_steps in_chain far some few =
    let arcs : List OuterArc = instance.arcs in
    let arc : OuterArc = arc_at arcs i in
    let less : ℕ = get_or flows i 0 - amount in
    let new : List ℕ = set flows i less in
    let now : List ℕ = set cuts t arc.end in
    let flow : (j : ℕ) → (j ≡ i → get_or new j 0 ≡ less) × (j ≢ i → get_or new j 0 ≡ get_or flows j 0) = λ j. set_at flows i j less (omega (arith, before.each_arc, far.within)) in
    let cut : (s : ℕ) → (s ≡ t → get_or now s 0 ≡ arc.end) × (s ≢ t → get_or now s 0 ≡ get_or cuts s 0) = λ s. set_at cuts t s arc.end (omega (arith, before.each_step)) in
    let here : get_or now t 0 ≡ arc.end = (cut t).0 refl in
    let falls : (j : ℕ) → get_or new j 0 ≤ get_or flows j 0 = λ j.
    ⊎_elim (λ (e : j ≡ i). omega (arith, (flow j).0 e, ap (λ k. get_or flows k 0) e)) (λ (n : j ≢ i). omega (arith, (flow j).1 n)) (cases_eq j i) in
    let lower : 0 < get_or cuts t 0 → arc.end ≤ get_or cuts t 0 = λ h. before.left i t far.within far.some far.spans h in
    let old_load : (s : ℕ) → Spans arc s → load_at arcs new s + amount ≡ load_at arcs flows s = λ s spans.
    omega (arith, load_falls arcs flows s i less before.each_arc far.within spans) in
    let same_load : (s : ℕ) → (Spans arc s → ⊥) → load_at arcs new s ≡ load_at arcs flows s = λ s apart.
    load_agree arcs new flows s (length-set flows i less ∙ before.each_arc) before.each_arc
    (λ j h spans. (flow j).1 (λ e. apart (subst (λ k. Spans (arc_at arcs k) s) e spans))) in
    let spans_or : (s : ℕ) → s < t → (Spans arc s) ⊎ (Spans arc s → ⊥) = λ s h.
    ⊎_elim (λ (k : s < arc.start). inr (λ (spans : Spans arc s). omega (arith, spans.started))) (λ (k : arc.start ≤ s). inl (record { started = k; open_still = omega (arith, far.spans.open_still) })) (cases_lt s arc.start) in
    record {
      each_arc = length-set flows i less ∙ before.each_arc;
      each_step = length-set cuts t arc.end ∙ before.each_step;
      low = λ j h. omega (arith, falls j, before.low j h);
      free = λ j h z. omega (arith, falls j, before.free j h z);
      unentered = λ j h l. omega (arith, falls j, before.unentered j h l);
      none_after = λ s h. omega (arith, (cut s).1 (λ e. omega arith), before.none_after s h);
      later = λ s h.
          ⊎_elim
          (λ (e : s ≡ t). omega (arith, (cut s).0 e, far.spans.open_still))
          (λ (n : s ≢ t). omega (arith, (cut s).1 n, before.later s (omega (arith, (cut s).1 n))))
          (cases_eq s t);
      within = λ s. ⊎_elim (λ (e : s ≡ t). omega (arith, (cut s).0 e)) (λ (n : s ≢ t). omega (arith, (cut s).1 n, before.within s)) (cases_eq s t);
      lost = λ j h l lose dear.
          let old : get_or flows j 0 < (arc_at arcs j).weight → (s : ℕ) × IsCutAt now (arc_at arcs j) s = λ k.
          let was = before.lost j h l k dear in
          ⊎_elim
          (λ (e : was.0 ≡ t).
          let spans : Spans (arc_at arcs j) t = subst (Spans (arc_at arcs j)) e was.1.spans in
          let some_cut : 0 < get_or cuts t 0 = omega (arith, was.1.some, ap (λ s. get_or cuts s 0) e) in
          (t, record { spans = spans; some = omega (arith, here, far.spans.open_still); low = omega (arith, here, lower some_cut, was.1.low, ap (λ s. get_or cuts s 0) e) }))
          (λ (n : was.0 ≢ t). (was.0, record { spans = was.1.spans; some = omega (arith, (cut was.0).1 n, was.1.some); low = omega (arith, (cut was.0).1 n, was.1.low) }))
          (cases_eq was.0 t) in
          ⊎_elim
          (λ (e : j ≡ i).
          subst (λ k. (s : ℕ) × IsCutAt now (arc_at arcs k) s) (sym e) (t, record { spans = far.spans; some = omega (arith, here, far.spans.open_still); low = omega (arith, here) }))
          (λ (n : j ≢ i). old (omega (arith, (flow j).1 n)))
          (cases_eq j i);
      left = λ j s h flows_still spans is_cut.
          ⊎_elim
          (λ (e : s ≡ t). omega (arith, (cut s).0 e, far.last j h (omega (arith, falls j))))
          (λ (n : s ≢ t). omega (arith, (cut s).1 n, before.left j s h (omega (arith, falls j)) spans (omega (arith, (cut s).1 n))))
          (cases_eq s t);
      fits = λ s h.
          ⊎_elim (λ (spans : Spans arc s). omega (arith, old_load s spans, before.fits s h)) (λ (apart : Spans arc s → ⊥). omega (arith, same_load s apart, before.fits s h)) (spans_or s h);
      full = λ s h is_cut.
          let other : s ≢ t = λ e. omega arith in
          let as_before : get_or now s 0 ≡ get_or cuts s 0 = (cut s).1 other in
          let was_cut : 0 < get_or cuts s 0 = omega (arith, as_before) in
          ⊎_elim
          (λ (spans : Spans arc s).
          let high : arc.end ≤ get_or cuts s 0 = before.left i s far.within far.some spans was_cut in
          inr (t, record { after = h; before = omega (arith, as_before, far.spans.open_still, high); some = omega (arith, here, far.spans.open_still); low = omega (arith, here, as_before, high) }))
          (λ (apart : Spans arc s → ⊥).
          ⊎_elim
          (λ (e : load_at arcs flows s ≡ instance.units). inl (same_load s apart ∙ e))
          (λ (w : (r : ℕ) × IsCutAgain cuts s r).
          ⊎_elim
          (λ (e : w.0 ≡ t).
          let at_t : get_or cuts w.0 0 ≡ get_or cuts t 0 = ap (λ k. get_or cuts k 0) e in
          inr (
            t,
            record {
              after = h;
              before = omega (arith, as_before, w.1.before);
              some = omega (arith, here, far.spans.open_still);
              low = omega (arith, here, as_before, w.1.low, at_t, lower (omega (arith, at_t, w.1.some)));
            },
          ))
          (λ (n : w.0 ≢ t).
          inr (w.0, record { after = w.1.after; before = omega (arith, as_before, w.1.before); some = omega (arith, (cut w.0).1 n, w.1.some); low = omega (arith, (cut w.0).1 n, as_before, w.1.low) }))
          (cases_eq w.0 t))
          (before.full s h was_cut))
          (spans_or s h);
    }

-- the load of one more step fits, and is full if an arc lost flow there
pub cut_enough : (instance : Instance) (flows cuts : List ℕ) (t : ℕ) → AreCuts instance flows cuts (t + 1) t → load_at instance.arcs flows t ≤ instance.units
    → (0 < get_or cuts t 0 → instance.units ≤ load_at instance.arcs flows t) → AreCuts instance flows cuts (t + 1) (t + 1)
cut_enough instance flows cuts t before low full =
    let load : ℕ → ℕ = load_at instance.arcs flows in
    record {
      each_arc = before.each_arc;
      each_step = before.each_step;
      low = before.low;
      free = before.free;
      unentered = before.unentered;
      none_after = before.none_after;
      later = before.later;
      within = before.within;
      lost = before.lost;
      left = before.left;
      fits = λ s h. ⊎_elim (λ (e : s ≡ t). omega (arith, ap load e)) (λ (n : s ≢ t). before.fits s (omega arith)) (cases_eq s t);
      full = λ s h cut.
          ⊎_elim
          (λ (e : s ≡ t). inl (omega (arith, ap load e, full (omega (arith, ap (λ k. get_or cuts k 0) e)))))
          (λ (n : s ≢ t). before.full s (omega arith) cut)
          (cases_eq s t);
    }

-- before the first step no arc has flow and none was cut
pub uncut : (instance : Instance) (flows cuts : List ℕ) → length flows ≡ length instance.arcs → length cuts ≡ instance.steps → ((i : ℕ) → get_or flows i 0 ≡ 0) → ((t : ℕ) → get_or cuts t 0 ≡ 0)
    → AreCuts instance flows cuts 0 0
uncut instance flows cuts each_arc each_step unused none =
    record {
      each_arc = each_arc;
      each_step = each_step;
      low = λ i h. omega (arith, unused i);
      free = λ i h z. unused i;
      unentered = λ i h l. unused i;
      none_after = λ t h. none t;
      later = λ t h. absurd (omega (arith, none t));
      within = λ t. omega (arith, none t);
      lost = λ i h l less some. absurd (omega arith);
      left = λ i t h some spans cut. absurd (omega (arith, unused i));
      fits = λ t h. absurd (omega arith);
      full = λ t h. absurd (omega arith);
    }

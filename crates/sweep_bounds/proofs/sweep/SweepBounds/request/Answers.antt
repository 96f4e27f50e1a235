use Rattle.std.proofs.Common.{append-nil, not, nat_le, ◌&&◌, ◌≡◌, ℕ, ◌+◌, ◌∙◌, sym, ap, refl, subst, Bool, true, false, Ok, Err, IsSome, List, [], ◌∷◌, ◌++◌, length, cond, None, Some, Option, arith}
use Rattle.std.specs.Prelude.{OnErr}
use Rattle.std.specs.declared.result.Result.{Result}
use Rattle.std.specs.Map.{lookup}
use Rattle.std.proofs.lemmas.List.{get_or_append_left, get_or_push}
use Rattle.std.proofs.lemmas.Map.Steps.{set_value_same}
use Rattle.indexmap.specs.IndexMap.{insert_entry}
use Rattle.cache_model.specs.contracts.objects.ObjectPartialEq.TheImpl.{eq-value}
use Rattle.cache_model.specs.declared.objects.Object.{Object}
use Rattle.cache_model.specs.Claim.{same_object}
use Rattle.cache_model.proofs.DifferentObjects.{same_object-derived}
use Rattle.area_sums.specs.Groups.{AreSumsOf}
use Rattle.sweep_bounds.proofs.Writes.{set_value-insert}
use Rattle.sweep_bounds.specs.Sweep.{HasSeen, Sweep, length_since, span_if}
use Rattle.sweep_bounds.specs.contracts.sweep.SweepBounds.{the_view}
use Rattle.sweep_bounds.proofs.Seen.{HasSeen-pushed, Takes, next_length}
use Rattle.sweep_bounds.proofs.sweep.SweepBounds.request.Goals.{in-Some+in_ok-add_span-in-Some, in-None+in_ok-insert-in-None}
use Rattle.sweep_bounds.proofs.sweep.SweepBounds.request.Goals as goal

-- what is kept after the request
abbrev after : goal.After-self-2-1 → Sweep
after c =
    the_view
    (record { warmup = c.match-get_mut.self-inside.warmup; delay = c.match-get_mut.self-inside.delay; requests = c.match-get_mut.self-inside.requests + 1; latest = c.match-get_mut.self-inside.latest; sums = c.match-get_mut.self-inside.sums })

-- a known object is at its new place
found : (x : Object) (entries : List (Object × ℕ)) (last : ℕ) → Some last ≡ lookup (eq-value.it x) entries → lookup (same_object x) entries ≡ Some last
found x entries last e = ap (λ (same : Object → Object → Bool). lookup (same x) entries) (sym same_object-derived) ∙ sym e

-- what a look-up finds after the write
updated : (eq : Object → Object → Bool) → eq ≡ same_object → (x : Object) (t : ℕ) (entries new : List (Object × ℕ))
    → ((y : Object) → lookup (eq y) new ≡ cond (eq x y) (Some t) (lookup (eq y) entries))
    → (y : Object) → lookup (same_object y) new ≡ cond (same_object x y) (Some t) (lookup (same_object y) entries)
updated eq e x t entries new all =
    subst (λ (same : Object → Object → Bool). (y : Object) → lookup (same y) new ≡ cond (same x y) (Some t) (lookup (same y) entries)) e all

either : (b : Bool) → cond {A = Option ℕ} b None None ≡ None
either true = refl
either false = refl

takes : (c : goal.After-self-2-1) → Takes c.args.object c.args.only_fills (the_view c.self.inside) (after c)
takes c =
    let old : Sweep = the_view c.self.inside in
    let x : Object = c.args.object in
    let counts : c.counts_next-counts.result ≡ (nat_le old.warmup old.requests && not c.args.only_fills) =
    c.counts_next-counts.ensures ∙ ap (λ (s : Sweep). nat_le s.warmup s.requests && not c.args.only_fills) (sym c.self.view_is) in
    elim c.match-get_mut.branch [
      | in-Some+in_ok-add_span-in-Some w ↦
          let is : lookup (same_object x) old.latest ≡ Some w.in-Some.last.now = found x old.latest w.in-Some.last.now w.in-Some.ensures.value in
          let writes = c.get_mut.follows.holds c.self.inside.requests in
          let span : w.length_if-span.result ≡ next_length old x c.args.only_fills =
          w.length_if-span.ensures.length
          ∙ (λ i. cond (counts i) (length_since old.delay old.requests (sym is i)) None) in
          subst (λ (s : Sweep). Takes x c.args.only_fills old (record { warmup = s.warmup; delay = s.delay; requests = s.requests + 1; latest = s.latest; sums = s.sums })) (sym (ap the_view w.self-inside-is))
          (record {
            warmup = refl;
            delay = refl;
            requests = refl;
            latest = updated (eq-value.it) same_object-derived x old.requests old.latest (c.get_mut.follows.lender c.self.inside.requests).entries
                (writes.3 (subst (λ (o : Option ℕ). IsSome o) w.in-Some.ensures.value refl)).0;
            entries = writes.0 ∙ set_value-insert eq-value.it x w.in-Some.last.now old.requests old.latest (sym w.in-Some.ensures.value)
                ∙ (λ i. insert_entry (same_object-derived i) old.latest x old.requests);
            sums = λ spans were. subst (λ l. AreSumsOf (spans ++ span_if x.size l) w.add_span.new.sums) span (w.in_ok-add_span-in-Some.ensures.added spans were);
          })
      | in-None+in_ok-insert-in-None w ↦
          let same : c.get_mut.follows.lender-at-none.entries ≡ old.latest = ap (λ m. m.entries) c.get_mut.follows.holds-at-none in
          let is : lookup (same_object x) old.latest ≡ None = ap (λ (same : Object → Object → Bool). lookup (same x) old.latest) (sym same_object-derived) ∙ sym w.in-None.ensures.value in
          let none : next_length old x c.args.only_fills ≡ None =
          ap (λ o. cond (nat_le old.warmup old.requests && not c.args.only_fills) (length_since old.delay old.requests o) None) is ∙ either (nat_le old.warmup old.requests && not c.args.only_fills) in
          subst (λ (s : Sweep). Takes x c.args.only_fills old (record { warmup = s.warmup; delay = s.delay; requests = s.requests + 1; latest = s.latest; sums = s.sums })) (sym (ap the_view w.self-inside-is))
          (record {
            warmup = refl;
            delay = refl;
            requests = refl;
            latest = updated (eq-value.it) same_object-derived x old.requests old.latest w.insert.new.self.entries
                (λ y. w.in_ok-insert-in-None.ensures.updates.0 y ∙ ap (λ (m : List (Object × ℕ)). cond (eq-value.it x y) (Some old.requests) (lookup (eq-value.it y) m)) same);
            entries = w.in_ok-insert-in-None.ensures.entries ∙ (λ i. insert_entry (same_object-derived i) (same i) x old.requests);
            sums = λ spans were.
                subst (λ l. AreSumsOf (spans ++ span_if x.size l) c.self.inside.sums) (sym none)
                (subst (λ ss. AreSumsOf ss c.self.inside.sums) (sym (append-nil spans)) were);
          })
    ]

OnErr-from : {T E P : Type 0} (r : Result T E) → P → OnErr r P
OnErr-from (Ok x) p = tt
OnErr-from (Err e) p = p

pub returns-in_err-add_span-in-Some-clause-err : goal.returns-in_err-add_span-in-Some-clause-err
returns-in_err-add_span-in-Some-clause-err c =
    let is : lookup (eq-value.it c.args.object) c.self.inside.latest.entries ≡ Some c.in-Some.last.now = sym c.in-Some.ensures.value in
    let latest : (c.get_mut.follows.lender c.in-Some.last.now).entries ≡ c.self.inside.latest.entries =
    (c.get_mut.follows.holds c.in-Some.last.now).0 ∙ set_value_same (eq-value.it c.args.object) c.self.inside.latest.entries c.in-Some.last.now is in
    let sums : c.add_span.new.sums ≡ c.self.inside.sums = c.in_err-add_span-in-Some.ensures.err in
    OnErr-from c.from_residual.result
    ((λ i. record { warmup = c.self.inside.warmup; delay = c.self.inside.delay; requests = c.self.inside.requests; latest = latest i; sums = sums i }) ∙ c.self.view_is)

pub returns-clause-seen : goal.returns-clause-seen
returns-clause-seen c = λ trace fills size h.
    HasSeen-pushed trace c.args.object (the_view c.self.inside) (after c) c.args.only_fills (takes c) fills (fills ++ c.args.only_fills ∷ [])
    (λ t low. get_or_append_left fills (c.args.only_fills ∷ []) false t (omega arith))
    (get_or_push fills c.args.only_fills false (length trace) size) (subst (HasSeen trace fills) (sym c.self.view_is) h)

pub returns-clause-seen_unmarked : goal.returns-clause-seen_unmarked
returns-clause-seen_unmarked c = λ trace counts h.
    HasSeen-pushed trace c.args.object (the_view c.self.inside) (after c) c.args.only_fills (takes c) [] []
    (λ t low. refl) (sym counts) (subst (HasSeen trace []) (sym c.self.view_is) h)

use Rattle.std.proofs.Common.{◌≡◌, ℕ, ◌<◌, ◌∙◌, sym, refl, subst, inl, inr, arith, length, length-set, slice_index_or, slice_set, List}
use Rattle.std.proofs.lemmas.Bool.{cases_eq}
use Rattle.std.proofs.lemmas.List.{get_or_default, get_or-set_same, get_or-set_other}
use Rattle.policy_sweep.specs.Running.{Advances, IsAnyRunning}
use Rattle.policy_sweep.specs.declared.running.Running.{Running}
use Rattle.policy_sweep.proofs.replays.go_through_all.Goals as goal

pub loop-place-init : goal.loop-place-init
loop-place-init c = record { each = refl; gone = λ i d low. absurd (omega (arith, low)); rest = λ i d high. refl }

pub go_through-requires : goal.go_through-requires
go_through-requires c =
    let one : Running = c.index_mut-one.result.now in
    let is : one ≡ slice_index_or c.args.running.now.items c.loop-place.place one = c.index_mut-one.ensures.value ∙ c.loop-place.invariant.rest c.loop-place.place one (omega arith) in
    record {
      of_some = subst (λ r. IsAnyRunning r c.args.batch.now) (sym is)
          (c.requires.of_some c.loop-place.place one (omega (arith, c.loop-place-test.true, c.len-place-end.ensures, c.args.running.now.ok.0)));
    }

pub loop-place-preserved : goal.loop-place-preserved
loop-place-preserved c =
    let init : List Running = c.args.running.now.items in
    let cur : List Running = c.loop-place.running.items in
    let place : ℕ = c.loop-place.place in
    let one : Running = c.index_mut-one.result.now in
    let new : Running = c.go_through.new.self in
    let below : place < length init = omega (arith, c.loop-place-test.true, c.len-place-end.ensures, c.args.running.now.ok.0) in
    let within : place < length cur = omega (arith, below, c.loop-place.invariant.each) in
    let is : one ≡ slice_index_or init place one = c.index_mut-one.ensures.value ∙ c.loop-place.invariant.rest place one (omega arith) in
    record {
      each = length-set cur place new ∙ c.loop-place.invariant.each;
      gone = λ i d low. elim (cases_eq i place) [
        | inl same ↦
            subst (λ k. Advances c.args.batch.now (slice_index_or init k d) (slice_index_or (slice_set cur place new) k d)) (sym same)
            (subst (λ r. Advances c.args.batch.now r (slice_index_or (slice_set cur place new) place d)) (is ∙ get_or_default init place one d below)
            (subst (λ r. Advances c.args.batch.now one r) (sym (get_or-set_same cur place new d within)) c.in_default.ensures.more))
        | inr apart ↦
            subst (λ r. Advances c.args.batch.now (slice_index_or init i d) r) (sym (get_or-set_other cur place i new d apart)) (c.loop-place.invariant.gone i d (omega (arith, low, apart)))
      ];
      rest = λ i d high. get_or-set_other cur place i new d (λ same. omega (arith, high, same)) ∙ c.loop-place.invariant.rest i d (omega (arith, high));
    }

pub returns-clause-more : goal.returns-clause-more
returns-clause-more c = λ i d below. c.loop-place.invariant.gone i d (omega (arith, below, c.loop-place-test.false, c.len-place-end.ensures, c.args.running.now.ok.0))

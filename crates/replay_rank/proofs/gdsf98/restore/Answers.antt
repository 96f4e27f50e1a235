use Rattle.std.proofs.Common.{◌≡◌, ◌≤◌, ◌∙◌, sym, ap, subst, [], ◌∷◌, ◌++◌, arith}
use Rattle.std.specs.List.{AllByRecursion}
use Rattle.policy_model.specs.States.{Entry, Apart, used}
use Rattle.policy_model.proofs.Entries.{sum_by-put_in}
use Rattle.policy_model.proofs.Parts.{IsPart}
use Rattle.replay_rank.specs.AgingEntries.{entry_of, entries_of}
use Rattle.replay_rank.specs.AdmittedEntries.{put_again}
use Rattle.replay_rank.proofs.AdmittedOrdered.{again-pushed, whole-part, sizes-popped, last-absent, last-used}
use Rattle.replay_rank.proofs.gdsf98.restore.Goals as goal

-- all, by what the last turn began with
whole : (c : goal.After-put-arg-in-Some-1) → put_again (c.pop.new.self.items ++ (c.in-Some.object, c.in-Some.held) ∷ []) (entries_of c.loop-object.holdings) ≡ put_again c.args.aside.now.items (entries_of c.args.holdings.now)
whole c = ap (λ aside. put_again aside (entries_of c.loop-object.holdings)) (sym c.in-Some.ensures.items) ∙ c.loop-object.invariant.again

pub put-requires-clause-absent : goal.put-requires-clause-absent
put-requires-clause-absent c =
    last-absent c.pop.new.self.items (c.in-Some.object, c.in-Some.held) (entries_of c.loop-object.holdings) (subst Apart (sym (whole c)) c.requires.apart)

pub put-requires-clause-size : goal.put-requires-clause-size
put-requires-clause-size c =
    (sizes-popped c.pop.new.self.items (c.in-Some.object, c.in-Some.held) (subst (AllByRecursion (λ a. 1 ≤ a.1.size)) c.in-Some.ensures.items c.loop-object.invariant.some)).1

pub returns-in_err-put-clause-part : goal.returns-in_err-put-clause-part
returns-in_err-put-clause-part c =
    subst (λ es. IsPart es (put_again c.args.aside.now.items (entries_of c.args.holdings.now))) (sym c.in_err-put.ensures.err)
    (whole-part c.loop-object.aside.items (entries_of c.loop-object.holdings) (put_again c.args.aside.now.items (entries_of c.args.holdings.now)) c.loop-object.invariant.again)

pub overflow_add-in_use : goal.overflow_add-in_use
overflow_add-in_use c =
    let all : put_again (c.pop.new.self.items ++ (c.in-Some.object, c.in-Some.held) ∷ []) (entries_of c.loop-object.holdings) ≡ put_again c.args.aside.now.items (entries_of c.args.holdings.now) =
    ap (λ aside. put_again aside (entries_of c.loop-object.holdings)) (sym c.in-Some.ensures.items) ∙ c.loop-object.invariant.again in
    omega (arith, c.loop-object.invariant.in_use, last-used c.pop.new.self.items (c.in-Some.object, c.in-Some.held) (entries_of c.loop-object.holdings), ap used all, c.requires.range)

pub loop-object-preserved : goal.loop-object-preserved
loop-object-preserved c =
    record {
      again =
          ap (put_again c.pop.new.self.items) c.in_ok-put.ensures.entries
          ∙ sym (again-pushed c.pop.new.self.items (c.in-Some.object, c.in-Some.held) (entries_of c.loop-object.holdings))
          ∙ ap (λ aside. put_again aside (entries_of c.loop-object.holdings)) (sym c.in-Some.ensures.items)
          ∙ c.loop-object.invariant.again;
      some = (sizes-popped c.pop.new.self.items (c.in-Some.object, c.in-Some.held) (subst (AllByRecursion (λ a. 1 ≤ a.1.size)) c.in-Some.ensures.items c.loop-object.invariant.some)).0;
      in_use = omega (arith, c.loop-object.invariant.in_use, ap used c.in_ok-put.ensures.entries, sum_by-put_in (λ (e : Entry). e.size) (entries_of c.loop-object.holdings) (entry_of (c.in-Some.object, c.in-Some.held)));
      ordered = c.put.ensures.ordered;
    }

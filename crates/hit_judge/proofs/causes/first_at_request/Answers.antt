use Rattle.std.proofs.Common.{◌∙◌, ◌&&◌, ap, sym, Some, length, arith, ℕ, Bool}
use Rattle.std.specs.Option.{option_map}
use Rattle.std.proofs.lemmas.Bool.{and_from}
use Rattle.bit_list.specs.Bits.{bits_of}
use Rattle.judge_laws.specs.Flags.{is_flagged}
use Rattle.hit_judge.specs.Causes.{never_hits, request_cause}
use Rattle.hit_judge.proofs.Found.{find-range_first, find-range_none}
use Rattle.hit_judge.proofs.causes.first_at_request.Goals as goal

pub returns-then-never_hits : goal.returns-then-never_hits
returns-then-never_hits c =
    let p : ℕ → Bool = λ k. is_flagged (bits_of c.args.flags.now) k && never_hits c.args.capacity c.args.trace.now.objects (bits_of c.args.stale.now) k in
    ap Some c.request_cause.ensures
    ∙ sym (ap (option_map (request_cause c.args.capacity c.args.trace.now.objects))
    (find-range_first p c.loop-t.t 0 (length c.args.trace.now.objects) (omega arith) (omega arith)
    (and_from _ _ (sym c.get.ensures.bit ∙ c.if-get.true) (sym c.never_hits.ensures ∙ c.if-never_hits.true))
    (λ k low high. c.loop-t.invariant k high)))

pub returns : goal.returns
returns c =
    let p : ℕ → Bool = λ k. is_flagged (bits_of c.args.flags.now) k && never_hits c.args.capacity c.args.trace.now.objects (bits_of c.args.stale.now) k in
    sym (ap (option_map (request_cause c.args.capacity c.args.trace.now.objects))
    (find-range_none p 0 (length c.args.trace.now.objects) (λ k low high. c.loop-t.invariant k (omega arith))))

use Rattle.std.proofs.Common.{◌≡◌, ◌∙◌, ◌+◌, ◌<◌, ap, sym, cond, Some, length, arith, ℕ, Bool, false, nat_lt, below_more, List}
use Rattle.std.specs.Option.{option_map}
use Rattle.std.proofs.lemmas.Bool.{lt-ltb, le-ltb}
use Rattle.bit_list.specs.Bits.{bits_of}
use Rattle.cache_model.specs.declared.objects.Object.{Object}
use Rattle.cache_model.specs.Claim.{request_at}
use Rattle.cache_model.specs.Keeps.{latest_sum}
use Rattle.judge_laws.specs.Flags.{is_flagged, flagged_load}
use Rattle.hit_judge.specs.declared.causes.Impossible.TheVariants.{Load}
use Rattle.hit_judge.specs.Causes.{CanHitFlagged, IsNextFlagged, load_cause}
use Rattle.hit_judge.proofs.FlaggedLoads.{flagged_from, load-counted, flagged_load-latest}
use Rattle.hit_judge.proofs.Found.{find-range_first, find-range_none}
use Rattle.hit_judge.proofs.causes.first_at_step.Goals as goal

-- the load that is counted is that of the next step
counted : (c : ℕ) (trace : List Object) (flags : List Bool) → CanHitFlagged c trace flags → (t load size after : ℕ) (starts ends : Bool) → t < length trace
    → IsNextFlagged trace flags t starts
    → ends ≡ is_flagged flags t → size ≡ (request_at trace t).size → load ≡ latest_sum trace (flagged_from c trace flags) t
    → after + cond ends size 0 ≡ load + cond starts size 0
    → after ≡ latest_sum trace (flagged_from c trace flags) (t + 1)
counted c trace flags can_hit t load size after starts ends within next_or_last ends_is size_is load_is moves =
    omega (arith, load-counted c trace flags can_hit t load size starts ends within next_or_last ends_is size_is load_is)

pub moved-load-requires-clause-held : goal.moved-load-requires-clause-held
moved-load-requires-clause-held c =
    omega (
      arith,
      load-counted c.args.capacity c.args.trace.now.objects (bits_of c.args.flags.now) c.requires.hits
          c.loop-t.t c.loop-t.load c.requested_size.result c.next_is_flagged-starts.result c.get.result (omega arith)
          c.next_is_flagged-starts.ensures c.get.ensures.bit c.requested_size.ensures.size c.loop-t.invariant.load,
    )

pub returns-then-load-capacity : goal.returns-then-load-capacity
returns-then-load-capacity c =
    let trace : List Object = c.args.trace.now.objects in
    let flags : List Bool = bits_of c.args.flags.now in
    let next : c.moved-load.result ≡ latest_sum trace (flagged_from c.args.capacity trace flags) (c.loop-t.t + 1) =
    counted c.args.capacity trace flags c.requires.hits c.loop-t.t c.loop-t.load c.requested_size.result c.moved-load.result c.next_is_flagged-starts.result c.get.result (omega arith)
    c.next_is_flagged-starts.ensures c.get.ensures.bit c.requested_size.ensures.size c.loop-t.invariant.load c.moved-load.ensures in
    let here : c.moved-load.result ≡ flagged_load c.args.capacity trace flags c.loop-t.t = next ∙ sym (flagged_load-latest c.args.capacity trace flags c.loop-t.t (omega arith)) in
    ap (λ load. Some (Load c.loop-t.t load)) here
    ∙ sym (ap (option_map (load_cause c.args.capacity trace flags))
    (find-range_first (λ t. nat_lt c.args.capacity (flagged_load c.args.capacity trace flags t)) c.loop-t.t 0 (length trace) (omega arith) (omega arith)
    (lt-ltb c.args.capacity (flagged_load c.args.capacity trace flags c.loop-t.t) (omega arith))
    (λ k low high. c.loop-t.invariant.fits k high)))

pub loop-t-preserved : goal.loop-t-preserved
loop-t-preserved c =
    let trace : List Object = c.args.trace.now.objects in
    let flags : List Bool = bits_of c.args.flags.now in
    let next : c.moved-load.result ≡ latest_sum trace (flagged_from c.args.capacity trace flags) (c.loop-t.t + 1) =
    counted c.args.capacity trace flags c.requires.hits c.loop-t.t c.loop-t.load c.requested_size.result c.moved-load.result c.next_is_flagged-starts.result c.get.result (omega arith)
    c.next_is_flagged-starts.ensures c.get.ensures.bit c.requested_size.ensures.size c.loop-t.invariant.load c.moved-load.ensures in
    record {
      load = next;
      room = omega arith;
      fits = below_more (λ k. nat_lt c.args.capacity (flagged_load c.args.capacity trace flags k) ≡ false) c.loop-t.t c.loop-t.invariant.fits
          (le-ltb c.args.capacity (flagged_load c.args.capacity trace flags c.loop-t.t) (omega (arith, flagged_load-latest c.args.capacity trace flags c.loop-t.t (omega arith))));
    }

pub returns : goal.returns
returns c =
    let trace : List Object = c.args.trace.now.objects in
    let flags : List Bool = bits_of c.args.flags.now in
    sym (ap (option_map (load_cause c.args.capacity trace flags))
    (find-range_none (λ t. nat_lt c.args.capacity (flagged_load c.args.capacity trace flags t)) 0 (length trace) (λ k low high. c.loop-t.invariant.fits k (omega arith))))

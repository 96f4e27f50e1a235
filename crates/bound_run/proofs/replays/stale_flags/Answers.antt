use Rattle.std.proofs.Common.{◌≡◌, ◌∙◌, ◌++◌, ◌∷◌, [], ℕ, Bool, false, ◌&&◌, ap, sym, map, arith}
use Rattle.std.specs.Prelude.{slice_index_or}
use Rattle.std.specs.List.{range_with_len}
use Rattle.std.proofs.lemmas.List.FromFn.{map-range_with_len_more}
use Rattle.bit_list.specs.Bits.{bits_of}
use Rattle.cache_model.specs.Claim.{only_fills}
use Rattle.bound_run.proofs.replays.stale_flags.Goals as goal

pub loop-t-preserved : goal.loop-t-preserved
loop-t-preserved c =
    let f : ℕ → Bool = λ t. slice_index_or (bits_of c.args.stale.now) t false && only_fills c.args.trace.now.fills t in
    c.push_reserved.ensures.bits
    ∙ ap (λ bits. bits ++ c.is_stale.result ∷ []) (c.make_room.ensures.bits ∙ c.loop-t.invariant)
    ∙ ap (λ b. map f (range_with_len 0 c.loop-t.t) ++ b ∷ []) c.is_stale.ensures
    ∙ sym (map-range_with_len_more f 0 c.loop-t.t c.loop-t.t (omega arith))

pub returns : goal.returns
returns c =
    let f : ℕ → Bool = λ t. slice_index_or (bits_of c.args.stale.now) t false && only_fills c.args.trace.now.fills t in
    c.loop-t.invariant ∙ ap (λ n. map f (range_with_len 0 n)) (omega arith)

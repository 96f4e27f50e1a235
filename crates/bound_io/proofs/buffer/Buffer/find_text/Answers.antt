use Rattle.std.proofs.lemmas.Grind.{common_steps}
use Rattle.std.proofs.Common.{◌≡◌, ◌+◌, ◌∙◌, ap, length, drop, [], ◌++◌, append-nil, arith, inl, inr, length-append, length-drop}
use Rattle.std.proofs.lemmas.List.{nil_from_length, take_rest}
use Rattle.std.proofs.lemmas.Result.{err_from_is_err_and}
use Rattle.bound_io.specs.Lines.{text_len}
use Rattle.bound_io.proofs.KnownLemmas.{keeps_behind, keeps_more, keeps_then, loses_still, loses_then}
use Rattle.bound_io.proofs.Texts.{text_len-le, text_len_later}
use Rattle.bound_io.proofs.buffer.Buffer.find_text.Goals as goal
use Rattle.bound_io.proofs.buffer.Buffer.find_text.Goals.{then-seen-len-via-then-seen-len, then-seen-len-via-else-seen-len+then-len-eq-ROOM}

pub overflow_add-seen : goal.overflow_add-seen
overflow_add-seen g c =
    let rest : c.text_len.result ≡ text_len (drop c.loop-seen.seen c.bytes.result.now) = rw (take_rest) at c.text_len.ensures in
    omega (arith, rest, text_len-le (drop c.loop-seen.seen c.bytes.result.now), length-drop c.loop-seen.seen c.bytes.result.now, c.bytes.ensures.short, c.loop-seen.auto.seen-fits)

pub loop-seen-preserved : goal.loop-seen-preserved
loop-seen-preserved g c =
    let loop = c.loop-seen in
    let so_far = loop.invariant in
    let held = loop.self in
    let more = c.in_ok-fill.ensures.bytes.0 in
    let seen = loop.seen + c.text_len.result in
    let rest : c.text_len.result ≡ text_len (drop loop.seen held) = rw (take_rest, c.bytes.ensures.bytes) at c.text_len.ensures in
    let whole : text_len held ≡ seen = omega (arith, so_far.seen, rest) in
    let none : text_len held ≡ length held = omega (arith, whole, text_len-le held, c.if-seen-len.false, c.len.ensures.len) in
    let all : seen ≡ length held = omega (arith, whole, none) in
    let grown = more.1 in
    rw grown record {
      within = omega (arith, all, length-append held more.0);
      seen = text_len_later held more.0 seen none all;
      kept = keeps_then _ _ _ so_far.kept (keeps_more _ _ held more.0 more.3);
      source = loses_then _ _ _ more.0 so_far.source more.3;
      none_failed = c.in_ok-fill.ensures.none_failed ∙ so_far.none_failed;
      untouched = λ ends. absurd (omega (arith, ends, none, ap text_len (so_far.untouched ends).0, ap length (so_far.untouched ends).0));
    }

pub returns-then-seen-len : goal.returns-then-seen-len
returns-then-seen-len g c =
    let so_far = c.loop-seen.invariant in
    let held = c.loop-seen.self in
    let rest : c.text_len.result ≡ text_len (drop c.loop-seen.seen held) = rw (take_rest, c.bytes.ensures.bytes) at c.text_len.ensures in
    record {
      text = omega (arith, so_far.seen, rest);
      whole = elim c.then-seen-len.branch [
        | then-seen-len-via-then-seen-len w ↦ inl (omega (arith, w.if-seen-len.true, c.len.ensures.len))
        | then-seen-len-via-else-seen-len+then-len-eq-ROOM w ↦ inr (inl (omega (arith, w.if-len-eq-ROOM.true, w.len-else-seen-len.ensures.len)))
      ];
      kept = so_far.kept;
      room = omega (arith, c.len.ensures.len, c.len.ensures.short);
      source = so_far.source;
      cause = record { later = omega (arith, so_far.none_failed); failed = tt };
      none_failed = so_far.none_failed;
      untouched = λ ends. (so_far.untouched ends).1;
    }

pub returns-in_err-fill : goal.returns-in_err-fill
returns-in_err-fill g c =
    let so_far = c.loop-seen.invariant in
    let given = c.in_err-fill.ensures in
    let p = err_from_is_err_and c.from_residual.result c.from_residual.ensures.1 in
    let rest : c.text_len.result ≡ text_len (drop c.loop-seen.seen c.loop-seen.self) = rw (take_rest, c.bytes.ensures.bytes) at c.text_len.ensures in
    let none : text_len c.loop-seen.self ≡ length c.loop-seen.self = omega (arith, so_far.seen, rest, text_len-le c.loop-seen.self, c.if-seen-len.false, c.len.ensures.len) in
    rw (p.1) record {
      text = tt;
      whole = tt;
      kept = rw (given.kept.0) (keeps_then _ _ _ so_far.kept (keeps_behind _ _ c.loop-seen.self given.kept.1));
      room = omega (arith, ap length given.kept.0, c.len.ensures.len, c.len.ensures.short);
      source = loses_still _ _ _ so_far.source given.kept.1;
      cause = record { later = omega (arith, so_far.none_failed, given.cause.later); failed = rw (so_far.none_failed) at given.cause.failed };
      none_failed = tt;
      untouched = λ ends. absurd (omega (arith, ends, none, ap text_len (so_far.untouched ends).0, ap length (so_far.untouched ends).0));
    }

pub returns-then-branch-eq0 : goal.returns-then-branch-eq0
returns-then-branch-eq0 g c =
    let so_far = c.loop-seen.invariant in
    let held = c.loop-seen.self in
    let given = c.in_ok-fill.ensures in
    let more = given.bytes.0 in
    let none : more.0 ≡ [] = nil_from_length more.0 (more.2 ∙ c.if-branch-eq0.true) in
    let same : c.fill.new.self ≡ held = more.1 ∙ ap (λ l. held ++ l) none ∙ append-nil held in
    let rest : c.text_len.result ≡ text_len (drop c.loop-seen.seen held) = rw (take_rest, c.bytes.ensures.bytes) at c.text_len.ensures in
    record {
      text = rw same (omega (arith, so_far.seen, rest));
      whole = inr (inr (given.bytes.1 c.if-branch-eq0.true));
      kept = rw (more.1) (keeps_then _ _ _ so_far.kept (keeps_more _ _ held more.0 more.3));
      room = omega (arith, ap length same, c.len.ensures.len, c.len.ensures.short);
      source = loses_then _ _ _ more.0 so_far.source more.3;
      cause = record { later = omega (arith, so_far.none_failed, given.cause.later); failed = tt };
      none_failed = given.none_failed ∙ so_far.none_failed;
      untouched = λ ends. absurd (omega (arith, ends, so_far.seen, rest, text_len-le held, c.if-seen-len.false, c.len.ensures.len, ap text_len (so_far.untouched ends).0, ap length (so_far.untouched ends).0));
    }

pub loop-seen-init : goal.loop-seen-init
loop-seen-init g c = grind (arith, common_steps)

pub loop-seen-smaller : goal.loop-seen-smaller
loop-seen-smaller g c = grind (arith, common_steps)

pub slice_bounds-text_len-end : goal.slice_bounds-text_len-end
slice_bounds-text_len-end g c = grind (arith, common_steps)

pub fill-requires : goal.fill-requires
fill-requires g c = grind (arith, common_steps)

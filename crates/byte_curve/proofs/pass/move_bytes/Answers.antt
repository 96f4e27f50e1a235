use Rattle.std.proofs.Common.{◌≡◌, ◌∙◌, ap, set, length, arith}
use Rattle.std.proofs.lemmas.List.{length-set}
use Rattle.byte_curve.specs.Counts.{bytes_at}
use Rattle.byte_curve.proofs.LatestBytes.{bytes-long, bytes-new, bytes-again}
use Rattle.byte_curve.proofs.pass.move_bytes.Goals.{in-Some, in_default}
use Rattle.byte_curve.proofs.pass.move_bytes.Goals as goal

pub set-requires : goal.set-requires
set-requires c =
    record {
      within = omega (arith, bytes-long c.args.trace.now.objects c.args.t c.args.latest.now (omega arith) c.requires.latest, c.in-Some.ensures.nearest.before, c.requires.within);
      small = omega arith;
    }

pub set-requires-2 : goal.set-requires-2
set-requires-2 c =
    let long : length c.args.latest.now ≡ length c.args.trace.now.objects = bytes-long c.args.trace.now.objects c.args.t c.args.latest.now (omega arith) c.requires.latest in
    let same : length c.match-prev.latest ≡ length c.args.latest.now =
    elim c.match-prev.branch [
      | in-Some w ↦ ap length (w.latest-is ∙ w.set.ensures) ∙ length-set c.args.latest.now w.in-Some.last 0
      | in_default w ↦ ap length w.latest-is
    ] in
    record { within = omega arith; small = c.size_at-size.ensures.small }

pub returns : goal.returns
returns c =
    record {
      latest = elim c.match-prev.branch [
        | in-Some w ↦
            c.set-2.ensures ∙ ap (λ bytes. set bytes c.args.t c.size_at-size.result) (w.latest-is ∙ w.set.ensures ∙ ap (λ bytes. set bytes w.in-Some.last 0) c.requires.latest)
            ∙ ap (λ size. set (set (bytes_at c.args.trace.now.objects c.args.t) w.in-Some.last 0) c.args.t size) c.size_at-size.ensures.size
            ∙ bytes-again c.args.trace.now.objects c.args.t c.requires.within w.in-Some.last w.in-Some.ensures.nearest
        | in_default w ↦
            c.set-2.ensures ∙ ap (λ bytes. set bytes c.args.t c.size_at-size.result) (w.latest-is ∙ c.requires.latest)
            ∙ ap (λ size. set (bytes_at c.args.trace.now.objects c.args.t) c.args.t size) c.size_at-size.ensures.size
            ∙ bytes-new c.args.trace.now.objects c.args.t c.requires.within w.in_default.ensures.nearest
      ];
    }

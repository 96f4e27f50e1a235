use Rattle.std.proofs.Common.{◌≡◌, ◌∙◌, sym, subst, false, IsTrue, length}
use Rattle.std.proofs.lemmas.Result.{IfErr-weaker, on_ok_weaker}
use Rattle.policy_sweep.specs.Replays.{HasGone, is_idle}
use Rattle.policy_stream.specs.Streams.{most_objects}
use Rattle.policy_stream.proofs.Parts.{next-length, whole-part}
use Rattle.policy_stream.proofs.Telling.{Asks, few-known, few-told, gone-before, idle-told, is-told, latest-after, other-known, request-of, true_is_not_false}
use Rattle.policy_stream.proofs.stream.PolicyStream.request.Goals as goal

pub returns-then-is_idle-clause-told : goal.returns-then-is_idle-clause-told
returns-then-is_idle-clause-told c = λ told next settings more numbered h. idle-told told next c.args.request.now settings c.args.self.now (sym c.is_idle.ensures ∙ c.if-is_idle.true) more h

pub request-requires : goal.request-requires
request-requires c =
    let w = c.requires.of_some in
    let busy : is_idle c.args.self.now.replays ≡ false = sym c.is_idle.ensures ∙ c.if-is_idle.false in
    let few = w.known busy in
    let other = c.in_ok-replaced.replaced in
    let found : Asks c.args.request.now c.args.number c.args.self.now c.replaced.new.self other c.asked.result = record {
      busy = busy;
      same = c.replaced.ensures.replays;
      replace = c.replaced.ensures.replace;
      latest = c.in_ok-replaced.ensures.latest;
      replaces = c.in_ok-replaced.ensures.replaced;
      apart = c.in_ok-replaced.ensures.other;
      stale_fills = c.requires.stale_fills;
      known = few-known w.told w.next c.args.request.now c.args.number w.one_more w.numbered few;
      known_other =
          other-known w.next other few
          (c.in_ok-replaced.ensures.known w.next.trace (length w.told.trace) (request-of w.told w.next w.next c.args.request.now w.one_more (whole-part w.next) c.args.number w.numbered)
          (λ on. w.been_told.latest busy (subst IsTrue (sym w.been_told.replace) on) w.next w.one_more.part));
      size = c.requires.size;
      asked_is = c.asked.ensures;
    } in
    record {
      of_some = record {
        told = w.next;
        objects = most_objects;
        settings = w.settings;
        t = length w.told.trace;
        gone = gone-before c.args.request.now c.args.number c.args.self.now c.replaced.new.self other c.asked.result found w.told w.next w.settings w.one_more w.numbered w.been_told w.next (whole-part w.next);
        request = is-told c.args.request.now c.args.number c.args.self.now c.replaced.new.self other c.asked.result found w.told w.next w.settings w.one_more w.numbered w.been_told w.next (whole-part w.next);
        few = few-told c.args.request.now c.args.number c.args.self.now c.replaced.new.self other c.asked.result found w.told w.next w.settings w.one_more w.numbered w.been_told w.next (whole-part w.next);
      };
    }

pub returns-clause-told : goal.returns-clause-told
returns-clause-told c =
    let w = c.requires.of_some in
    let busy : is_idle c.args.self.now.replays ≡ false = sym c.is_idle.ensures ∙ c.if-is_idle.false in
    let few = w.known busy in
    let other = c.in_ok-replaced.replaced in
    let found : Asks c.args.request.now c.args.number c.args.self.now c.replaced.new.self other c.asked.result = record {
      busy = busy;
      same = c.replaced.ensures.replays;
      replace = c.replaced.ensures.replace;
      latest = c.in_ok-replaced.ensures.latest;
      replaces = c.in_ok-replaced.ensures.replaced;
      apart = c.in_ok-replaced.ensures.other;
      stale_fills = c.requires.stale_fills;
      known = few-known w.told w.next c.args.request.now c.args.number w.one_more w.numbered few;
      known_other =
          other-known w.next other few
          (c.in_ok-replaced.ensures.known w.next.trace (length w.told.trace) (request-of w.told w.next w.next c.args.request.now w.one_more (whole-part w.next) c.args.number w.numbered)
          (λ on. w.been_told.latest busy (subst IsTrue (sym w.been_told.replace) on) w.next w.one_more.part));
      size = c.requires.size;
      asked_is = c.asked.ensures;
    } in
    on_ok_weaker c.request.result (λ goes told next settings more numbered h. record {
      replace = more.part.replace ∙ h.replace ∙ sym c.replaced.ensures.replace;
      gone = λ all part.
          subst (λ n. HasGone all most_objects settings n c.request.new.self) (sym (next-length told next c.args.request.now more))
          (goes all most_objects settings (length told.trace)
          (is-told c.args.request.now c.args.number c.args.self.now c.replaced.new.self other c.asked.result found told next settings more numbered h all part)
          (few-told c.args.request.now c.args.number c.args.self.now c.replaced.new.self other c.asked.result found told next settings more numbered h all part)
          (gone-before c.args.request.now c.args.number c.args.self.now c.replaced.new.self other c.asked.result found told next settings more numbered h all part));
      idle = λ none. absurd (true_is_not_false (h.idle none) busy);
      latest = λ idle on all part. latest-after c.args.request.now c.args.number c.args.self.now c.replaced.new.self other c.asked.result found told next settings more numbered h all part on;
    }) c.request.ensures.gone

pub returns-clause-named : goal.returns-clause-named
returns-clause-named c =
    let w = c.requires.of_some in
    let busy : is_idle c.args.self.now.replays ≡ false = sym c.is_idle.ensures ∙ c.if-is_idle.false in
    let few = w.known busy in
    let other = c.in_ok-replaced.replaced in
    let found : Asks c.args.request.now c.args.number c.args.self.now c.replaced.new.self other c.asked.result = record {
      busy = busy;
      same = c.replaced.ensures.replays;
      replace = c.replaced.ensures.replace;
      latest = c.in_ok-replaced.ensures.latest;
      replaces = c.in_ok-replaced.ensures.replaced;
      apart = c.in_ok-replaced.ensures.other;
      stale_fills = c.requires.stale_fills;
      known = few-known w.told w.next c.args.request.now c.args.number w.one_more w.numbered few;
      known_other =
          other-known w.next other few
          (c.in_ok-replaced.ensures.known w.next.trace (length w.told.trace) (request-of w.told w.next w.next c.args.request.now w.one_more (whole-part w.next) c.args.number w.numbered)
          (λ on. w.been_told.latest busy (subst IsTrue (sym w.been_told.replace) on) w.next w.one_more.part));
      size = c.requires.size;
      asked_is = c.asked.ensures;
    } in
    IfErr-weaker c.request.result _ _ (λ fault names told next settings more numbered h.
    names next most_objects settings (length told.trace)
    (is-told c.args.request.now c.args.number c.args.self.now c.replaced.new.self other c.asked.result found told next settings more numbered h next (whole-part next))
    (few-told c.args.request.now c.args.number c.args.self.now c.replaced.new.self other c.asked.result found told next settings more numbered h next (whole-part next))
    (gone-before c.args.request.now c.args.number c.args.self.now c.replaced.new.self other c.asked.result found told next settings more numbered h next (whole-part next))) c.request.ensures.named

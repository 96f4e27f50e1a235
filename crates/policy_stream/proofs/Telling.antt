-- What a request that is read asks of policies, of whatever trace it is the next one.
use Rattle.std.proofs.Common.{◌≡◌, ◌≢◌, ℕ, ◌+◌, ◌<◌, ◌≤◌, ◌^◌, ◌∙◌, refl, sym, ap, subst, Bool, true, false, ◌==◌, cond, List, [], ◌∷◌, ◌++◌, length, arith, append_assoc, length-append, Some, None, IfSome, IsTrue, position, option_to_list, nat_le}
use Rattle.std.specs.declared.option.Option.{Option}
use Rattle.std.proofs.lemmas.Bool.{and_from, and_parts, eq-eqb, eqb-true}
use Rattle.std.proofs.lemmas.List.{get_or-append-add, nil_from_length}
use Rattle.cache_model.specs.declared.objects.Object.{Object}
use Rattle.cache_model.specs.Claim.{no_object, request_at, same_object}
use Rattle.cache_model.specs.Objects.{objects_of}
use Rattle.cache_model.proofs.Duality.{same_object-true}
use Rattle.policy_model.specs.Asks.{ask_at, object_numbered}
use Rattle.policy_model.proofs.Numbers.{number_of-found}
use Rattle.replay_fresh.specs.Fresh.{is_stale, replaced}
use Rattle.replay_fresh.specs.Latest.{AreLatest, IsRequestOf}
use Rattle.replay_fresh.proofs.Versions.{latest-none, own_version}
use Rattle.replay_steps.specs.declared.asked.Asked.{Asked}
use Rattle.policy_sweep.specs.declared.replays.PolicyReplays.{PolicyReplays}
use Rattle.policy_sweep.specs.Running.{IsToldRequest, Setting, Told}
use Rattle.policy_sweep.specs.Replays.{HasGone, is_idle}
use Rattle.policy_stream.specs.Asking.{asked_of}
use Rattle.policy_stream.specs.declared.request.Request.{Request}
use Rattle.policy_stream.specs.declared.stream.PolicyStream.{PolicyStream}
use Rattle.policy_stream.specs.Streams.{HasBeenTold, HasBegun, IsNumber, IsOneMore, IsPartOf, most_objects}
use Rattle.policy_stream.proofs.Longer.{number-stays, position-passes}
use Rattle.policy_stream.proofs.Parts.{before-part, next-length, whole-part}

module _ (told next all : Told) (request : Request) (more : IsOneMore told next request) (part : IsPartOf next all) (number : ℕ) (numbered : IsNumber next request.object number) where
  abbrev now : ℕ
  now = length told.trace

  abbrev x : Object
  x = request.object

  whole : all.trace ≡ told.trace ++ (x ∷ part.rest)
  whole = part.trace ∙ ap (λ xs. xs ++ part.rest) (more.part.trace ∙ ap (λ xs. told.trace ++ xs) more.one) ∙ append_assoc told.trace (x ∷ []) part.rest

  within : now < length all.trace
  within = omega (arith, ap length whole, length-append told.trace (x ∷ part.rest))

  asked : request_at all.trace now ≡ x
  asked =
      let here : now ≡ now + 0 = omega arith in
      ap (λ xs. request_at xs now) whole ∙ ap (request_at (told.trace ++ (x ∷ part.rest))) here ∙ get_or-append-add told.trace (x ∷ part.rest) 0 no_object

  stays : position (same_object x) (objects_of all.trace) ≡ Some number
  stays = ap (λ xs. position (same_object x) (objects_of xs)) part.trace ∙ number-stays next.trace part.rest x number numbered

  pub passes : (number < length (objects_of all.trace)) × (same_object x (object_numbered all.trace number) ≡ true)
  passes = position-passes (same_object x) (objects_of all.trace) no_object number stays

  object : object_numbered all.trace number ≡ x
  object = sym (same_object-true x (object_numbered all.trace number) passes.1)

  -- it is a request of the trace
  pub request-of : IsRequestOf all.trace now x number
  request-of = record { within = within; asked = asked; version = own_version all.trace x number stays object passes.0 }

  stale-is : request.is_stale ≡ is_stale all.stale now
  stale-is = more.stale ∙ sym (part.stale now (omega (arith, next-length told next request more)))

  found : position (same_object (request_at all.trace now)) (objects_of all.trace) ≡ Some number
  found = ap (λ y. position (same_object y) (objects_of all.trace)) asked ∙ stays

  -- and this is what it asks
  pub told-request : (other : Option ℕ) → option_to_list other ≡ cond all.replace (replaced all.trace now) [] → IfSome other (λ k. k ≢ number)
      → (IsTrue request.is_stale → IsTrue request.only_fills) → number < most_objects → IfSome other (λ k. k < most_objects) → (1 ≤ x.size) × (x.size ≤ 2 ^ 48)
      → IsToldRequest all most_objects now (asked_of request number other)
  told-request other replaces apart stale_fills known known_other size = record {
    is_asked = record { within = within; found = found; object = object ∙ sym asked; size_is = ap (λ (y : Object). y.size) (sym asked) };
    no_next = refl;
    leaving =
        ap (λ os. cond request.is_stale (number ∷ []) [] ++ os) replaces
        ∙ ap (λ n. cond request.is_stale (n ∷ []) [] ++ cond all.replace (replaced all.trace now) []) (sym (number_of-found all.trace (request_at all.trace now) number found))
        ∙ ap (λ b. cond b ((ask_at all.trace now).object ∷ []) [] ++ cond all.replace (replaced all.trace now) []) stale-is;
    other = apart;
    stale = stale-is;
    stale_fills = stale_fills;
    past = more.past ∙ ap (λ w. nat_le w now) (sym (part.warmup ∙ more.part.warmup));
    fills = more.fills ∙ sym (part.fills now (omega (arith, next-length told next request more)));
    known = known;
    known_replaced = known_other;
    size = size;
  }

-- among so few objects each is known
pub few-known : (told next : Told) (request : Request) (number : ℕ) → IsOneMore told next request → IsNumber next request.object number → length (objects_of next.trace) ≤ most_objects → number < most_objects
few-known told next request number more numbered few = omega (arith, (passes told next next request more (whole-part next) number numbered).0, few)

pub other-known : (told : Told) (other : Option ℕ) → length (objects_of told.trace) ≤ most_objects → IfSome other (λ k. k < length (objects_of told.trace)) → IfSome other (λ k. k < most_objects)
other-known told None few known = tt
other-known told (Some k) few known = omega (arith, known, few)

pub true_is_not_false : {b : Bool} → b ≡ true → b ≡ false → ⊥
true_is_not_false on off = cc

-- no policy goes through no request
pub idle-goes : (all : Told) (objects : ℕ) (settings : List Setting) (t : ℕ) (replays : PolicyReplays) → is_idle replays ≡ true → t + 1 < 2 ^ 32
    → HasGone all objects settings t replays → HasGone all objects settings (t + 1) replays
idle-goes all objects settings t replays idle few h =
    let none : length replays.running.items ≡ 0 = eqb-true (length replays.running.items) 0 (and_parts (length replays.running.items == 0) (length replays.batch.items == 0) idle).0 in
    let batch : length replays.batch.items ≡ 0 = eqb-true (length replays.batch.items) 0 (and_parts (length replays.running.items == 0) (length replays.batch.items == 0) idle).1 in
    record {
      gone = t + 1;
      others = omega (arith, batch);
      asked = record { each = λ i d below. absurd (omega (arith, below, batch)); few = omega (arith, few, batch) };
      each = h.each;
      ahead_of = h.ahead_of;
      running = λ i s d below. absurd (omega (arith, below, none, h.each));
    }

-- it has no setting
pub idle-none : (told : Told) (settings : List Setting) (stream : PolicyStream) → is_idle stream.replays ≡ true → HasBeenTold told settings stream → settings ≡ []
idle-none told settings stream idle h =
    let none : length stream.replays.running.items ≡ 0 =
    eqb-true (length stream.replays.running.items) 0 (and_parts (length stream.replays.running.items == 0) (length stream.replays.batch.items == 0) idle).0 in
    nil_from_length settings (sym (h.gone told (whole-part told)).each ∙ none)

-- so it is told
pub idle-told : (told next : Told) (request : Request) (settings : List Setting) (stream : PolicyStream) → is_idle stream.replays ≡ true → IsOneMore told next request
    → HasBeenTold told settings stream → HasBeenTold next settings stream
idle-told told next request settings stream idle more h = record {
  replace = more.part.replace ∙ h.replace;
  gone = λ all part.
      subst (λ n. HasGone all most_objects settings n stream.replays) (sym (next-length told next request more))
      (idle-goes all most_objects settings (length told.trace) stream.replays idle (omega (arith, more.few, next-length told next request more)) (h.gone all (before-part told next all request more part)));
  idle = λ none. idle;
  latest = λ busy. absurd (true_is_not_false idle busy);
}

-- without a setting there is no policy
begun-idle : (told : Told) (settings : List Setting) (stream : PolicyStream) → HasBegun settings stream → settings ≡ [] → is_idle stream.replays ≡ true
begun-idle told settings stream begun none =
    let gone = begun.gone told in
    and_from (length stream.replays.running.items == 0) (length stream.replays.batch.items == 0)
    (eq-eqb (length stream.replays.running.items) 0 (gone.each ∙ ap length none)) (eq-eqb (length stream.replays.batch.items) 0 (omega (arith, gone.others)))

-- before the first request
pub begun-told : (told : Told) (settings : List Setting) (stream : PolicyStream) → told.trace ≡ [] → told.replace ≡ stream.replace → HasBegun settings stream → HasBeenTold told settings stream
begun-told told settings stream none replace begun = record {
  replace = replace;
  gone = λ all part. subst (λ (xs : List Object). HasGone all most_objects settings (length xs) stream.replays) (sym none) (begun.gone all);
  idle = begun-idle told settings stream begun;
  latest = λ busy replaces all part.
      subst (λ (xs : List Object). AreLatest stream.latest.entries all.trace (length xs)) (sym none)
      (subst (λ es. AreLatest es all.trace 0) (sym begun.none_kept) (latest-none all.trace));
}

-- what is found of a request: what it replaces, and what it asks
pub record Asks (request : Request) (number : ℕ) (old new : PolicyStream) (other : Option ℕ) (asked : Asked) : Type 0 where
  pub busy : is_idle old.replays ≡ false
  pub same : new.replays ≡ old.replays
  pub replace : new.replace ≡ old.replace
  pub latest : IsTrue old.replace → (trace : List Object) (t : ℕ) → IsRequestOf trace t request.object number
      → AreLatest old.latest.entries trace t → AreLatest new.latest.entries trace (t + 1)
  pub replaces : (trace : List Object) (t : ℕ) → IsRequestOf trace t request.object number
      → (IsTrue old.replace → AreLatest old.latest.entries trace t) → option_to_list other ≡ cond old.replace (replaced trace t) []
  pub apart : IfSome other (λ k. k ≢ number)
  pub stale_fills : IsTrue request.is_stale → IsTrue request.only_fills
  pub known : number < most_objects
  pub known_other : IfSome other (λ k. k < most_objects)
  pub size : (1 ≤ request.object.size) × (request.object.size ≤ 2 ^ 48)
  pub asked_is : asked ≡ asked_of request number other

-- however the trace goes on
module _ (request : Request) (number : ℕ) (old new : PolicyStream) (other : Option ℕ) (asks : Asked) (found : Asks request number old new other asks)
    (told next : Told) (settings : List Setting) (more : IsOneMore told next request) (numbered : IsNumber next request.object number) (h : HasBeenTold told settings old) (all : Told) (part : IsPartOf next all) where
  latest-before : IsTrue old.replace → AreLatest old.latest.entries all.trace (length told.trace)
  latest-before on = h.latest found.busy (subst IsTrue (sym h.replace) on) all (before-part told next all request more part)

  -- the policies are told its next request
  pub is-told : IsToldRequest all most_objects (length told.trace) asks
  is-told =
      let same = part.replace ∙ more.part.replace ∙ h.replace in
      let replaces = found.replaces all.trace (length told.trace) (request-of told next all request more part number numbered) latest-before in
      subst (IsToldRequest all most_objects (length told.trace)) (sym found.asked_is)
      (told-request told next all request more part number numbered other (replaces ∙ ap (λ b. cond b (replaced all.trace (length told.trace)) []) (sym same))
      found.apart found.stale_fills found.known found.known_other found.size)

  pub few-told : length told.trace + 1 < 2 ^ 32
  few-told = omega (arith, more.few, next-length told next request more)

  pub gone-before : HasGone all most_objects settings (length told.trace) new.replays
  gone-before = subst (HasGone all most_objects settings (length told.trace)) (sym found.same) (h.gone all (before-part told next all request more part))

  pub latest-after : IsTrue next.replace → AreLatest new.latest.entries all.trace (length next.trace)
  latest-after on =
      let was : IsTrue old.replace = subst IsTrue (more.part.replace ∙ h.replace) on in
      subst (AreLatest new.latest.entries all.trace) (sym (next-length told next request more))
      (found.latest was all.trace (length told.trace) (request-of told next all request more part number numbered) (latest-before was))

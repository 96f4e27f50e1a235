-- What is counted of the requests as they pass.
use Rattle.std.proofs.Common.{◌≡◌, ◌∙◌, ℕ, suc, ◌+◌, ◌^◌, ◌<◌, ◌≤◌, ap, sym, subst, refl, arith, Bool, true, false, cond, nat_le, nat_lt, not, ◌&&◌, ◌||◌, List, [], ◌∷◌, ◌++◌, length, length-append, get_or, count_by}
use Rattle.std.specs.List.{range_with_len}
use Rattle.std.proofs.lemmas.Bool.{and_from, or_right}
use Rattle.std.proofs.lemmas.List.{get_or_append_left, get_or_push}
use Rattle.cache_model.specs.declared.objects.Object.{Object}
use Rattle.cache_model.specs.Claim.{counts_past, only_fills}
use Rattle.cache_model.specs.Objects.{numbers_of}
use Rattle.cache_model.proofs.Streams.{sum_by-range_agree}
use Rattle.cache_model.proofs.Streams.{sum_by-range_last}
use Rattle.cache_rules.specs.Stored.{Requests, with_request}
use Rattle.freshness.specs.Stale.{can_end}
use Rattle.freshness.specs.Seen.{Staleness}
use Rattle.trace_any.specs.declared.format.Format.{Format}
use Rattle.trace_any.specs.Counts.{own_marks}
use Rattle.trace_any.specs.Readers.{NotesRequest, Reader, last_fills, last_mark}
use Rattle.trace_any.specs.Readings.{has_marks, is_marked}
use Rattle.sweep_bounds.specs.Sweep.{HasSeen, Sweep}
use Rattle.policy_stream.specs.declared.request.Request.{Request}
use Rattle.policy_stream.specs.Streams.{IsOneMore}
use Rattle.trace_sweep.specs.Counts.{more}
use Rattle.trace_sweep.specs.Online.{told_of}
use Rattle.trace_sweep.specs.Swept.{IsTally}
use Rattle.trace_sweep.specs.declared.tally.Tally.{Tally}

-- one more in a count over the first numbers
count-more : (p q : ℕ → Bool) (n : ℕ) → ((t : ℕ) → t < n → q t ≡ p t)
    → count_by q (range_with_len 0 (n + 1)) ≡ more (count_by p (range_with_len 0 n)) (q n)
count-more p q n same =
    let one : n + 1 ≡ suc n = omega arith in
    ap (λ m. count_by q (range_with_len 0 m)) one
    ∙ sum_by-range_last (λ t. cond (q t) 1 0) n
    ∙ ap (λ s. s + cond (q n) 1 0) (sum_by-range_agree (λ t. cond (q t) 1 0) (λ t. cond (p t) 1 0) 0 n (λ t low high. ap (λ b. cond b 1 0) (same t (omega (arith, high)))))

pub more-le : (count : ℕ) (so : Bool) → more count so ≤ count + 1
more-le count true = omega arith
more-le count false = omega arith

-- what is after a number that is past
later-past : (warmup n : ℕ) → nat_lt warmup (n + 1) ≡ nat_le warmup n
later-past warmup n = grind arith

-- the flags of the first numbers, and one more
module _ (flags : List Bool) (flag : Bool) (n : ℕ) (each : length flags ≡ n) where
  before : (t : ℕ) → t < n → get_or (flags ++ flag ∷ []) t false ≡ get_or flags t false
  before t low = get_or_append_left flags (flag ∷ []) false t (omega (arith, low, each))

  last : get_or (flags ++ flag ∷ []) n false ≡ flag
  last = get_or_push flags flag false n each

  counted-more : (warmup : ℕ) → count_by (counts_past warmup (flags ++ flag ∷ [])) (range_with_len 0 (n + 1))
      ≡ more (count_by (counts_past warmup flags) (range_with_len 0 n)) (nat_le warmup n && not flag)
  counted-more warmup =
      count-more (counts_past warmup flags) (counts_past warmup (flags ++ flag ∷ [])) n (λ t low. ap (λ b. nat_le warmup t && not b) (before t low))
      ∙ ap (λ b. more (count_by (counts_past warmup flags) (range_with_len 0 n)) (nat_le warmup n && not b)) last

  flagged-more : count_by (λ t. get_or (flags ++ flag ∷ []) t false) (range_with_len 0 (n + 1)) ≡ more (count_by (λ t. get_or flags t false) (range_with_len 0 n)) flag
  flagged-more =
      count-more (λ t. get_or flags t false) (λ t. get_or (flags ++ flag ∷ []) t false) n before
      ∙ ap (more (count_by (λ t. get_or flags t false) (range_with_len 0 n))) last

-- there is a mark for each request if there are marks, and what is noted is of each
pub record IsAligned (format : Format) (trace : Requests) (noted : Staleness) : Type 0 where
  pub marks : is_marked format ≡ true → length trace.fills ≡ length trace.objects
  pub none : is_marked format ≡ false → trace.fills ≡ []
  pub stale : can_end format.fresh ≡ true → length noted.stale ≡ length trace.objects
  pub own : can_end format.fresh ≡ true → length noted.own ≡ length trace.objects
  pub lasting : can_end format.fresh ≡ false → noted.stale ≡ []

or-false : (b : Bool) → b || false ≡ b
or-false true = refl
or-false false = refl

or-marked : (marks ends : Bool) → marks ≡ true → marks || ends ≡ true
or-marked true ends is = refl
or-marked false ends is = absurd cc

module _ (format : Format) (old new : Reader) (trace : Requests) (x : Object) (form : new.format ≡ format) (old_form : old.format ≡ format)
    (notes : NotesRequest old new x) (aligned : IsAligned format trace old.seen.noted) where
  abbrev given : Requests
  given = with_request trace x (last_mark new)

  abbrev own : Bool
  own = new.ahead.stamp.fills

  ends_old : (b : Bool) → can_end format.fresh ≡ b → can_end old.format.fresh ≡ b
  ends_old b ends = ap (λ (f : Format). can_end f.fresh) old_form ∙ ends

  own_after : can_end format.fresh ≡ true → new.seen.noted.own ≡ old.seen.noted.own ++ own ∷ []
  own_after ends = ap (λ s. s.noted.own) (rw (ends_old true ends) at notes.0)

  stale_after : can_end format.fresh ≡ true → new.seen.noted.stale ≡ old.seen.noted.stale ++ new.stale ∷ []
  stale_after ends =
      ap (λ s. s.noted.stale) (rw (ends_old true ends) at notes.0)
      ∙ ap (λ b. old.seen.noted.stale ++ b ∷ []) (rw (ends_old true ends) at (sym notes.1))

  stale-same : can_end format.fresh ≡ false → new.seen.noted.stale ≡ old.seen.noted.stale
  stale-same ends = ap (λ s. s.noted.stale) (rw (ends_old false ends) at notes.0)

  stale-none : can_end format.fresh ≡ false → new.seen.noted.stale ≡ []
  stale-none ends = stale-same ends ∙ aligned.lasting ends

  never_stale : can_end format.fresh ≡ false → new.stale ≡ false
  never_stale ends = rw (ends_old false ends) at notes.1

  marked_new : (b : Bool) → is_marked format ≡ b → is_marked new.format ≡ b
  marked_new b marked = ap is_marked form ∙ marked

  fills_after : is_marked format ≡ true → given.fills ≡ trace.fills ++ last_fills new ∷ []
  fills_after marked = rw (marked_new true marked) refl

  fills_never : is_marked format ≡ false → given.fills ≡ trace.fills
  fills_never marked = rw (marked_new false marked) refl

  -- the marks of their own, with that of one request more
  own_marks_after : (b : Bool) → can_end format.fresh ≡ b → has_marks format.layout ≡ true → own_marks format given new.seen.noted ≡ own_marks format trace old.seen.noted ++ own ∷ []
  own_marks_after true ends marked = rw ends (own_after ends)
  own_marks_after false ends marked =
      let fills : given.fills ≡ trace.fills ++ last_fills new ∷ [] = fills_after (or-marked (has_marks format.layout) (can_end format.fresh) marked) in
      let counts : last_fills new ≡ own = ap (λ stale. own || stale) (never_stale ends) ∙ or-false own in
      rw ends (fills ∙ ap (λ mark. trace.fills ++ mark ∷ []) counts)

  own_marks_each : (b : Bool) → can_end format.fresh ≡ b → has_marks format.layout ≡ true → length (own_marks format trace old.seen.noted) ≡ length trace.objects
  own_marks_each true ends marked = rw ends (aligned.own ends)
  own_marks_each false ends marked = rw ends (aligned.marks (or-marked (has_marks format.layout) (can_end format.fresh) marked))

  numbers_after : numbers_of given.objects ≡ range_with_len 0 (length trace.objects + 1)
  numbers_after = ap (range_with_len 0) (length-append trace.objects (x ∷ []))

  pub aligned_after : IsAligned format given new.seen.noted
  aligned_after = record {
    marks = λ marked. omega (arith, ap length (fills_after marked), length-append trace.fills (last_fills new ∷ []), aligned.marks marked, length-append trace.objects (x ∷ []));
    none = λ marked. fills_never marked ∙ aligned.none marked;
    stale = λ ends. omega (arith, ap length (stale_after ends), length-append old.seen.noted.stale (new.stale ∷ []), aligned.stale ends, length-append trace.objects (x ∷ []));
    own = λ ends. omega (arith, ap length (own_after ends), length-append old.seen.noted.own (own ∷ []), aligned.own ends, length-append trace.objects (x ∷ []));
    lasting = λ ends. stale-none ends;
  }

  pub tallied_after : (warmup : ℕ) (tally : Tally) → IsTally format warmup trace old.seen.noted tally
      → IsTally format warmup given new.seen.noted (record {
        counted = more tally.counted (nat_le warmup (length trace.objects) && not own);
        stale = more tally.stale new.stale;
      })
  tallied_after warmup tally is = record {
    counted = λ marked.
        let marks : List Bool = own_marks format trace old.seen.noted in
        let n : ℕ = length trace.objects in
        ap (λ count. more count (nat_le warmup n && not own)) (is.counted marked)
        ∙ sym (counted-more marks own n (own_marks_each (can_end format.fresh) refl marked) warmup)
        ∙ ap (count_by (counts_past warmup (marks ++ own ∷ []))) (sym numbers_after)
        ∙ ap (λ ms. count_by (counts_past warmup ms) (numbers_of given.objects)) (sym (own_marks_after (can_end format.fresh) refl marked));
    stale = λ ends.
        let flags : List Bool = old.seen.noted.stale in
        let n : ℕ = length trace.objects in
        ap (λ count. more count new.stale) (is.stale ends)
        ∙ sym (flagged-more flags new.stale n (aligned.stale ends))
        ∙ ap (count_by (λ t. get_or (flags ++ new.stale ∷ []) t false)) (sym numbers_after)
        ∙ ap (λ fs. count_by (λ t. get_or fs t false) (numbers_of given.objects)) (sym (stale_after ends));
  }

  -- what policies are told is a request more
  module _ (warmup : ℕ) (few : length trace.objects + 1 < 2 ^ 32) where
    fills_now : (t : ℕ) → t < length trace.objects → only_fills given.fills t ≡ only_fills trace.fills t
    fills_now t within = at (is_marked format) refl
      where
        at : (b : Bool) → is_marked format ≡ b → only_fills given.fills t ≡ only_fills trace.fills t
        at true on = ap (λ fs. get_or fs t false) (fills_after on) ∙ before trace.fills (last_fills new) (length trace.objects) (aligned.marks on) t within
        at false off = ap (λ fs. get_or fs t false) (fills_never off)

    fill_last : (is_marked new.format && last_fills new) ≡ only_fills given.fills (length trace.objects)
    fill_last = at (is_marked format) refl
      where
        at : (b : Bool) → is_marked format ≡ b → (is_marked new.format && last_fills new) ≡ only_fills given.fills (length trace.objects)
        at true on = ap (λ b. b && last_fills new) (marked_new true on) ∙ sym (ap (λ fs. get_or fs (length trace.objects) false) (fills_after on) ∙ last trace.fills (last_fills new) (length trace.objects) (aligned.marks on))
        at false off = ap (λ b. b && last_fills new) (marked_new false off) ∙ sym (ap (λ fs. get_or fs (length trace.objects) false) (fills_never off ∙ aligned.none off))

    stale_now : (t : ℕ) → t < length trace.objects → get_or new.seen.noted.stale t false ≡ get_or old.seen.noted.stale t false
    stale_now t within = at (can_end format.fresh) refl
      where
        at : (b : Bool) → can_end format.fresh ≡ b → get_or new.seen.noted.stale t false ≡ get_or old.seen.noted.stale t false
        at true ends = ap (λ fs. get_or fs t false) (stale_after ends) ∙ before old.seen.noted.stale new.stale (length trace.objects) (aligned.stale ends) t within
        at false ends = ap (λ fs. get_or fs t false) (stale-same ends)

    stale_last : new.stale ≡ get_or new.seen.noted.stale (length trace.objects) false
    stale_last = at (can_end format.fresh) refl
      where
        at : (b : Bool) → can_end format.fresh ≡ b → new.stale ≡ get_or new.seen.noted.stale (length trace.objects) false
        at true ends = sym (ap (λ fs. get_or fs (length trace.objects) false) (stale_after ends) ∙ last old.seen.noted.stale new.stale (length trace.objects) (aligned.stale ends))
        at false ends = never_stale ends ∙ sym (ap (λ fs. get_or fs (length trace.objects) false) (stale-none ends))

    pub one-more : (request : Request) (requests : ℕ) → request.object ≡ x → requests ≡ length trace.objects + 1 → request.is_past ≡ nat_lt warmup requests
        → request.only_fills ≡ (is_marked new.format && last_fills new) → request.is_stale ≡ new.stale
        → IsOneMore (told_of format warmup trace old.seen.noted) (told_of format warmup given new.seen.noted) request
    one-more request requests object now past fills stale = record {
      part = record { rest = x ∷ []; trace = refl; fills = fills_now; stale = stale_now; replace = refl; warmup = refl };
      one = ap (λ y. y ∷ []) (sym object);
      past = past ∙ ap (nat_lt warmup) now ∙ later-past warmup (length trace.objects);
      fills = fills ∙ fill_last;
      stale = stale ∙ stale_last;
      few = omega (arith, few, length-append trace.objects (x ∷ []));
    }

  -- a stale request only fills
  pub stale-fills : new.stale ≡ true → (is_marked new.format && last_fills new) ≡ true
  stale-fills stale = at (can_end format.fresh) refl
    where
      at : (b : Bool) → can_end format.fresh ≡ b → (is_marked new.format && last_fills new) ≡ true
      at true ends = and_from (is_marked new.format) (last_fills new) (marked_new true (or_right (has_marks format.layout) (can_end format.fresh) ends)) (or_right own new.stale stale)
      at false ends =
          let both : false ≡ true = sym (never_stale ends) ∙ stale in
          absurd cc

  -- a sweep that is told the request has seen it
  pub told_after : (only : Bool) (sweep later : Sweep) → only ≡ (is_marked new.format && last_fills new) → HasSeen trace.objects trace.fills sweep
      → ((objects : List Object) (fills : List Bool) → length fills ≡ length objects → HasSeen objects fills sweep → HasSeen (objects ++ x ∷ []) (fills ++ only ∷ []) later)
      → ((objects : List Object) → only ≡ false → HasSeen objects [] sweep → HasSeen (objects ++ x ∷ []) [] later)
      → HasSeen given.objects given.fills later
  told_after only sweep later is seen marked unmarked = at (is_marked format) refl
    where
      at : (b : Bool) → is_marked format ≡ b → HasSeen given.objects given.fills later
      at true on =
          let mark : only ≡ last_fills new = is ∙ ap (λ b. b && last_fills new) (marked_new true on) in
          subst (λ fills. HasSeen given.objects fills later) (ap (λ m. trace.fills ++ m ∷ []) mark ∙ sym (fills_after on))
          (marked trace.objects trace.fills (aligned.marks on) seen)
      at false off =
          subst (λ fills. HasSeen given.objects fills later) (sym (fills_never off ∙ aligned.none off))
          (unmarked trace.objects (is ∙ ap (λ b. b && last_fills new) (marked_new false off)) (subst (λ fills. HasSeen trace.objects fills sweep) (aligned.none off) seen))

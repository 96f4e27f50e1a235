-- The marks of the requests so far, and one more.
use Rattle.std.proofs.Common.{◌≡◌, ◌∙◌, ℕ, ◌-◌, ◌<◌, refl, sym, ap, subst, arith, Bool, true, false, ◌&&◌, List, [], ◌∷◌, ◌++◌, length, length-append, Option, Result}
use Rattle.std.proofs.lemmas.List.{get_or_append_left, get_or-append_right}
use Rattle.cache_model.specs.declared.objects.Object.{Object}
use Rattle.cache_model.specs.declared.certificates.Header.{Header}
use Rattle.cache_model.specs.declared.certificates.Record.{Record}
use Rattle.cache_model.specs.Claim.{only_fills}
use Rattle.cache_rules.specs.Stored.{Making, Requests, made_more, mark_if, with_mark, with_request}
use Rattle.trace_any.specs.declared.format.Format.{Format}
use Rattle.trace_any.specs.Readings.{Reading, is_marked}
use Rattle.trace_any.specs.Readers.{Reader, after, last_fills, last_mark, onto}
use Rattle.trace_any.proofs.Coming.{after-onto, with_mark-one}
use Rattle.trace_any.proofs.Marks.{HasMarks}
use Rattle.cert_checker.specs.declared.checker.StepFault.{StepFault}
use Rattle.cert_checker.specs.Answers.{IsStepped}
use Rattle.cert_checker.specs.Checks.{AreMarked, StandsForAll}
use Rattle.cert_checker.specs.Keeping.{of_form}
use Rattle.cert_checker.specs.Summaries.{HoldsOfAll, Summary}
use Rattle.cert_checker.proofs.Marks.{StandsFor-marks}

-- requests before one more and its mark, or with it
pub after-both : (given : List Object) (fills : List Bool) (x : Object) (mark : Option Bool) (r : Reading) → after given fills (onto x mark r) ≡ after (given ++ x ∷ []) (with_mark fills mark) r
after-both given fills x mark r =
    after-onto given fills x mark r ∙ ap (λ marks. after (given ++ x ∷ []) marks r) (with_mark-one fills mark)

-- the first marks of a trace are those of its first requests
pub only_fills-first : (marked : Bool) (given : Requests) (trace : Reading) (more : List Bool) → AreMarked marked given → HasMarks marked trace → trace.fills ≡ given.fills ++ more
    → (t : ℕ) → t < length given.objects → only_fills trace.fills t ≡ only_fills given.fills t
only_fills-first true given trace more are has is t low = ap (λ f. only_fills f t) is ∙ get_or_append_left given.fills more false t (omega (arith, are, low))
only_fills-first false given trace more are has is t low = ap (λ f. only_fills f t) (has ∙ sym are)

-- no request has no mark
pub none_marked : (marked : Bool) → AreMarked marked (record { objects = []; fills = [] })
none_marked true = refl
none_marked false = refl

-- the same for a reader of the same form
pub marked_now : {old new : Format} (given : Requests) → AreMarked (is_marked old) given → new ≡ old → AreMarked (is_marked new) given
marked_now given are same = subst (λ f. AreMarked (is_marked f) given) (sym same) are

-- with the mark of one request more there is still one for each, or none
pub AreMarked-next : (marked only : Bool) (given : Requests) (x : Object) → AreMarked marked given → AreMarked marked (with_request given x (mark_if marked only))
AreMarked-next true only given x are = omega (arith, are, length-append given.fills (only ∷ []), length-append given.objects (x ∷ []))
AreMarked-next false only given x are = are

-- the mark of the request after these
only_fills-last : (marked only : Bool) (given : Requests) → AreMarked marked given → only_fills (with_mark given.fills (mark_if marked only)) (length given.objects) ≡ (marked && only)
only_fills-last true only given are =
    let none : length given.objects - length given.objects ≡ 0 = omega arith in
    get_or-append_right given.fills (only ∷ []) (length given.objects) (length given.objects) false are (omega arith) ∙ ap (λ n. only_fills (only ∷ []) n) none
only_fills-last false only given are = ap (λ f. only_fills f (length given.objects)) are

-- the marks before it
only_fills-before : (marked only : Bool) (given : Requests) → AreMarked marked given → (t : ℕ) → t < length given.objects → only_fills given.fills t ≡ only_fills (with_mark given.fills (mark_if marked only)) t
only_fills-before true only given are t low = sym (get_or_append_left given.fills (only ∷ []) false t (omega (arith, are, low)))
only_fills-before false only given are t low = refl

-- a step of whatever marks give the request this one is a step of the marks with it
pub stepped_marked : (marked only : Bool) (old new : Summary) (x : Object) (r : Record) (result : Result (Unit {0}) StepFault) (h : Header) (given : Requests) (records : List Record)
    → AreMarked marked given → StandsForAll h given records old
    → HoldsOfAll old (λ h fills trace records. only_fills fills (length trace) ≡ (marked && only) → IsStepped h fills trace records x r new result)
    → IsStepped h (with_mark given.fills (mark_if marked only)) given.objects records x r new result
stepped_marked marked only old new x r result h given records are stands stepped =
    let fills = with_mark given.fills (mark_if marked only) in
    stepped h fills given.objects records (StandsFor-marks h given.fills fills given.objects records (only_fills-before marked only given are) old stands) (only_fills-last marked only given are)

-- a request that only fills is one of a form with marks
pub marks_kept : (form : Format) (reader : Reader) → form ≡ reader.format → (only : Bool) → only ≡ (is_marked reader.format && last_fills reader) → only ≡ true → is_marked form ≡ true
marks_kept form reader same only is filling = ap is_marked same ∙ left_true (is_marked reader.format) (last_fills reader) (sym is ∙ filling)
  where
    left_true : (a b : Bool) → (a && b) ≡ true → a ≡ true
    left_true true b e = refl
    left_true false b e = e

-- a mark that is kept is that of the request
mark_if-both : (marked only : Bool) → mark_if marked (marked && only) ≡ mark_if marked only
mark_if-both true only = refl
mark_if-both false only = refl

-- what a keeper has after a request that the reader gave
pub kept_next : (has : Making → List Record → Type 0) (form : Format) (reader : Reader) → form ≡ reader.format → (given : Requests) (x : Object) (records : List Record) (only : Bool) → only ≡ (is_marked reader.format && last_fills reader)
    → has (made_more (of_form form given) x only) records → has (of_form form (with_request given x (last_mark reader))) records
kept_next has form reader same given x records only is kept =
    let marks : mark_if (is_marked form) only ≡ last_mark reader = ap (mark_if (is_marked form)) is ∙ (ap (λ f. mark_if (is_marked f) (is_marked reader.format && last_fills reader)) same ∙ mark_if-both (is_marked reader.format) (last_fills reader)) in
    subst (λ mark. has (of_form form (with_request given x mark)) records) marks kept

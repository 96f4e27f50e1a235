-- A trace that is drawn and a text of lines, one request further.
use Rattle.std.proofs.Common.{◌≡◌, ℕ, suc, ◌+◌, ◌-◌, ◌<◌, ◌≤◌, ◌∙◌, sym, ap, List, [], ◌∷◌, ◌++◌, length, drop, arith, append_assoc, append-nil}
use Rattle.std.proofs.lemmas.List.{drop_more, drop_all}
use Rattle.cache_model.specs.declared.objects.Object.{Object}
use Rattle.cache_model.specs.Claim.{no_object, request_at}
use Rattle.cache_model.specs.Texts.{line, text_of}
use Rattle.rand_pcg.specs.Lcg.{Lcg}
use Rattle.rand_pcg.specs.Pcg.{pcg32}
use Rattle.demo_trace.specs.Lines.{lines_from, webcache_line}
use Rattle.demo_trace.specs.Requests.{object_drawn, requests_drawn}

-- the next request is drawn
pub next_drawn : (trace : List Object) (objects n i : ℕ) (g : Lcg) → i < n
    → (trace ++ object_drawn objects (pcg32 g).0 (pcg32 (pcg32 g).1).0 ∷ []) ++ requests_drawn objects (n - (i + 1)) (pcg32 (pcg32 g).1).1 ≡ trace ++ requests_drawn objects (n - i) g
next_drawn trace objects n i g below =
    let x = object_drawn objects (pcg32 g).0 (pcg32 (pcg32 g).1).0 in
    let more : suc (n - (i + 1)) ≡ n - i = omega (arith, below) in
    append_assoc trace (x ∷ []) (requests_drawn objects (n - (i + 1)) (pcg32 (pcg32 g).1).1) ∙ ap (λ m. trace ++ requests_drawn objects m g) more

-- the next line is written
pub next_line : (text : List ℕ) (trace : List Object) (t : ℕ) → t < length trace
    → (text ++ line (webcache_line (t + 1) (request_at trace t))) ++ text_of (lines_from (t + 1 + 1) (drop (t + 1) trace)) ≡ text ++ text_of (lines_from (t + 1) (drop t trace))
next_line text trace t below =
    append_assoc text (line (webcache_line (t + 1) (request_at trace t))) (text_of (lines_from (t + 1 + 1) (drop (t + 1) trace)))
    ∙ ap (λ xs. text ++ text_of (lines_from (t + 1) xs)) (sym (drop_more trace t no_object below))

-- no line is left
pub all_written : (text whole : List ℕ) (trace : List Object) (t : ℕ) → length trace ≤ t → text ++ text_of (lines_from (t + 1) (drop t trace)) ≡ whole → text ≡ whole
all_written text whole trace t past is =
    sym (append-nil text) ∙ (ap (λ xs. text ++ text_of (lines_from (t + 1) xs)) (sym (drop_all t trace past)) ∙ is)

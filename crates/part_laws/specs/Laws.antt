-- The laws of a trace that is cut into parts, each the contract of a function.
use Rattle.std.specs.Prelude.{◌≡◌, ℕ, ◌+◌, ◌-◌, ◌<◌, ◌≤◌, Bool, not, ◌&&◌, if◌then◌else◌, List, [], ◌∷◌, ◌++◌, length, take, map, flat_map, sum_by, All, Contains}
use Rattle.std.specs.List.{range_with_len}
use Rattle.cache_model.specs.declared.objects.Object.{Object}
use Rattle.cache_model.specs.declared.objects.Objective.{Objective}
use Rattle.cache_model.specs.Claim.{Terms, holds, before_request, request_at, only_fills, gain_of, IsAllowed, score, terms_from}
use Rattle.cache_model.specs.Objects.{numbers_of}

-- what request t earns: the gain of a hit, and nothing if it only fills the cache
abbrev pub earned_at : Objective → List Object → List Bool → List (List Object) → ℕ → ℕ
earned_at objective trace fills contents t =
    if not (only_fills fills t) && holds (before_request contents t) (request_at trace t) then gain_of objective (request_at trace t) else 0

-- what the requests earn from request `first` to the one before `end`
abbrev pub score_between : Objective → List Object → List Bool → List (List Object) → ℕ → ℕ → ℕ
score_between objective trace fills contents first end = sum_by (earned_at objective trace fills contents) (range_with_len first (end - first))

-- a stretch scores what its two sides of a cut do, and the score from a warm-up on is that of the stretch to the end
pub record AddsUp (objective : Objective) (trace : List Object) (fills : List Bool) (contents : List (List Object)) : Type 0 where
  pub at_a_cut : (first cut end : ℕ) → first ≤ cut → cut ≤ end
      → score_between objective trace fills contents first end
      ≡ score_between objective trace fills contents first cut + score_between objective trace fills contents cut end
  pub from_the_warmup : (capacity warmup : ℕ)
      → score (terms_from objective capacity warmup fills) trace contents ≡ score_between objective trace fills contents warmup (length trace)

-- scores add up over a cut, of all contents of every trace, whichever requests only fill
abbrev pub ScoresAddUp : Type 0
ScoresAddUp =
    (objective : Objective) (trace : List Object) (fills : List Bool) (contents : List (List Object)) → AddsUp objective trace fills contents

-- no allowed contents of the trace score more than the number
abbrev pub NoneScoreMore : Terms → List Object → ℕ → Type 0
NoneScoreMore terms trace most = (contents : List (List Object)) → IsAllowed terms.capacity trace contents → score terms trace contents ≤ most

-- the prelude has each object of the part that is asked for before it
abbrev pub IsPrelude : List Object → List Object → List Object → Type 0
IsPrelude before part prelude = (x : Object) → Contains before x → Contains part x → Contains prelude x

-- the same requests of the part only fill behind the prelude as behind `before`; the marks of the prelude are of no matter, as the warm-up covers it
abbrev pub HasSameMarks : List Object → List Object → List Bool → List Object → List Bool → Type 0
HasSameMarks part before fills prelude marks =
    (j : ℕ) → j < length part → only_fills marks (length prelude + j) ≡ only_fills fills (length before + j)

-- what no contents pass on a part behind a prelude, from the k-th request of the part on, no contents of the whole trace pass there
abbrev pub CutIsBounded : Type 0
CutIsBounded =
    (objective : Objective) (capacity k most : ℕ) (before part after prelude : List Object) (fills marks : List Bool)
    → IsPrelude before part prelude
    → HasSameMarks part before fills prelude marks
    → NoneScoreMore (terms_from objective capacity (length prelude + k) marks) (prelude ++ part) most
    → (contents : List (List Object)) → IsAllowed capacity (before ++ part ++ after) contents
    → score_between objective (before ++ part ++ after) fills contents (length before + k) (length before + length part) ≤ most

-- a part of a trace, and which of its requests only fill; what goes before it when it is bounded, which requests of both only fill then, and what bounds it
pub record Part : Type 0 where
  pub requests : List Object
  pub fills : List Bool
  pub prelude : List Object
  pub marks : List Bool
  pub most : ℕ

-- the parts, end to end
abbrev pub whole_of : List Part → List Object
whole_of parts = flat_map (λ p. p.requests) parts

-- of each request whether it only fills: as many marks as requests, also if the list of the part is shorter
abbrev pub marks_of : List Object → List Bool → List Bool
marks_of requests fills = map (only_fills fills) (numbers_of requests)

-- the marks of the parts, end to end
abbrev pub fills_of : List Part → List Bool
fills_of parts = flat_map (λ p. marks_of p.requests p.fills) parts

-- a part behind its prelude is bounded with this warm-up: the prelude, and of the trace's what is left after the requests before the part
abbrev pub warmup_behind : ℕ → ℕ → ℕ → ℕ
warmup_behind prelude before warmup = prelude + (warmup - before)

-- what a part is asked for behind its prelude
abbrev pub terms_behind : Objective → ℕ → ℕ → List Object → Part → Terms
terms_behind objective capacity warmup before p = terms_from objective capacity (warmup_behind (length p.prelude) (length before) warmup) p.marks

-- the number of each part bounds it behind its prelude
abbrev pub EachIsBounded : Objective → ℕ → ℕ → List Object → List Part → Type 0
EachIsBounded objective capacity warmup before [] = Unit {0}
EachIsBounded objective capacity warmup before (p ∷ parts) =
    IsPrelude before p.requests p.prelude
    × HasSameMarks p.requests [] p.fills p.prelude p.marks
    × NoneScoreMore (terms_behind objective capacity warmup before p) (p.prelude ++ p.requests) p.most
    × EachIsBounded objective capacity warmup (before ++ p.requests) parts

-- the bounds of all parts sum to a bound of the whole trace
abbrev pub BoundsAddUp : Type 0
BoundsAddUp =
    (objective : Objective) (capacity warmup : ℕ) (parts : List Part)
    → EachIsBounded objective capacity warmup [] parts
    → NoneScoreMore (terms_from objective capacity warmup (fills_of parts)) (whole_of parts) (sum_by (λ p. p.most) parts)

-- the contents before each request of the trace, and then the others: the cache is emptied between the two
abbrev pub one_after_the_other : List Object → List (List Object) → List (List Object) → List (List Object)
one_after_the_other trace contents others = take (length trace) contents ++ others

-- contents of two parts, one after the other, are allowed, and score the sum: of a warm-up each part has what falls into it
pub record AreJoined (capacity : ℕ) (a b : List Object) (contents others : List (List Object)) : Type 0 where
  pub allowed : IsAllowed capacity (a ++ b) (one_after_the_other a contents others)
  pub scores : (objective : Objective) (warmup : ℕ) (fills marks : List Bool)
      → score (terms_from objective capacity warmup (marks_of a fills ++ marks)) (a ++ b) (one_after_the_other a contents others)
      ≡ score (terms_from objective capacity warmup fills) a contents + score (terms_from objective capacity (warmup - length a) marks) b others

-- contents that are allowed for each of two parts can follow one another
abbrev pub PartsAreAllowed : Type 0
PartsAreAllowed =
    (capacity : ℕ) (a b : List Object) (contents others : List (List Object))
    → IsAllowed capacity a contents → IsAllowed capacity b others → AreJoined capacity a b contents others

-- a part of a trace, which of its requests only fill, and contents of its own
pub record FilledPart : Type 0 where
  pub requests : List Object
  pub fills : List Bool
  pub contents : List (List Object)

-- what the contents of all parts score; of a warm-up each part has what is left after those before it
abbrev pub score_of_parts : Objective → ℕ → ℕ → List FilledPart → ℕ
score_of_parts objective capacity warmup [] = 0
score_of_parts objective capacity warmup (p ∷ parts) =
    score (terms_from objective capacity warmup p.fills) p.requests p.contents + score_of_parts objective capacity (warmup - length p.requests) parts

-- allowed contents of the trace score exactly this
pub record IsReached (terms : Terms) (trace : List Object) (total : ℕ) : Type 0 where
  pub contents : List (List Object)
  pub allowed : IsAllowed terms.capacity trace contents
  pub score_is : score terms trace contents ≡ total

-- what allowed contents of all parts score, allowed contents of the whole trace score too
abbrev pub LowerBoundsAddUp : Type 0
LowerBoundsAddUp =
    (objective : Objective) (capacity warmup : ℕ) (parts : List FilledPart)
    → All (λ p. IsAllowed capacity p.requests p.contents) parts
    → IsReached
    (terms_from objective capacity warmup (flat_map (λ p. marks_of p.requests p.fills) parts))
    (flat_map (λ p. p.requests) parts)
    (score_of_parts objective capacity warmup parts)

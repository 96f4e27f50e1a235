-- The text of a sweep is read in one way.
use Rattle.std.proofs.Common.{◌≡◌, ℕ, zero, suc, ◌∙◌, sym, refl, ap, true, List, [], ◌∷◌, ◌++◌, append_assoc, get_or, arith, codes, flat_map, map}
use Rattle.std.specs.List.{AllByRecursion, list_all}
use Rattle.std.proofs.lemmas.List.Elements.{recursion_from_All}
use Rattle.cache_model.specs.declared.objects.Objective.{Objective}
use Rattle.cache_model.specs.declared.objects.Objective.TheVariants.{Object as Hits, Bytes}
use Rattle.cache_model.specs.Texts.{entry, objective_word, text_of}
use Rattle.area_sums.specs.declared.bound.EdgeBound.{EdgeBound}
use Rattle.area_sums.specs.Bounds.{floor_of}
use Rattle.policy_sweep.specs.declared.running.PolicyReplay.{PolicyReplay}
use Rattle.trace_sweep.specs.declared.points.SweepPoint.{SweepPoint}
use Rattle.bound_report.specs.declared.sweeps.SweepFacts.{SweepFacts}
use Rattle.bound_report.specs.declared.rendering.Counting.{Counting}
use Rattle.bound_report.specs.declared.rendering.StaleCounts.{StaleCounts}
use Rattle.bound_report.specs.Rendering.{rendered}
use Rattle.bound_report.specs.Reports.{trace_line}
use Rattle.bound_report.specs.Sweeps.{bound_line, bound_lines, capacity_lines, counts_line, delay_lines, sweep_line, sweep_lines}
use Rattle.report_laws.specs.Laws.{ArePrintable, IsPrintable, SweepsHaveOneReading, numbers_with_replays, point_numbers, replay_numbers_of, sweep_numbers, with_replays}
use Rattle.report_laws.proofs.Lines.{After, Lacks, Part, Small, Words, is_part, line_lacks, lines_apart, named, numbers_apart}
use Rattle.report_laws.proofs.OptionalLines.{BeginsOtherwise, NoneOfStale, bytes_at, late_before, none_of_stale, optional, optional-append, optional_apart, optional_lacks, optional_otherwise}
use Rattle.report_laws.proofs.OptionalLines.{stale_before, staled, staled_apart, staled_lacks, ttl_before, unless_zero, unless_zero_apart, unless_zero_lines, unless_zero_small, warmed}
use Rattle.report_laws.proofs.PolicyLines.{NoCounts, all_lack, bound_is_no_counts, counts_filtered, counts_split, small-split}
use Rattle.report_laws.proofs.ReportLines.{lacks-both, none_behind, rendered-lines, same_counting, split_at}
use Rattle.report_laws.proofs.SharedLines.{div_small, trace_apart, trace_lacks}

-- a bound at a capacity
abbrev bound_parts : Objective → List Part
bound_parts objective =
    named (codes "capacity") ++ Words (codes " ") ∷ Words (objective_word objective) ∷ Words (codes " upper") ∷ After 32 ∷ After 47 ∷ named (codes " floor")

abbrev bound_numbers : ℕ → EdgeBound → List ℕ
bound_numbers capacity bound = capacity ∷ bound.upper ∷ bound.edge ∷ floor_of bound ∷ []

small_bound : (capacity : ℕ) (b : EdgeBound) → IsPrintable capacity → IsPrintable b.upper → IsPrintable b.edge → Small (bound_numbers capacity b)
small_bound capacity b small upper edge = (small, (upper, (edge, (div_small b.upper b.edge upper, tt))))

bound_lacks : (o : Objective) (capacity : ℕ) (b : EdgeBound) → list_all is_part (bound_parts o) ≡ true → Small (bound_numbers capacity b) → Lacks 10 (bound_line capacity o b)
bound_lacks o capacity b are small = line_lacks (bound_parts o) (bound_numbers capacity b) are small

bound_apart : (o : Objective) (m n : ℕ) (a b : EdgeBound) → list_all is_part (bound_parts o) ≡ true → Small (bound_numbers m a) → Small (bound_numbers n b)
    → bound_line m o a ≡ bound_line n o b → bound_numbers m a ≡ bound_numbers n b
bound_apart o m n a b are small small' e = numbers_apart (bound_parts o) (bound_numbers m a) (bound_numbers n b) are refl refl small small' e

-- the numbers of both lines of a capacity
record SmallPoint (p : SweepPoint) : Type 0 where
  hits : Small (bound_numbers p.capacity p.bounds.hits)
  bytes : Small (bound_numbers p.capacity p.bounds.bytes)

small_point : (p : SweepPoint) (rest : List ℕ) → Small (point_numbers p ++ rest) → SmallPoint p × Small rest
small_point p rest (capacity, (hits, (edge, (bytes, (other, small))))) = (
  record { hits = small_bound p.capacity p.bounds.hits capacity hits edge; bytes = small_bound p.capacity p.bounds.bytes capacity bytes other },
  small,
)

-- the lines of a capacity
abbrev shown : SweepPoint × List PolicyReplay → List (List ℕ)
shown x = bound_lines x.0 ++ map counts_line x.1

lines-shown : (rs : List PolicyReplay) (ps : List SweepPoint) → flat_map (capacity_lines rs) ps ≡ flat_map shown (with_replays ps rs)
lines-shown rs [] = refl
lines-shown rs (p ∷ ps) = (λ i. (bound_lines p ++ counts_filtered p.capacity rs i) ++ lines-shown rs ps i)

-- the numbers of a capacity and of its policies, and those of the others
record SmallRow (x : SweepPoint × List PolicyReplay) : Type 0 where
  point : SmallPoint x.0
  replays : Small (flat_map replay_numbers_of x.1)

small_row : (x : SweepPoint × List PolicyReplay) (rest : List ℕ) → Small (numbers_with_replays x ++ rest) → SmallRow x × Small rest
small_row x rest small =
    let both = small-split (numbers_with_replays x) rest small in
    let point = small_point x.0 (flat_map replay_numbers_of x.1) both.0 in
    (record { point = point.0; replays = point.1 }, both.1)

points_lack : (xs : List (SweepPoint × List PolicyReplay)) → Small (flat_map numbers_with_replays xs) → AllByRecursion (Lacks 10) (flat_map shown xs)
points_lack [] small = tt
points_lack (x ∷ xs) small =
    let both = small_row x (flat_map numbers_with_replays xs) small in
    let p : SweepPoint = x.0 in
    lacks-both (shown x) (flat_map shown xs)
    (bound_lacks Hits p.capacity p.bounds.hits refl both.0.point.hits, (bound_lacks Bytes p.capacity p.bounds.bytes refl both.0.point.bytes, all_lack x.1 both.0.replays))
    (points_lack xs both.1)

-- the lines of the capacities, and that of the warm-up, if there is one
abbrev points_and_warmup : List (SweepPoint × List PolicyReplay) → ℕ → List (List ℕ)
points_and_warmup xs v = flat_map shown xs ++ warmed v []

-- the first is no line of a policy
no_counts : (xs : List (SweepPoint × List PolicyReplay)) (v : ℕ) → Small (flat_map numbers_with_replays xs) → NoCounts (points_and_warmup xs v)
no_counts [] zero small r counts e = omega (arith, bytes_at 0 _ _ e)
no_counts [] (suc v) small r counts e = omega (arith, bytes_at 0 _ _ e)
no_counts (x ∷ xs) v small r counts e =
    let hits = (small_row x (flat_map numbers_with_replays xs) small).0.point.hits in
    bound_is_no_counts Hits x.0.capacity x.0.bounds.hits r hits.1.1.1.0 counts e

-- no bound stands where the warm-up does
no_point : (v : ℕ) (x : SweepPoint × List PolicyReplay) (xs : List (SweepPoint × List PolicyReplay)) (w : ℕ) → warmed v [] ≡ points_and_warmup (x ∷ xs) w → ⊥
no_point zero x xs w e =
    let first : [] ≡ bound_line x.0.capacity Hits x.0.bounds.hits = ap (λ ls. get_or ls 0 []) e in
    omega (arith, bytes_at 0 _ _ first)
no_point (suc v) x xs w e =
    let first : entry (codes "warmup") (suc v) ≡ bound_line x.0.capacity Hits x.0.bounds.hits = ap (λ ls. get_or ls 0 []) e in
    omega (arith, bytes_at 0 _ _ first)

same_point : (p q : SweepPoint) → SmallPoint p → SmallPoint q → bound_line p.capacity Hits p.bounds.hits ≡ bound_line q.capacity Hits q.bounds.hits
    → bound_line p.capacity Bytes p.bounds.bytes ≡ bound_line q.capacity Bytes q.bounds.bytes → p ≡ q
same_point p q small small' hits bytes =
    let of_hits : bound_numbers p.capacity p.bounds.hits ≡ bound_numbers q.capacity q.bounds.hits
    = bound_apart Hits p.capacity q.capacity p.bounds.hits q.bounds.hits refl small.hits small'.hits hits in
    let of_bytes : bound_numbers p.capacity p.bounds.bytes ≡ bound_numbers q.capacity q.bounds.bytes
    = bound_apart Bytes p.capacity q.capacity p.bounds.bytes q.bounds.bytes refl small.bytes small'.bytes bytes in
    ap (λ ns. point_of ns (bound_numbers p.capacity p.bounds.bytes)) of_hits ∙ ap (point_of (bound_numbers q.capacity q.bounds.hits)) of_bytes
  where
    bound_of : List ℕ → EdgeBound
    bound_of ns = record { upper = get_or ns 1 0; edge = get_or ns 2 0 }

    point_of : List ℕ → List ℕ → SweepPoint
    point_of hs bs = record { capacity = get_or hs 0 0; bounds = record { hits = bound_of hs; bytes = bound_of bs } }

regrouped : (a b c d : List (List ℕ)) → ((a ++ b) ++ c) ++ d ≡ a ++ (b ++ (c ++ d))
regrouped a b c d = simp append_assoc

points_apart : (xs ys : List (SweepPoint × List PolicyReplay)) (v w : ℕ) → Small (flat_map numbers_with_replays xs) → Small (flat_map numbers_with_replays ys) → IsPrintable v → IsPrintable w
    → points_and_warmup xs v ≡ points_and_warmup ys w → (xs ≡ ys) × (v ≡ w)
points_apart [] [] v w small small' pv pw e =
    let last = optional_apart (codes "warmup") (unless_zero v) (unless_zero w) [] [] refl (unless_zero_small v pv) (unless_zero_small w pw) (none_behind (codes "warmup")) (none_behind (codes "warmup")) e in
    (refl, unless_zero_apart v w last.0)
points_apart [] (y ∷ ys) v w small small' pv pw e = absurd (no_point v y ys w e)
points_apart (x ∷ xs) [] v w small small' pv pw e = absurd (no_point w x xs v (sym e))
points_apart (x ∷ xs) (y ∷ ys) v w small small' pv pw e =
    let here = small_row x (flat_map numbers_with_replays xs) small in
    let there = small_row y (flat_map numbers_with_replays ys) small' in
    let same = sym (regrouped (bound_lines x.0) (map counts_line x.1) (flat_map shown xs) (warmed v [])) ∙ e ∙ regrouped (bound_lines y.0) (map counts_line y.1) (flat_map shown ys) (warmed w []) in
    let cut = split_at (bound_lines x.0) (bound_lines y.0) (map counts_line x.1 ++ points_and_warmup xs v) (map counts_line y.1 ++ points_and_warmup ys w) refl same in
    let counts = counts_split x.1 y.1 (points_and_warmup xs v) (points_and_warmup ys w) here.0.replays there.0.replays (no_counts xs v here.1) (no_counts ys w there.1) cut.1 in
    let rest = points_apart xs ys v w here.1 there.1 pv pw counts.1 in
    let first : x.0 ≡ y.0 = same_point x.0 y.0 here.0.point there.0.point (ap (λ ls. get_or ls 0 []) cut.0) (ap (λ ls. get_or ls 1 []) cut.0) in
    ((λ i. (first i, counts.0 i) ∷ rest.0 i), rest.1)

-- the next line is none of stale requests
points_otherwise : (xs : List (SweepPoint × List PolicyReplay)) (v : ℕ) → NoneOfStale (points_and_warmup xs v)
points_otherwise [] zero = (none_behind (codes "idle"), none_behind (codes "ttl"), none_behind (codes "late"), none_behind (codes "stale"))
points_otherwise [] (suc v) = none_of_stale (warmed (suc v) []) 119 refl (λ e. omega arith) (λ e. omega arith) (λ e. omega arith) (λ e. omega arith)
points_otherwise (x ∷ xs) v = none_of_stale (points_and_warmup (x ∷ xs) v) 99 refl (λ e. omega arith) (λ e. omega arith) (λ e. omega arith) (λ e. omega arith)

-- and none of a delay
points_no_delay : (xs : List (SweepPoint × List PolicyReplay)) (v : ℕ) → BeginsOtherwise (codes "delay") (points_and_warmup xs v)
points_no_delay [] zero = none_behind (codes "delay")
points_no_delay [] (suc v) = λ n e. omega (arith, bytes_at 0 _ _ e)
points_no_delay (x ∷ xs) v = λ n e. omega (arith, bytes_at 0 _ _ e)

no_delay : (counts : StaleCounts) (lines : List (List ℕ)) → BeginsOtherwise (codes "delay") lines → BeginsOtherwise (codes "delay") (staled counts lines)
no_delay counts lines other =
    optional_otherwise (codes "idle") (codes "delay") counts.idle (ttl_before counts lines) (λ m n e. omega (arith, bytes_at 0 _ _ e))
    (optional_otherwise (codes "ttl") (codes "delay") counts.ttl (late_before counts lines) (λ m n e. omega (arith, bytes_at 0 _ _ e))
    (optional_otherwise (codes "late") (codes "delay") (unless_zero counts.late) (stale_before counts lines) (λ m n e. omega (arith, bytes_at 0 _ _ e))
    (optional_otherwise (codes "stale") (codes "delay") counts.stale lines (λ m n e. omega (arith, bytes_at 0 _ _ e)) other)))

-- how many capacities and policies there are
abbrev sweep_parts : List Part
sweep_parts = named (codes "sweep capacities") ++ named (codes " policies")

-- the lines behind that of the delay
abbrev behind_delay : List (SweepPoint × List PolicyReplay) → Counting → List (List ℕ)
behind_delay ps c = staled c.stale (points_and_warmup ps c.warmup)

-- the lines behind that of the capacities and policies
abbrev behind_sweep : SweepFacts → List (SweepPoint × List PolicyReplay) → Counting → List (List ℕ)
behind_sweep f ps c = optional (codes "delay") (unless_zero f.delay) (behind_delay ps c)

-- the lines from that on
abbrev from_sweep : SweepFacts → List (SweepPoint × List PolicyReplay) → Counting → List (List ℕ)
from_sweep f ps c = sweep_line f.capacities f.policies ∷ behind_sweep f ps c

-- the line of the trace
abbrev sweep_trace : SweepFacts → List ℕ
sweep_trace f = trace_line f.requests f.objects f.dropped

-- all lines
abbrev lines_of : SweepFacts → List (SweepPoint × List PolicyReplay) → Counting → List (List ℕ)
lines_of f ps c = sweep_trace f ∷ optional (codes "counted") c.counted (from_sweep f ps c)

delay_lines-optional : (delay : ℕ) (lines : List (List ℕ)) → delay_lines delay ++ lines ≡ optional (codes "delay") (unless_zero delay) lines
delay_lines-optional delay lines = ap (λ ls. ls ++ lines) (unless_zero_lines (codes "delay") delay) ∙ optional-append (codes "delay") (unless_zero delay) [] lines

sweep_text : (f : SweepFacts) (ps : List SweepPoint) (rs : List PolicyReplay) (c : Counting) → rendered c (sweep_lines f ps rs) ≡ text_of (lines_of f (with_replays ps rs) c)
sweep_text f ps rs c =
    rendered-lines c (sweep_trace f ∷ []) (sweep_line f.capacities f.policies ∷ delay_lines f.delay) (flat_map (capacity_lines rs) ps)
    ∙ ap (λ ls. text_of (sweep_trace f ∷ optional (codes "counted") c.counted (sweep_line f.capacities f.policies ∷ ls)))
    (delay_lines-optional f.delay (staled c.stale (flat_map (capacity_lines rs) ps ++ warmed c.warmup [])))
    ∙ ap (λ ls. text_of (sweep_trace f ∷ optional (codes "counted") c.counted (sweep_line f.capacities f.policies ∷ optional (codes "delay") (unless_zero f.delay) (staled c.stale (ls ++ warmed c.warmup []))))) (lines-shown rs ps)

-- the numbers of its lines
record SmallSweep (f : SweepFacts) (xs : List (SweepPoint × List PolicyReplay)) : Type 0 where
  trace : Small (f.requests ∷ f.objects ∷ f.dropped ∷ [])
  sweep : Small (f.capacities ∷ f.policies ∷ [])
  delay : IsPrintable f.delay
  points : Small (flat_map numbers_with_replays xs)

small_sweep : (f : SweepFacts) (ps : List SweepPoint) (rs : List PolicyReplay) → Small (sweep_numbers f ps rs) → SmallSweep f (with_replays ps rs)
small_sweep f ps rs (requests, (objects, (dropped, (capacities, (policies, (delay, points)))))) =
    record { trace = (requests, (objects, (dropped, tt))); sweep = (capacities, (policies, tt)); delay = delay; points = points }

module _ (f : SweepFacts) (points : List SweepPoint) (rs : List PolicyReplay) (c : Counting) (printable : ArePrintable c (sweep_numbers f points rs)) where
  abbrev ps : List (SweepPoint × List PolicyReplay)
  ps = with_replays points rs

  small_all : SmallSweep f ps
  small_all = small_sweep f points rs (recursion_from_All IsPrintable (sweep_numbers f points rs) printable.3)

  sweep_lacks : AllByRecursion (Lacks 10) (lines_of f ps c)
  sweep_lacks =
      let last = optional_lacks (codes "warmup") (unless_zero c.warmup) [] refl (unless_zero_small c.warmup printable.1) tt in
      let points = lacks-both (flat_map shown ps) (warmed c.warmup []) (points_lack ps small_all.points) last in
      let stale = staled_lacks c.stale (points_and_warmup ps c.warmup) printable.2 points in
      let delay = optional_lacks (codes "delay") (unless_zero f.delay) (behind_delay ps c) refl (unless_zero_small f.delay small_all.delay) stale in
      let sweep = line_lacks sweep_parts (f.capacities ∷ f.policies ∷ []) refl small_all.sweep in
      (trace_lacks f.requests f.objects f.dropped small_all.trace, optional_lacks (codes "counted") c.counted (from_sweep f ps c) refl printable.0 (sweep, delay))

-- the line of the capacities and policies is none of counted requests
not_counted : (f : SweepFacts) (ps : List (SweepPoint × List PolicyReplay)) (c : Counting) → BeginsOtherwise (codes "counted") (from_sweep f ps c)
not_counted f ps c n e = omega (arith, bytes_at 0 _ _ e)

-- the facts of these numbers
abbrev facts_of : List ℕ → List ℕ → ℕ → SweepFacts
facts_of trace sweep delay = record {
  requests = get_or trace 0 0;
  objects = get_or trace 1 0;
  dropped = get_or trace 2 0;
  capacities = get_or sweep 0 0;
  policies = get_or sweep 1 0;
  delay = delay;
}

same_facts : (f g : SweepFacts) → f.requests ∷ f.objects ∷ f.dropped ∷ [] ≡ g.requests ∷ g.objects ∷ g.dropped ∷ [] → f.capacities ∷ f.policies ∷ [] ≡ g.capacities ∷ g.policies ∷ []
    → f.delay ≡ g.delay → f ≡ g
same_facts f g trace sweep delay =
    ap (λ ns. facts_of ns (f.capacities ∷ f.policies ∷ []) f.delay) trace
    ∙ ap (λ ns. facts_of (g.requests ∷ g.objects ∷ g.dropped ∷ []) ns f.delay) sweep
    ∙ ap (facts_of (g.requests ∷ g.objects ∷ g.dropped ∷ []) (g.capacities ∷ g.policies ∷ [])) delay

pub sweeps_apart : SweepsHaveOneReading
sweeps_apart f g points others rs ss c d printable printable' e =
    let ps = with_replays points rs in
    let qs = with_replays others ss in
    let small = small_all f points rs c printable in
    let small' = small_all g others ss d printable' in
    let same = lines_apart (lines_of f ps c) (lines_of g qs d) (sweep_lacks f points rs c printable) (sweep_lacks g others ss d printable') (sym (sweep_text f points rs c) ∙ e ∙ sweep_text g others ss d) in
    let first = split_at (sweep_trace f ∷ []) (sweep_trace g ∷ []) (optional (codes "counted") c.counted (from_sweep f ps c)) (optional (codes "counted") d.counted (from_sweep g qs d)) refl same in
    let trace : f.requests ∷ f.objects ∷ f.dropped ∷ [] ≡ g.requests ∷ g.objects ∷ g.dropped ∷ []
    = trace_apart f.requests f.objects f.dropped g.requests g.objects g.dropped small.trace small'.trace (ap (λ ls. get_or ls 0 []) first.0) in
    let counted = optional_apart (codes "counted") c.counted d.counted (from_sweep f ps c) (from_sweep g qs d) refl printable.0 printable'.0 (not_counted f ps c) (not_counted g qs d) first.1 in
    let second = split_at (sweep_line f.capacities f.policies ∷ []) (sweep_line g.capacities g.policies ∷ []) (behind_sweep f ps c) (behind_sweep g qs d) refl counted.1 in
    let sweep : f.capacities ∷ f.policies ∷ [] ≡ g.capacities ∷ g.policies ∷ []
    = numbers_apart sweep_parts (f.capacities ∷ f.policies ∷ []) (g.capacities ∷ g.policies ∷ []) refl refl refl small.sweep small'.sweep (ap (λ ls. get_or ls 0 []) second.0) in
    let delay = optional_apart (codes "delay") (unless_zero f.delay) (unless_zero g.delay) (behind_delay ps c) (behind_delay qs d) refl (unless_zero_small f.delay small.delay)
    (unless_zero_small g.delay small'.delay) (no_delay c.stale (points_and_warmup ps c.warmup) (points_no_delay ps c.warmup))
    (no_delay d.stale (points_and_warmup qs d.warmup) (points_no_delay qs d.warmup)) second.1 in
    let stale = staled_apart c.stale d.stale (points_and_warmup ps c.warmup) (points_and_warmup qs d.warmup) printable.2 printable'.2
    (points_otherwise ps c.warmup) (points_otherwise qs d.warmup) delay.1 in
    let last = points_apart ps qs c.warmup d.warmup small.points small'.points printable.1 printable'.1 stale.1 in
    (same_facts f g trace sweep (unless_zero_apart f.delay g.delay delay.0), last.0, same_counting c d last.1 counted.0 stale.0)

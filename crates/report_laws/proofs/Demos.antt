-- The text of a demo is read in one way.
use Rattle.std.proofs.Common.{◌≡◌, ℕ, ◌∙◌, sym, refl, ap, true, List, [], ◌∷◌, ◌++◌, append_assoc, get_or, arith, codes, Option}
use Rattle.std.specs.List.{AllByRecursion, list_all}
use Rattle.std.proofs.lemmas.List.Concat.{flat_map-append}
use Rattle.std.proofs.lemmas.List.Elements.{recursion_from_All}
use Rattle.cache_model.specs.Texts.{line, text_of}
use Rattle.policy_model.specs.declared.names.PolicyName.{PolicyName}
use Rattle.policy_model.specs.declared.names.PolicyName.TheVariants.{Lru, Fifo, Clock, Lfu, Belady}
use Rattle.replay_core.specs.declared.counts.Replay.{Replay}
use Rattle.bound_report.specs.declared.facts.BoundFacts.{BoundFacts}
use Rattle.bound_report.specs.declared.demo.DemoFacts.{DemoFacts}
use Rattle.bound_report.specs.declared.demo.PolicyReplays.{PolicyReplays}
use Rattle.bound_report.specs.Demos.{demo_line, demo_text, replay_line, replay_lines}
use Rattle.bound_report.specs.declared.rendering.Counting.{Counting}
use Rattle.bound_report.specs.Rendering.{rendered}
use Rattle.bound_report.specs.Reports.{bound_lines, capacity_line, written_lines}
use Rattle.policy_model.specs.Names.{policy_word}
use Rattle.report_laws.specs.Laws.{ArePrintable, DemosHaveOneReading, IsPrintable, bound_numbers, demo_numbers, replay_numbers}
use Rattle.report_laws.proofs.Lines.{Lacks, Part, Small, is_part, line_lacks, named, numbers_apart}
use Rattle.report_laws.proofs.OptionalLines.{BeginsOtherwise, bytes_at, optional, optional-append, staled, staled-append, unless_zero, warmed}
use Rattle.report_laws.proofs.ReportLines.{IsReport, Report, after_body, body, lines_of, rendered-written, reports_apart}
use Rattle.report_laws.proofs.Bounds.{SmallBounds, bound_body, bound_trace, bounds_lack, bounds_otherwise, other_lines, report_of, same_bounds, small_bounds}

-- ---- what is asked of a demo
abbrev demo_parts : List Part
demo_parts = named (codes "demo seed") ++ named (codes " requests") ++ named (codes " objects") ++ named (codes " capacity")

abbrev asked_numbers : DemoFacts → List ℕ
asked_numbers a = a.seed ∷ a.requests ∷ a.objects ∷ a.capacity ∷ []

abbrev asked_of : List ℕ → DemoFacts
asked_of numbers = record { seed = get_or numbers 0 0; requests = get_or numbers 1 0; objects = get_or numbers 2 0; capacity = get_or numbers 3 0 }

-- ---- the lines of the replays
abbrev replay_parts : PolicyName → List Part
replay_parts p = named (codes "replay " ++ policy_word p ++ codes " hits") ++ named (codes " bytes")

abbrev counts : Replay → List ℕ
counts r = r.hits ∷ r.bytes ∷ []

replay_lacks : (p : PolicyName) (r : Replay) → list_all is_part (replay_parts p) ≡ true → Small (counts r) → Lacks 10 (replay_line p r)
replay_lacks p r are small = line_lacks (replay_parts p) (counts r) are small

replay_apart : (p : PolicyName) (r s : Replay) → list_all is_part (replay_parts p) ≡ true → Small (counts r) → Small (counts s) → replay_line p r ≡ replay_line p s → counts r ≡ counts s
replay_apart p r s are small small' e = numbers_apart (replay_parts p) (counts r) (counts s) are refl refl small small' e

-- the numbers of each line are small
record SmallDemo (a : DemoFacts) (r : PolicyReplays) (f : BoundFacts) : Type 0 where
  asked : Small (asked_numbers a)
  lru : Small (counts r.lru)
  fifo : Small (counts r.fifo)
  clock : Small (counts r.clock)
  lfu : Small (counts r.lfu)
  belady : Small (counts r.belady)
  bounds : SmallBounds f

small_demo : (a : DemoFacts) (r : PolicyReplays) (f : BoundFacts) → Small (demo_numbers a r ++ bound_numbers f) → SmallDemo a r f
small_demo a r f (seed, (requests, (objects, (capacity, (h1, (b1, (h2, (b2, (h3, (b3, (h4, (b4, (h5, (b5, bounds)))))))))))))) = record {
  asked = (seed, (requests, (objects, (capacity, tt))));
  lru = (h1, (b1, tt));
  fifo = (h2, (b2, tt));
  clock = (h3, (b3, tt));
  lfu = (h4, (b4, tt));
  belady = (h5, (b5, tt));
  bounds = small_bounds f bounds;
}

replays_lack : (a : DemoFacts) (r : PolicyReplays) (f : BoundFacts) → SmallDemo a r f → AllByRecursion (Lacks 10) (replay_lines r)
replays_lack a r f small =
    (replay_lacks Lru r.lru refl small.lru, (replay_lacks Fifo r.fifo refl small.fifo, (replay_lacks Clock r.clock refl small.clock, (replay_lacks Lfu r.lfu refl small.lfu, (replay_lacks Belady r.belady refl small.belady, tt)))))

replays_apart : (a b : DemoFacts) (r s : PolicyReplays) (f g : BoundFacts) → SmallDemo a r f → SmallDemo b s g → replay_lines r ≡ replay_lines s → replay_numbers r ≡ replay_numbers s
replays_apart a b r s f g small small' e =
    let first : counts r.lru ≡ counts s.lru = replay_apart Lru r.lru s.lru refl small.lru small'.lru (at 0) in
    let second : counts r.fifo ≡ counts s.fifo = replay_apart Fifo r.fifo s.fifo refl small.fifo small'.fifo (at 1) in
    let third : counts r.clock ≡ counts s.clock = replay_apart Clock r.clock s.clock refl small.clock small'.clock (at 2) in
    let fourth : counts r.lfu ≡ counts s.lfu = replay_apart Lfu r.lfu s.lfu refl small.lfu small'.lfu (at 3) in
    let fifth : counts r.belady ≡ counts s.belady = replay_apart Belady r.belady s.belady refl small.belady small'.belady (at 4) in
    cc
  where
    at : (i : ℕ) → get_or (replay_lines r) i [] ≡ get_or (replay_lines s) i []
    at i = ap (λ ls. get_or ls i []) e

-- the written bytes and the warm-up, and the lines behind them
abbrev ending : Option ℕ → ℕ → List (List ℕ) → List (List ℕ)
ending written warmup behind = optional (codes "writes") written (warmed warmup behind)

ending-append : (written : Option ℕ) (warmup : ℕ) (behind : List (List ℕ)) → ending written warmup [] ++ behind ≡ ending written warmup behind
ending-append written warmup behind =
    optional-append (codes "writes") written (warmed warmup []) behind ∙ ap (optional (codes "writes") written) (optional-append (codes "warmup") (unless_zero warmup) [] behind)

-- a report among other lines
rendered-between : (first : List ℕ) (c : Counting) (trace capacity : List ℕ) (lines : List (List ℕ)) (written : Option ℕ) (behind : List (List ℕ))
    → line first ++ rendered c (record { front = trace ∷ []; head = capacity ∷ []; back = lines ++ written_lines written }) ++ text_of behind
    ≡ text_of (first ∷ trace ∷ optional (codes "counted") c.counted (capacity ∷ staled c.stale (lines ++ ending written c.warmup behind)))
rendered-between first c trace capacity lines written behind =
    let back = lines ++ ending written c.warmup [] in
    let head = capacity ∷ staled c.stale back in
    ap (λ text. line first ++ text ++ text_of behind) (rendered-written c (trace ∷ []) (capacity ∷ []) lines written)
    ∙ sym (flat_map-append line (first ∷ trace ∷ optional (codes "counted") c.counted head) behind)
    ∙ ap (λ ls. text_of (first ∷ trace ∷ ls)) (optional-append (codes "counted") c.counted head behind)
    ∙ ap (λ ls. text_of (first ∷ trace ∷ optional (codes "counted") c.counted (capacity ∷ ls)))
    (staled-append c.stale back behind ∙ ap (staled c.stale) (append_assoc lines (ending written c.warmup []) behind ∙ ap (λ ls. lines ++ ls) (ending-append written c.warmup behind)))

-- the line behind the bounds is none of a warm-up, and none of written bytes
no_warmup : BeginsOtherwise (codes "warmup") (codes "check valid" ∷ [])
no_warmup n e = omega (arith, bytes_at 0 _ _ e)

no_writes : BeginsOtherwise (codes "writes") (codes "check valid" ∷ [])
no_writes n e = omega (arith, bytes_at 0 _ _ e)

module _ (a : DemoFacts) (f : BoundFacts) (c : Counting) (r : PolicyReplays) (printable : ArePrintable c (demo_numbers a r ++ bound_numbers f)) where
  small_all : SmallDemo a r f
  small_all = small_demo a r f (recursion_from_All IsPrintable (demo_numbers a r ++ bound_numbers f) printable.3)

  -- the lines behind those of the bounds
  abbrev behind : List (List ℕ)
  behind = codes "check valid" ∷ replay_lines r

  abbrev whole : Report
  whole = report_of f c (demo_line a ∷ bound_trace f ∷ []) behind

  is_whole : IsReport whole
  is_whole =
      let lack = bounds_lack f small_all.bounds in
      record {
        before = (line_lacks demo_parts (asked_numbers a) refl small_all.asked, (lack.0, tt));
        counted = printable.0;
        body = lack.1;
        stale = printable.2;
        no_stale = bounds_otherwise f (after_body whole);
        written = small_all.bounds.written;
        warmup = printable.1;
        behind = (refl, replays_lack a r f small_all);
        no_warmup = no_warmup;
        no_writes = no_writes;
      }

  text_whole : demo_text a (rendered c (bound_lines f)) r ≡ text_of (lines_of whole)
  text_whole = rendered-between (demo_line a) c (bound_trace f) (capacity_line f.header.capacity f.header.objective) (other_lines f) f.written behind

pub demos_apart : DemosHaveOneReading
demos_apart a b f g c d r s printable printable' e =
    let x = whole a f c r printable in
    let y = whole b g d s printable' in
    let small = small_all a f c r printable in
    let small' = small_all b g d s printable' in
    let same = reports_apart x y (is_whole a f c r printable) (is_whole b g d s printable') refl refl (sym (text_whole a f c r printable) ∙ e ∙ text_whole b g d s printable') in
    let before : demo_line a ∷ bound_trace f ∷ [] ≡ demo_line b ∷ bound_trace g ∷ [] = same.before in
    let rest : body x ≡ body y = same.body in
    let checked : codes "check valid" ∷ replay_lines r ≡ codes "check valid" ∷ replay_lines s = same.behind in
    let asked : asked_numbers a ≡ asked_numbers b = numbers_apart demo_parts (asked_numbers a) (asked_numbers b) refl refl refl small.asked small'.asked (ap (λ ls. get_or ls 0 []) before) in
    let lines : bound_body f ≡ bound_body g = cc in
    (ap asked_of asked, same_bounds f g small.bounds small'.bounds lines same.written, same.counting, replays_apart a b r s f g small small' cc)

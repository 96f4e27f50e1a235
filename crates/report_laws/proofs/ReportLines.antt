-- The lines of a report, of which some may be there or not.
use Rattle.std.proofs.Common.{◌≡◌, ℕ, ◌∙◌, refl, ap, List, [], ◌∷◌, ◌++◌, append_assoc, length, arith, codes, Option, IfSome}
use Rattle.std.specs.List.{AllByRecursion}
use Rattle.cache_model.specs.declared.objects.Objective.{Objective}
use Rattle.cache_model.specs.Texts.{entry, text_of}
use Rattle.bound_report.specs.declared.rendering.Counting.{Counting}
use Rattle.bound_report.specs.Rendering.{Lines, counted_lines, rendered, stale_count_lines, warmup_lines}
use Rattle.bound_report.specs.Reports.{capacity_line, written_lines}
use Rattle.report_laws.specs.Laws.{ArePrintableCounts, IsPrintable}
use Rattle.report_laws.proofs.Lines.{Lacks, lines_apart}
use Rattle.report_laws.proofs.OptionalLines.{BeginsOtherwise, NoneOfStale, bytes_at, counted_lines-optional, optional, optional_apart, optional_lacks}
use Rattle.report_laws.proofs.OptionalLines.{stale_count_lines-staled, staled, staled_apart, staled_lacks}
use Rattle.report_laws.proofs.OptionalLines.{unless_zero, unless_zero_apart, unless_zero_small, warmed, warmed_otherwise, warmup_lines-warmed, written_lines-optional}

-- all lines of a report without those that may be there
abbrev pub all_of : Lines → List (List ℕ)
all_of lines = lines.front ++ lines.head ++ lines.back

-- ---- the text of a report
six_parts : (a b c d e f : List (List ℕ)) → a ++ b ++ c ++ d ++ e ++ f ≡ a ++ (b ++ (c ++ (d ++ (e ++ f))))
six_parts a b c d e f = simp append_assoc

-- the text of a report, line by line
pub rendered-lines : (c : Counting) (front head back : List (List ℕ))
    → rendered c (record { front = front; head = head; back = back }) ≡ text_of (front ++ optional (codes "counted") c.counted (head ++ staled c.stale (back ++ warmed c.warmup [])))
rendered-lines c front head back =
    let warmup = warmup_lines c.warmup in
    let stale = stale_count_lines c.stale in
    ap text_of (six_parts front (counted_lines c.counted) head stale back warmup)
    ∙ ap (λ ls. text_of (front ++ ls)) (counted_lines-optional c.counted (head ++ (stale ++ (back ++ warmup))))
    ∙ ap (λ ls. text_of (front ++ optional (codes "counted") c.counted (head ++ ls)))
    (stale_count_lines-staled c.stale (back ++ warmup) ∙ ap (λ w. staled c.stale (back ++ w)) (warmup_lines-warmed c.warmup))

-- the same with a line of written bytes
pub rendered-written : (c : Counting) (front head back : List (List ℕ)) (w : Option ℕ)
    → rendered c (record { front = front; head = head; back = back ++ written_lines w })
    ≡ text_of (front ++ optional (codes "counted") c.counted (head ++ staled c.stale (back ++ optional (codes "writes") w (warmed c.warmup []))))
rendered-written c front head back w =
    let warmup = warmed c.warmup [] in
    rendered-lines c front head (back ++ written_lines w)
    ∙ ap (λ ls. text_of (front ++ optional (codes "counted") c.counted (head ++ staled c.stale ls))) (append_assoc back (written_lines w) warmup ∙ ap (λ ls. back ++ ls) (written_lines-optional w warmup))

-- ---- the lines of a report
-- those up to that of the trace, how the requests count and what is said of stale ones, the line of the capacity, those behind it, the written bytes,
-- and the lines behind the warm-up
pub record Report : Type 0 where
  pub before : List (List ℕ)
  pub counting : Counting
  pub capacity : ℕ
  pub objective : Objective
  pub others : List (List ℕ)
  pub written : Option ℕ
  pub behind : List (List ℕ)

-- the lines from the capacity on, but for those of stale requests
abbrev pub body : Report → List (List ℕ)
body r = capacity_line r.capacity r.objective ∷ r.others

-- all lines behind the body
abbrev pub after_body : Report → List (List ℕ)
after_body r = optional (codes "writes") r.written (warmed r.counting.warmup r.behind)

-- all lines behind that of the capacity
abbrev pub after_capacity : Report → List (List ℕ)
after_capacity r = staled r.counting.stale (r.others ++ after_body r)

-- all lines from that of the capacity on
abbrev pub from_capacity : Report → List (List ℕ)
from_capacity r = capacity_line r.capacity r.objective ∷ after_capacity r

-- all lines behind those up to that of the trace
abbrev pub after_trace : Report → List (List ℕ)
after_trace r = optional (codes "counted") r.counting.counted (from_capacity r)

-- all its lines
abbrev pub lines_of : Report → List (List ℕ)
lines_of r = r.before ++ after_trace r

-- each is one line, the one behind those of stale requests looks like none of them, and the one behind the warm-up looks neither like that of a warm-up
-- nor like that of written bytes
pub record IsReport (r : Report) : Type 0 where
  pub before : AllByRecursion (Lacks 10) r.before
  pub counted : IfSome r.counting.counted IsPrintable
  pub body : AllByRecursion (Lacks 10) (body r)
  pub stale : ArePrintableCounts r.counting.stale
  pub no_stale : NoneOfStale (r.others ++ after_body r)
  pub written : IfSome r.written IsPrintable
  pub warmup : IsPrintable r.counting.warmup
  pub behind : AllByRecursion (Lacks 10) r.behind
  pub no_warmup : BeginsOtherwise (codes "warmup") r.behind
  pub no_writes : BeginsOtherwise (codes "writes") r.behind

pub lacks-both : (xs ys : List (List ℕ)) → AllByRecursion (Lacks 10) xs → AllByRecursion (Lacks 10) ys → AllByRecursion (Lacks 10) (xs ++ ys)
lacks-both [] ys a b = b
lacks-both (x ∷ xs) ys a b = (a.0, lacks-both xs ys a.1 b)

report_lacks : (r : Report) → IsReport r → AllByRecursion (Lacks 10) (lines_of r)
report_lacks r is =
    let v = r.counting.warmup in
    let last = optional_lacks (codes "warmup") (unless_zero v) r.behind refl (unless_zero_small v is.warmup) is.behind in
    let writes = optional_lacks (codes "writes") r.written (warmed v r.behind) refl is.written last in
    let rest = staled_lacks r.counting.stale (r.others ++ after_body r) is.stale (lacks-both r.others (after_body r) is.body.1 writes) in
    lacks-both r.before (after_trace r) is.before (optional_lacks (codes "counted") r.counting.counted (from_capacity r) refl is.counted (is.body.0, rest))

-- two lists of which as many elements are cut off
pub split_at : (xs ys ps qs : List (List ℕ)) → length xs ≡ length ys → xs ++ ps ≡ ys ++ qs → (xs ≡ ys) × (ps ≡ qs)
split_at [] [] ps qs same e = (refl, e)
split_at [] (y ∷ ys) ps qs same e = absurd (omega arith)
split_at (x ∷ xs) [] ps qs same e = absurd (omega arith)
split_at (x ∷ xs) (y ∷ ys) ps qs same e =
    let rest : xs ++ ps ≡ ys ++ qs = cc in
    let both : (xs ≡ ys) × (ps ≡ qs) = split_at xs ys ps qs (omega arith) rest in
    let others : xs ≡ ys = both.0 in
    (cc, both.1)

is_capacity : (capacity : ℕ) (objective : Objective) (n : ℕ) → capacity_line capacity objective ≡ entry (codes "counted") n → ⊥
is_capacity capacity objective n e = omega (arith, bytes_at 1 _ _ e)

pub record SameReport (r s : Report) : Type 0 where
  pub before : r.before ≡ s.before
  pub counting : r.counting ≡ s.counting
  pub body : body r ≡ body s
  pub written : r.written ≡ s.written
  pub behind : r.behind ≡ s.behind

pub same_counting : (c d : Counting) → c.warmup ≡ d.warmup → c.counted ≡ d.counted → c.stale ≡ d.stale → c ≡ d
same_counting c d warmup counted stale =
    ap (λ v. record { warmup = v; counted = c.counted; stale = c.stale }) warmup
    ∙ ap (λ n. record { warmup = d.warmup; counted = n; stale = c.stale }) counted
    ∙ ap (λ n. record { warmup = d.warmup; counted = d.counted; stale = n }) stale

-- two reports of as many lines are the same if their texts are
pub reports_apart : (r s : Report) → IsReport r → IsReport s → length r.before ≡ length s.before → length r.others ≡ length s.others
    → text_of (lines_of r) ≡ text_of (lines_of s) → SameReport r s
reports_apart r s is it before others e =
    let first = split_at r.before s.before (after_trace r) (after_trace s) before (lines_apart (lines_of r) (lines_of s) (report_lacks r is) (report_lacks s it) e) in
    let v = r.counting.warmup in
    let w = s.counting.warmup in
    let second = optional_apart (codes "counted") r.counting.counted s.counting.counted (from_capacity r) (from_capacity s)
    refl is.counted it.counted (is_capacity r.capacity r.objective) (is_capacity s.capacity s.objective) first.1 in
    let capacities = split_at (capacity_line r.capacity r.objective ∷ []) (capacity_line s.capacity s.objective ∷ []) (after_capacity r) (after_capacity s) refl second.1 in
    let stale = staled_apart r.counting.stale s.counting.stale (r.others ++ after_body r) (s.others ++ after_body s) is.stale it.stale is.no_stale it.no_stale capacities.1 in
    let third = split_at r.others s.others (after_body r) (after_body s) others stale.1 in
    let fourth = optional_apart (codes "writes") r.written s.written (warmed v r.behind) (warmed w s.behind)
    refl is.written it.written (warmed_otherwise v r.behind is.no_writes) (warmed_otherwise w s.behind it.no_writes) third.1 in
    let last = optional_apart (codes "warmup") (unless_zero v) (unless_zero w) r.behind s.behind
    refl (unless_zero_small v is.warmup) (unless_zero_small w it.warmup) is.no_warmup it.no_warmup fourth.1 in
    let capacity : capacity_line r.capacity r.objective ∷ [] ≡ capacity_line s.capacity s.objective ∷ [] = capacities.0 in
    let same_others : r.others ≡ s.others = third.0 in
    record {
      before = first.0;
      counting = same_counting r.counting s.counting (unless_zero_apart v w last.0) second.0 stale.0;
      body = cc;
      written = fourth.0;
      behind = last.1;
    }

-- nothing behind the warm-up
pub none_behind : (word : List ℕ) → BeginsOtherwise word []
none_behind [] n e = cc
none_behind (byte ∷ word) n e = cc

-- The lines of a report that may be there or not: how many requests count, four of stale requests, the written bytes, and the warm-up.
use Rattle.std.proofs.Common.{◌≡◌, ◌≢◌, ℕ, zero, suc, ◌∙◌, sym, refl, ap, true, List, [], ◌∷◌, ◌++◌, append_assoc, cond, if◌then◌else◌, ◌==◌, get_or, arith, codes, Some, None, Option, IfSome}
use Rattle.std.specs.List.{AllByRecursion, list_all}
use Rattle.std.proofs.lemmas.Bool.{ne_eqb}
use Rattle.cache_model.specs.Texts.{entry}
use Rattle.bound_report.specs.declared.rendering.StaleCounts.{StaleCounts}
use Rattle.bound_report.specs.Rendering.{counted_lines, idle_lines, late_lines, stale_count_lines, stale_lines, ttl_lines, warmup_lines}
use Rattle.bound_report.specs.Reports.{written_lines}
use Rattle.report_laws.specs.Laws.{ArePrintableCounts, IsPrintable}
use Rattle.report_laws.proofs.Lines.{Lacks, is_part, line_lacks, named, numbers_apart}

-- the byte at a place
pub bytes_at : (i : ℕ) (xs ys : List ℕ) → xs ≡ ys → get_or xs i 0 ≡ get_or ys i 0
bytes_at i xs ys e = ap (λ text. get_or text i 0) e

-- ---- a line that may be there
-- lines, and before them one of a word and a number, if there is a number
abbrev pub optional : List ℕ → Option ℕ → List (List ℕ) → List (List ℕ)
optional word None lines = lines
optional word (Some n) lines = entry word n ∷ lines

pub optional_lacks : (word : List ℕ) (c : Option ℕ) (lines : List (List ℕ)) → list_all is_part (named word) ≡ true → IfSome c IsPrintable
    → AllByRecursion (Lacks 10) lines → AllByRecursion (Lacks 10) (optional word c lines)
optional_lacks word None lines ok small lack = lack
optional_lacks word (Some n) lines ok small lack = (line_lacks (named word) (n ∷ []) ok (small, tt), lack)

-- the next line is none of that word
abbrev pub BeginsOtherwise : List ℕ → List (List ℕ) → Type 0
BeginsOtherwise word lines = (n : ℕ) → get_or lines 0 [] ≡ entry word n → ⊥

-- whether it is there is read too, if the next line is none of that word
pub optional_apart : (word : List ℕ) (c d : Option ℕ) (xs ys : List (List ℕ)) → list_all is_part (named word) ≡ true → IfSome c IsPrintable → IfSome d IsPrintable
    → BeginsOtherwise word xs → BeginsOtherwise word ys
    → optional word c xs ≡ optional word d ys → (c ≡ d) × (xs ≡ ys)
optional_apart word None None xs ys ok pc pd other_x other_y e = (refl, e)
optional_apart word None (Some d) xs ys ok pc pd other_x other_y e = absurd (other_x d (ap (λ ls. get_or ls 0 []) e))
optional_apart word (Some c) None xs ys ok pc pd other_x other_y e = absurd (other_y c (ap (λ ls. get_or ls 0 []) (sym e)))
optional_apart word (Some c) (Some d) xs ys ok pc pd other_x other_y e =
    let first : entry word c ≡ entry word d = ap (λ ls. get_or ls 0 []) e in
    let numbers : c ∷ [] ≡ d ∷ [] = numbers_apart (named word) (c ∷ []) (d ∷ []) ok refl refl (pc, tt) (pd, tt) first in
    (cc, cc)

-- what may stand before lines that begin otherwise
pub optional_otherwise : (word other : List ℕ) (c : Option ℕ) (lines : List (List ℕ)) → ((m n : ℕ) → entry word m ≡ entry other n → ⊥)
    → BeginsOtherwise other lines → BeginsOtherwise other (optional word c lines)
optional_otherwise word other None lines apart rest n e = rest n e
optional_otherwise word other (Some c) lines apart rest n e = apart c n e

-- ---- a number that is printed if it is not 0
abbrev pub unless_zero : ℕ → Option ℕ
unless_zero zero = None
unless_zero (suc n) = Some (suc n)

pub unless_zero_small : (v : ℕ) → IsPrintable v → IfSome (unless_zero v) IsPrintable
unless_zero_small zero small = tt
unless_zero_small (suc n) small = small

pub unless_zero_apart : (v w : ℕ) → unless_zero v ≡ unless_zero w → v ≡ w
unless_zero_apart zero zero e = refl
unless_zero_apart zero (suc w) e = absurd cc
unless_zero_apart (suc v) zero e = absurd cc
unless_zero_apart (suc v) (suc w) e = cc

pub unless_zero_lines : (word : List ℕ) (v : ℕ) → (if v == 0 then [] else entry word v ∷ []) ≡ optional word (unless_zero v) []
unless_zero_lines word zero = refl
unless_zero_lines word (suc n) = ap (λ none. cond none [] (entry word (suc n) ∷ [])) (ne_eqb (suc n) 0 (λ e. omega arith))

-- ---- the warm-up
-- lines, and before them that of the warm-up, if there is one
abbrev pub warmed : ℕ → List (List ℕ) → List (List ℕ)
warmed v lines = optional (codes "warmup") (unless_zero v) lines

pub warmup_lines-warmed : (v : ℕ) → warmup_lines v ≡ warmed v []
warmup_lines-warmed v = unless_zero_lines (codes "warmup") v

pub counted_lines-optional : (c : Option ℕ) (lines : List (List ℕ)) → counted_lines c ++ lines ≡ optional (codes "counted") c lines
counted_lines-optional None lines = refl
counted_lines-optional (Some n) lines = refl

pub written_lines-optional : (w : Option ℕ) (lines : List (List ℕ)) → written_lines w ++ lines ≡ optional (codes "writes") w lines
written_lines-optional None lines = refl
written_lines-optional (Some n) lines = refl

-- no line of a warm-up is one of written bytes
pub warmed_otherwise : (v : ℕ) (lines : List (List ℕ)) → BeginsOtherwise (codes "writes") lines → BeginsOtherwise (codes "writes") (warmed v lines)
warmed_otherwise v lines other = optional_otherwise (codes "warmup") (codes "writes") (unless_zero v) lines (λ m n e. omega (arith, bytes_at 1 _ _ e)) other

-- ---- stale requests
-- lines, and before them that of how many requests were stale, if any can be
abbrev pub stale_before : StaleCounts → List (List ℕ) → List (List ℕ)
stale_before counts lines = optional (codes "stale") counts.stale lines

-- and that of how many were late
abbrev pub late_before : StaleCounts → List (List ℕ) → List (List ℕ)
late_before counts lines = optional (codes "late") (unless_zero counts.late) (stale_before counts lines)

-- and that of the time for which objects stay fresh after they were written
abbrev pub ttl_before : StaleCounts → List (List ℕ) → List (List ℕ)
ttl_before counts lines = optional (codes "ttl") counts.ttl (late_before counts lines)

-- lines, and before them those of stale requests that are there
abbrev pub staled : StaleCounts → List (List ℕ) → List (List ℕ)
staled counts lines = optional (codes "idle") counts.idle (ttl_before counts lines)

-- the next line is none of these
abbrev pub NoneOfStale : List (List ℕ) → Type 0
NoneOfStale lines = BeginsOtherwise (codes "idle") lines × BeginsOtherwise (codes "ttl") lines × BeginsOtherwise (codes "late") lines × BeginsOtherwise (codes "stale") lines

-- so it is if it has another first letter
pub none_of_stale : (lines : List (List ℕ)) (letter : ℕ) → get_or (get_or lines 0 []) 0 0 ≡ letter → letter ≢ 105 → letter ≢ 116 → letter ≢ 108 → letter ≢ 115 → NoneOfStale lines
none_of_stale lines letter is no_i no_t no_l no_s =
    (λ n e. no_i (sym is ∙ bytes_at 0 _ _ e), λ n e. no_t (sym is ∙ bytes_at 0 _ _ e), λ n e. no_l (sym is ∙ bytes_at 0 _ _ e), λ n e. no_s (sym is ∙ bytes_at 0 _ _ e))

idle_lines-optional : (c : Option ℕ) (lines : List (List ℕ)) → idle_lines c ++ lines ≡ optional (codes "idle") c lines
idle_lines-optional None lines = refl
idle_lines-optional (Some n) lines = refl

ttl_lines-optional : (c : Option ℕ) (lines : List (List ℕ)) → ttl_lines c ++ lines ≡ optional (codes "ttl") c lines
ttl_lines-optional None lines = refl
ttl_lines-optional (Some n) lines = refl

stale_lines-optional : (c : Option ℕ) (lines : List (List ℕ)) → stale_lines c ++ lines ≡ optional (codes "stale") c lines
stale_lines-optional None lines = refl
stale_lines-optional (Some n) lines = refl

pub optional-append : (word : List ℕ) (number : Option ℕ) (lines behind : List (List ℕ)) → optional word number lines ++ behind ≡ optional word number (lines ++ behind)
optional-append word None lines behind = refl
optional-append word (Some n) lines behind = refl

late_lines-optional : (late : ℕ) (lines : List (List ℕ)) → late_lines late ++ lines ≡ optional (codes "late") (unless_zero late) lines
late_lines-optional late lines = ap (λ ls. ls ++ lines) (unless_zero_lines (codes "late") late) ∙ optional-append (codes "late") (unless_zero late) [] lines

pub stale_count_lines-staled : (counts : StaleCounts) (lines : List (List ℕ)) → stale_count_lines counts ++ lines ≡ staled counts lines
stale_count_lines-staled counts lines =
    let idle = idle_lines counts.idle in
    let ttl = ttl_lines counts.ttl in
    let late = late_lines counts.late in
    append_assoc (idle ++ ttl ++ late) (stale_lines counts.stale) lines
    ∙ append_assoc (idle ++ ttl) late (stale_lines counts.stale ++ lines)
    ∙ append_assoc idle ttl (late ++ (stale_lines counts.stale ++ lines))
    ∙ ap (λ ls. idle ++ (ttl ++ (late ++ ls))) (stale_lines-optional counts.stale lines)
    ∙ ap (λ ls. idle ++ (ttl ++ ls)) (late_lines-optional counts.late (stale_before counts lines))
    ∙ ap (λ ls. idle ++ ls) (ttl_lines-optional counts.ttl (late_before counts lines))
    ∙ idle_lines-optional counts.idle (ttl_before counts lines)

pub staled-append : (counts : StaleCounts) (lines behind : List (List ℕ)) → staled counts lines ++ behind ≡ staled counts (lines ++ behind)
staled-append counts lines behind =
    optional-append (codes "idle") counts.idle (ttl_before counts lines) behind
    ∙ ap (optional (codes "idle") counts.idle) (optional-append (codes "ttl") counts.ttl (late_before counts lines) behind
    ∙ ap (optional (codes "ttl") counts.ttl) (optional-append (codes "late") (unless_zero counts.late) (stale_before counts lines) behind
    ∙ ap (optional (codes "late") (unless_zero counts.late)) (optional-append (codes "stale") counts.stale lines behind)))

pub staled_lacks : (counts : StaleCounts) (lines : List (List ℕ)) → ArePrintableCounts counts → AllByRecursion (Lacks 10) lines → AllByRecursion (Lacks 10) (staled counts lines)
staled_lacks counts lines (idle, ttl, late, stale) lack =
    optional_lacks (codes "idle") counts.idle (ttl_before counts lines) refl idle
    (optional_lacks (codes "ttl") counts.ttl (late_before counts lines) refl ttl
    (optional_lacks (codes "late") (unless_zero counts.late) (stale_before counts lines) refl (unless_zero_small counts.late late)
    (optional_lacks (codes "stale") counts.stale lines refl stale lack)))

-- no line of stale requests is one of late ones
late_otherwise : (counts : StaleCounts) (lines : List (List ℕ)) → NoneOfStale lines → BeginsOtherwise (codes "late") (stale_before counts lines)
late_otherwise counts lines none = optional_otherwise (codes "stale") (codes "late") counts.stale lines (λ m n e. omega (arith, bytes_at 0 _ _ e)) none.2

-- and none of both is one of a time for which objects stay fresh
ttl_otherwise : (counts : StaleCounts) (lines : List (List ℕ)) → NoneOfStale lines → BeginsOtherwise (codes "ttl") (late_before counts lines)
ttl_otherwise counts lines none =
    optional_otherwise (codes "late") (codes "ttl") (unless_zero counts.late) (stale_before counts lines) (λ m n e. omega (arith, bytes_at 0 _ _ e))
    (optional_otherwise (codes "stale") (codes "ttl") counts.stale lines (λ m n e. omega (arith, bytes_at 0 _ _ e)) none.1)

idle_otherwise : (counts : StaleCounts) (lines : List (List ℕ)) → NoneOfStale lines → BeginsOtherwise (codes "idle") (ttl_before counts lines)
idle_otherwise counts lines none =
    optional_otherwise (codes "ttl") (codes "idle") counts.ttl (late_before counts lines) (λ m n e. omega (arith, bytes_at 0 _ _ e))
    (optional_otherwise (codes "late") (codes "idle") (unless_zero counts.late) (stale_before counts lines) (λ m n e. omega (arith, bytes_at 0 _ _ e))
    (optional_otherwise (codes "stale") (codes "idle") counts.stale lines (λ m n e. omega (arith, bytes_at 0 _ _ e)) none.0))

same_counts : (c d : StaleCounts) → c.idle ≡ d.idle → c.ttl ≡ d.ttl → c.late ≡ d.late → c.stale ≡ d.stale → c ≡ d
same_counts c d idle ttl late stale =
    ap (λ t. record { idle = t; ttl = c.ttl; late = c.late; stale = c.stale }) idle
    ∙ ap (λ t. record { idle = d.idle; ttl = t; late = c.late; stale = c.stale }) ttl
    ∙ ap (λ n. record { idle = d.idle; ttl = d.ttl; late = n; stale = c.stale }) late
    ∙ ap (λ n. record { idle = d.idle; ttl = d.ttl; late = d.late; stale = n }) stale

-- what is said of stale requests is read, if the next line is none of that
pub staled_apart : (c d : StaleCounts) (xs ys : List (List ℕ)) → ArePrintableCounts c → ArePrintableCounts d → NoneOfStale xs → NoneOfStale ys
    → staled c xs ≡ staled d ys → (c ≡ d) × (xs ≡ ys)
staled_apart c d xs ys pc pd none_x none_y e =
    let idle = optional_apart (codes "idle") c.idle d.idle (ttl_before c xs) (ttl_before d ys) refl pc.0 pd.0 (idle_otherwise c xs none_x) (idle_otherwise d ys none_y) e in
    let ttl = optional_apart (codes "ttl") c.ttl d.ttl (late_before c xs) (late_before d ys) refl pc.1 pd.1 (ttl_otherwise c xs none_x) (ttl_otherwise d ys none_y) idle.1 in
    let late = optional_apart (codes "late") (unless_zero c.late) (unless_zero d.late) (stale_before c xs) (stale_before d ys)
    refl (unless_zero_small c.late pc.2) (unless_zero_small d.late pd.2) (late_otherwise c xs none_x) (late_otherwise d ys none_y) ttl.1 in
    let stale = optional_apart (codes "stale") c.stale d.stale xs ys refl pc.3 pd.3 none_x.3 none_y.3 late.1 in
    (same_counts c d idle.0 ttl.0 (unless_zero_apart c.late d.late late.0) stale.0, stale.1)

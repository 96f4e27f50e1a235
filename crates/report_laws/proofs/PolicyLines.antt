-- The lines of what policies count: each is read in one way, and is no line of a bound nor of a warm-up.
use Rattle.std.proofs.Common.{◌≡◌, ◌≢◌, ℕ, ◌+◌, ◌<◌, ◌∙◌, ◌==◌, sym, refl, ap, Bool, true, false, cond, List, [], ◌∷◌, ◌++◌, get_or, arith, codes, decimal, filter, flat_map, map, Some}
use Rattle.std.specs.List.{AllByRecursion}
use Rattle.cache_model.specs.declared.objects.Objective.{Objective}
use Rattle.cache_model.specs.Texts.{entry, objective_word}
use Rattle.area_sums.specs.declared.bound.EdgeBound.{EdgeBound}
use Rattle.area_sums.specs.Bounds.{floor_of}
use Rattle.policy_model.specs.declared.names.PolicyName.{PolicyName}
use Rattle.policy_model.specs.declared.names.PolicyName.TheVariants.{Lru, Fifo, Clock, Lfu, Belady, Sieve, S3Fifo, Gdsf, Lfuda, Gdsf98, WTinyLfu}
use Rattle.policy_model.specs.Names.{policy_named, policy_word}
use Rattle.policy_sweep.specs.declared.running.PolicyReplay.{PolicyReplay}
use Rattle.bound_report.specs.Reports.{ratio}
use Rattle.bound_report.specs.Sweeps.{bound_line, counts_line, counts_lines}
use Rattle.report_laws.specs.Laws.{IsPrintable, replay_numbers_of}
use Rattle.report_laws.proofs.Lines.{Lacks, Part, Small, cut_last, lacks-append, lacks-decimal, last_words, line_lacks, named, numbers_apart, spell_apart, spell_lacks}

-- a word of a policy has no end of a line and no space, and is of that policy alone
word_lines : (p : PolicyName) → Lacks 10 (policy_word p)
word_lines Lru = refl
word_lines Fifo = refl
word_lines Clock = refl
word_lines Lfu = refl
word_lines Belady = refl
word_lines Sieve = refl
word_lines S3Fifo = refl
word_lines Gdsf = refl
word_lines Lfuda = refl
word_lines Gdsf98 = refl
word_lines WTinyLfu = refl

word_spaces : (p : PolicyName) → Lacks 32 (policy_word p)
word_spaces Lru = refl
word_spaces Fifo = refl
word_spaces Clock = refl
word_spaces Lfu = refl
word_spaces Belady = refl
word_spaces Sieve = refl
word_spaces S3Fifo = refl
word_spaces Gdsf = refl
word_spaces Lfuda = refl
word_spaces Gdsf98 = refl
word_spaces WTinyLfu = refl

word_named : (p : PolicyName) → policy_named (policy_word p) ≡ Some p
word_named Lru = refl
word_named Fifo = refl
word_named Clock = refl
word_named Lfu = refl
word_named Belady = refl
word_named Sieve = refl
word_named S3Fifo = refl
word_named Gdsf = refl
word_named Lfuda = refl
word_named Gdsf98 = refl
word_named WTinyLfu = refl

same_policy : (p q : PolicyName) → policy_word p ≡ policy_word q → p ≡ q
same_policy p q e =
    let both : Some p ≡ Some q = sym (word_named p) ∙ ap policy_named e ∙ word_named q in
    cc

-- the capacity, and the numbers that are counted there
abbrev capacity_parts : List Part
capacity_parts = named (codes "capacity")

abbrev counts_parts : List Part
counts_parts = named (codes " hits") ++ named (codes " bytes") ++ named (codes " writes")

abbrev counted : PolicyReplay → List ℕ
counted r = r.counts.hits ∷ r.counts.bytes ∷ r.counts.written ∷ []

abbrev head_of : PolicyReplay → List ℕ
head_of r = entry (codes "capacity") r.capacity ++ codes " policy " ++ policy_word r.policy

-- the numbers of a line
abbrev pub SmallCounts : PolicyReplay → Type 0
SmallCounts r = Small (replay_numbers_of r)

pub counts_lacks : (r : PolicyReplay) → SmallCounts r → Lacks 10 (counts_line r)
counts_lacks r (capacity, (hits, (bytes, (written, none)))) =
    let begun : Lacks 10 (entry (codes "capacity") r.capacity) = line_lacks capacity_parts (r.capacity ∷ []) refl (capacity, tt) in
    spell_lacks counts_parts (head_of r) (counted r) refl (hits, (bytes, (written, tt)))
    (lacks-append 10 (entry (codes "capacity") r.capacity ++ codes " policy ") (policy_word r.policy) (lacks-append 10 (entry (codes "capacity") r.capacity) (codes " policy ") begun refl) (word_lines r.policy))

pub counts_apart : (r s : PolicyReplay) → SmallCounts r → SmallCounts s → counts_line r ≡ counts_line s → r ≡ s
counts_apart r s (capacity, (hits, (bytes, (written, none)))) (capacity', (hits', (bytes', (written', none')))) e =
    let both = spell_apart counts_parts (head_of r) (head_of s) (counted r) (counted s) refl refl refl (hits, (bytes, (written, tt))) (hits', (bytes', (written', tt))) e in
    let words = last_words 32 (entry (codes "capacity") r.capacity) (entry (codes "capacity") s.capacity) (codes " policy") (policy_word r.policy) (policy_word s.policy) (word_spaces r.policy) (word_spaces s.policy) both.0 in
    let policy : r.policy ≡ s.policy = same_policy r.policy s.policy words.1 in
    let capacities : r.capacity ∷ [] ≡ s.capacity ∷ [] = numbers_apart capacity_parts (r.capacity ∷ []) (s.capacity ∷ []) refl refl refl (capacity, tt) (capacity', tt) words.0 in
    (λ i. replay_of (policy i) (capacities i) (both.1 i))
  where
    replay_of : PolicyName → List ℕ → List ℕ → PolicyReplay
    replay_of policy cs ns = record { policy = policy; capacity = get_or cs 0 0; counts = record { hits = get_or ns 0 0; bytes = get_or ns 1 0; written = get_or ns 2 0 } }

-- behind the numbers so far stands another word
pub bound_is_no_counts : (o : Objective) (capacity : ℕ) (b : EdgeBound) (r : PolicyReplay) → IsPrintable (floor_of b) → SmallCounts r → bound_line capacity o b ≡ counts_line r → ⊥
bound_is_no_counts o capacity b r small (_, (_, (_, (written, _)))) e =
    let first : List ℕ = ratio (entry (codes "capacity") capacity ++ codes " " ++ objective_word o ++ codes " upper") b.upper b.edge in
    let second : List ℕ = entry (entry (head_of r ++ codes " hits") r.counts.hits ++ codes " bytes") r.counts.bytes in
    let numbers = last_words 32 (first ++ codes " floor") (second ++ codes " writes") [] (decimal (floor_of b)) (decimal r.counts.written) (lacks-decimal 32 (floor_of b) no_space small) (lacks-decimal 32 r.counts.written no_space written) e in
    let words : codes "floor" ≡ codes "writes" = (cut_last 32 first second (codes "floor") (codes "writes") refl refl numbers.0).1 in
    cc
  where
    no_space : (d : ℕ) → d < 10 → 48 + d ≢ 32
    no_space d low e = omega (arith, e)

-- the next line is none of a policy
abbrev pub NoCounts : List (List ℕ) → Type 0
NoCounts lines = (r : PolicyReplay) → SmallCounts r → get_or lines 0 [] ≡ counts_line r → ⊥

-- the numbers of policies
pub small-split : (xs ys : List ℕ) → Small (xs ++ ys) → Small xs × Small ys
small-split [] ys small = (tt, small)
small-split (x ∷ xs) ys (first, others) =
    let both = small-split xs ys others in
    ((first, both.0), both.1)

pub all_lack : (rs : List PolicyReplay) → Small (flat_map replay_numbers_of rs) → AllByRecursion (Lacks 10) (map counts_line rs)
all_lack [] small = tt
all_lack (r ∷ rs) small =
    let both = small-split (replay_numbers_of r) (flat_map replay_numbers_of rs) small in
    (counts_lacks r both.0, all_lack rs both.1)

-- the lines of policies, and what is behind them
pub counts_split : (rs ss : List PolicyReplay) (xs ys : List (List ℕ)) → Small (flat_map replay_numbers_of rs) → Small (flat_map replay_numbers_of ss) → NoCounts xs → NoCounts ys
    → map counts_line rs ++ xs ≡ map counts_line ss ++ ys → (rs ≡ ss) × (xs ≡ ys)
counts_split [] [] xs ys small small' none none' e = (refl, e)
counts_split [] (s ∷ ss) xs ys small small' none none' e =
    absurd (none s (small-split (replay_numbers_of s) (flat_map replay_numbers_of ss) small').0 (ap (λ ls. get_or ls 0 []) e))
counts_split (r ∷ rs) [] xs ys small small' none none' e =
    absurd (none' r (small-split (replay_numbers_of r) (flat_map replay_numbers_of rs) small).0 (ap (λ ls. get_or ls 0 []) (sym e)))
counts_split (r ∷ rs) (s ∷ ss) xs ys small small' none none' e =
    let here = small-split (replay_numbers_of r) (flat_map replay_numbers_of rs) small in
    let there = small-split (replay_numbers_of s) (flat_map replay_numbers_of ss) small' in
    let others : map counts_line rs ++ xs ≡ map counts_line ss ++ ys = cc in
    let rest = counts_split rs ss xs ys here.1 there.1 none none' others in
    let first : r ≡ s = counts_apart r s here.0 there.0 (ap (λ ls. get_or ls 0 []) e) in
    ((λ i. first i ∷ rest.0 i), rest.1)

-- those at a capacity, in other words
pub counts_filtered : (capacity : ℕ) (rs : List PolicyReplay) → flat_map (counts_lines capacity) rs ≡ map counts_line (filter (λ r. r.capacity == capacity) rs)
counts_filtered capacity [] = refl
counts_filtered capacity (r ∷ rs) = at (r.capacity == capacity) (counts_filtered capacity rs)
  where
    at : (b : Bool) → flat_map (counts_lines capacity) rs ≡ map counts_line (filter (λ s. s.capacity == capacity) rs)
        → cond b (counts_line r ∷ []) [] ++ flat_map (counts_lines capacity) rs ≡ map counts_line (cond b (r ∷ filter (λ s. s.capacity == capacity) rs) (filter (λ s. s.capacity == capacity) rs))
    at true rest = ap (λ ls. counts_line r ∷ ls) rest
    at false rest = rest

-- Maps from keys to ranks: what a queue says of one, and how it changes.
use Rattle.std.proofs.Common.{◌≡◌, ◌≢◌, ℕ, zero, suc, ◌^◌, ◌<◌, ◌≤◌, ◌∙◌, inl, inr, sym, refl, ap, cond, nat_lt, min, List, [], ◌∷◌, length, map, zip, arith, ⊎_elim, get_or, set, replicate, length-set}
use Rattle.std.specs.Prelude.{None, Some}
use Rattle.std.specs.declared.option.Option.{Option}
use Rattle.std.proofs.lemmas.Bool.{cases_lt, lt-ltb, le-ltb}
use Rattle.flow_model.proofs.Lists.{set_at}
use Rattle.flow_parts.specs.Queues.{Waiting, Waits, IsQueue, Joins, Leaves}
use Rattle.flow_parts.specs.Ranks.{Ranks, rank_at, lesser, IsEmpty, ChangesRank, IsFirst, ranks_of}
use Rattle.flow_parts.proofs.QueueSteps.{waits_within}

-- a place and a distance as a rank
abbrev entry : ℕ × ℕ → Option ℕ
entry = λ (place, distance). cond (nat_lt 0 place) (Some distance) None

get_or-entries : (places distances : List ℕ) (k : ℕ) → length distances ≡ length places → get_or (map entry (zip places distances)) k None ≡ entry (get_or places k 0, get_or distances k 0)
get_or-entries [] distances k same = refl
get_or-entries (p ∷ places) [] k same = absurd (omega arith)
get_or-entries (p ∷ places) (d ∷ distances) zero same = refl
get_or-entries (p ∷ places) (d ∷ distances) (suc k) same = get_or-entries places distances k (omega arith)

length-entries : (places distances : List ℕ) → length distances ≡ length places → length (map entry (zip places distances)) ≡ length places
length-entries [] distances same = refl
length-entries (p ∷ places) [] same = absurd (omega arith)
length-entries (p ∷ places) (d ∷ distances) same = omega (arith, length-entries places distances (omega arith))

-- as many keys as nodes
pub length-ranks_of : (w : Waiting) (distances : List ℕ) → length distances ≡ length w.places → length (ranks_of w distances) ≡ length w.places
length-ranks_of w distances same = length-entries w.places distances same

-- a node that waits has its distance as its rank
pub rank_of-waits : (w : Waiting) (distances : List ℕ) (k : ℕ) → length distances ≡ length w.places → Waits w k → rank_at (ranks_of w distances) k ≡ Some (get_or distances k 0)
rank_of-waits w distances k same waits =
    get_or-entries w.places distances k same ∙ ap (λ b. cond {A = Option ℕ} b (Some (get_or distances k 0)) None) (lt-ltb 0 (get_or w.places k 0) waits)

-- a node that does not wait has none
pub rank_of-rests : (w : Waiting) (distances : List ℕ) (k : ℕ) → length distances ≡ length w.places → get_or w.places k 0 ≡ 0 → rank_at (ranks_of w distances) k ≡ None
rank_of-rests w distances k same rests =
    get_or-entries w.places distances k same ∙ ap (λ b. cond {A = Option ℕ} b (Some (get_or distances k 0)) None) (le-ltb 0 (get_or w.places k 0) (omega arith))

-- a node that waits in both, or in neither, keeps its rank where its distance stays
kept_rank : (old new : Waiting) (distances others : List ℕ) (k : ℕ) → length distances ≡ length old.places → length others ≡ length new.places → get_or others k 0 ≡ get_or distances k 0
    → (Waits old k → Waits new k) → (Waits new k → Waits old k) → rank_at (ranks_of new others) k ≡ rank_at (ranks_of old distances) k
kept_rank old new distances others k same alike at stays only =
    ⊎_elim
    (λ (w : 0 < get_or old.places k 0). rank_of-waits new others k alike (stays w) ∙ ap Some at ∙ sym (rank_of-waits old distances k same w))
    (λ (r : get_or old.places k 0 ≤ 0).
    let rests : get_or new.places k 0 ≡ 0 = ⊎_elim (λ (w : 0 < get_or new.places k 0). absurd (omega (arith, only w))) (λ (n : get_or new.places k 0 ≤ 0). omega arith) (cases_lt 0 (get_or new.places k 0)) in
    rank_of-rests new others k alike rests ∙ sym (rank_of-rests old distances k same (omega arith)))
    (cases_lt 0 (get_or old.places k 0))

-- a rank that is offered to a key with one no greater changes nothing
pub offered_more : (w : Waiting) (distances : List ℕ) (key rank : ℕ) → length distances ≡ length w.places → Waits w key → get_or distances key 0 ≤ rank
    → ChangesRank (ranks_of w distances) (ranks_of w distances) key (Some (lesser (rank_at (ranks_of w distances) key) rank))
offered_more w distances key rank same waits low =
    let own = rank_of-waits w distances key same waits in
    let least : min (get_or distances key 0) rank ≡ get_or distances key 0 = omega arith in
    record { keys = refl; changed = own ∙ ap Some (sym least ∙ ap (λ r. lesser r rank) (sym own)); others = λ other apart. refl }

-- a rank that is offered to a key with none, or with a greater one
pub offered_less : (old new : Waiting) (distances : List ℕ) (key rank : ℕ) → IsQueue old distances → key < length old.places → (Waits old key → rank ≤ get_or distances key 0) → Joins old new key
    → ChangesRank (ranks_of old distances) (ranks_of new (set distances key rank)) key (Some (lesser (rank_at (ranks_of old distances) key) rank))
offered_less old new distances key rank queue inside less joins =
    let same : length distances ≡ length old.places = queue.each_distance in
    let alike : length (set distances key rank) ≡ length new.places = omega (arith, length-set distances key rank, joins.places) in
    let at : (k : ℕ) → (k ≡ key → get_or (set distances key rank) k 0 ≡ rank) × (k ≢ key → get_or (set distances key rank) k 0 ≡ get_or distances k 0) = λ k. set_at distances key k rank (omega arith) in
    let least : lesser (rank_at (ranks_of old distances) key) rank ≡ rank =
    ⊎_elim
    (λ (w : 0 < get_or old.places key 0).
    let low : min (get_or distances key 0) rank ≡ rank = omega (arith, less w) in
    ap (λ r. lesser r rank) (rank_of-waits old distances key same w) ∙ low)
    (λ (r : get_or old.places key 0 ≤ 0). ap (λ r. lesser r rank) (rank_of-rests old distances key same (omega arith)))
    (cases_lt 0 (get_or old.places key 0)) in
    record {
      keys = length-ranks_of new (set distances key rank) alike ∙ joins.places ∙ sym (length-ranks_of old distances same);
      changed = rank_of-waits new (set distances key rank) key alike joins.joined ∙ ap Some ((at key).0 refl ∙ sym least);
      others = λ other apart. kept_rank old new distances (set distances key rank) other same alike ((at other).1 apart) (joins.stays other) (λ waits. joins.only other waits apart);
    }

-- the first node that waits has the least rank
pub taken_first : (old new : Waiting) (distances : List ℕ) (key : ℕ) → IsQueue old distances → Leaves old new distances key → IsFirst (ranks_of old distances) key (get_or distances key 0)
taken_first old new distances key queue leaves =
    let same : length distances ≡ length old.places = queue.each_distance in
    record {
      here = rank_of-waits old distances key same leaves.waited;
      least = λ other more apart is.
          ⊎_elim
          (λ (w : 0 < get_or old.places other 0).
          let own : Some (get_or distances other 0) ≡ Some more = sym (rank_of-waits old distances other same w) ∙ is in
          let equal : get_or distances other 0 ≡ more = cc in
          let order = leaves.first other w in
          ⊎_elim
          (λ (l : get_or distances key 0 < get_or distances other 0). inl (omega arith))
          (λ (g : get_or distances other 0 ≤ get_or distances key 0).
          let key_low : key < 2 ^ 32 = omega (arith, waits_within old key leaves.waited, queue.placed.few) in
          let other_low : other < 2 ^ 32 = omega (arith, waits_within old other w, queue.placed.few) in
          inr (omega arith, omega arith))
          (cases_lt (get_or distances key 0) (get_or distances other 0)))
          (λ (r : get_or old.places other 0 ≤ 0). let none : None ≡ Some more = sym (rank_of-rests old distances other same (omega arith)) ∙ is in cc)
          (cases_lt 0 (get_or old.places other 0));
    }

-- the node that was taken has no rank any more
pub taken_gone : (old new : Waiting) (distances : List ℕ) (key : ℕ) → IsQueue old distances → IsQueue new distances → Leaves old new distances key → ChangesRank (ranks_of old distances) (ranks_of new distances) key None
taken_gone old new distances key queue next leaves =
    record {
      keys = length-ranks_of new distances next.each_distance ∙ leaves.quits.places ∙ sym (length-ranks_of old distances queue.each_distance);
      changed = rank_of-rests new distances key next.each_distance leaves.quits.gone;
      others = λ other apart. kept_rank old new distances distances other queue.each_distance next.each_distance refl (λ waits. leaves.quits.stays other waits apart) (leaves.quits.only other);
    }

-- no key has a rank where no node waits
pub none_empty : (w : Waiting) (distances : List ℕ) → IsQueue w distances → w.count ≡ 0 → IsEmpty (ranks_of w distances)
none_empty w distances queue none = λ k. rank_of-rests w distances k queue.each_distance (omega (arith, queue.placed.low k))

-- and some node waits where not
pub empty_none : (w : Waiting) (distances : List ℕ) → IsQueue w distances → IsEmpty (ranks_of w distances) → w.count ≡ 0
empty_none w distances queue empty =
    ⊎_elim
    (λ (some : 0 < w.count).
    let first : ℕ = get_or w.nodes 0 0 in
    let waits : Waits w first = omega (arith, queue.placed.placed 0 some) in
    let not : None ≡ Some (get_or distances first 0) = sym (empty first) ∙ rank_of-waits w distances first queue.each_distance waits in
    cc)
    (λ (none : w.count ≤ 0). omega arith)
    (cases_lt 0 w.count)

-- no key of a new map has a rank
pub fresh_ranks : (n : ℕ) (distances : List ℕ) → length distances ≡ n → map entry (zip (replicate {A = ℕ} n 0) distances) ≡ replicate n None
fresh_ranks zero distances same = refl
fresh_ranks (suc n) [] same = absurd (omega arith)
fresh_ranks (suc n) (d ∷ distances) same = ap (λ (rest : Ranks). None ∷ rest) (fresh_ranks n distances (omega arith))

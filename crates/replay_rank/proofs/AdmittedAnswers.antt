-- What GDSF of 1998 keeps after a request for an object that is not held.
use Rattle.std.proofs.Common.{◌≡◌, ℕ, ◌+◌, ◌-◌, ◌^◌, ◌<◌, ◌≤◌, ◌∙◌, sym, refl, ap, true, false, cond, min, List, arith}
use Rattle.std.specs.declared.cmp.Reverse.{Reverse}
use Rattle.std.specs.declared.option.Option.{Option}
use Rattle.std.proofs.lemmas.Bool.{le-leb, lt-leb}
use Rattle.std.proofs.lemmas.List.{length-map}
use Rattle.policy_model.specs.declared.names.PolicyName.TheVariants.{Gdsf98}
use Rattle.policy_model.specs.States.{Entry, Stock, used, has_entry}
use Rattle.policy_model.specs.Steps.{until_fits, change, put_in}
use Rattle.policy_model.specs.Aging.{admitted_in, age, floored, freed_for, over_floor, raised, ranked_entry, stock_used, worth_of}
use Rattle.policy_model.specs.Rules.{stock_after}
use Rattle.policy_model.proofs.Entries.{sum_by-put_in}
use Rattle.policy_model.proofs.Parts.{IsPart, part-used, part-apart, part-members}
use Rattle.policy_model.proofs.RulesSound.{served-hit, served-large, served-small}
use Rattle.policy_model.proofs.Sound.{IsFit}
use Rattle.replay_core.specs.declared.policy.Outcome.{Outcome}
use Rattle.replay_core.specs.declared.policy.Outcome.TheVariants.{Hit, Miss}
use Rattle.replay_core.specs.Keeping.{Kept, Answers, GivesUp, state_of}
use Rattle.replay_core.specs.Outcomes.{is_hit}
use Rattle.replay_core.proofs.Kept.{answered, gives_up}
use Rattle.replay_rank.specs.declared.holdings.Held.{Held}
use Rattle.replay_rank.specs.declared.aging.Ranked.{Ranked}
use Rattle.replay_rank.specs.LfuEntries.{Key}
use Rattle.replay_rank.specs.AgingEntries.{entry_of, entries_of, AreOrdered}
use Rattle.replay_rank.specs.AdmittedEntries.{IsAdmitting, SetsAside, admitted_kept, put_again, stock_freed}
use Rattle.replay_rank.proofs.AgingAnswers.{keeping}
use Rattle.replay_rank.proofs.AdmittedOrdered.{floor-low, rank-low, whole-part}

module _ (objects capacity requests floor in_use : ℕ) (pairs : List (ℕ × Held Ranked)) (items : List (Reverse Key)) (b : IsAdmitting capacity in_use floor pairs items) where
  abbrev before : Kept
  before = keeping objects capacity requests floor (entries_of pairs)

  -- ---- a part of what was held
  part-fit : (entries : List Entry) → IsPart entries (entries_of pairs) → IsFit capacity entries
  part-fit entries part = record {
    room = (let low : used (entries_of pairs) ≤ capacity = b.aging.fits.room in omega (arith, part-used entries (entries_of pairs) part));
    apart = part-apart entries (entries_of pairs) part b.aging.fits.apart;
  }

  pub part-gives : (level : ℕ) (entries : List Entry) → IsPart entries (entries_of pairs) → GivesUp before (keeping objects capacity requests level entries)
  part-gives level entries part =
      gives_up before (keeping objects capacity requests level entries) (part-fit entries part) (λ m c. part-members entries (entries_of pairs) part m c) refl refl

  pub part-admitting : (level now_used : ℕ) (left : List (ℕ × Held Ranked)) (after : List (Reverse Key)) → level ≤ 2 ^ 127 → now_used ≡ used (entries_of left) → IsPart (entries_of left) (entries_of pairs) → AreOrdered left after
      → IsAdmitting capacity now_used level left after
  part-admitting level now_used left after low is part ordered = record {
    aging = record { range = b.aging.range; in_use_is = is; fits = part-fit (entries_of left) part; ordered = ordered };
    low = low;
  }

  -- ---- an object that is not held
  module _ (k size : ℕ) where
    abbrev own : Entry
    own = ranked_entry Gdsf98 floor requests k size

    pub own-high : floor ≤ own.rank
    own-high = floor-low floor (worth_of Gdsf98 size) b.low

    pub own-low : own.rank ≤ 2 ^ 127
    own-low = rank-low floor (worth_of Gdsf98 size)

    -- what is kept, by a stock
    abbrev with_stock : Stock → Kept
    with_stock stock = record { objects = objects; capacity = capacity; now = requests; entries = stock.entries; beside = stock.beside }

    abbrev stock_before : Stock
    stock_before = record { entries = entries_of pairs; beside = floored floor }

    freed-is : freed_for (state_of Gdsf98 before) size ≡ stock_freed floor capacity size pairs
    freed-is = ap (λ n. until_fits age stock_used capacity size n (over_floor floor (entries_of pairs))) (length-map pairs entry_of)

    module _ (level left_used : ℕ) (left aside : List (ℕ × Held Ranked)) (sets : SetsAside own.rank floor level capacity size left_used pairs left aside) where
      pub left-part : IsPart (entries_of left) (entries_of pairs)
      left-part = whole-part aside (entries_of left) (entries_of pairs) sets.again

      -- it comes in
      module _ (after : List (ℕ × Held Ranked)) (put : entries_of after ≡ put_in own (entries_of left)) where
        pub admits : level ≤ own.rank → left_used + size ≤ capacity → keeping objects capacity requests level (entries_of after) ≡ admitted_kept before k size
        admits low fits =
            let entry : List Entry → Stock = λ es. over_floor level es in
            ap (λ es. with_stock (entry es)) put
            ∙ ap (λ t. with_stock (cond t (over_floor level (put_in own (entries_of left))) stock_before)) (sym (le-leb level own.rank low))
            ∙ ap (λ freed. with_stock (admitted_in own stock_before freed)) (sets.fits fits ∙ sym freed-is)

        pub admitted-admitting : (items_after : List (Reverse Key)) → level ≤ own.rank → left_used + size ≤ capacity → left_used ≡ used (entries_of left) → AreOrdered after items_after
            → IsAdmitting capacity (left_used + size) level after items_after
        admitted-admitting items_after low fits is ordered =
            let total : used (entries_of after) ≡ used (entries_of left) + size = ap used put ∙ sum_by-put_in (λ (e : Entry). e.size) (entries_of left) own in
            record {
              aging = record {
                range = b.aging.range;
                in_use_is = omega (arith, total, is);
                fits = record { room = omega (arith, total, is, fits); apart = ordered.apart };
                ordered = ordered;
              };
              low = omega (arith, own-low, low);
            }

      -- it does not
      pub refuses : (entries : List Entry) → entries ≡ put_again aside (entries_of left) → capacity < left_used + size → keeping objects capacity requests floor entries ≡ admitted_kept before k size
      refuses entries same full =
          ap (λ es. with_stock (over_floor floor es)) (same ∙ sets.again)
          ∙ ap (λ t. with_stock (cond t (over_floor (stock_freed floor capacity size pairs).beside.floor (put_in own (stock_freed floor capacity size pairs).entries)) stock_before))
          (sym (lt-leb (stock_freed floor capacity size pairs).beside.floor own.rank (sets.loses full)))
          ∙ ap (λ freed. with_stock (admitted_in own stock_before freed)) (sym freed-is)

-- ---- what is answered
module _ (old : Kept) (k size : ℕ) where
  abbrev own_entry : Entry
  own_entry = ranked_entry Gdsf98 old.beside.floor old.now k size

  abbrev stock_old : Stock
  stock_old = record { entries = old.entries; beside = old.beside }

  abbrev on_hit : Stock
  on_hit = record { entries = change (raised Gdsf98 old.beside.floor old.now) k old.entries; beside = old.beside }

  abbrev on_miss : Stock
  on_miss = admitted_in own_entry stock_old (freed_for (state_of Gdsf98 old) size)

  module _ (new : Kept) (outcome : Outcome) (next : Option ℕ) (stock : Stock) (is : stock_after Gdsf98 (state_of Gdsf98 old) k size next ≡ stock) where
    by-stock : is_hit outcome ≡ has_entry old.entries k → new ≡ record old { now = min (old.now + 1) (2 ^ 64 - 1); entries = stock.entries; beside = stock.beside } → Answers Gdsf98 old new k size next outcome
    by-stock found same =
        answered Gdsf98 old new k size next outcome found (ap (λ (p : Kept). p.objects) same) (ap (λ (p : Kept). p.capacity) same) (ap (λ (p : Kept). p.now) same)
        (ap (λ (p : Kept). p.entries) same ∙ ap (λ (x : Stock). x.entries) (sym is)) (ap (λ (p : Kept). p.beside) same ∙ ap (λ (x : Stock). x.beside) (sym is))

  pub hit-answers : has_entry old.entries k ≡ true → (new : Kept) → new ≡ record old { now = min (old.now + 1) (2 ^ 64 - 1); entries = change (raised Gdsf98 old.beside.floor old.now) k old.entries }
      → (next : Option ℕ) → Answers Gdsf98 old new k size next Hit
  hit-answers there new same next = by-stock new Hit next on_hit (served-hit (state_of Gdsf98 old) k size on_hit on_miss own_entry there) (sym there) same

  pub large-answers : has_entry old.entries k ≡ false → old.capacity < size → (new : Kept) → new ≡ record old { now = min (old.now + 1) (2 ^ 64 - 1) } → (next : Option ℕ) → Answers Gdsf98 old new k size next Miss
  large-answers none large new same next = by-stock new Miss next stock_old (served-large (state_of Gdsf98 old) k size on_hit on_miss own_entry none large) (sym none) same

  pub small-answers : has_entry old.entries k ≡ false → size ≤ old.capacity → (new : Kept) → new ≡ record (admitted_kept old k size) { now = min (old.now + 1) (2 ^ 64 - 1) } → (next : Option ℕ) → Answers Gdsf98 old new k size next Miss
  small-answers none small new same next = by-stock new Miss next on_miss (served-small (state_of Gdsf98 old) k size on_hit on_miss own_entry none small) (sym none) same

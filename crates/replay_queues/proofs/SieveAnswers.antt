-- What SIEVE answers, by its cut.
use Rattle.std.proofs.Common.{◌≡◌, ℕ, ◌+◌, ◌-◌, ◌*◌, ◌^◌, ◌<◌, ◌≤◌, ◌∙◌, sym, refl, ap, subst, Bool, true, false, ◌||◌, cond, eqb, min, List, ◌++◌, length, drop, get_or, set, None, arith}
use Rattle.std.specs.declared.option.Option.{Option}
use Rattle.std.proofs.lemmas.List.{map-append, length-map, length-set}
use Rattle.std.proofs.lemmas.Bool.{eqb-true}
use Rattle.std.proofs.lemmas.List.Sums.{sum_by_push}
use Rattle.std.proofs.Math.Seq.{take-append_seam, drop-append_seam}
use Rattle.policy_model.specs.declared.names.PolicyName.TheVariants.{Sieve}
use Rattle.policy_model.specs.States.{Entry, Stock, State, nothing_beside, has_entry, has_member, members_of, Apart, IsFit}
use Rattle.policy_model.specs.Steps.{until_fits, touched, touch, served}
use Rattle.policy_model.specs.Sieve.{Cut, look, cut_used, cut_of, come_in, stock_of_cut}
use Rattle.policy_model.specs.Leaving.{cut_without}
use Rattle.policy_model.proofs.SieveSound.{cut_entries, cut-used, look-part}
use Rattle.policy_model.proofs.Parts.{part-apart, part-none, part-change, until-part}
use Rattle.policy_model.proofs.RulesSound.{served-hit, served-large, served-small}
use Rattle.policy_model.proofs.Replays.{has_entry-members}
use Rattle.replay_core.specs.declared.policy.Outcome.TheVariants.{Hit, Miss}
use Rattle.replay_core.specs.declared.policy.Outcome.{Outcome}
use Rattle.replay_core.specs.Outcomes.{is_hit}
use Rattle.replay_core.specs.Keeping.{Kept, state_of, Answers, kept_without}
use Rattle.replay_core.proofs.Kept.{answered}
use Rattle.replay_queues.specs.Items.{has_item}
use Rattle.replay_queues.specs.SieveQueues.{is_held, marked_entry, cut_by, behind_items, ahead_items, cut_at, AreHeld, IsHand, with_room, cut_kept, IsCounted}
use Rattle.replay_queues.specs.declared.hand.Hand.{Hand}
use Rattle.replay_queues.proofs.ItemLemmas.{here, other, has_entry-append, changed}
use Rattle.replay_queues.proofs.SieveLemmas.{marked, marked-items, cut-bytes}

-- the bytes tell which objects have an entry
pub held-entry : (cells : List ℕ) (behind ahead : List (ℕ × ℕ)) → AreHeld cells behind ahead → (k : ℕ) → is_held (get_or cells k 0) ≡ has_entry (cut_entries (cut_by cells behind ahead)) k
held-entry cells behind ahead held k =
    held.known k
    ∙ sym (has_entry-append (marked cells behind) (marked cells ahead) k ∙ ap (λ b. b || has_entry (marked cells ahead) k) (marked-items cells behind k) ∙ ap (λ b. has_item behind k || b) (marked-items cells ahead k))

pub held-member : (cells : List ℕ) (behind ahead : List (ℕ × ℕ)) → AreHeld cells behind ahead → (k : ℕ) → is_held (get_or cells k 0) ≡ has_member (members_of (cut_entries (cut_by cells behind ahead))) k
held-member cells behind ahead held k = held-entry cells behind ahead held k ∙ has_entry-members (cut_entries (cut_by cells behind ahead)) k

-- a hit marks an entry of either queue
pub marking : (cells : List ℕ) (k now : ℕ) → k < length cells → (items : List (ℕ × ℕ)) → marked (set cells k 2) items ≡ touch Sieve now None k (marked cells items)
marking cells k now within items = changed marked_entry (λ c p. refl) cells k 2 (touched Sieve now None) within (λ p. refl) items

-- ---- the rule, by the cut
module _ (objects capacity requests : ℕ) (cut : Cut) (k size : ℕ) where
  abbrev before : Kept
  before = cut_kept objects capacity requests cut

  abbrev after : Cut → Kept
  after c = cut_kept objects capacity (min (requests + 1) (2 ^ 64 - 1)) c

  abbrev state : State
  state = state_of Sieve before

  abbrev of : List Entry → List Entry → Cut
  of behind ahead = record { behind = behind; ahead = ahead }

  pub cut-back : cut_of state ≡ cut
  cut-back = ap (λ es. of es (drop (length cut.behind) (cut_entries cut))) (take-append_seam cut.behind cut.ahead) ∙ ap (of cut.behind) (drop-append_seam cut.behind cut.ahead)

  -- what the rule makes of a hit and of a miss
  abbrev hit : Stock
  hit = record { entries = touch Sieve requests None k (cut_entries cut); beside = before.beside }

  abbrev miss : Stock
  miss = stock_of_cut (come_in (marked_entry 1 (k, size)) (until_fits look cut_used capacity size (2 * length (cut_entries cut) + 1) (cut_of state)))

  stock-answers : (c : Cut) (outcome : Outcome) (next : Option ℕ) → is_hit outcome ≡ has_entry (cut_entries cut) k → stock_of_cut c ≡ served state k size hit miss → Answers Sieve before (after c) k size next outcome
  stock-answers c outcome next hits is =
      answered Sieve before (after c) k size next outcome hits refl refl refl (ap (λ (x : Stock). x.entries) is) (ap (λ (x : Stock). x.beside) is)

  pub hit-answers : (c : Cut) → has_entry (cut_entries cut) k ≡ true → c.behind ≡ touch Sieve requests None k cut.behind → c.ahead ≡ touch Sieve requests None k cut.ahead
      → (next : Option ℕ) → Answers Sieve before (after c) k size next Hit
  hit-answers c there behind ahead next =
      let by : Entry → Entry = λ f. cond (eqb f.object k) (record f { mark = true }) f in
      let stock : List Entry → ℕ → Stock = λ entries first. record { entries = entries; beside = record nothing_beside { first = first } } in
      stock-answers c Hit next (sym there)
      (ap (λ es. stock (es ++ c.ahead) (length es)) behind ∙ ap (λ es. stock (touch Sieve requests None k cut.behind ++ es) (length (touch Sieve requests None k cut.behind))) ahead
      ∙ ap (λ es. stock es (length (touch Sieve requests None k cut.behind))) (sym (map-append by cut.behind cut.ahead))
      ∙ ap (stock (touch Sieve requests None k (cut_entries cut))) (length-map cut.behind by)
      ∙ sym (served-hit state k size hit miss (marked_entry 1 (k, size)) there))

  module _ (none : has_entry (cut_entries cut) k ≡ false) where
    pub large-answers : capacity < size → (next : Option ℕ) → Answers Sieve before (after cut) k size next Miss
    large-answers large next = stock-answers cut Miss next (sym none) (sym (served-large state k size hit miss (marked_entry 1 (k, size)) none large))

    pub miss-answers : size ≤ capacity → (c left : Cut) → left ≡ with_room capacity size cut → c ≡ come_in (marked_entry 1 (k, size)) left → (next : Option ℕ) → Answers Sieve before (after c) k size next Miss
    miss-answers small c left freed put next =
        stock-answers c Miss next (sym none)
        (ap stock_of_cut (put ∙ ap (come_in (marked_entry 1 (k, size))) (freed ∙ ap (until_fits look cut_used capacity size (2 * length (cut_entries cut) + 1)) (sym cut-back))) ∙ sym (served-small state k size hit miss (marked_entry 1 (k, size)) none small))

-- ---- what holds of the fields
pub cut-fit : (objects capacity in_use : ℕ) (h : Hand) → IsCounted objects capacity in_use h → IsFit capacity (cut_entries (cut_at h))
cut-fit objects capacity in_use h is = record {
  room = (let fits : in_use ≤ capacity = is.fits in let counted : in_use ≡ cut_used (cut_at h) = is.in_use_is in omega (arith, cut-used (cut_at h)));
  apart = is.held.are.apart;
}

module _ (objects capacity requests in_use : ℕ) (h : Hand) (is : IsCounted objects capacity in_use h) (k : ℕ) (within : k < length h.table) (there : is_held (get_or h.table k 0) ≡ true) where
  abbrev pub marked_hand : Hand
  marked_hand = record h { table = set h.table k 2 }

  pub marked-behind : (cut_at marked_hand).behind ≡ touch Sieve requests None k (cut_at h).behind
  marked-behind = marking h.table k requests within (behind_items h)

  pub marked-ahead : (cut_at marked_hand).ahead ≡ touch Sieve requests None k (cut_at h).ahead
  marked-ahead = marking h.table k requests within (ahead_items h)

  marked-apart : Apart (cut_entries (cut_at marked_hand))
  marked-apart =
      let by : Entry → Entry = λ f. cond (eqb f.object k) (record f { mark = true }) f in
      subst Apart
      (map-append by (cut_at h).behind (cut_at h).ahead ∙ ap (λ es. es ++ touch Sieve requests None k (cut_at h).ahead) (sym marked-behind) ∙ ap (λ es. (cut_at marked_hand).behind ++ es) (sym marked-ahead))
      (part-apart (touch Sieve requests None k (cut_entries (cut_at h))) (cut_entries (cut_at h)) (part-change (λ e. record e { mark = true }) (λ e. refl) (λ e. refl) k (cut_entries (cut_at h))) is.held.are.apart)

  marked-known : (q : ℕ) (b : Bool) → eqb q k ≡ b → is_held (get_or (set h.table k 2) q 0) ≡ is_held (get_or h.table q 0)
  marked-known q true e =
      let same : q ≡ k = eqb-true q k e in
      ap (λ j. is_held (get_or (set h.table k 2) j 0)) same ∙ ap is_held (here h.table k 2 within) ∙ sym there ∙ ap (λ j. is_held (get_or h.table j 0)) (sym same)
  marked-known q false e = ap is_held (other h.table k 2 q e)

  pub marked-counted : IsCounted objects capacity in_use marked_hand
  marked-counted = record {
    range = is.range;
    within = subst (λ n. n ≤ objects) (sym (length-set h.table k 2)) is.within;
    in_use_is = is.in_use_is ∙ cut-bytes h.table (behind_items h) (ahead_items h) ∙ sym (cut-bytes (set h.table k 2) (behind_items h) (ahead_items h));
    fits = is.fits;
    held = record {
      are = record { apart = marked-apart; known = λ q. marked-known q (eqb q k) refl ∙ is.held.are.known q };
      next_is = is.held.next_is;
      each_object = length-set h.table k 2 ∙ is.held.each_object;
    };
  }

-- an object that is not held isn't after room was made
pub still_absent : (h left : Hand) (capacity size : ℕ) → AreHeld h.table (behind_items h) (ahead_items h) → AreHeld left.table (behind_items left) (ahead_items left) → cut_at left ≡ with_room capacity size (cut_at h)
    → (k : ℕ) → is_held (get_or h.table k 0) ≡ false → is_held (get_or left.table k 0) ≡ false
still_absent h left capacity size held after freed k absent =
    held-entry left.table (behind_items left) (ahead_items left) after k ∙ ap (λ c. has_entry (cut_entries c) k) freed
    ∙ part-none k (cut_entries (with_room capacity size (cut_at h))) (cut_entries (cut_at h)) (until-part look cut_used capacity size cut_entries look-part (2 * length (cut_entries (cut_at h)) + 1) (cut_at h))
    (sym (held-entry h.table (behind_items h) (ahead_items h) held k) ∙ absent)

-- the answer, from the value that is seen of the fields
pub from_view : (old : Kept) (objects capacity requests n : ℕ) (cut after : Cut) (k size : ℕ) (outcome : Outcome) → cut_kept objects capacity requests cut ≡ old → n ≡ min (requests + 1) (2 ^ 64 - 1)
    → ((next : Option ℕ) → Answers Sieve (cut_kept objects capacity requests cut) (cut_kept objects capacity (min (requests + 1) (2 ^ 64 - 1)) after) k size next outcome)
    → (next : Option ℕ) → Answers Sieve old (cut_kept objects capacity n after) k size next outcome
from_view old objects capacity requests n cut after k size outcome view now answers next =
    subst (λ (p : Kept). Answers Sieve p (cut_kept objects capacity n after) k size next outcome) view
    (subst (λ (m : ℕ). Answers Sieve (cut_kept objects capacity requests cut) (cut_kept objects capacity m after) k size next outcome) (sym now) (answers next))

-- an object that came in after room was made
pub came-ahead : (objects capacity in_use more size : ℕ) (h left after : Hand) → IsCounted objects capacity in_use h → length after.table ≡ length h.table → IsHand after
    → (k : ℕ) → cut_at after ≡ come_in (marked_entry 1 (k, size)) (cut_at left) → more ≡ cut_used (cut_at left) → more + size ≤ capacity → IsCounted objects capacity (more + size) after
came-ahead objects capacity in_use more size h left after is table held k put counted fits = record {
  range = is.range;
  within = subst (λ n. n ≤ objects) (sym table) is.within;
  in_use_is = omega (arith, ap cut_used put, sum_by_push (λ (e : Entry). e.size) (cut_at left).ahead (marked_entry 1 (k, size)));
  fits = fits;
  held = held;
}

-- ---- an object that is let go of
pub left-counted : (objects capacity in_use left : ℕ) (h after : Hand) → IsCounted objects capacity in_use h → length after.table ≡ length h.table → IsHand after → cut_used (cut_at after) + left ≡ cut_used (cut_at h)
    → IsCounted objects capacity (in_use - left) after
left-counted objects capacity in_use left h after is table held freed =
    let counted : in_use ≡ cut_used (cut_at h) = is.in_use_is in
    let fits : in_use ≤ capacity = is.fits in
    record { range = is.range; within = subst (λ n. n ≤ objects) (sym table) is.within; in_use_is = omega arith; fits = omega arith; held = held }

pub kept-left : (k : ℕ) (old : Kept) (objects capacity requests : ℕ) (cut after : Cut) → cut_kept objects capacity requests cut ≡ old → after ≡ cut_without k cut → cut_kept objects capacity requests after ≡ kept_without Sieve old k
kept-left k old objects capacity requests cut after view is =
    ap (cut_kept objects capacity requests) (is ∙ ap (cut_without k) (sym (cut-back objects capacity requests cut k 0)))
    ∙ ap (λ p. kept_without Sieve p k) view

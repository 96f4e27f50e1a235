-- What CLOCK answers, by the cut of its circle.
use Rattle.std.proofs.Common.{◌≡◌, ℕ, ◌+◌, ◌-◌, ◌^◌, ◌<◌, ◌≤◌, ◌∙◌, sym, refl, ap, subst, true, false, cond, eqb, min, [], ◌∷◌, ◌++◌, length, get_or, append_assoc, None, arith}
use Rattle.std.specs.declared.option.Option.{Option}
use Rattle.std.proofs.lemmas.List.{map-append}
use Rattle.std.proofs.lemmas.List.Sums.{sum_by_push}
use Rattle.policy_model.specs.declared.names.PolicyName.TheVariants.{Sieve, Clock}
use Rattle.policy_model.specs.States.{Entry, State, used, has_entry, has_member, members_of, IsFit}
use Rattle.policy_model.specs.Steps.{touch}
use Rattle.policy_model.specs.Sieve.{Cut, cut_used}
use Rattle.policy_model.specs.Leaving.{cut_without}
use Rattle.policy_model.proofs.Replays.{has_entry-members}
use Rattle.policy_model.proofs.Sound.{after-hit, after-large, after-small}
use Rattle.replay_core.specs.declared.policy.Outcome.TheVariants.{Hit, Miss}
use Rattle.replay_core.specs.declared.policy.Outcome.{Outcome}
use Rattle.replay_core.specs.Keeping.{Kept, state_of, Answers, kept_without}
use Rattle.replay_core.proofs.Kept.{answered}
use Rattle.replay_core.proofs.Leavings.{plain-left}
use Rattle.replay_queues.specs.Circles.{circle_of, circle_kept}
use Rattle.replay_queues.specs.SieveQueues.{is_held, marked_entry, behind_items, ahead_items, cut_at, IsHand, with_room, IsCounted}
use Rattle.replay_queues.specs.declared.hand.Hand.{Hand}
use Rattle.replay_queues.proofs.ClockLemmas.{circle-has, circle-fit, circle-without, circle-room}
use Rattle.replay_queues.proofs.SieveAnswers.{held-entry, cut-fit}

-- ---- the rule, by the cut
module _ (objects capacity requests : ℕ) (cut : Cut) (k size : ℕ) where
  abbrev before : Kept
  before = circle_kept objects capacity requests cut

  abbrev after : Cut → Kept
  after c = circle_kept objects capacity (min (requests + 1) (2 ^ 64 - 1)) c

  abbrev state : State
  state = state_of Clock before

  pub hit-answers : (c : Cut) → has_entry (circle_of cut) k ≡ true → c.behind ≡ touch Sieve requests None k cut.behind → c.ahead ≡ touch Sieve requests None k cut.ahead
      → (next : Option ℕ) → Answers Clock before (after c) k size next Hit
  hit-answers c there behind ahead next =
      let by : Entry → Entry = λ f. cond (eqb f.object k) (record f { mark = true }) f in
      answered Clock before (after c) k size next Hit (sym there) refl refl refl
      (ap (λ es. es ++ c.behind) ahead ∙ ap (λ es. touch Sieve requests None k cut.ahead ++ es) behind ∙ sym (map-append by cut.ahead cut.behind) ∙ sym (after-hit state k size next there)) refl

  module _ (none : has_entry (circle_of cut) k ≡ false) where
    pub large-answers : capacity < size → (next : Option ℕ) → Answers Clock before (after cut) k size next Miss
    large-answers large next = answered Clock before (after cut) k size next Miss (sym none) refl refl refl (sym (after-large state k size next none large)) refl

    pub miss-answers : size ≤ capacity → (c left : Cut) → left ≡ with_room capacity size cut → c.behind ≡ left.behind ++ marked_entry 1 (k, size) ∷ [] → c.ahead ≡ left.ahead
        → (next : Option ℕ) → Answers Clock before (after c) k size next Miss
    miss-answers small c left freed behind ahead next =
        answered Clock before (after c) k size next Miss (sym none) refl refl refl
        (came ∙ ap (λ es. es ++ marked_entry 1 (k, size) ∷ []) (ap circle_of freed ∙ circle-room capacity size small cut) ∙ sym (after-small state k size next none small)) refl
      where
        came : circle_of c ≡ circle_of left ++ marked_entry 1 (k, size) ∷ []
        came = ap (λ es. es ++ c.behind) ahead ∙ ap (λ es. left.ahead ++ es) behind ∙ sym (append_assoc left.ahead left.behind (marked_entry 1 (k, size) ∷ []))

-- ---- what holds of the fields
pub circle-fits : (objects capacity in_use : ℕ) (h : Hand) → IsCounted objects capacity in_use h → IsFit capacity (circle_of (cut_at h))
circle-fits objects capacity in_use h is = circle-fit capacity (cut_at h) (cut-fit objects capacity in_use h is)

-- the bytes tell which objects have an entry
pub circle-entry : (h : Hand) → IsHand h → (k : ℕ) → is_held (get_or h.table k 0) ≡ has_entry (circle_of (cut_at h)) k
circle-entry h is k = held-entry h.table (behind_items h) (ahead_items h) is.are k ∙ sym (circle-has (cut_at h) k)

pub circle-member : (h : Hand) → IsHand h → (k : ℕ) → is_held (get_or h.table k 0) ≡ has_member (members_of (circle_of (cut_at h))) k
circle-member h is k = circle-entry h is k ∙ has_entry-members (circle_of (cut_at h)) k

-- the answer, from the value that is seen of the fields
pub from_view : (old : Kept) (objects capacity requests n : ℕ) (cut after : Cut) (k size : ℕ) (outcome : Outcome) → circle_kept objects capacity requests cut ≡ old → n ≡ min (requests + 1) (2 ^ 64 - 1)
    → ((next : Option ℕ) → Answers Clock (circle_kept objects capacity requests cut) (circle_kept objects capacity (min (requests + 1) (2 ^ 64 - 1)) after) k size next outcome)
    → (next : Option ℕ) → Answers Clock old (circle_kept objects capacity n after) k size next outcome
from_view old objects capacity requests n cut after k size outcome view now answers next =
    subst (λ (p : Kept). Answers Clock p (circle_kept objects capacity n after) k size next outcome) view
    (subst (λ (m : ℕ). Answers Clock (circle_kept objects capacity requests cut) (circle_kept objects capacity m after) k size next outcome) (sym now) (answers next))

-- an object that came in behind the hand after room was made
pub came-behind : (objects capacity in_use more size : ℕ) (h left after : Hand) → IsCounted objects capacity in_use h → length after.table ≡ length h.table → IsHand after
    → (k : ℕ) → (cut_at after).behind ≡ (cut_at left).behind ++ marked_entry 1 (k, size) ∷ [] → (cut_at after).ahead ≡ (cut_at left).ahead → more ≡ cut_used (cut_at left) → more + size ≤ capacity
    → IsCounted objects capacity (more + size) after
came-behind objects capacity in_use more size h left after is table held k behind ahead counted fits = record {
  range = is.range;
  within = subst (λ n. n ≤ objects) (sym table) is.within;
  in_use_is = omega (
    arith,
    counted,
    ap (λ es. used es) behind,
    ap (λ es. used es) ahead,
    sum_by_push (λ (e : Entry). e.size) (cut_at left).behind (marked_entry 1 (k, size)),
  );
  fits = fits;
  held = held;
}

-- ---- an object that is let go of
pub kept-left : (k : ℕ) (old : Kept) (objects capacity requests : ℕ) (cut after : Cut) → circle_kept objects capacity requests cut ≡ old → after ≡ cut_without k cut
    → circle_kept objects capacity requests after ≡ kept_without Clock old k
kept-left k old objects capacity requests cut after view is =
    plain-left Clock (λ s j. refl) (circle_kept objects capacity requests cut) old k (circle_of after) view (ap circle_of is ∙ circle-without k cut)

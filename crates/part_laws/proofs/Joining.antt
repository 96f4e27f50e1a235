-- Contents of two parts, one after the other.
use Rattle.std.proofs.Common.{◌≡◌, ◌∙◌, ℕ, ◌+◌, ◌-◌, ◌<◌, ◌≤◌, ⊎_elim, sym, refl, ap, Bool, nat_le, List, [], ◌∷◌, ◌++◌, length, arith, sum_by, take, flat_map}
use Rattle.std.specs.List.{range_with_len}
use Rattle.std.proofs.lemmas.Bool.{cases_lt, le-leb, lt-leb}
use Rattle.std.proofs.lemmas.List.{get_or_append_left, get_or-append-add, get_or-take, length-append, length-take-le}
use Rattle.std.proofs.lemmas.List.Elements.{All-head, All-tail}
use Rattle.cache_model.specs.declared.objects.Object.{Object}
use Rattle.cache_model.specs.declared.objects.Objective.{Objective}
use Rattle.cache_model.specs.Claim.{before_request, request_at, no_object, only_fills, IsAllowed, score, terms_from}
use Rattle.part_laws.specs.Laws.{marks_of, one_after_the_other, AreJoined, PartsAreAllowed, FilledPart, score_of_parts, IsReached, LowerBoundsAddUp}
use Rattle.part_laws.proofs.Moves.{Moves, emptied, moves_of_allowed, allowed_of_moves}
use Rattle.part_laws.proofs.Marks.{length-marks_of, marks-within, marks-behind}
use Rattle.part_laws.proofs.Ranges.{sum_by-range_split, sum_by-range_alike}
use Rattle.part_laws.proofs.Adding.{adds, scored_at}

-- the last move of the first part empties the cache
emptied_between : (c : ℕ) (r : Object) (a b held : List Object) (nexts : List (List Object)) (start : List Object) (others : List (List Object))
    → start ≡ [] → Moves c held (r ∷ a) nexts → Moves c start b others → Moves c held (r ∷ (a ++ b)) (take (length a) nexts ++ start ∷ others)
emptied_between c r a b held [] start others empty moves more = absurd moves
emptied_between c r [] b held (next ∷ nexts) start others empty moves more = (emptied c held r start empty, more)
emptied_between c r (s ∷ a) b held (next ∷ nexts) start others empty moves more = (moves.0, emptied_between c s a b next nexts start others empty moves.1 more)

joined : (c : ℕ) (a b : List Object) (contents : List (List Object)) (start : List Object) (others : List (List Object))
    → IsAllowed c a contents → IsAllowed c b (start ∷ others) → IsAllowed c (a ++ b) (one_after_the_other a contents (start ∷ others))
joined c [] b contents start others first more = more
joined c (r ∷ a) b [] start others first more = absurd (omega (arith, first.one_more_than_requests))
joined c (r ∷ a) b (held ∷ nexts) start others first more =
    allowed_of_moves c (r ∷ (a ++ b)) held (take (length a) nexts ++ start ∷ others) first.empty_at_first
    (emptied_between c r a b held nexts start others more.empty_at_first (moves_of_allowed c (r ∷ a) held nexts first) (moves_of_allowed c b start others more))

-- of a warm-up there is left what doesn't fall into the first n requests
past-rest : (warmup n j : ℕ) → nat_le warmup (n + j) ≡ nat_le (warmup - n) j
past-rest warmup n j =
    ⊎_elim (λ (early : n + j < warmup). lt-leb warmup (n + j) early ∙ sym (lt-leb (warmup - n) j (omega arith)))
    (λ (late : warmup ≤ n + j). le-leb warmup (n + j) late ∙ sym (le-leb (warmup - n) j (omega arith)))
    (cases_lt (n + j) warmup)

module _ (o : Objective) (c w : ℕ) (a b : List Object) (contents others : List (List Object)) (fills marks : List Bool) (long : length contents ≡ length a + 1) where
  -- what a request of the two adds
  added : ℕ → ℕ
  added = scored_at (terms_from o c w (marks_of a fills ++ marks)) (a ++ b) (one_after_the_other a contents others)

  -- a request of the first part adds what it does there
  added_first : (t : ℕ) → t < length a → added t ≡ scored_at (terms_from o c w fills) a contents t
  unfolding added
  added_first t low =
      let past : Bool = nat_le w t in
      let enough : length (take (length a) contents) ≡ length a = length-take-le (length a) contents (omega arith) in
      let held : before_request (one_after_the_other a contents others) t ≡ before_request contents t =
      get_or_append_left (take (length a) contents) others [] t (omega arith) ∙ get_or-take (length a) contents t [] low in
      ap (λ m. adds o past m (before_request (one_after_the_other a contents others) t) (request_at (a ++ b) t)) (marks-within a fills marks t low)
      ∙ ap (λ h. adds o past (only_fills fills t) h (request_at (a ++ b) t)) held
      ∙ ap (adds o past (only_fills fills t) (before_request contents t)) (get_or_append_left a b no_object t low)

  -- and so does one of the second
  added_then : (j : ℕ) → added (length a + j) ≡ scored_at (terms_from o c (w - length a) marks) b others j
  unfolding added
  added_then j =
      let t : ℕ = length a + j in
      let enough : length (take (length a) contents) ≡ length a = length-take-le (length a) contents (omega arith) in
      let held : before_request (one_after_the_other a contents others) t ≡ before_request others j =
      ap (λ n. before_request (one_after_the_other a contents others) (n + j)) (sym enough) ∙ get_or-append-add (take (length a) contents) others j [] in
      ap (λ past. adds o past (only_fills (marks_of a fills ++ marks) t) (before_request (one_after_the_other a contents others) t) (request_at (a ++ b) t)) (past-rest w (length a) j)
      ∙ ap (λ m. adds o (nat_le (w - length a) j) m (before_request (one_after_the_other a contents others) t) (request_at (a ++ b) t)) (marks-behind (marks_of a fills) marks (length a) j (length-marks_of a fills))
      ∙ ap (λ h. adds o (nat_le (w - length a) j) (only_fills marks j) h (request_at (a ++ b) t)) held
      ∙ ap (adds o (nat_le (w - length a) j) (only_fills marks j) (before_request others j)) (get_or-append-add a b j no_object)

  -- the two sums
  score-joined : score (terms_from o c w (marks_of a fills ++ marks)) (a ++ b) (one_after_the_other a contents others)
      ≡ score (terms_from o c w fills) a contents + score (terms_from o c (w - length a) marks) b others
  unfolding added
  score-joined =
      omega (
        arith,
        ap (λ n. sum_by added (range_with_len 0 n)) (length-append a b),
        sum_by-range_split added 0 (length a) (length b),
        sum_by-range_alike added (scored_at (terms_from o c w fills) a contents) 0 0 (length a) (λ j low. added_first (0 + j) (omega arith)),
        sum_by-range_alike added (scored_at (terms_from o c (w - length a) marks) b others) (0 + length a) 0 (length b)
            (λ j low.
            let place : 0 + length a + j ≡ length a + j = omega arith in
            let there : j ≡ 0 + j = omega arith in
            ap added place ∙ added_then j ∙ ap (scored_at (terms_from o c (w - length a) marks) b others) there),
      )

pub parts_are_allowed : PartsAreAllowed
parts_are_allowed c a b contents [] first more = absurd (omega (arith, more.one_more_than_requests))
parts_are_allowed c a b contents (start ∷ others) first more = record {
  allowed = joined c a b contents start others first more;
  scores = λ objective warmup fills marks. score-joined objective c warmup a b contents (start ∷ others) fills marks first.one_more_than_requests;
}

-- the parts one after another, from the last one on
pub lower_bounds_add_up : LowerBoundsAddUp
lower_bounds_add_up objective c warmup [] allowed = record {
  contents = [] ∷ [];
  allowed = allowed_of_moves c [] [] [] refl tt;
  score_is = refl;
}
lower_bounds_add_up objective c warmup (p ∷ parts) allowed =
    let requests : List Object = flat_map (λ (q : FilledPart). q.requests) parts in
    let marks : List Bool = flat_map (λ (q : FilledPart). marks_of q.requests q.fills) parts in
    let rest : IsReached (terms_from objective c (warmup - length p.requests) marks) requests (score_of_parts objective c (warmup - length p.requests) parts) =
    lower_bounds_add_up objective c (warmup - length p.requests) parts (All-tail (λ (q : FilledPart). IsAllowed c q.requests q.contents) p parts allowed) in
    let both : AreJoined c p.requests requests p.contents rest.contents =
    parts_are_allowed c p.requests requests p.contents rest.contents (All-head (λ (q : FilledPart). IsAllowed c q.requests q.contents) p parts allowed) rest.allowed in
    record {
      contents = one_after_the_other p.requests p.contents rest.contents;
      allowed = both.allowed;
      score_is = both.scores objective warmup p.fills marks ∙ ap (λ n. score (terms_from objective c warmup p.fills) p.requests p.contents + n) rest.score_is;
    }

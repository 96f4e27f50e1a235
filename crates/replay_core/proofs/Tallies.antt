-- The tally of a policy, request by request.
use Rattle.std.proofs.Common.{◌≡◌, ℕ, ◌+◌, ◌≤◌, ◌∙◌, sym, refl, ap, subst, Bool, true, false, not, ◌&&◌, cond, leb, List, [], Some, None, IfSome, add-zero, arith}
use Rattle.std.specs.declared.option.Option.{Option}
use Rattle.std.proofs.lemmas.Bool.{le-leb}
use Rattle.cache_model.specs.Claim.{counts_past, only_fills}
use Rattle.replay_core.specs.Laws.{CountsAnswer, IsTallied, Tally}

pub tally-none : (first : Option Tally) (warmup : ℕ) (fills : List Bool) → IfSome first (λ n. IsTallied n first 0 warmup fills 0)
tally-none None warmup fills = tt
tally-none (Some n) warmup fills = record {
  tally = n;
  kept = refl;
  each_answered = sym (add-zero n.requests);
  no_more = omega arith;
  all_counted = λ every unmarked. add-zero n.hits;
}

-- what counts is a hit
counts_le : (a hit : Bool) → cond (a && hit) 1 0 ≤ cond hit 1 0
counts_le true hit = omega arith
counts_le false true = omega arith
counts_le false false = omega arith

-- each request counts without a warm-up and marks
all_count : (warmup t : ℕ) (fills : List Bool) → warmup ≡ 0 → fills ≡ [] → counts_past warmup fills t ≡ true
all_count warmup t fills every unmarked =
    ap (λ m. leb m t && not (only_fills fills t)) every ∙ ap (λ f. leb 0 t && not (only_fills f t)) unmarked ∙ ap (λ b. b && not (only_fills [] t)) (le-leb 0 t (omega arith))

pub tally-more : (first now after : Option Tally) (t warmup : ℕ) (fills : List Bool) (hits more : ℕ) (hit : Bool)
    → IfSome first (λ n. IsTallied n now t warmup fills hits)
    → CountsAnswer now after hit
    → more ≡ hits + cond (counts_past warmup fills t && hit) 1 0
    → IfSome first (λ n. IsTallied n after (t + 1) warmup fills more)
tally-more None now after t warmup fills hits more hit so_far one is = tt
tally-more (Some n) now after t warmup fills hits more hit so_far one is =
    let m : Tally = so_far.tally in
    let counted : CountsAnswer (Some m) after hit = subst (λ o. CountsAnswer o after hit) so_far.kept one in
    let low : n.hits + hits ≤ m.hits = so_far.no_more in
    record {
      tally = record { requests = m.requests + 1; hits = m.hits + cond hit 1 0 };
      kept = counted;
      each_answered = (let same : m.requests ≡ n.requests + t = so_far.each_answered in omega arith);
      no_more = omega (arith, is, counts_le (counts_past warmup fills t) hit);
      all_counted = λ every unmarked.
          let same : n.hits + hits ≡ m.hits = so_far.all_counted every unmarked in
          omega (arith, is, ap (λ b. cond {A = ℕ} (b && hit) 1 0) (all_count warmup t fills every unmarked));
    }

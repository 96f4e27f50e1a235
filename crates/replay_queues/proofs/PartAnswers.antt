-- What is known of three parts by their value, and the first of a part as it leaves.
use Rattle.std.proofs.Common.{◌≡◌, ℕ, ◌+◌, ◌<◌, ◌∙◌, sym, ap, subst, Bool, false, not, cond, List, ◌∷◌, ◌++◌, drop, append_assoc, arith}
use Rattle.std.proofs.lemmas.Bool.{eq-eqb, or_parts, or_from}
use Rattle.std.proofs.lemmas.List.Sums.{sum_by-cons}
use Rattle.policy_model.specs.States.{Member, member, has_member, members_size}
use Rattle.policy_model.specs.Leaving.{without_member}
use Rattle.replay_queues.specs.Lines.{Lined, first_of}
use Rattle.replay_queues.specs.ThreeParts.{Parted, has_part, parts_without, parts_size, parts_of, Once, IsParts}
use Rattle.replay_queues.proofs.LineLemmas.{members-but-none, has_member-append, has_member-gone}
use Rattle.replay_queues.proofs.PartLemmas.{once-back, once-middle, line-parts, has-parts, main-first}

-- ---- by the value of the parts
module _ (l : Lined) (main ghosts : ℕ) (places : List ℕ) (is : IsParts l main ghosts places) (old : Parted) (view : parts_of l main ghosts ≡ old) where
  pub view-has : (k : ℕ) (t : Bool) → has_part old k ≡ t → has_member l.members k ≡ t
  view-has k t e = sym (has-parts l main ghosts places is k) ∙ ap (λ p. has_part p k) view ∙ e

  pub view-once : Once (old.small ++ (old.main ++ old.ghosts))
  view-once = subst (λ (p : Parted). Once (p.small ++ (p.main ++ p.ghosts))) view (subst Once (line-parts l main ghosts places is) is.once)

  pub view-within : (k : ℕ) → k < old.objects → k < l.objects
  view-within k low = subst (λ (p : Parted). k < p.objects) (sym view) low

  pub view-small : first_of l.objects l.members ≡ first_of old.objects (old.small ++ (old.main ++ old.ghosts))
  view-small = ap (first_of l.objects) (line-parts l main ghosts places is) ∙ ap (λ (p : Parted). first_of p.objects (p.small ++ (p.main ++ p.ghosts))) view

  pub view-main : main ≡ first_of old.objects (old.main ++ old.ghosts)
  view-main = main-first l main ghosts places is ∙ ap (λ (p : Parted). first_of p.objects (p.main ++ p.ghosts)) view

  pub view-ghosts : ghosts ≡ first_of old.objects old.ghosts
  view-ghosts = is.ghosts_is ∙ ap (λ (p : Parted). first_of p.objects p.ghosts) view

-- ---- the first of a part leaves
module _ (q : Parted) (once : Once (q.small ++ (q.main ++ q.ghosts))) (k size : ℕ) (new : Parted) (left : new ≡ parts_without k q) (sizes : parts_size new + size ≡ parts_size q) where
  pub popped-absent : has_part new k ≡ false
  popped-absent =
      ap (λ p. has_part p k) left
      ∙ or_from _ _ (has_member-gone k q.small) (or_from _ _ (has_member-gone k q.main) (has_member-gone k q.ghosts))

  abbrev of : List Member → List Member → List Member → Parted
  of x y z = record { objects = q.objects; small = x; main = y; ghosts = z; room = q.room }

  -- what is left of a part that it was the first of
  head-gone : (x : Member) (rest ms : List Member) → ms ≡ x ∷ rest → x.object ≡ k → has_member rest k ≡ false → without_member k ms ≡ rest
  head-gone x rest ms is same alone = ap (without_member k) is ∙ ap (λ t. cond (not t) (x ∷ without_member k rest) (without_member k rest)) (eq-eqb x.object k same) ∙ members-but-none k rest alone

  new-as : (s m g : List Member) → without_member k q.small ≡ s → without_member k q.main ≡ m → without_member k q.ghosts ≡ g → new ≡ of s m g
  new-as s m g s_is m_is g_is =
      left ∙ ap (λ ms. of ms (without_member k q.main) (without_member k q.ghosts)) s_is ∙ ap (λ ms. of s ms (without_member k q.ghosts)) m_is ∙ ap (of s m) g_is

  head-is : (x : Member) (rest ms : List Member) → ms ≡ x ∷ rest → x.object ≡ k → x.size ≡ size → ms ≡ member k size ∷ rest
  head-is x rest ms is same size_is = is ∙ ap (λ o. member o x.size ∷ rest) same ∙ ap (λ n. member k n ∷ rest) size_is

  module _ (x : Member) (rest : List Member) (same : x.object ≡ k) where
    pub popped-small : q.small ≡ x ∷ rest → (q.small ≡ member k size ∷ new.small) × (new ≡ record q { small = drop 1 q.small })
    popped-small is =
        let later : has_member (rest ++ (q.main ++ q.ghosts)) k ≡ false = ap (has_member (rest ++ (q.main ++ q.ghosts))) (sym same) ∙ (subst (λ ms. Once (ms ++ (q.main ++ q.ghosts))) is once).0 in
        let alone : (has_member rest k ≡ false) × (has_member (q.main ++ q.ghosts) k ≡ false) = or_parts _ _ (sym (has_member-append rest (q.main ++ q.ghosts) k) ∙ later) in
        let others : (has_member q.main k ≡ false) × (has_member q.ghosts k ≡ false) = or_parts _ _ (sym (has_member-append q.main q.ghosts k) ∙ alone.1) in
        let new_is : new ≡ of rest q.main q.ghosts = new-as rest q.main q.ghosts (head-gone x rest q.small is same alone.0) (members-but-none k q.main others.0) (members-but-none k q.ghosts others.1) in (
          head-is x rest q.small is same (omega (arith, sizes, ap parts_size new_is, ap members_size is, sum_by-cons (λ (m : Member). m.size) x rest)) ∙ ap (λ (p : Parted). member k size ∷ p.small) (sym new_is),
          new_is ∙ ap (λ ms. of (drop 1 ms) q.main q.ghosts) (sym is),
        )

    pub popped-main : q.main ≡ x ∷ rest → (q.main ≡ member k size ∷ new.main) × (new ≡ record q { main = drop 1 q.main })
    popped-main is =
        let all : Once (q.small ++ (x ∷ rest ++ q.ghosts)) = subst (λ ms. Once (q.small ++ (ms ++ q.ghosts))) is once in
        let small : has_member q.small k ≡ false = ap (has_member q.small) (sym same) ∙ once-middle q.small x (rest ++ q.ghosts) all in
        let later : has_member (rest ++ q.ghosts) k ≡ false = ap (has_member (rest ++ q.ghosts)) (sym same) ∙ (once-back q.small (x ∷ rest ++ q.ghosts) all).0 in
        let alone : (has_member rest k ≡ false) × (has_member q.ghosts k ≡ false) = or_parts _ _ (sym (has_member-append rest q.ghosts k) ∙ later) in
        let new_is : new ≡ of q.small rest q.ghosts = new-as q.small rest q.ghosts (members-but-none k q.small small) (head-gone x rest q.main is same alone.0) (members-but-none k q.ghosts alone.1) in (
          head-is x rest q.main is same (omega (arith, sizes, ap parts_size new_is, ap members_size is, sum_by-cons (λ (m : Member). m.size) x rest)) ∙ ap (λ (p : Parted). member k size ∷ p.main) (sym new_is),
          new_is ∙ ap (λ ms. of q.small (drop 1 ms) q.ghosts) (sym is),
        )

    pub popped-ghost : q.ghosts ≡ x ∷ rest → (q.ghosts ≡ member k size ∷ new.ghosts) × (new ≡ record q { ghosts = drop 1 q.ghosts })
    popped-ghost is =
        let all : Once ((q.small ++ q.main) ++ x ∷ rest) = subst Once (sym (append_assoc q.small q.main (x ∷ rest))) (subst (λ ms. Once (q.small ++ (q.main ++ ms))) is once) in
        let first : has_member (q.small ++ q.main) k ≡ false = ap (has_member (q.small ++ q.main)) (sym same) ∙ once-middle (q.small ++ q.main) x rest all in
        let others : (has_member q.small k ≡ false) × (has_member q.main k ≡ false) = or_parts _ _ (sym (has_member-append q.small q.main k) ∙ first) in
        let alone : has_member rest k ≡ false = ap (has_member rest) (sym same) ∙ (once-back (q.small ++ q.main) (x ∷ rest) all).0 in
        let new_is : new ≡ of q.small q.main rest = new-as q.small q.main rest (members-but-none k q.small others.0) (members-but-none k q.main others.1) (head-gone x rest q.ghosts is same alone) in (
          head-is x rest q.ghosts is same (omega (arith, sizes, ap parts_size new_is, ap members_size is, sum_by-cons (λ (m : Member). m.size) x rest)) ∙ ap (λ (p : Parted). member k size ∷ p.ghosts) (sym new_is),
          new_is ∙ ap (λ ms. of q.small q.main (drop 1 ms)) (sym is),
        )

use Rattle.std.proofs.Common.{◌≡◌, ℕ, ◌∙◌, sym, refl, ap, ◌∷◌, drop, leb, arith}
use Rattle.std.proofs.lemmas.Bool.{ne_eqb, le-leb, lt-leb}
use Rattle.policy_model.specs.States.{member}
use Rattle.replay_queues.specs.Lines.{from_object}
use Rattle.replay_queues.specs.SieveQueues.{cut_at, IsHand}
use Rattle.replay_queues.specs.declared.hand.Hand.{Hand}
use Rattle.replay_queues.proofs.HandLemmas.{held-line, cut-size, none-look, some-ahead, there, pass-cut, pass-hand, dropped-cut}
use Rattle.replay_queues.proofs.hand.Hand.pass.Goals as goal

-- what is ahead begins with the next
some : (h : Hand) (held : IsHand h) (none : ℕ) → none ≡ h.line.objects → (h.next ≡ none → ⊥) → (size : ℕ) × (from_object h.next h.line.members ≡ member h.next size ∷ drop 1 (from_object h.next h.line.members))
some h held none is other = some-ahead h held (ne_eqb h.next h.line.objects (λ same. other (same ∙ sym is)))

pub returns-then-next-none-clause-cut : goal.returns-then-next-none-clause-cut
returns-then-next-none-clause-cut c = none-look c.args.self.now c.requires.held (c.if-next-none.true ∙ c.none.ensures)

pub take_out-requires-clause-there : goal.take_out-requires-clause-there
take_out-requires-clause-there c =
    let h = c.args.self.now in
    let first = some h c.requires.held c.none.result c.none.ensures c.if-next-none.false in
    there h c.requires.held first.0 first.1

pub returns-then-get-lt-MARKED-clause-cut : goal.returns-then-get-lt-MARKED-clause-cut
returns-then-get-lt-MARKED-clause-cut c =
    let h = c.args.self.now in
    let first = some h c.requires.held c.none.result c.none.ensures c.if-next-none.false in
    dropped-cut h c.requires.held first.0 first.1 (ap (leb 2) (sym c.get.ensures) ∙ lt-leb 2 c.get.result c.if-get-lt-MARKED.true) (cut_at c.take_out.new.self) c.take_out.ensures.behind c.take_out.ensures.ahead

pub after-self-requires : goal.after-self-requires
after-self-requires c =
    let h = c.args.self.now in
    let first = some h c.requires.held c.none.result c.none.ensures c.if-next-none.false in
    record { there = sym (held-line h c.requires.held h.next) ∙ there h c.requires.held first.0 first.1 }

-- the hand past the next
abbrev passed : goal.After-self-1 → Hand
passed c = record { line = c.args.self.now.line; next = c.after-self.result; table = c.set.new.self }

pub returns-clause-cut : goal.returns-clause-cut
returns-clause-cut c =
    let h = c.args.self.now in
    let first = some h c.requires.held c.none.result c.none.ensures c.if-next-none.false in
    pass-cut h c.requires.held first.0 first.1 (ap (leb 2) (sym c.get.ensures) ∙ le-leb 2 c.get.result c.if-get-lt-MARKED.false) (passed c) c.set.ensures refl c.after-self.ensures

pub returns-clause-freed : goal.returns-clause-freed
returns-clause-freed c = omega (arith, cut-size c.args.self.now, cut-size (passed c))

pub returns-clause-held : goal.returns-clause-held
returns-clause-held c =
    let h = c.args.self.now in
    let first = some h c.requires.held c.none.result c.none.ensures c.if-next-none.false in
    pass-hand h c.requires.held first.0 first.1 (ap (leb 2) (sym c.get.ensures) ∙ le-leb 2 c.get.result c.if-get-lt-MARKED.false) (passed c) c.set.ensures refl c.after-self.ensures

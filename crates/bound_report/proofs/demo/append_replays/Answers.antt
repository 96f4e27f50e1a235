use Rattle.std.proofs.Common.{◌≡◌, ◌∙◌, ℕ, List, [], ◌++◌, ap, append_assoc, append-nil}
use Rattle.cache_model.specs.Texts.{line}
use Rattle.policy_model.specs.declared.names.PolicyName.TheVariants.{Lru, Fifo, Clock, Lfu, Belady}
use Rattle.bound_report.specs.Demos.{replay_line}
use Rattle.bound_report.proofs.demo.append_replays.Goals as goal

-- five pieces, appended one by one
five_pieces : (t a b c d e t1 t2 t3 t4 t5 : List ℕ) → t1 ≡ t ++ a → t2 ≡ t1 ++ b → t3 ≡ t2 ++ c → t4 ≡ t3 ++ d → t5 ≡ t4 ++ e → t5 ≡ t ++ (a ++ (b ++ (c ++ (d ++ (e ++ [])))))
five_pieces t a b c d e t1 t2 t3 t4 t5 is1 is2 is3 is4 is5 = rw (is5, is4, is3, is2, is1, append-nil e) (simp append_assoc)

pub returns : goal.returns
returns c =
    let r = c.args.replays.now in
    let text = c.args.text.now.items in
    let t1 = c.append.new.text.items in
    let t2 = c.append-2.new.text.items in
    let t3 = c.append-3.new.text.items in
    let t4 = c.append-4.new.text.items in
    five_pieces text (line (replay_line Lru r.lru)) (line (replay_line Fifo r.fifo)) (line (replay_line Clock r.clock)) (line (replay_line Lfu r.lfu)) (line (replay_line Belady r.belady))
    t1 t2 t3 t4 c.append-5.new.text.items
    (c.in_ok-append.ensures.text ∙ ap (λ l. text ++ l) c.replay_line.ensures)
    (c.in_ok-append-2.ensures.text ∙ ap (λ l. t1 ++ l) c.replay_line-2.ensures)
    (c.in_ok-append-3.ensures.text ∙ ap (λ l. t2 ++ l) c.replay_line-3.ensures)
    (c.in_ok-append-4.ensures.text ∙ ap (λ l. t3 ++ l) c.replay_line-4.ensures)
    (c.in_ok-append-5.ensures.text ∙ ap (λ l. t4 ++ l) c.replay_line-5.ensures)

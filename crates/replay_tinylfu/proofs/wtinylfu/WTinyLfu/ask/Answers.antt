use Rattle.std.proofs.Common.{◌≡◌, ◌∙◌, sym, refl, ap, subst, true, false, length, None, All, arith}
use Rattle.policy_model.specs.States.{has_entry, members_of, IsFit}
use Rattle.policy_model.specs.WTinyLfu.{Segments, Frequencies, window_part, main_part, protected_part, with_request, hit_in, missed_in, segment_entries}
use Rattle.replay_core.specs.declared.policy.Outcome.TheVariants.{Hit, Miss}
use Rattle.replay_core.specs.Keeping.{Kept, contents_of}
use Rattle.replay_core.proofs.Kept.{fit-sound}
use Rattle.replay_tinylfu.specs.Counts.{Counted}
use Rattle.replay_tinylfu.specs.Queues.{Queues, plain_entry}
use Rattle.replay_tinylfu.specs.TinyKept.{kept_of}
use Rattle.replay_tinylfu.proofs.TinyAnswers.{on-err, hit-answers, large-answers, miss-answers, tinylfu-after, from_view}
use Rattle.replay_tinylfu.proofs.wtinylfu.WTinyLfu.ask.Goals as goal

pub invariant_of-self : goal.invariant_of-self
invariant_of-self c =
    let p = c.self.inside in
    let f : Frequencies = p.counts.frequencies in
    let q : Segments = p.ring.segments in
    let there : has_entry (segment_entries q) c.args.object ≡ true = sym c.holds.ensures.there ∙ c.if-holds.true in
    let counted : c.note.new.self.frequencies ≡ with_request (length (segment_entries q)) c.args.object f =
    ap (λ (x : Counted). x.frequencies) c.note.ensures.counts ∙ ap (λ n. with_request n c.args.object f) c.len.ensures.len in
    let moved : c.hit.new.ring.segments ≡ hit_in (protected_part p.capacity) c.args.object q =
    ap (λ (x : Queues). x.segments) c.hit.ensures ∙ ap (λ n. hit_in n c.args.object q) c.protected_room.ensures in
    let sizes : All (λ m. m.object ≡ c.args.object → m.size ≡ c.args.size) (members_of (segment_entries q)) =
    subst (λ (k : Kept). All (λ m. m.object ≡ c.args.object → m.size ≡ c.args.size) (contents_of k)) (sym c.self.view_is) c.requires.kept_size in
    tinylfu-after p.objects p.capacity p.requests f q c.args.object c.args.size p.counts p.ring c.self.invariant refl refl sizes c.note.new.self.frequencies c.hit.new.ring.segments Hit
    (hit-answers p.objects p.capacity p.requests f q c.args.object c.args.size c.note.new.self.frequencies c.hit.new.ring.segments there counted moved None) c.note.new.self c.hit.new.ring
    (omega (arith, ap (λ (x : Counted). x.objects) c.note.ensures.counts, c.self.invariant.counted, ap (λ (x : Queues). x.objects) c.hit.ensures)) (omega (arith, ap (λ (x : Counted). x.objects) c.note.ensures.counts, c.self.invariant.within)) refl refl c.note.ensures.room

pub returns-then-holds-clause-answers : goal.returns-then-holds-clause-answers
returns-then-holds-clause-answers c =
    let p = c.self.inside in
    let f : Frequencies = p.counts.frequencies in
    let q : Segments = p.ring.segments in
    let there : has_entry (segment_entries q) c.args.object ≡ true = sym c.holds.ensures.there ∙ c.if-holds.true in
    let counted : c.note.new.self.frequencies ≡ with_request (length (segment_entries q)) c.args.object f =
    ap (λ (x : Counted). x.frequencies) c.note.ensures.counts ∙ ap (λ n. with_request n c.args.object f) c.len.ensures.len in
    let moved : c.hit.new.ring.segments ≡ hit_in (protected_part p.capacity) c.args.object q =
    ap (λ (x : Queues). x.segments) c.hit.ensures ∙ ap (λ n. hit_in n c.args.object q) c.protected_room.ensures in
    from_view c.args.self.now p.objects p.capacity p.requests c.saturating_add-requests.result f c.note.new.self.frequencies q c.hit.new.ring.segments c.args.object c.args.size Hit c.self.view_is c.saturating_add-requests.ensures
    (hit-answers p.objects p.capacity p.requests f q c.args.object c.args.size c.note.new.self.frequencies c.hit.new.ring.segments there counted moved)

pub returns-then-holds-clause-fits : goal.returns-then-holds-clause-fits
returns-then-holds-clause-fits c = let fits = (invariant_of-self c).fits in fit-sound c.self.inside.capacity (segment_entries c.hit.new.ring.segments) fits

pub returns-then-size-self-clause-answers : goal.returns-then-size-self-clause-answers
returns-then-size-self-clause-answers c =
    let p = c.self.inside in
    let none : has_entry (segment_entries p.ring.segments) c.args.object ≡ false = sym c.holds.ensures.there ∙ c.if-holds.false in
    from_view c.args.self.now p.objects p.capacity p.requests c.saturating_add-requests.result p.counts.frequencies p.counts.frequencies p.ring.segments p.ring.segments c.args.object c.args.size Miss c.self.view_is
    c.saturating_add-requests.ensures
    (large-answers p.objects p.capacity p.requests p.counts.frequencies p.ring.segments c.args.object c.args.size none c.if-size-self.true)

pub returns-then-size-self-clause-fits : goal.returns-then-size-self-clause-fits
returns-then-size-self-clause-fits c = fit-sound c.self.inside.capacity (segment_entries c.self.inside.ring.segments) c.self.invariant.fits

pub invariant_of-self-2 : goal.invariant_of-self-2
invariant_of-self-2 c =
    let p = c.self.inside in
    let f : Frequencies = p.counts.frequencies in
    let q : Segments = p.ring.segments in
    let g : Frequencies = c.note-2.new.self.frequencies in
    let none : has_entry (segment_entries q) c.args.object ≡ false = sym c.holds.ensures.there ∙ c.if-holds.false in
    let counted : g ≡ with_request (length (segment_entries q)) c.args.object f =
    ap (λ (x : Counted). x.frequencies) c.note-2.ensures.counts ∙ ap (with_request c.len-2.result c.args.object) c.reach.ensures.frequencies
    ∙ ap (λ n. with_request n c.args.object f) (c.len-2.ensures.len ∙ ap (λ (s : Segments). length (segment_entries s)) c.reach.ensures.segments) in
    let moved : c.miss.new.ring.segments ≡ missed_in (window_part p.capacity) (main_part p.capacity) g.counts (plain_entry c.args.object c.args.size) q =
    ap (λ (x : Queues). x.segments) c.miss.ensures ∙ ap (missed_in c.window_room-window.result c.main_room-main.result g.counts (plain_entry c.args.object c.args.size)) c.reach.ensures.segments
    ∙ ap (λ n. missed_in n c.main_room-main.result g.counts (plain_entry c.args.object c.args.size) q) c.window_room-window.ensures
    ∙ ap (λ n. missed_in (window_part p.capacity) n g.counts (plain_entry c.args.object c.args.size) q) c.main_room-main.ensures in
    let sizes : All (λ m. m.object ≡ c.args.object → m.size ≡ c.args.size) (members_of (segment_entries q)) =
    subst (λ (k : Kept). All (λ m. m.object ≡ c.args.object → m.size ≡ c.args.size) (contents_of k)) (sym c.self.view_is) c.requires.kept_size in
    tinylfu-after p.objects p.capacity p.requests f q c.args.object c.args.size p.counts p.ring c.self.invariant refl refl sizes g c.miss.new.ring.segments Miss
    (miss-answers p.objects p.capacity p.requests f q c.args.object c.args.size none c.if-size-self.false g c.miss.new.ring.segments counted moved None) c.note-2.new.self c.miss.new.ring
    (omega (arith, ap (λ (x : Counted). x.objects) c.note-2.ensures.counts, c.reach.ensures.counted, ap (λ (x : Queues). x.objects) c.miss.ensures)) (omega (arith, ap (λ (x : Counted). x.objects) c.note-2.ensures.counts, c.reach.ensures.within)) refl refl c.note-2.ensures.room

pub returns-clause-answers : goal.returns-clause-answers
returns-clause-answers c =
    let p = c.self.inside in
    let f : Frequencies = p.counts.frequencies in
    let q : Segments = p.ring.segments in
    let g : Frequencies = c.note-2.new.self.frequencies in
    let none : has_entry (segment_entries q) c.args.object ≡ false = sym c.holds.ensures.there ∙ c.if-holds.false in
    let counted : g ≡ with_request (length (segment_entries q)) c.args.object f =
    ap (λ (x : Counted). x.frequencies) c.note-2.ensures.counts ∙ ap (with_request c.len-2.result c.args.object) c.reach.ensures.frequencies
    ∙ ap (λ n. with_request n c.args.object f) (c.len-2.ensures.len ∙ ap (λ (s : Segments). length (segment_entries s)) c.reach.ensures.segments) in
    let moved : c.miss.new.ring.segments ≡ missed_in (window_part p.capacity) (main_part p.capacity) g.counts (plain_entry c.args.object c.args.size) q =
    ap (λ (x : Queues). x.segments) c.miss.ensures ∙ ap (missed_in c.window_room-window.result c.main_room-main.result g.counts (plain_entry c.args.object c.args.size)) c.reach.ensures.segments
    ∙ ap (λ n. missed_in n c.main_room-main.result g.counts (plain_entry c.args.object c.args.size) q) c.window_room-window.ensures
    ∙ ap (λ n. missed_in (window_part p.capacity) n g.counts (plain_entry c.args.object c.args.size) q) c.main_room-main.ensures in
    from_view c.args.self.now p.objects p.capacity p.requests c.saturating_add-requests.result f g q c.miss.new.ring.segments c.args.object c.args.size Miss c.self.view_is c.saturating_add-requests.ensures
    (miss-answers p.objects p.capacity p.requests f q c.args.object c.args.size none c.if-size-self.false g c.miss.new.ring.segments counted moved)

pub returns-clause-fits : goal.returns-clause-fits
returns-clause-fits c = let fits = (invariant_of-self-2 c).fits in fit-sound c.self.inside.capacity (segment_entries c.miss.new.ring.segments) fits

pub returns-in_err-reach-clause-fits : goal.returns-in_err-reach-clause-fits
returns-in_err-reach-clause-fits c =
    let p = c.self.inside in
    fit-sound p.capacity (segment_entries c.reach.new.ring.segments) (subst (λ (s : Segments). IsFit p.capacity (segment_entries s)) (sym c.reach.ensures.segments) c.self.invariant.fits)

pub returns-in_err-reach-clause-kept : goal.returns-in_err-reach-clause-kept
returns-in_err-reach-clause-kept c =
    let p = c.self.inside in
    on-err c.from_residual.result (kept_of p.objects p.capacity p.requests c.reach.new.counts.frequencies c.reach.new.ring.segments ≡ c.args.self.now)
    (ap (λ (s : Segments). kept_of p.objects p.capacity p.requests c.reach.new.counts.frequencies s) c.reach.ensures.segments
    ∙ ap (λ (f : Frequencies). kept_of p.objects p.capacity p.requests f p.ring.segments) c.reach.ensures.frequencies ∙ c.self.view_is)

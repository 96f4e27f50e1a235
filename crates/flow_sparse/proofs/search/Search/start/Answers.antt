use Rattle.std.proofs.Common.{◌≡◌, ◌∙◌, ap, subst, sym, set}
use Rattle.flow_parts.specs.Queues.{Waiting, Joins}
use Rattle.flow_sparse.specs.Searches.{Found, IsAimed, far}
use Rattle.flow_sparse.proofs.Distances.{started}
use Rattle.flow_sparse.proofs.search.Search.start.Goals as goal

pub returns-clause-search : goal.returns-clause-search
returns-clause-search c =
    let n = c.args.network.now in
    let old : Found = c.args.self.now in
    let low : Found = c.place.new.self in
    let mid : Found = c.aim.new.self in
    let new : Found = c.enqueue.new.self in
    let distances : new.distances ≡ set old.distances c.args.first 0 = ap (λ (f : Found). f.distances) c.enqueue.ensures.rest ∙ ap (λ (f : Found). f.distances) c.aim.ensures.rest ∙ ap (λ (f : Found). f.distances) c.place.ensures in
    let parents : new.parents ≡ old.parents = ap (λ (f : Found). f.parents) c.enqueue.ensures.rest ∙ ap (λ (f : Found). f.parents) c.aim.ensures.rest ∙ ap (λ (f : Found). f.parents) c.place.ensures in
    let waiting : mid.waiting ≡ old.waiting = ap (λ (f : Found). f.waiting) c.aim.ensures.rest ∙ ap (λ (f : Found). f.waiting) c.place.ensures in
    let aimed : IsAimed n far old.goal new.distances c.args.first new.limit new.goal =
    subst (λ (f : Found). IsAimed n far old.goal f.distances c.args.first f.limit f.goal) (sym c.enqueue.ensures.rest)
    (subst (λ (f : Found). IsAimed n f.limit f.goal mid.distances c.args.first mid.limit mid.goal) c.place.ensures c.aim.ensures.aimed) in
    (started n c.args.first old new c.requires.idle c.requires.within c.requires.far_off distances parents aimed (subst (λ (w : Waiting). Joins w new.waiting c.args.first) waiting c.enqueue.ensures.joins) c.enqueue.ensures.queue).0

pub returns-clause-far_off : goal.returns-clause-far_off
returns-clause-far_off c =
    let n = c.args.network.now in
    let old : Found = c.args.self.now in
    let mid : Found = c.aim.new.self in
    let new : Found = c.enqueue.new.self in
    let distances : new.distances ≡ set old.distances c.args.first 0 = ap (λ (f : Found). f.distances) c.enqueue.ensures.rest ∙ ap (λ (f : Found). f.distances) c.aim.ensures.rest ∙ ap (λ (f : Found). f.distances) c.place.ensures in
    let parents : new.parents ≡ old.parents = ap (λ (f : Found). f.parents) c.enqueue.ensures.rest ∙ ap (λ (f : Found). f.parents) c.aim.ensures.rest ∙ ap (λ (f : Found). f.parents) c.place.ensures in
    let waiting : mid.waiting ≡ old.waiting = ap (λ (f : Found). f.waiting) c.aim.ensures.rest ∙ ap (λ (f : Found). f.waiting) c.place.ensures in
    let aimed : IsAimed n far old.goal new.distances c.args.first new.limit new.goal =
    subst (λ (f : Found). IsAimed n far old.goal f.distances c.args.first f.limit f.goal) (sym c.enqueue.ensures.rest)
    (subst (λ (f : Found). IsAimed n f.limit f.goal mid.distances c.args.first mid.limit mid.goal) c.place.ensures c.aim.ensures.aimed) in
    (started n c.args.first old new c.requires.idle c.requires.within c.requires.far_off distances parents aimed (subst (λ (w : Waiting). Joins w new.waiting c.args.first) waiting c.enqueue.ensures.joins) c.enqueue.ensures.queue).1

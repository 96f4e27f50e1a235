-- What the rules leave behind: queues that are in order, of which letting go of what is not held changes nothing.
use Rattle.std.proofs.Common.{◌≡◌, ℕ, ◌+◌, ◌*◌, ◌∙◌, sym, refl, ap, subst, Bool, true, false, cond, eqb, leb, List, [], ◌∷◌, ◌++◌, length, drop, None}
use Rattle.std.specs.declared.option.Option.{Option}
use Rattle.std.proofs.lemmas.List.{length-map}
use Rattle.std.proofs.Math.Seq.{take-append_seam, drop-append_seam}
use Rattle.policy_model.specs.declared.names.PolicyName.{PolicyName}
use Rattle.policy_model.specs.declared.names.PolicyName.TheVariants.{Sieve, S3Fifo, WTinyLfu}
use Rattle.policy_model.specs.States.{Entry, Stock, State, has_entry, nothing_beside}
use Rattle.policy_model.specs.Steps.{until_fits, without_entry, touched, touch, fresh_entry}
use Rattle.policy_model.specs.Sieve.{Cut, begin_again, look, cut_used, cut_of, come_in, stock_of_cut}
use Rattle.policy_model.specs.S3Fifo.{Queues, shrink, queues_used, enter, queues_of, stock_of_queues}
use Rattle.policy_model.specs.WTinyLfu.{Main, Segments, Frequencies, window_part, main_part, protected_part, with_request, hit_in, missed_in, main_of, segments_of, frequencies_of, stock_of_segments}
use Rattle.policy_model.specs.Rules.{stock_after, policy_step}
use Rattle.policy_model.specs.Leaving.{cut_without, queues_without, segments_without, stock_without, let_go}
use Rattle.policy_model.proofs.Entries.{without-none}
use Rattle.policy_model.proofs.Leavings.{absent-left, absent-right, segments-none}

-- what is kept is that of queues, and the hand has an entry ahead if there is one
abbrev pub IsSettled : PolicyName → Stock → Type 0
IsSettled Sieve kept = (c : Cut) × (stock_of_cut c ≡ kept) × (c.ahead ≡ [] → c.behind ≡ [])
IsSettled S3Fifo kept = (q : Queues) × (stock_of_queues q ≡ kept)
IsSettled WTinyLfu kept = (f : Frequencies) × (q : Segments) × (stock_of_segments f q ≡ kept)
IsSettled name kept = Unit {0}

-- what a state keeps
abbrev pub stock_of : State → Stock
stock_of s = record { entries = s.entries; beside = s.beside }

-- a state that keeps something else
abbrev keeping : State → Stock → State
keeping s kept = record s { entries = kept.entries; beside = kept.beside }

-- ---- what the rules leave
begun : (behind ahead : List Entry) → (begin_again behind ahead).ahead ≡ [] → (begin_again behind ahead).behind ≡ []
begun behind [] none = refl
begun behind (e ∷ ahead) none = cc

touch-append : (name : PolicyName) (now : ℕ) (next : Option ℕ) (k : ℕ) (xs ys : List Entry) → touch name now next k (xs ++ ys) ≡ touch name now next k xs ++ touch name now next k ys
touch-append name now next k [] ys = refl
touch-append name now next k (e ∷ xs) ys = ap (λ es. cond (eqb e.object k) (touched name now next e) e ∷ es) (touch-append name now next k xs ys)

nothing-touched : (name : PolicyName) (now : ℕ) (next : Option ℕ) (k : ℕ) (behind ahead : List Entry) → (ahead ≡ [] → behind ≡ []) → touch name now next k ahead ≡ [] → touch name now next k behind ≡ []
nothing-touched name now next k behind [] settled none = ap (touch name now next k) (settled refl)
nothing-touched name now next k behind (e ∷ ahead) settled none = cc

some-last : (xs ys : List Entry) (e : Entry) → xs ++ e ∷ [] ≡ [] → ys ≡ []
some-last [] ys e none = cc
some-last (f ∷ xs) ys e none = cc

-- a policy that has had no request
pub settled-start : (name : PolicyName) → IsSettled name (record { entries = []; beside = nothing_beside })
settled-start Sieve = (record { behind = []; ahead = [] }, refl, λ _. refl)
settled-start S3Fifo = (record { small = []; main = []; ghosts = [] }, refl)
settled-start WTinyLfu = (record { counts = []; asked = 0 }, record { window = []; main = record { probation = []; protected = [] } }, refl)
settled-start name = tt

module _ (s : State) where
  -- ---- a request
  module _ (object size : ℕ) (next : Option ℕ) where
    settled-served : (name : PolicyName) (hit miss : Stock) → IsSettled name (stock_of s) → IsSettled name hit → IsSettled name miss
        → IsSettled name (cond (has_entry s.entries object) hit (cond (leb size s.capacity) miss (stock_of s)))
    settled-served name hit miss same of_hit of_miss = at (has_entry s.entries object) (leb size s.capacity)
      where
        at : (there small : Bool) → IsSettled name (cond there hit (cond small miss (stock_of s)))
        at true small = of_hit
        at false true = of_miss
        at false false = same

    cut-touched : IsSettled Sieve (stock_of s) → IsSettled Sieve (record { entries = touch Sieve s.now None object s.entries; beside = s.beside })
    cut-touched (c, is, settled) = (
      record { behind = touch Sieve s.now None object c.behind; ahead = touch Sieve s.now None object c.ahead },
      subst (λ (x : Stock). stock_of_cut (record { behind = touch Sieve s.now None object c.behind; ahead = touch Sieve s.now None object c.ahead }) ≡ record { entries = touch Sieve s.now None object x.entries; beside = x.beside }) is
          (ap (λ n. record { entries = touch Sieve s.now None object c.behind ++ touch Sieve s.now None object c.ahead; beside = record nothing_beside { first = n } }) (length-map c.behind _)
          ∙ ap (λ es. record { entries = es; beside = record nothing_beside { first = length c.behind } }) (sym (touch-append Sieve s.now None object c.behind c.ahead))),
      nothing-touched Sieve s.now None object c.behind c.ahead settled,
    )

    queues-touched : IsSettled S3Fifo (stock_of s) → IsSettled S3Fifo (record { entries = touch S3Fifo s.now None object s.entries; beside = s.beside })
    queues-touched (q, is) = (
      record { small = touch S3Fifo s.now None object q.small; main = touch S3Fifo s.now None object q.main; ghosts = q.ghosts },
      subst (λ (x : Stock). stock_of_queues (record { small = touch S3Fifo s.now None object q.small; main = touch S3Fifo s.now None object q.main; ghosts = q.ghosts }) ≡ record { entries = touch S3Fifo s.now None object x.entries; beside = x.beside }) is
          (ap (λ n. record { entries = touch S3Fifo s.now None object q.small ++ touch S3Fifo s.now None object q.main; beside = record nothing_beside { first = n; ghosts = q.ghosts } }) (length-map q.small _)
          ∙ ap (λ es. record { entries = es; beside = record nothing_beside { first = length q.small; ghosts = q.ghosts } }) (sym (touch-append S3Fifo s.now None object q.small q.main))),
    )

    abbrev missed_cut : Cut
    missed_cut = come_in (fresh_entry Sieve s.now object size None) (until_fits look cut_used s.capacity size (2 * length s.entries + 1) (cut_of s))

    abbrev missed_queues : Queues
    missed_queues = enter (fresh_entry S3Fifo s.now object size None) (until_fits (shrink s.capacity) queues_used s.capacity size (2 * length s.entries) (queues_of s))

    abbrev then : Frequencies
    then = with_request (length s.entries) object (frequencies_of s)

    abbrev hit_segments : Segments
    hit_segments = hit_in (protected_part s.capacity) object (segments_of s)

    abbrev missed_segments : Segments
    missed_segments = missed_in (window_part s.capacity) (main_part s.capacity) then.counts (fresh_entry WTinyLfu s.now object size None) (segments_of s)

    stock-settled : (name : PolicyName) → IsSettled name (stock_of s) → IsSettled name (stock_after name s object size next)
    stock-settled Sieve is =
        let left : Cut = until_fits look cut_used s.capacity size (2 * length s.entries + 1) (cut_of s) in
        settled-served Sieve (record { entries = touch Sieve s.now None object s.entries; beside = s.beside }) (stock_of_cut missed_cut) is (cut-touched is)
        (missed_cut, refl, some-last left.ahead left.behind (fresh_entry Sieve s.now object size None))
    stock-settled S3Fifo is =
        settled-served S3Fifo (record { entries = touch S3Fifo s.now None object s.entries; beside = s.beside }) (stock_of_queues missed_queues) is (queues-touched is) (missed_queues, refl)
    stock-settled WTinyLfu is =
        settled-served WTinyLfu (stock_of_segments then hit_segments) (stock_of_segments then missed_segments) is (then, hit_segments, refl) (then, missed_segments, refl)
    stock-settled name is = tt

    pub settled-step : IsSettled s.name (stock_of s) → IsSettled s.name (stock_of (policy_step s object size next).after)
    settled-step is = stock-settled s.name is

  -- the segments of what is kept of them
  pub segments-kept : (f : Frequencies) (q : Segments) → segments_of (keeping s (stock_of_segments f q)) ≡ q
  segments-kept f q =
      let rest : List Entry = q.main.probation ++ q.main.protected in
      let of : List Entry → Main → Segments = λ w m. record { window = w; main = m } in
      let main : List Entry → List Entry → Main = λ p t. record { probation = p; protected = t } in
      ap (λ es. of es (main_of (length q.main.probation) (drop (length q.window) (q.window ++ rest)))) (take-append_seam q.window rest)
      ∙ ap (λ es. of q.window (main_of (length q.main.probation) es)) (drop-append_seam q.window rest)
      ∙ ap (λ es. of q.window (main es (drop (length q.main.probation) rest))) (take-append_seam q.main.probation q.main.protected)
      ∙ ap (λ es. of q.window (main q.main.probation es)) (drop-append_seam q.main.probation q.main.protected)

  -- ---- an object that is let go of
  module _ (k : ℕ) where
    without-settled : (name : PolicyName) → IsSettled name (stock_without name s k)
    without-settled Sieve = (cut_without k (cut_of s), refl, begun (without_entry k (cut_of s).behind) (without_entry k (cut_of s).ahead))
    without-settled S3Fifo = (queues_without k (queues_of s), refl)
    without-settled WTinyLfu = (frequencies_of s, segments_without k (segments_of s), refl)
    without-settled name = tt

    pub settled-let_go : IsSettled s.name (stock_of (let_go s k))
    settled-let_go = without-settled s.name

    -- ---- one that is not held
    again-same : (behind ahead : List Entry) → (ahead ≡ [] → behind ≡ []) → begin_again behind ahead ≡ record { behind = behind; ahead = ahead }
    again-same behind [] settled =
        let none : behind ≡ [] = settled refl in
        let of : List Entry → List Entry → Cut = λ b a. record { behind = b; ahead = a } in
        ap (of []) none ∙ ap (λ b. of b []) (sym none)
    again-same behind (e ∷ ahead) settled = refl

    cut-none : (c : Cut) → (c.ahead ≡ [] → c.behind ≡ []) → has_entry (c.behind ++ c.ahead) k ≡ false → stock_without Sieve (keeping s (stock_of_cut c)) k ≡ stock_of_cut c
    cut-none c settled none =
        let of : List Entry → List Entry → Stock = λ b a. stock_of_cut (begin_again (without_entry k b) (without_entry k a)) in
        ap (λ es. of es (drop (length c.behind) (c.behind ++ c.ahead))) (take-append_seam c.behind c.ahead)
        ∙ ap (of c.behind) (drop-append_seam c.behind c.ahead)
        ∙ ap (λ es. stock_of_cut (begin_again es (without_entry k c.ahead))) (without-none k c.behind (absent-left k c.behind c.ahead none))
        ∙ ap (λ es. stock_of_cut (begin_again c.behind es)) (without-none k c.ahead (absent-right k c.behind c.ahead none))
        ∙ ap stock_of_cut (again-same c.behind c.ahead settled)

    queues-none : (q : Queues) → has_entry (q.small ++ q.main) k ≡ false → stock_without S3Fifo (keeping s (stock_of_queues q)) k ≡ stock_of_queues q
    queues-none q none =
        let of : List Entry → List Entry → Stock = λ b a. stock_of_queues (record { small = b; main = a; ghosts = q.ghosts }) in
        ap (λ es. of (without_entry k es) (without_entry k (drop (length q.small) (q.small ++ q.main)))) (take-append_seam q.small q.main)
        ∙ ap (λ es. of (without_entry k q.small) (without_entry k es)) (drop-append_seam q.small q.main)
        ∙ ap (λ es. of es (without_entry k q.main)) (without-none k q.small (absent-left k q.small q.main none))
        ∙ ap (of q.small) (without-none k q.main (absent-right k q.small q.main none))

    abbrev SamePart : PolicyName → Stock → Type 0
    SamePart name kept = has_entry kept.entries k ≡ false → stock_without name (keeping s kept) k ≡ kept

    stock-none : (name : PolicyName) → IsSettled name (stock_of s) → SamePart name (stock_of s)
    stock-none Sieve (c, is, settled) = subst (SamePart Sieve) is (cut-none c settled)
    stock-none S3Fifo (q, is) = subst (SamePart S3Fifo) is (queues-none q)
    stock-none WTinyLfu (f, q, is) =
        subst (SamePart WTinyLfu) is (λ none. ap (λ r. stock_of_segments f (segments_without k r)) (segments-kept f q) ∙ ap (stock_of_segments f) (segments-none k q none))
    stock-none name is = λ none. ap (λ es. record { entries = es; beside = s.beside }) (without-none k s.entries none)

    -- letting go of it changes nothing
    pub let_go-none : IsSettled s.name (stock_of s) → has_entry s.entries k ≡ false → let_go s k ≡ s
    let_go-none is none = ap (keeping s) (stock-none s.name is none)

-- Objects that are let go of after small traces, computed.
use Rattle.std.proofs.Common.{◌≡◌, ℕ, List, [], ◌∷◌, map, refl, ◌^◌, None}
use Rattle.policy_model.specs.declared.names.PolicyName.{PolicyName}
use Rattle.policy_model.specs.declared.names.PolicyName.TheVariants.{Lru, Sieve, S3Fifo, Gdsf, WTinyLfu}
use Rattle.policy_model.specs.States.{State}
use Rattle.policy_model.specs.Sieve.{cut_of}
use Rattle.policy_model.specs.S3Fifo.{queues_of}
use Rattle.policy_model.specs.WTinyLfu.{segments_of}
use Rattle.policy_model.specs.Leaving.{let_go}
use Rattle.policy_model.specs.Rules.{policy_step}
use Rattle.policy_model.specs.Runs.{policy_run}

-- the state after requests of objects with these numbers and sizes
abbrev after : PolicyName → List (ℕ × ℕ) → ℕ → State
after name pairs capacity = (policy_run name (map (λ p. record { volume = 0; id = p.0; size = p.1 }) pairs) capacity 0 []).state

abbrev held : State → List ℕ
held s = map (λ e. e.object) s.entries

-- objects of one byte
abbrev small : List ℕ → List (ℕ × ℕ)
small ids = map (λ id. (id, 1)) ids

-- ---- LRU: the middle one, the latest, and one that is not held
abbrev recent : State
recent = after Lru (small (0 ∷ 1 ∷ 2 ∷ 0 ∷ [])) 3

recent_held : held recent ≡ 1 ∷ 2 ∷ 0 ∷ []
recent_held = refl

recent_middle : held (let_go recent 2) ≡ 1 ∷ 0 ∷ []
recent_middle = refl

recent_latest : held (let_go recent 0) ≡ 1 ∷ 2 ∷ []
recent_latest = refl

recent_none : let_go recent 7 ≡ recent
recent_none = refl

-- ---- SIEVE: what is behind the hand, and what is ahead of it
abbrev cut : State → List (List ℕ)
cut s = let c = cut_of s in map (λ e. e.object) c.behind ∷ map (λ e. e.object) c.ahead ∷ []

abbrev sieved : State
sieved = after Sieve (small (0 ∷ 1 ∷ 2 ∷ 0 ∷ 3 ∷ [])) 3

sieved_cut : cut sieved ≡ (0 ∷ []) ∷ (2 ∷ 3 ∷ []) ∷ []
sieved_cut = refl

sieved_behind : cut (let_go sieved 0) ≡ [] ∷ (2 ∷ 3 ∷ []) ∷ []
sieved_behind = refl

sieved_ahead : cut (let_go sieved 3) ≡ (0 ∷ []) ∷ (2 ∷ []) ∷ []
sieved_ahead = refl

-- the last one ahead leaves, and the hand begins again
sieved_last : cut (let_go (let_go sieved 2) 3) ≡ [] ∷ (0 ∷ []) ∷ []
sieved_last = refl

-- ---- S3-FIFO: the small queue, the main queue and the ghosts
abbrev queues : State → List (List ℕ)
queues s = let q = queues_of s in map (λ e. e.object) q.small ∷ map (λ e. e.object) q.main ∷ map (λ m. m.object) q.ghosts ∷ []

abbrev queued : State
queued = after S3Fifo (small (0 ∷ 1 ∷ 2 ∷ 3 ∷ [])) 3

queued_queues : queues queued ≡ (1 ∷ 2 ∷ 3 ∷ []) ∷ [] ∷ (0 ∷ []) ∷ []
queued_queues = refl

queued_small : queues (let_go queued 2) ≡ (1 ∷ 3 ∷ []) ∷ [] ∷ (0 ∷ []) ∷ []
queued_small = refl

-- a ghost stays one
queued_ghost : queues (let_go queued 0) ≡ (1 ∷ 2 ∷ 3 ∷ []) ∷ [] ∷ (0 ∷ []) ∷ []
queued_ghost = refl

-- one that came back is in the main queue, and leaves it as no ghost
queued_main : queues (let_go (policy_step (let_go queued 2) 0 1 None).after 0) ≡ (1 ∷ 3 ∷ []) ∷ [] ∷ [] ∷ []
queued_main = refl

-- ---- W-TinyLFU: the window, the objects on probation, the protected ones, and the counts
abbrev segments : State → List (List ℕ)
segments s =
    let q = segments_of s in
    map (λ e. e.object) q.window ∷ map (λ e. e.object) q.main.probation ∷ map (λ e. e.object) q.main.protected ∷ s.beside.counts ∷ []

abbrev frequent : State
frequent = after WTinyLfu (small (0 ∷ 1 ∷ 2 ∷ 3 ∷ 0 ∷ 4 ∷ [])) 300

frequent_segments : segments frequent ≡ (2 ∷ 3 ∷ 4 ∷ []) ∷ (1 ∷ []) ∷ (0 ∷ []) ∷ (2 ∷ 1 ∷ 1 ∷ 1 ∷ 1 ∷ []) ∷ []
frequent_segments = refl

frequent_window : segments (let_go frequent 3) ≡ (2 ∷ 4 ∷ []) ∷ (1 ∷ []) ∷ (0 ∷ []) ∷ (2 ∷ 1 ∷ 1 ∷ 1 ∷ 1 ∷ []) ∷ []
frequent_window = refl

frequent_probation : segments (let_go frequent 1) ≡ (2 ∷ 3 ∷ 4 ∷ []) ∷ [] ∷ (0 ∷ []) ∷ (2 ∷ 1 ∷ 1 ∷ 1 ∷ 1 ∷ []) ∷ []
frequent_probation = refl

frequent_protected : segments (let_go frequent 0) ≡ (2 ∷ 3 ∷ 4 ∷ []) ∷ (1 ∷ []) ∷ [] ∷ (2 ∷ 1 ∷ 1 ∷ 1 ∷ 1 ∷ []) ∷ []
frequent_protected = refl

-- ---- GDSF: the floor stays where it was when the last entry leaves
abbrev aged : State
aged = after Gdsf ((0, 1) ∷ (1, 9) ∷ (2, 10) ∷ []) 10

aged_held : held aged ≡ 2 ∷ []
aged_held = refl

aged_gone : held (let_go aged 2) ≡ []
aged_gone = refl

aged_floor : (let_go aged 2).beside.floor ≡ 2 ^ 48
aged_floor = refl

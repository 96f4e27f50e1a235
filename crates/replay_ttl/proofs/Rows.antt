-- Runs of rules with a time to live, computed.
use Rattle.std.proofs.Common.{◌≡◌, ℕ, Bool, true, false, List, [], ◌∷◌, map, replicate, refl}
use Rattle.cache_model.specs.declared.objects.Object.{Object}
use Rattle.policy_model.specs.declared.names.PolicyName.TheVariants.{Lru}
use Rattle.policy_model.specs.States.{start_of}
use Rattle.replay_ttl.specs.Runs.{Timed, ttl_contents, ttl_run}

abbrev object : ℕ → ℕ → Object
object id size = record { volume = 0; id = id; size = size }

-- one object, every two seconds
abbrev evenly : ℕ → List Bool → ℕ → Timed
evenly ttl fills warmup = record {
  trace = replicate 5 (object 0 1);
  fills = fills;
  times = 0 ∷ 2 ∷ 4 ∷ 6 ∷ 8 ∷ [];
  stale = [];
  ttl = ttl;
  replace = false;
  warmup = warmup;
}

-- the hits of the run of LRU over the first t requests
abbrev hits : Timed → ℕ → ℕ
hits r t = (ttl_run r (start_of Lru 2) t).run.hits

-- an age of exactly the ttl is fresh, and a hit renews nothing
evenly_hits : map (λ ttl. hits (evenly ttl [] 0) 5) (1 ∷ 2 ∷ 3 ∷ 4 ∷ 8 ∷ []) ≡ 0 ∷ 2 ∷ 2 ∷ 3 ∷ 4 ∷ []
evenly_hits = refl

-- the second and the fourth request hit, and the third and the fifth write anew
evenly_each : map (hits (evenly 3 [] 0)) (0 ∷ 1 ∷ 2 ∷ 3 ∷ 4 ∷ 5 ∷ []) ≡ 0 ∷ 0 ∷ 1 ∷ 1 ∷ 2 ∷ 2 ∷ []
evenly_each = refl

evenly_clocks : map (λ t. (ttl_run (evenly 3 [] 0) (start_of Lru 2) t).clocks) (0 ∷ 1 ∷ 2 ∷ 3 ∷ 4 ∷ 5 ∷ [])
    ≡ (0 ∷ []) ∷ (0 ∷ []) ∷ (0 ∷ []) ∷ (4 ∷ []) ∷ (4 ∷ []) ∷ (8 ∷ []) ∷ []
evenly_clocks = refl

-- a request that only fills writes anew what it keeps
evenly_filled : map (hits (evenly 3 (false ∷ true ∷ []) 0)) (0 ∷ 1 ∷ 2 ∷ 3 ∷ 4 ∷ 5 ∷ []) ≡ 0 ∷ 0 ∷ 0 ∷ 1 ∷ 1 ∷ 2 ∷ []
evenly_filled = refl

-- in the warm-up what is written counts as written, and no hit counts
evenly_late : map (λ warmup. hits (evenly 3 [] warmup) 5) (0 ∷ 1 ∷ 2 ∷ 3 ∷ 4 ∷ 5 ∷ []) ≡ 2 ∷ 2 ∷ 1 ∷ 1 ∷ 0 ∷ 0 ∷ []
evenly_late = refl

-- what is too old is held until it is asked for
evenly_contents : ttl_contents (evenly 1 [] 0) (start_of Lru 2) ≡ [] ∷ replicate 5 (object 0 1 ∷ [])
evenly_contents = refl

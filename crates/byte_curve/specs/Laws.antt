-- What distances in bytes say of LRU.
use Rattle.std.specs.Prelude.{◌≡◌, ℕ, Bool, List}
use Rattle.cache_model.specs.declared.objects.Object.{Object}
use Rattle.policy_model.specs.declared.names.PolicyName.TheVariants.{Lru}
use Rattle.policy_model.specs.Runs.{policy_run}
use Rattle.byte_curve.specs.Distances.{hits_within, bytes_within}

-- the hits of LRU, at every capacity, are the requests whose distance in bytes is within it, and so are their bytes
abbrev pub DistancesAreOfLru : Type 0
DistancesAreOfLru =
    (trace : List Object) (fills : List Bool) (capacity warmup : ℕ)
    → ((policy_run Lru trace capacity warmup fills).hits ≡ hits_within capacity warmup trace fills)
    × ((policy_run Lru trace capacity warmup fills).bytes ≡ bytes_within capacity warmup trace fills)

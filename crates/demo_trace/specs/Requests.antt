-- The requests of a demo.
use Rattle.std.specs.Prelude.{ℕ, zero, suc, ◌+◌, ◌*◌, ◌%◌, List, [], ◌∷◌, min}
use Rattle.rand_core.specs.Pcg32Seed.{pcg32_seed}
use Rattle.rand_pcg.specs.Lcg.{Lcg}
use Rattle.rand_pcg.specs.Pcg.{pcg32, pcg32_of_seed}
use Rattle.cache_model.specs.declared.objects.Object.{Object}

-- the object that two words of the generator ask for, among this number of objects: its id is the lesser of what they leave over, and its size follows from the id
abbrev pub object_drawn : ℕ → ℕ → ℕ → Object
object_drawn objects x y =
    let id = min (x % objects) (y % objects) in
    record { volume = 0; id = id; size = 1 + (id * 7919) % 4096 }

-- this number of requests, each of the object that the next two words of the generator ask for
abbrev pub requests_drawn : ℕ → ℕ → Lcg → List Object
requests_drawn objects zero generator = []
requests_drawn objects (suc more) generator =
    let x = pcg32 generator in
    let y = pcg32 x.1 in
    object_drawn objects x.0 y.0 ∷ requests_drawn objects more y.1

-- the generator of a seed
abbrev pub generator_of : ℕ → Lcg
generator_of seed = pcg32_of_seed (pcg32_seed 16 seed)

-- the requests of a demo
abbrev pub demo_requests : ℕ → ℕ → ℕ → List Object
demo_requests seed requests objects = requests_drawn objects requests (generator_of seed)

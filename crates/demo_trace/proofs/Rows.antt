-- Requests and lines worked out by hand, and the words of the generator by a program of their own.
use Rattle.std.proofs.Common.{◌≡◌, ℕ, [], ◌∷◌, codes, refl}
use Rattle.std.specs.Fmt.{digits}
use Rattle.rand_core.specs.Pcg32Seed.{pcg32_seed}
use Rattle.rand_core.specs.Steps.{u32_at, word_bytes}
use Rattle.cache_model.specs.declared.objects.Object.{Object}
use Rattle.demo_trace.specs.Lines.{webcache_text}
use Rattle.demo_trace.specs.Requests.{demo_requests, object_drawn}

abbrev ob : ℕ → ℕ → Object
ob id size = record { volume = 0; id = id; size = size }

-- the lesser remainder is the id
lesser : object_drawn 10 27 35 ≡ ob 5 2732
lesser = refl

-- a single object has size 1
single : object_drawn 1 4294967295 7 ≡ ob 0 1
single = refl

-- lines are numbered from 1
two_lines : webcache_text (ob 7 4 ∷ ob 0 10 ∷ []) ≡ codes "1 7 4\n2 0 10\n"
unfolding digits
two_lines = refl

-- the first requests of seed 1 among 200 objects
drawn : demo_requests 1 4 200 ≡ ob 14 275 ∷ ob 17 3552 ∷ ob 35 2734 ∷ ob 112 2193 ∷ []
unfolding pcg32_seed u32_at word_bytes
drawn = refl
